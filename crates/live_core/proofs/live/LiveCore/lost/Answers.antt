use Rattle.std.proofs.Common.{subst}
use Rattle.live_core.specs.Live.{LiveData}
use Rattle.live_core.specs.Lost.{FindsLost}
use Rattle.live_core.proofs.Finding.{finds, holders_of, table_has_same}
use Rattle.live_core.proofs.live.LiveCore.lost.Goals as goal

pub settle-requires : goal.settle-requires
settle-requires c = record { tasks = c.self.invariant.tasks; table = c.self.invariant.settled }

pub lost-requires : goal.lost-requires
lost-requires c = c.settle.ensures.table

pub invariant_of-self : goal.invariant_of-self
invariant_of-self c =
    let kept = c.self.invariant in
    record {
      state = kept.state;
      certificates = kept.certificates;
      occupants = kept.occupants;
      few = kept.few;
      slots = kept.slots;
      free_absent = kept.free_absent;
      tasks = table_has_same c.self.inside.links c.settle.new.self c.settle.ensures.table;
      settled = λ settled. c.settle.ensures.table;
    }

pub returns : goal.returns
returns c =
    let a = c.self.inside in
    let now = c.settle.new.self in
    let new : LiveData = record {
      links = a.links;
      last = a.last;
      moves = a.moves.moves;
      in_use = a.in_use.items;
      seen = now.seen;
      holders = holders_of now;
    } in
    let said = c.settle.ensures in
    let found = c.lost.ensures in
    subst (λ (d : LiveData). FindsLost d c.lost.result new) c.self.view_is
    (finds a.links a.last a.moves.moves a.in_use.items a.seen now said.table said.seen said.settled said.same said.runs c.lost.result
    found.first found.apart found.soon (found.just_linked c.self.invariant.certificates))
