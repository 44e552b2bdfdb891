use Rattle.std.proofs.Common.{◌≡◌, ℕ, List, Option, Some, sym, ap, ◌∙◌, subst, length}
use Rattle.live_core.specs.Live.{LiveData}
use Rattle.live_core.specs.Lost.{HelpsTask, state_held}
use Rattle.live_core.specs.MoveData.{MoveData}
use Rattle.live_core.specs.Seen.{IsLost}
use Rattle.live_core.proofs.Finding.{holders_of, held_is, lost_there, helps_task, table_has_same}
use Rattle.live_core.proofs.live.LiveCore.help_task.Goals as goal

abbrev IsLostBy : LiveData → ℕ → Type 0
IsLostBy d t = (on : List (Option ℕ)) × (d.holders ≡ Some on) × IsLost d.links (state_held d.links on) t

pub help-requires-clause-table : goal.help-requires-clause-table
help-requires-clause-table c =
    let lost = subst (λ (d : LiveData). IsLostBy d c.args.t) (sym c.self.view_is) c.requires in
    c.self.invariant.settled (held_is c.self.inside.seen lost.0 lost.1).0

pub help-requires-clause-lost : goal.help-requires-clause-lost
help-requires-clause-lost c =
    let lost = subst (λ (d : LiveData). IsLostBy d c.args.t) (sym c.self.view_is) c.requires in
    lost_there c.self.inside.links c.self.inside.seen c.args.t (help-requires-clause-table c) lost.0 lost.1 lost.2

pub help-requires-clause-processors : goal.help-requires-clause-processors
help-requires-clause-processors c = ap length c.self.invariant.occupants ∙ c.self.invariant.state.on_count

pub invariant_of-self : goal.invariant_of-self
invariant_of-self c =
    let kept = c.self.invariant in
    let table = c.help.ensures.helps.table in
    record {
      state = kept.state;
      certificates = kept.certificates;
      occupants = ap (λ (m : MoveData). m.occupants) c.stand_at.ensures;
      few = rw c.stand_at.ensures c.help.ensures.few;
      slots = kept.slots;
      free_absent = kept.free_absent;
      tasks = table_has_same c.self.inside.links c.help.new.self table;
      settled = λ settled. table;
    }

pub returns : goal.returns
returns c =
    let a = c.self.inside in
    let now = c.help.new.self in
    let after = c.stand_at.new.self.moves in
    let new : LiveData = record {
      links = a.links;
      last = a.last;
      moves = after;
      in_use = a.in_use.items;
      seen = now.seen;
      holders = holders_of now;
    } in
    let lost = subst (λ (d : LiveData). IsLostBy d c.args.t) (sym c.self.view_is) c.requires in
    let table = a.seen in
    let is_table = c.self.invariant.settled (held_is a.seen lost.0 lost.1).0 in
    subst (λ (d : LiveData). (on : List (Option ℕ)) → d.holders ≡ Some on → HelpsTask d on c.args.t new) c.self.view_is
    (helps_task a.links a.last a.moves.moves a.in_use.items a.seen now c.args.t is_table c.help.result after
    (rw (ap (λ (m : MoveData). m.moves) c.stand_at.ensures) c.help.ensures.helps) c.help.ensures.settled)
