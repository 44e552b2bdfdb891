use Rattle.std.proofs.Common.{◌≡◌, false, length-set, sym, ap, ◌∙◌, subst}
use Rattle.strong_apa.specs.State.{State, is_ready, task_count}
use Rattle.strong_apa.specs.Certified.{HasCertificates}
use Rattle.link_table.specs.Priorities.{IsFreeFor}
use Rattle.live_core.specs.Live.{LiveData}
use Rattle.live_core.specs.Seen.{SeenData}
use Rattle.live_core.proofs.ComingAndGoing.{optimal, kept_by_priority}
use Rattle.live_core.proofs.Unsettled.{not_settled, same_with_priority, free_there}
use Rattle.live_core.proofs.live.LiveCore.write_priority.Goals as goal

pub invariant_of-self : goal.invariant_of-self
invariant_of-self c =
    let s = c.self.inside.links in
    let kept = c.self.invariant in
    let changed = c.set_priority.ensures.priority in
    let absent : is_ready s c.args.t ≡ false = subst (λ (d : LiveData). is_ready d.links c.args.t ≡ false) (sym c.self.view_is)
    c.requires.absent in
    record {
      state = c.set_priority.ensures.valid;
      certificates = subst HasCertificates (sym changed) (kept_by_priority s kept.state kept.certificates c.args.t c.args.priority absent);
      occupants = kept.occupants ∙ sym (ap (λ (x : State). x.on) changed);
      few = kept.few;
      slots = kept.slots ∙ sym (ap task_count changed ∙ length-set s.priorities c.args.t c.args.priority);
      free_absent = λ u free. ap (λ (x : State). is_ready x u) changed ∙ kept.free_absent u free;
      tasks = same_with_priority c.self.inside.seen.table s c.set_priority-2.new.self.table c.set_priority.new.self c.args.t c.args.priority
          kept.tasks (ap (λ (d : SeenData). d.table) c.set_priority-2.ensures) changed;
      settled =
          not_settled c.set_priority.new.self c.set_priority-2.new.self (ap (λ (d : SeenData). d.is_settled) c.set_priority-2.ensures);
    }

pub set_priority-requires-2-clause-free : goal.set_priority-requires-2-clause-free
set_priority-requires-2-clause-free c =
    let is_new = subst (λ (d : LiveData). IsFreeFor d.links c.args.t c.args.priority) (sym c.self.view_is) c.requires.is_new in
    free_there c.self.inside.seen.table c.self.inside.links c.args.t c.args.priority c.self.invariant.tasks is_new

pub returns-clause-optimal : goal.returns-clause-optimal
returns-clause-optimal c = let kept = invariant_of-self c in optimal c.set_priority.new.self kept.state kept.certificates
