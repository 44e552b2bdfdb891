use Rattle.std.proofs.Common.{◌≡◌, true, false, length-set, refl, sym, ap, ◌∙◌, subst}
use Rattle.strong_apa.specs.State.{State, is_ready}
use Rattle.live_core.specs.Live.{LiveData}
use Rattle.link_table.specs.Priorities.{IsFreeFor}
use Rattle.live_core.specs.Seen.{SeenData}
use Rattle.live_core.specs.Slots.{IsFreeSlot}
use Rattle.live_core.proofs.ComingAndGoing.{optimal, certified_after_admit, count_after_admit, free_after_admit}
use Rattle.live_core.proofs.Unsettled.{not_settled, same_then, same_of, same_with_priority, free_there}
use Rattle.live_core.proofs.live.LiveCore.occupy.Goals as goal

pub invariant_of-self : goal.invariant_of-self
invariant_of-self c =
    let s = c.self.inside.links in
    let t = c.args.t in
    let kept = c.self.invariant in
    let first = c.set_priority.ensures.priority in
    let second = c.set_mask.ensures.mask in
    let slot = subst (λ (d : LiveData). IsFreeSlot d.in_use t) (sym c.self.view_is) c.requires.slot.slot in
    let absent : is_ready s t ≡ false = kept.free_absent t slot.free in
    record {
      state = c.set_mask.ensures.valid;
      certificates =
          certified_after_admit s c.set_priority.new.self c.set_mask.new.self t c.args.priority c.args.mask kept.state kept.certificates
          absent first c.set_priority.ensures.valid second;
      occupants = kept.occupants ∙ sym (ap (λ (x : State). x.on) second ∙ ap (λ (x : State). x.on) first);
      few = kept.few;
      slots = length-set c.self.inside.in_use.items t true ∙ kept.slots
          ∙ sym (count_after_admit s c.set_priority.new.self c.set_mask.new.self t c.args.priority c.args.mask first second);
      free_absent = λ u free.
          ap (λ (x : State). is_ready x u) second
          ∙ ap (λ (x : State). is_ready x u) first
          ∙ free_after_admit s c.self.inside.in_use.items t slot.number kept.free_absent u free;
      tasks =
          same_of c.set_priority-2.new.self.table c.see.new.self.table c.set_mask.new.self (ap (λ (d : SeenData). d.table) c.see.ensures)
          (same_then c.set_priority-2.new.self.table c.set_priority.new.self c.set_mask.new.self
          (same_with_priority c.self.inside.seen.table s c.set_priority-2.new.self.table c.set_priority.new.self t c.args.priority
          kept.tasks (ap (λ (d : SeenData). d.table) c.set_priority-2.ensures) first)
          (rw second record { processors = refl; priorities = refl }));
      settled = not_settled c.set_mask.new.self c.see.new.self (ap (λ (d : SeenData). d.is_settled) c.see.ensures);
    }

pub set_priority-requires-2-clause-free : goal.set_priority-requires-2-clause-free
set_priority-requires-2-clause-free c =
    let is_new = subst (λ (d : LiveData). IsFreeFor d.links c.args.t c.args.priority) (sym c.self.view_is) c.requires.slot.is_new in
    free_there c.self.inside.seen.table c.self.inside.links c.args.t c.args.priority c.self.invariant.tasks is_new

pub returns-clause-optimal : goal.returns-clause-optimal
returns-clause-optimal c = let kept = invariant_of-self c in optimal c.set_mask.new.self kept.state kept.certificates
