use Rattle.std.proofs.Common.{◌≡◌, true, length, ap, ◌∙◌, sym, subst, ◌<◌, ℕ}
use Rattle.live_core.specs.Live.{LiveData}
use Rattle.live_core.specs.Seen.{SeenData}
use Rattle.live_core.specs.Slots.{is_in_use}
use Rattle.live_core.proofs.Finding.{in_use_number}
use Rattle.live_core.proofs.Unsettled.{not_settled, same_of}
use Rattle.live_core.proofs.live.LiveCore.see.Goals as goal

pub see-requires : goal.see-requires
see-requires c =
    let kept = c.self.invariant in
    let used = subst (λ (d : LiveData). is_in_use d c.args.t ≡ true) (sym c.self.view_is) c.requires in
    subst (λ (n : ℕ). c.args.t < n) (kept.slots ∙ ap length kept.tasks.priorities) (in_use_number c.self.inside.in_use.items c.args.t used)

pub invariant_of-self : goal.invariant_of-self
invariant_of-self c =
    let kept = c.self.invariant in
    record {
      state = kept.state;
      certificates = kept.certificates;
      occupants = kept.occupants;
      few = kept.few;
      slots = kept.slots;
      free_absent = kept.free_absent;
      tasks = same_of c.self.inside.seen.table c.see.new.self.table c.self.inside.links (ap (λ (d : SeenData). d.table) c.see.ensures)
          kept.tasks;
      settled = not_settled c.self.inside.links c.see.new.self (ap (λ (d : SeenData). d.is_settled) c.see.ensures);
    }
