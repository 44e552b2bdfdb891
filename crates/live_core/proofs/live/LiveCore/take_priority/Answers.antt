use Rattle.std.proofs.Common.{◌≡◌, Bool, false, get_or, length-set, set, sym, ap, ◌∙◌, subst}
use Rattle.strong_apa.specs.State.{State, is_ready, task_count, priority_of}
use Rattle.strong_apa.specs.Certified.{HasCertificates}
use Rattle.live_core.specs.Live.{LiveData}
use Rattle.live_core.specs.Seen.{SeenData}
use Rattle.live_core.specs.Optimal.{IsOptimal}
use Rattle.live_core.proofs.ComingAndGoing.{optimal, kept_by_exchange}
use Rattle.live_core.proofs.Unsettled.{not_settled, same_with_exchange}
use Rattle.live_core.proofs.live.LiveCore.take_priority.Goals as goal

pub invariant_of-self : goal.invariant_of-self
invariant_of-self c =
    let s = c.self.inside.links in
    let t = c.args.t in
    let u = c.args.u in
    let kept = c.self.invariant in
    let changed = c.exchange_priorities.ensures.exchange in
    let absent : is_ready s t ≡ false = subst (λ (d : LiveData). is_ready d.links t ≡ false) (sym c.self.view_is) c.requires.absent in
    let free : is_ready s u ≡ false = kept.free_absent u
    (sym (subst (λ (b : Bool). b ≡ get_or c.self.inside.in_use.items u b) c.if-index.false c.index.ensures)) in
    record {
      state = c.exchange_priorities.ensures.valid;
      certificates = subst HasCertificates (sym changed) (kept_by_exchange s kept.state kept.certificates t u absent free);
      occupants = kept.occupants ∙ sym (ap (λ (x : State). x.on) changed);
      few = kept.few;
      slots = kept.slots ∙ sym (ap task_count changed ∙ length-set (set s.priorities t (priority_of s u)) u (priority_of s t)
          ∙ length-set s.priorities t (priority_of s u));
      free_absent = λ v free. ap (λ (x : State). is_ready x v) changed ∙ kept.free_absent v free;
      tasks = same_with_exchange c.self.inside.seen.table s c.exchange_priorities-2.new.self.table c.exchange_priorities.new.self t u
          kept.tasks (ap (λ (d : SeenData). d.table) c.exchange_priorities-2.ensures) changed;
      settled = not_settled c.exchange_priorities.new.self c.exchange_priorities-2.new.self
          (ap (λ (d : SeenData). d.is_settled) c.exchange_priorities-2.ensures);
    }

pub returns-clause-optimal : goal.returns-clause-optimal
returns-clause-optimal c = let kept = invariant_of-self c in optimal c.exchange_priorities.new.self kept.state kept.certificates

pub returns-then-index-clause-optimal : goal.returns-then-index-clause-optimal
returns-then-index-clause-optimal c = subst (λ (d : LiveData). IsOptimal d.links) c.self.view_is
    (optimal c.self.inside.links c.self.invariant.state c.self.invariant.certificates)
