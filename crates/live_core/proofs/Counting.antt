-- How many tasks are lost, and how many helps that takes.
use Rattle.std.proofs.Common.{ℕ, zero, suc, ◌<◌, ◌≤◌, true, false, not, ◌&&◌, refl, sym, ◌∙◌, arith}
use Rattle.std.proofs.lemmas.Bool.{and_parts}
use Rattle.std.proofs.lemmas.Option.{same_Some}
use Rattle.strong_apa.specs.State.{State, IsState, is_linked, task_count}
use Rattle.strong_apa.proofs.Counts.{count_below-injection, count_below-one_more, count_below-bound}
use Rattle.strong_apa.proofs.Linked.{place_in, task_on-linked, linked_number, occupied_number}
use Rattle.live_core.specs.Seen.{SeenData, IsLost, EndsWithin, lost_count}

-- no more than there are processors: each lost task is linked to one
pub lost_few : (s table : State) → IsState s → lost_count s table ≤ s.processors
lost_few s table ok =
    let fits = count_below-injection (λ t. is_linked s t && not (is_linked table t)) (task_count s) (λ p. true) s.processors
    (λ t. place_in t s.on) record {
      below = λ t lt h. occupied_number s (place_in t s.on) t ok (task_on-linked s t (and_parts _ _ h).0);
      passes = λ t lt h. refl;
      apart = λ t u lt lu h k e. same_Some t u (sym (task_on-linked s t (and_parts _ _ h).0)
          ∙ (rw e (task_on-linked s u (and_parts _ _ k).0)));
    } in
    let bound = count_below-bound (λ p. true) s.processors in
    omega arith

-- one at least, where one is
lost_some : (s table : State) → IsState s → (t : ℕ) → IsLost s table t → 0 < lost_count s table
lost_some s table ok t lost =
    let fits = count_below-injection (λ x. true) 1 (λ u. is_linked s u && not (is_linked table u)) (task_count s) (λ x. t) record {
      below = λ x lt h. linked_number s (place_in t s.on) t ok (task_on-linked s t lost.linked);
      passes = λ x lt h. rw (lost.linked, lost.nowhere) refl;
      apart = λ x y lx ly h k e. omega arith;
    } in
    let one = count_below-one_more (λ x. true) (λ x. false) 0 1 (omega arith) refl refl (λ y lt ne. absurd (omega arith)) in
    omega arith

-- each help leaves one less
pub ends_within : (n : ℕ) (s : State) → IsState s → (d : SeenData) → lost_count s d.table ≤ n → EndsWithin n s d
ends_within zero s ok d few = λ t lost. let some = lost_some s d.table ok t lost in absurd (omega arith)
ends_within (suc n) s ok d few = λ t chain moves new helps. ends_within n s ok new (let fewer = helps.fewer in omega arith)
