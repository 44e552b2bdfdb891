-- The four faces of the best set. Where the linked tasks are the best set, a least improving chain would make a better one; where
-- there is no improving chain, what a waiting task reaches is full of more urgent tasks.
use Rattle.std.proofs.Common.{◌≡◌, ◌≢◌, ℕ, ◌≤◌, List, true, Option, Some, None, refl, sym, ap, ◌∙◌, subst, inl, inr, ◌⊎◌, IsTrue, arith}
use Rattle.std.proofs.lemmas.Bool.{cases_Bool, cases_lt, cases_eq, true≢false}
use Rattle.std.proofs.lemmas.Option.{same_Some}
use Rattle.affinity_mask.specs.ProcSet.{has}
use Rattle.strong_apa.specs.State.{State, IsState, IsWaiting, IsMoreUrgent, is_linked, task_on, priority_of}
use Rattle.strong_apa.specs.Chain.{IsChainOf, IsSimple, state_after_shift}
use Rattle.strong_apa.proofs.Ends.{least_chain_to_idle, least_chain_to_task}
use Rattle.strong_apa.proofs.Linked.{place_in, task_on-linked, is_linked-from_on, not_on, linked_number}
use Rattle.strong_apa.proofs.Paths.{Reaches-online}
use Rattle.strong_apa.proofs.Shifts.{IsState-state_after_shift, occupant_from, task_on-state_after_shift}
use Rattle.strong_apa.proofs.Simple.{Avoids-none}
use Rattle.strong_apa.proofs.Unique.{ready_number}
use Rattle.strong_apa.specs.Certified.{HasCertificates}
use Rattle.strong_apa.specs.Improving.{HasNoImprovingChain}
use Rattle.strong_apa.specs.Held.{IsHeldAgainst}
use Rattle.strong_apa.specs.CertificateLaws.{LinkedIsBest}
use Rattle.strong_apa.proofs.Best.{linked_is_best, linked_placement}
use Rattle.strong_apa.proofs.Closed.{IsReach-first, IsReach-closed}
use Rattle.strong_apa.proofs.Improved.{no_improving_chain}
use Rattle.strong_apa.proofs.KeptByShifts.{linked_or_out}
use Rattle.history_laws.proofs.StepReach.{reach_exists}
use Rattle.scheduling_laws.specs.Faces.{IsCertifiedByReach, BestIsCertified, CertifiedIsWithoutChain, CertifiedIsByReach}

-- ---- a simple improving chain makes a better set
module _ (s : State) (ok : IsState s) (best : LinkedIsBest s) (t : ℕ) (waits : IsWaiting s t) where
  shift_is_better : (chain : List ℕ) (q : ℕ) → IsChainOf s t chain q → IsSimple chain
      → ((d : ℕ) → task_on s q ≡ Some d → IsMoreUrgent s t d) → ⊥
  shift_is_better chain q is_chain simple late =
      best.none_better (is_linked new) (λ u h. ok'.linked_ready (place_in u new.on) u (task_on-linked new u h))
      ((λ u. place_in u new.on), record { allowed = (linked_placement new ok').allowed; apart = (linked_placement new ok').apart })
      record {
        task = t;
        in_first = elim (linked_or_out s ok t waits chain q is_chain simple t (inl refl)) [
          | inl linked ↦ linked
          | inr out ↦ absurd (not_on s q t waits.not_linked out)
        ];
        not_in_second = waits.not_linked;
        most_urgent = first;
      }
    where
      new : State
      new = state_after_shift s t chain

      ok' : IsState (state_after_shift s t chain)
      ok' = IsState-state_after_shift s ok t chain q waits is_chain simple

      -- who is linked then is t, or was linked before
      came : (u : ℕ) → is_linked (state_after_shift s t chain) u ≡ true → (t ≡ u) ⊎ (is_linked s u ≡ true)
      came u linked =
          let p = place_in u (state_after_shift s t chain).on in
          let on = task_on-state_after_shift s t chain p u (task_on-linked (state_after_shift s t chain) u linked) in
          elim (occupant_from s (λ y. ⊥) (Some t) chain p u (Avoids-none chain simple) (λ v. v) on) [
            | inl it ↦ inl (same_Some t u it)
            | inr there ↦ inr (is_linked-from_on s there.0 u there.2)
          ]

      -- who is linked in just one of the two states is t, or no more urgent
      first : (u : ℕ) → is_linked (state_after_shift s t chain) u ≢ is_linked s u → priority_of s t ≤ priority_of s u
      first u differ = elim (cases_Bool (is_linked s u)) [
        | inl linked ↦ elim (linked_or_out s ok t waits chain q is_chain simple u (inr linked)) [
          | inl still ↦ absurd (differ (still ∙ sym linked))
          | inr out ↦ (let less = late u out in omega arith)
        ]
        | inr not_linked ↦ elim (cases_Bool (is_linked (state_after_shift s t chain) u)) [
          | inl comes ↦ elim (came u comes) [
            | inl it ↦ (let e = ap (priority_of s) it in omega arith)
            | inr linked ↦ absurd (true≢false (sym linked ∙ not_linked))
          ]
          | inr stays ↦ absurd (differ (stays ∙ sym not_linked))
        ]
      ]

best_has_no_chain : (s : State) → IsState s → LinkedIsBest s → HasNoImprovingChain s
best_has_no_chain s ok best t chain improving = elim improving.better [
  | inl idle ↦ (
      let short = least_chain_to_idle s t ok in
      let least = short.exists chain idle in
      let ends = least.1.itself in
      shift_is_better s ok best t improving.waits least.0 ends.0 ends.1 (short.simple least.0 least.1)
      (λ d on. let nobody = ends.2.1 in cc))
  | inr task ↦ (
      let short = least_chain_to_task s t task.0 ok in
      let least = short.exists chain task.1 in
      let ends = least.1.itself in
      shift_is_better s ok best t improving.waits least.0 ends.0 ends.1 (short.simple least.0 least.1)
      (λ d on. subst (λ (z : ℕ). IsMoreUrgent s t z) (same_Some task.0 d (sym ends.2 ∙ on)) task.2))
]

-- ---- where no task has an improving chain, what a task reaches certifies it
reach_certifies : (s : State) → IsState s → HasNoImprovingChain s → IsCertifiedByReach s
reach_certifies s ok none w reach waits reached = record {
  within = IsReach-first s w reach reached;
  occupied = λ p inside. by p inside (task_on s p) refl;
}
  where
    urgent : (p u : ℕ) → IsTrue (has reach p) → task_on s p ≡ Some u → IsMoreUrgent s u w
    urgent p u inside on = elim (cases_lt (priority_of s u) (priority_of s w)) [
      | inl more_urgent ↦ more_urgent
      | inr as_late ↦ elim (cases_eq (priority_of s u) (priority_of s w)) [
        | inl same ↦ (
            let it = ok.distinct u w (linked_number s p u ok on) (ready_number s ok w waits.ready) same in
            absurd (not_on s p w waits.not_linked (on ∙ ap (λ (n : ℕ). Some n) it)))
        | inr other ↦ (
            let chain = (reached p).0 inside in
            absurd (none w chain.0 record { waits = waits; better = inr (u, (p, chain.1, on), omega arith) }))
      ]
    ]

    by : (p : ℕ) → IsTrue (has reach p) → (o : Option ℕ) → task_on s p ≡ o → IsHeldAgainst s w reach p
    by p inside None nobody =
        let chain = (reached p).0 inside in
        absurd (none w chain.0 record { waits = waits; better = inl (p, chain.1, (Reaches-online s w p chain, nobody)) })
    by p inside (Some u) on = (u, on, urgent p u inside on, IsReach-closed s w reach reached p u inside on)

certified_by_reach : (s : State) → IsState s → IsCertifiedByReach s → HasCertificates s
certified_by_reach s ok by_reach w waits = let reach = reach_exists s ok w in (reach.0, by_reach w reach.0 waits reach.1)

-- ---- the laws
pub best_is_certified : BestIsCertified
best_is_certified s ok = (
  λ best. certified_by_reach s ok (reach_certifies s ok (best_has_no_chain s ok best)),
  linked_is_best s ok,
)

pub certified_is_without_chain : CertifiedIsWithoutChain
certified_is_without_chain s ok = (
  no_improving_chain s,
  λ none. certified_by_reach s ok (reach_certifies s ok none),
)

pub certified_is_by_reach : CertifiedIsByReach
certified_is_by_reach s ok = (
  λ certificates. reach_certifies s ok (no_improving_chain s certificates),
  certified_by_reach s ok,
)
