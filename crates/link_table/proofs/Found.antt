-- The task that has a priority is found by a binary search of the order.
use Rattle.std.proofs.Common.{◌≡◌, ℕ, ◌<◌, ◌≤◌, List, length, get_or, Ok, Err, sym, ap, ◌∙◌, subst, inl, inr, arith}
use Rattle.std.specs.List.Sorted.{IsBinarySearchResult, IsNonDecreasingBy}
use Rattle.std.specs.Ordering.{nat_cmp, ordering_index}
use Rattle.std.proofs.lemmas.Bool.{cases_lt}
use Rattle.std.proofs.lemmas.Cmp.{ranked}
use Rattle.std.proofs.lemmas.Bool.Decides.{nat_tests}
use Rattle.std.proofs.lemmas.List.Elements.{All-get_or}
use Rattle.link_table.specs.declared.ranked.Ranked.{Ranked}
use Rattle.link_table.specs.UrgencyOrder.{urgency_entry, IsEntry, IsUrgencyOrder}
use Rattle.link_table.specs.WaitingTasks.{IsNobodyWith, IsTaskWith}

module _ (ps : List ℕ) (order : List Ranked) (sorted : IsUrgencyOrder ps order) (priority : ℕ) where
  -- the comparisons rise along the order, as a binary search asks
  comparisons_rise : IsNonDecreasingBy (λ (e : Ranked). ordering_index (nat_cmp e.priority priority)) order
  comparisons_rise j k d le lt = let rises = sorted.ordered j k d le lt in grind (arith, nat_tests)

  pub found : (rank : ℕ) (e : Ranked) → rank < length order → e ≡ get_or order rank e
      → IsBinarySearchResult (λ (x : Ranked). nat_cmp x.priority priority) order (Ok rank) → IsTaskWith ps priority e.task
  found rank e fits at equal =
      let is = All-get_or (IsEntry ps) order rank e fits sorted.complete.all in
      record {
        number = subst (λ (x : Ranked). x.task < length ps) (sym at) is.0;
        has_it = ap (λ (x : Ranked). get_or ps x.task 0) at ∙ sym is.1 ∙ ranked _ priority _ (sym (equal e));
      }

  pub not_found : (rank : ℕ) → rank ≤ length order → IsBinarySearchResult (λ (x : Ranked). nat_cmp x.priority priority) order (Err rank)
      → IsNobodyWith ps priority
  not_found rank fits parted t known is =
      let place = sorted.complete.each t known in
      let parts = parted comparisons_rise in
      let here : (get_or order place.0 (urgency_entry ps t)).priority ≡ priority = ap (λ (x : Ranked). x.priority) place.2 ∙ is in
      elim (cases_lt place.0 rank) [
        | inl lt ↦ (let less : (get_or order place.0 (urgency_entry ps t)).priority
            < priority = ranked _ priority _ (sym (parts.0 place.0 (urgency_entry ps t) (omega arith) lt)) in omega arith)
        | inr ge ↦ (let more : priority < (get_or order place.0 (urgency_entry ps t)).priority = ranked _ priority _
            (sym (parts.1 place.0 (urgency_entry ps t) ge place.1)) in omega arith)
      ]
