-- Which texts are canonical lists: a text of one run, and a list that is written as it would be.
use Rattle.std.proofs.Common.{◌≡◌, ◌≢◌, ℕ, ◌+◌, ◌<◌, ◌≤◌, inl, IsTrue, Bool, true, false, not, ◌&&◌, nat_eq, nat_lt, nat_le, List, [], ◌∷◌}
use Rattle.std.proofs.Common.{◌++◌, length, refl, sym, ◌∙◌, ap, arith, append-nil}
use Rattle.std.proofs.lemmas.Bool.{true≢false}
use Rattle.std.proofs.lemmas.Bool.Decides.{nat_tests}
use Rattle.std.proofs.lemmas.List.Elements.{All-head}
use Rattle.affinity_mask.specs.ProcSet.{has, empty, all_below, Within}
use Rattle.affinity_mask.specs.ListText.{IsWellFormed, run_text, canonical_list, IsListText, IsCanonicalList}
use Rattle.affinity_mask.specs.ListFault.{IsListFault}
use Rattle.affinity_mask.specs.ListSteps.{list_below, item_text, RunsTo, IsNextRun}
use Rattle.affinity_mask.specs.declared.mask_fault.MaskFault.{MaskFault}
use Rattle.affinity_mask.proofs.Sets.{has-all_below, has-zero}
use Rattle.affinity_mask.proofs.Runs.{canonical_list-IsListText}
use Rattle.affinity_mask.proofs.ListTexts.{list_text-one_set, list_text-no_fault}
use Rattle.affinity_mask.proofs.Written.{list_below-zero}
use Rattle.affinity_mask.proofs.NextRuns.{next_run, up_to_end}
use Rattle.affinity_mask.proofs.ListBytes.{item_first}

-- ---- a set that is one run

module _ (X low high : ℕ) (ascends : low ≤ high) (small : high < 64)
    (contents : (p : ℕ) → has X p ≡ (nat_le low p && nat_le p high)) where
  inside : (p : ℕ) → low ≤ p → p ≤ high → has X p ≡ true
  inside p from to = contents p ∙ both low p high from to
    where
      both : (a b c : ℕ) → a ≤ b → b ≤ c → (nat_le a b && nat_le b c) ≡ true
      both a b c from to = grind (arith, nat_tests)

  above : (p : ℕ) → high < p → has X p ≡ false
  above p beyond = contents p ∙ none low p high beyond
    where
      none : (a b c : ℕ) → c < b → (nat_le a b && nat_le b c) ≡ false
      none a b c beyond = grind (arith, nat_tests)

  ends : (p : ℕ) → has X p ≡ true → (low ≤ p) × (p ≤ high)
  ends p here = from low p high (sym (contents p) ∙ here)
    where
      from : (a b c : ℕ) → (nat_le a b && nat_le b c) ≡ true → (a ≤ b) × (b ≤ c)
      from a b c e = grind (arith, nat_tests)

  within : Within X (all_below 64)
  within p here = has-all_below 64 p ∙ below p (omega (arith, (ends p here).1))
    where
      below : (p : ℕ) → p < 64 → nat_lt p 64 ≡ true
      below p less = grind (arith, nat_tests)

  some : X ≢ empty
  some none = true≢false (sym (inside low (omega arith) ascends) ∙ ap (λ (Y : ℕ). has Y low) none ∙ has-zero low)

  run : RunsTo X low high
  run = record {
    ascends = ascends;
    small = small;
    members = inside;
    over = above (high + 1) (omega arith);
  }

  first : IsNextRun X 0 low high
  first =
      next_run X X 0 low high (λ q. all_of (has X q) q)
      (inside low (omega arith) ascends, λ q here. (ends q here).0)
      (record { few = omega arith; apart = inl refl }) run
    where
      all_of : (b : Bool) (q : ℕ) → b ≡ (b && not (nat_lt q 0))
      all_of b q = grind (arith, nat_tests)

  last : list_below X (high + 1) ≡ canonical_list X
  last = up_to_end X 0 (high + 1) (omega arith) (λ q. has-zero q ∙ sym (none_left q)) refl within
    where
      nothing : (a b c : ℕ) → ((nat_le a b && nat_le b c) && not (nat_lt b (c + 1))) ≡ false
      nothing a b c = grind (arith, nat_tests)

      none_left : (q : ℕ) → (has X q && not (nat_lt q (high + 1))) ≡ false
      none_left q = rw (contents q) (nothing low q high)

  written : canonical_list X ≡ run_text (low, high)
  written =
      sym last ∙ first.adds
      ∙ ap (λ (ys : List ℕ). ys ++ item_text (nat_eq (length ys) 0) low high) (list_below-zero X)
      ∙ item_first true low high refl

nothing_left : (xs : List ℕ) → length xs ≡ 0 → xs ≡ []
nothing_left [] e = refl
nothing_left (x ∷ xs) e = absurd (omega (arith, e))

-- the text of one run is the canonical list of what is in the run
pub one_run : (text rest : List ℕ) (X low high : ℕ) → low ≤ high → high < 64
    → ((p : ℕ) → has X p ≡ (nat_le low p && nat_le p high)) → text ≡ run_text (low, high) ++ rest → length rest ≡ 0
    → IsCanonicalList text X
one_run text rest X low high ascends small contents cut end = record {
  some = some X low high ascends small contents;
  processors = within X low high ascends small contents;
  is_text =
      cut ∙ ap (λ (ys : List ℕ). run_text (low, high) ++ ys) (nothing_left rest end) ∙ append-nil (run_text (low, high))
      ∙ sym (written X low high ascends small contents);
}

-- ---- any list

-- a canonical list is a list
is_list_text : (text : List ℕ) (X : ℕ) → IsCanonicalList text X → IsListText text X
is_list_text text X list =
    rw list.is_text (canonical_list-IsListText X list.some list.processors)

list_some : (text : List ℕ) (X : ℕ) → IsListText text X → X ≢ empty
list_some text X (first, more, list) none =
    let item = All-head IsWellFormed first more list.well_formed in
    let ascends : first.low ≤ first.high = item.ascends in
    let member : IsTrue (has X first.low) = (list.union first.low).1
    (0, first, omega arith, refl, (omega arith, ascends)) in
    true≢false (sym member ∙ ap (λ (Y : ℕ). has Y first.low) none ∙ has-zero first.low)

-- a list that is written as the canonical one is canonical
pub written_so : (text : List ℕ) (X : ℕ) → IsListText text X → Within X (all_below 64) → text ≡ canonical_list X
    → IsCanonicalList text X
written_so text X list processors same =
    record { some = list_some text X list; processors = processors; is_text = same }

-- what is no list is no canonical list
pub not_canonical : (text : List ℕ) (fault : MaskFault) → IsListFault text fault → (X : ℕ) → IsCanonicalList text X → ⊥
not_canonical text fault why X list = list_text-no_fault text X fault (is_list_text text X list) why

-- nor is a list that is written otherwise
pub otherwise : (text : List ℕ) (Y : ℕ) → IsListText text Y → (text ≡ canonical_list Y → ⊥) → (X : ℕ)
    → IsCanonicalList text X → ⊥
otherwise text Y list differs X canonical =
    let same = list_text-one_set text X Y (is_list_text text X canonical) list in
    differs (canonical.is_text ∙ ap canonical_list same)
