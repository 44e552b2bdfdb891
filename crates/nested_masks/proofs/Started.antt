-- Before anything has happened, and why there is no scheduler by counts.
use Rattle.std.proofs.Common.{◌≡◌, ℕ, ◌≤◌, true, List, length, Result, Err, refl, sym, ap, ◌∙◌, inl, inr, ◌⊎◌, arith}
use Rattle.std.proofs.lemmas.Bool.{true≢false, and_parts}
use Rattle.std.proofs.lemmas.List.{length-map, length-replicate}
use Rattle.affinity_mask.specs.ProcSet.{has}
use Rattle.task_set.specs.TaskSet.{SetData, IsTaskSet, masks}
use Rattle.strong_apa.proofs.Start.{IsState-start, none_ready}
use Rattle.strong_apa.proofs.Counts.{count_below-injection}
use Rattle.nested_masks.specs.Laminar.{IsLaminar, IsFirstCrossing}
use Rattle.nested_masks.specs.Answers.{IsCrossingFault}
use Rattle.nested_masks.specs.declared.fault.NestedFault.{NestedFault}
use Rattle.nested_masks.specs.declared.fault.NestedFault.TheVariants.{Crossing, OutOfMemory}
use Rattle.nested_masks.specs.NestedData.{IsCounted, IsNested, nested_start, linked_of}

pub nobody_linked : (set : SetData) (t : ℕ) → linked_of (nested_start set) t ≡ true → ⊥
nobody_linked set t h = true≢false (sym h ∙ none_ready (length set.tasks) t)

pub counted-start : (set : SetData) → IsTaskSet set → IsLaminar (masks set) → IsCounted (nested_start set)
counted-start set ok laminar = record {
  state = IsState-start set ok;
  count = length-replicate _ _ ∙ sym (length-map _ _);
  laminar = laminar;
  linked_ready = λ t h. absurd (nobody_linked set t h);
  fits = λ X node. count_below-injection _ _ (has X) 64 (λ x. x) record {
    below = λ x lt h. absurd (nobody_linked set x (and_parts _ _ h).0);
    passes = λ x lt h. absurd (nobody_linked set x (and_parts _ _ h).0);
    apart = λ x y lx ly hx hy e. e;
  };
}

pub nested-start : (set : SetData) → IsCounted (nested_start set) → IsNested (nested_start set)
nested-start set counted = record {
  counted = counted;
  kept_out = λ w waits. absurd (true≢false (sym waits.ready ∙ none_ready (length set.tasks) w));
}

-- masks have one first crossing pair at most, and where they nest they have none
pub first_crossing_once : (column : List ℕ) (a b c d : ℕ) → IsFirstCrossing column a b → IsFirstCrossing column c d → (a ≡ c) × (b ≡ d)
first_crossing_once column a b c d p q = elim (p.first c d q.ordered q.number q.cross) [
  | inl lt ↦ elim (q.first a b p.ordered p.number p.cross) [
    | inl gt ↦ absurd (omega arith)
    | inr same ↦ absurd (let e = same.0 in omega arith)
  ]
  | inr one ↦ elim (q.first a b p.ordered p.number p.cross) [
    | inl gt ↦ absurd (let e = one.0 in omega arith)
    | inr other ↦ (one.0, (let le = one.1 in let ge = other.1 in omega arith))
  ]
]

pub laminar_crosses_none : (column : List ℕ) (a b : ℕ) → IsLaminar column → IsFirstCrossing column a b → ⊥
laminar_crosses_none column a b laminar found =
    laminar a b (let lt = found.ordered in let number = found.number in omega arith) found.number found.cross

pub few_masks : (set : SetData) → IsTaskSet set → length (masks set) ≤ 1024
few_masks set ok = rw (length-map set.tasks (λ t. t.mask)) ok.count

-- the answers for a set whose masks cross, and for one whose masks nest
pub refuses_crossing : {T : Type 0} (set : SetData) (one other : ℕ) (fault : NestedFault) (r : Result T NestedFault) → r ≡ Err fault
    → IsFirstCrossing (masks set) one other → (fault ≡ OutOfMemory) ⊎ IsCrossingFault set fault
    → (r ≡ Err (Crossing one other)) ⊎ (r ≡ Err OutOfMemory)
refuses_crossing set one other (Crossing a b) r is found (inl memory) = inr (is ∙ ap (λ (f : NestedFault). Err f) memory)
refuses_crossing set one other (Crossing a b) r is found (inr crossing) =
    let same = first_crossing_once (masks set) a b one other crossing found in
    inl (is ∙ rw (same.0, same.1) refl)
refuses_crossing set one other OutOfMemory r is found why = inr is

pub accepts_laminar : (set : SetData) (fault : NestedFault) → IsLaminar (masks set) → (fault ≡ OutOfMemory) ⊎ IsCrossingFault set fault
    → fault ≡ OutOfMemory
accepts_laminar set (Crossing a b) laminar (inl memory) = memory
accepts_laminar set (Crossing a b) laminar (inr crossing) = absurd (laminar_crosses_none (masks set) a b laminar crossing)
accepts_laminar set OutOfMemory laminar why = refl
