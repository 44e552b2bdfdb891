-- Unions of items, by a test and by `Any`.
use Rattle.std.proofs.Common.{◌≡◌, ℕ, zero, suc, ◌^◌, ◌≤◌, Bool, true, false, ◌&&◌, ◌||◌, nat_eq, nat_lt, List, [], ◌∷◌, ◌++◌, All, Any}
use Rattle.std.proofs.Common.{IsTrue, ◌↔◌, refl, sym, ◌∙◌, ap, ap₂, arith, ⊎_elim, ne_eqb, bit_or}
use Rattle.std.specs.List.{list_any}
use Rattle.std.proofs.lemmas.Bool.{cases_Bool, cases_eq, leb-true, le-leb, and_parts}
use Rattle.std.proofs.lemmas.List.Elements.{All-head, All-tail}
use Rattle.std.proofs.lemmas.List.Folds.{list_any-append, Any-from_list_any, list_any-from_Any}
use Rattle.std.proofs.Math.Bool.{or-false, and-false}
use Rattle.affinity_mask.specs.ProcSet.{has}
use Rattle.affinity_mask.specs.ListText.{Item, IsWellFormed}
use Rattle.affinity_mask.specs.ListSteps.{item_covers}
use Rattle.affinity_mask.proofs.Sets.{has-or, has-pow, has-zero, same_set}

-- one of the items has p, by the test and by the fact
pub Any-from_covers : (p : ℕ) (items : List Item) → list_any (item_covers p) items ≡ true
    → Any (λ (item : Item). (item.low ≤ p) × (p ≤ item.high)) items
Any-from_covers p items e =
    let found : Any (λ (item : Item). item_covers p item ≡ true) items = Any-from_list_any (item_covers p) items e in
    (found.0, found.1, found.2, found.3, (let parts = and_parts _ _ found.4 in (leb-true _ _ parts.0, leb-true _ _ parts.1)))

pub covers_from_Any : (p : ℕ) (items : List Item) → Any (λ (item : Item). (item.low ≤ p) × (p ≤ item.high)) items
    → list_any (item_covers p) items ≡ true
covers_from_Any p items any =
    list_any-from_Any (item_covers p) items
    (any.0, any.1, any.2, any.3, rw (le-leb _ _ (any.4.0), le-leb _ _ (any.4.1)) refl)

-- the union grows by an item
pub union-push : (p X Y Z : ℕ) (items : List Item) (item : Item) → has Z p ≡ (has X p || has Y p) → has X p ≡ list_any (item_covers p) items
    → has Y p ≡ item_covers p item → has Z p ≡ list_any (item_covers p) (items ++ item ∷ [])
union-push p X Y Z items item joined before added =
    joined ∙ ap₂ (λ (a b : Bool). a || b) before added
    ∙ sym (list_any-append (item_covers p) items (item ∷ [])
    ∙ ap (λ (b : Bool). list_any (item_covers p) items || b) (or-false (item_covers p item)))

-- two answers that follow from one another are the same
pub same_answer : (a b : Bool) → (a ≡ true → b ≡ true) → (b ≡ true → a ≡ true) → a ≡ b
same_answer a b f g = grind arith

-- two sets that are the union of the same items are equal
pub same_union : (X Y : ℕ) (items : List Item)
    → ((p : ℕ) → IsTrue (has X p) ↔ Any (λ (item : Item). (item.low ≤ p) × (p ≤ item.high)) items)
    → ((p : ℕ) → IsTrue (has Y p) ↔ Any (λ (item : Item). (item.low ≤ p) × (p ≤ item.high)) items) → X ≡ Y
same_union X Y items one other =
    same_set X Y (λ p. same_answer _ _ (λ h. (other p).1 ((one p).0 h)) (λ h. (one p).1 ((other p).0 h)))

-- ---- a set from a test

below_more : (test : ℕ → Bool) (n p : ℕ) → test n ≡ true → ((test p && nat_lt p n) || nat_eq p n) ≡ (test p && nat_lt p (suc n))
below_more test n p passes =
    ⊎_elim
    (λ (e : p ≡ n). let same : test p ≡ true = ap test e ∙ passes in rw (same, e) (at n))
    (λ ne. rw (ne_eqb p n ne) (or-false _ ∙ ap (λ (b : Bool). test p && b) (apart p n ne)))
    (cases_eq p n)
  where
    at : (n : ℕ) → ((true && nat_lt n n) || nat_eq n n) ≡ (true && nat_lt n (suc n))
    at n = grind arith

    apart : (p n : ℕ) → (p ≡ n → ⊥) → nat_lt p n ≡ nat_lt p (suc n)
    apart p n ne = grind arith

below_same : (test : ℕ → Bool) (n p : ℕ) → test n ≡ false → (test p && nat_lt p n) ≡ (test p && nat_lt p (suc n))
below_same test n p no_more =
    ⊎_elim
    (λ (e : p ≡ n). let same : test p ≡ false = ap test e ∙ no_more in rw same refl)
    (λ ne. ap (λ (b : Bool). test p && b) (apart p n ne))
    (cases_eq p n)
  where
    apart : (p n : ℕ) → (p ≡ n → ⊥) → nat_lt p n ≡ nat_lt p (suc n)
    apart p n ne = grind arith

none_below : (p : ℕ) → nat_lt p 0 ≡ false
none_below p = grind arith

-- the numbers below n that pass a test are a set
collected : (test : ℕ → Bool) (n : ℕ) → (X : ℕ) × ((p : ℕ) → has X p ≡ (test p && nat_lt p n))
collected test zero = (0, λ p. has-zero p ∙ sym (ap (λ (b : Bool). test p && b) (none_below p) ∙ and-false (test p)))
collected test (suc n) =
    let before = collected test n in
    ⊎_elim
    (λ (passes : test n ≡ true). (
      bit_or (before.0) (2 ^ n),
      λ p. has-or _ _ p ∙ ap₂ (λ (a b : Bool). a || b) (before.1 p) (has-pow n p)
          ∙ below_more test n p passes,
    ))
    (λ (out : test n ≡ false). (before.0, λ p. before.1 p ∙ below_same test n p out))
    (cases_Bool (test n))

covers_small : (p : ℕ) (items : List Item) → All IsWellFormed items → (list_any (item_covers p) items && nat_lt p 64)
    ≡ list_any (item_covers p) items
covers_small p [] well_formed = refl
covers_small p (item ∷ items) well_formed =
    let head : IsWellFormed item = All-head IsWellFormed item items well_formed in
    by p item (list_any (item_covers p) items) head.small (covers_small p items (All-tail IsWellFormed item items well_formed))
  where
    by : (p : ℕ) (item : Item) (others : Bool) → item.high ≤ 63 → (others && nat_lt p 64) ≡ others
        → ((item_covers p item || others) && nat_lt p 64) ≡ (item_covers p item || others)
    by p item others small rest = grind arith

-- the union of well-formed items is a set
pub union_of : (items : List Item) → All IsWellFormed items
    → (X : ℕ) × ((p : ℕ) → IsTrue (has X p) ↔ Any (λ (item : Item). (item.low ≤ p) × (p ≤ item.high)) items)
union_of items well_formed =
    let found = collected (λ p. list_any (item_covers p) items) 64 in
    let same : (p : ℕ) → has (found.0) p ≡ list_any (item_covers p) items = λ p. found.1 p ∙ covers_small p items well_formed in
    (found.0, λ p. (λ h. Any-from_covers p items (sym (same p) ∙ h), λ any. same p ∙ covers_from_Any p items any))
