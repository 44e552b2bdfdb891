-- How many tasks of a set a node holds, and how that changes with one task.
use Rattle.std.proofs.Common.{◌≡◌, ℕ, suc, ◌<◌, ◌≤◌, Bool, true, false, not, ◌&&◌, nat_eq, List, length, refl, sym, ap, ◌∙◌, inl, inr}
use Rattle.std.proofs.Common.{arith, eq-eqb, ne_eqb}
use Rattle.std.proofs.lemmas.Bool.{cases_eq, and_parts, and_from, and_left, and_right}
use Rattle.std.proofs.Math.Bool.{and-true}
use Rattle.affinity_mask.specs.ProcSet.{Within}
use Rattle.strong_apa.proofs.Counts.{count_below, count_below-agree, count_below-one_more, count_below-injection}
use Rattle.strong_apa.specs.Placement.{TaskTest, IsSubset}
use Rattle.nested_masks.specs.Laminar.{mask_at, is_within, tasks_in, FitsNodes}
use Rattle.nested_masks.specs.Counting.{Joins}
use Rattle.nested_masks.proofs.Withins.{is_within-from, is_within-not}

-- how many tasks of a set lie within X
abbrev pub held : List ℕ → TaskTest → ℕ → ℕ
held masks tasks X = length (tasks_in masks tasks X)

-- a test that passes all that another one passes counts no less
pub count_below-implies : (P Q : ℕ → Bool) (m : ℕ) → ((x : ℕ) → x < m → P x ≡ true → Q x ≡ true) → count_below P m ≤ count_below Q m
count_below-implies P Q m implies = count_below-injection P m Q m (λ x. x) record {
  below = λ x lt p. lt;
  passes = implies;
  apart = λ x y lx ly px py e. e;
}

module _ (masks : List ℕ) where
  pub held-same : (tasks other : TaskTest) → ((u : ℕ) → tasks u ≡ other u) → (X : ℕ) → held masks tasks X ≡ held masks other X
  held-same tasks other same X =
      count_below-agree _ _ (length masks) (λ u lt. ap (λ (b : Bool). b && is_within (mask_at masks u) X) (same u))

  -- of the tasks that lie within X, each of one set is in the other
  pub held-implies : (tasks other : TaskTest) (X : ℕ)
      → ((u : ℕ) → u < length masks → tasks u ≡ true → is_within (mask_at masks u) X ≡ true → other u ≡ true)
      → held masks tasks X ≤ held masks other X
  held-implies tasks other X implies = count_below-implies _ _ (length masks) (λ u lt h.
      let parts = and_parts (tasks u) (is_within (mask_at masks u) X) h in
      and_from _ _ (implies u lt parts.0 parts.1) parts.1)

  module _ (tasks : TaskTest) (t : ℕ) (new : TaskTest) (joins : Joins tasks t new) where
    -- a task joins that lies within X
    pub held-more : (X : ℕ) → t < length masks → Within (mask_at masks t) X → held masks new X ≡ suc (held masks tasks X)
    held-more X lt within = count_below-one_more _ _ t (length masks) lt
        (and_from _ _ joins.after (is_within-from _ X within))
        (and_left _ _ joins.before)
        (λ u below ne. ap (λ (b : Bool). b && is_within (mask_at masks u) X) (joins.others u ne))

    -- a task joins that does not
    pub held-else : (X : ℕ) → (Within (mask_at masks t) X → ⊥) → held masks new X ≡ held masks tasks X
    held-else X outside = count_below-agree _ _ (length masks) (λ u lt. elim (cases_eq u t) [
      | inl e ↦ rw e (and_right _ _ (is_within-not _ X outside) ∙ sym (and_right _ _ (is_within-not _ X outside)))
      | inr ne ↦ ap (λ (b : Bool). b && is_within (mask_at masks u) X) (joins.others u ne)
    ])

  -- a smaller set fits where a larger one does
  pub fits_smaller : (tasks other : TaskTest) → IsSubset other tasks → FitsNodes masks tasks → FitsNodes masks other
  fits_smaller tasks other subset fits X node =
      let le = held-implies other tasks X (λ u lt h _. subset u h) in
      let bound = fits X node in
      omega arith

-- a set without one of its tasks
abbrev pub without : TaskTest → ℕ → TaskTest
without tasks t u = tasks u && not (nat_eq u t)

pub joins_without : (tasks : TaskTest) (t : ℕ) → tasks t ≡ true → Joins (without tasks t) t tasks
joins_without tasks t h = record {
  before = let same : not (nat_eq t t) ≡ false = rw (eq-eqb t t refl) refl in and_right (tasks t) (not (nat_eq t t)) same;
  after = h;
  others = λ u ne. rw (ne_eqb u t ne) (sym (and-true (tasks u)));
}
