-- Counts of moments of a kind.
use Rattle.std.proofs.Common.{◌≡◌, ℕ, zero, suc, ◌+◌, ◌<◌, ◌≤◌, refl, sym, ◌∙◌, subst, inl, inr, arith}
use Rattle.trace_losses.specs.Moments.{IsCount}

module _ (Is : ℕ → Type 0) where
  pub count_moved : (first other moments all count more : ℕ) → first ≡ other → moments ≡ all → count ≡ more
      → IsCount Is first moments count → IsCount Is other all more
  count_moved first other moments all count more a b c is =
      subst (λ (n : ℕ). IsCount Is n all more) a
      (subst (λ (n : ℕ). IsCount Is first n more) b (subst (λ (n : ℕ). IsCount Is first moments n) c is))

  pub count_most : (first moments count : ℕ) → IsCount Is first moments count → count ≤ moments
  count_most first zero count is = omega (arith, is)
  count_most first (suc moments) count is = elim is [
    | inl (here, found) ↦ (
        let most = count_most (first + 1) moments found.0 found.2 in
        let one = found.1 in
        omega (arith, most, one))
    | inr (none, next) ↦ (let most = count_most (first + 1) moments count next in omega (arith, most))
  ]

  pub one_count : (first moments one other : ℕ) → IsCount Is first moments one → IsCount Is first moments other → one ≡ other
  one_count first zero one other is also = is ∙ sym also
  one_count first (suc moments) one other is also = elim is [
    | inl (here, found) ↦ elim also [
      | inl (there, by) ↦ (
          let same = one_count (first + 1) moments found.0 by.0 found.2 by.2 in
          let a = found.1 in
          let b = by.1 in
          omega (arith, same, a, b))
      | inr (none, next) ↦ absurd (none here)
    ]
    | inr (none, next) ↦ elim also [
      | inl (there, by) ↦ absurd (none there)
      | inr (neither, after) ↦ one_count (first + 1) moments one other next after
    ]
  ]

  -- one moment more before the others
  with_one : (first moments all count more : ℕ) → Is first → suc moments ≡ all → more ≡ count + 1
      → IsCount Is (first + 1) moments count → IsCount Is first all more
  with_one first moments all count more here e f next =
      subst (λ (n : ℕ). IsCount Is first n more) e (inl (here, (count, f, next)))

  without_one : (first moments all count : ℕ) → (Is first → ⊥) → suc moments ≡ all
      → IsCount Is (first + 1) moments count → IsCount Is first all count
  without_one first moments all count none e next = subst (λ (n : ℕ). IsCount Is first n count) e (inr (none, next))

  -- moments of the kind before the others
  pub count_with : (units first moments count : ℕ) → ((x : ℕ) → first ≤ x → x < first + units → Is x)
      → IsCount Is (first + units) moments count → IsCount Is first (moments + units) (count + units)
  count_with zero first moments count each is =
      count_moved (first + 0) first moments (moments + 0) count (count + 0) (omega arith) (omega arith) (omega arith) is
  count_with (suc units) first moments count each is =
      with_one first (moments + units) (moments + suc units) (count + units) (count + suc units) (each first (omega arith) (omega arith))
      (omega arith) (omega arith)
      (count_with units (first + 1) moments count (λ x from below. each x (omega (arith, from)) (omega (arith, below)))
      (count_moved (first + suc units) (first + 1 + units) moments moments count count (omega arith) refl refl is))

  -- moments not of the kind before the others
  pub count_without : (units first moments count : ℕ) → ((x : ℕ) → first ≤ x → x < first + units → Is x → ⊥)
      → IsCount Is (first + units) moments count → IsCount Is first (moments + units) count
  count_without zero first moments count none is =
      count_moved (first + 0) first moments (moments + 0) count count (omega arith) (omega arith) refl is
  count_without (suc units) first moments count none is =
      without_one first (moments + units) (moments + suc units) count (none first (omega arith) (omega arith)) (omega arith)
      (count_without units (first + 1) moments count (λ x from below. none x (omega (arith, from)) (omega (arith, below)))
      (count_moved (first + suc units) (first + 1 + units) moments moments count count (omega arith) refl refl is))

  -- moments after others
  pub count_append : (units first moments before after : ℕ) → IsCount Is first units before → IsCount Is (first + units) moments after
      → IsCount Is first (moments + units) (before + after)
  count_append zero first moments before after is rest =
      count_moved (first + 0) first moments (moments + 0) after (before + after) (omega arith) (omega arith) (omega (arith, is)) rest
  count_append (suc units) first moments before after is rest =
      let next : IsCount Is (first + 1 + units) moments after =
      count_moved (first + suc units) (first + 1 + units) moments moments after after (omega arith) refl refl rest in
      elim is [
        | inl (here, found) ↦
            with_one first (moments + units) (moments + suc units) (found.0 + after) (before + after) here (omega arith)
            (let one = found.1 in omega (arith, one)) (count_append units (first + 1) moments found.0 after found.2 next)
        | inr (none, there) ↦
            without_one first (moments + units) (moments + suc units) (before + after) none (omega arith)
            (count_append units (first + 1) moments before after there next)
      ]

  -- all of the moments are of the kind, or none
  pub count_all : (first units : ℕ) → ((x : ℕ) → first ≤ x → x < first + units → Is x) → IsCount Is first units units
  count_all first units each =
      count_moved first first (0 + units) units (0 + units) units refl (omega arith) (omega arith) (count_with units first 0 0 each refl)

  pub count_none : (first units : ℕ) → ((x : ℕ) → first ≤ x → x < first + units → Is x → ⊥) → IsCount Is first units 0
  count_none first units none =
      count_moved first first (0 + units) units 0 0 refl (omega arith) refl (count_without units first 0 0 none refl)

-- moments are of one kind where they are of another one
pub count_alike : (Is Other : ℕ → Type 0) (moments first count : ℕ) → ((x : ℕ) → first ≤ x → x < first + moments → Is x → Other x)
    → ((x : ℕ) → first ≤ x → x < first + moments → Other x → Is x) → IsCount Is first moments count → IsCount Other first moments count
count_alike Is Other zero first count to back is = is
count_alike Is Other (suc moments) first count to back is =
    let next : (other : ℕ) → IsCount Is (first + 1) moments other → IsCount Other (first + 1) moments other =
    λ other found.
    count_alike Is Other moments (first + 1) other (λ x from below. to x (omega (arith, from)) (omega (arith, below)))
    (λ x from below. back x (omega (arith, from)) (omega (arith, below))) found in
    elim is [
      | inl (here, found) ↦ inl (to first (omega arith) (omega arith) here, (found.0, found.1, next found.0 found.2))
      | inr (none, rest) ↦ inr ((λ there. none (back first (omega arith) (omega arith) there)), next count rest)
    ]
