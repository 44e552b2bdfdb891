-- Moments in long stretches of lost ones, where some equal moments follow.
use Rattle.std.proofs.Common.{◌≡◌, ℕ, ◌+◌, ◌-◌, ◌<◌, ◌≤◌, Bool, true, false, nat_lt, List, ◌++◌, length, refl, ◌∙◌, inl, inr, arith}
use Rattle.std.specs.Prelude.{replicate, slice_get, if◌then◌else◌}
use Rattle.std.proofs.lemmas.Bool.{cases_lt, ltb-true, ltb-false}
use Rattle.std.proofs.lemmas.Option.{slice_get_within}
use Rattle.trace_losses.specs.Moments.{IsCount, IsLostFrom, IsCurrent, IsOver, AreOver}
use Rattle.trace_losses.specs.Tally.{over}
use Rattle.trace_losses.proofs.Counts.{count_moved, count_append, count_all, count_none, count_alike}
use Rattle.trace_losses.proofs.Stretches.{all_length, at_before, at_after, two_answers, lost_within, stretch_cases, only_before}

-- ---- the stretch up to the last moment
module _ (lost : List Bool) (count : ℕ) (current : IsCurrent lost count) where
  -- a stretch with a moment of it has no other moments
  within_it : (first many x : ℕ) → IsLostFrom lost first many → first ≤ x → x < first + many → length lost ≤ x + count → many ≤ count
  within_it first many x each from below there =
      let last = slice_get_within lost (first + many - 1) true
      (each (first + many - 1) (omega (arith, from, below)) (omega (arith, from, below))) in
      elim (cases_lt (first + count) (length lost)) [
        | inr later ↦ omega (arith, later, last)
        | inl earlier ↦ (
            let y : ℕ = length lost - count - 1 in
            let place : y + 1 + count ≡ length lost = omega (arith, earlier) in
            let lost_there = each y (omega (arith, place, earlier)) (omega (arith, place, there, below)) in
            two_answers (slice_get lost y) lost_there (current.before y place))
      ]

  by_long : (b : Bool) → nat_lt 50 count ≡ b → IsCount (IsOver lost) (0 + (length lost - count)) count (if b then count else 0)
  by_long true e = count_all (IsOver lost) (0 + (length lost - count)) count (λ x from below. record {
    first = length lost - count;
    count = count;
    long = ltb-true 50 count e;
    each = current.each;
    from = omega (arith, from);
    to = omega (arith, below);
  })
  by_long false e = count_none (IsOver lost) (0 + (length lost - count)) count
      (λ x from below is.
      (let few = within_it is.first is.count x is.each is.from is.to (omega (arith, from)) in
      let long = is.long in
      let short = ltb-false 50 count e in
      absurd (omega (arith, few, long, short))))

  pub over_whole : (ended : ℕ) → IsCount (IsOver lost) 0 (length lost - count) ended → AreOver lost (ended + over count)
  over_whole ended is =
      let within = current.within in
      count_moved (IsOver lost) 0 0 (count + (length lost - count)) (length lost) (ended + over count) (ended + over count) refl
      (omega (arith, within))
      refl (count_append (IsOver lost) (length lost - count) 0 count ended (over count) is (by_long (nat_lt 50 count) refl))

-- ---- moments follow
over_before : (lost : List Bool) (units : ℕ) (b : Bool) (x : ℕ) → IsOver lost x → IsOver (lost ++ replicate units b) x
over_before lost units b x is = record {
  first = is.first;
  count = is.count;
  long = is.long;
  each = λ y from below. (let there = is.each y from below in at_before lost units b y (slice_get_within lost y true there) ∙ there);
  from = is.from;
  to = is.to;
}

-- they are lost
module _ (lost : List Bool) (units count : ℕ) (current : IsCurrent lost count) where
  back_grown : (x : ℕ) → x < length lost - count → IsOver (lost ++ replicate units true) x → IsOver lost x
  back_grown x below is =
      let from = is.from in
      let long = is.long in
      elim (stretch_cases lost units count current is.first is.count (omega (arith, long)) is.each) [
        | inl each ↦ record { first = is.first; count = is.count; long = is.long; each = each; from = is.from; to = is.to }
        | inr (few, later, whole) ↦ absurd (omega (arith, later, from, below))
      ]

  pub over_grown : (ended : ℕ) → IsCount (IsOver lost) 0 (length lost - count) ended
      → IsCount (IsOver (lost ++ replicate units true)) 0 (length (lost ++ replicate units true) - (count + units)) ended
  over_grown ended is =
      let all : List Bool = lost ++ replicate units true in
      let long = all_length lost units true in
      let within = current.within in
      count_moved (IsOver all) 0 0 (length lost - count) (length all - (count + units)) ended ended refl (omega (arith, long, within)) refl
      (count_alike (IsOver lost) (IsOver all) (length lost - count) 0 ended
      (λ x from below. over_before lost units true x)
      (λ x from below. back_grown x (omega (arith, below))) is)

-- they are not lost
module _ (lost : List Bool) (units count : ℕ) (some : 0 < units) (current : IsCurrent lost count) where
  back_kept : (x : ℕ) → IsOver (lost ++ replicate units false) x → IsOver lost x
  back_kept x is = record {
    first = is.first;
    count = is.count;
    long = is.long;
    each = only_before lost units some is.first is.count is.each;
    from = is.from;
    to = is.to;
  }

  none_follows : (x : ℕ) → length lost ≤ x → IsOver (lost ++ replicate units false) x → ⊥
  none_follows x from is =
      let there = is.each x is.from is.to in
      two_answers (slice_get (lost ++ replicate units false) x) there
      (at_after lost units false x from (lost_within lost units false x there))

  pub over_kept : (ended : ℕ) → IsCount (IsOver lost) 0 (length lost - count) ended
      → IsCount (IsOver (lost ++ replicate units false)) 0 (length (lost ++ replicate units false) - 0) (ended + over count)
  over_kept ended is =
      let all : List Bool = lost ++ replicate units false in
      let long = all_length lost units false in
      let before : IsCount (IsOver all) 0 (length lost) (ended + over count) =
      count_alike (IsOver lost) (IsOver all) (length lost) 0 (ended + over count)
      (λ x from below. over_before lost units false x) (λ x from below. back_kept x) (over_whole lost count current ended is) in
      count_moved (IsOver all) 0 0 (units + length lost) (length all - 0) (ended + over count + 0) (ended + over count) refl
      (omega (arith, long)) (omega arith)
      (count_append (IsOver all) (length lost) 0 units (ended + over count) 0 before
      (count_none (IsOver all) (0 + length lost) units (λ x from below. none_follows x (omega (arith, from)))))
