-- Lost moments and their stretches, where some equal moments follow.
use Rattle.std.proofs.Common.{◌≡◌, ℕ, ◌+◌, ◌-◌, ◌<◌, ◌≤◌, ◌⊎◌, Bool, true, false, nat_lt, List, ◌++◌, length, get_or, Option, Some, refl}
use Rattle.std.proofs.Common.{sym, ap, ◌∙◌, inl, inr, arith, length-append}
use Rattle.std.specs.Prelude.{replicate, slice_get, if◌then◌else◌}
use Rattle.std.proofs.lemmas.Bool.{cases_lt, ltb-true, ltb-false}
use Rattle.std.proofs.lemmas.List.{length-replicate, get_or-replicate, get_or_append_left, get_or-append-add}
use Rattle.std.proofs.lemmas.Option.{slice_get-get_or, slice_get_within}
use Rattle.trace_losses.specs.declared.tally.Stretch.{Stretch}
use Rattle.trace_losses.specs.Moments.{IsLostFrom, IsCurrent, IsLongest}
use Rattle.trace_losses.specs.Tally.{longer}

-- ---- moments before and among those that follow
module _ (lost : List Bool) (units : ℕ) (b : Bool) where
  abbrev all : List Bool
  all = lost ++ replicate units b

  pub all_length : length all ≡ length lost + units
  all_length = length-append lost (replicate units b) ∙ ap (λ (n : ℕ). length lost + n) (length-replicate units b)

  pub at_before : (x : ℕ) → x < length lost → slice_get all x ≡ slice_get lost x
  at_before x below =
      let long = all_length in
      let within : x < length all = omega (arith, long, below) in
      slice_get-get_or all x false within
      ∙ ap Some (get_or_append_left lost (replicate units b) false x below)
      ∙ sym (slice_get-get_or lost x false below)

  pub at_after : (x : ℕ) → length lost ≤ x → x < length lost + units → slice_get all x ≡ Some b
  at_after x from below =
      let long = all_length in
      let within : x < length all = omega (arith, long, below) in
      let place : length lost + (x - length lost) ≡ x = omega arith in
      let there : get_or all x false ≡ b =
      ap (λ (n : ℕ). get_or all n false) (sym place)
      ∙ get_or-append-add lost (replicate units b) (x - length lost) false
      ∙ get_or-replicate units (x - length lost) b false (omega (arith, from, below)) in
      slice_get-get_or all x false within ∙ ap Some there

  -- a stretch of lost moments stands within them
  pub lost_within : (x : ℕ) → slice_get all x ≡ Some true → x < length lost + units
  lost_within x is = let within = slice_get_within all x true is in let long = all_length in omega (arith, within, long)

pub two_answers : {A : Type 0} (o : Option Bool) → o ≡ Some true → o ≡ Some false → A
two_answers o one other = differ (sym one ∙ other)
  where
    differ : {A : Type 0} → ◌≡◌ {A = Option Bool} (Some true) (Some false) → A
    differ e = cc

-- ---- lost moments follow
module _ (lost : List Bool) (units count : ℕ) (current : IsCurrent lost count) where
  abbrev longer_list : List Bool
  longer_list = lost ++ replicate units true

  grown_each : IsLostFrom longer_list (length longer_list - (count + units)) (count + units)
  grown_each x from below =
      let long = all_length lost units true in
      let within = current.within in
      elim (cases_lt x (length lost)) [
        | inl before ↦ at_before lost units true x before ∙ current.each x (omega (arith, long, from, within))
            (omega (arith, before, within))
        | inr after ↦ at_after lost units true x after (omega (arith, long, below, within))
      ]

  pub grown : IsCurrent longer_list (count + units)
  grown =
      let long = all_length lost units true in
      let within = current.within in
      record {
        within = omega (arith, long, within);
        each = grown_each;
        before = λ x place.
            (let place_before : x + 1 + count ≡ length lost = omega (arith, long, place) in
            at_before lost units true x (omega (arith, place_before)) ∙ current.before x place_before);
      }

  -- a stretch that goes on into them begins no earlier than the one up to the last moment
  no_earlier : (first many : ℕ) → IsLostFrom longer_list first many → length lost < first + many → length lost ≤ first + count
  no_earlier first many each beyond = elim (cases_lt (first + count) (length lost)) [
    | inr later ↦ later
    | inl earlier ↦ (
        let x : ℕ = length lost - count - 1 in
        let place : x + 1 + count ≡ length lost = omega (arith, earlier) in
        let below : x < length lost = omega (arith, place) in
        let lost_there = each x (omega (arith, place, earlier)) (omega (arith, place, beyond)) in
        two_answers (slice_get lost x) (sym (at_before lost units true x below) ∙ lost_there) (current.before x place))
  ]

  -- a stretch is one of before, or is not longer than the one up to the last moment
  pub stretch_cases : (first many : ℕ) → 0 < many → IsLostFrom longer_list first many
      → IsLostFrom lost first many ⊎ ((many ≤ count + units) × (length lost ≤ first + count) × (first + many ≤ length lost + units))
  stretch_cases first many some each = elim (cases_lt (length lost) (first + many)) [
    | inl beyond ↦ (
        let last = lost_within lost units true (first + many - 1) (each (first + many - 1) (omega (arith, some)) (omega (arith, some))) in
        let later = no_earlier first many each beyond in
        inr (omega (arith, last, later, some), later, omega (arith, last, some)))
    | inr before ↦ inl (λ x from below. sym (at_before lost units true x (omega (arith, below, before))) ∙ each x from below)
  ]

  module _ (stretch : Stretch) (longest : IsLongest lost stretch) (n : ℕ) (count_is : n ≡ length lost) where
    -- the longest stretch ends before they begin
    ends : 0 < stretch.count → stretch.first + stretch.count ≤ length lost
    ends some =
        let last = slice_get_within lost (stretch.first + stretch.count - 1) true
        (longest.each (stretch.first + stretch.count - 1) (omega (arith, some)) (omega (arith, some))) in
        omega (arith, last, some)

    by_longer : (b : Bool) → nat_lt stretch.count (count + units) ≡ b
        → IsLongest longer_list (if b then record { first = n + units - (count + units); count = count + units } else stretch)
    by_longer true e =
        let below = ltb-true stretch.count (count + units) e in
        let long = all_length lost units true in
        let within = current.within in
        record {
          each = λ x from under. grown_each x (omega (arith, long, from, count_is)) (omega (arith, long, under, count_is, within));
          longest = λ first many some each. elim (stretch_cases first many some each) [
            | inl before ↦ elim (longest.longest first many some before) [
              | inl less ↦ inl (omega (arith, less, below))
              | inr same ↦ inl (let as_many = same.0 in omega (arith, as_many, below))
            ]
            | inr (few, later, whole) ↦ elim (cases_lt many (count + units)) [
              | inl less ↦ inl less
              | inr full ↦ inr (omega (arith, few, full), omega (arith, later, count_is, within))
            ]
          ];
          none = λ empty. absurd (omega (arith, empty, below));
        }
    by_longer false e =
        let above = ltb-false stretch.count (count + units) e in
        record {
          each = λ x from under. (let there = longest.each x from under in at_before lost units true x (slice_get_within lost x true there)
              ∙ there);
          longest = λ first many some each. elim (stretch_cases first many some each) [
            | inl before ↦ longest.longest first many some before
            | inr (few, later, whole) ↦ elim (cases_lt many stretch.count) [
              | inl less ↦ inl less
              | inr full ↦ inr (
                omega (arith, few, full, above),
                (let last = ends (omega (arith, some, few, above)) in omega (arith, later, last, few, full, above)),
              )
            ]
          ];
          none = longest.none;
        }

    pub longest_grown : IsLongest longer_list (longer stretch (record { first = n + units - (count + units); count = count + units }))
    longest_grown = by_longer (nat_lt stretch.count (count + units)) refl

-- ---- moments follow that are not lost
module _ (lost : List Bool) (units : ℕ) (some : 0 < units) where
  abbrev kept_list : List Bool
  kept_list = lost ++ replicate units false

  pub ended : IsCurrent kept_list 0
  ended =
      let long = all_length lost units false in
      record {
        within = omega arith;
        each = λ x from below. absurd (omega (arith, from, below));
        before = λ x place. at_after lost units false x (omega (arith, long, place, some)) (omega (arith, long, place));
      }

  pub only_before : (first many : ℕ) → IsLostFrom kept_list first many → IsLostFrom lost first many
  only_before first many each x from below = elim (cases_lt x (length lost)) [
    | inl before ↦ sym (at_before lost units false x before) ∙ each x from below
    | inr after ↦
        two_answers (slice_get kept_list x) (each x from below)
        (at_after lost units false x after (lost_within lost units false x (each x from below)))
  ]

  module _ (stretch : Stretch) (longest : IsLongest lost stretch) (n : ℕ) where
    by_none : (b : Bool) → nat_lt stretch.count 0 ≡ b
        → IsLongest kept_list (if b then record { first = n + units - 0; count = 0 } else stretch)
    by_none true e = let below = ltb-true stretch.count 0 e in absurd (omega (arith, below))
    by_none false e = record {
      each = λ x from under. (let there = longest.each x from under in at_before lost units false x (slice_get_within lost x true there)
          ∙ there);
      longest = λ first many some each. longest.longest first many some (only_before first many each);
      none = longest.none;
    }

    pub longest_kept : IsLongest kept_list (longer stretch (record { first = n + units - 0; count = 0 }))
    longest_kept = by_none (nat_lt stretch.count 0) refl
