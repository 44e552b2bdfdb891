-- A book goes on by equal moments.
use Rattle.std.proofs.Common.{◌≡◌, ℕ, zero, suc, ◌+◌, ◌<◌, List, [], ◌∷◌, ◌++◌, length, get_or, Option, Some, refl, sym, ap, ◌∙◌, subst}
use Rattle.std.proofs.Common.{inl, inr, arith, length-append}
use Rattle.std.specs.Prelude.{replicate, slice_get}
use Rattle.std.proofs.Math.Seq.{get_or-append_seam}
use Rattle.std.proofs.lemmas.Bool.{cases_lt}
use Rattle.std.proofs.lemmas.List.{map-append, get_or_append_left}
use Rattle.std.proofs.lemmas.Option.{slice_get-get_or, slice_get_within}
use Rattle.trace_losses.specs.Book.{nothing_seen, of_task, IsBook, AreKept, IsPassed}
use Rattle.trace_losses.specs.Moments.{IsTally}
use Rattle.trace_losses.specs.Tally.{IsWithin, tally_after}
use Rattle.trace_losses.specs.declared.seen.Seen.{Seen}
use Rattle.trace_losses.specs.declared.tally.Tally.{Tally}
use Rattle.trace_losses.proofs.Tallies.{tally_more, within_more}

same_some : (one other : Tally) → ◌≡◌ {A = Option Tally} (Some one) (Some other) → one ≡ other
same_some one other e = cc

-- ---- one tally more
pub each_pushed : (Is : Tally → Type 0) (tallies : List Tally) (last : Tally)
    → ((t : ℕ) (tally : Tally) → slice_get tallies t ≡ Some tally → Is tally) → Is last
    → (t : ℕ) (tally : Tally) → slice_get (tallies ++ last ∷ []) t ≡ Some tally → Is tally
each_pushed Is tallies last each of_last t tally is =
    let all : List Tally = tallies ++ last ∷ [] in
    let within = slice_get_within all t tally is in
    elim (cases_lt t (length tallies)) [
      | inl before ↦
          each t tally
          (slice_get-get_or tallies t last before ∙ ap Some (sym (get_or_append_left tallies (last ∷ []) last t before))
          ∙ sym (slice_get-get_or all t last within) ∙ is)
      | inr from ↦ (
          let long = length-append tallies (last ∷ []) in
          let place : length tallies ≡ t = omega (arith, long, within, from) in
          let there : last ≡ tally =
          same_some last tally
          (ap Some (sym (get_or-append_seam tallies last [] last) ∙ ap (λ (n : ℕ). get_or all n last) place)
          ∙ sym (slice_get-get_or all t last within) ∙ is) in
          subst Is there of_last)
    ]

-- ---- moments more
map_same : (t units : ℕ) (seen : List Seen)
    → of_task t (replicate units seen) ≡ replicate units (get_or seen t nothing_seen)
map_same t zero seen = refl
map_same t (suc units) seen = ap (λ (rest : List Seen). get_or seen t nothing_seen ∷ rest) (map_same t units seen)

pub task_more : (t units : ℕ) (moments : List (List Seen)) (seen : List Seen)
    → of_task t (moments ++ replicate units seen) ≡ of_task t moments ++ replicate units (get_or seen t nothing_seen)
task_more t units moments seen =
    map-append (λ (at : List Seen). get_or at t nothing_seen) moments (replicate units seen)
    ∙ ap (λ (rest : List Seen). of_task t moments ++ rest) (map_same t units seen)

module _ (old new : List Tally) (seen : List Seen) (units done : ℕ) (passed : IsPassed old new seen units done)
    (all : done ≡ length old) where
  -- each tally is one of before, after these moments
  came : (t : ℕ) (tally : Tally) → slice_get new t ≡ Some tally
      → (before : Tally) × (slice_get old t ≡ Some before) × (tally_after before units (get_or seen t nothing_seen) ≡ tally)
  came t tally is =
      let within = slice_get_within new t tally is in
      let same = passed.same in
      let below : t < length old = omega (arith, within, same) in
      let before : Tally = get_or old t tally in
      let was = slice_get-get_or old t tally below in
      let now = passed.passed t before (omega (arith, below, all)) was in
      (before, was, same_some (tally_after before units (get_or seen t nothing_seen)) tally (sym now ∙ is))

  pub book_more : (moments : List (List Seen)) → 0 < units → IsBook moments old → IsBook (moments ++ replicate units seen) new
  book_more moments some book t tally is =
      let found = came t tally is in
      let at : Seen = get_or seen t nothing_seen in
      let more = tally_more (of_task t moments) found.0 units at some (book t found.0 found.1) in
      subst (λ (tally : Tally). IsTally (of_task t (moments ++ replicate units seen)) tally) found.2
      (subst (λ (all : List Seen). IsTally all (tally_after found.0 units at)) (sym (task_more t units moments seen)) more)

  pub kept_more : (moments : ℕ) → AreKept moments old → AreKept (moments + units) new
  kept_more moments kept t tally is =
      let found = came t tally is in
      let at : Seen = get_or seen t nothing_seen in
      let was = kept t found.0 found.1 in
      let P : Tally → Type 0 = λ tally. IsWithin tally × (tally.moments ≡ moments + units) in
      subst P found.2 (within_more found.0 units at was.0, ap (λ (n : ℕ). n + units) was.1)
