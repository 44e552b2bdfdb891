-- Watches go on together.
use Rattle.std.proofs.Common.{◌≡◌, ℕ, ◌+◌, ◌<◌, ◌≤◌, ◌^◌, List, [], ◌∷◌, ◌++◌, length, get_or, set, vec_len, Some, sym, ap, ◌∙◌, subst, inl}
use Rattle.std.proofs.Common.{inr, arith, length-append, length-set}
use Rattle.std.specs.Prelude.{replicate, slice_get}
use Rattle.std.proofs.lemmas.Bool.{cases_eq, cases_lt}
use Rattle.std.proofs.lemmas.List.{length-replicate, get_or-set_same, get_or-set_other, get_or-map, length-map, ext_get_or}
use Rattle.std.proofs.lemmas.Option.{same_Some, slice_get-get_or, slice_get_past, slice_get_within, get_or_from_slice_get}
use Rattle.trace_losses.specs.Watch.{IsWatch, IsWatchOf, AreAtMost, AreWatches, CanPass, WatchPasses, WatchesPass, stretches_of}
use Rattle.trace_losses.specs.declared.seen.Seen.{Seen}
use Rattle.trace_losses.specs.declared.tally.Stretch.{Stretch}
use Rattle.trace_losses.specs.declared.tally.Tally.{Tally}
use Rattle.trace_losses.specs.declared.watch.StretchWatch.{StretchWatch}

-- what stands for a tally where there is none
abbrev pub no_tally : Tally
no_tally = record { moments = 0; ready = 0; served = 0; lost = 0; current = 0; ended = 0; longest = record { first = 0; count = 0 } }

pub goes_on : (tasks : ℕ) (moments : List (List Seen)) (units : ℕ) (seen : List Seen) (old new : StretchWatch) → IsWatchOf tasks moments old
    → IsWatch old.stretch (moments ++ replicate units seen) new.counts.items → new.stretch ≡ old.stretch
    → AreAtMost new.moments new.counts.items → new.moments ≡ old.moments + units → vec_len new.counts ≡ vec_len old.counts
    → IsWatchOf tasks (moments ++ replicate units seen) new
goes_on tasks moments units seen old new is counted stretch kept all width = record {
  counted = subst (λ (s : Stretch). IsWatch s (moments ++ replicate units seen) new.counts.items) (sym stretch) counted;
  kept = kept;
  all =
      all ∙ ap (λ (n : ℕ). n + units) is.all
      ∙ sym (length-append moments (replicate units seen) ∙ ap (λ (n : ℕ). length moments + n) (length-replicate units seen));
  width = width ∙ is.width;
}

-- one watch more
pub one_passed : (units : ℕ) (seen : List Seen) (old now : List StretchWatch) (t : ℕ) (was next : StretchWatch)
    → WatchesPass units seen old now t
    → slice_get now t ≡ Some was → WatchPasses units seen was next → WatchesPass units seen old (set now t next) (t + 1)
one_passed units seen old now t was next before is passes =
    let within = slice_get_within now t was is in
    let long = length-set now t next in
    record {
      same = length-set now t next ∙ before.same;
      passed = λ u watch below there. elim (cases_eq u t) [
        | inl same ↦ (
            let here : slice_get (set now t next) u ≡ Some next =
            slice_get-get_or (set now t next) u next (omega (arith, same, within, long))
            ∙ ap Some (ap (λ (n : ℕ). get_or (set now t next) n next) same ∙ get_or-set_same now t next next within) in
            let read : watch ≡ was =
            same_Some watch was
            (sym there ∙ ap (slice_get old) same ∙ sym (before.waiting t (omega arith)) ∙ is) in
            (next, here, subst (λ (w : StretchWatch). WatchPasses units seen w next) (sym read) passes))
        | inr differs ↦ (
            let found = before.passed u watch (omega (arith, below, differs)) there in
            (found.0, untouched u found.0 differs found.1, found.2))
      ];
      waiting = λ u from. passed_by u (λ same. absurd (omega (arith, from, same))) ∙ before.waiting u (omega (arith, from));
    }
  where
    passed_by : (u : ℕ) → (u ≡ t → ⊥) → slice_get (set now t next) u ≡ slice_get now u
    passed_by u differs = elim (cases_lt u (length now)) [
      | inl below ↦
          slice_get-get_or (set now t next) u next (let long = length-set now t next in omega (arith, below, long))
          ∙ ap Some (get_or-set_other now t u next next differs) ∙ sym (slice_get-get_or now u next below)
      | inr beyond ↦ slice_get_past (set now t next) u (let long = length-set now t next in omega (arith, beyond, long))
          ∙ sym (slice_get_past now u beyond)
    ]

    untouched : (u : ℕ) (w : StretchWatch) → (u ≡ t → ⊥) → slice_get now u ≡ Some w → slice_get (set now t next) u ≡ Some w
    untouched u w differs is_w = passed_by u differs ∙ is_w

-- all of them
pub all_passed : (units : ℕ) (seen : List Seen) (old new : List StretchWatch) (tasks : ℕ) (moments : List (List Seen))
    → WatchesPass units seen old new (length old) → AreWatches tasks moments old → AreWatches tasks (moments ++ replicate units seen) new
all_passed units seen old new tasks moments passed are t watch is =
    let within = slice_get_within new t watch is in
    let same = passed.same in
    let below : t < length old = omega (arith, within, same) in
    let was : StretchWatch = get_or old t watch in
    let there = slice_get-get_or old t watch below in
    let found = passed.passed t was below there in
    subst (IsWatchOf tasks (moments ++ replicate units seen)) (same_Some found.0 watch (sym found.1 ∙ is))
    (found.2.goes_on tasks moments (are t was there))

pub stretches_stay : (units : ℕ) (seen : List Seen) (old new : List StretchWatch) → WatchesPass units seen old new (length old)
    → stretches_of new ≡ stretches_of old
stretches_stay units seen old new passed =
    let stretch : StretchWatch → Stretch = λ (watch : StretchWatch). watch.stretch in
    let none : Stretch = record { first = 0; count = 0 } in
    let long_new = length-map new stretch in
    let long_old = length-map old stretch in
    ext_get_or none (stretches_of new) (stretches_of old) (long_new ∙ passed.same ∙ sym long_old)
    (λ t below.
    (let in_new : t < length new = omega (arith, below, long_new) in
    let same = passed.same in
    let in_old : t < length old = omega (arith, in_new, same) in
    let d : StretchWatch = get_or new t (first_of new t in_new) in
    let was : StretchWatch = get_or old t d in
    let found = passed.passed t was in_old (slice_get-get_or old t d in_old) in
    get_or-map stretch new t d none in_new
    ∙ ap stretch (get_or_from_slice_get new t found.0 d found.1)
    ∙ found.2.stretch ∙ sym (get_or-map stretch old t d none in_old)))
  where
    first_of : (watches : List StretchWatch) (t : ℕ) → t < length watches → StretchWatch
    first_of [] t below = absurd (omega arith)
    first_of (watch ∷ rest) t below = watch

pub can_pass : (units : ℕ) (seen : List Seen) (watches : List StretchWatch) (tasks : ℕ) (moments : List (List Seen))
    → AreWatches tasks moments watches
    → tasks ≤ length seen → length moments + units < 2 ^ 64 → CanPass units seen watches
can_pass units seen watches tasks moments are fits room t watch is =
    let of = are t watch is in
    let all = of.all in
    let width = of.width in
    record { width = omega (arith, width, fits); room = omega (arith, all, room); kept = of.kept }

-- where a watch that went on is one that can
pub can_now : (units : ℕ) (seen : List Seen) (old now : List StretchWatch) (t : ℕ) (watch : StretchWatch) → CanPass units seen old
    → WatchesPass units seen old now t → slice_get now t ≡ Some watch → slice_get old t ≡ Some watch
can_now units seen old now t watch can passed is = sym (passed.waiting t (omega arith)) ∙ is
