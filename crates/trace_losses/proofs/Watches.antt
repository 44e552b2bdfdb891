-- A watch goes on by equal moments.
use Rattle.std.proofs.Common.{◌≡◌, ℕ, ◌+◌, ◌-◌, ◌<◌, ◌≤◌, List, [], ◌++◌, length, get_or, take, drop, Option, Some, sym, ap, ◌∙◌, subst}
use Rattle.std.proofs.Common.{inl, inr, arith, append-nil}
use Rattle.std.specs.Prelude.{replicate, slice_get, min, count_by}
use Rattle.std.proofs.Math.Seq.{take-append-add, drop-append-add}
use Rattle.std.proofs.lemmas.Bool.{cases_lt}
use Rattle.std.proofs.lemmas.List.{length-drop, take-append-le, drop-append-le, take-replicate, drop-replicate, take_all, drop_all}
use Rattle.std.proofs.lemmas.List.{length-replicate, get_or-replicate}
use Rattle.std.proofs.lemmas.Option.{slice_get-get_or, slice_get_within}
use Rattle.trace_losses.specs.Book.{nothing_seen, of_task}
use Rattle.trace_losses.specs.Tally.{more}
use Rattle.trace_losses.specs.Watch.{is_rival, during, IsWatch, AreAtMost, overlap, AreMore}
use Rattle.trace_losses.specs.declared.seen.Seen.{Seen}
use Rattle.trace_losses.specs.declared.tally.Stretch.{Stretch}
use Rattle.trace_losses.proofs.Tallies.{count_more, count_within}
use Rattle.trace_losses.proofs.Books.{task_more}

-- ---- the moments of a stretch
module _ {A : Type 0} (moments : List A) (units : ℕ) (seen : A) where
  same_many : (one other : ℕ) → one ≡ other → replicate one seen ≡ replicate other seen
  same_many one other e = ap (λ (n : ℕ). replicate n seen) e

  dropped : (first : ℕ) → drop first (moments ++ replicate units seen) ≡ drop first moments
      ++ replicate (units - (first - length moments)) seen
  dropped first = elim (cases_lt (length moments) first) [
    | inr before ↦
        drop-append-le first moments (replicate units seen) before
        ∙ ap (λ (rest : List A). drop first moments ++ rest) (same_many units (units - (first - length moments)) (omega (arith, before)))
    | inl after ↦ (
        let place : first ≡ length moments + (first - length moments) = omega (arith, after) in
        let none : drop first moments ≡ [] = drop_all first moments (omega (arith, after)) in
        ap (λ (n : ℕ). drop n (moments ++ replicate units seen)) place
        ∙ drop-append-add moments (replicate units seen) (first - length moments)
        ∙ drop-replicate (first - length moments) units seen
        ∙ sym (ap (λ (front : List A). front ++ replicate (units - (first - length moments)) seen) none))
  ]

  taken_some : (count : ℕ) → take count (replicate units seen) ≡ replicate (min count units) seen
  taken_some count = elim (cases_lt units count) [
    | inr fewer ↦ take-replicate count units seen fewer ∙ same_many count (min count units) (omega (arith, fewer))
    | inl all ↦ (
        let long : length (replicate units seen) ≡ units = length-replicate units seen in
        take_all count (replicate units seen) (omega (arith, long, all)) ∙ same_many units (min count units) (omega (arith, all)))
  ]

  taken : (count : ℕ) → take count (moments ++ replicate units seen) ≡ take count moments ++ replicate (min (count - length moments) units)
      seen
  taken count = elim (cases_lt (length moments) count) [
    | inr within ↦ (
        let none : 0 ≡ min (count - length moments) units = omega (arith, within) in
        take-append-le count moments (replicate units seen) within
        ∙ sym (append-nil (take count moments))
        ∙ ap (λ (rest : List A). take count moments ++ rest) (same_many 0 (min (count - length moments) units) none))
    | inl beyond ↦ (
        let place : count ≡ length moments + (count - length moments) = omega (arith, beyond) in
        let all : take count moments ≡ moments = take_all count moments (omega (arith, beyond)) in
        ap (λ (n : ℕ). take n (moments ++ replicate units seen)) place
        ∙ take-append-add moments (replicate units seen) (count - length moments)
        ∙ ap (λ (rest : List A). moments ++ rest) (taken_some (count - length moments))
        ∙ sym (ap (λ (front : List A). front ++ replicate (min (count - length moments) units) seen) all))
  ]

during_more : {A : Type 0} (stretch : Stretch) (moments : List A) (units : ℕ) (seen : A)
    → during stretch (moments ++ replicate units seen) ≡ during stretch moments ++ replicate (overlap stretch (length moments) units) seen
during_more {A} stretch moments units seen =
    let there : ℕ = units - (stretch.first - length moments) in
    let front : List A = drop stretch.first moments in
    let long : length front ≡ length moments - stretch.first = length-drop stretch.first moments in
    ap (take stretch.count) (dropped moments units seen stretch.first)
    ∙ taken front there seen stretch.count
    ∙ ap (λ (n : ℕ). take stretch.count front ++ replicate (min (stretch.count - n) there) seen) long

-- ---- counts
same_count : (one other : ℕ) → ◌≡◌ {A = Option ℕ} (Some one) (Some other) → one ≡ other
same_count one other e = cc

module _ (old new : List ℕ) (seen : List Seen) (units done : ℕ) (counted : AreMore old new seen units done) (all : done ≡ length old) where
  -- each count is one of before, with these moments more
  pub came : (t : ℕ) (count : ℕ) → slice_get new t ≡ Some count
      → (before : ℕ) × (slice_get old t ≡ Some before) × (more (is_rival (get_or seen t nothing_seen)) before units ≡ count)
  came t count is =
      let within = slice_get_within new t count is in
      let same = counted.same in
      let below : t < length old = omega (arith, within, same) in
      let before : ℕ = get_or old t count in
      let was = slice_get-get_or old t count below in
      let now = counted.counted t before (omega (arith, below, all)) was in
      (before, was, same_count (more (is_rival (get_or seen t nothing_seen)) before units) count (sym now ∙ is))

pub watch_more : (stretch : Stretch) (moments : List (List Seen)) (old new : List ℕ) (seen : List Seen) (units before done : ℕ)
    → before ≡ length moments → AreMore old new seen (overlap stretch before units) done → done ≡ length old
    → IsWatch stretch moments old → IsWatch stretch (moments ++ replicate units seen) new
watch_more stretch moments old new seen units before done place counted all watch t count is =
    let some : ℕ = overlap stretch before units in
    let found = came old new seen some done counted all t count is in
    let at : Seen = get_or seen t nothing_seen in
    let whole : of_task t (during stretch (moments ++ replicate units seen)) ≡ of_task t (during stretch moments) ++ replicate some at =
    ap (of_task t) (during_more stretch moments units seen)
    ∙ ap (λ (n : ℕ). of_task t (during stretch moments ++ replicate (overlap stretch n units) seen)) (sym place)
    ∙ task_more t some (during stretch moments) seen in
    sym found.2
    ∙ count_more is_rival (of_task t (during stretch moments)) some found.0 at (watch t found.0 found.1)
    ∙ ap (count_by is_rival) (sym whole)

pub most_more : (old new : List ℕ) (seen : List Seen) (units some most done : ℕ)
    → some ≤ units → AreMore old new seen some done → done ≡ length old
    → AreAtMost most old → AreAtMost (most + units) new
most_more old new seen units some most done few counted all kept t count is =
    let found = came old new seen some done counted all t count is in
    let within = count_within (is_rival (get_or seen t nothing_seen)) found.0 most some (kept t found.0 found.1) in
    let same = found.2 in
    omega (arith, within, same, few)

-- ---- no moment
pub none_counted : (counts : List ℕ) (tasks : ℕ) → counts ≡ replicate tasks 0 → (t count : ℕ) → slice_get counts t ≡ Some count → count ≡ 0
none_counted counts tasks none t count is =
    let zeros : List ℕ = replicate tasks 0 in
    let there : slice_get zeros t ≡ Some count = subst (λ (all : List ℕ). slice_get all t ≡ Some count) none is in
    let within = slice_get_within zeros t count there in
    let long : length zeros ≡ tasks = length-replicate tasks 0 in
    let zero_there : get_or zeros t 0 ≡ 0 = get_or-replicate tasks t 0 0 (omega (arith, within, long)) in
    same_count count 0 (sym there ∙ slice_get-get_or zeros t 0 within ∙ ap Some zero_there)

none_during : (stretch : Stretch) → during {A = List Seen} stretch [] ≡ []
none_during stretch =
    ap {B = List (List Seen)} (take stretch.count) (drop_all {X = List Seen} stretch.first [] (omega arith))
    ∙ take_all {A = List Seen} stretch.count [] (omega arith)

pub watch_none : (stretch : Stretch) (counts : List ℕ) (tasks : ℕ) → counts ≡ replicate tasks 0 → IsWatch stretch [] counts
watch_none stretch counts tasks none t count is =
    none_counted counts tasks none t count is
    ∙ sym (ap (λ (moments : List (List Seen)). count_by is_rival (of_task t moments)) (none_during stretch))
