-- The exchange that adds entries keeps the chronicle's rule.
use Rattle.std.proofs.Common.{◌≡◌, ℕ, ◌+◌, ◌<◌, ◌==◌, Bool, true, false, List, [], ◌∷◌, ◌++◌, length, refl, ap, sym, subst, arith, inl}
use Rattle.std.proofs.Common.{length-append, append-nil, None}
use Rattle.std.proofs.lemmas.Bool.Decides.{nat_tests}
use mathlib.Core.List.{IsPrefix}
use prog.Atomic.{either}
use Rattle.strong_apa.specs.declared.reply.Entry.{Entry}
use Rattle.logbook.specs.Pages.{Cell, View, cell, keeps, no_nib, step, Moves, Goes}
use Rattle.schedule_board.specs.Chronicles.{IsKept, AddsEntries}
use Rattle.schedule_board.proofs.Prefixes.{prefix_whole}

abbrev pub shown : List Entry → List Entry
shown log = []

abbrev pub moved : List Entry → List Entry → ℕ → Type 0
moved xs ys n = Unit {0}

abbrev pub bare : List Entry → View Entry ℕ
bare v = (v, (no_nib, None))

pub adds_goes : (log v more : List Entry) (e : Entry) (old : ℕ) → length v ≡ old → IsPrefix v log → (b : Bool) → (length log == old) ≡ b
    → Goes IsKept shown moved 0 (bare v) (λ n. either (n == old) (old + length more) n)
    (AddsEntries more (step 0 old (old + length more) e) (bare v)) ((length log, true) ∷ (0, true) ∷ []) log
adds_goes log v more e old len pre true is =
    let here : length log ≡ old = grind (arith, nat_tests) in
    let same : v ≡ log = prefix_whole v log pre (omega arith) in
    let n : either (length log == old) (old + length more) (length log)
    ≡ length (log ++ more) = rw is (omega (arith, length-append log more)) in (
      keeps,
      more,
      None,
      tt,
      record { words = ap (λ (k : ℕ). (k, true) ∷ (0, true) ∷ []) n },
      inl (refl, refl),
      rw is (ap (λ w. w ++ more) (sym same)),
    )
adds_goes log v more e old len pre false is =
    let all : log ++ [] ≡ log = append-nil log in
    let n : either (length log == old) (old + length more) (length log) ≡ length (log ++ []) = rw is (ap length (sym all)) in (
      keeps,
      [],
      None,
      tt,
      record { words = ap (λ (k : ℕ). (k, true) ∷ (0, true) ∷ []) n },
      inl (refl, refl),
      rw is tt,
    )

-- whatever the book is, the exchange adds these after all that had been seen, or finds that there were more
pub adds_moves : (v more : List Entry) (e : Entry) (old : ℕ) → length v ≡ old
    → Moves IsKept shown moved 0 (bare v) (λ n. either (n == old) (old + length more) n)
    (AddsEntries more (step 0 old (old + length more) e) (bare v))
adds_moves v more e old len cs log kept pre away =
    let P : List Cell → Type 0 = λ c. (0 < length c) × ((cell c 0).1 ≡ true)
    × Goes IsKept shown moved 0 (bare v) (λ n. either (n == old) (old + length more) n)
    (AddsEntries more (step 0 old (old + length more) e) (bare v)) c log in
    subst P (sym kept.words) (omega arith, refl, adds_goes log v more e old len pre (length log == old) refl)
