-- Who runs at a moment, by who runs before the passages that come later.
use Rattle.std.proofs.Common.{◌≡◌, ℕ, ◌<◌, true, false, List, take, drop, get_or, Option, Some, sym, ap, ◌∙◌, subst, inl, inr, arith}
use Rattle.std.proofs.Common.{IsTrue}
use Rattle.std.specs.Prelude.{◌↔◌, reverse, slice_get}
use Rattle.std.specs.Option.{is_some}
use Rattle.std.proofs.lemmas.Bool.{cases_lt, false≢true}
use Rattle.std.proofs.lemmas.Option.{slice_get-get_or}
use Rattle.trace_losses.specs.Jobs.{RunsAt}
use Rattle.trace_losses.specs.Passages.{IsCut, RunsBetween, turns_of}
use Rattle.trace_losses.specs.Walk.{held_at_end}
use Rattle.trace_losses.specs.Runs.{IsArmed, holds, runs, runs_between}
use Rattle.trace_passages.specs.declared.passage.Passage.{Passage}
use Rattle.trace_passages.specs.declared.turn.Turn.{Turn}
use Rattle.trace_losses.proofs.Passed.{no_passage, turns_of_all}
use Rattle.trace_losses.proofs.BackOne.{on_some}

-- as many passages have come at a moment as have come
never_fewer : (passages : List Passage) (x n k : ℕ) → IsCut passages x n → IsCut passages x k → n < k → ⊥
never_fewer passages x n k one other less =
    let within = other.within in
    let there = slice_get-get_or passages n no_passage (omega (arith, within, less)) in
    let come = other.come n (get_or passages n no_passage) less there in
    let later = one.later n (get_or passages n no_passage) (omega arith) there in
    omega (arith, come, later)

pub one_cut : (passages : List Passage) (x n k : ℕ) → IsCut passages x n → IsCut passages x k → n ≡ k
one_cut passages x n k one other = elim (cases_lt n k) [
  | inl less ↦ absurd (never_fewer passages x n k one other less)
  | inr from ↦ elim (cases_lt k n) [
    | inl more ↦ absurd (never_fewer passages x k n other one more)
    | inr to ↦ omega (arith, from, to)
  ]
]

module _ (passages : List Passage) (i t x : ℕ) (on : List (Option ℕ)) (o : Option ℕ) (cut : IsCut passages x i)
    (armed : IsArmed (held_at_end passages) (turns_of (drop i passages)) on) (is : slice_get on t ≡ Some o) where
  between_is : IsTrue (is_some o) ↔ RunsBetween (reverse (take i passages)) (drop i passages) t
  between_is =
      on_some o (λ (p : ℕ). runs_between (turns_of (reverse (take i passages))) (turns_of (drop i passages)) t p)
      (λ p. armed t o p is ∙ ap (λ (turns : List Turn). runs (holds turns) (turns_of (drop i passages)) t p) (turns_of_all passages i))

  pub runs_there : is_some o ≡ true → RunsAt passages t x
  runs_there e = record { n = i; cut = cut; between = between_is.0 e }

  pub rests_there : is_some o ≡ false → RunsAt passages t x → ⊥
  rests_there e runs =
      false≢true
      (sym e
      ∙ between_is.1
      (subst (λ (n : ℕ). RunsBetween (reverse (take n passages)) (drop n passages) t) (one_cut passages x runs.n i runs.cut cut)
      runs.between))
