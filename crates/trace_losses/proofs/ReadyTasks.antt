-- Only tasks are ready.
use Rattle.std.proofs.Common.{◌≡◌, ℕ, zero, suc, ◌+◌, ◌<◌, ◌==◌, Bool, true, false, List, ◌∷◌, length, take, get_or, Option, None, Some}
use Rattle.std.proofs.Common.{refl, sym, ap, ◌∙◌, subst, inl, inr, arith, add-one}
use Rattle.std.specs.Prelude.{reverse, if◌then◌else◌}
use Rattle.std.proofs.lemmas.Bool.{cases_lt, eqb-true, false≢true}
use Rattle.std.proofs.lemmas.List.{take_all}
use Rattle.std.proofs.lemmas.Option.{slice_get-get_or}
use Rattle.trace_passages.specs.Passages.{ArePassages, IsMentionOf}
use Rattle.trace_passages.specs.declared.passage.Passage.{Passage}
use Rattle.trace_passages.specs.declared.passage.Readiness.{Readiness}
use Rattle.trace_losses.specs.Passages.{ready_after_passages, ready_by}
use Rattle.trace_losses.proofs.Passed.{no_passage, earlier_more}

chosen : (tasks t : ℕ) (mention : Readiness) (before b : Bool) → (mention.task == t) ≡ b → mention.task < tasks
    → (if b then mention.is_in else before) ≡ true → (before ≡ true → t < tasks) → t < tasks
chosen tasks t mention before true same within is rest = let task = eqb-true mention.task t same in omega (arith, task, within)
chosen tasks t mention before false same within is rest = rest is

by_mention : (tasks t : ℕ) (mention : Option Readiness) (before : Bool) → IsMentionOf tasks mention → ready_by mention t before ≡ true
    → (before ≡ true → t < tasks) → t < tasks
by_mention tasks t None before of is rest = rest is
by_mention tasks t (Some mention) before of is rest = chosen tasks t mention before (mention.task == t) refl (of mention refl) is rest

pub ready_within : (tasks threads : ℕ) (passages : List Passage) → ArePassages tasks threads passages → (n t : ℕ)
    → ready_after_passages (reverse (take n passages)) t ≡ true → t < tasks
ready_within tasks threads passages are zero t is = absurd (false≢true is)
ready_within tasks threads passages are (suc n) t is = elim (cases_lt n (length passages)) [
  | inl below ↦ (
      let passage : Passage = get_or passages n no_passage in
      let there = are.each n passage (slice_get-get_or passages n no_passage below) in
      let earlier : List Passage = reverse (take n passages) in
      let next : reverse (take (suc n) passages) ≡ passage ∷ earlier =
      ap (λ (m : ℕ). reverse (take m passages)) (sym (add-one n)) ∙ earlier_more passages n no_passage below in
      let ready : ready_after_passages (passage ∷ earlier) t ≡ true = sym (ap (λ (list : List Passage). ready_after_passages list t) next)
      ∙ is in
      by_mention tasks t passage.second (ready_by passage.first t (ready_after_passages earlier t)) there.second ready
      (λ one. by_mention tasks t passage.first (ready_after_passages earlier t) there.first one
      (λ before. ready_within tasks threads passages are n t before)))
  | inr beyond ↦ (
      let all : take (suc n) passages ≡ take n passages =
      take_all (suc n) passages (omega (arith, beyond)) ∙ sym (take_all n passages beyond) in
      ready_within tasks threads passages are n t (sym (ap (λ (list : List Passage). ready_after_passages (reverse list) t) all) ∙ is))
]
