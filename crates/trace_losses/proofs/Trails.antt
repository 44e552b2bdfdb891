-- The trail of passages grows by a step back.
use Rattle.std.proofs.Common.{◌≡◌, ℕ, ◌+◌, ◌-◌, ◌<◌, List, [], ◌∷◌, ◌++◌, length, drop, get_or, Option, Some, refl, sym, ap, ◌∙◌, subst}
use Rattle.std.proofs.Common.{arith}
use Rattle.std.specs.Prelude.{slice_get}
use Rattle.std.specs.Option.{ForSome}
use Rattle.std.proofs.lemmas.Option.{get_or_from_slice_get}
use Rattle.trace_losses.specs.Passages.{turns_of}
use Rattle.trace_losses.specs.Runs.{IsArmed, restored_by}
use Rattle.trace_losses.specs.Walk.{AreFormers, Restores, held_at_end}
use Rattle.trace_losses.specs.declared.former.Former.{Former}
use Rattle.trace_passages.specs.declared.passage.Passage.{Passage}
use Rattle.trace_losses.proofs.Appended.{each_pushed}
use Rattle.trace_losses.proofs.Passed.{no_passage}
use Rattle.trace_losses.proofs.Restored.{one_armed}

module _ (passages : List Passage) (threads i : ℕ) (old new : List (Option ℕ)) (former : Former) (below : i < length passages)
    (count : length new ≡ threads)
    (armed_old : IsArmed (held_at_end passages) (turns_of (drop (length passages - i) passages)) old)
    (armed_new : IsArmed (held_at_end passages) (turns_of (drop (length passages - (i + 1)) passages)) new)
    (within : ForSome former.stopped (λ t. t < threads))
    (again : restored_by (get_or passages (length passages - 1 - i) no_passage).turn former new ≡ old) where
  restores_one : Restores passages threads (length passages - 1 - i) (get_or passages (length passages - 1 - i) no_passage) former
  restores_one = record {
    within = within;
    again = λ processors long armed.
        (let here : length passages - (i + 1) ≡ length passages - 1 - i = omega arith in
        let next : length passages - i ≡ length passages - 1 - i + 1 = omega (arith, below) in
        let there : IsArmed (held_at_end passages) (turns_of (drop (length passages - 1 - i) passages)) new =
        subst (λ (k : ℕ). IsArmed (held_at_end passages) (turns_of (drop k passages)) new) here armed_new in
        let same : processors ≡ new =
        one_armed (held_at_end passages) (turns_of (drop (length passages - 1 - i) passages)) processors new (long ∙ sym count)
        armed there in
        let is_old : restored_by (get_or passages (length passages - 1 - i) no_passage).turn former processors ≡ old =
        ap (restored_by (get_or passages (length passages - 1 - i) no_passage).turn former) same ∙ again in
        subst (IsArmed (held_at_end passages) (turns_of (drop (length passages - 1 - i + 1) passages))) (sym is_old)
        (subst (λ (k : ℕ). IsArmed (held_at_end passages) (turns_of (drop k passages)) old) next armed_old));
  }

  pub formers_more : (formers : List Former) → length formers ≡ i → AreFormers passages threads formers
      → AreFormers passages threads (formers ++ former ∷ [])
  formers_more formers each are k one passage is there =
      each_pushed
      (λ (k : ℕ) (f : Former). (p : Passage) → slice_get passages (length passages - 1 - k) ≡ Some p
      → Restores passages threads (length passages - 1 - k) p f)
      formers former (λ k f is p there. are k f p is there)
      (λ p there.
      (let place : length passages - 1 - length formers ≡ length passages - 1 - i = ap (λ (n : ℕ). length passages - 1 - n) each in
      let read : get_or passages (length passages - 1 - i) no_passage ≡ p =
      get_or_from_slice_get passages (length passages - 1 - i) p no_passage
      (subst (λ (n : ℕ). slice_get passages n ≡ Some p) place there) in
      subst (λ (n : ℕ). Restores passages threads n p former) (sym place)
      (subst (λ (q : Passage). Restores passages threads (length passages - 1 - i) q former) read restores_one)))
      k one is passage there
