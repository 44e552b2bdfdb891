-- What is seen of a ready task: where it is linked, or that it waits.
use Rattle.std.proofs.Common.{◌≡◌, ◌≢◌, ℕ, ◌<◌, true, false, length, get_or, Some, None, refl, sym, ap, ◌∙◌, arith, inl, inr}
use Rattle.std.specs.List.{position_or_len}
use Rattle.std.specs.Prelude.{position}
use Rattle.std.proofs.lemmas.Bool.{cases_Bool, lt-ltb, le-ltb}
use Rattle.std.proofs.lemmas.List.Sums.{position_or_len_is}
use Rattle.strong_apa.specs.State.{State, IsState, task_on, is_task, is_ready, is_linked}
use Rattle.strong_apa.proofs.Linked.{is_task-same, is_task-true, occupied_number, not_on}
use Rattle.schedule_picture.specs.declared.span.Seen.TheVariants.{Processor, Waiting}
use Rattle.schedule_picture.specs.Spans.{row_of}

-- a processor without the task does not pass
not_there : (s : State) (t k : ℕ) → task_on s k ≢ Some t → is_task t (get_or s.on k None) ≡ false
not_there s t k ne = elim (cases_Bool (is_task t (get_or s.on k None))) [
  | inl h ↦ absurd (ne (is_task-true t (get_or s.on k None) h))
  | inr h ↦ h
]

first_there : (s : State) (t p : ℕ) → IsState s → task_on s p ≡ Some t → position (is_task t) s.on ≡ Some p
first_there s t p ok on =
    let lt : p < length s.on = let below = occupied_number s p t ok on in let count = ok.on_count in omega arith in
    let first : position_or_len (is_task t) s.on ≡ p =
    position_or_len_is (is_task t) s.on p None (omega arith)
    (λ k below. not_there s t k (λ there. let same = ok.once k p t there on in omega arith))
    (λ _. ap (is_task t) on ∙ is_task-same t) in
    rw (first, lt-ltb p (length s.on) lt) refl

nowhere : (s : State) (t : ℕ) → is_linked s t ≡ false → position (is_task t) s.on ≡ None
nowhere s t not_linked =
    let first : position_or_len (is_task t) s.on ≡ length s.on =
    position_or_len_is (is_task t) s.on (length s.on) None (omega arith)
    (λ k below. not_there s t k (not_on s k t not_linked))
    (λ lt. absurd (omega arith)) in
    rw (first, le-ltb (length s.on) (length s.on) (omega arith)) refl

pub row_linked : (s : State) (t p : ℕ) → IsState s → is_ready s t ≡ true → task_on s p ≡ Some t → Some (Processor p) ≡ row_of s t
row_linked s t p ok ready on = sym (rw (ready, first_there s t p ok on) refl)

pub row_waiting : (s : State) (t : ℕ) → is_ready s t ≡ true → is_linked s t ≡ false → Some Waiting ≡ row_of s t
row_waiting s t ready not_linked = sym (rw (ready, nowhere s t not_linked) refl)

pub row_absent : (s : State) (t : ℕ) → is_ready s t ≡ false → None ≡ row_of s t
row_absent s t ready = sym (rw ready refl)
