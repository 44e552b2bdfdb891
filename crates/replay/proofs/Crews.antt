-- Workers with the processors that are left, as they change at their ends, and as those that are left are driven.
use Rattle.std.proofs.Common.{◌≡◌, ℕ, ◌+◌, Option, None, Some, List, [], ◌∷◌, ◌++◌, length, map, sym, ap, ◌∙◌, subst, arith}
use Rattle.std.specs.Prelude.{All}
use Rattle.std.proofs.lemmas.List.Elements.{All-nil, All-cons, All-head, All-tail}
use Rattle.order_queues.specs.Ends.{QueueData}
use Rattle.context_slots.specs.Hands.{SlotsData}
use Rattle.processor_seat.specs.Stepping.{ProcessorData}
use Rattle.replay.specs.Crew.{IsCrew}
use Rattle.replay.specs.Driving.{SeatData, IsDone, seat_of}
use Rattle.replay.specs.Seats.{IsSeated, IsSeatedAt, HasStoppedAt}

module _ {H X : Type 0} where
  nobody_left : (P : ℕ → H → Type 0) (Q : ℕ → X → Type 0) (n : ℕ) (left : List X) (x : X) → IsCrew P Q n [] (left ++ x ∷ []) → ⊥
  nobody_left P Q n [] x h = h
  nobody_left P Q n (y ∷ left) x h = h

  -- where the last worker has no thread, a processor is left
  pub crew_some_left : (P : ℕ → H → Type 0) (Q : ℕ → X → Type 0) (n : ℕ) (workers : List (Option H))
      → IsCrew P Q n (workers ++ None ∷ []) [] → ⊥
  crew_some_left P Q n [] h = h
  crew_some_left P Q n (Some y ∷ workers) h = crew_some_left P Q (n + 1) workers h.1
  crew_some_left P Q n (None ∷ workers) h = h

  -- the last worker has a thread
  pub crew_last_thread : (P : ℕ → H → Type 0) (Q : ℕ → X → Type 0) (n : ℕ) (workers : List (Option H)) (thread : H) (left : List X)
      → IsCrew P Q n (workers ++ Some thread ∷ []) left → IsCrew P Q n workers left × P (n + length workers) thread
  crew_last_thread P Q n [] thread [] h = (tt, subst (λ (k : ℕ). P k thread) (omega arith) h.0)
  crew_last_thread P Q n [] thread (x ∷ left) h = absurd h.1
  crew_last_thread P Q n (Some y ∷ workers) thread left h =
      let rest = crew_last_thread P Q (n + 1) workers thread left h.1 in ((h.0, rest.0), subst (λ (k : ℕ). P k thread) (omega arith) rest.1)
  crew_last_thread P Q n (None ∷ workers) thread [] h = absurd h
  crew_last_thread P Q n (None ∷ workers) thread (x ∷ left) h =
      let rest = crew_last_thread P Q (n + 1) workers thread left h.1 in ((h.0, rest.0), subst (λ (k : ℕ). P k thread) (omega arith) rest.1)

  -- the last worker has none
  pub crew_last_left : (P : ℕ → H → Type 0) (Q : ℕ → X → Type 0) (n : ℕ) (workers : List (Option H)) (left : List X) (x : X)
      → IsCrew P Q n (workers ++ None ∷ []) (left ++ x ∷ []) → IsCrew P Q n workers left × Q (n + length workers) x
  crew_last_left P Q n [] [] x h = (tt, subst (λ (k : ℕ). Q k x) (omega arith) h.0)
  crew_last_left P Q n [] (y ∷ left) x h = absurd (nobody_left P Q (n + 1) left x h.1)
  crew_last_left P Q n (Some y ∷ workers) left x h =
      let rest = crew_last_left P Q (n + 1) workers left x h.1 in ((h.0, rest.0), subst (λ (k : ℕ). Q k x) (omega arith) rest.1)
  crew_last_left P Q n (None ∷ workers) [] x h = absurd (crew_some_left P Q (n + 1) workers h.1)
  crew_last_left P Q n (None ∷ workers) (y ∷ left) x h =
      let rest = crew_last_left P Q (n + 1) workers left x h.1 in ((h.0, rest.0), subst (λ (k : ℕ). Q k x) (omega arith) rest.1)

  -- the same, of a list that ends with this worker
  pub crew_ends_with_thread : (P : ℕ → H → Type 0) (Q : ℕ → X → Type 0) (n : ℕ) (old workers : List (Option H)) (worker : Option H)
      (thread : H) (left : List X)
      → old ≡ workers ++ worker ∷ [] → worker ≡ Some thread → IsCrew P Q n old left
      → IsCrew P Q n workers left × P (n + length workers) thread
  crew_ends_with_thread P Q n old workers worker thread left ends is crew =
      crew_last_thread P Q n workers thread left
      (subst (λ (w : Option H). IsCrew P Q n (workers ++ w ∷ []) left) is
      (subst (λ (ws : List (Option H)). IsCrew P Q n ws left) ends crew))

  pub crew_ends_with_left : (P : ℕ → H → Type 0) (Q : ℕ → X → Type 0) (n : ℕ) (old workers : List (Option H)) (worker : Option H)
      (all left : List X) (x : X)
      → old ≡ workers ++ worker ∷ [] → worker ≡ None → all ≡ left ++ x ∷ [] → IsCrew P Q n old all
      → IsCrew P Q n workers left × Q (n + length workers) x
  crew_ends_with_left P Q n old workers worker all left x ends is last crew =
      crew_last_left P Q n workers left x (subst (IsCrew P Q n (workers ++ None ∷ [])) last
      (subst (λ (w : Option H). IsCrew P Q n (workers ++ w ∷ []) all) is (subst (λ (ws : List (Option H)). IsCrew P Q n ws all) ends crew)))

  pub crew_not_alone : (P : ℕ → H → Type 0) (Q : ℕ → X → Type 0) (n : ℕ) (old workers : List (Option H)) (worker : Option H) (left : List X)
      → old ≡ workers ++ worker ∷ [] → worker ≡ None → length left ≡ 0 → IsCrew P Q n old left → ⊥
  crew_not_alone P Q n old workers worker [] ends is none crew =
      crew_some_left P Q n workers (subst (λ (w : Option H). IsCrew P Q n (workers ++ w ∷ []) []) is
      (subst (λ (ws : List (Option H)). IsCrew P Q n ws []) ends crew))
  crew_not_alone P Q n old workers worker (x ∷ left) ends is none crew = absurd (omega (arith, none))

  -- a worker that was put before the others, with a thread or without
  pub crew_thread_first : (P : ℕ → H → Type 0) (Q : ℕ → X → Type 0) (n m : ℕ) (thread : H) (workers new : List (Option H))
      (left left' : List X)
      → new ≡ Some thread ∷ workers → left' ≡ left → m ≡ n + 1 → P n thread → IsCrew P Q m workers left → IsCrew P Q n new left'
  crew_thread_first P Q n m thread workers new left left' is same next first crew =
      subst (λ (ws : List (Option H)). IsCrew P Q n ws left') (sym is)
      (first, subst (λ (k : ℕ). IsCrew P Q k workers left') next (subst (IsCrew P Q m workers) (sym same) crew))

  pub crew_left_first : (P : ℕ → H → Type 0) (Q : ℕ → X → Type 0) (n m : ℕ) (x : X) (workers new : List (Option H)) (left left' : List X)
      → new ≡ None ∷ workers → left' ≡ x ∷ left → m ≡ n + 1 → Q n x → IsCrew P Q m workers left → IsCrew P Q n new left'
  crew_left_first P Q n m x workers new left left' is same next first crew =
      subst (λ (ws : List (Option H)). IsCrew P Q n ws left') (sym is)
      (subst (IsCrew P Q n (None ∷ workers)) (sym same) (first, subst (λ (k : ℕ). IsCrew P Q k workers left) next crew))

  pub crew_number : (P : ℕ → H → Type 0) (Q : ℕ → X → Type 0) (n m : ℕ) (workers : List (Option H)) (left : List X) → n ≡ m
      → IsCrew P Q n workers left → IsCrew P Q m workers left
  crew_number P Q n m workers left same crew = subst (λ (k : ℕ). IsCrew P Q k workers left) same crew

module _ {H : Type 0} (queues : List QueueData) (slots : SlotsData) where
  -- those that are left are seated
  pub crew_seated : (P : ℕ → H → Type 0) (n : ℕ) (workers : List (Option H)) (left : List ProcessorData)
      → IsCrew P (IsSeatedAt queues slots) n workers left → All (IsSeated queues slots) left
  crew_seated P n [] [] h = All-nil (IsSeated queues slots)
  crew_seated P n [] (p ∷ left) h = absurd h
  crew_seated P n (Some y ∷ workers) left h = crew_seated P (n + 1) workers left h.1
  crew_seated P n (None ∷ workers) [] h = absurd h
  crew_seated P n (None ∷ workers) (p ∷ left) h =
      All-cons (IsSeated queues slots) p left h.0.seated (crew_seated P (n + 1) workers left h.1)

  -- once they are done, each has stopped at its number
  pub crew_done : (P : ℕ → H → Type 0) (n : ℕ) (workers : List (Option H)) (old new : List ProcessorData)
      → IsCrew P (IsSeatedAt queues slots) n workers old → map seat_of new ≡ map seat_of old → All (IsDone queues slots) new
      → IsCrew P (HasStoppedAt queues slots) n workers new
  crew_done P n [] [] [] h same done = tt
  crew_done P n [] [] (q ∷ new) h same done = absurd (cc same)
  crew_done P n [] (p ∷ old) new h same done = absurd h
  crew_done P n (Some y ∷ workers) old new h same done = (h.0, crew_done P (n + 1) workers old new h.1 same done)
  crew_done P n (None ∷ workers) [] new h same done = absurd h
  crew_done P n (None ∷ workers) (p ∷ old) [] h same done = absurd (cc same)
  crew_done P n (None ∷ workers) (p ∷ old) (q ∷ new) h same done =
      let first : seat_of q ≡ seat_of p = cc same in
      let rest : map seat_of new ≡ map seat_of old = cc same in
      let one = All-head (IsDone queues slots) q new done in (
        record {
          seated = record { seated = one.seated; number = ap (λ (s : SeatData). s.number) first ∙ h.0.number };
          stopped = one.stopped;
        },
        crew_done P (n + 1) workers old new h.1 rest (All-tail (IsDone queues slots) q new done),
      )
