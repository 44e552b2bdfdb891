-- Of passages one list of moments is seen.
use Rattle.std.proofs.Common.{◌≡◌, ℕ, ◌<◌, Bool, true, false, List, [], take, drop, length, get_or, Some, refl, sym, ap, ◌∙◌, subst, inl}
use Rattle.std.proofs.Common.{inr, arith, IsTrue}
use Rattle.std.specs.Prelude.{◌↔◌, reverse, slice_get}
use Rattle.std.proofs.lemmas.Bool.{cases_lt, false≢true}
use Rattle.std.proofs.lemmas.List.{ext_get_or}
use Rattle.std.proofs.lemmas.Option.{slice_get-get_or}
use Rattle.task_set.specs.TaskSet.{SetData}
use Rattle.strong_apa.proofs.BestOnce.{best_is_unique}
use Rattle.strong_apa.specs.State.{start_of, task_count}
use Rattle.trace_losses.specs.Book.{nothing_seen}
use Rattle.trace_losses.specs.Passages.{AreMoments, IsSeenAt, IsSeenBetween, ready_after_passages, best_of, seen_of}
use Rattle.trace_losses.specs.declared.seen.Seen.{Seen}
use Rattle.trace_passages.specs.declared.passage.Passage.{Passage}
use Rattle.trace_losses.proofs.RunsMoment.{one_cut}

-- two tests of one fact
same_test : (a b : Bool) (P : Type 0) → IsTrue a ↔ P → IsTrue b ↔ P → a ≡ b
same_test true true P one other = refl
same_test true false P one other = sym (other.1 (one.0 refl))
same_test false true P one other = one.1 (other.0 refl)
same_test false false P one other = refl

same_seen : (one other : Seen) → one.ready ≡ other.ready → one.best ≡ other.best → one.runs ≡ other.runs → one ≡ other
same_seen one other ready best runs =
    let made : Bool → Bool → Bool → Seen = λ (a b c : Bool). record { ready = a; best = b; runs = c } in
    ap (λ (a : Bool). made a one.best one.runs) ready
    ∙ ap (λ (b : Bool). made other.ready b one.runs) best
    ∙ ap (made other.ready other.best) runs

-- nothing is seen of nobody
nothing : List Seen
nothing = []

module _ (task_set : SetData) (threads : ℕ) (passages : List Passage)
    (within : (n t : ℕ) → ready_after_passages (reverse (take n passages)) t ≡ true → t < task_count (start_of task_set)) where
  one_between : (n : ℕ) (one other : List Seen) → IsSeenBetween task_set threads (reverse (take n passages)) (drop n passages) one
      → IsSeenBetween task_set threads (reverse (take n passages)) (drop n passages) other → one ≡ other
  one_between n one other first second =
      let long = first.count in
      ext_get_or nothing_seen one other (first.count ∙ sym second.count)
      (λ t below.
      (let here : t < threads = omega (arith, long, below) in
      same_seen (seen_of one t) (seen_of other t)
      (first.ready t here ∙ sym (second.ready t here))
      (best_is_unique (start_of task_set) (ready_after_passages (reverse (take n passages))) (best_of one) (best_of other) (within n)
      first.best second.best t)
      (same_test (seen_of one t).runs (seen_of other t).runs _ (first.runs t here) (second.runs t here))))

  one_at : (x : ℕ) (one other : List Seen) → IsSeenAt task_set threads passages x one → IsSeenAt task_set threads passages x other
      → one ≡ other
  one_at x one other first second =
      let same : second.n ≡ first.n = one_cut passages x second.n first.n second.cut first.cut in
      one_between first.n one other first.between
      (subst (λ (n : ℕ). IsSeenBetween task_set threads (reverse (take n passages)) (drop n passages) other) same second.between)

  pub one_moments : (units : ℕ) (one other : List (List Seen)) → AreMoments task_set threads passages units one
      → AreMoments task_set threads passages units other → one ≡ other
  one_moments units one other first second =
      let long = first.all in
      let long_other = second.all in
      ext_get_or nothing one other (first.all ∙ sym second.all)
      (λ x below.
      one_at x (get_or one x nothing) (get_or other x nothing)
      (first.seen x (get_or one x nothing) (slice_get-get_or one x nothing below))
      (second.seen x (get_or other x nothing) (slice_get-get_or other x nothing (omega (arith, below, long, long_other)))))
