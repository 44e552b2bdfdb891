-- What is seen between passages, and at the moments from one to the next.
use Rattle.std.proofs.Common.{◌≡◌, ℕ, ◌+◌, ◌-◌, ◌<◌, ◌≤◌, Bool, false, List, ◌∷◌, ◌++◌, length, [], take, drop, get_or, Option, None, refl}
use Rattle.std.proofs.Common.{sym, ap, ◌∙◌, subst, inl, inr, arith, IsTrue, length-append}
use Rattle.std.specs.Prelude.{◌↔◌, replicate, reverse}
use Rattle.std.specs.Option.{is_some}
use Rattle.std.proofs.lemmas.Bool.{cases_lt}
use Rattle.std.proofs.lemmas.List.{get_or_past, length-map, length-replicate}
use Rattle.std.proofs.lemmas.Option.{slice_get-get_or, slice_get_within}
use Rattle.task_set.specs.TaskSet.{SetData, TaskData}
use Rattle.strong_apa.specs.Placement.{TaskTest}
use Rattle.strong_apa.specs.State.{State, IsState, start_of, is_ready, is_linked}
use Rattle.strong_apa.proofs.Linked.{not_linked-from_on}
use Rattle.strong_apa.proofs.Unique.{ready_number}
use Rattle.strong_apa.proofs.SameBest.{IsBest-same}
use Rattle.trace_passages.specs.Passages.{ArePassages, moment_at}
use Rattle.trace_passages.specs.declared.passage.Passage.{Passage}
use Rattle.trace_passages.specs.declared.turn.Turn.{Turn}
use Rattle.trace_losses.specs.Book.{nothing_seen}
use Rattle.trace_losses.specs.Passages.{AreMoments, IsSeenBetween, IsSeenAt, AreSeen, RunsBetween, ready_after_passages, turns_of, seen_of}
use Rattle.trace_losses.specs.Passages.{best_of}
use Rattle.trace_losses.specs.Runs.{IsArmed, holds, runs, runs_between}
use Rattle.trace_losses.specs.Walk.{IsPlaced, IsSeenBy, held_at_end}
use Rattle.trace_losses.specs.declared.seen.Seen.{Seen}
use Rattle.trace_losses.proofs.Appended.{each_appended, in_replicate}
use Rattle.trace_losses.proofs.BackOne.{on_some}
use Rattle.trace_losses.proofs.Passed.{cut_at, turns_of_all}

-- no task beyond the set is linked
pub none_linked : (s : State) → IsState s → (t : ℕ) → length s.priorities ≤ t → is_linked s t ≡ false
none_linked s ok t beyond =
    not_linked-from_on s t (λ p there. (let number = ready_number s ok t (ok.linked_ready p t there) in
    absurd (omega (arith, number, beyond))))

-- of no thread beyond the set anything is seen but whether it runs
pub none_seen : (s : State) → IsState s → (t : ℕ) → length s.priorities ≤ t → (runs : Bool)
    → ◌≡◌ {A = Seen} (record { ready = false; best = false; runs = runs })
    (record { ready = is_ready s t; best = is_linked s t; runs = runs })
none_seen s ok t beyond runs =
    let made : Bool → Bool → Seen = λ (a b : Bool). record { ready = a; best = b; runs = runs } in
    let count = ok.ready_count in
    let absent : is_ready s t ≡ false = get_or_past s.ready t false (omega (arith, count, beyond)) in
    ap (λ (a : Bool). made a false) (sym absent) ∙ ap (made (is_ready s t)) (sym (none_linked s ok t beyond))

-- the links are of the tasks of the set
pub count_of : (task_set : SetData) (is_in : TaskTest) (links : State) → IsPlaced task_set is_in links
    → length links.priorities ≡ length task_set.tasks
count_of task_set is_in links placed = ap length placed.tasks.priorities ∙ length-map task_set.tasks (λ (task : TaskData). task.priority)

module _ (task_set : SetData) (passages : List Passage) (threads i : ℕ) (links : State) (processors : List (Option ℕ)) (seen : List Seen)
    (all : length task_set.tasks ≤ threads) (placed : IsPlaced task_set (ready_after_passages (reverse (take i passages))) links)
    (armed : IsArmed (held_at_end passages) (turns_of (drop i passages)) processors) (count : length processors ≡ threads)
    (by : IsSeenBy links processors threads seen) (long : length seen ≡ threads) where
  -- who is seen to be in the best set is linked
  best_is : (t : ℕ) → is_linked links t ≡ best_of seen t
  best_is t = elim (cases_lt t threads) [
    | inl below ↦ sym (ap (λ (at : Seen). at.best) (by.each t below))
    | inr beyond ↦ (
        let tasks = count_of task_set (ready_after_passages (reverse (take i passages))) links placed in
        let nothing : seen_of seen t ≡ nothing_seen = get_or_past seen t nothing_seen (omega (arith, long, beyond)) in
        none_linked links placed.valid t (omega (arith, tasks, all, beyond)) ∙ sym (ap (λ (at : Seen). at.best) nothing))
  ]

  runs_seen : (t : ℕ) → t < threads → IsTrue (seen_of seen t).runs ↔ RunsBetween (reverse (take i passages)) (drop i passages) t
  runs_seen t below =
      let o : Option ℕ = get_or processors t None in
      let there : (seen_of seen t).runs ≡ is_some o = ap (λ (at : Seen). at.runs) (by.each t below) in
      subst (λ (b : Bool). IsTrue b ↔ RunsBetween (reverse (take i passages)) (drop i passages) t) (sym there)
      (on_some o (λ (p : ℕ). runs_between (turns_of (reverse (take i passages))) (turns_of (drop i passages)) t p)
      (λ p.
      armed t o p (slice_get-get_or processors t None (omega (arith, below, count)))
      ∙ ap (λ (turns : List Turn). runs (holds turns) (turns_of (drop i passages)) t p) (turns_of_all passages i)))

  pub seen_between : IsSeenBetween task_set threads (reverse (take i passages)) (drop i passages) seen
  seen_between = record {
    count = long;
    ready = λ t below. ap (λ (at : Seen). at.ready) (by.each t below) ∙ placed.ready t;
    best =
        IsBest-same (start_of task_set) links placed.tasks placed.masks (is_ready links) (ready_after_passages (reverse (take i passages)))
        (is_linked links)
        (best_of seen) placed.ready best_is placed.best;
    runs = runs_seen;
  }

-- before the first passage there is no moment
begins : (tasks threads : ℕ) (passages : List Passage) → ArePassages tasks threads passages → moment_at passages 0 ≡ 0
begins tasks threads [] are = refl
begins tasks threads (first ∷ rest) are = are.begin first refl

pub no_moments : (task_set : SetData) (threads : ℕ) (passages : List Passage) → ArePassages (length task_set.tasks) threads passages
    → AreMoments task_set threads passages (moment_at passages 0) []
no_moments task_set threads passages are = record {
  all = sym (begins (length task_set.tasks) threads passages are);
  seen = λ x seen is. absurd (let within = slice_get_within [] x seen is in omega (arith, within));
}

-- the moments from one passage to the next
pub moments_on : (task_set : SetData) (threads : ℕ) (passages : List Passage) (i units : ℕ) (moments : List (List Seen)) (seen : List Seen)
    → ArePassages (length task_set.tasks) threads passages → 0 < i → i < length passages
    → IsSeenBetween task_set threads (reverse (take i passages)) (drop i passages) seen
    → moment_at passages (i - 1) + units ≡ moment_at passages i
    → AreMoments task_set threads passages (moment_at passages (i - 1)) moments
    → AreMoments task_set threads passages (moment_at passages i) (moments ++ replicate units seen)
moments_on task_set threads passages i units moments seen are some below between span before =
    let long = before.all in
    record {
      all =
          length-append moments (replicate units seen) ∙ ap (λ (n : ℕ). length moments + n) (length-replicate units seen)
          ∙ ap (λ (n : ℕ). n + units) long ∙ span;
      seen =
          each_appended (IsSeenAt task_set threads passages) moments (replicate units seen) before.seen
          (λ k x at place is.
          (let found = in_replicate units seen k at is in
          let within = found.0 in
          record {
            n = i;
            cut =
                cut_at (length task_set.tasks) threads passages are i x some below (omega (arith, place, long))
                (omega (arith, place, long, within, span));
            between = subst (λ (here : List Seen). IsSeenBetween task_set threads (reverse (take i passages)) (drop i passages) here)
                found.1 between;
          }));
    }
