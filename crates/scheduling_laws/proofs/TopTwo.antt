-- The most urgent task runs whenever it is ready, under both schedulers. So where the weak one runs the second task, the first runs beside
-- it, or is absent under both: the two can be placed, and the strong one runs the second task as well, if it is ready.
use Rattle.std.proofs.Common.{◌≡◌, ◌≢◌, ℕ, zero, suc, ◌<◌, ◌≤◌, Bool, true, ◌&&◌, nat_le, nat_lt, List, length, Some, refl, sym, ap, ◌∙◌}
use Rattle.std.proofs.Common.{subst, inl, inr, IsTrue, arith}
use Rattle.std.proofs.lemmas.Bool.{cases_Bool, cases_eq, cases_lt, true≢false, and_from, and_left, and_parts, le-leb, leb-true, lt-ltb}
use Rattle.std.proofs.lemmas.List.{length-map}
use Rattle.std.proofs.lemmas.Option.{same_Some}
use Rattle.affinity_mask.specs.ProcSet.{has, empty}
use Rattle.affinity_mask.proofs.Sets.{empty_from_none, has-intersection, has-all_below}
use Rattle.task_set.specs.TaskSet.{SetData, TaskData, IsTaskSet}
use Rattle.task_set.specs.declared.event.Event.{Event}
use Rattle.strong_apa.specs.declared.reply.Entry.{Entry}
use Rattle.strong_apa.specs.State.{State, IsState, IsMoreUrgent, start_of, task_count, task_on, is_ready, is_linked, priority_of, mask_of}
use Rattle.strong_apa.specs.State.{effective_mask}
use Rattle.strong_apa.specs.Placement.{IsPlacement}
use Rattle.strong_apa.proofs.Counts.{count_below-one_more}
use Rattle.strong_apa.proofs.Fullness.{linked_keeps_up}
use Rattle.strong_apa.proofs.Linked.{place_in, task_on-linked, linked_from_not_waiting, linked_number}
use Rattle.strong_apa.proofs.SameBest.{priority_of-same}
use Rattle.strong_apa.proofs.SameTasks.{same_count}
use Rattle.strong_apa.proofs.Start.{IsState-start}
use Rattle.strong_apa.proofs.Unique.{ready_number}
use Rattle.job_release.specs.Jobs.{goal_of}
use Rattle.job_release.specs.JobInput.{JobInputData, IsJobInput, jobs_at}
use Rattle.job_release.specs.Driven.{RunsJobs}
use Rattle.job_release.specs.Moments.{Timeline, state_of_moment, service_of}
use Rattle.job_release.specs.WeakServes.{WeakServes, weak_timeline}
use Rattle.job_release.proofs.Moments.{no_service}
use Rattle.scheduling_laws.specs.TopTwo.{IsOfTopTwo, TopTwoGetNoLess, TopTwoFinishNoLater}
use Rattle.scheduling_laws.proofs.Response.{IsLike, IsKeptOutIn, like_then, like_at, kept_out_at, certified_at}
use Rattle.scheduling_laws.proofs.Sustained.{service_more, service_same, finished_by}
use Rattle.affinity_mask.proofs.Unions.{same_answer}

-- ---- the most urgent task
-- a mask of a state has some processor
some_member : (X : ℕ) → X ≢ empty → ((p : ℕ) → IsTrue (has X p) → ⊥) → ⊥
some_member X some none = some (empty_from_none X (λ p. elim (cases_Bool (has X p)) [
  | inl there ↦ absurd (none p there)
  | inr out ↦ out
]))

module _ (set : SetData) (valid : IsTaskSet set) (t : ℕ) (now : State) (like : IsLike (start_of set) now) (kept : IsKeptOutIn now t) where
  -- where no task is more urgent than t, it does not wait
  top_runs : ((u : ℕ) → u < task_count (start_of set) → IsMoreUrgent (start_of set) u t → ⊥) → is_ready now t ≡ true
      → is_linked now t ≡ true
  top_runs none ready = linked_from_not_waiting now t ready (λ waiting.
      let count = same_count (start_of set) now like.tasks in
      let number : t < task_count (start_of set) = (let lt = ready_number now like.ok t ready in omega arith) in
      let mask = (IsState-start set valid).masks t number in
      some_member (mask_of (start_of set) t) mask.some (λ p inside.
      let on_line : has (start_of set).online p ≡ true = has-all_below set.processors p ∙ below p (mask.below p inside) in
      let there = same_mask p ∙ has-intersection (mask_of (start_of set) t) (start_of set).online p ∙ and_from _ _ inside on_line in
      let u = kept waiting p there in
      let lt = linked_number now p u.0 like.ok u.1 in
      let urgent = u.2 in
      let a = priority_of-same (start_of set) now like.tasks u.0 in
      let b = priority_of-same (start_of set) now like.tasks t in
      none u.0 (omega arith) (omega arith)))
    where
      below : (p : ℕ) → p < set.processors → nat_lt p set.processors ≡ true
      below p lt = lt-ltb _ _ lt

      same_mask : (p : ℕ) → has (effective_mask now t) p ≡ has (effective_mask (start_of set) t) p
      same_mask p = let same = like.masks in rw (same.masks, same.online) refl

-- ---- both schedulers
module _ (input : JobInputData) (events : List Event) (states : List State) (history : List Entry) (valid : IsJobInput input)
    (serves : WeakServes input events states) (runs : RunsJobs input history) where
  abbrev weak : Timeline
  weak = weak_timeline input events states

  abbrev strong : Timeline
  strong = state_of_moment (start_of input.set) history

  abbrev start : State
  start = start_of input.set

  weak_like : (x : ℕ) → IsLike start (weak x)
  weak_like x = like_then start events states x (IsState-start input.set valid.valid) serves.each_event serves.run

  strong_like : (x : ℕ) → IsLike start (strong x)
  strong_like x = like_at input.set history valid.valid runs.legal runs.events x

  number_of : (t : ℕ) → t < task_count start → t < length input.jobs
  number_of t lt =
      let all : task_count start ≡ length input.set.tasks = length-map input.set.tasks (λ (task : TaskData). task.priority) in
      let each = valid.one_each in
      omega arith

  number_in : (t : ℕ) → t < length input.jobs → t < task_count start
  number_in t lt =
      let all : task_count start ≡ length input.set.tasks = length-map input.set.tasks (λ (task : TaskData). task.priority) in
      let each = valid.one_each in
      omega arith

  -- equal service makes a task ready under both, or under neither
  ready_too : (t x : ℕ) → t < length input.jobs → x < input.horizon → service_of weak t x ≡ service_of strong t x
      → is_ready (weak x) t ≡ true → is_ready (strong x) t ≡ true
  ready_too t x number below same ready =
      (runs.served.ready t x number below).1 (let less = (serves.served.ready t x number below).0 ready in omega arith)

  ready_back : (t x : ℕ) → t < length input.jobs → x < input.horizon → service_of weak t x ≡ service_of strong t x
      → is_ready (strong x) t ≡ true → is_ready (weak x) t ≡ true
  ready_back t x number below same ready =
      (serves.served.ready t x number below).1 (let less = (runs.served.ready t x number below).0 ready in omega arith)

  -- the most urgent task
  module _ (a : ℕ) (number : a < length input.jobs) (first : (u : ℕ) → u < task_count start → IsMoreUrgent start u a → ⊥) where
    weak_runs : (x : ℕ) → x < input.horizon → is_ready (weak x) a ≡ true → is_linked (weak x) a ≡ true
    weak_runs x below = top_runs input.set valid.valid a (weak x) (weak_like x) (λ waiting. serves.stable x below a waiting) first

    strong_runs : (x : ℕ) → is_ready (strong x) a ≡ true → is_linked (strong x) a ≡ true
    strong_runs x = top_runs input.set valid.valid a (strong x) (strong_like x)
        (kept_out_at input.set history valid.valid runs.legal runs.events a x) first

    same_service : (x : ℕ) → x ≤ input.horizon → service_of weak a x ≡ service_of strong a x
    same_service zero within = no_service weak a ∙ sym (no_service strong a)
    same_service (suc x) within =
        let below : x < input.horizon = omega arith in
        let before = same_service x (omega arith) in
        elim (cases_Bool (is_linked (weak x) a)) [
          | inl linked ↦ (
              let ready = ready_too a x number below before (serves.served.only_ready a x number below linked) in
              let one = service_more weak a x linked in
              let other = service_more strong a x (strong_runs x ready) in
              omega arith)
          | inr out ↦ elim (cases_Bool (is_linked (strong x) a)) [
            | inl linked ↦ absurd (true≢false (sym (weak_runs x below
                (ready_back a x number below before (runs.served.only_ready a x number below linked))) ∙ out))
            | inr out' ↦ (let one = service_same weak a x out in let other = service_same strong a x out' in omega arith)
          ]
        ]

  -- one of the two
  module _ (t : ℕ) (number : t < length input.jobs) (top : IsOfTopTwo start t) where
    -- a more urgent task is the first one
    is_first : (a : ℕ) → a < task_count start → IsMoreUrgent start a t → (u : ℕ) → u < task_count start → IsMoreUrgent start u a → ⊥
    is_first a lt urgent u lu more = let same = top u a lu lt (omega arith) urgent in let e = ap (priority_of start) same in omega arith

    -- where both gave it as much so far, and the weak scheduler runs t, the strong one does
    module _ (x : ℕ) (below : x < input.horizon) (same : service_of weak t x ≡ service_of strong t x)
        (linked : is_linked (weak x) t ≡ true) where
      ok : IsState (strong x)
      ok = (certified_at input.set history valid.valid runs.legal runs.events x).0

      same_priority : (u : ℕ) → priority_of (strong x) u ≡ priority_of start u
      same_priority u = priority_of-same start (strong x) (strong_like x).tasks u

      same_number : task_count (strong x) ≡ task_count start
      same_number = same_count start (strong x) (strong_like x).tasks

      same_mask : (u p : ℕ) → has (effective_mask (weak x) u) p ≡ has (effective_mask (strong x) u) p
      same_mask u p = let a = (weak_like x).masks in let b = (strong_like x).masks in rw (a.masks, a.online, b.masks, b.online) refl

      -- the tasks that the weak scheduler runs, up to t
      abbrev among : ℕ → Bool
      among u = is_linked (weak x) u && nat_le (priority_of (strong x) u) (priority_of (strong x) t)

      is_urgent : (u : ℕ) → u < task_count start → u ≢ t → nat_le (priority_of (strong x) u) (priority_of (strong x) t) ≡ true
          → IsMoreUrgent start u t
      is_urgent u lt other le =
          let small = leb-true _ _ le in
          let a = same_priority u in
          let b = same_priority t in
          elim (cases_lt (priority_of start u) (priority_of start t)) [
            | inl less ↦ less
            | inr ge ↦ absurd (other ((IsState-start input.set valid.valid).distinct u t lt (number_in t number) (omega arith)))
          ]

      -- such a task other than t is the first one
      strong_too : (u : ℕ) → u < task_count start → u ≢ t → nat_le (priority_of (strong x) u) (priority_of (strong x) t) ≡ true
          → is_linked (weak x) u ≡ true → is_linked (strong x) u ≡ true
      strong_too u lt other le on =
          let first = is_first u lt (is_urgent u lt other le) in
          let its_number = number_of u lt in
          strong_runs u its_number first x (ready_too u x its_number below (same_service u its_number first x (omega arith))
          (serves.served.only_ready u x its_number below on))

      weak_too : (u : ℕ) → u < task_count start → u ≢ t → nat_le (priority_of (strong x) u) (priority_of (strong x) t) ≡ true
          → is_linked (strong x) u ≡ true → is_linked (weak x) u ≡ true
      weak_too u lt other le on =
          let first = is_first u lt (is_urgent u lt other le) in
          let its_number = number_of u lt in
          weak_runs u its_number first x below (ready_back u x its_number below (same_service u its_number first x (omega arith))
          (runs.served.only_ready u x its_number below on))

      is_number : (u : ℕ) → is_linked (weak x) u ≡ true → u < task_count start
      is_number u on =
          let lt = linked_number (weak x) (place_in u (weak x).on) u (weak_like x).ok (task_on-linked (weak x) u on) in
          let count = same_count start (weak x) (weak_like x).tasks in
          omega arith

      subset : (u : ℕ) → among u ≡ true → is_ready (strong x) u ≡ true
      subset u h =
          let parts = and_parts (is_linked (weak x) u) _ h in
          let lt = is_number u parts.0 in
          elim (cases_eq u t) [
            | inl it ↦ subst (λ (v : ℕ). is_ready (strong x) v ≡ true) (sym it)
                (ready_too t x number below same (serves.served.only_ready t x number below linked))
            | inr other ↦ runs.served.only_ready u x (number_of u lt) below (strong_too u lt other parts.1 parts.0)
          ]

      on_place : (u : ℕ) → among u ≡ true → task_on (weak x) (place_in u (weak x).on) ≡ Some u
      on_place u h = task_on-linked (weak x) u (and_parts (is_linked (weak x) u) _ h).0

      placement : IsPlacement (strong x) among (λ u. place_in u (weak x).on)
      placement = record {
        allowed = λ u h. sym (same_mask u (place_in u (weak x).on)) ∙ (weak_like x).ok.allowed (place_in u (weak x).on) u (on_place u h);
        apart = λ u v hu hv e. same_Some u v (sym (on_place u hu) ∙ ap (task_on (weak x)) e ∙ on_place v hv);
      }

      runs_too : is_linked (strong x) t ≡ true
      runs_too = elim (cases_Bool (is_linked (strong x) t)) [
        | inl on ↦ on
        | inr out ↦ absurd (
            let certificates = (certified_at input.set history valid.valid runs.legal runs.events x).1 in
            let most = linked_keeps_up (strong x) ok certificates among subset ((λ u. place_in u (weak x).on), placement)
            (priority_of (strong x) t) in
            let le : nat_le (priority_of (strong x) t) (priority_of (strong x) t) ≡ true = le-leb _ _ (omega arith) in
            let lt = number_in t number in
            let more = count_below-one_more (λ u. among u && nat_le (priority_of (strong x) u) (priority_of (strong x) t))
            (λ u. is_linked (strong x) u && nat_le (priority_of (strong x) u) (priority_of (strong x) t)) t (task_count (strong x))
            (let count = same_number in omega arith) (and_from _ _ (and_from _ _ linked le) le) (and_left (is_linked (strong x) t) _ out)
            (λ u below_count other. same_answer _ _
            (λ h. let parts = and_parts (among u) _ h in
            and_from _ _ (strong_too u (let count = same_number in omega arith) other parts.1
            (and_parts (is_linked (weak x) u) _ parts.0).0) parts.1)
            (λ h. let parts = and_parts (is_linked (strong x) u) _ h in
            and_from _ _ (and_from _ _ (weak_too u (let count = same_number in omega arith) other parts.1 parts.0) parts.1) parts.1)) in
            omega arith)
      ]

    no_less : (x : ℕ) → x ≤ input.horizon → service_of weak t x ≤ service_of strong t x
    no_less zero within = let a = no_service weak t in let b = no_service strong t in omega arith
    no_less (suc x) within =
        let below : x < input.horizon = omega arith in
        let before = no_less x (omega arith) in
        elim (cases_Bool (is_linked (weak x) t)) [
          | inr out ↦ (let one = service_same weak t x out in let grows = grows_by x in omega arith)
          | inl linked ↦ elim (cases_eq (service_of weak t x) (service_of strong t x)) [
            | inr differs ↦ (let one = service_more weak t x linked in let grows = grows_by x in omega arith)
            | inl same ↦ (let one = service_more weak t x linked in let other = service_more strong t x (runs_too x below same linked) in
                omega arith)
          ]
        ]
      where
        grows_by : (x : ℕ) → service_of strong t x ≤ service_of strong t (suc x)
        grows_by x = elim (cases_Bool (is_linked (strong x) t)) [
          | inl on ↦ (let e = service_more strong t x on in omega arith)
          | inr out ↦ (let e = service_same strong t x out in omega arith)
        ]

-- ---- the laws
pub top_two_get_no_less : TopTwoGetNoLess
top_two_get_no_less input events states history t valid serves runs number top x within =
    no_less input events states history valid serves runs t number top x within

pub top_two_finish_no_later : TopTwoFinishNoLater
top_two_finish_no_later input events states history t valid serves runs number top k x finish =
    let more = no_less input events states history valid serves runs t number top x finish.within in
    let got = finish.got in
    finished_by (state_of_moment (start_of input.set) history) t (goal_of (jobs_at input.jobs t) k) input.horizon x finish.within
    (omega arith)
