-- Urgent tasks are served as if there were no others: at each moment the urgent part of the best set is the best set of the
-- urgent ready tasks, and which of them are ready follows from what they got so far.
use Rattle.std.proofs.Common.{◌≡◌, ℕ, zero, suc, ◌<◌, ◌≤◌, Bool, true, ◌&&◌, List, length, nat_le, refl, sym, ap, ◌∙◌, subst, inl, inr}
use Rattle.std.proofs.Common.{arith}
use Rattle.std.proofs.lemmas.Bool.{cases_Bool, cases_lt, true≢false, and_from, and_parts, le-leb, leb-true}
use Rattle.std.proofs.lemmas.List.{length-map}
use Rattle.std.proofs.Math.Bool.{and-true}
use Rattle.task_set.specs.TaskSet.{TaskData}
use Rattle.strong_apa.specs.declared.reply.Entry.{Entry}
use Rattle.strong_apa.specs.State.{start_of, task_count, is_ready, is_linked}
use Rattle.strong_apa.specs.Placement.{TaskTest, IsBest}
use Rattle.strong_apa.proofs.BestOnce.{best_is_unique}
use Rattle.strong_apa.proofs.Counts.{count_below-more, count_below-same}
use Rattle.job_release.specs.Jobs.{demand, goal_of}
use Rattle.job_release.specs.JobInput.{JobInputData, IsJobInput, jobs_at}
use Rattle.job_release.specs.declared.input.Job.{Job}
use Rattle.job_release.specs.Driven.{RunsJobs}
use Rattle.job_release.specs.JobsText.{first_upto}
use Rattle.job_release.specs.Moments.{state_of_moment, service_of}
use Rattle.job_release.proofs.Moments.{no_service}
use Rattle.job_release.proofs.OneRun.{same_answer, best_at_start, none_beyond, same_first}
use Rattle.scheduling_laws.specs.Urgency.{urgent_of}
use Rattle.scheduling_laws.specs.Isolation.{IsUrgent, AgreeUpTo, UrgentServiceIsIsolated, UrgentFinishIsIsolated}
use Rattle.scheduling_laws.proofs.BestElsewhere.{IsSameOn, IsBest-on}
use Rattle.scheduling_laws.proofs.Urgency.{best_restricts}

-- ---- two inputs that agree
pub and_true : (a b : Bool) → b ≡ true → (a && b) ≡ a
and_true a b e = rw e (and-true a)

agree-sym : (bound : ℕ) (one other : JobInputData) → AgreeUpTo bound one other → AgreeUpTo bound other one
agree-sym bound one other agree = record {
  processors = sym agree.processors;
  horizon = sym agree.horizon;
  urgent = λ t. ((agree.urgent t).1, (agree.urgent t).0);
  same = λ t urgent. let same = agree.same t ((agree.urgent t).1 urgent) in record {
    priority = sym same.priority;
    mask = sym same.mask;
    jobs = sym same.jobs;
  };
}

-- the urgent tasks that are ready at a moment, and those that are linked
abbrev pub urgent_ready : JobInputData → List Entry → ℕ → ℕ → TaskTest
urgent_ready input history bound x = urgent_of (start_of input.set) (is_ready (state_of_moment (start_of input.set) history x)) bound

abbrev pub urgent_linked : JobInputData → List Entry → ℕ → ℕ → TaskTest
urgent_linked input history bound x = urgent_of (start_of input.set) (is_linked (state_of_moment (start_of input.set) history x)) bound

-- whoever is ready is a task of the input
pub ready_is_urgent : (input : JobInputData) → IsJobInput input → (history : List Entry) → RunsJobs input history → (bound x t : ℕ)
    → urgent_ready input history bound x t ≡ true → IsUrgent input bound t
ready_is_urgent input valid history runs bound x t h =
    let parts = and_parts (is_ready (state_of_moment (start_of input.set) history x) t) _ h in (
      elim (cases_lt t (length input.jobs)) [
        | inl number ↦ number
        | inr beyond ↦ absurd (true≢false (sym parts.0 ∙ none_beyond input valid history runs x t beyond))
      ],
      leb-true _ _ parts.1,
    )

pub urgent_best : (input : JobInputData) → IsJobInput input → (history : List Entry) → RunsJobs input history → (bound x : ℕ)
    → x < input.horizon → IsBest (start_of input.set) (urgent_ready input history bound x) (urgent_linked input history bound x)
urgent_best input valid history runs bound x below =
    let now = state_of_moment (start_of input.set) history x in
    best_restricts (start_of input.set) (is_ready now) (is_linked now) bound
    (best_at_start input valid history runs x (is_ready now) (λ t. refl) (runs.best x below))

-- the urgent tasks got the same service before this moment
abbrev SameService : ℕ → JobInputData → JobInputData → List Entry → List Entry → ℕ → Type 0
SameService bound one other history also x = (t : ℕ) → IsUrgent one bound t → service_of (state_of_moment (start_of one.set) history) t x
    ≡ service_of (state_of_moment (start_of other.set) also) t x

module _ (bound : ℕ) (one other : JobInputData) (agree : AgreeUpTo bound one other) (valid : IsJobInput one) (history also : List Entry)
    (runs : RunsJobs one history) (also_runs : RunsJobs other also) where
  -- then whoever of them is ready in the one run is ready in the other
  ready_too : (x : ℕ) → x < one.horizon → SameService bound one other history also x → (t : ℕ) → urgent_ready one history bound x t ≡ true
      → urgent_ready other also bound x t ≡ true
  ready_too x below service t h =
      let urgent = ready_is_urgent one valid history runs bound x t h in
      let there = (agree.urgent t).0 urgent in
      let parts = and_parts (is_ready (state_of_moment (start_of one.set) history x) t) _ h in
      let less : service_of (state_of_moment (start_of one.set) history) t x
      < demand (jobs_at one.jobs t) x = (runs.served.ready t x urgent.0 below).0 parts.0 in
      let same = service t urgent in
      let less' : service_of (state_of_moment (start_of one.set) history) t x < demand (jobs_at other.jobs t) x =
      subst (λ (jobs : List Job). service_of (state_of_moment (start_of one.set) history) t x < demand jobs x)
      (agree.same t urgent).jobs less in
      let far : x < other.horizon = (let e = agree.horizon in omega arith) in
      and_from _ _ ((also_runs.served.ready t x there.0 far).1 (omega arith)) (le-leb _ _ there.1)

module _ (bound : ℕ) (one other : JobInputData) (agree : AgreeUpTo bound one other) (valid : IsJobInput one) (also_valid : IsJobInput other)
    (history also : List Entry) (runs : RunsJobs one history) (also_runs : RunsJobs other also) where
  -- the same of them are ready
  same_ready : (x : ℕ) → x < one.horizon → SameService bound one other history also x → (t : ℕ) → urgent_ready one history bound x t
      ≡ urgent_ready other also bound x t
  same_ready x below service t =
      same_answer _ _ (ready_too bound one other agree valid history also runs also_runs x below service t)
      (ready_too bound other one (agree-sym bound one other agree) also_valid also history also_runs runs x
      (let e = agree.horizon in omega arith) (λ u urgent. sym (service u ((agree.urgent u).1 urgent))) t)

  -- and the same are linked
  same_linked : (x : ℕ) → x < one.horizon → SameService bound one other history also x → (t : ℕ) → IsUrgent one bound t
      → is_linked (state_of_moment (start_of one.set) history x) t ≡ is_linked (state_of_moment (start_of other.set) also x) t
  same_linked x below service t urgent =
      let start = start_of one.set in
      let start' = start_of other.set in
      let R = urgent_ready one history bound x in
      let R' = urgent_ready other also bound x in
      let is_urgent : (u : ℕ) → R u ≡ true → IsUrgent one bound u = λ u h. ready_is_urgent one valid history runs bound x u h in
      let same : IsSameOn start start' R = record {
        priority = λ u h. sym (agree.same u (is_urgent u h)).priority;
        mask = λ u h p. rw (← agree.processors, ← (agree.same u (is_urgent u h)).mask) refl;
      } in
      let far : x < other.horizon = (let e = agree.horizon in omega arith) in
      let moved = IsBest-on start start' R R' (urgent_linked one history bound x) same (same_ready x below service)
      (urgent_best one valid history runs bound x below) in
      let one_best = best_is_unique start' R' (urgent_linked one history bound x) (urgent_linked other also bound x) numbers moved
      (urgent_best other also_valid also also_runs bound x far) t in
      let there = (agree.urgent t).0 urgent in
      sym (and_true (is_linked (state_of_moment start history x) t) _ (le-leb _ _ urgent.1)) ∙ one_best
      ∙ and_true (is_linked (state_of_moment start' also x) t) _ (le-leb _ _ there.1)
    where
      numbers : (u : ℕ) → urgent_ready other also bound x u ≡ true → u < task_count (start_of other.set)
      numbers u h =
          let urgent' = ready_is_urgent other also_valid also also_runs bound x u h in
          let number = urgent'.0 in
          let all : task_count (start_of other.set) ≡ length other.set.tasks = length-map other.set.tasks
          (λ (task : TaskData). task.priority) in
          let each = also_valid.one_each in
          omega arith

  same_service : (x : ℕ) → x ≤ one.horizon → SameService bound one other history also x
  same_service zero within t urgent =
      no_service (state_of_moment (start_of one.set) history) t ∙ sym (no_service (state_of_moment (start_of other.set) also) t)
  same_service (suc x) within t urgent =
      let before = same_service x (omega arith) in
      let linked = same_linked x (omega arith) before t urgent in
      elim (cases_Bool (is_linked (state_of_moment (start_of one.set) history x) t)) [
        | inl here ↦
            count_below-more (λ y. is_linked (state_of_moment (start_of one.set) history y) t) x here
            ∙ ap (λ (n : ℕ). suc n) (before t urgent)
            ∙ sym (count_below-more (λ y. is_linked (state_of_moment (start_of other.set) also y) t) x (sym linked ∙ here))
        | inr here ↦
            count_below-same (λ y. is_linked (state_of_moment (start_of one.set) history y) t) x here ∙ before t urgent
            ∙ sym (count_below-same (λ y. is_linked (state_of_moment (start_of other.set) also y) t) x (sym linked ∙ here))
      ]

-- ---- the laws
pub urgent_service_is_isolated : UrgentServiceIsIsolated
urgent_service_is_isolated bound one other history also t valid also_valid agree runs also_runs urgent x within =
    same_service bound one other agree valid also_valid history also runs also_runs x within t urgent

pub urgent_finish_is_isolated : UrgentFinishIsIsolated
urgent_finish_is_isolated bound one other history also t valid also_valid agree runs also_runs urgent k =
    let goal = goal_of (jobs_at one.jobs t) k in
    same_first (λ x. nat_le goal (service_of (state_of_moment (start_of one.set) history) t x))
    (λ x. nat_le goal (service_of (state_of_moment (start_of other.set) also) t x)) one.horizon
    (λ x within. ap (nat_le goal) (same_service bound one other agree valid also_valid history also runs also_runs x within t urgent))
    ∙ ap (λ (jobs : List Job). first_upto (λ x. nat_le (goal_of jobs k) (service_of (state_of_moment (start_of other.set) also) t x))
    one.horizon) (agree.same t urgent).jobs
    ∙ ap (λ (h : ℕ). first_upto (λ x. nat_le (goal_of (jobs_at other.jobs t) k)
    (service_of (state_of_moment (start_of other.set) also) t x)) h) agree.horizon
