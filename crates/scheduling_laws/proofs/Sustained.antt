-- Where the urgent jobs ask for less, each task has as many of its jobs done: whoever is ready is ready in the longer run too, and
-- so a task that is linked there is linked here, or has nothing left to do.
use Rattle.std.proofs.Common.{◌≡◌, ◌≢◌, ℕ, zero, suc, ◌+◌, ◌-◌, ◌<◌, ◌≤◌, ◌⊎◌, ◌&&◌, Bool, true, false, nat_lt, List, [], ◌∷◌, length, refl}
use Rattle.std.proofs.Common.{sym, ap, ◌∙◌, subst, inl, inr, arith}
use Rattle.std.proofs.lemmas.Bool.{cases_Bool, cases_eq, cases_lt, true≢false, and_from, and_parts, le-leb, lt-ltb, ltb-true}
use Rattle.std.proofs.lemmas.List.{length-map}
use Rattle.affinity_mask.specs.ProcSet.{has, all_below, intersection, Within}
use Rattle.affinity_mask.proofs.Sets.{has-all_below, has-intersection, intersection-all_below}
use Rattle.task_set.specs.TaskSet.{TaskData}
use Rattle.strong_apa.specs.declared.reply.Entry.{Entry}
use Rattle.strong_apa.specs.State.{start_of, task_count, priority_of, is_ready, is_linked, mask_of, effective_mask}
use Rattle.strong_apa.specs.Placement.{TaskTest, IsSubset}
use Rattle.strong_apa.proofs.Start.{IsState-start}
use Rattle.strong_apa.proofs.Least.{Decided}
use Rattle.strong_apa.proofs.Counts.{count_below-more, count_below-same}
use Rattle.strong_apa.proofs.FirstFound.{first_below}
use Rattle.job_release.specs.Jobs.{job_at, demand, goal_of}
use Rattle.job_release.specs.JobInput.{JobInputData, IsJobInput, AreJobs, jobs_at}
use Rattle.job_release.specs.declared.input.Job.{Job}
use Rattle.job_release.specs.Driven.{RunsJobs}
use Rattle.job_release.specs.Driving.{asked_by}
use Rattle.job_release.specs.Moments.{Timeline, state_of_moment, service_of, IsFinish}
use Rattle.job_release.proofs.Demands.{asked_more, asked_past, asked_upto, released_later, demand_is}
use Rattle.job_release.proofs.Moments.{no_service}
use Rattle.scheduling_laws.specs.Isolation.{IsUrgent}
use Rattle.scheduling_laws.specs.MoreProcessors.{HasMoreRoomUpTo, MoreProcessorsKeepUp, MoreProcessorsFinishNoLater}
use Rattle.scheduling_laws.specs.Sustained.{IsNoLonger, AsksNoMoreUpTo, ShorterJobsKeepUp, ShorterJobsFinishNoLater}
use Rattle.scheduling_laws.proofs.Isolation.{urgent_ready, urgent_linked, ready_is_urgent, urgent_best}
use Rattle.scheduling_laws.specs.WiderMasks.{HasWiderMask, WiderMaskKeepsUp, WiderMaskFinishesNoLater}
use Rattle.scheduling_laws.proofs.Staying.{IsNarrower, stays_with_more}

-- one moment more of service
pub service_more : (states : Timeline) (t x : ℕ) → is_linked (states x) t ≡ true → service_of states t (suc x) ≡ suc (service_of states t x)
service_more states t x linked = count_below-more (λ y. is_linked (states y) t) x linked

pub service_same : (states : Timeline) (t x : ℕ) → is_linked (states x) t ≡ false → service_of states t (suc x) ≡ service_of states t x
service_same states t x not_linked = count_below-same (λ y. is_linked (states y) t) x not_linked

-- ---- lists of jobs that are released at the same moments
-- the cost of job k
abbrev cost_at : List Job → ℕ → ℕ
cost_at jobs k = (job_at jobs k).cost

cost_past : (jobs : List Job) (k : ℕ) → length jobs ≤ k → cost_at jobs k ≡ 0
cost_past [] k past = refl
cost_past (job ∷ jobs) zero past = absurd (omega arith)
cost_past (job ∷ jobs) (suc k) past = cost_past jobs k (omega arith)

-- the first k + 1 jobs, also past the last one
asked_next : (jobs : List Job) (k : ℕ) → asked_by jobs (suc k) ≡ asked_by jobs k + cost_at jobs k
asked_next jobs k =
    let next : suc k ≡ k + 1 = omega arith in
    elim (cases_lt k (length jobs)) [
      | inl within ↦ ap (asked_by jobs) next ∙ asked_more jobs k within
      | inr past ↦ (let none = cost_past jobs k past in let same = ap (asked_by jobs) next ∙ asked_past jobs k past in omega arith)
    ]

record AreNoLonger (jobs jobs' : List Job) : Type 0 where
  count : length jobs ≡ length jobs'
  each : (k : ℕ) → k < length jobs → IsNoLonger (job_at jobs k) (job_at jobs' k)

costs_no_more : (jobs jobs' : List Job) → AreNoLonger jobs jobs' → (k : ℕ) → cost_at jobs' k ≤ cost_at jobs k
costs_no_more jobs jobs' shorter k = elim (cases_lt k (length jobs)) [
  | inl within ↦ (shorter.each k within).cost
  | inr past ↦ (let none = cost_past jobs' k (let count = shorter.count in omega arith) in omega arith)
]

asked_no_more : (jobs jobs' : List Job) → AreNoLonger jobs jobs' → (k : ℕ) → asked_by jobs' k ≤ asked_by jobs k
asked_no_more jobs jobs' shorter zero = omega arith
asked_no_more jobs jobs' shorter (suc k) =
    let before = asked_no_more jobs jobs' shorter k in
    let more = asked_next jobs k in
    let more' = asked_next jobs' k in
    let cost = costs_no_more jobs jobs' shorter k in
    omega arith

-- how many of the first n jobs are released by a moment, where none is released before an earlier one
pub record AreReleased (jobs : List Job) (x r : ℕ) : Type 0 where
  pub few : r ≤ length jobs
  pub before : (k : ℕ) → k < r → (job_at jobs k).release ≤ x
  pub after : (k : ℕ) → r ≤ k → k < length jobs → x < (job_at jobs k).release

pub released_among : (horizon : ℕ) (jobs : List Job) → AreJobs horizon jobs → (x n : ℕ) → n ≤ length jobs → ((k : ℕ) → n ≤ k
    → k < length jobs → x < (job_at jobs k).release)
    → (r : ℕ) × AreReleased jobs x r
released_among horizon jobs valid x zero within after =
    (0, record { few = omega arith; before = λ k below. absurd (omega arith); after = after })
released_among horizon jobs valid x (suc n) within after = elim (cases_lt x (job_at jobs n).release) [
  | inl later ↦ released_among horizon jobs valid x n (omega arith)
      (λ k from inside. let order = released_later horizon jobs valid n k from inside in omega arith)
  | inr released ↦ (
    suc n,
    record {
      few = within;
      before = λ k below. (let order = released_later horizon jobs valid k n (omega arith) within in omega arith);
      after = after;
    },
  )
]

-- as many are released in both lists, and the demand is what these ask for
record SameReleased (jobs jobs' : List Job) (x : ℕ) : Type 0 where
  number : ℕ
  one : demand jobs x ≡ asked_by jobs number
  other : demand jobs' x ≡ asked_by jobs' number

same_released : (horizon : ℕ) (jobs jobs' : List Job) → AreJobs horizon jobs → AreNoLonger jobs jobs' → (x : ℕ) → SameReleased jobs jobs' x
same_released horizon jobs jobs' valid shorter x =
    let found = released_among horizon jobs valid x (length jobs) (omega arith) (λ k from below. absurd (omega arith)) in
    let r = found.0 in
    let are = found.1 in
    let count = shorter.count in
    let few = are.few in
    record {
      number = r;
      one = demand_is jobs r x few are.before are.after;
      other = demand_is jobs' r x (omega arith)
          (λ k below. let same = (shorter.each k (omega arith)).release in let before = are.before k below in omega arith)
          (λ k from inside. let same = (shorter.each k (omega arith)).release in let after = are.after k from (omega arith) in omega arith);
    }

-- ---- j jobs done, and i units of the next one, give j jobs of the shorter ones and what is left of i
abbrev KeepsUp : List Job → List Job → ℕ → ℕ → Type 0
KeepsUp jobs jobs' got got' =
    (j i : ℕ) → i ≤ cost_at jobs j → asked_by jobs j + i ≤ got → asked_by jobs' j + (i - (cost_at jobs j - cost_at jobs' j)) ≤ got'

module _ (jobs jobs' : List Job) (shorter : AreNoLonger jobs jobs') where
  -- at first
  keeps-zero : (got' : ℕ) → KeepsUp jobs jobs' 0 got'
  keeps-zero got' j i small done = let fewer = asked_no_more jobs jobs' shorter j in omega arith

  -- service of the other run alone does no harm
  keeps-other : (got got' more : ℕ) → got' ≤ more → KeepsUp jobs jobs' got got' → KeepsUp jobs jobs' got more
  keeps-other got got' more le keeps j i small done = let h = keeps j i small done in omega arith

  -- a moment of service in the one run, and in the other one, or there is nothing left to do there
  keeps-more : (r got got' more : ℕ) → KeepsUp jobs jobs' got got' → got' ≤ more → got < asked_by jobs r
      → (more ≡ suc got') ⊎ (asked_by jobs' r ≤ got') → KeepsUp jobs jobs' (suc got) more
  keeps-more r got got' more keeps le grows also j i small done = elim (cases_lt got (asked_by jobs j + i)) [
    | inr before ↦ (let h = keeps j i small before in omega arith)
    | inl now ↦ at j i small now done
  ]
    where
      -- the next job is under way
      under_way : (j i : ℕ) → suc i ≤ cost_at jobs j → asked_by jobs j + suc i ≡ suc got
          → asked_by jobs' j + (suc i - (cost_at jobs j - cost_at jobs' j)) ≤ more
      under_way j i small now = elim also [
        | inl runs ↦ (let h = keeps j i (omega arith) (omega arith) in omega arith)
        | inr nothing ↦ elim (cases_lt j r) [
          | inl lt ↦ (
              let upto = asked_upto jobs' (suc j) r lt in
              let next = asked_next jobs' j in
              let cost = costs_no_more jobs jobs' shorter j in omega arith)
          | inr ge ↦ absurd (let upto = asked_upto jobs r j ge in omega arith)
        ]
      ]

      at : (j i : ℕ) → i ≤ cost_at jobs j → got < asked_by jobs j + i → asked_by jobs j + i ≤ suc got
          → asked_by jobs' j + (i - (cost_at jobs j - cost_at jobs' j)) ≤ more
      at j (suc i) small now done = under_way j i small (omega arith)
      at zero zero small now done = absurd (omega arith)
      at (suc j) zero small now done =
          let next = asked_next jobs j in
          let next' = asked_next jobs' j in
          let cost = costs_no_more jobs jobs' shorter j in
          elim (cases_lt 0 (cost_at jobs j)) [
            | inl some ↦ (
                let pred : suc (cost_at jobs j - 1) ≡ cost_at jobs j = omega arith in
                let h = under_way j (cost_at jobs j - 1) (omega arith) (omega arith) in omega arith)
            | inr none ↦ (let h = at j zero (omega arith) (omega arith) (omega arith) in omega arith)
          ]

-- ---- two runs
twice : (a b c : Bool) → (b ≡ true → c ≡ true) → ((a && b) && b) ≡ ((a && c) && b)
twice false b c up = refl
twice true false false up = refl
twice true false true up = refl
twice true true false up = sym (up refl)
twice true true true up = refl

-- what both laws on masks have: the urgent tasks of the other input ask for no more, and their masks are wider there, but for the least
-- urgent one by processors alone that the one input lacks
record HasRoomUpTo (bound : ℕ) (one other : JobInputData) : Type 0 where
  horizon : one.horizon ≡ other.horizon
  urgent : (t : ℕ) → IsUrgent other bound t → IsUrgent one bound t
  jobs : (t : ℕ) → IsUrgent other bound t → AreNoLonger (jobs_at one.jobs t) (jobs_at other.jobs t)
  narrower : (tasks : TaskTest) → ((t : ℕ) → tasks t ≡ true → IsUrgent other bound t)
      → IsNarrower (start_of one.set) (start_of other.set) tasks

module _ (bound : ℕ) (one other : JobInputData) (agree : HasRoomUpTo bound one other) (valid : IsJobInput one)
    (also_valid : IsJobInput other) (history also : List Entry) (runs : RunsJobs one history) (also_runs : RunsJobs other also) where
  abbrev states : Timeline
  states = state_of_moment (start_of one.set) history

  abbrev states' : Timeline
  states' = state_of_moment (start_of other.set) also

  abbrev got : ℕ → ℕ → ℕ
  got t x = service_of states t x

  abbrev got' : ℕ → ℕ → ℕ
  got' t x = service_of states' t x

  abbrev jobs : ℕ → List Job
  jobs t = jobs_at one.jobs t

  abbrev jobs' : ℕ → List Job
  jobs' t = jobs_at other.jobs t

  abbrev AllKeepUp : ℕ → Type 0
  AllKeepUp x = (t : ℕ) → IsUrgent other bound t → KeepsUp (jobs t) (jobs' t) (got t x) (got' t x)

  shorter : (t : ℕ) → IsUrgent other bound t → AreNoLonger (jobs t) (jobs' t)
  shorter t urgent = agree.jobs t urgent

  -- what an urgent task is released in both runs
  released : (t x : ℕ) → IsUrgent other bound t → SameReleased (jobs t) (jobs' t) x
  released t x urgent = same_released one.horizon (jobs t) (jobs' t) (valid.each_jobs t [] (agree.urgent t urgent).0) (shorter t urgent) x

  far : (x : ℕ) → x < one.horizon → x < other.horizon
  far x below = (let e = agree.horizon in omega arith)

  -- whoever is ready in the other run is ready in the one
  fewer_ready : (x : ℕ) → x < one.horizon → AllKeepUp x → IsSubset (urgent_ready other also bound x) (urgent_ready one history bound x)
  fewer_ready x below keeps t h =
      let there = ready_is_urgent other also_valid also also_runs bound x t h in
      let urgent = agree.urgent t there in
      let same = released t x there in
      let is = (and_parts (is_ready (states' x) t) _ h).0 in
      let less : got' t x < demand (jobs' t) x = (also_runs.served.ready t x there.0 (far x below)).0 is in
      elim (cases_lt (got t x) (demand (jobs t) x)) [
        | inl lt ↦ and_from _ _ ((runs.served.ready t x urgent.0 below).1 lt) (le-leb _ _ urgent.1)
        | inr ge ↦ absurd (let demands = same.one in let demands' = same.other in let h = keeps t there same.number 0 (omega arith)
            (omega arith) in omega arith)
      ]

  numbers : (x t : ℕ) → urgent_ready one history bound x t ≡ true → t < task_count (start_of one.set)
  numbers x t h =
      let number = (ready_is_urgent one valid history runs bound x t h).0 in
      let all : task_count (start_of one.set) ≡ length one.set.tasks = length-map one.set.tasks (λ (task : TaskData). task.priority) in
      let each = valid.one_each in
      omega arith

  also_numbers : (x t : ℕ) → urgent_ready other also bound x t ≡ true → t < task_count (start_of other.set)
  also_numbers x t h =
      let number = (ready_is_urgent other also_valid also also_runs bound x t h).0 in
      let all : task_count (start_of other.set) ≡ length other.set.tasks = length-map other.set.tasks
      (λ (task : TaskData). task.priority) in
      let each = also_valid.one_each in
      omega arith

  -- whoever is linked in the one run, and ready in the other, is linked there too
  linked_too : (x : ℕ) → x < one.horizon → AllKeepUp x → (t : ℕ) → IsUrgent other bound t
      → is_linked (state_of_moment (start_of one.set) history x) t ≡ true → is_ready (state_of_moment (start_of other.set) also x) t ≡ true
      → is_linked (state_of_moment (start_of other.set) also x) t ≡ true
  linked_too x below keeps t there linked ready =
      let urgent = agree.urgent t there in
      let is_urgent : (u : ℕ) → urgent_ready other also bound x u ≡ true
      → IsUrgent other bound u = λ u h. (ready_is_urgent other also_valid also also_runs bound x u h) in
      let chosen = stays_with_more (start_of one.set) (start_of other.set) (IsState-start one.set valid.valid)
      (IsState-start other.set also_valid.valid)
      (urgent_ready one history bound x) (urgent_ready other also bound x) (urgent_linked one history bound x)
      (urgent_linked other also bound x)
      (numbers x) (also_numbers x) (fewer_ready x below keeps) (urgent_best one valid history runs bound x below)
      (urgent_best other also_valid also also_runs bound x (far x below))
      (agree.narrower (urgent_ready other also bound x) is_urgent) t
      (and_from _ _ linked (le-leb _ _ urgent.1)) (and_from _ _ ready (le-leb _ _ there.1)) in
      (and_parts (is_linked (state_of_moment (start_of other.set) also x) t) _ chosen).0

  -- one moment more
  keep_up-more : (x : ℕ) → x < one.horizon → AllKeepUp x → AllKeepUp (suc x)
  keep_up-more x below keeps t urgent = elim (cases_Bool (is_linked (states x) t)) [
    | inr waits ↦ rw (service_same states t x waits)
        (keeps-other (jobs t) (jobs' t) (shorter t urgent) (got t x) (got' t x) (got' t (suc x)) grows (keeps t urgent))
    | inl linked ↦ rw (service_more states t x linked)
        (keeps-more (jobs t) (jobs' t) (shorter t urgent) (released t x urgent).number (got t x) (got' t x) (got' t (suc x))
        (keeps t urgent) grows (left linked) (also_served linked))
  ]
    where
      grows : got' t x ≤ got' t (suc x)
      grows = elim (cases_Bool (is_linked (states' x) t)) [
        | inl linked ↦ (let e = service_more states' t x linked in omega arith)
        | inr waits ↦ (let e = service_same states' t x waits in omega arith)
      ]

      -- a linked task is ready, and so there is something left to do
      left : is_linked (states x) t ≡ true → got t x < asked_by (jobs t) (released t x urgent).number
      left linked =
          let less = (runs.served.ready t x (agree.urgent t urgent).0 below).0 ((runs.best x below).subset t linked) in
          let demands = (released t x urgent).one in omega arith

      also_served : is_linked (states x) t ≡ true
          → (got' t (suc x) ≡ suc (got' t x)) ⊎ (asked_by (jobs' t) (released t x urgent).number ≤ got' t x)
      also_served linked = elim (cases_Bool (is_ready (states' x) t)) [
        | inl ready ↦ inl (service_more states' t x (linked_too x below keeps t urgent linked ready))
        | inr absent ↦ elim (cases_lt (got' t x) (demand (jobs' t) x)) [
          | inl less ↦ absurd (true≢false (sym ((also_runs.served.ready t x urgent.0 (far x below)).1 less) ∙ absent))
          | inr enough ↦ inr (let demands = (released t x urgent).other in omega arith)
        ]
      ]

  keep_up : (x : ℕ) → x ≤ one.horizon → AllKeepUp x
  keep_up zero within t urgent = rw (no_service states t) (keeps-zero (jobs t) (jobs' t) (shorter t urgent) (got' t zero))
  keep_up (suc x) within t urgent = keep_up-more x (omega arith) (keep_up x (omega arith)) t urgent

-- ---- what is done by a moment is finished by then
decided : (a b : ℕ) → Decided (a ≤ b)
decided a b = elim (cases_lt b a) [ inl lt ↦ inr (λ le. omega arith) | inr le ↦ inl le ]

either : (a b : ℕ) → (a ≤ b) ⊎ (b ≤ a)
either a b = elim (cases_lt a b) [ inl lt ↦ inl (omega arith) | inr ge ↦ inr ge ]

pub finished_by : (states : Timeline) (t goal horizon x : ℕ) → x ≤ horizon → goal ≤ service_of states t x
    → (y : ℕ) × (y ≤ x) × IsFinish states t goal horizon y
finished_by states t goal horizon x within done =
    let found_first = first_below (λ y. goal ≤ service_of states t y) (λ y. decided goal (service_of states t y)) (λ y z. y ≤ z) either
    (λ a b c le more. omega arith) (suc x) in
    elim found_first [
      | inl found ↦ (
        found.0,
        (let lt = found.1 in omega arith),
        record {
          within = (let lt = found.1 in omega arith);
          got = found.2;
          least = λ y lt. elim (cases_lt (service_of states t y) goal) [
            | inl less ↦ less
            | inr enough ↦ absurd (let le = found.3 y (let below = found.1 in omega arith) enough in omega arith)
          ];
        },
      )
      | inr none ↦ absurd (none x (omega arith) done)
    ]

-- ---- where there is room
module _ (bound : ℕ) (one other : JobInputData) (agree : HasRoomUpTo bound one other) (valid : IsJobInput one)
    (also_valid : IsJobInput other)
    (history also : List Entry) (runs : RunsJobs one history) (also_runs : RunsJobs other also) (t : ℕ) (urgent : IsUrgent other bound t)
    (k x : ℕ) where
  done_too : x ≤ one.horizon → goal_of (jobs_at one.jobs t) k ≤ service_of (state_of_moment (start_of one.set) history) t x
      → goal_of (jobs_at other.jobs t) k ≤ service_of (state_of_moment (start_of other.set) also) t x
  done_too within done =
      let h = keep_up bound one other agree valid also_valid history also runs also_runs x within t urgent (k + 1) 0 (omega arith)
      (omega arith) in
      omega arith

  finished_too : IsFinish (state_of_moment (start_of one.set) history) t (goal_of (jobs_at one.jobs t) k) one.horizon x
      → (y : ℕ) × (y ≤ x) × IsFinish (state_of_moment (start_of other.set) also) t (goal_of (jobs_at other.jobs t) k) other.horizon y
  finished_too finish =
      let within = finish.within in
      let e = agree.horizon in
      finished_by (state_of_moment (start_of other.set) also) t (goal_of (jobs_at other.jobs t) k) other.horizon x (omega arith)
      (done_too within finish.got)

-- ---- more processors
module _ (bound : ℕ) (one other : JobInputData) (agree : HasMoreRoomUpTo bound one other) where
  -- the one input has what its processors leave of the mask
  narrower : (u p : ℕ) → IsUrgent other bound u
      → has (effective_mask (start_of one.set) u) p ≡ (has (effective_mask (start_of other.set) u) p && nat_lt p one.set.processors)
  narrower u p urgent =
      ap (λ (X : ℕ). has (intersection X (all_below one.set.processors)) p) (agree.each u urgent).mask
      ∙ has-intersection (intersection (mask_of (start_of other.set) u) (all_below one.set.processors)) (all_below one.set.processors) p
      ∙ ap (λ (b : Bool). b && has (all_below one.set.processors) p)
      (has-intersection (mask_of (start_of other.set) u) (all_below one.set.processors) p)
      ∙ ap (λ (b : Bool). (has (mask_of (start_of other.set) u) p && b) && b) (has-all_below one.set.processors p)
      ∙ twice (has (mask_of (start_of other.set) u) p) (nat_lt p one.set.processors) (nat_lt p other.set.processors)
      (λ h. lt-ltb _ _ (let lt = ltb-true p one.set.processors h in let more = agree.processors in omega arith))
      ∙ ap (λ (b : Bool). (has (mask_of (start_of other.set) u) p && b) && nat_lt p one.set.processors)
      (sym (has-all_below other.set.processors p))
      ∙ ap (λ (b : Bool). b && nat_lt p one.set.processors)
      (sym (has-intersection (mask_of (start_of other.set) u) (all_below other.set.processors) p))

  more_room : HasRoomUpTo bound one other
  more_room = record {
    horizon = agree.horizon;
    urgent = agree.urgent;
    jobs = λ t urgent. let how = agree.each t urgent in record { count = how.count; each = how.each };
    narrower = λ tasks are. record {
      priority = λ u h. sym (agree.each u (are u h)).priority;
      within = λ u h p there. sym (narrower u p (are u h)) ∙ there;
      all = λ u v h k less p there. narrower u p (are u h) ∙ there;
    };
  }

pub more_processors_keep_up : MoreProcessorsKeepUp
more_processors_keep_up bound one other history also t valid also_valid agree runs also_runs urgent k x within done =
    done_too bound one other (more_room bound one other agree) valid also_valid history also runs also_runs t urgent k x within done

pub more_processors_finish_no_later : MoreProcessorsFinishNoLater
more_processors_finish_no_later bound one other history also t valid also_valid agree runs also_runs urgent k x finish =
    finished_too bound one other (more_room bound one other agree) valid also_valid history also runs also_runs t urgent k x finish

-- ---- a wider mask
module _ (t : ℕ) (one other : JobInputData) (valid : IsJobInput one) (also_valid : IsJobInput other)
    (agree : HasWiderMask t one other) where
  abbrev up_to : ℕ
  up_to = priority_of (start_of one.set) t

  same_jobs : (u : ℕ) → IsUrgent one up_to u → jobs_at one.jobs u ≡ jobs_at other.jobs u
  same_jobs u urgent = elim (cases_eq u t) [
    | inl same ↦ subst (λ (v : ℕ). jobs_at one.jobs v ≡ jobs_at other.jobs v) (sym same) agree.jobs
    | inr differs ↦ (agree.same u urgent differs).jobs
  ]

  no_longer : (jobs jobs' : List Job) → jobs ≡ jobs' → AreNoLonger jobs jobs'
  no_longer jobs jobs' same =
      subst (AreNoLonger jobs) same record { count = refl; each = λ k below. record { release = refl; cost = omega arith } }

  same_priority : (u : ℕ) → IsUrgent one up_to u → priority_of (start_of one.set) u ≡ priority_of (start_of other.set) u
  same_priority u urgent = elim (cases_eq u t) [
    | inl same ↦ subst (λ (v : ℕ). priority_of (start_of one.set) v ≡ priority_of (start_of other.set) v) (sym same) agree.priority
    | inr differs ↦ (agree.same u urgent differs).priority
  ]

  masks_within : (u : ℕ) → IsUrgent one up_to u → Within (mask_of (start_of one.set) u) (mask_of (start_of other.set) u)
  masks_within u urgent = elim (cases_eq u t) [
    | inl same ↦ subst (λ (v : ℕ). Within (mask_of (start_of one.set) v) (mask_of (start_of other.set) v)) (sym same) agree.wider
    | inr differs ↦ subst (Within (mask_of (start_of one.set) u)) (agree.same u urgent differs).mask (λ p there. there)
  ]

  same_online : all_below one.set.processors ≡ all_below other.set.processors
  same_online = ap all_below agree.processors

  wider_room : HasRoomUpTo up_to one other
  wider_room = record {
    horizon = agree.horizon;
    urgent = λ u urgent. (agree.urgent u).1 urgent;
    jobs = λ u urgent. no_longer (jobs_at one.jobs u) (jobs_at other.jobs u) (same_jobs u ((agree.urgent u).1 urgent));
    narrower = λ tasks are. record {
      priority = λ u h. sym (same_priority u ((agree.urgent u).1 (are u h)));
      within = λ u h p there.
          let parts = and_parts (has (mask_of (start_of one.set) u) p) (has (all_below one.set.processors) p)
          (sym (has-intersection (mask_of (start_of one.set) u) (all_below one.set.processors) p) ∙ there) in
          let in_mask = masks_within u ((agree.urgent u).1 (are u h)) p parts.0 in
          let on_line = ap (λ (X : ℕ). has X p) (sym same_online) ∙ parts.1 in
          and_from _ _ (has-intersection (mask_of (start_of other.set) u) (all_below other.set.processors) p ∙ and_from _ _ in_mask on_line)
          (sym (has-all_below one.set.processors p) ∙ parts.1);
      all = λ u v h k less p there.
          let urgent = (agree.urgent u).1 (are u h) in
          let later = ((agree.urgent v).1 (are v k)).1 in
          let differs : u ≢ t = (λ same. let e = ap (priority_of (start_of one.set)) same in omega arith) in
          let parts = and_parts (has (effective_mask (start_of other.set) u) p) (nat_lt p one.set.processors) there in
          ap (λ (X : ℕ). has (intersection X (all_below one.set.processors)) p) (agree.same u urgent differs).mask
          ∙ ap (λ (X : ℕ). has (intersection (mask_of (start_of other.set) u) X) p) same_online ∙ parts.0;
    };
  }

pub wider_mask_keeps_up : WiderMaskKeepsUp
wider_mask_keeps_up t one other history also u valid also_valid agree runs also_runs urgent k x within done =
    done_too (priority_of (start_of one.set) t) one other (wider_room t one other valid also_valid agree)
    valid also_valid history also runs also_runs u ((agree.urgent u).0 urgent) k x within done

pub wider_mask_finishes_no_later : WiderMaskFinishesNoLater
wider_mask_finishes_no_later t one other history also u valid also_valid agree runs also_runs urgent k x finish =
    finished_too (priority_of (start_of one.set) t) one other (wider_room t one other valid also_valid agree)
    valid also_valid history also runs also_runs u ((agree.urgent u).0 urgent) k x finish

-- with the same processors
same_room : (bound : ℕ) (one other : JobInputData) → IsJobInput other → AsksNoMoreUpTo bound one other → HasMoreRoomUpTo bound one other
same_room bound one other also_valid agree = record {
  processors = (let e = agree.processors in omega arith);
  horizon = agree.horizon;
  urgent = agree.urgent;
  each = λ t urgent. let how = agree.each t urgent in record {
    priority = how.priority;
    mask = how.mask ∙ sym (intersection-all_below (mask_of (start_of other.set) t) one.set.processors (within t urgent));
    count = how.count;
    each = how.each;
  };
}
  where
    within : (t : ℕ) → IsUrgent other bound t → Within (mask_of (start_of other.set) t) (all_below one.set.processors)
    within t urgent p there =
        let all : task_count (start_of other.set) ≡ length other.set.tasks = length-map other.set.tasks
        (λ (task : TaskData). task.priority) in
        let one_each = also_valid.one_each in
        let number = urgent.0 in
        let below = ((IsState-start other.set also_valid.valid).masks t (omega arith)).below p there in
        let e = agree.processors in
        has-all_below one.set.processors p ∙ lt-ltb _ _ (omega arith)

pub shorter_jobs_keep_up : ShorterJobsKeepUp
shorter_jobs_keep_up bound one other history also t valid also_valid agree =
    more_processors_keep_up bound one other history also t valid also_valid (same_room bound one other also_valid agree)

pub shorter_jobs_finish_no_later : ShorterJobsFinishNoLater
shorter_jobs_finish_no_later bound one other history also t valid also_valid agree =
    more_processors_finish_no_later bound one other history also t valid also_valid (same_room bound one other also_valid agree)
