-- At each moment at which a task waits, the occupants of its mask are as many tasks that can interfere, each of which gets a unit.
use Rattle.std.proofs.Common.{◌≡◌, ℕ, zero, suc, ◌+◌, ◌-◌, ◌*◌, ◌<◌, ◌≤◌, Bool, true, false, not, ◌&&◌, ◌==◌, nat_lt, List, [], ◌∷◌, length}
use Rattle.std.proofs.Common.{set, take}
use Rattle.std.proofs.Common.{Some, All, refl, sym, ap, ◌∙◌, subst, inl, inr, IsTrue, arith, eqb-true, mul-suc, mul-zero, mul-le-mul_left}
use Rattle.std.proofs.lemmas.Bool.{cases_Bool, cases_lt, and_from, and_right, and_parts, lt-ltb}
use Rattle.std.proofs.lemmas.List.{length-map}
use Rattle.std.proofs.lemmas.List.Elements.{All-head, All-tail, All-take}
use Rattle.affinity_mask.specs.ProcSet.{has, empty, intersection}
use Rattle.affinity_mask.proofs.Sets.{has-intersection, has-all_below}
use Rattle.affinity_mask.proofs.Meetings.{no_member}
use Rattle.task_set.specs.Event.{IsOfVersion}
use Rattle.task_set.specs.TaskSet.{SetData, TaskData, IsTaskSet}
use Rattle.task_set.specs.declared.event.Event.{Event}
use Rattle.task_set.specs.declared.event.Event.TheVariants.{Arrive, Depart, Tick, Affinity, Offline, Online}
use Rattle.strong_apa.specs.declared.reply.Entry.{Entry}
use Rattle.strong_apa.specs.State.{State, IsState, IsWaiting, IsMoreUrgent, HasSameTasks, HasSameMasks, start_of, task_count, task_on}
use Rattle.strong_apa.specs.State.{is_ready, is_linked, mask_of, effective_mask}
use Rattle.strong_apa.specs.History.{IsLegal, state_after, effect_of}
use Rattle.strong_apa.specs.Certified.{HasCertificates}
use Rattle.strong_apa.proofs.Counts.{count_below, count_below-more, count_below-same, count_below-injection}
use Rattle.strong_apa.proofs.Kept.{legal_is_certified}
use Rattle.strong_apa.proofs.Linked.{is_linked-from_on, linked_number}
use Rattle.strong_apa.proofs.SameBest.{priority_of-same}
use Rattle.strong_apa.proofs.SameTasks.{same_tasks-history, same_count, reply_keeps_masks}
use Rattle.strong_apa.proofs.Start.{IsState-start}
use Rattle.strong_apa.proofs.Unique.{ready_number}
use Rattle.weak_apa.specs.Compared.{IsWeakRun}
use Rattle.weak_apa.specs.Step.{WeakStep, Follows, without_links}
use Rattle.weak_apa.proofs.Followed.{weak_step_follows}
use Rattle.weak_apa.proofs.Unique.{weak_step_keeps_state}
use Rattle.job_release.specs.Jobs.{job_at, demand, goal_of}
use Rattle.job_release.specs.JobInput.{JobInputData, IsJobInput, jobs_at}
use Rattle.job_release.specs.declared.input.Job.{Job}
use Rattle.job_release.specs.Driven.{IsJobEvent, ServesJobs, RunsJobs}
use Rattle.job_release.specs.Moments.{Timeline, changes_by, state_of_moment, service_of, units_of}
use Rattle.job_release.specs.WeakRuns.{state_then}
use Rattle.job_release.specs.WeakServes.{weak_timeline}
use Rattle.job_release.proofs.Demands.{asked_upto, demand_is, job_valid}
use Rattle.job_release.proofs.Moments.{state_by_entries}
use Rattle.scheduling_laws.specs.Response.{can_interfere, width_of, waiting_of, interference_of, interfering_demand, WaitsForInterference}
use Rattle.scheduling_laws.specs.Response.{LittleInterferenceSuffices, SmallDemandSuffices, WaitingIsInterference}
use Rattle.scheduling_laws.specs.Response.{WeakWaitingIsInterference}
use Rattle.scheduling_laws.specs.Response.{LittleInterferenceIsInTime, SmallDemandIsInTime, WeakLittleInterferenceIsInTime}
use Rattle.scheduling_laws.specs.Response.{WeakSmallDemandIsInTime}
use Rattle.scheduling_laws.proofs.Sustained.{released_among, service_more, service_same}
use Rattle.scheduling_laws.proofs.Weights.{sum_step, sum_no_more}
use Rattle.scheduling_laws.proofs.PlacedState.{who}

-- a count only grows
count_grows : (test : ℕ → Bool) (x d : ℕ) → count_below test x ≤ count_below test (x + d)
count_grows test x zero = let none : x + 0 ≡ x = omega arith in let same = ap (count_below test) none in omega arith
count_grows test x (suc d) =
    let before = count_grows test x d in
    let next : x + suc d ≡ suc (x + d) = omega arith in
    let same = ap (count_below test) next in
    elim (cases_Bool (test (x + d))) [
      | inl does ↦ (let one = count_below-more test (x + d) does in omega arith)
      | inr does_not ↦ (let none = count_below-same test (x + d) does_not in omega arith)
    ]

pays : (x a w i j c : ℕ) → x ≡ a + w → a ≤ i → w ≤ c → j ≡ i + c → x ≤ j
pays x a w i j c e p q f = omega arith

-- ---- a state in which each processor of the mask of a waiting task runs a task that can interfere
module _ (s : State) (t : ℕ) where
  record Interferes (now : State) (p u : ℕ) : Type 0 where
    on : task_on now p ≡ Some u
    interferes : can_interfere s t u ≡ true
    number : u < task_count s

  record IsHeldOff (now : State) : Type 0 where
    held : (p : ℕ) → IsTrue (has (mask_of s t) p) → (u : ℕ) × Interferes now p u
    once : (p q u : ℕ) → task_on now p ≡ Some u → task_on now q ≡ Some u → p ≡ q

  abbrev interferes_in : State → ℕ → Bool
  interferes_in now u = can_interfere s t u && is_linked now u

  -- so many of them are linked
  as_many : (now : State) → IsHeldOff now → width_of s t ≤ count_below (interferes_in now) (task_count s)
  as_many now off = count_below-injection (has (mask_of s t)) 64 (interferes_in now) (task_count s) (λ p. who (task_on now p)) record {
    below = λ p lt h. let u = off.held p h in subst (λ (z : ℕ). z < task_count s) (sym (ap who u.1.on)) u.1.number;
    passes = λ p lt h. let u = off.held p h in
        subst (λ (z : ℕ). interferes_in now z ≡ true) (sym (ap who u.1.on))
        (and_from _ _ u.1.interferes (is_linked-from_on now p u.0 u.1.on));
    apart = λ p q lp lq hp hq e.
        let u = off.held p hp in
        let v = off.held q hq in
        let same : u.0 ≡ v.0 = sym (ap who u.1.on) ∙ e ∙ ap who v.1.on in
        off.once p q v.0 (u.1.on ∙ ap (λ (n : ℕ). Some n) same) v.1.on;
  }

-- ---- such states up to a moment
abbrev waits : Timeline → ℕ → ℕ → Bool
waits states t y = is_ready (states y) t && not (is_linked (states y) t)

module _ (s : State) (states : Timeline) (t from end : ℕ) (off : (y : ℕ) → y < end → waits states t y ≡ true
    → IsHeldOff s t (states y)) where
  abbrev gets : ℕ → ℕ → ℕ
  gets x u = service_of states u x - service_of states u from

  one_more : (d : ℕ) → interference_of s states t from (suc (from + d))
      ≡ interference_of s states t from (from + d) + count_below (interferes_in s t (states (from + d))) (task_count s)
  one_more d = sum_step (can_interfere s t) (is_linked (states (from + d))) (gets (from + d)) (gets (suc (from + d))) (task_count s)
      (λ u lt member linked.
      let more = service_more states u (from + d) linked in
      let grows = count_grows (λ y. is_linked (states y) u) from d in
      omega arith)
      (λ u lt member not_linked. let same = service_same states u (from + d) not_linked in omega arith)

  is_paid : (d : ℕ) → from + d ≤ end → WaitsForInterference s states t from (from + d)
  is_paid zero within =
      let none : from + 0 ≡ from = omega arith in
      let e : waiting_of states t (from + 0) - waiting_of states t from ≡ 0 = (let same = ap (waiting_of states t) none in omega arith) in
      rw e (omega arith)
  is_paid (suc d) within =
      let next : from + suc d ≡ suc (from + d) = omega arith in
      let before = is_paid d (omega arith) in
      let more = one_more d in
      let grows = count_grows (waits states t) from d in
      rw next (elim (cases_Bool (waits states t (from + d))) [
        | inl does ↦ (
            let one = count_below-more (waits states t) (from + d) does in
            let e : waiting_of states t (suc (from + d)) - waiting_of states t from
            ≡ suc (waiting_of states t (from + d) - waiting_of states t from) = omega arith in
            let times = mul-suc (width_of s t) (waiting_of states t (from + d) - waiting_of states t from) in
            let many = as_many s t (states (from + d)) (off (from + d) (omega arith) does) in
            rw e (pays _ _ _ _ _ _ times before many more))
        | inr does_not ↦ (
            let none = count_below-same (waits states t) (from + d) does_not in
            let e : waiting_of states t (suc (from + d)) - waiting_of states t from
            ≡ waiting_of states t (from + d) - waiting_of states t from = omega arith in
            rw e (omega arith))
      ])

-- ---- a moment of either scheduler
-- a state with the tasks and the masks of the start
pub record IsLike (start now : State) : Type 0 where
  pub ok : IsState now
  pub tasks : HasSameTasks start now
  pub masks : HasSameMasks start now

not_true : (b : Bool) → not b ≡ true → b ≡ false
not_true true e = sym e
not_true false e = refl

-- each processor of the mask of a waiting task runs a more urgent task
abbrev pub IsKeptOutIn : State → ℕ → Type 0
IsKeptOutIn now t =
    IsWaiting now t → (p : ℕ) → IsTrue (has (effective_mask now t) p) → (u : ℕ) × (task_on now p ≡ Some u) × IsMoreUrgent now u t

module _ (set : SetData) (valid : IsTaskSet set) (t : ℕ) (now : State) (like : IsLike (start_of set) now) (kept : IsKeptOutIn now t) where
  abbrev start : State
  start = start_of set

  same_mask : (u : ℕ) → effective_mask now u ≡ effective_mask start u
  same_mask u = let same = like.masks in rw (same.masks, same.online) refl

  shared : (p u : ℕ) → IsTrue (has (mask_of start t) p) → IsTrue (has (effective_mask now u) p)
      → not (intersection (mask_of start u) (mask_of start t) == empty) ≡ true
  shared p u inside there = elim (cases_Bool (intersection (mask_of start u) (mask_of start t) == empty)) [
    | inr some ↦ ap not some
    | inl none ↦ absurd (
        let on_mask = sym (has-intersection (mask_of start u) start.online p) ∙ ap (λ (X : ℕ). has X p) (sym (same_mask u)) ∙ there in
        let in_u = (and_parts (has (mask_of start u) p) (has start.online p) on_mask).0 in
        no_member (intersection (mask_of start u) (mask_of start t)) p
        (eqb-true (intersection (mask_of start u) (mask_of start t)) empty none)
        (has-intersection (mask_of start u) (mask_of start t) p ∙ and_from _ _ in_u inside))
  ]

  held_off : (is_ready now t && not (is_linked now t)) ≡ true → IsHeldOff start t now
  held_off h = record { held = held; once = like.ok.once }
    where
      waiting : IsWaiting now t
      waiting =
          record { ready = (and_parts (is_ready now t) _ h).0; not_linked = not_true (is_linked now t) (and_parts (is_ready now t) _ h).1 }

      number : t < task_count start
      number = (let lt = ready_number now like.ok t waiting.ready in let count = same_count start now like.tasks in omega arith)

      held : (p : ℕ) → IsTrue (has (mask_of start t) p) → (u : ℕ) × Interferes start t now p u
      held p inside =
          let on_line : has start.online p ≡ true = has-all_below set.processors p
          ∙ lt-ltb _ _ (((IsState-start set valid).masks t number).below p inside) in
          let there : IsTrue (has (effective_mask now t) p)
          = ap (λ (X : ℕ). has X p) (same_mask t) ∙ has-intersection (mask_of start t) start.online p ∙ and_from _ _ inside on_line in
          let u = kept waiting p there in
          let count = same_count start now like.tasks in
          let lt = linked_number now p u.0 like.ok u.1 in
          let urgent = u.2 in
          let a = priority_of-same start now like.tasks u.0 in
          let b = priority_of-same start now like.tasks t in
          let shares = shared p u.0 inside (like.ok.allowed p u.0 u.1) in
          (u.0, record { on = u.1; interferes = and_from _ _ (lt-ltb _ _ (omega arith)) shares; number = omega arith })

-- ---- a legal history
of_first_version : (event : Event) → IsJobEvent event → IsOfVersion 1 event
of_first_version (Arrive t) is = tt
of_first_version (Depart t) is = tt
of_first_version (Tick units) is = tt
of_first_version (Affinity t mask) is = absurd is
of_first_version (Offline p) is = absurd is
of_first_version (Online p) is = absurd is

same_masks : (s : State) (history : List Entry) → All (λ (entry : Entry). IsJobEvent entry.event) history
    → HasSameMasks s (state_after s history)
same_masks s [] events = record { masks = refl; online = refl }
same_masks s (first ∷ rest) events =
    let is_job_event = All-head (λ (entry : Entry). IsJobEvent entry.event) first rest events in
    let here = reply_keeps_masks s first.event first.reply (of_first_version first.event is_job_event) in
    let later = same_masks (effect_of s first) rest (All-tail (λ (entry : Entry). IsJobEvent entry.event) first rest events) in
    record { masks = later.masks ∙ here.masks; online = later.online ∙ here.online }

module _ (set : SetData) (history : List Entry) (valid : IsTaskSet set) (legal : IsLegal set history)
    (events : All (λ (entry : Entry). IsJobEvent entry.event) history) where
  abbrev pub at : ℕ → State
  at x = state_of_moment (start_of set) history x

  pub certified_at : (x : ℕ) → IsState (at x) × HasCertificates (at x)
  certified_at x =
      let prefix = state_by_entries (start_of set) history x 0 in
      subst (λ (now : State). IsState now × HasCertificates now) (sym prefix.2)
      (legal_is_certified set valid history legal prefix.0 prefix.1)

  pub like_at : (x : ℕ) → IsLike (start_of set) (at x)
  like_at x =
      let prefix = state_by_entries (start_of set) history x 0 in
      let front = All-take (λ (entry : Entry). IsJobEvent entry.event) prefix.0 history events in
      record {
        ok = (certified_at x).0;
        tasks = same_tasks-history (start_of set) (changes_by x 0 history);
        masks = subst (HasSameMasks (start_of set)) (sym prefix.2) (same_masks (start_of set) (take prefix.0 history) front);
      }

  pub kept_out_at : (t x : ℕ) → IsKeptOutIn (at x) t
  kept_out_at t x waiting p there =
      let certificate = (certified_at x).1 t waiting in
      let u = certificate.1.occupied p (certificate.1.within p there) in
      (u.0, u.1, u.2)

pub waiting_is_interference : WaitingIsInterference
waiting_is_interference set history t from span valid legal events =
    is_paid (start_of set) (state_of_moment (start_of set) history) t from (from + span)
    (λ y below. held_off set valid t (state_of_moment (start_of set) history y) (like_at set history valid legal events y)
    (kept_out_at set history valid legal events t y))
    span (omega arith)

-- ---- a run of the weak scheduler
weak_step_like : (s : State) (event : Event) (new : State) → IsState s → IsJobEvent event → WeakStep s event new → IsLike s new
weak_step_like s event new ok is step = like event is (weak_step_follows s event new ok step)
  where
    of_links : (ready : List Bool) → without_links new ≡ without_links (record s { ready = ready }) → IsLike s new
    of_links ready same = record {
      ok = weak_step_keeps_state s event new ok step;
      tasks = record { processors = ap (λ (x : State). x.processors) same; priorities = ap (λ (x : State). x.priorities) same };
      masks = record { masks = ap (λ (x : State). x.masks) same; online = ap (λ (x : State). x.online) same };
    }

    like : (event : Event) → IsJobEvent event → Follows s event new → IsLike s new
    like (Arrive t) is follows = of_links (set s.ready t true) follows
    like (Depart t) is follows = of_links (set s.ready t false) follows
    like (Tick units) is follows = of_links s.ready follows
    like (Affinity t mask) is follows = absurd is
    like (Offline p) is follows = absurd is
    like (Online p) is follows = absurd is

pub like_then : (s : State) (events : List Event) (states : List State) (x : ℕ) → IsState s → All IsJobEvent events
    → IsWeakRun s events states
    → IsLike s (state_then s events states x)
like_then s [] states x ok each run =
    record { ok = ok; tasks = record { processors = refl; priorities = refl }; masks = record { masks = refl; online = refl } }
like_then s (event ∷ events) [] x ok each run = absurd run
like_then s (event ∷ events) (after ∷ states) x ok each run = elim (cases_Bool (nat_lt x (units_of event))) [
  | inl here ↦ rw here record {
    ok = ok;
    tasks = record { processors = refl; priorities = refl };
    masks = record { masks = refl; online = refl };
  }
  | inr later ↦ (
      let one = weak_step_like s event after ok (All-head IsJobEvent event events each) run.0 in
      let rest = like_then after events states (x - units_of event) one.ok (All-tail IsJobEvent event events each) run.1 in
      rw later record {
        ok = rest.ok;
        tasks = record {
          processors = rest.tasks.processors ∙ one.tasks.processors;
          priorities = rest.tasks.priorities
              ∙ one.tasks.priorities;
        };
        masks = record { masks = rest.masks.masks ∙ one.masks.masks; online = rest.masks.online ∙ one.masks.online };
      })
]

pub weak_waiting_is_interference : WeakWaitingIsInterference
weak_waiting_is_interference input events states valid serves t from span within =
    is_paid (start_of input.set) (weak_timeline input events states) t from input.horizon
    (λ y below. held_off input.set valid.valid t (weak_timeline input events states y)
    (like_then (start_of input.set) events states y (IsState-start input.set valid.valid) serves.each_event serves.run)
    (λ waiting. serves.stable y below t waiting))
    span within

-- ---- jobs
too_many : (i a b : ℕ) → i < a → a ≤ b → b ≤ i → ⊥
too_many i a b x y z = omega arith

so_less : (i j a b : ℕ) → i ≤ j → j < a → a ≤ b → i < b
so_less i j a b x y z = omega arith

-- whatever scheduler serves them, if a task waits for interference alone
module _ (input : JobInputData) (valid : IsJobInput input) (states : Timeline) (served : ServesJobs input states)
    (paid : (t from span : ℕ) → from + span ≤ input.horizon → WaitsForInterference (start_of input.set) states t from (from + span)) where
  abbrev jobs : ℕ → List Job
  jobs t = jobs_at input.jobs t

  abbrev width : ℕ → ℕ
  width t = width_of (start_of input.set) t

  -- from its release on a job is asked for, and those before it
  released_asks : (t k y : ℕ) → t < length input.jobs → k < length (jobs t) → (job_at (jobs t) k).release ≤ y
      → goal_of (jobs t) k ≤ demand (jobs t) y
  released_asks t k y number inside released =
      let found = released_among input.horizon (jobs t) (valid.each_jobs t [] number) y (length (jobs t)) (omega arith)
      (λ k from below. absurd (omega arith)) in
      let are = found.1 in
      let e = demand_is (jobs t) found.0 y are.few are.before are.after in
      elim (cases_lt k found.0) [
        | inl lt ↦ (let upto = asked_upto (jobs t) (k + 1) found.0 (omega arith) in omega arith)
        | inr ge ↦ absurd (let late = are.after k ge inside in omega arith)
      ]

  -- as long as a released job is not finished, each moment is one of service or of waiting
  each_moment : (t k from d : ℕ) → t < length input.jobs → k < length (jobs t) → (job_at (jobs t) k).release ≤ from
      → from + d ≤ input.horizon → service_of states t (from + d) < goal_of (jobs t) k
      → service_of states t (from + d) + waiting_of states t (from + d) ≡ service_of states t from + waiting_of states t from + d
  each_moment t k from zero number inside released within left =
      let none : from + 0 ≡ from = omega arith in
      let a = ap (service_of states t) none in
      let b = ap (waiting_of states t) none in
      omega arith
  each_moment t k from (suc d) number inside released within left =
      let next : from + suc d ≡ suc (from + d) = omega arith in
      let a = ap (service_of states t) next in
      let b = ap (waiting_of states t) next in
      elim (cases_Bool (is_linked (states (from + d)) t)) [
        | inl linked ↦ (
            let more = service_more states t (from + d) linked in
            let same = count_below-same (waits states t) (from + d) (and_right (is_ready (states (from + d)) t) _ (ap not linked)) in
            let before = each_moment t k from d number inside released (omega arith) (omega arith) in
            omega arith)
        | inr not_linked ↦ (
            let same = service_same states t (from + d) not_linked in
            let asks = released_asks t k (from + d) number inside (omega arith) in
            let ready = (served.ready t (from + d) number (omega arith)).1 (omega arith) in
            let more = count_below-more (waits states t) (from + d) (and_from _ _ ready (ap not not_linked)) in
            let before = each_moment t k from d number inside released (omega arith) (omega arith) in
            omega arith)
      ]

  little_suffices : LittleInterferenceSuffices input states
  little_suffices t k from span window little = elim (cases_lt (service_of states t (from + span)) (goal_of (jobs t) k)) [
    | inr done ↦ done
    | inl left ↦ absurd (
        let within = window.within in
        let each = each_moment t k from span window.task window.job window.released within left in
        let grows = count_grows (λ y. is_linked (states y) t) from span in
        let most : span + 1 - (goal_of (jobs t) k - service_of states t from) ≤ waiting_of states t (from + span) - waiting_of states t from
        = omega arith in
        too_many _ _ _ little (mul-le-mul_left (width t) most) (paid t from span within))
  ]

  -- before the next moment a task got no more than what its jobs ask for by this one
  asked_for : (u y : ℕ) → u < length input.jobs → y < input.horizon → service_of states u (suc y) ≤ demand (jobs u) y
  asked_for u y number below = elim (cases_Bool (is_linked (states y) u)) [
    | inl linked ↦ (
        let wanted = (served.ready u y number below).0 (served.only_ready u y number below linked) in
        let one = service_more states u y linked in
        omega arith)
    | inr not_linked ↦ (
        let most = served.no_more u y number below in
        let none = service_same states u y not_linked in
        omega arith)
  ]

  small_demand : (t from y : ℕ) → y < input.horizon
      → interference_of (start_of input.set) states t from (suc y) ≤ interfering_demand input t y
  small_demand t from y below =
      sum_no_more (can_interfere (start_of input.set) t) (λ u. service_of states u (suc y) - service_of states u from)
      (λ u. demand (jobs u) y) (task_count (start_of input.set))
      (λ u lt.
      let all : task_count (start_of input.set) ≡ length input.set.tasks = length-map input.set.tasks
      (λ (task : TaskData). task.priority) in
      let each = valid.one_each in
      let most = asked_for u y (omega arith) below in
      omega arith)

  small_suffices : SmallDemandSuffices input states
  small_suffices t k from zero window alone small = absurd (
      let some = (job_valid input.horizon (jobs t) (valid.each_jobs t [] window.task) k window.job).cost.0 in
      let none : 0 + 1 - (job_at (jobs t) k).cost ≡ 0 = omega arith in
      let times = ap (λ (n : ℕ). width t * n) none in
      let zero_times = mul-zero (width t) in
      omega arith)
  small_suffices t k from (suc d) window alone small =
      let last : suc (from + suc d - 1) ≡ from + suc d = omega arith in
      let within = window.within in
      let most = subst (λ (x : ℕ). interference_of (start_of input.set) states t from x ≤ interfering_demand input t (from + suc d - 1))
      last
      (small_demand t from (from + suc d - 1) (omega arith)) in
      let fewer : suc d + 1 - (job_at (jobs t) k).cost ≤ suc d + 1 - (goal_of (jobs t) k - service_of states t from) = omega arith in
      little_suffices t k from (suc d) window (so_less _ _ _ _ most small (mul-le-mul_left (width t) fewer))

-- ---- the laws
strong_paid : (input : JobInputData) (history : List Entry) → IsJobInput input → RunsJobs input history
    → (t from span : ℕ) → from + span ≤ input.horizon
    → WaitsForInterference (start_of input.set) (state_of_moment (start_of input.set) history) t from (from + span)
strong_paid input history valid runs t from span within =
    waiting_is_interference input.set history t from span valid.valid runs.legal runs.events

pub little_interference_is_in_time : LittleInterferenceIsInTime
little_interference_is_in_time input history valid runs =
    little_suffices input valid (state_of_moment (start_of input.set) history) runs.served (strong_paid input history valid runs)

pub small_demand_is_in_time : SmallDemandIsInTime
small_demand_is_in_time input history valid runs =
    small_suffices input valid (state_of_moment (start_of input.set) history) runs.served (strong_paid input history valid runs)

pub weak_little_interference_is_in_time : WeakLittleInterferenceIsInTime
weak_little_interference_is_in_time input events states valid serves =
    little_suffices input valid (weak_timeline input events states) serves.served
    (weak_waiting_is_interference input events states valid serves)

pub weak_small_demand_is_in_time : WeakSmallDemandIsInTime
weak_small_demand_is_in_time input events states valid serves =
    small_suffices input valid (weak_timeline input events states) serves.served
    (weak_waiting_is_interference input events states valid serves)
