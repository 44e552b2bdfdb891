-- What is kept by a core, before any entry and one entry later.
use Rattle.std.proofs.Common.{◌≡◌, ℕ, ◌+◌, ◌*◌, ◌<◌, ◌≤◌, false, not, ◌&&◌, List, [], ◌∷◌, ◌++◌, length, get_or, filter, Option, Some, None}
use Rattle.std.proofs.Common.{replicate, refl, sym, ap, ap₂, ◌∙◌, arith, append_assoc}
use Rattle.std.specs.List.{range_with_len}
use Rattle.std.proofs.lemmas.List.{length-append, get_or_push}
use Rattle.affinity_mask.specs.ProcSet.{all_below}
use Rattle.task_set.specs.declared.event.Event.{Event}
use Rattle.strong_apa.specs.declared.reply.Reply.{Reply}
use Rattle.strong_apa.specs.declared.reply.Entry.{Entry}
use Rattle.strong_apa.specs.State.{State, IsState, task_on, is_task}
use Rattle.strong_apa.specs.Step.{SchedulerStep}
use Rattle.strong_apa.specs.History.{state_after, effect_of}
use Rattle.strong_apa.specs.Dispatch.{processors_of, taken_between, orders_of}
use Rattle.strong_apa.proofs.Histories.{state_after-push, IsLegalFrom-push, processors_of-push, orders_of-push}
use Rattle.strong_apa.proofs.Steps.{reply_gives_new_state, step_keeps_state}
use Rattle.strong_apa.specs.Certified.{HasCertificates}
use Rattle.strong_apa.proofs.Kept.{step_keeps_certificates}
use Rattle.history_laws.specs.Start.{NobodyIsReady}
use Rattle.sched_core.specs.CoreData.{CoreData, IsCore, core_orders, max_entries}
use Rattle.sched_core.specs.CoreView.{state_before}
use Rattle.sched_core.specs.CoreRows.{RowData, row_at, RowFollows, NumbersBecome, came, came_below}
use Rattle.sched_core.proofs.RowLoops.{filtered_count-bound, filtered_count-same, change_orders-same_number}
use Rattle.strong_apa.proofs.SameTasks.{same_tasks-effect, same_tasks-step}

-- while a core is open its orders are those of the history
pub core_orders-open : (core : CoreData) (p : ℕ) → core.closed ≡ false → core_orders core p ≡ orders_of core.start core.history p
core_orders-open core p still = rw still refl

-- a step leaves the state before any event
pub before_step : (links : State) (event : Event) (reply : Reply) (new : State) (masks : List ℕ) → SchedulerStep links event reply new
    → state_before new masks ≡ state_before links masks
before_step links event reply new masks step =
    let same = same_tasks-step links event reply new step in
    ap₂ (λ (m : ℕ) (priorities : List ℕ). record {
      processors = m;
      priorities = priorities;
      masks = masks;
      online = all_below m;
      ready = replicate (length priorities) false;
      on = replicate m None;
    }) same.processors same.priorities

-- a task is taken at most as often as there are processors at an entry
pub takes_bound : (s : State) (history : List Entry) (t : ℕ) → s.processors ≤ 64 → length (processors_of s history t) ≤ 64 * length history
takes_bound s [] t few = omega arith
takes_bound s (entry ∷ rest) t few =
    let next = effect_of s entry in
    let same = (same_tasks-effect s entry).processors in
    let later = takes_bound next rest t (rw same few) in
    let here = filtered_count-bound (λ p. is_task t (task_on next p) && not (is_task t (task_on s p))) s.processors in
    let both = length-append (taken_between s next t) (processors_of next rest t) in
    omega (arith, later, here, both, few)

-- what is read at the place of the last entry is that entry
pub read_last : (before now : List Entry) (entry read : Entry) (place : ℕ) → now ≡ before ++ entry ∷ [] → length before ≡ place
    → read ≡ get_or now place read → read ≡ entry
read_last before now entry read place pushed at is =
    is ∙ ap (λ (h : List Entry). get_or h place read) pushed ∙ get_or_push before entry read place at

-- what holds of every core holds before any entry
pub core_started : (s : State) (history : List Entry) → IsState s → NobodyIsReady s → HasCertificates s → history ≡ []
    → IsCore (record { start = s; history = history; links = s; closed = false; spare = 0 })
core_started s history ok nobody certificates none =
    rw none record {
      start = ok;
      nobody = nobody;
      state = ok;
      legal = tt;
      links = refl;
      certificates = certificates;
      processors = refl;
      tasks = refl;
      fits = omega arith;
    }

-- what holds of every core holds after one more entry
pub core_entered : (old : CoreData) (entry : Entry) (new : State) (spare : ℕ) → IsCore old
    → SchedulerStep old.links entry.event entry.reply new → length old.history < max_entries
    → IsCore (record { start = old.start; history = old.history ++ entry ∷ []; links = new; closed = old.closed; spare = spare })
core_entered old entry new spare kept step room =
    let now : new ≡ effect_of old.links entry = reply_gives_new_state old.links entry.event entry.reply new step in
    let next : new ≡ effect_of (state_after old.start old.history) entry = now ∙ ap (λ (s : State). effect_of s entry) kept.links in
    let same = same_tasks-step old.links entry.event entry.reply new step in
    record {
      start = kept.start;
      nobody = kept.nobody;
      state = step_keeps_state old.links entry.event entry.reply new kept.state step;
      legal = IsLegalFrom-push old.start old.history entry kept.legal (rw (← kept.links, ← now) step);
      links = next ∙ sym (state_after-push old.start old.history entry);
      certificates = step_keeps_certificates old.links entry.event entry.reply new kept.state kept.certificates step;
      processors = same.processors ∙ kept.processors;
      tasks = ap length same.priorities ∙ kept.tasks;
      fits = let more = length-append old.history (entry ∷ []) in omega (arith, more, room);
    }

-- the orders of p, one entry later
pub orders_entered : (start : State) (history : List Entry) (entry : Entry) (links new : State) (p : ℕ) (takes : ℕ → ℕ)
    (row after : RowData) → links ≡ state_after start history → new ≡ effect_of links entry
    → ((t : ℕ) → task_on new p ≡ Some t → takes t ≡ length (processors_of start history t))
    → row.orders ≡ orders_of start history p → row.held ≡ task_on links p → RowFollows row takes (task_on new p) entry.event after
    → after.orders ≡ orders_of start (history ++ entry ∷ []) p
orders_entered start history entry links new p takes row after at_links at_new counted orders held follows =
    let counts : ℕ → ℕ = λ t. length (processors_of start history t) in
    let same = change_orders-same_number takes counts row.held (task_on new p) counted in
    let next : new ≡ effect_of (state_after start history) entry = at_new ∙ ap (λ (s : State). effect_of s entry) at_links in
    follows.orders ∙ rw (same, orders, held, at_links, next)
    (append_assoc (orders_of start history p) _ _ ∙ sym (orders_of-push start history entry p))

-- how often t was taken, one entry later
pub takes_entered : (start : State) (history : List Entry) (entry : Entry) (links new : State) (t : ℕ) (rows : List RowData)
    (takes after : List ℕ) → links ≡ state_after start history → new ≡ effect_of links entry → t < length takes
    → get_or takes t 0 ≡ length (processors_of start history t)
    → ((p : ℕ) → p < new.processors → (row_at rows p).held ≡ task_on links p) → new.processors ≡ links.processors
    → NumbersBecome (λ t n. n + length (came_below rows new new.processors t)) takes after
    → get_or after t 0 ≡ length (processors_of start (history ++ entry ∷ []) t)
takes_entered start history entry links new t rows takes after at_links at_new fits counted held processors becomes =
    let next : new ≡ effect_of (state_after start history) entry = at_new ∙ ap (λ (s : State). effect_of s entry) at_links in
    let came_here : length (came_below rows new new.processors t) ≡ length (taken_between links new t) =
    filtered_count-same (λ p. came t (row_at rows p).held (task_on new p)) (λ p. came t (task_on links p) (task_on new p)) new.processors
    (λ p below. ap (λ (held : Option ℕ). came t held (task_on new p)) (held p below))
    ∙ ap (λ (n : ℕ). length (filter (λ p. came t (task_on links p) (task_on new p)) (range_with_len 0 n))) processors in
    let pushed = ap length (processors_of-push start history entry t) ∙ length-append (processors_of start history t) _ in
    becomes.each t 0 fits ∙ rw (counted, came_here, pushed, ← next, ← at_links) refl
