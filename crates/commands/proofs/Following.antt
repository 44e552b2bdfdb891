-- A checker follows the entries of a schedule, one after the other.
use Rattle.std.proofs.Common.{◌≡◌, ℕ, ◌+◌, ◌<◌, List, [], ◌∷◌, ◌++◌, length, map, take, get_or, Some, refl, sym, ap, ◌∙◌, subst}
use Rattle.std.specs.Prelude.{slice_get}
use Rattle.std.specs.List.{range_with_len}
use Rattle.std.proofs.lemmas.List.{take_more, length-map}
use Rattle.std.proofs.lemmas.Option.{slice_get_within, slice_get_read, get_or_from_slice_get}
use Rattle.task_set.specs.TaskSet.{TaskData}
use Rattle.task_set.specs.Context.{fresh_context}
use Rattle.strong_apa.specs.declared.reply.Entry.{Entry}
use Rattle.strong_apa.specs.State.{State, IsState, start_of, task_count}
use Rattle.strong_apa.specs.History.{effect_of, state_after}
use Rattle.strong_apa.proofs.Histories.{state_after-push}
use Rattle.reach_certificate.specs.Checker.{CheckerData, IsChecker}
use Rattle.reach_certificate.specs.Contexts.{EachBecomes, context_after_entry}
use Rattle.reach_certificate.specs.Defect.{IsDefect, number_of}
use Rattle.strong_apa.specs.Passing.{Passes, IsPassingFrom}
use Rattle.strong_apa.specs.Step.{IsEventFor}
use Rattle.reach_certificate.specs.declared.defect.Defect.{Defect}
use Rattle.reach_certificate.proofs.ContextsFollow.{contexts-follow}
use Rattle.strong_apa.proofs.SameTasks.{same_tasks-history}
use Rattle.schedule_picture.specs.History.{AreLinksAfter}
use Rattle.schedule_text.specs.Schedule.{ScheduleData, IsSchedule, IsScheduled}
use Rattle.commands.specs.Valid.{HasBadEntry, entry_line_number}
use Rattle.commands.specs.Checking.{HasFollowed}

IsPassingFrom-push : (s : State) (history : List Entry) (entry : Entry) → IsPassingFrom s history
    → Passes (state_after s history) entry.event entry.reply → IsPassingFrom s (history ++ entry ∷ [])
IsPassingFrom-push s [] entry passing passes = (passes, tt)
IsPassingFrom-push s (first ∷ rest) entry passing passes = (passing.0, IsPassingFrom-push (effect_of s first) rest entry passing.1 passes)

-- before any entry
pub followed_start : (schedule : ScheduleData) (checker : CheckerData) → checker.links ≡ start_of schedule.set
    → checker.contexts ≡ map fresh_context (range_with_len 0 (task_count (start_of schedule.set))) → IsChecker checker
    → HasFollowed schedule 0 checker
followed_start schedule checker links contexts valid = record {
  passing = tt;
  links = links;
  contexts = contexts ∙ ap (λ (n : ℕ). map fresh_context (range_with_len 0 n))
      (length-map schedule.set.tasks (λ (task : TaskData). task.priority));
  valid = valid;
}

-- one entry more, which passes
pub followed_more : (schedule : ScheduleData) (n : ℕ) (entry : Entry) (checker new : CheckerData)
    → slice_get schedule.entries n ≡ Some entry → HasFollowed schedule n checker → Passes checker.links entry.event entry.reply
    → new.links ≡ effect_of checker.links entry
    → EachBecomes (context_after_entry checker.links new.links entry.event) checker.contexts new.contexts → IsChecker new
    → HasFollowed schedule (n + 1) new
followed_more schedule n entry checker new there followed passes links contexts valid =
    let start = start_of schedule.set in
    let earlier : List Entry = take n schedule.entries in
    let next : take (n + 1) schedule.entries ≡ earlier ++ entry
    ∷ [] = take_more schedule.entries n entry (slice_get_within schedule.entries n entry there)
    ∙ ap (λ (e : Entry). earlier ++ e ∷ []) (get_or_from_slice_get schedule.entries n entry entry there) in
    let passes_there : Passes (state_after start earlier) entry.event entry.reply = rw followed.links at passes in
    let links_there : new.links ≡ effect_of (state_after start earlier) entry = links
    ∙ ap (λ (s : State). effect_of s entry) followed.links in
    let contexts_there : EachBecomes (context_after_entry (state_after start earlier) (effect_of (state_after start earlier) entry)
    entry.event) checker.contexts new.contexts = rw (followed.links, links_there) at contexts in
    record {
      passing = rw next (IsPassingFrom-push start earlier entry followed.passing passes_there);
      links = rw next (links_there ∙ sym (state_after-push start earlier entry));
      contexts = rw next (contexts-follow start earlier entry (length schedule.set.tasks) checker.contexts new.contexts followed.contexts
          contexts_there);
      valid = valid;
    }

-- the links after it, as a witness sees them
pub links_after : (schedule : ScheduleData) (n : ℕ) (entry : Entry) (checker new : CheckerData) (seen : State) → IsSchedule schedule
    → slice_get schedule.entries n ≡ Some entry → HasFollowed schedule n checker → HasFollowed schedule (n + 1) new → seen ≡ new.links
    → AreLinksAfter schedule.set schedule.entries n entry seen
links_after schedule n entry checker new seen ok there followed more same = record {
  few = ok.few;
  there = there;
  before = subst IsState followed.links followed.valid.state;
  after = same ∙ more.links;
}

-- one entry that does not pass
pub bad_entry : (schedule : ScheduleData) (n number defect : ℕ) (which : Defect) (entry : Entry) (checker : CheckerData)
    → slice_get schedule.entries n ≡ Some entry → HasFollowed schedule n checker → IsDefect checker.links entry which
    → number ≡ entry_line_number schedule n → defect ≡ number_of which → HasBadEntry schedule number defect
bad_entry schedule n number defect which entry checker there followed has place numbered = record {
  n = n;
  which = which;
  first = record { entry = entry; there = there; before = followed.passing; defect = rw followed.links at has };
  place = place;
  numbered = numbered;
}

-- there are as many tasks as in the set
pub followed_count : (schedule : ScheduleData) (n : ℕ) (checker : CheckerData) → HasFollowed schedule n checker
    → task_count checker.links ≡ length schedule.set.tasks
followed_count schedule n checker followed =
    ap task_count followed.links ∙ ap length (same_tasks-history (start_of schedule.set) (take n schedule.entries)).priorities
    ∙ length-map schedule.set.tasks (λ (task : TaskData). task.priority)

-- and as many processors
pub followed_processors : (schedule : ScheduleData) (n : ℕ) (checker : CheckerData) → HasFollowed schedule n checker
    → checker.links.processors ≡ schedule.set.processors
followed_processors schedule n checker followed =
    ap (λ (s : State). s.processors) followed.links ∙ (same_tasks-history (start_of schedule.set) (take n schedule.entries)).processors

-- each entry is of a task and a processor of the set, or of none
pub entry_known : (schedule : ScheduleData) (n : ℕ) (entry : Entry) (checker : CheckerData) → IsSchedule schedule
    → slice_get schedule.entries n ≡ Some entry → HasFollowed schedule n checker → IsEventFor checker.links entry.event
entry_known schedule n entry checker ok there followed =
    let at_n = get_or_from_slice_get schedule.entries n entry entry there in
    let scheduled : IsScheduled schedule.version schedule.set entry = subst (IsScheduled schedule.version schedule.set) at_n
    (ok.each_entry n entry (slice_get_within schedule.entries n entry there)) in
    rw (followed_processors schedule n checker followed, followed_count schedule n checker followed) scheduled.tasks.event

-- an entry as the loop reads it
pub entry_read : (schedule : ScheduleData) (items : List Entry) (n : ℕ) (entry : Entry) → items ≡ schedule.entries → n < length items
    → entry ≡ get_or items n entry → slice_get schedule.entries n ≡ Some entry
entry_read schedule items n entry same fits read = rw (← same) (slice_get_read items (length items) n entry refl fits read)
