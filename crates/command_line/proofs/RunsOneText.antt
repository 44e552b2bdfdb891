-- Where the events of an input are of one stream, the headline allows one text: a merge of them has just one order, and so
-- there is one legal history, with one context for each task.
use Rattle.strong_apa.specs.Dispatch.{contexts_of}
use Rattle.std.proofs.Common.{◌≡◌, List, ℕ, sym, ap, ◌∙◌, subst}
use Rattle.task_set.specs.TaskSet.{SetData}
use Rattle.strong_apa.specs.declared.reply.Entry.{Entry}
use Rattle.history_laws.proofs.StepHistories.{legal_history_is_unique}
use Rattle.schedule_text.specs.ScheduleText.{schedule_text}
use Rattle.trace_reader.specs.declared.posted.Posted.{Posted}
use Rattle.trace_reader.proofs.Texts.{text_has_one_input}
use Rattle.replay.specs.Merge.{IsMerge, IsOnOneStream}
use Rattle.replay.proofs.OneStream.{callers_same, events_same, pairs_same}
use Rattle.command_line.specs.Run.{Replays}

-- the text of a version, a task set and a history, with the contexts that it gives
abbrev text_of : ℕ → SetData → List Entry → List ℕ
text_of version set history = schedule_text version set history (contexts_of set history)

pub one_text : (read put other : List ℕ) (first : Replays read put) → IsOnOneStream first.events → Replays read other → other ≡ put
one_text read put other first one second =
    let stream = one.0 in
    let same = text_has_one_input read second.version first.version second.set first.set second.events first.events second.input
    first.input in
    let merge : IsMerge first.events second.history = subst (λ (events : List Posted). IsMerge events second.history) same.2 second.merge in
    let histories : second.history ≡ first.history = legal_history_is_unique first.set second.history first.history first.input.says.valid
    (rw same.1 at second.legal) first.legal
    (pairs_same stream second.history first.history (callers_same stream first.events second.history one.1 merge)
    (callers_same stream first.events first.history one.1 first.merge)
    (events_same stream first.events second.history one.1 merge ∙ sym (events_same stream first.events first.history one.1 first.merge))) in
    second.text ∙ ap (schedule_text second.version second.set second.history) second.contexts
    ∙ ap (λ (version : ℕ). text_of version second.set second.history) same.0
    ∙ ap (λ (set : SetData). text_of first.version set second.history) same.1 ∙ ap (text_of first.version first.set) histories
    ∙ sym (first.text ∙ ap (schedule_text first.version first.set first.history) first.contexts)
