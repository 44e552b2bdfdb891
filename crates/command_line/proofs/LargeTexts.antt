-- What `large` writes is one text for each four numbers.
use Rattle.std.proofs.Common.{◌≡◌, ℕ, List, [], ◌∷◌, map, All, refl, sym, ap, ◌∙◌}
use Rattle.task_set.specs.TaskSet.{SetData, IsTaskSet}
use Rattle.task_set.specs.declared.context.Context.{Context}
use Rattle.task_set.specs.declared.event.Event.{Event}
use Rattle.strong_apa.specs.declared.reply.Entry.{Entry}
use Rattle.strong_apa.specs.Dispatch.{contexts_of}
use Rattle.strong_apa.specs.History.{IsLegal}
use Rattle.strong_apa.proofs.Kept.{legal_is_best}
use Rattle.history_laws.specs.StepLaws.{caller_and_event}
use Rattle.history_laws.proofs.StepHistories.{legal_history_is_unique}
use Rattle.trace_reader.specs.declared.posted.Posted.{Posted}
use Rattle.trace_reader.proofs.OneInput.{one_input}
use Rattle.replay.specs.Merge.{posted_of, IsMerge}
use Rattle.replay.proofs.OneStream.{merge_in_order}
use Rattle.commands.specs.Generating.{IsInputOf}
use Rattle.commands.specs.Summary.{summary_text}
use Rattle.commands.specs.declared.sizes.Sizes.{Sizes}
use Rattle.command_line.specs.Large.{Summarizes, IsLargeOf, Schedules}

-- the stream and the event that was posted
pair_of : Posted → ℕ × Event
pair_of posted = (posted.stream, posted.event)

pairs_of_posted : (history : List Entry) → map pair_of (map posted_of history) ≡ map caller_and_event history
unfolding pair_of
pairs_of_posted [] = refl
pairs_of_posted (entry ∷ history) = ap (λ rest. caller_and_event entry ∷ rest) (pairs_of_posted history)

-- two legal histories of these events, in their order, are one
one_history : (set : SetData) (events : List Posted) (history other : List Entry) (contexts others : List Context) → IsTaskSet set
    → Schedules set events history contexts → Schedules set events other others → other ≡ history
one_history set events history other contexts others valid one two = legal_history_is_unique set other history valid two.legal one.legal
    (sym (pairs_of_posted other) ∙ ap (map pair_of) (two.each_event ∙ sym one.each_event) ∙ pairs_of_posted history)

-- the summary of a history, with the contexts that it gives
abbrev summary_of_history : Sizes → SetData → List Entry → List ℕ
summary_of_history sizes set history = summary_text sizes history (contexts_of set history)

one_summary : (sizes : Sizes) (put other : List ℕ) (one : Summarizes sizes put) → IsTaskSet one.set → Summarizes sizes other → other ≡ put
one_summary sizes put other one valid two =
    let same = one_input sizes.number sizes.processors sizes.tasks sizes.events two.set one.set two.events one.events two.generated
    one.generated in
    let schedules : Schedules one.set one.events two.history two.contexts = rw (same.0, same.1) at two.schedules in
    let histories = one_history one.set one.events one.history two.history one.contexts two.contexts valid one.schedules schedules in
    two.text ∙ ap (summary_text sizes two.history) schedules.each_context ∙ ap (summary_of_history sizes one.set) histories
    ∙ sym (one.text ∙ ap (summary_text sizes one.history) one.schedules.each_context)

-- a legal merge of events on stream 0 is their schedule
merge_schedules : (set : SetData) (events : List Posted) (history : List Entry) (contexts : List Context)
    → All (λ (p : Posted). p.stream ≡ 0) events → IsMerge events history → IsLegal set history → contexts ≡ contexts_of set history
    → Schedules set events history contexts
merge_schedules set events history contexts one merge legal given = record {
  each_event = merge_in_order 0 events history one merge;
  legal = legal;
  each_context = given;
}

pub is_large_of : (sizes : Sizes) (set : SetData) (events : List Posted) (history : List Entry) (contexts : List Context) (put : List ℕ)
    → IsTaskSet set → IsInputOf sizes set events → IsMerge events history → IsLegal set history → contexts ≡ contexts_of set history
    → put ≡ summary_text sizes history contexts → IsLargeOf sizes put
is_large_of sizes set events history contexts put valid generated merge legal given text =
    let summarizes : Summarizes sizes put = record {
      set = set;
      events = events;
      history = history;
      contexts = contexts;
      generated = generated;
      schedules = merge_schedules set events history contexts generated.one_stream merge legal given;
      best = legal_is_best set valid history legal;
      text = text;
    } in
    record { summarizes = summarizes; only = λ other two. one_summary sizes put other summarizes valid two }
