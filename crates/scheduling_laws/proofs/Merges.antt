-- A merge has the events of each stream in their order, so all merges have the same events of each task and of each processor.
use Rattle.std.proofs.Common.{◌≡◌, ℕ, true, List, sym, ◌∙◌}
use Rattle.strong_apa.specs.declared.reply.Entry.{Entry}
use Rattle.trace_reader.specs.declared.posted.Posted.{Posted}
use Rattle.replay.specs.Merge.{IsMerge}
use Rattle.replay.proofs.MergedCounts.{merge_posted}
use Rattle.scheduling_laws.specs.Merges.{HaveStreams, MergesHaveOneEnd}
use Rattle.scheduling_laws.specs.OneEnd.{is_of_task, is_of_processor, HaveCallers}
use Rattle.scheduling_laws.proofs.OneEnd.{same_events_have_one_end, callers_give_same_events}

callers : (events : List Posted) (history : List Entry) (of_task of_processor : ℕ → ℕ) → HaveStreams of_task of_processor events
    → IsMerge events history → HaveCallers of_task of_processor history
callers events history of_task of_processor streams merge = record {
  tasks = λ t. merge_posted (λ (posted : Posted). is_of_task t posted.event ≡ true → posted.stream ≡ of_task t) events history
      (streams.tasks t) merge;
  processors = λ p. merge_posted (λ (posted : Posted). is_of_processor p posted.event ≡ true → posted.stream ≡ of_processor p)
      events history (streams.processors p) merge;
}

pub merges_have_one_end : MergesHaveOneEnd
merges_have_one_end set events one other of_task of_processor valid streams merge merge' legal legal' =
    let same = callers_give_same_events of_task of_processor one other (callers events one of_task of_processor streams merge)
    (callers events other of_task of_processor streams merge')
    (λ caller. merge.each_stream caller ∙ sym (merge'.each_stream caller)) in
    record {
      ready = λ t. (same_events_have_one_end set one other valid legal legal' same t).0;
      linked = λ t. (same_events_have_one_end set one other valid legal legal' same t).1;
    }
