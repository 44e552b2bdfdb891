-- The laws about merges.
use Rattle.std.specs.Prelude.{◌≡◌, ℕ, ◌<◌, List, length, map, All}
use Rattle.strong_apa.specs.declared.reply.Entry.{Entry}
use Rattle.trace_reader.specs.declared.posted.Posted.{Posted}
use Rattle.replay.specs.Merge.{posted_of, IsMerge}

-- a merge of events on the 16 streams has an entry for each event, and no other
abbrev pub MergeHasEachEvent : Type 0
MergeHasEachEvent = (events : List Posted) (history : List Entry)
    → All (λ (posted : Posted). posted.stream < 16) events → IsMerge events history
    → length history ≡ length events

-- where the events are of one stream, a merge of them has them in their order
abbrev pub MergeOfOneStreamIsInOrder : Type 0
MergeOfOneStreamIsInOrder = (stream : ℕ) (events : List Posted) (history : List Entry)
    → All (λ (posted : Posted). posted.stream ≡ stream) events → IsMerge events history
    → map posted_of history ≡ events
