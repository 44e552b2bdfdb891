use Rattle.std.proofs.Common.{◌≡◌, ◌+◌, ◌-◌, ◌≤◌, ◌++◌, length, take, vec_len, vec_capacity}
use Rattle.event_history.proofs.board.history.copy_entries.Given as goal

-- the copies so far, with room for the rest
abbrev pub invariant-loop-entry : goal.invariant-loop-entry
invariant-loop-entry l =
    (l.into.items ≡ l.initial.into.items ++ take l.entry-index l.entries)
    × (vec_len l.into + (length l.entries - l.entry-index) ≤ vec_capacity l.into)
