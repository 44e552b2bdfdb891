use Rattle.std.proofs.Common.{◌≡◌, ℕ, ◌<◌, ◌≤◌, vec_len, slice_index_or, true, false}
use Rattle.std.specs.Vec.{vec_capacity}
use Rattle.std.specs.Mem.Slots.{slots_items, slots_filled, slots_len}
use Rattle.context_slots.specs.Homes.{AllCame}
use Rattle.context_slots.proofs.making.into_contexts.Given as goal

abbrev pub invariant-loop-t : goal.invariant-loop-t
invariant-loop-t l = record {
  items : slots_items l.closed.slots ≡ slots_items l.initial.closed.slots;
  len : slots_len l.closed.slots ≡ slots_len l.initial.closed.slots;
  gone : (k : ℕ) → k < l.t → slice_index_or (slots_filled l.closed.slots) k false ≡ false;
  left : (k : ℕ) → l.t ≤ k → k < slots_len l.initial.closed.slots → slice_index_or (slots_filled l.closed.slots) k false ≡ true;
  many : vec_len l.contexts ≡ l.t;
  room : vec_capacity l.contexts ≡ vec_capacity l.initial.contexts;
  came : AllCame l.fn.all.seat.me.0.ended 0 l.contexts.items;
}
