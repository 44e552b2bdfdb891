use Rattle.std.proofs.Common.{◌≡◌, vec_len}
use Rattle.trace_losses.specs.Walk.{IsSeenBy}
use Rattle.trace_losses.proofs.walk.look.Given as goal

abbrev pub invariant-loop-t : goal.invariant-loop-t
invariant-loop-t l = record {
  seen : IsSeenBy l.links l.processors l.t l.seen.items;
  all : vec_len l.seen ≡ vec_len l.fn.seen;
}
