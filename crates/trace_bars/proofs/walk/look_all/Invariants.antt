use Rattle.std.proofs.Common.{◌≡◌, ℕ, ◌<◌, get_or, None, vec_len}
use Rattle.trace_bars.specs.Sights.{IsSightBy, sight_of}
use Rattle.trace_bars.proofs.walk.look_all.Given as goal

abbrev pub invariant-loop-t : goal.invariant-loop-t
invariant-loop-t l = record {
  seen : (t : ℕ) → t < l.t → IsSightBy l.links (get_or l.processors t None) t (sight_of l.sights.items t);
  all : vec_len l.sights ≡ vec_len l.fn.sights;
}
