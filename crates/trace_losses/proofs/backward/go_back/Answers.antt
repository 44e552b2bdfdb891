use Rattle.std.proofs.Common.{◌≡◌, ℕ, ◌+◌, ◌-◌, ◌<◌, ◌∷◌, ◌++◌, List, [], length, drop, get_or, vec_len, sym, ap, subst, arith}
use Rattle.std.specs.Option.{ForSome}
use Rattle.std.proofs.lemmas.List.{drop_all}
use Rattle.std.proofs.lemmas.Option.{slice_get-get_or, slice_get_within}
use Rattle.trace_passages.specs.Turns.{AreThreads}
use Rattle.trace_passages.specs.declared.passage.Passage.{Passage}
use Rattle.trace_losses.specs.Passages.{turns_of}
use Rattle.trace_losses.specs.Runs.{IsArmed}
use Rattle.trace_losses.specs.Walk.{AreFormers, held_at_end}
use Rattle.trace_losses.proofs.BackOne.{back_one}
use Rattle.trace_losses.proofs.Passed.{no_passage}
use Rattle.trace_losses.proofs.Trails.{formers_more}
use Rattle.trace_losses.proofs.backward.go_back.Goals as goal

pub trace_back-requires-clause-threads : goal.trace_back-requires-clause-threads
trace_back-requires-clause-threads c =
    let passages = c.args.passages.now in
    let k : ℕ = length passages - 1 - c.loop-i.i in
    let there = slice_get-get_or passages k no_passage (omega arith) in
    subst (λ (n : ℕ). ForSome (get_or passages k no_passage).turn (AreThreads n)) (sym c.loop-i.invariant.threads)
    (c.requires.passages k (get_or passages k no_passage) there)

pub loop-i-preserved : goal.loop-i-preserved
loop-i-preserved c =
    let passages = c.args.passages.now in
    let i = c.loop-i.i in
    let base = held_at_end passages in
    let threads = vec_len c.args.runners.now.processors in
    let old = c.loop-i.runners.processors.items in
    let new = c.trace_back.new.self.processors.items in
    let former = c.trace_back.result in
    let armed =
    back_one base passages i no_passage new c.loop-i-test.true
    (c.trace_back.ensures.armed base (drop (length passages - i) passages) c.loop-i.invariant.armed) in
    let moved = c.trace_back.ensures.threads in
    let stays = c.loop-i.invariant.threads in
    let pushed = c.in_ok-push.ensures.items in
    let each = c.loop-i.invariant.each in
    record {
      armed = armed;
      apart = c.trace_back.ensures.apart c.loop-i.invariant.apart;
      threads = omega (arith, moved, stays);
      each = omega (arith, c.in_ok-push.ensures.len, each);
      formers =
          subst (AreFormers passages threads) (sym pushed)
          (formers_more passages threads i old new former c.loop-i-test.true (omega (arith, moved, stays)) c.loop-i.invariant.armed armed
          (subst (λ (n : ℕ). ForSome former.stopped (λ t. t < n)) stays c.trace_back.ensures.within)
          (c.trace_back.ensures.restored c.loop-i.invariant.apart) c.loop-i.formers.items (omega (arith, each)) c.loop-i.invariant.formers);
    }
