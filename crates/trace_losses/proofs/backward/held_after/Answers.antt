use Rattle.std.proofs.Common.{List, take, sym, subst, arith}
use Rattle.std.specs.Prelude.{reverse}
use Rattle.trace_passages.specs.declared.passage.Passage.{Passage}
use Rattle.trace_losses.specs.Passages.{turns_of}
use Rattle.trace_losses.specs.Runs.{IsWhereabouts}
use Rattle.trace_losses.proofs.Passed.{no_passage, earlier_more}
use Rattle.trace_losses.proofs.backward.held_after.Goals as goal

pub loop-i-preserved : goal.loop-i-preserved
loop-i-preserved c =
    let passages = c.args.passages.now in
    let earlier : List Passage = reverse (take c.loop-i.i passages) in
    let threads = c.pass.ensures.threads in
    let stays = c.loop-i.invariant.threads in
    record {
      held =
          subst (λ (list : List Passage). IsWhereabouts (turns_of list) c.pass.new.self.processors.items)
          (sym (earlier_more passages c.loop-i.i no_passage c.loop-i-test.true)) (c.pass.ensures.held earlier c.loop-i.invariant.held);
      apart = c.pass.ensures.apart c.loop-i.invariant.apart;
      threads = omega (arith, threads, stays);
    }
