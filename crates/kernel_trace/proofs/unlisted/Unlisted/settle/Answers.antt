use Rattle.std.proofs.Common.{◌≡◌, ◌<◌, List, length, get_or, ap, ◌∙◌, arith, rules}
use Rattle.std.proofs.Common.{length-set}
use Rattle.std.specs.Prelude.{slice_set}
use Rattle.std.proofs.lemmas.List.Edits.{map_over_more}
use Rattle.kernel_trace.specs.Unlisted.{settled_passage}
use Rattle.trace_passages.specs.declared.passage.Passage.{Passage}
use Rattle.kernel_trace.proofs.unlisted.Unlisted.settle.Goals as goal

pub loop-i-preserved : goal.loop-i-preserved
loop-i-preserved c =
    let f : Passage → Passage = settled_passage c.args.tasks c.args.self.now in
    let all : List Passage = c.args.passages.now.items in
    let now : List Passage = c.loop-i.passages.items in
    let one : Passage = c.index.result.now in
    let below : c.loop-i.i < length now = search rules in
    let same : length now ≡ length all = c.loop-i.invariant.1 in
    let there : one ≡ get_or now c.loop-i.i one = search rules in (
      ap (slice_set now c.loop-i.i) c.settled_passage.ensures
          ∙ map_over_more f all now c.loop-i.i one (omega (arith, below, same)) c.loop-i.invariant.0 there,
      length-set now c.loop-i.i c.settled_passage.result ∙ same,
    )
