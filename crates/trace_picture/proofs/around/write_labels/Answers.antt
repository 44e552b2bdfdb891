use Rattle.std.proofs.Common.{◌≡◌, ◌++◌, ℕ, subst, arith}
use Rattle.trace_picture.specs.Around.{label_text, labels_text}
use Rattle.trace_picture.proofs.Pieces.{pieces_none, pieces_more}
use Rattle.trace_picture.proofs.around.write_labels.Goals as goal

pub loop-p-init : goal.loop-p-init
loop-p-init c = pieces_none (label_text c.args.top) c.args.text.now.items

pub loop-p-preserved : goal.loop-p-preserved
loop-p-preserved c = pieces_more (label_text c.args.top) c.loop-p.p _ _ _ c.loop-p.invariant c.in_ok-write_label.ensures

pub returns : goal.returns
unfolding labels_text
returns c =
    let all : c.loop-p.p ≡ c.args.count = omega arith in
    let P : ℕ → Type 0 = λ n. c.loop-p.text.items ≡ c.args.text.now.items ++ labels_text c.args.top n in
    subst P all c.loop-p.invariant
