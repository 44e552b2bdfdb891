use Rattle.std.proofs.Common.{◌≡◌, ◌++◌, ℕ, refl, subst, arith}
use Rattle.std.specs.List.{flat_map, range_with_len}
use Rattle.schedule_picture.specs.Chrome.{thread_text}
use Rattle.schedule_picture.proofs.Pieces.{pieces_none, pieces_more}
use Rattle.schedule_picture.proofs.chrome.write_threads.Goals as goal

pub loop-p-init : goal.loop-p-init
loop-p-init c = pieces_none thread_text c.args.text.now.items

pub loop-p-preserved : goal.loop-p-preserved
loop-p-preserved c = pieces_more thread_text c.loop-p.p _ _ _ _ c.loop-p.invariant c.in_ok-write_thread.ensures refl

pub returns : goal.returns
returns c =
    let all : c.loop-p.p ≡ c.args.count = omega arith in
    let P : ℕ → Type 0 =
    λ n. c.loop-p.text.items ≡ c.args.text.now.items ++ flat_map thread_text (range_with_len 0 n) in
    subst P all c.loop-p.invariant
