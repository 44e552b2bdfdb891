use Rattle.std.proofs.Common.{ℕ, sym, subst, arith, ◌+◌, w8}
use Rattle.std.specs.Prelude.{◌==◌}
use Rattle.std.specs.Simd.Lanes.{chunk}
use Rattle.std.proofs.lemmas.Simd.{bitmask_splat, length-chunk}
use Rattle.schedule_text.specs.Spacing.{AreSpaces}
use Rattle.schedule_text.proofs.FieldCuts.{block_spaces}
use Rattle.schedule_text.proofs.spacing.spaces_from.Goals as goal

pub returns : goal.returns
returns c =
    let text = c.args.text.now in
    let start = c.args.start in
    subst (AreSpaces text start (start + 16))
    (sym (bitmask_splat w8 (λ (x y : ℕ). x == y) (chunk start 16 text) 16 32 (length-chunk start 16 text c.requires) (omega arith)))
    (block_spaces text start c.requires)
