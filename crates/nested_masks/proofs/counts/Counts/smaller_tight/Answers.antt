use Rattle.std.proofs.Common.{sym, ◌∙◌}
use Rattle.std.proofs.lemmas.Bool.{true≢false}
use Rattle.nested_masks.specs.NestedData.{mask_in}
use Rattle.nested_masks.specs.Scans.{IsTightAround, LiesWithin}
use Rattle.nested_masks.proofs.Withins.{within_same, within_trans}
use Rattle.nested_masks.proofs.Scanned.{scan_passed, node_within}
use Rattle.nested_masks.proofs.counts.Counts.smaller_tight.Goals as goal

pub returns-else-within : goal.returns-else-within
returns-else-within c =
    let n = c.args.self.now in
    let t = c.args.t in
    let u = c.args.u in
    let best = c.in-Some.best in
    let before = rw c.in-Some.is at c.requires.scanned in
    let here : IsTightAround n (mask_in n t) u = (
      c.is_tight.ensures.0 c.if-not-is_tight.false,
      rw (c.mask.ensures.value, c.mask-node.ensures.value) at (c.within.ensures.0 c.if-not-within.false),
    ) in
    let nested = node_within n c.mask.ensures.valid t u best c.requires.number here before.passes
    (λ within.
    let inside = c.within-2.ensures.1 (rw (c.mask-smaller.ensures.value, c.mask-node.ensures.value) within) in
    true≢false (sym inside ∙ c.if-within.false)) in
    scan_passed (IsTightAround n (mask_in n t)) (LiesWithin n) u best (within_same (mask_in n u)) here
    (λ v lies. within_trans (mask_in n u) (mask_in n best) (mask_in n v) nested lies) before
