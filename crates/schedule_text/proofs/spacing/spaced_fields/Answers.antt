use Rattle.std.proofs.Common.{◌≡◌, ◌⊎◌, ℕ, ◌+◌, ◌/◌, ◌^◌, length, min, inl, inr, refl, subst, ap, ◌∙◌, arith, w64}
use Rattle.std.specs.Int.{trailing_zeros}
use Rattle.std.proofs.lemmas.Bool.{cases_lt}
use Rattle.text_fields.specs.Fields.{texts}
use Rattle.schedule_text.specs.Spacing.{AreSpaces}
use Rattle.schedule_text.proofs.FieldCuts.{next_space, no_more_spaces, later_spaces, cut_at_space, cut_past, cut_whole}
use Rattle.schedule_text.proofs.spacing.spaced_fields.Goals as goal

pub slice_bounds-push-end : goal.slice_bounds-push-end
slice_bounds-push-end c =
    let l = c.loop-spaces in
    let next = next_space c.args.text.now l.at (min (c.loop-block.block + 16) (length c.args.text.now)) l.spaces l.invariant.spaces
    (omega (arith, c.loop-spaces-test.true)) (omega arith) (trailing_zeros w64 l.spaces) refl in
    omega (arith, next.1, l.invariant.begun)

pub overflow_shr-spaces : goal.overflow_shr-spaces
overflow_shr-spaces c =
    let l = c.loop-spaces in
    let next = next_space c.args.text.now l.at (min (c.loop-block.block + 16) (length c.args.text.now)) l.spaces l.invariant.spaces
    (omega (arith, c.loop-spaces-test.true)) (omega arith) (trailing_zeros w64 l.spaces) refl in
    omega (arith, next.1, l.invariant.low)

pub loop-spaces-smaller : goal.loop-spaces-smaller
loop-spaces-smaller c =
    let l = c.loop-spaces in
    let next = next_space c.args.text.now l.at (min (c.loop-block.block + 16) (length c.args.text.now)) l.spaces l.invariant.spaces
    (omega (arith, c.loop-spaces-test.true)) (omega arith) (trailing_zeros w64 l.spaces) refl in
    omega (arith, next.1)

pub loop-spaces-preserved : goal.loop-spaces-preserved
loop-spaces-preserved c =
    let l = c.loop-spaces in
    let text = c.args.text.now in
    let end = min (c.loop-block.block + 16) (length text) in
    let k = trailing_zeros w64 l.spaces in
    let next = next_space text l.at end l.spaces l.invariant.spaces
    (omega (arith, c.loop-spaces-test.true)) (omega arith) k refl in
    let after : l.at + (k + 1) ≡ l.at + k + 1 = omega arith in
    record {
      cut = cut_at_space text l.room.items c.push.new.self.items _ l.from l.at (l.at + k) l.invariant.cut l.invariant.begun
          (omega arith) (omega (arith, next.1)) next.2 next.3 refl c.in_ok-push.ensures.items;
      begun = omega arith;
      low = let low = l.invariant.low in omega arith;
      within = omega (arith, next.1);
      spaces = subst (λ (at : ℕ). AreSpaces text at end (l.spaces / 2 ^ (k + 1))) after
          (later_spaces text l.at end l.spaces (k + 1) l.invariant.spaces);
    }

pub loop-block-preserved : goal.loop-block-preserved
loop-block-preserved c =
    let l = c.loop-spaces in
    let text = c.args.text.now in
    let end = min (c.loop-block.block + 16) (length text) in
    let within = l.invariant.within in
    let begun = l.invariant.begun in
    let is : (end ≡ c.loop-block.block + 16) ⊎ (end ≡ length text) = elim (cases_lt (c.loop-block.block + 16) (length text)) [
      | inl short ↦ inl (omega arith)
      | inr long ↦ inr (omega arith)
    ] in
    record {
      cut = cut_past text l.room.items l.from l.at end (c.loop-block.block + 16) l.invariant.cut
          (no_more_spaces text l.at end l.spaces l.invariant.spaces (omega (arith, c.loop-spaces-test.false))) is;
      begun = omega arith;
    }

pub returns : goal.returns
returns c =
    ap texts (c.as_slice.ensures.value ∙ c.in_ok-push-2.ensures.items)
    ∙ cut_whole c.args.text.now c.loop-block.room.items _ c.loop-block.from c.loop-block.block c.loop-block.invariant.cut
    (omega (arith, c.loop-block-test.false)) refl
