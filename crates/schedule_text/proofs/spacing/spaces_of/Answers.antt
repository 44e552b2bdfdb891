use Rattle.std.proofs.Common.{◌≡◌, ℕ, ◌+◌, ◌-◌, ◌/◌, ◌^◌, length, min, subst, arith}
use Rattle.schedule_text.specs.Spacing.{AreSpaces}
use Rattle.schedule_text.proofs.FieldCuts.{later_spaces}
use Rattle.schedule_text.proofs.spacing.spaces_of.Goals as goal

pub returns : goal.returns
returns c =
    let text = c.args.text.now in
    let i = c.args.i in
    let start = c.min-start.result in
    let least = c.min-start.ensures in
    let bits = c.spaces_from.result / 2 ^ (i - start) in
    let at : start + (i - start) ≡ i = omega arith in
    let end : start + 16 ≡ min (i + 16) (length text) = omega arith in
    subst (λ (j : ℕ). AreSpaces text i j bits) end
    (subst (λ (j : ℕ). AreSpaces text j (start + 16) bits) at
    (later_spaces text start (start + 16) c.spaces_from.result (i - start) c.spaces_from.ensures))
