use Rattle.std.proofs.Common.{◌≡◌, true, false, Bool, ◌&&◌, List, ℕ, codes, sym, ap, ◌∙◌}
use Rattle.std.specs.Prelude.{if◌then◌else◌}
use Rattle.kernel_trace.specs.Stamp.{is_number}
use Rattle.kernel_trace.specs.TraceLine.{begins, after_key, is_keyed, is_priority}
use Rattle.kernel_trace.proofs.key.is_real_time.Goals as goal

-- a priority without a minus is digits
digits : (key field : List ℕ) → is_priority key field ≡ true → begins (codes "-") (after_key key field) ≡ false → is_keyed key field ≡ true
unfolding is_priority is_keyed
digits key field is plain =
    let rest : List ℕ = after_key key field in
    sym (ap (λ (b : Bool). begins key field && is_number (if b then after_key (codes "-") rest else rest)) plain) ∙ is

pub number_of-requires-clause-keyed : goal.number_of-requires-clause-keyed
number_of-requires-clause-keyed c =
    digits c.args.key.now c.args.field.now c.requires
    (ap (begins (codes "-")) (sym c.behind.ensures) ∙ sym c.begins_with.ensures ∙ c.if-begins_with.false)
