use Rattle.std.proofs.Common.{ℕ, ◌+◌, take, drop, length, ap, sym, ◌∙◌, arith}
use Rattle.std.proofs.lemmas.List.{take_all}
use Rattle.std.proofs.Math.ListN.{drop_of_length-le}
use Rattle.std.proofs.lemmas.Slice.{between_to_end}
use Rattle.kernel_trace.specs.Stamp.{is_point}
use Rattle.kernel_trace.proofs.Positions.{position_some, position_none}
use Rattle.kernel_trace.proofs.digits.cut_at_point.Goals as goal

pub returns-in-Some-clause-seconds : goal.returns-in-Some-clause-seconds
returns-in-Some-clause-seconds c =
    ap (λ (n : ℕ). take n c.args.text.now) (position_some is_point c.args.text.now c.in-Some.point c.in-Some.ensures).0

pub returns-in-Some-clause-fraction : goal.returns-in-Some-clause-fraction
returns-in-Some-clause-fraction c =
    between_to_end c.args.text.now (c.in-Some.point + 1) (length c.args.text.now) (omega arith)
    ∙ ap (λ (n : ℕ). drop (n + 1) c.args.text.now) (position_some is_point c.args.text.now c.in-Some.point c.in-Some.ensures).0

pub returns-in-None-clause-seconds : goal.returns-in-None-clause-seconds
returns-in-None-clause-seconds c =
    let none = position_none is_point c.args.text.now c.in-None.ensures in
    sym (take_all _ c.args.text.now (omega (arith, none)))

pub returns-in-None-clause-fraction : goal.returns-in-None-clause-fraction
returns-in-None-clause-fraction c =
    let none = position_none is_point c.args.text.now c.in-None.ensures in
    sym (drop_of_length-le c.args.text.now (omega (arith, none)))
