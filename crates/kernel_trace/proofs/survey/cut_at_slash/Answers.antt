use Rattle.std.proofs.Common.{ℕ, ◌+◌, take, drop, length, ap, sym, ◌∙◌, arith}
use Rattle.std.proofs.lemmas.List.{take_all}
use Rattle.std.proofs.Math.ListN.{drop_of_length-le}
use Rattle.std.proofs.lemmas.Slice.{between_to_end}
use Rattle.kernel_trace.specs.Survey.{is_slash}
use Rattle.kernel_trace.proofs.Positions.{position_some, position_none}
use Rattle.kernel_trace.proofs.survey.cut_at_slash.Goals as goal

pub returns-in-Some-clause-before : goal.returns-in-Some-clause-before
returns-in-Some-clause-before c =
    ap (λ (n : ℕ). take n c.args.text.now) (position_some is_slash c.args.text.now c.in-Some.slash c.in-Some.ensures).0

pub returns-in-Some-clause-behind : goal.returns-in-Some-clause-behind
returns-in-Some-clause-behind c =
    between_to_end c.args.text.now (c.in-Some.slash + 1) (length c.args.text.now) (omega arith)
    ∙ ap (λ (n : ℕ). drop (n + 1) c.args.text.now) (position_some is_slash c.args.text.now c.in-Some.slash c.in-Some.ensures).0

pub returns-in-None-clause-before : goal.returns-in-None-clause-before
returns-in-None-clause-before c =
    let none = position_none is_slash c.args.text.now c.in-None.ensures in
    sym (take_all _ c.args.text.now (omega (arith, none)))

pub returns-in-None-clause-behind : goal.returns-in-None-clause-behind
returns-in-None-clause-behind c =
    let none = position_none is_slash c.args.text.now c.in-None.ensures in
    sym (drop_of_length-le c.args.text.now (omega (arith, none)))
