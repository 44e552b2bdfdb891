use Rattle.std.proofs.Common.{◌≡◌, ◌∙◌, sym, true}
use Rattle.std.proofs.lemmas.Bool.{true≢false}
use Rattle.affinity_mask.specs.Number.{IsNumber}
use Rattle.affinity_mask.proofs.Items.{ends_from_cut, none_from_ends}
use Rattle.affinity_mask.proofs.list_reader.ends_of.Goals as goal
use Rattle.affinity_mask.proofs.list_reader.ends_of.Goals.{then-is_number, else-is_number}

pub returns-clause-none : goal.returns-clause-none
returns-clause-none c =
    let ends = ends_from_cut c.args.piece c.cut_at.result c.unwrap_or.result c.cut_at.ensures c.unwrap_or.ensures in
    let both : (IsNumber c.unwrap_or.result.0.now × IsNumber c.unwrap_or.result.1.now) → c.if-is_number.then_some ≡ true =
    elim c.if-is_number.branch [
      | then-is_number w ↦ λ numbers. w.then_some-is ∙ w.is_number-then-is_number.ensures.1 numbers.1
      | else-is_number w ↦ λ numbers. absurd (true≢false (sym (c.is_number.ensures.1 numbers.0) ∙ w.if-is_number.false))
    ] in
    rw c.then_some.ensures (none_from_ends _ c.if-is_number.then_some c.args.piece.now _ _ ends both)
