use Rattle.std.proofs.Common.{◌∙◌, ℕ, List, sym, ap, subst}
use Rattle.strong_apa.specs.Chain.{IsChainOf, IsSimple, state_after_shift}
use Rattle.reach_certificate.proofs.Entering.{entering_waits, entering_number, entering_chain, entering_simple, entered_state}
use Rattle.reach_certificate.proofs.parts.let_in.Goals as goal

pub shift-requires-clause-number : goal.shift-requires-clause-number
shift-requires-clause-number c =
    entering_number c.args.links.now c.args.p c.args.gone.now c.in-Some.w c.requires.passes c.in-Some.is c.processors.ensures.valid

pub shift-requires-clause-waits : goal.shift-requires-clause-waits
shift-requires-clause-waits c = entering_waits c.args.links.now c.args.p c.args.gone.now c.in-Some.w c.requires.passes c.in-Some.is

pub shift-requires-clause-chain : goal.shift-requires-clause-chain
shift-requires-clause-chain c =
    subst (λ (xs : List ℕ). (q : ℕ) × IsChainOf c.args.links.now c.in-Some.w xs q) (sym c.reversed.ensures)
    (entering_chain c.args.links.now c.args.p c.args.gone.now c.in-Some.w c.requires.passes c.in-Some.is)

pub shift-requires-clause-simple : goal.shift-requires-clause-simple
shift-requires-clause-simple c = subst IsSimple (sym c.reversed.ensures)
    (entering_simple c.args.links.now c.args.p c.args.gone.now c.in-Some.w c.requires.passes c.in-Some.is)

pub returns-in-Some : goal.returns-in-Some
returns-in-Some c =
    c.shift.ensures.links ∙ ap (state_after_shift c.args.links.now c.in-Some.w) c.reversed.ensures
    ∙ entered_state c.args.links.now c.args.p c.args.gone.now c.in-Some.w c.requires.passes c.in-Some.is
