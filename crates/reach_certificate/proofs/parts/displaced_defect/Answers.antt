use Rattle.std.proofs.Common.{Some, ap, ◌∙◌, sym, subst, ℕ}
use Rattle.strong_apa.specs.State.{IsMoreUrgent}
use Rattle.reach_certificate.proofs.Fitting.{displaced_passes}
use Rattle.reach_certificate.proofs.ChainEnds.{displaced_not_empty, displaced_end}
use Rattle.reach_certificate.proofs.parts.displaced_defect.Goals as goal

pub last_occupant-last-requires-clause-some : goal.last_occupant-last-requires-clause-some
last_occupant-last-requires-clause-some c = displaced_not_empty c.args.links.now c.args.t c.args.chain.now c.in_default.ensures

pub last_occupant-last-requires-clause-occupied : goal.last_occupant-last-requires-clause-occupied
last_occupant-last-requires-clause-occupied c = displaced_end c.args.links.now c.args.t c.args.chain.now c.in_default.ensures

pub returns-then-displaces_rightly : goal.returns-then-displaces_rightly
returns-then-displaces_rightly c =
    let there = c.last_occupant-last.ensures.there in
    let right = c.displaces_rightly.ensures.0 c.if-displaces_rightly.true in
    displaced_passes c.args.links.now c.len.ensures.valid c.args.t c.args.chain.now c.args.out c.args.reach record {
      places = c.in_default.ensures;
      set = (c.last_occupant-last.result, there, c.in_default-first_misfit.ensures.test);
      tasks = (there ∙ ap (λ (n : ℕ). Some n) (sym right.0), subst (IsMoreUrgent c.args.links.now c.args.t) (sym right.0) right.1);
    } c.in_default-first_misfit.ensures.processors
