use Rattle.std.proofs.Common.{Err, length, sym, ap, ◌∙◌, subst, arith}
use Rattle.strong_apa.specs.CertificateLaws.{LinkedIsBest}
use Rattle.strong_apa.specs.Passing.{Passes}
use Rattle.strong_apa.proofs.Best.{linked_is_best}
use Rattle.strong_apa.proofs.StepsPass.{step_passes}
use Rattle.reach_certificate.specs.Checker.{CheckerData, IsChecker}
use Rattle.reach_certificate.specs.CheckerView.{checker_view}
use Rattle.reach_certificate.specs.Contexts.{EachBecomes, HaveFollowed, context_after_entry}
use Rattle.reach_certificate.specs.Defect.{IsDefect}
use Rattle.reach_certificate.specs.declared.defect.Defect.{Defect}
use Rattle.reach_certificate.proofs.Accepted.{tasks_same, same_as_before, saved_same, best_kept, checker_kept}
use Rattle.reach_certificate.proofs.Defects.{passing_has_no_defect, defect_is_unique}
use Rattle.reach_certificate.proofs.checker.Checker.accept.Goals as goal
use Rattle.reach_certificate.proofs.checker.Checker.accept.Goals.{In-Some, After-follow}

-- ---- an entry with a defect
not_passing : (c : In-Some) → Passes c.args.self.now.links c.args.entry.now.event c.args.entry.now.reply → ⊥
not_passing c passes =
    passing_has_no_defect c.self.inside.links c.args.entry.now.event c.args.entry.now.reply c.in-Some.defect c.self.invariant.checker.state
    (subst (λ (checker : CheckerData). Passes checker.links c.args.entry.now.event c.args.entry.now.reply) (sym c.self.view_is) passes)
    c.in-Some.ensures.judged

pub returns-in-Some-clause-passing : goal.returns-in-Some-clause-passing
returns-in-Some-clause-passing c = λ passes. absurd (not_passing c passes)

pub returns-in-Some-clause-defects : goal.returns-in-Some-clause-defects
returns-in-Some-clause-defects c = λ d defect.
    ap (λ (e : Defect). Err e)
    (defect_is_unique c.self.inside.links c.args.entry.now.event c.args.entry.now.reply c.in-Some.defect d c.self.invariant.checker.state
    c.in-Some.ensures.judged
    (subst (λ (checker : CheckerData). IsDefect checker.links c.args.entry.now d) (sym c.self.view_is) defect))

pub returns-in-Some-clause-steps : goal.returns-in-Some-clause-steps
returns-in-Some-clause-steps c = λ new step.
    let state = subst IsChecker c.self.view_is c.self.invariant.checker in
    absurd (not_passing c (step_passes c.args.self.now.links c.args.entry.now.event c.args.entry.now.reply new state.state step))

pub returns-in-Some-clause-best : goal.returns-in-Some-clause-best
returns-in-Some-clause-best c = subst LinkedIsBest (sym c.in-Some.ensures.refused)
    (linked_is_best c.self.inside.links c.self.invariant.checker.state c.self.invariant.checker.certificates)

-- ---- an entry that passes
pub follow-requires-clause-count : goal.follow-requires-clause-count
follow-requires-clause-count c =
    let same = tasks_same (checker_view c.self.inside) c.self.invariant.checker c.args.entry.now c.in_default.ensures.judged
    c.follow_entry.new.links c.in_default.ensures.followed in
    let count = c.self.invariant.checker.count in
    omega arith

pub follow-requires-clause-processors : goal.follow-requires-clause-processors
follow-requires-clause-processors c =
    let same = same_as_before (checker_view c.self.inside) c.self.invariant.checker c.args.entry.now c.in_default.ensures.judged
    c.follow_entry.new.links c.in_default.ensures.followed in
    ap length c.self.invariant.held ∙ c.self.invariant.checker.state.on_count ∙ sym same.processors

followed : (c : After-follow) → HaveFollowed c.self.inside.links c.follow_entry.new.links c.args.entry.now.event c.self.inside.contexts
    c.follow.new.self
followed c = c.follow.ensures c.self.inside.links c.self.invariant.checker.state c.in_default.ensures.judged c.in_default.ensures.followed
    c.self.invariant.held

kept : (c : After-follow) → IsChecker (record { links = c.follow_entry.new.links; contexts = c.follow.new.self.each })
kept c = checker_kept (checker_view c.self.inside) c.self.invariant.checker c.args.entry.now c.in_default.ensures.judged
    c.follow_entry.new.links c.in_default.ensures.followed c.follow.new.self.each (followed c).each

pub invariant_of-self-2 : goal.invariant_of-self-2
invariant_of-self-2 c = record {
  checker = kept c;
  held = (followed c).held;
  saved = saved_same (checker_view c.self.inside) c.self.invariant.checker c.args.entry.now c.in_default.ensures.judged
      c.follow_entry.new.links c.in_default.ensures.followed c.follow_entry.new.saved c.in_default.ensures.saved;
}

pub returns-clause-contexts : goal.returns-clause-contexts
returns-clause-contexts c =
    subst (λ (checker : CheckerData). EachBecomes (context_after_entry checker.links c.follow_entry.new.links c.args.entry.now.event)
    checker.contexts c.follow.new.self.each) c.self.view_is (followed c).each

pub returns-clause-defects : goal.returns-clause-defects
returns-clause-defects c = λ d defect.
    absurd (passing_has_no_defect c.self.inside.links c.args.entry.now.event c.args.entry.now.reply d c.self.invariant.checker.state
    c.in_default.ensures.judged
    (subst (λ (checker : CheckerData). IsDefect checker.links c.args.entry.now d) (sym c.self.view_is) defect))

pub returns-clause-best : goal.returns-clause-best
returns-clause-best c = best_kept (checker_view c.self.inside) c.self.invariant.checker c.args.entry.now c.in_default.ensures.judged
    c.follow_entry.new.links c.in_default.ensures.followed

pub returns-clause-valid : goal.returns-clause-valid
returns-clause-valid c = kept c
