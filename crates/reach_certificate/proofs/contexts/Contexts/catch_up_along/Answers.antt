use Rattle.std.proofs.Common.{List, ℕ, [], ◌∷◌, get_or, take, sym, subst, ◌∙◌}
use Rattle.std.proofs.lemmas.List.{take_all, take_more}
use Rattle.reach_certificate.specs.CaughtUp.{HaveCaughtUp}
use Rattle.reach_certificate.proofs.CatchingUp.{caught_up-none, caught_up-then}
use Rattle.reach_certificate.proofs.contexts.Contexts.catch_up_along.Goals as goal

pub loop-p-init : goal.loop-p-init
loop-p-init c = caught_up-none c.args.links.now c.args.self.now

pub catch_up_at-requires-clause-count : goal.catch_up_at-requires-clause-count
catch_up_at-requires-clause-count c = c.loop-p.invariant.each.count ∙ c.requires.count

pub catch_up_at-requires-clause-processors : goal.catch_up_at-requires-clause-processors
catch_up_at-requires-clause-processors c = c.loop-p.invariant.count ∙ c.requires.processors

pub loop-p-preserved : goal.loop-p-preserved
loop-p-preserved c =
    subst (λ (places : List ℕ). HaveCaughtUp c.args.links.now places c.args.self.now c.catch_up_at.new.self)
    (sym (take_more c.args.chain.now c.loop-p.p-index 0 c.loop-p-test.true))
    (caught_up-then c.args.links.now c.processors.ensures.valid (take c.loop-p.p-index c.args.chain.now)
    (get_or c.args.chain.now c.loop-p.p-index 0 ∷ []) c.args.self.now c.loop-p.self c.catch_up_at.new.self c.requires.processors
    c.loop-p.invariant c.catch_up_at.ensures)

pub returns : goal.returns
returns c =
    subst (λ (places : List ℕ). HaveCaughtUp c.args.links.now places c.args.self.now c.loop-p.self)
    (take_all c.loop-p.p-index c.args.chain.now c.loop-p-test.false) c.loop-p.invariant
