use Rattle.std.proofs.Common.{Bool, subst}
use Rattle.reach_certificate.specs.Admission.{Admitted}
use Rattle.reach_certificate.proofs.Greedy.{IsGreedy-start, IsGreedy-linked, IsGreedy-left_out, IsBest-greedy, next_number, absent_falls}
use Rattle.reach_certificate.proofs.admission.best_set.Goals as goal

pub loop-t-init : goal.loop-t-init
loop-t-init c = rw (c.in_ok-links.ensures, c.new-best.ensures.items) (IsGreedy-start c.args.set.now c.args.ready.now)

pub admit-requires-clause-number : goal.admit-requires-clause-number
admit-requires-clause-number c = next_number c.args.set.now c.args.ready.now c.loop-t.links (rw c.links.view_is at c.links.invariant.state)
    c.loop-t.best.items c.loop-t.invariant c.requires c.in-Some.t c.in-Some.ensures

pub loop-t-smaller-then-not-admit : goal.loop-t-smaller-then-not-admit
loop-t-smaller-then-not-admit c = absent_falls c.args.set.now c.args.ready.now c.loop-t.links
    (rw c.links.view_is at c.links.invariant.state) c.loop-t.best.items c.loop-t.invariant c.requires c.in-Some.t c.in-Some.ensures
    c.admit.result c.admit.new.links c.admit.ensures.admitted

pub loop-t-preserved-then-not-admit : goal.loop-t-preserved-then-not-admit
loop-t-preserved-then-not-admit c = IsGreedy-left_out c.args.set.now c.args.ready.now c.loop-t.links
    (rw c.links.view_is at c.links.invariant.state) c.loop-t.best.items c.loop-t.invariant c.requires c.in-Some.t c.in-Some.ensures
    c.admit.new.links
    (subst (λ (b : Bool). Admitted c.loop-t.links c.in-Some.t b c.admit.new.links) c.if-not-admit.true c.admit.ensures.admitted)

pub loop-t-smaller : goal.loop-t-smaller
loop-t-smaller c = absent_falls c.args.set.now c.args.ready.now c.loop-t.links (rw c.links.view_is at c.links.invariant.state)
    c.loop-t.best.items c.loop-t.invariant c.requires c.in-Some.t c.in-Some.ensures c.admit.result c.admit.new.links
    c.admit.ensures.admitted

pub loop-t-preserved : goal.loop-t-preserved
loop-t-preserved c =
    rw c.in_ok-push.ensures.items (IsGreedy-linked c.args.set.now c.args.ready.now c.loop-t.links
    (rw c.links.view_is at c.links.invariant.state) c.loop-t.best.items c.loop-t.invariant c.requires c.in-Some.t c.in-Some.ensures
    c.admit.new.links
    (subst (λ (b : Bool). Admitted c.loop-t.links c.in-Some.t b c.admit.new.links) c.if-not-admit.false c.admit.ensures.admitted))

pub returns-clause-best : goal.returns-clause-best
returns-clause-best c = IsBest-greedy c.args.set.now c.args.ready.now c.loop-t.links (rw c.links.view_is at c.links.invariant.state)
    c.loop-t.best.items c.loop-t.invariant c.requires c.in_default.ensures
