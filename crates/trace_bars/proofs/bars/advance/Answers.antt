use Rattle.std.proofs.Common.{ℕ, List, vec_len, ◌∙◌, sym, subst}
use Rattle.trace_bars.specs.Sights.{AreSightsBy}
use Rattle.trace_bars.specs.declared.sight.Sight.{Sight}
use Rattle.trace_bars.proofs.bars.advance.Goals as goal

pub returns-in_ok-see-clause-on : goal.returns-in_ok-see-clause-on
returns-in_ok-see-clause-on c = λ trace part within seen at.
    c.in_ok-see.ensures.on trace part c.args.next c.if-now-next.true within
    (seen c.deref.result.now (c.deref.ensures.len ∙ c.look.ensures.all)
    (subst (λ (n : ℕ). AreSightsBy c.args.walk.now.core.links c.args.walk.now.runners.processors.items n c.deref.result.now)
    c.look.ensures.all
    (subst (λ (list : List Sight). AreSightsBy c.args.walk.now.core.links c.args.walk.now.runners.processors.items
    (vec_len c.look.new.self.sights) list)
    (sym c.deref.ensures.value) c.look.ensures.seen)))
    at
