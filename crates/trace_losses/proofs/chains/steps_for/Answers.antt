use Rattle.std.proofs.Common.{Vec, Global, ◌≡◌, ℕ, List, Option, Some, ap, ◌∙◌, subst}
use Rattle.std.proofs.lemmas.Result.{IfOk-weaker}
use Rattle.live_core.specs.Live.{LiveData}
use Rattle.live_core.specs.Lost.{FindsChain, state_held}
use Rattle.trace_losses.specs.ChainAt.{AreStepsFor, SeesAll, steps_of}
use Rattle.trace_losses.specs.declared.chains.ChainStep.{ChainStep}
use Rattle.trace_losses.proofs.chains.steps_for.Goals as goal

pub returns-in-Some : goal.returns-in-Some
returns-in-Some c =
    let sight = c.see_all.new.core in
    let after = c.chain_for.new.self in
    let t = c.args.task in
    let chain = c.in-Some.chain in
    let sees =
    subst (λ (on : List (Option ℕ)). SeesAll c.args.walk.now.core on sight) c.deref.ensures.value c.see_all.ensures in
    let finds : FindsChain sight t (Some chain) after =
    subst (λ (found : Option (List ℕ)). FindsChain sight t found after) c.in-Some.is c.chain_for.ensures in
    IfOk-weaker c.steps_along.result (λ steps. steps.items ≡ steps_of (state_held after.links finds.on) (Some t) chain)
    (λ steps. (seen : LiveData) × SeesAll c.args.walk.now.core c.args.walk.now.runners.processors.items seen
    × AreStepsFor seen t steps.items)
    (λ steps along. (
      sight,
      sees,
      record {
        found = Some chain;
        new = after;
        finds = finds;
        along = along ∙ ap (λ (d : LiveData). steps_of (state_held d.links finds.on) (Some t) chain) finds.rest;
      },
    ))
    (c.steps_along.ensures finds.on (ap (λ (d : LiveData). d.holders) finds.rest))
