use Rattle.std.proofs.Common.{length, sym, ap, ◌∙◌, arith}
use Rattle.std.proofs.lemmas.Bool.{true≢false}
use Rattle.path_search.specs.Paths.{Steps}
use Rattle.path_search.proofs.Distances.{IsAway-below}
use Rattle.path_search.proofs.LeastPaths.{length-behind}
use Rattle.path_search.proofs.LevelSearch.{IsLevelSearch-start, IsLevelSearch-met, IsLevelSearch-more, IsLevelSearch-end, IsLevel-room}
use Rattle.path_search.proofs.level_search.levels_to.Goals as goal

pub loop-direction-init : goal.loop-direction-init
loop-direction-init c = IsLevelSearch-start (Steps c.args.links.now c.args.direction) c.args.start c.args.target.now c.args.levels.now
    c.empty-done.result c.requires.empty c.empty-done.ensures

pub push-requires : goal.push-requires
push-requires c =
    IsLevel-room c.args.links.now c.processors-valid.ensures.valid c.args.direction c.args.start c.requires.start
    (length c.loop-direction.levels) c.loop-direction.level c.loop-direction.invariant.next
    (λ none. true≢false (sym (c.is_empty.ensures.1 none) ∙ c.loop-direction-test.true))

pub returns-then-meets-clause-met : goal.returns-then-meets-clause-met
returns-then-meets-clause-met c = λ _.
    IsLevelSearch-met (Steps c.args.links.now c.args.direction) c.args.start c.args.target.now c.loop-direction.levels
    c.loop-direction.level c.loop-direction.done c.loop-direction.invariant c.push.new.self c.push.ensures
    (c.meets.ensures.0 c.if-meets.true)

pub after_all-requires : goal.after_all-requires
after_all-requires c = λ p h. IsAway-below c.args.links.now c.processors-valid.ensures.valid c.args.direction c.args.start c.requires.start
    _ p ((c.loop-direction.invariant.next p).0 h)

pub loop-direction-smaller : goal.loop-direction-smaller
loop-direction-smaller c =
    let room =
    IsLevel-room c.args.links.now c.processors-valid.ensures.valid c.args.direction c.args.start c.requires.start
    (length c.loop-direction.levels) c.loop-direction.level c.loop-direction.invariant.next
    (λ none. true≢false (sym (c.is_empty.ensures.1 none) ∙ c.loop-direction-test.true)) in
    let n = ap length c.push.ensures ∙ length-behind c.loop-direction.levels c.loop-direction.level in omega arith

pub loop-direction-preserved : goal.loop-direction-preserved
loop-direction-preserved c =
    IsLevelSearch-more (Steps c.args.links.now c.args.direction) c.args.start c.args.target.now c.loop-direction.levels
    c.loop-direction.level c.loop-direction.done c.loop-direction.invariant
    c.push.new.self c.either_of-done.result c.after_all.result c.minus-level.result c.push.ensures c.either_of-done.ensures
    c.after_all.ensures c.minus-level.ensures
    (λ common. true≢false (sym (c.meets.ensures.1 common) ∙ c.if-meets.false))

pub returns-clause-out : goal.returns-clause-out
returns-clause-out c = λ _.
    IsLevelSearch-end (Steps c.args.links.now c.args.direction) c.args.start c.args.target.now c.loop-direction.levels
    c.loop-direction.level c.loop-direction.done c.loop-direction.invariant
    (c.is_empty.ensures.0 c.loop-direction-test.false)
