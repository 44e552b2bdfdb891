use Rattle.std.proofs.Common.{◌-◌, ℕ, length, sym, subst, refl, arith}
use Rattle.path_search.specs.Paths.{Steps, opposite_of}
use Rattle.path_search.specs.Levels.{IsLevel}
use Rattle.path_search.proofs.Distances.{IsAway-some, IsAway-below}
use Rattle.path_search.proofs.Remaining.{IsRead, IsRead-start, IsRead-more, IsRead-end, level_left, some_common, away, turn, turn_back}
use Rattle.path_search.proofs.least_path.path_by.Goals as goal
use Rattle.path_search.proofs.least_path.path_by.Goals.{After-least}

pub loop-left-init : goal.loop-left-init
loop-left-init c =
    let met = c.requires.levels.met in
    let some = IsAway-some (Steps c.args.links.now (opposite_of c.args.direction)) c.args.target (length c.args.levels.now)
    met.meets.0 met.meets.2 in
    subst (λ (n : ℕ). IsRead (Steps c.args.links.now c.args.direction) (Steps c.args.links.now (opposite_of c.args.direction))
    (turn c.args.links.now c.args.direction) (turn_back c.args.links.now c.args.direction) c.args.target c.args.start
    (length c.args.levels.now) n c.args.start c.new-chain.result)
    (sym c.len-left.ensures.value)
    (IsRead-start (Steps c.args.links.now c.args.direction) (Steps c.args.links.now (opposite_of c.args.direction))
    (turn c.args.links.now c.args.direction) (turn_back c.args.links.now c.args.direction) c.args.target c.args.start
    (length c.args.levels.now) c.new-chain.result c.new-chain.ensures met some)

-- the level of the processors that are left
level : (c : After-least) → IsLevel (Steps c.args.links.now (opposite_of c.args.direction)) c.args.target c.loop-left.left c.at.result
level c =
    level_left (Steps c.args.links.now (opposite_of c.args.direction)) c.args.target c.args.levels.now c.loop-left.left c.at.result
    c.requires.levels.in_order c.loop-left-test.true
    (let l = c.loop-left.invariant.as_long in omega arith) c.at.ensures

pub unreachable-requires : goal.unreachable-requires
unreachable-requires c =
    some_common (Steps c.args.links.now c.args.direction) (Steps c.args.links.now (opposite_of c.args.direction))
    (turn c.args.links.now c.args.direction) (turn_back c.args.links.now c.args.direction) c.args.target
    c.loop-left.left c.loop-left.next c.at.result c.both.result 0 (c.loop-left.invariant.next c.loop-left-test.true)
    (level (goal.at.unreachable-requires c).After-least) c.both.ensures.contents (c.in_default.ensures.none.0 refl)

pub after-next-requires : goal.after-next-requires
after-next-requires c =
    IsAway-below c.args.links.now c.processors-valid.ensures.valid (opposite_of c.args.direction)
    c.args.target c.requires.target c.loop-left.left c.in-Some.p
    (away (Steps c.args.links.now c.args.direction) (Steps c.args.links.now (opposite_of c.args.direction))
    (turn c.args.links.now c.args.direction) (turn_back c.args.links.now c.args.direction) c.args.target
    c.loop-left.left c.loop-left.next c.at.result c.both.result c.in-Some.p (c.loop-left.invariant.next c.loop-left-test.true)
    (level (goal.at.after-next-requires c).After-least) c.both.ensures.contents c.in-Some.ensures.least)

pub loop-left-preserved : goal.loop-left-preserved
loop-left-preserved c =
    IsRead-more (Steps c.args.links.now c.args.direction) (Steps c.args.links.now (opposite_of c.args.direction))
    (turn c.args.links.now c.args.direction) (turn_back c.args.links.now c.args.direction) c.args.target
    c.args.start (length c.args.levels.now) c.loop-left.left (c.loop-left.left - 1) c.loop-left.next c.at.result c.both.result c.in-Some.p
    c.after-next.result c.loop-left.chain
    (let some = c.loop-left-test.true in omega arith) c.loop-left.invariant (level (goal.at.loop-left-preserved c).After-least)
    c.both.ensures.contents c.in-Some.ensures.least c.after-next.ensures.contents
    c.push.new.self c.push.ensures

pub returns : goal.returns
returns c =
    IsRead-end (Steps c.args.links.now c.args.direction) (Steps c.args.links.now (opposite_of c.args.direction))
    (turn c.args.links.now c.args.direction) (turn_back c.args.links.now c.args.direction) c.args.target
    c.args.start (length c.args.levels.now) c.loop-left.left c.loop-left.next c.loop-left.chain c.loop-left.invariant
    (let over = c.loop-left-test.false in omega arith)
