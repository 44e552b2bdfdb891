use Rattle.std.proofs.Common.{arith, ◌≡◌, ◌+◌, ◌<◌, ◌∷◌, [], ℕ, List, length, is_some}
use Rattle.event_history.specs.Boards.{PassData}
use Rattle.replay.specs.Streams.{Adds, IsPassAt}
use Rattle.replay.proofs.Places.{AllFrom-read, AllFrom-set}
use Rattle.replay.proofs.Posts.{pass_stays}
use Rattle.replay.proofs.Passing.{if_made, posted_under}
use Rattle.replay.proofs.posting.post_event.Goals as goal

pub post_next-requires-clause-board : goal.post_next-requires-clause-board
post_next-requires-clause-board g c =
    let low : c.args.posted.stream < length c.args.passes.now.items = omega (arith, c.requires.known.stream, c.requires.callers) in
    (AllFrom-read (IsPassAt c.args.shared.now.board.now) 0 c.args.passes.now.items c.args.posted.stream c.index_mut-pass.result.now low
    c.index_mut-pass.ensures.value c.requires.passes).of_board

pub post_next-requires-clause-eyes : goal.post_next-requires-clause-eyes
post_next-requires-clause-eyes g c =
    let low : c.args.posted.stream < length c.args.passes.now.items = omega (arith, c.requires.known.stream, c.requires.callers) in
    (AllFrom-read (IsPassAt c.args.shared.now.board.now) 0 c.args.passes.now.items c.args.posted.stream c.index_mut-pass.result.now low
    c.index_mut-pass.ensures.value c.requires.passes).eyes

pub returns-clause-passes : goal.returns-clause-passes
returns-clause-passes g c =
    let board = c.args.shared.now.board.now in
    let stream : ℕ = c.args.posted.stream in
    let passes : List PassData = c.args.passes.now.items in
    let old : PassData = c.index_mut-pass.result.now in
    let new : PassData = c.post_next.new.pass in
    let low : stream < length passes = omega (arith, c.requires.known.stream, c.requires.callers) in
    let at = AllFrom-read (IsPassAt board) 0 passes stream old low c.index_mut-pass.ensures.value c.requires.passes in
    AllFrom-set (IsPassAt board) 0 passes stream new
    (pass_stays board (0 + stream) old new at c.post_next.ensures.grown c.post_next.ensures.eyes) c.requires.passes

pub returns-clause-posted : goal.returns-clause-posted
returns-clause-posted g c = λ done streamed.
    let stream : ℕ = c.args.posted.stream in
    let passes : List PassData = c.args.passes.now.items in
    let old : PassData = c.index_mut-pass.result.now in
    let new : PassData = c.post_next.new.pass in
    let low : stream < length passes = omega (arith, c.requires.known.stream, c.requires.callers) in
    let number : stream ≡ 0 + stream = omega arith in
    let adds = if_made (Adds old (c.args.posted.event ∷ []) new) c.post_next.result c.post_next.ensures.adds in
    posted_under c.args.shared.now.board.now done c.args.posted (is_some c.post_next.result)
    0 passes stream old new low c.index_mut-pass.ensures.value number c.post_next.ensures.grown c.post_next.ensures.eyes adds streamed
