use Rattle.std.proofs.Common.{rules, arith, ◌≡◌, ◌<◌, ◌++◌, ℕ, List, length, get_or, take, drop, sym, ap, ◌∙◌, subst}
use Rattle.std.proofs.Math.Seq.{take-append_seam}
use Rattle.event_history.specs.Boards.{PassData, AreAllPasses, AreFrom}
use Rattle.thread_tests.proofs.Crews.{Used, board_at, still_from}
use Rattle.thread_tests.proofs.board_tests.post_shares.Goals as goal

pub for_each_mut-requires-clause-accepts : goal.for_each_mut-requires-clause-accepts
for_each_mut-requires-clause-accepts g c κs within = λ i p low is.
    let board = c.args.board.now in
    let items : List PassData = c.as_mut_slice.result.now in
    let from : AreFrom board 0 items = subst (AreFrom board 0) (sym c.as_mut_slice.ensures.value) c.requires.passes.1 in
    (ap (λ (q : PassData). q.board) is ∙ board_at board 0 items i p.now from low, c.requires.tasks.0, c.requires.tasks.1)

pub returns : goal.returns
returns g c =
    let board = c.args.board.now in
    let items : List PassData = c.args.passes.now.items in
    let new : List PassData = c.for_each_mut.new.s in
    let value : c.as_mut_slice.result.now ≡ items = c.as_mut_slice.ensures.value in
    let long : length new ≡ length items = c.for_each_mut.auto.s ∙ ap length value in
    let used : (i : ℕ) (d : PassData) → i < length items → Used (get_or items i d) (get_or new i d) = λ i d low.
    let changes = (c.for_each_mut.ensures i d (subst (λ (l : List PassData). i < length l) (sym value) low)).1 in
    let call : Used changes.argument.now changes.after_call.now = changes.call in
    subst (λ (q : PassData). Used (get_or items i d) q) changes.left
    (subst (λ (q : PassData). Used q changes.after_call.now) (changes.argument_is ∙ ap (λ (l : List PassData). get_or l i d) value)
    call) in
    let from : AreFrom board 0 new = still_from board 0 items new long used c.requires.passes.1 in
    let whole : take c.args.passes.now.len (new ++ drop (length new) items) ≡ new =
    ap (λ (n : ℕ). take n (new ++ drop (length new) items)) (c.args.passes.now.ok.0 ∙ sym long)
    ∙ take-append_seam new (drop (length new) items) in
    (ap length whole ∙ long ∙ c.requires.passes.0, subst (AreFrom board 0) (sym whole) from)
