use Rattle.std.proofs.Common.{rules, ℕ, All, length, refl, sym, subst}
use Rattle.schedule_board.specs.Boards.{PictureBoardData, board_of}
use Rattle.replay.specs.Joining.{AreJoined, AreTold}
use Rattle.replay.specs.Watches.{IsObservedOf}
use Rattle.replay.proofs.watched_threads.in_threads.Goals as goal

pub tell_joined-requires : goal.tell_joined-requires
tell_joined-requires g c =
    let joined = c.in_ok-joined.joined in
    let h : AreJoined c.args.shared.now (board_of c.args.watching.publisher) (length c.args.watching.observers.items)
    joined = search rules in
    record {
      joined = record {
        threads = h.threads;
        first_saw = h.first_saw;
        first_closed = h.first_closed;
        on_board = refl;
        each_observer = refl;
        seen = subst (λ (of : PictureBoardData). All (IsObservedOf of) joined.observed.items) (sym h.on_board) h.seen;
      };
    }

pub returns : goal.returns
returns g c =
    let joined = c.in_ok-joined.joined in
    let shared = c.args.shared.now in
    let h : AreJoined shared (board_of c.args.watching.publisher) (length c.args.watching.observers.items) joined = search rules in
    subst (λ (n : ℕ). AreTold shared (board_of c.args.watching.publisher).processors n c.tell_joined.result) h.each_observer
    (subst (λ (of : PictureBoardData). AreTold shared of.processors (length joined.observed.items) c.tell_joined.result)
    h.on_board c.tell_joined.ensures)
