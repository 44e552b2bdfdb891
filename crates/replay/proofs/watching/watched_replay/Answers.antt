use Rattle.std.proofs.Common.{◌≡◌, ℕ, List, All, subst}
use Rattle.strong_apa.specs.declared.reply.Entry.{Entry}
use Rattle.schedule_board.specs.Boards.{board_of}
use Rattle.replay.specs.Watches.{IsToldOf}
use Rattle.replay.proofs.Seeing.{published_is_history}
use Rattle.replay.proofs.watching.watched_replay.Goals as goal

pub unless_beyond-requires : goal.unless_beyond-requires
unless_beyond-requires g c =
    let done = c.in_ok-told.told in
    let core = c.in-Ok.replayed.core in
    let m : ℕ = (board_of c.args.watching.publisher).processors in
    let were = c.in_ok-told.ensures.told c.in-Ok.ensures.whole in
    let whole : were.entries ≡ core.history = published_is_history were.entries core.history core.closed done.threaded.passes.items
    were.all_seen c.in_ok-told.ensures.first_closed c.in-Ok.ensures.told in
    record {
      told = subst (λ (n : ℕ). All (IsToldOf n core.history) done.sightings.items) c.requires.processors
          (subst (λ (l : List Entry). All (IsToldOf m l) done.sightings.items) whole were.told);
    }
