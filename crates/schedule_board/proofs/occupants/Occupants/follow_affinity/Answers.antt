use Rattle.strong_apa.specs.State.{state_with_mask}
use Rattle.strong_apa.specs.History.{state_after_left}
use Rattle.schedule_board.proofs.Links.{shows_with_mask}
use Rattle.schedule_board.proofs.occupants.Occupants.follow_affinity.Goals as goal

pub returns-in-Remasked : goal.returns-in-Remasked
returns-in-Remasked c = λ s mask shows.
    let t = c.args.t in
    let left = state_after_left s t c.in-Remasked.gone in
    rw c.in-Remasked.is (c.come.ensures (state_with_mask left t mask)
    (shows_with_mask left t mask c.vacate.new.self (c.vacate.ensures s shows)))
