use Rattle.std.proofs.Common.{None}
use Rattle.std.proofs.lemmas.List.{get_or-replicate}
use Rattle.schedule_board.proofs.occupants.Occupants.nobody.Goals as goal

pub returns-clause-nobody : goal.returns-clause-nobody
returns-clause-nobody c = λ p below. get_or-replicate 64 p None None below
