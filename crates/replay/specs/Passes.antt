-- The passes of a board while one caller uses them all, and publishes what the pass of caller 0 has
-- seen.
use Rattle.std.specs.Prelude.{◌≡◌, true, List, [], ◌∷◌}
use mathlib.Core.List.{IsPrefix}
use Rattle.strong_apa.specs.declared.reply.Entry.{Entry}
use Rattle.order_queues.specs.Ends.{QueueData}
use Rattle.event_history.specs.Boards.{AreEyesOf, Grown, PassData}

-- these entries are a prefix of what the first pass has seen
abbrev pub FirstSaw : List Entry → List PassData → Type 0
FirstSaw entries [] = ⊥
FirstSaw entries (pass ∷ rest) = IsPrefix entries pass.seen

-- these entries are what the first pass has seen
abbrev pub FirstSawJust : List Entry → List PassData → Type 0
FirstSawJust entries [] = ⊥
FirstSawJust entries (pass ∷ rest) = entries ≡ pass.seen

-- the first pass saw the close
abbrev pub FirstSawClose : List PassData → Type 0
FirstSawClose [] = ⊥
FirstSawClose (pass ∷ rest) = pass.saw_close ≡ true

-- a pass that knows no less, that posted nothing, and that still has an eye for each queue
pub record HasGrown (queues : List QueueData) (old new : PassData) : Type 0 where
  pub grown : Grown old new
  pub mine : new.mine ≡ old.mine
  pub eyes : AreEyesOf queues old.eyes → AreEyesOf queues new.eyes

-- the same passes in the same order, each of which knows no less and posted nothing
abbrev pub HaveGrown : List QueueData → List PassData → List PassData → Type 0
HaveGrown queues [] [] = Unit {0}
HaveGrown queues [] (q ∷ qs) = ⊥
HaveGrown queues (p ∷ ps) [] = ⊥
HaveGrown queues (p ∷ ps) (q ∷ qs) = HasGrown queues p q × HaveGrown queues ps qs
