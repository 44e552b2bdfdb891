-- What a pass knows once it took in others.
use Rattle.std.specs.Prelude.{◌≡◌, ◌⊎◌, true, None, List, [], ◌∷◌, ◌++◌}
use Rattle.atomic_table.specs.Seated.{TableId}
use Rattle.event_history.specs.declared.view.PassView.{PassView}
use Rattle.order_queues.specs.Ends.{EyeData}
use Rattle.event_history.specs.Boards.{PassData}
use Rattle.event_history.specs.Turn.{TurnSeat}

-- it is one of the list
abbrev pub Has : {A : Type 0} → A → List A → Type 0
Has x [] = ⊥
Has x (y ∷ ys) = (x ≡ y) ⊎ Has x ys

-- what the pass saw and did is known to the view
pub record IsIn (pass : PassData) (v : PassView) : Type 0 where
  pub saw : ((v.seen ≡ pass.seen) × (v.saw_close ≡ pass.saw_close))
      ⊎ Has (pass.seen, pass.saw_close) v.olds
  pub own : ((v.caller ≡ pass.caller) × (v.mine ≡ pass.mine)) ⊎ Has (pass.caller, pass.mine) v.ended

-- what each of these passes saw and did is known to the view
abbrev pub AllIn : List PassData → PassView → Type 0
AllIn [] v = Unit {0}
AllIn (pass ∷ rest) v = IsIn pass v × AllIn rest v

-- the passes are all of this board
abbrev pub AllOf : TableId → List PassData → Type 0
AllOf board [] = Unit {0}
AllOf board (pass ∷ rest) = (pass.board ≡ board) × AllOf board rest

-- a pass that takes others in
pub record IsGathering (m : TurnSeat) : Type 0 where
  pub pass : m.0.is_pass ≡ true
  pub held : m.0.held ≡ None
  pub slots : m.1 ≡ []

-- some of the passes were taken in, from the last on
pub record Gathered (all left : List PassData) (v : PassView) : Type 0 where
  pub done : List PassData
  pub parts : all ≡ left ++ done
  pub known : AllIn done v

-- each of the rows of eyes is this one
abbrev pub AreRows : List EyeData → List (List EyeData) → Type 0
AreRows row [] = Unit {0}
AreRows row (r ∷ rest) = (r ≡ row) × AreRows row rest
