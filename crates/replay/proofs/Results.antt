-- Facts by the case of a result.
use Rattle.std.proofs.Common.{Result, Ok, Err, MatchResult}

module _ {X Y : Type 0} where
  -- by case, a weaker fact
  pub match_weaker : (A A' : X → Type 0) (B B' : Y → Type 0) (r : Result X Y) → MatchResult r A B → ((x : X) → A x → A' x)
      → ((y : Y) → B y → B' y) → MatchResult r A' B'
  match_weaker A A' B B' (Ok x) h f g = f x h
  match_weaker A A' B B' (Err y) h f g = g y h

  -- by two facts, a third
  pub match_two : (A A' A'' : X → Type 0) (B B' B'' : Y → Type 0) (r : Result X Y) → MatchResult r A B → MatchResult r A' B'
      → ((x : X) → A x → A' x → A'' x) → ((y : Y) → B y → B' y → B'' y) → MatchResult r A'' B''
  match_two A A' A'' B B' B'' (Ok x) h k f g = f x h k
  match_two A A' A'' B B' B'' (Err y) h k f g = g y h k

  -- and a fact that does not go by case
  pub match_gives : (A A' : X → Type 0) (B B' : Y → Type 0) (Q : Type 0) (r : Result X Y) → MatchResult r A B → MatchResult r A' B'
      → ((x : X) → A x → A' x → Q) → ((y : Y) → B y → B' y → Q) → Q
  match_gives A A' B B' Q (Ok x) h k f g = f x h k
  match_gives A A' B B' Q (Err y) h k f g = g y h k
