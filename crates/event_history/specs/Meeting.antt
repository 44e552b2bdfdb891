-- What a look finds, and what two passes know after they met.
use Rattle.std.specs.Prelude.{◌≡◌, ℕ, ◌/◌, ◌≤◌, max, ◌||◌, [], ◌∷◌, ◌++◌, ◌⊎◌}
use mathlib.Core.List.{IsPrefix}
use Rattle.event_history.specs.Boards.{PassData, Grown}

-- one load found the number of entries; it is known, and all else stays
pub record Counted (old new : PassData) (count : ℕ) : Type 0 where
  pub known : new.known ≡ count
  pub knew : old.known ≤ count
  pub word : ℕ
  pub looks : new.looks ≡ old.looks ++ word ∷ []
  pub of_word : count ≡ word / 2
  pub others : new ≡ record old { known = new.known; looks = new.looks }

-- a pass learnt what another knows
pub record Told (from old new : PassData) : Type 0 where
  pub board : new.board ≡ old.board
  pub caller : new.caller ≡ old.caller
  pub mine : new.mine ≡ old.mine
  pub knew : old.known ≤ new.known
  pub learnt : from.known ≤ new.known
  pub close : new.saw_close ≡ (old.saw_close || from.saw_close)
  pub looks : (word : ℕ) × (new.looks ≡ old.looks ++ word ∷ [])
  pub seen : IsPrefix old.seen new.seen
  pub shown : IsPrefix from.seen new.seen
  pub either : (new.seen ≡ old.seen) ⊎ (new.seen ≡ from.seen)

-- both have seen the longer of the two lists, of which one begins the other, know at least the
-- greater count, and saw the close where either did; callers and own places stay
pub record Met (one other one' other' : PassData) : Type 0 where
  pub grown : Grown one one' × Grown other other'
  pub mine : (one'.mine ≡ one.mine) × (other'.mine ≡ other.mine)
  pub same : one'.seen ≡ other'.seen
  pub either : (one'.seen ≡ one.seen) ⊎ (one'.seen ≡ other.seen)
  pub known : (max one.known other.known ≤ one'.known) × (max one.known other.known ≤ other'.known)
  pub close : (one'.saw_close ≡ (one.saw_close || other.saw_close)) × (other'.saw_close
      ≡ (one.saw_close || other.saw_close))
