-- Passes that were all used at once.
use Rattle.std.proofs.Common.{◌≡◌, ℕ, zero, suc, ◌+◌, ◌<◌, List, [], ◌∷◌, length, map, get_or, ap, ◌∙◌, arith}
use Rattle.order_queues.specs.Ends.{EyeData}
use Rattle.event_history.specs.Boards.{BoardData, PassData, AreFrom, Grown}

-- a pass of the board
pub board_at : (board : BoardData) (n : ℕ) (l : List PassData) (i : ℕ) (d : PassData) → AreFrom board n l → i < length l
    → (get_or l i d).board ≡ board.id
board_at board n [] i d from low = absurd (omega arith)
board_at board n (p ∷ ps) zero d from low = from.0
board_at board n (p ∷ ps) (suc i) d from low = board_at board (n + 1) ps i d from.3 (omega arith)

-- what became of a pass, which kept its eyes
abbrev pub Used : PassData → PassData → Type 0
Used old new = Grown old new × (new.eyes ≡ old.eyes)

-- passes that were used are the passes of the board
pub still_from : (board : BoardData) (n : ℕ) (l m : List PassData) → length m ≡ length l
    → ((i : ℕ) (d : PassData) → i < length l → Used (get_or l i d) (get_or m i d)) → AreFrom board n l → AreFrom board n m
still_from board n [] [] same used from = tt
still_from board n [] (q ∷ qs) same used from = absurd (omega (arith, same))
still_from board n (p ∷ ps) [] same used from = absurd (omega (arith, same))
still_from board n (p ∷ ps) (q ∷ qs) same used from =
    let one : Used p q = used 0 p (omega arith) in (
      one.0.board ∙ from.0,
      one.0.caller ∙ from.1,
      ap (λ (l : List EyeData). map (λ (e : EyeData). e.received_word) l) one.1 ∙ from.2,
      still_from board (n + 1) ps qs (omega (arith, same)) (λ i d low. used (suc i) d (omega arith)) from.3,
    )
