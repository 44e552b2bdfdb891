-- The occupants of a table are copied into a list.
use Rattle.std.proofs.Common.{◌≡◌, ℕ, ◌+◌, ◌<◌, ◌≤◌, List, length, set, Option, None, sym, ◌∙◌, inl, inr, arith, length-set}
use Rattle.std.proofs.Common.{get_or-set_same, get_or-set_other}
use Rattle.std.proofs.lemmas.Bool.{cases_eq}
use Rattle.std.proofs.lemmas.List.{ext_get_or}
use Rattle.strong_apa.specs.State.{State, IsState, task_on}
use Rattle.live_core.specs.Moves.{occupant_at}

-- the occupants below p are copied
pub record IsCopiedBelow (s : State) (p : ℕ) (list : List (Option ℕ)) : Type 0 where
  pub count : length list ≡ s.processors
  pub same : (q : ℕ) → q < p → occupant_at list q ≡ task_on s q

pub copied_first : (s : State) (list : List (Option ℕ)) → length list ≡ s.processors → IsCopiedBelow s 0 list
copied_first s list count = record { count = count; same = λ q lt. absurd (omega arith) }

pub copied_more : (s : State) (p : ℕ) (list : List (Option ℕ)) (occupant : Option ℕ) → p < s.processors → occupant ≡ task_on s p
    → IsCopiedBelow s p list → IsCopiedBelow s (p + 1) (set list p occupant)
copied_more s p list occupant lt is below = record {
  count = length-set list p occupant ∙ below.count;
  same = λ q fits. elim (cases_eq q p) [
    | inl here ↦ rw here (get_or-set_same list p occupant None (rw below.count lt) ∙ is)
    | inr other ↦ get_or-set_other list p q occupant None other ∙ below.same q (omega arith)
  ];
}

pub copied_whole : (s : State) → IsState s → (p : ℕ) (list : List (Option ℕ)) → s.processors ≤ p → IsCopiedBelow s p list → list ≡ s.on
copied_whole s ok p list all below =
    ext_get_or None list s.on (below.count ∙ sym ok.on_count) (λ q fits. below.same q (let n = below.count in omega arith))
