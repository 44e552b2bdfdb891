-- Worked values of the definitions of context_slots: a context at home, and in a stint.
use Rattle.std.proofs.Common.{◌≡◌, ℕ, [], ◌∷◌, Some, refl, arith}
use Rattle.task_set.specs.Context.{fresh_context}
use Rattle.task_set.specs.Orders.{Stint}
use Rattle.task_set.specs.declared.context.Context.{Context}
use Rattle.context_slots.specs.HandOver.{IsHomeAfter}
use Rattle.context_slots.specs.Hands.{IsInStint}

-- task 0 ran 5 units on processor 0, and then 2 on processor 1
abbrev first_stint : Stint
first_stint = record { task = 0; number = 0; processor = 0; units = 5 ∷ [] }

abbrev second_stint : Stint
second_stint = record { task = 0; number = 1; processor = 1; units = 2 ∷ [] }

abbrev carried : Context
carried = record { task = 0; units = 7; stints = 2; moves = 1; last = Some 1; trail = 7381743522923083969 }

fresh_at_home : IsHomeAfter (fresh_context 0) 0 0
fresh_at_home = record { log = []; numbered = tt; count = refl; context = refl }

home_after_two : IsHomeAfter carried 0 2
home_after_two = record { log = first_stint ∷ second_stint ∷ []; numbered = (refl, refl, (refl, refl, tt)); count = refl; context = refl }

-- it was read in stint 1, on processor 1
in_stint : IsInStint carried 0 1 1
in_stint = record { task = refl; stints = refl; last = refl }

two_is_not_one : (n : ℕ) → n ≡ 2 → n ≡ 1 → ⊥
two_is_not_one n two one = omega arith

not_in_the_first : IsInStint carried 0 0 0 → ⊥
not_in_the_first held = two_is_not_one 2 refl held.stints
