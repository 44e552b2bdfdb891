-- Worked values of the definitions.
use Rattle.std.proofs.Common.{◌≡◌, ℕ, List, [], ◌∷◌, Some, refl, lit≤, rules}
use Rattle.std.specs.Prelude.{codes}
use Rattle.std.proofs.lemmas.Bool.{false≢true}
use Rattle.std.proofs.lemmas.List.Elements.{All-from_recursion}
use Rattle.std.specs.Prelude.{IsTrue}
use Rattle.task_set.specs.Context.{fresh_context, context_after_take, context_after_run, carried_context}
use Rattle.task_set.specs.Name.{IsName, continues_name}
use Rattle.task_set.specs.Orders.{IsObeyable, task_held, Stint, stints_in, stint_under_way}
use Rattle.task_set.specs.declared.order.Order.{Order}
use Rattle.task_set.specs.declared.order.Order.TheVariants.{Release, Take, Run, Stop}

-- a task is taken on processor 0 and runs a million units
one_long_run : context_after_run (context_after_take (fresh_context 0) 0) 0 1000000
    ≡ record { task = 0; units = 1000000; stints = 1; moves = 0; last = Some 0; trail = 64000000 }
one_long_run = refl

-- a stint on a processor
stint : ℕ → ℕ → ℕ → List ℕ → Stint
stint task number processor units = record { task = task; number = number; processor = processor; units = units }

-- a task is taken twice on processor 0, and runs 1 and 2 units
back_on_the_same_processor : carried_context 0 (stint 0 0 0 (1 ∷ []) ∷ stint 0 1 0 (2 ∷ []) ∷ [])
    ≡ record { task = 0; units = 3; stints = 2; moves = 0; last = Some 0; trail = 1476348704584616896 }
unfolding stint
back_on_the_same_processor = refl

-- a task runs 5 units on processor 0 and then 2 on processor 1; the later stint stands first in the list
carried_to_another_processor : carried_context 0 (stint 0 1 1 (2 ∷ []) ∷ stint 1 0 1 (9 ∷ []) ∷ stint 0 0 0 (5 ∷ []) ∷ [])
    ≡ record { task = 0; units = 7; stints = 2; moves = 1; last = Some 1; trail = 7381743522923083969 }
unfolding stint
carried_to_another_processor = refl

-- two stints, and one that is under way
some_orders : List Order
some_orders = Take 4 0 ∷ Run 7 ∷ Run 8 ∷ Release 4 ∷ Take 2 3 ∷ Release 2 ∷ Take 4 1 ∷ Run 9 ∷ []

some_orders_are_obeyable : IsObeyable some_orders
unfolding some_orders
some_orders_are_obeyable = search rules

task_held_after_some_orders : task_held some_orders ≡ Some 4
unfolding some_orders
task_held_after_some_orders = refl

stints_in_some_orders : stints_in 5 some_orders ≡ stint 4 0 5 (7 ∷ 8 ∷ []) ∷ stint 2 3 5 [] ∷ []
unfolding some_orders stint
stints_in_some_orders = refl

stint_under_way_after_some_orders : stint_under_way 5 some_orders ≡ Some (stint 4 1 5 (9 ∷ []))
unfolding some_orders stint
stint_under_way_after_some_orders = refl

-- no second Take while a task is held, and nothing after Stop
taken_twice : IsObeyable (Take 4 0 ∷ Take 2 0 ∷ []) → ⊥
taken_twice h = h.2.0

released_by_another : IsObeyable (Take 4 0 ∷ Release 2 ∷ []) → ⊥
released_by_another h = cc

run_after_stop : IsObeyable (Stop ∷ Run 1 ∷ []) → ⊥
run_after_stop h = cc

-- a name, and a text that begins with a digit
idle_scan : IsName (codes "idle_scan")
idle_scan = (lit≤ tt, refl, All-from_recursion (λ byte. IsTrue (continues_name byte)) (codes "dle_scan") (search rules))

digit_first : IsName (codes "9a") → ⊥
digit_first h = false≢true h.1
