-- The stints of lists of orders.
use Rattle.std.proofs.Common.{◌≡◌, ℕ, Option, None, Some, List, [], ◌∷◌, ◌++◌, map, fold, refl, sym, ap, ◌∙◌, append_assoc, append-nil}
use Rattle.std.specs.Prelude.{All}
use Rattle.std.specs.List.{flat_map}
use Rattle.std.proofs.lemmas.List.Elements.{All-head, All-tail}
use Rattle.task_set.specs.declared.order.Order.{Order}
use Rattle.task_set.specs.declared.order.Order.TheVariants.{Release, Take, Run, Stop}
use Rattle.std.specs.Option.{option_map}
use Rattle.task_set.specs.Orders.{held_after, task_held, stint_under_way, Stint, stint_orders, stint_after, stint_ended, stints_from}
use Rattle.task_set.specs.Orders.{stints_in}

-- orders, then more orders, with a stint under way at first
pub stints_from-append : (p : ℕ) (under_way : Option Stint) (orders more : List Order) → stints_from p under_way (orders ++ more)
    ≡ stints_from p under_way orders ++ stints_from p (fold (stint_after p) under_way orders) more
stints_from-append p under_way [] more = refl
stints_from-append p under_way (order ∷ rest) more =
    ap (λ later. stint_ended under_way order ++ later) (stints_from-append p (stint_after p under_way order) rest more)
    ∙ sym (append_assoc (stint_ended under_way order) _ _)

-- Runs add their units to the stint that is under way
pub stints_from-runs : (p : ℕ) (stint : Stint) (units : List ℕ) (more : List Order) → stints_from p (Some stint) (map Run units ++ more)
    ≡ stints_from p (Some (record stint { units = stint.units ++ units })) more
stints_from-runs p stint [] more =
    ap (λ (done : List ℕ). stints_from p (Some (record stint { units = done })) more) (sym (append-nil stint.units))
stints_from-runs p stint (u ∷ units) more =
    stints_from-runs p (record stint { units = stint.units ++ u ∷ [] }) units more
    ∙ ap (λ (done : List ℕ). stints_from p (Some (record stint { units = done })) more) (append_assoc stint.units (u ∷ []) units)

-- a stint that was taken on p, and has no units yet
abbrev taken : ℕ → Stint → Stint
taken p stint = record { task = stint.task; number = stint.number; processor = p; units = [] }

-- the orders of a stint on p
pub stints_in-stint_orders : (p : ℕ) (stint : Stint) (more : List Order) → stint.processor ≡ p → stints_in p (stint_orders stint ++ more)
    ≡ stint ∷ stints_in p more
stints_in-stint_orders p stint more on =
    ap (λ (list : List Order). stints_from p (Some (taken p stint)) list)
    (append_assoc (map Run stint.units) (Release stint.task ∷ []) more)
    ∙ stints_from-runs p (taken p stint) stint.units (Release stint.task ∷ more)
    ∙ ap (λ (q : ℕ). record stint { processor = q } ∷ stints_in p more) (sym on)

-- the orders of stints on p, one stint after another, then more orders
pub stints_in-flat_map : (p : ℕ) (stints : List Stint) (more : List Order) → All (λ stint. stint.processor ≡ p) stints
    → stints_in p (flat_map stint_orders stints ++ more) ≡ stints ++ stints_in p more
stints_in-flat_map p [] more on = refl
stints_in-flat_map p (stint ∷ stints) more on =
    ap (stints_in p) (append_assoc (stint_orders stint) (flat_map stint_orders stints) more)
    ∙ stints_in-stint_orders p stint (flat_map stint_orders stints ++ more) (All-head (λ stint. stint.processor ≡ p) stint stints on)
    ∙ ap (λ (list : List Stint). stint ∷ list) (stints_in-flat_map p stints more (All-tail (λ stint. stint.processor ≡ p) stint stints on))

-- after an order the task that is held is that of the stint under way
held_after-stint_after : (p : ℕ) (under_way : Option Stint) (order : Order)
    → held_after (option_map (λ (s : Stint). s.task) under_way) order ≡ option_map (λ (s : Stint). s.task) (stint_after p under_way order)
held_after-stint_after p under_way (Take task number) = refl
held_after-stint_after p under_way (Release task) = refl
held_after-stint_after p None (Run units) = refl
held_after-stint_after p (Some stint) (Run units) = refl
held_after-stint_after p under_way Stop = refl

-- and so after a list of orders
held_by-stint : (p : ℕ) (under_way : Option Stint) (orders : List Order)
    → fold held_after (option_map (λ (s : Stint). s.task) under_way) orders
    ≡ option_map (λ (s : Stint). s.task) (fold (stint_after p) under_way orders)
held_by-stint p under_way [] = refl
held_by-stint p under_way (order ∷ rest) =
    ap (λ held. fold held_after held rest) (held_after-stint_after p under_way order) ∙ held_by-stint p (stint_after p under_way order) rest

-- the task that is held after a list of orders is that of the stint under way
pub task_held-stint_under_way : (p : ℕ) (orders : List Order)
    → task_held orders ≡ option_map (λ (s : Stint). s.task) (stint_under_way p orders)
task_held-stint_under_way p orders = held_by-stint p None orders
