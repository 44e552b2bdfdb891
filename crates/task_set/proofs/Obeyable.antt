-- Fronts of obeyable lists, and one order more.
use Rattle.std.proofs.Common.{◌≡◌, ◌≢◌, ℕ, true, true≢false, sym, Option, None, Some, List, [], ◌∷◌, ◌++◌, fold, refl}
use Rattle.std.specs.Prelude.{All}
use Rattle.std.proofs.lemmas.List.Elements.{All-head, All-tail}
use Rattle.task_set.specs.declared.order.Order.{Order}
use Rattle.task_set.specs.declared.order.Order.TheVariants.{Release, Take, Run, Stop}
use Rattle.task_set.specs.Orders.{MayCome, StopIsLast, held_after, IsObeyableFrom, has_stop}

StopIsLast-front : (order : Order) (front rest : List Order) → StopIsLast order (front ++ rest) → StopIsLast order front
StopIsLast-front Stop [] rest h = refl
StopIsLast-front Stop (first ∷ front) rest h = cc
StopIsLast-front (Take task number) front rest h = tt
StopIsLast-front (Release task) front rest h = tt
StopIsLast-front (Run units) front rest h = tt

-- a front of an obeyable list is obeyable
pub IsObeyableFrom-front : (held : Option ℕ) (front rest : List Order) → IsObeyableFrom held (front ++ rest) → IsObeyableFrom held front
IsObeyableFrom-front held [] rest h = tt
IsObeyableFrom-front held (order ∷ front) rest h =
    (h.0, StopIsLast-front order front rest h.1, IsObeyableFrom-front (held_after held order) front rest h.2)

StopIsLast-alone : (order : Order) → StopIsLast order []
StopIsLast-alone Stop = refl
StopIsLast-alone (Take task number) = tt
StopIsLast-alone (Release task) = tt
StopIsLast-alone (Run units) = tt

StopIsLast-other : (order : Order) (rest : List Order) → order ≢ Stop → StopIsLast order rest
StopIsLast-other Stop rest other = absurd (other refl)
StopIsLast-other (Take task number) rest other = tt
StopIsLast-other (Release task) rest other = tt
StopIsLast-other (Run units) rest other = tt

-- an obeyable list without Stop is obeyable with one order more that may come
pub IsObeyableFrom-push : (held : Option ℕ) (orders : List Order) (next : Order) → IsObeyableFrom held orders
    → All (λ order. order ≢ Stop) orders → MayCome (fold held_after held orders) next → IsObeyableFrom held (orders ++ next ∷ [])
IsObeyableFrom-push held [] next h others may = (may, StopIsLast-alone next, tt)
IsObeyableFrom-push held (order ∷ rest) next h others may = (
  h.0,
  StopIsLast-other order (rest ++ next ∷ []) (All-head (λ order. order ≢ Stop) order rest others),
  IsObeyableFrom-push (held_after held order) rest next h.2 (All-tail (λ order. order ≢ Stop) order rest others) may,
)

-- an order that follows others in an obeyable list may come after them
pub MayCome-next : (held : Option ℕ) (orders : List Order) (next : Order) → IsObeyableFrom held (orders ++ next ∷ [])
    → MayCome (fold held_after held orders) next
MayCome-next held [] next h = h.0
MayCome-next held (order ∷ rest) next h = MayCome-next (held_after held order) rest next h.2

more_empty : (orders more : List Order) → orders ++ more ≡ [] → more ≡ []
more_empty [] more h = h
more_empty (order ∷ rest) more h = absurd (cc h)

-- nothing follows Stop
pub nothing_after_stop : (held : Option ℕ) (orders more : List Order) → IsObeyableFrom held (orders ++ more) → has_stop orders ≡ true
    → more ≡ []
nothing_after_stop held [] more h stops = absurd (true≢false (sym stops))
nothing_after_stop held (Stop ∷ rest) more h stops = more_empty rest more h.1
nothing_after_stop held (Take task number ∷ rest) more h stops = nothing_after_stop (Some task) rest more h.2 stops
nothing_after_stop held (Release task ∷ rest) more h stops = nothing_after_stop None rest more h.2 stops
nothing_after_stop held (Run units ∷ rest) more h stops = nothing_after_stop held rest more h.2 stops
