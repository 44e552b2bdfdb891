-- Each context that came home is the one that its task carried.
use Rattle.std.proofs.Common.{◌≡◌, ℕ, ◌+◌, ◌<◌, subst, IfSome, List, [], ◌∷◌, fold, sym, ap, ◌∙◌}
use Rattle.std.specs.Prelude.{All}
use Rattle.task_set.specs.declared.context.Context.{Context}
use Rattle.task_set.proofs.CarriedLast.{carried_context-own}
use Rattle.task_set.specs.Orders.{Stint}
use Rattle.task_set.specs.Context.{fresh_context, context_after_stint, carried_context}
use Rattle.context_slots.specs.Carried.{AllCarried, AreOwn}
use Rattle.context_slots.specs.Homes.{Came, AllCame}
use Rattle.context_slots.proofs.Sorting.{stints_are_the_log}

came_carried : (all : List Stint) (t : ℕ) (c : Context) → Came all t c → c ≡ carried_context t all
came_carried all t c came = came.3 ∙ ap (fold context_after_stint (fresh_context t)) (sym (stints_are_the_log t all came.0 came.1 came.2))

pub all_carried : (all : List Stint) (n : ℕ) (l : List Context) → AllCame all n l → AllCarried all n l
all_carried all n [] h = tt
all_carried all n (c ∷ cs) h = (came_carried all n c h.0, all_carried all (n + 1) cs h.1)

pub are_own : (m : ℕ) (all : List Stint) (n : ℕ) (l : List Context) → All (λ (stint : Stint). stint.processor < m) all → AllCarried all n l
    → AreOwn m n l
are_own m all n [] low h = tt
are_own m all n (c ∷ cs) low h =
    let own = subst (λ (x : Context). (x.task ≡ n) × IfSome x.last (λ p. p < m)) (sym h.0) (carried_context-own m n all low) in
    (own.0, own.1, are_own m all (n + 1) cs low h.1)
