-- The task and the last processor of a context that a task carried.
use Rattle.std.proofs.Common.{◌≡◌, ℕ, ◌<◌, Option, List, [], ◌∷◌, fold, refl, sym, subst, ◌∙◌, IfSome}
use Rattle.std.specs.Prelude.{All}
use Rattle.std.proofs.lemmas.List.Elements.{All-nil, All-cons, All-head, All-tail}
use Rattle.task_set.specs.declared.context.Context.{Context}
use Rattle.task_set.specs.Orders.{Stint}
use Rattle.task_set.specs.Context.{fresh_context, context_after_take, context_after_run, context_after_runs, context_after_stint}
use Rattle.task_set.specs.Context.{stints_of_task}
use Rattle.task_set.specs.Laws.{CarriedIsOfItsTask}
use Rattle.task_set.proofs.Carried.{All-stints_of_task}

-- runs keep the task and the last processor
runs-keep : (c : Context) (p : ℕ) (units : List ℕ) → ((context_after_runs c p units).task ≡ c.task)
    × ((context_after_runs c p units).last ≡ c.last)
runs-keep c p [] = (refl, refl)
runs-keep c p (u ∷ units) = runs-keep (context_after_run c p u) p units

abbrev IsOwn : ℕ → ℕ → Context → Type 0
IsOwn n t c = (c.task ≡ t) × IfSome c.last (λ p. p < n)

own-stint : (n t : ℕ) (c : Context) (stint : Stint) → stint.processor < n → IsOwn n t c → IsOwn n t (context_after_stint c stint)
own-stint n t c stint low h =
    let keep = runs-keep (context_after_take c stint.processor) stint.processor stint.units in
    (keep.0 ∙ h.0, subst (λ (last : Option ℕ). IfSome last (λ p. p < n)) (sym keep.1) low)

own-stints : (n t : ℕ) (c : Context) (stints : List Stint) → All (λ (stint : Stint). stint.processor < n) stints → IsOwn n t c
    → IsOwn n t (fold context_after_stint c stints)
own-stints n t c [] low h = h
own-stints n t c (stint ∷ rest) low h =
    own-stints n t (context_after_stint c stint) rest (All-tail (λ (stint : Stint). stint.processor < n) stint rest low)
    (own-stint n t c stint (All-head (λ (stint : Stint). stint.processor < n) stint rest low) h)

low-own : (n t : ℕ) (stints : List Stint) → All (λ (stint : Stint). stint.processor < n) stints
    → All (λ (stint : Stint). stint.task ≡ t → stint.processor < n) stints
low-own n t [] low = All-nil (λ (stint : Stint). stint.task ≡ t → stint.processor < n)
low-own n t (stint ∷ rest) low =
    All-cons (λ (stint : Stint). stint.task ≡ t → stint.processor < n) stint rest
    (λ _. All-head (λ (stint : Stint). stint.processor < n) stint rest low)
    (low-own n t rest (All-tail (λ (stint : Stint). stint.processor < n) stint rest low))

pub carried_context-own : CarriedIsOfItsTask
carried_context-own n t stints low =
    own-stints n t (fresh_context t) (stints_of_task t stints)
    (All-stints_of_task (λ (stint : Stint). stint.processor < n) t stints (low-own n t stints low)) (refl, tt)
