-- What a closed table has.
use Rattle.std.proofs.Common.{◌≡◌, ◌≢◌, ℕ, suc, ◌+◌, ◌<◌, ◌≤◌, Bool, true, false, List, [], ◌∷◌, ◌++◌, length, set, get_or, sym, ap, subst}
use Rattle.std.proofs.Common.{◌∙◌, arith, get_or-set_same, get_or-set_other, Option, Some, None}
use mathlib.Core.Logic.{dite}
use native.Mathlib.Decide.{ℕ_discrete}
use mathlib.Core.Option.{some, some-injective}
use lib.ListN.{get_elem?}
use Rattle.atomic_table.specs.Table.{Final, Seen}
use Rattle.task_set.specs.declared.context.Context.{Context}
use Rattle.task_set.specs.Orders.{Stint}
use Rattle.context_slots.specs.declared.view.HandView.{HandView}
use Rattle.context_slots.specs.HandOver.{of_task, HandOverRule}
use Rattle.task_set.specs.Sum.{total}
use Rattle.context_slots.specs.Homes.{Came, AllCame}
use Rattle.context_slots.proofs.Keeps.{all_home}

pub came_at : (processors id : ℕ) (v : HandView) (ws : List ℕ) (xs : List (Option Context)) (all : List Stint)
    → Final (Seen (HandOverRule processors) id v) ws xs → v.parts ≡ processors → v.holds ≡ None
    → ((g : Stint → ℕ) → total g v.ended ≡ total g all) → (t : ℕ) → t < length xs
    → (c : Context) × Came all t c × (get_elem? xs t ≡ some (Some c))
came_at processors id v ws xs all final whole free same t near =
    let h = all_home processors id v final.0 final.1 whole free t (omega (arith, final.3)) in
    (h.0, (h.1.0, h.1.1, (λ g. sym (same (of_task t g)) ∙ h.1.2 g), h.1.3), final.4 t (Some h.0) h.2)

pub came_as : (processors id : ℕ) (v : HandView) (ws : List ℕ) (xs ys : List (Option Context)) (all : List Stint) (found : Option Context)
    → Final (Seen (HandOverRule processors) id v) ws xs → v.parts ≡ processors → v.holds ≡ None
    → ((g : Stint → ℕ) → total g v.ended ≡ total g all) → (t : ℕ) → t < length xs → ys ≡ xs → get_elem? ys t ≡ some found
    → (c : Context) × Came all t c × (found ≡ Some c)
came_as processors id v ws xs ys all found final whole free same t near is at =
    let h = came_at processors id v ws xs all final whole free same t near in
    let there : get_elem? xs t ≡ some found = ap (λ (l : List (Option Context)). get_elem? l t) (sym is) ∙ at in
    (h.0, h.1, some-injective found (Some h.0) (sym there ∙ h.2))

pub came_snoc : (all : List Stint) (n : ℕ) (l : List Context) (c : Context) → AllCame all n l → Came all (n + length l) c
    → AllCame all n (l ++ c ∷ [])
came_snoc all n [] c h here = (let z : n + 0 ≡ n = omega arith in subst (λ k. Came all k c) z here, tt)
came_snoc all n (x ∷ xs) c h here = (
  h.0,
  came_snoc all (n + 1) xs c h.1
      (let z : n + suc (length xs) ≡ n + 1 + length xs = omega arith in subst (λ k. Came all k c) z here),
)

pub gone_more : (f f' : List Bool) (t : ℕ) → f' ≡ set f t false → t < length f → ((k : ℕ) → k < t → get_or f k false ≡ false) → (k : ℕ)
    → k < t + 1 → get_or f' k false ≡ false
gone_more f f' t is near below k low = ap (λ (l : List Bool). get_or l k false) is ∙ dite (ℕ_discrete k t)
    (λ e. ap (λ y. get_or (set f t false) y false) e ∙ get_or-set_same f t false false near)
    (λ ne. get_or-set_other f t k false false ne ∙ below k (omega arith))

pub left_more : (f f' : List Bool) (t n : ℕ) → f' ≡ set f t false → ((k : ℕ) → t ≤ k → k < n → get_or f k false ≡ true) → (k : ℕ)
    → t + 1 ≤ k → k < n → get_or f' k false ≡ true
left_more f f' t n is above k high low = let ne : k ≢ t = λ e. absurd (omega arith) in ap (λ (l : List Bool). get_or l k false) is
    ∙ get_or-set_other f t k false false ne ∙ above k (omega arith) low
