-- Two small histories, worked by hand. In the one the second task may run on processor 0 alone, so the first one moves on to 1: it is
-- legal, and gives the links, orders and contexts that a reader expects. In the other one a task is shifted along a longer chain than
-- there is, and so it is not legal.
use Rattle.std.proofs.Common.{◌≡◌, ℕ, zero, suc, ◌≤◌, false, List, [], ◌∷◌, map, length, Option, Some, refl, sym, ap, ◌∙◌, inl, inr, ◌⊎◌}
use Rattle.std.proofs.Common.{arith, subst}
use Rattle.std.specs.List.{range_with_len}
use Rattle.std.proofs.lemmas.Bool.{ltb-true, cases_order}
use Rattle.affinity_mask.specs.ProcSet.{has, all_below, intersection}
use Rattle.affinity_mask.proofs.Sets.{has-all_below}
use Rattle.task_set.specs.TaskSet.{SetData, TaskData}
use Rattle.task_set.specs.declared.context.Context.{Context}
use Rattle.task_set.specs.declared.event.Event.{Event}
use Rattle.task_set.specs.declared.event.Event.TheVariants.{Arrive}
use Rattle.task_set.specs.declared.order.Order.TheVariants.{Release, Take, Stop}
use Rattle.strong_apa.specs.declared.reply.Came.{Came}
use Rattle.strong_apa.specs.declared.reply.Came.TheVariants as came
use Rattle.strong_apa.specs.declared.reply.Reply.{Reply}
use Rattle.strong_apa.specs.declared.reply.Reply.TheVariants.{Placed}
use Rattle.strong_apa.specs.declared.reply.Entry.{Entry}
use Rattle.strong_apa.specs.State.{State, IsIdle, is_ready, effective_mask, start_of}
use Rattle.strong_apa.specs.Chain.{IsLess, IsLeastSuch, EndsIdle}
use Rattle.strong_apa.specs.Step.{Comes, ComesPlaced, ArriveStep}
use Rattle.strong_apa.specs.History.{IsLegal, state_at, state_after}
use Rattle.strong_apa.specs.Dispatch.{closed_orders_of, context_of}
use Rattle.strong_apa.proofs.Replies.{one_came}

-- a task without a name, which plays no part here; a mask is written as the number whose ones are its processors
abbrev task : ℕ → ℕ → TaskData
task priority mask = record { name = []; priority = priority; mask = mask }

abbrev entry : Event → Reply → Entry
entry event reply = record { caller = 0; event = event; reply = reply }

abbrev context : ℕ → ℕ → ℕ → ℕ → Option ℕ → ℕ → Context
context t units stints moves last trail = record { task = t; units = units; stints = stints; moves = moves; last = last; trail = trail }

-- ---- how a short list is shown to be the least
one_is_least : (Has : List ℕ → Type 0) (p : ℕ) → Has (p ∷ []) → (Has [] → ⊥) → ((x : ℕ) → Has (x ∷ []) → p ≤ x)
    → IsLeastSuch Has (p ∷ [])
one_is_least Has p h none least = record { itself = h; least = compare }
  where
    compare : (other : List ℕ) → Has other → (p ∷ [] ≡ other) ⊎ IsLess (p ∷ []) other
    compare [] h' = absurd (none h')
    compare (x ∷ []) h' = elim (cases_order p x) [
      | inl same ↦ inl (ap (λ (y : ℕ). y ∷ []) same)
      | inr (inl less) ↦ inr (inr (refl, inl less))
      | inr (inr more) ↦ (let le = least x h' in absurd (omega arith))
    ]
    compare (x ∷ y ∷ rest) h' = inr (inl (omega arith))

two_are_least : (Has : List ℕ → Type 0) (p q : ℕ) → Has (p ∷ q ∷ []) → (Has [] → ⊥)
    → ((x : ℕ) → Has (x ∷ []) → ⊥) → ((x y : ℕ) → Has (x ∷ y ∷ []) → (p ≡ x) × (q ≤ y)) → IsLeastSuch Has (p ∷ q ∷ [])
two_are_least Has p q h none no_one least = record { itself = h; least = compare }
  where
    compare : (other : List ℕ) → Has other → (p ∷ q ∷ [] ≡ other) ⊎ IsLess (p ∷ q ∷ []) other
    compare [] h' = absurd (none h')
    compare (x ∷ []) h' = absurd (no_one x h')
    compare (x ∷ y ∷ []) h' = let l = least x y h' in elim (cases_order q y) [
      | inl same ↦ inl (rw (l.0, same) refl)
      | inr (inl less) ↦ inr (inr (refl, inr (l.0, inl less)))
      | inr (inr more) ↦ (let le = l.1 in absurd (omega arith))
    ]
    compare (x ∷ y ∷ z ∷ rest) h' = inr (inl (omega arith))

-- ---- the second task may run on processor 0 alone, so the first one moves on to 1
abbrev first_shift_set : SetData
first_shift_set = record { processors = 2; tasks = task 1 3 ∷ task 2 1 ∷ [] }

abbrev first_shift : List Entry
first_shift = entry (Arrive 0) (Placed (0 ∷ [])) ∷ entry (Arrive 1) (Placed (0 ∷ 1 ∷ [])) ∷ []

abbrev shift_state : ℕ → State
shift_state n = state_at first_shift_set first_shift n

a_is_placed : ComesPlaced (shift_state 0) 0 (0 ∷ []) (shift_state 1)
unfolding has intersection all_below
a_is_placed = record {
  least = one_is_least (EndsIdle (shift_state 0) 0) 0 (0, (refl, refl), (refl, refl)) (λ h. h.1) (λ x h. omega arith);
  shifted = refl;
}

mask_b : effective_mask (shift_state 1) 1 ≡ 1
unfolding intersection all_below
mask_b = refl

b_starts_on_0 : (x : ℕ) (rest : List ℕ) → EndsIdle (shift_state 1) 1 (x ∷ rest) → x ≡ 0
unfolding all_below
b_starts_on_0 x rest h = let below = ltb-true x 1 (sym (has-all_below 1 x) ∙ (rw mask_b at h.1.0)) in omega arith

idle_above : (p : ℕ) → IsIdle (shift_state 1) p → 1 ≤ p
idle_above zero idle = let nobody = idle.1 in absurd (cc)
idle_above (suc p) idle = omega arith

b_is_placed : ComesPlaced (shift_state 1) 1 (0 ∷ 1 ∷ []) (shift_state 2)
unfolding has intersection all_below
b_is_placed = record {
  least = two_are_least (EndsIdle (shift_state 1) 1) 0 1 (1, (refl, ((0, refl, refl), refl)), (refl, refl)) (λ h. h.1)
      (λ x h. let e = b_starts_on_0 x [] h in let above = idle_above h.0 h.2 in let end = h.1.1 in omega arith)
      (λ x y h. (sym (b_starts_on_0 x (y ∷ []) h), (let above = idle_above h.0 h.2 in let end = h.1.1.1 in omega arith)));
  shifted = refl;
}

arrives : (chain : List ℕ) {s : State} {t : ℕ} {new : State} → is_ready s t ≡ false → ComesPlaced s t chain new
    → ArriveStep s t (Placed chain) new
arrives chain absent comes = inr record { absent = absent; came = came.Placed chain; answer = refl; comes = comes }

first_shift_legal : IsLegal first_shift_set first_shift
first_shift_legal = ((omega arith, arrives (0 ∷ []) refl a_is_placed), ((omega arith, arrives (0 ∷ 1 ∷ []) refl b_is_placed), tt))

first_shift_links : (state_after (start_of first_shift_set) first_shift).on ≡ Some 1 ∷ Some 0 ∷ []
first_shift_links = refl

first_shift_orders : map (closed_orders_of (start_of first_shift_set) first_shift) (range_with_len 0 2)
    ≡ (Take 0 0 ∷ Release 0 ∷ Take 1 0 ∷ Release 1 ∷ Stop ∷ []) ∷ (Take 0 1 ∷ Release 0 ∷ Stop ∷ []) ∷ []
first_shift_orders = refl

first_shift_contexts : map (context_of (start_of first_shift_set) first_shift) (range_with_len 0 2)
    ≡ context 0 0 2 1 (Some 1) 0 ∷ context 1 0 1 0 (Some 0) 1 ∷ []
first_shift_contexts = refl

-- ---- a longer chain to an idle processor is not the scheduler's, though it could be shifted along
abbrev longer_chain_set : SetData
longer_chain_set = record { processors = 3; tasks = task 3 7 ∷ task 4 3 ∷ [] }

abbrev longer_chain : List Entry
longer_chain = entry (Arrive 0) (Placed (0 ∷ [])) ∷ entry (Arrive 1) (Placed (0 ∷ 2 ∷ [])) ∷ []

placed : {s : State} {t : ℕ} {chain : List ℕ} {new : State} → ArriveStep s t (Placed chain) new → ComesPlaced s t chain new
placed (inl again) = let said = again.answer in absurd (cc)
placed {s = s} {t = t} {chain = chain} {new = new} (inr step) =
    subst (λ (c : Came). Comes s t c new) (sym (one_came (came.Placed chain) step.came step.answer)) step.comes

longer_chain_not_legal : IsLegal longer_chain_set longer_chain → ⊥
unfolding has intersection all_below
longer_chain_not_legal legal = elim ((placed legal.1.0.1).least.least (1 ∷ []) (1, (refl, refl), (refl, refl))) [
  | inl same ↦ (let n = ap length same in absurd (omega arith))
  | inr (inl shorter) ↦ absurd (omega arith)
  | inr (inr as_long) ↦ (let n = as_long.0 in absurd (omega arith))
]
