-- The context that a task carried, and one stint more.
use Rattle.std.proofs.Common.{◌≡◌, ◌≢◌, ℕ, suc, ◌<◌, ◌≤◌, Bool, true, false, nat_lt, ◌==◌, List, [], ◌∷◌, ◌++◌, fold, filter, refl, ap, ◌∙◌}
use Rattle.std.proofs.Common.{arith, eq-eqb, ne_eqb, eqb-true, ltb-true, ltb-false, lt-ltb, if◌then◌else◌}
use Rattle.std.specs.Prelude.{All, AllPairs, IsPermutation}
use Rattle.std.proofs.lemmas.List.Elements.{All-nil, All-head, All-tail, All-cons, All-weaker}
use Rattle.std.proofs.lemmas.List.Kept.{AllPairs-cons}
use Rattle.std.proofs.lemmas.List.Sorted.{IsPermutation-refl, IsPermutation-cons, IsPermutation-trans, IsPermutation-middle}
use Rattle.std.proofs.lemmas.List.Sorted.{All-permutation}
use Rattle.std.proofs.lemmas.List.Sums.{fold-append}
use Rattle.task_set.specs.declared.context.Context.{Context}
use Rattle.task_set.specs.Laws.{IsLatest, IsNoLater}
use Rattle.task_set.specs.Orders.{Stint}
use Rattle.task_set.specs.Context.{context_after_run, context_after_runs, with_stint, stints_of_task, fresh_context, context_after_stint}
use Rattle.task_set.specs.Context.{carried_context}

-- a stint that is put in its place is one stint more
pub IsPermutation-with_stint : (stint : Stint) (stints : List Stint) → IsPermutation (stint ∷ stints) (with_stint stint stints)
IsPermutation-with_stint stint [] = IsPermutation-refl (stint ∷ [])
IsPermutation-with_stint stint (next ∷ later) = by (nat_lt stint.number next.number) (IsPermutation-with_stint stint later)
  where
    by : (before : Bool) → IsPermutation (stint ∷ later) (with_stint stint later)
        → IsPermutation (stint ∷ next ∷ later) (if before then stint ∷ next ∷ later else next ∷ with_stint stint later)
    by true rest = IsPermutation-refl (stint ∷ next ∷ later)
    by false rest =
        IsPermutation-trans _ (next ∷ stint ∷ later) _ (IsPermutation-middle (stint ∷ []) next later) (IsPermutation-cons next _ _ rest)

-- the stints of a task are all of them
pub IsPermutation-stints_of_task : (t : ℕ) (stints : List Stint)
    → IsPermutation (filter (λ stint. stint.task == t) stints) (stints_of_task t stints)
IsPermutation-stints_of_task t [] = IsPermutation-refl []
IsPermutation-stints_of_task t (stint ∷ others) = by (stint.task == t) (IsPermutation-stints_of_task t others)
  where
    by : (own : Bool) → IsPermutation (filter (λ stint. stint.task == t) others) (stints_of_task t others)
        → IsPermutation (if own then stint ∷ filter (λ stint. stint.task == t) others else filter (λ stint. stint.task == t) others)
        (if own then with_stint stint (stints_of_task t others) else stints_of_task t others)
    by true rest = IsPermutation-trans _ _ _ (IsPermutation-cons stint _ _ rest) (IsPermutation-with_stint stint (stints_of_task t others))
    by false rest = rest

-- what holds of each stint of a task in a list holds of each of its stints in order
pub All-stints_of_task : (P : Stint → Type 0) (t : ℕ) (stints : List Stint) → All (λ stint. stint.task ≡ t → P stint) stints
    → All P (stints_of_task t stints)
All-stints_of_task P t [] all = All-nil P
All-stints_of_task P t (stint ∷ others) all =
    by (stint.task == t) refl (All-head (λ stint. stint.task ≡ t → P stint) stint others all)
    (All-stints_of_task P t others (All-tail (λ stint. stint.task ≡ t → P stint) stint others all))
  where
    by : (own : Bool) → (stint.task == t) ≡ own → (stint.task ≡ t → P stint) → All P (stints_of_task t others)
        → All P (if own then with_stint stint (stints_of_task t others) else stints_of_task t others)
    by true e first rest = All-permutation P _ _ (IsPermutation-with_stint stint _) (All-cons P stint _ (first (eqb-true _ _ e)) rest)
    by false e first rest = rest

-- a stint later than all others goes last
with_stint-latest : (latest : Stint) (stints : List Stint) → All (λ stint. stint.number < latest.number) stints
    → with_stint latest stints ≡ stints ++ latest ∷ []
with_stint-latest latest [] all = refl
with_stint-latest latest (stint ∷ later) all =
    by (nat_lt latest.number stint.number) refl (All-head (λ stint. stint.number < latest.number) stint later all)
    (with_stint-latest latest later (All-tail (λ stint. stint.number < latest.number) stint later all))
  where
    by : (before : Bool) → nat_lt latest.number stint.number ≡ before → stint.number < latest.number → with_stint latest later ≡ later
        ++ latest ∷ []
        → (if before then latest ∷ stint ∷ later else stint ∷ with_stint latest later) ≡ stint ∷ (later ++ latest ∷ [])
    by true e first rest = absurd (omega (arith, ltb-true latest.number stint.number e))
    by false e first rest = ap (λ l. stint ∷ l) rest

-- a stint goes before a later one that is last
with_stint-before : (stint latest : Stint) (stints : List Stint) → stint.number < latest.number → with_stint stint (stints ++ latest ∷ [])
    ≡ with_stint stint stints ++ latest ∷ []
with_stint-before stint latest [] lt = ap (λ (b : Bool). if b then stint ∷ latest ∷ [] else latest ∷ stint ∷ []) (lt-ltb _ _ lt)
with_stint-before stint latest (next ∷ later) lt = by (nat_lt stint.number next.number) (with_stint-before stint latest later lt)
  where
    by : (before : Bool) → with_stint stint (later ++ latest ∷ []) ≡ with_stint stint later ++ latest ∷ []
        → (if before then stint ∷ next ∷ (later ++ latest ∷ []) else next ∷ with_stint stint (later ++ latest ∷ []))
        ≡ (if before then stint ∷ next ∷ later else next ∷ with_stint stint later) ++ latest ∷ []
    by true rest = refl
    by false rest = ap (λ l. next ∷ l) rest

-- the latest stint of a task is its last, wherever it stands in the list
pub stints_of_task-latest : (before after : List Stint) (latest : Stint) → IsLatest (before ++ after) latest
    → stints_of_task latest.task (before ++ latest ∷ after) ≡ stints_of_task latest.task (before ++ after) ++ latest ∷ []
stints_of_task-latest [] after latest late =
    ap (λ (own : Bool). if own then with_stint latest (stints_of_task latest.task after) else stints_of_task latest.task after)
    (eq-eqb latest.task latest.task refl)
    ∙ with_stint-latest latest _ (All-stints_of_task (λ stint. stint.number < latest.number) latest.task after late)
stints_of_task-latest (stint ∷ before) after latest late =
    by (stint.task == latest.task) refl (All-head (λ stint. stint.task ≡ latest.task → stint.number < latest.number) stint (before ++ after)
    late)
    (stints_of_task-latest before after latest
    (All-tail (λ stint. stint.task ≡ latest.task → stint.number < latest.number) stint (before ++ after) late))
  where
    by : (own : Bool) → (stint.task == latest.task) ≡ own → (stint.task ≡ latest.task → stint.number < latest.number)
        → stints_of_task latest.task (before ++ latest ∷ after) ≡ stints_of_task latest.task (before ++ after) ++ latest ∷ []
        → (if own then with_stint stint (stints_of_task latest.task (before ++ latest ∷ after))
        else stints_of_task latest.task (before ++ latest ∷ after))
        ≡ (if own then with_stint stint (stints_of_task latest.task (before ++ after)) else stints_of_task latest.task (before ++ after))
        ++ latest ∷ []
    by true e first rest = ap (with_stint stint) rest ∙ with_stint-before stint latest _ (first (eqb-true _ _ e))
    by false e first rest = rest

-- a stint of another task is none of the task's
pub stints_of_task-other : (t : ℕ) (before after : List Stint) (stint : Stint) → stint.task ≢ t → stints_of_task t (before ++ stint ∷ after)
    ≡ stints_of_task t (before ++ after)
stints_of_task-other t [] after stint other =
    ap (λ (own : Bool). if own then with_stint stint (stints_of_task t after) else stints_of_task t after) (ne_eqb stint.task t other)
stints_of_task-other t (first ∷ before) after stint other =
    ap (λ l. if first.task == t then with_stint first l else l) (stints_of_task-other t before after stint other)

-- the latest stint of a task comes last into its context
pub carried_context-latest : (before after : List Stint) (latest : Stint) → IsLatest (before ++ after) latest
    → carried_context latest.task (before ++ latest ∷ after) ≡ context_after_stint (carried_context latest.task (before ++ after)) latest
carried_context-latest before after latest late =
    ap (fold context_after_stint (fresh_context latest.task)) (stints_of_task-latest before after latest late)
    ∙ fold-append context_after_stint (fresh_context latest.task) (stints_of_task latest.task (before ++ after)) (latest ∷ [])

-- a stint changes the context of no other task
pub carried_context-other : (t : ℕ) (before after : List Stint) (stint : Stint) → stint.task ≢ t
    → carried_context t (before ++ stint ∷ after) ≡ carried_context t (before ++ after)
carried_context-other t before after stint other =
    ap (fold context_after_stint (fresh_context t)) (stints_of_task-other t before after stint other)

AllPairs-first : {X : Type 0} (R : X → X → Type 0) (x : X) (xs : List X) → AllPairs R (x ∷ xs) → All (R x) xs
AllPairs-first R x xs all = λ k d lt. all 0 (suc k) d (omega arith) (omega arith)

AllPairs-later : {X : Type 0} (R : X → X → Type 0) (x : X) (xs : List X) → AllPairs R (x ∷ xs) → AllPairs R xs
AllPairs-later R x xs all = λ i j d lt within. all (suc i) (suc j) d (omega arith) (omega arith)

-- stints in ascending order stay so, with one more in its place
AllPairs-with_stint : (stint : Stint) (stints : List Stint) → AllPairs IsNoLater stints → AllPairs IsNoLater (with_stint stint stints)
AllPairs-with_stint stint [] ascend = AllPairs-cons IsNoLater stint [] (All-nil (IsNoLater stint)) ascend
AllPairs-with_stint stint (next ∷ later) ascend =
    by (nat_lt stint.number next.number) refl (AllPairs-first IsNoLater next later ascend)
    (AllPairs-with_stint stint later (AllPairs-later IsNoLater next later ascend))
  where
    by : (before : Bool) → nat_lt stint.number next.number ≡ before → All (IsNoLater next) later
        → AllPairs IsNoLater (with_stint stint later)
        → AllPairs IsNoLater (if before then stint ∷ next ∷ later else next ∷ with_stint stint later)
    by true e first rest =
        let lt : stint.number < next.number = ltb-true _ _ e in
        AllPairs-cons IsNoLater stint (next ∷ later)
        (All-cons (IsNoLater stint) next later (omega arith)
        (All-weaker (IsNoLater next) (IsNoLater stint) (λ s le. omega (arith, lt, le)) later first)) ascend
    by false e first rest =
        let le : next.number ≤ stint.number = ltb-false _ _ e in
        AllPairs-cons IsNoLater next (with_stint stint later)
        (All-permutation (IsNoLater next) _ _ (IsPermutation-with_stint stint later) (All-cons (IsNoLater next) stint later le first)) rest

-- the stints of a task ascend
pub AllPairs-stints_of_task : (t : ℕ) (stints : List Stint) → AllPairs IsNoLater (stints_of_task t stints)
AllPairs-stints_of_task t [] = λ i j d lt within. absurd (omega arith)
AllPairs-stints_of_task t (stint ∷ others) = by (stint.task == t) (AllPairs-stints_of_task t others)
  where
    by : (own : Bool) → AllPairs IsNoLater (stints_of_task t others)
        → AllPairs IsNoLater (if own then with_stint stint (stints_of_task t others) else stints_of_task t others)
    by true rest = AllPairs-with_stint stint (stints_of_task t others) rest
    by false rest = rest

-- a run more of the stint that is under way
pub context_after_runs-push : (c : Context) (p u : ℕ) (units : List ℕ) → context_after_runs c p (units ++ u ∷ [])
    ≡ context_after_run (context_after_runs c p units) p u
context_after_runs-push c p u units = fold-append (λ c u. context_after_run c p u) c units (u ∷ [])
