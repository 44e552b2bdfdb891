-- Lists that are made processor by processor, and the stints of one task in them.
use Rattle.std.proofs.Common.{length, ◌≡◌, ◌≢◌, ℕ, zero, suc, ◌+◌, ◌<◌, ◌≤◌, Bool, true, false, ◌==◌, List, [], ◌∷◌, ◌++◌, filter, refl}
use Rattle.std.proofs.Common.{sym, ap, ◌∙◌, inl, inr, arith, append_assoc, if◌then◌else◌}
use Rattle.std.specs.Prelude.{All, fold}
use Rattle.std.specs.List.{range_with_len, flat_map}
use Rattle.std.proofs.lemmas.Bool.{cases_eq}
use Rattle.std.proofs.lemmas.List.Elements.{All-cons, All-weaker, filter-append}
use Rattle.std.proofs.lemmas.List.Sorted.{All-permutation, IsPermutation-middle, IsPermutation-sym}
use Rattle.std.proofs.lemmas.List.Sums.{fold-append}
use Rattle.std.proofs.lemmas.List.{length-append, map-append, map-id}
use Rattle.std.proofs.lemmas.List.FromFn.{map-range_with_len_more}
use Rattle.task_set.specs.Orders.{Stint}
use Rattle.task_set.specs.Context.{with_stint, stints_of_task, context_after_stint, carried_context, fresh_context}
use Rattle.task_set.proofs.Carried.{stints_of_task-latest}
use Rattle.history_laws.specs.StintLaw.{AreTakes}

-- ---- the numbers of a range that pass a test
pub filter_range-none : (test : ℕ → Bool) (a n : ℕ) → ((q : ℕ) → a ≤ q → test q ≡ false) → filter test (range_with_len a n) ≡ []
filter_range-none test a zero none = refl
filter_range-none test a (suc n) none = rw (none a (omega arith)) (filter_range-none test (a + 1) n (λ q le. none q (omega (arith, le))))

-- one number alone passes
pub filter_range-one : (test : ℕ → Bool) (p a n : ℕ) → a ≤ p → p < a + n → test p ≡ true → ((q : ℕ) → q ≢ p → test q ≡ false)
    → filter test (range_with_len a n) ≡ p ∷ []
filter_range-one test p a zero low high passes others = absurd (omega (arith, low, high))
filter_range-one test p a (suc n) low high passes others = elim (cases_eq a p) [
  | inl same ↦ rw (same, passes) (ap (λ (l : List ℕ). p ∷ l)
      (filter_range-none test (p + 1) n (λ q le. others q (λ e. absurd (omega (arith, le, e))))))
  | inr other ↦ rw (others a other) (filter_range-one test p (a + 1) n (omega (arith, low, other)) (omega (arith, high)) passes others)
]

-- ---- lists made number by number, one after another
pub flat_range-same : {X : Type 0} (f g : ℕ → List X) (a n : ℕ) → ((q : ℕ) → a ≤ q → g q ≡ f q) → flat_map g (range_with_len a n)
    ≡ flat_map f (range_with_len a n)
flat_range-same f g a zero same = refl
flat_range-same f g a (suc n) same = rw (same a (omega arith), flat_range-same f g (a + 1) n (λ q le. same q (omega (arith, le)))) refl

-- the list of one number is one element longer, and all others are as they were
pub flat_range-one : {X : Type 0} (f g : ℕ → List X) (x : X) (p a n : ℕ) → a ≤ p → p < a + n → ((q : ℕ) → q ≢ p → g q ≡ f q)
    → g p ≡ f p ++ x ∷ []
    → (before : List X) × (after : List X) × (flat_map f (range_with_len a n) ≡ before ++ after)
    × (flat_map g (range_with_len a n) ≡ before ++ x ∷ after)
flat_range-one f g x p a zero low high others here = absurd (omega (arith, low, high))
flat_range-one f g x p a (suc n) low high others here = elim (cases_eq a p) [
  | inl same ↦ (
    f a,
    flat_map f (range_with_len (a + 1) n),
    refl,
    rw (same, here, flat_range-same f g (p + 1) n (λ q le. others q (λ e. absurd (omega (arith, le, e))))) (append_assoc (f p) (x ∷ []) _),
  )
  | inr other ↦ (
      let later = flat_range-one f g x p (a + 1) n (omega (arith, low, other)) (omega (arith, high)) others here in (
        f a ++ later.0,
        later.1,
        rw later.2 (sym (append_assoc (f a) later.0 later.1)),
        rw (others a other, later.3) (sym (append_assoc (f a) later.0 (x ∷ later.1))),
      )
      )
]

-- ---- the stints of a task
abbrev pub own : ℕ → List Stint → List Stint
own t stints = filter (λ stint. stint.task == t) stints

own-flat_map : (t : ℕ) (f : ℕ → List Stint) (places : List ℕ) → own t (flat_map f places) ≡ flat_map (λ q. own t (f q)) places
own-flat_map t f [] = refl
own-flat_map t f (q ∷ places) = filter-append (λ (stint : Stint). stint.task == t) (f q) (flat_map f places)
    ∙ ap (λ (l : List Stint). own t (f q) ++ l) (own-flat_map t f places)

stints_of_task-own : (t : ℕ) (stints : List Stint) → stints_of_task t (own t stints) ≡ stints_of_task t stints
stints_of_task-own t [] = refl
stints_of_task-own t (stint ∷ others) = by (stint.task == t) refl (stints_of_task-own t others)
  where
    by : (b : Bool) → (stint.task == t) ≡ b → stints_of_task t (own t others) ≡ stints_of_task t others
        → stints_of_task t (if b then stint ∷ own t others else own t others)
        ≡ (if b then with_stint stint (stints_of_task t others) else stints_of_task t others)
    by true e rest = rw e (ap (with_stint stint) rest)
    by false e rest = rest

-- the stints of a task are its own ones, from whatever processor
pub stints_of_task-flat_map : (t : ℕ) (f : ℕ → List Stint) (places : List ℕ) → stints_of_task t (flat_map f places)
    ≡ stints_of_task t (flat_map (λ q. own t (f q)) places)
stints_of_task-flat_map t f places = sym (stints_of_task-own t (flat_map f places)) ∙ ap (stints_of_task t) (own-flat_map t f places)

-- ---- one stint more, later than all others, on some processor
pub stints_of_task-closed : (t n p : ℕ) (f g : ℕ → List Stint) (stint : Stint) → p < n → stint.task ≡ t
    → All (λ other. other.number < stint.number) (flat_map f (range_with_len 0 n)) → ((q : ℕ) → q ≢ p → g q ≡ f q)
    → g p ≡ f p ++ stint ∷ [] → stints_of_task t (flat_map g (range_with_len 0 n)) ≡ stints_of_task t (flat_map f (range_with_len 0 n))
    ++ stint ∷ []
stints_of_task-closed t n p f g stint fits task latest others here =
    let parts = flat_range-one f g stint p 0 n (omega arith) (omega (arith, fits)) others here in
    let late : All (λ other. other.task ≡ stint.task → other.number < stint.number) (parts.0 ++ parts.1) =
    All-weaker (λ (other : Stint). other.number < stint.number) (λ (other : Stint). other.task ≡ stint.task → other.number < stint.number)
    (λ other lt same. lt) (parts.0 ++ parts.1) (rw (← parts.2) latest) in
    rw (parts.3, parts.2, ← task) (stints_of_task-latest parts.0 parts.1 stint late)

pub carried_context-more : (t : ℕ) (before after : List Stint) (stint : Stint) → stints_of_task t after ≡ stints_of_task t before ++ stint
    ∷ [] → carried_context t after ≡ context_after_stint (carried_context t before) stint
carried_context-more t before after stint more =
    ap (fold context_after_stint (fresh_context t)) more ∙ fold-append context_after_stint (fresh_context t) (stints_of_task t before)
    (stint ∷ [])

pub All-closed : (n p : ℕ) (f g : ℕ → List Stint) (stint : Stint) (count : ℕ) → p < n → stint.number + 1 ≡ count
    → All (λ other. other.number < stint.number) (flat_map f (range_with_len 0 n)) → ((q : ℕ) → q ≢ p → g q ≡ f q)
    → g p ≡ f p ++ stint ∷ [] → All (λ other. other.number < count) (flat_map g (range_with_len 0 n))
All-closed n p f g stint count fits number latest others here =
    let parts = flat_range-one f g stint p 0 n (omega arith) (omega (arith, fits)) others here in
    let early = All-weaker (λ (other : Stint). other.number < stint.number) (λ (other : Stint). other.number < count)
    (λ other lt. omega (arith, lt, number)) (parts.0 ++ parts.1) (rw (← parts.2) latest) in
    rw parts.3
    (All-permutation (λ (other : Stint). other.number < count) (stint ∷ (parts.0 ++ parts.1)) (parts.0 ++ stint ∷ parts.1)
    (IsPermutation-sym _ _ (IsPermutation-middle parts.0 stint parts.1))
    (All-cons (λ (other : Stint). other.number < count) stint (parts.0 ++ parts.1) (omega (arith, number)) early))

-- ---- stints that are the takes on some processors
pub AreTakes-push : (stints : List Stint) (taken : List ℕ) (stint : Stint) (p : ℕ) → AreTakes stints taken → stint.number ≡ length taken
    → stint.processor ≡ p → AreTakes (stints ++ stint ∷ []) (taken ++ p ∷ [])
AreTakes-push stints taken stint p are number processor = record {
  numbers =
      map-append (λ (stint : Stint). stint.number) stints (stint ∷ [])
      ∙ rw (are.numbers, number, length-append taken (p ∷ [])) (sym (range_more (length taken)));
  processors = map-append (λ (stint : Stint). stint.processor) stints (stint ∷ []) ∙ rw (are.processors, processor) refl;
}
  where
    range_more : (n : ℕ) → range_with_len 0 (n + 1) ≡ range_with_len 0 n ++ n ∷ []
    range_more n = sym (map-id (range_with_len 0 (n + 1))) ∙ map-range_with_len_more (λ (k : ℕ). k) 0 n n (omega arith)
        ∙ ap (λ (l : List ℕ). l ++ n ∷ []) (map-id (range_with_len 0 n))

-- whatever the last one ran
pub AreTakes-run : (stints : List Stint) (taken : List ℕ) (stint : Stint) (units : List ℕ) → AreTakes (stints ++ stint ∷ []) taken
    → AreTakes (stints ++ record stint { units = units } ∷ []) taken
AreTakes-run stints taken stint units are = record {
  numbers = map-append (λ (stint : Stint). stint.number) stints _ ∙ sym (map-append (λ (stint : Stint). stint.number) stints (stint ∷ []))
      ∙ are.numbers;
  processors = map-append (λ (stint : Stint). stint.processor) stints _
      ∙ sym (map-append (λ (stint : Stint). stint.processor) stints (stint ∷ [])) ∙ are.processors;
}
