-- What stays when the priorities of tasks change, and that they still differ.
use Rattle.std.proofs.Common.{◌≡◌, ◌≢◌, ℕ, ◌<◌, List, length, get_or, set, sym, ap, ◌∙◌, ◌⊎◌, inl, inr, arith, length-set, get_or-set_same}
use Rattle.std.proofs.Common.{get_or-set_other}
use Rattle.std.proofs.lemmas.Bool.{cases_eq}
use Rattle.strong_apa.specs.State.{State, IsState, task_count, priority_of}
use Rattle.link_table.specs.LinksView.{AreAwaited}
use Rattle.link_table.specs.Priorities.{IsFreeFor, state_with_priority, state_with_exchange}

-- ---- other priorities of as many tasks
module _ (s : State) (ps : List ℕ) (count : length ps ≡ task_count s) where
  pub IsState-priorities : IsState s → ((x y : ℕ) → x < task_count s → y < task_count s → get_or ps x 0 ≡ get_or ps y 0 → x ≡ y)
      → IsState (record s { priorities = ps })
  IsState-priorities ok distinct = record {
    processors = ok.processors;
    count = omega (arith, ok.count, count);
    masks_count = ok.masks_count ∙ sym count;
    ready_count = ok.ready_count ∙ sym count;
    on_count = ok.on_count;
    online = ok.online;
    masks = λ x known. ok.masks x (omega (arith, known, count));
    distinct = λ x y known_x known_y. distinct x y (omega (arith, known_x, count)) (omega (arith, known_y, count));
    allowed = ok.allowed;
    once = ok.once;
    linked_ready = ok.linked_ready;
  }

  -- nobody waits for other processors
  pub AreAwaited-priorities : (masks : List ℕ) → AreAwaited s masks → AreAwaited (record s { priorities = ps }) masks
  AreAwaited-priorities masks are = record {
    count = are.count ∙ sym count;
    each = λ x known. are.each x (omega (arith, known, count));
  }

module _ (s : State) (t : ℕ) (number : t < task_count s) where
  -- ---- t has another priority, which was free
  module _ (priority : ℕ) (free : IsFreeFor s t priority) where
    abbrev pub given : List ℕ
    given = set s.priorities t priority

    at_t : get_or given t 0 ≡ priority
    at_t = get_or-set_same s.priorities t priority 0 number

    at_other : (x : ℕ) → x ≢ t → get_or given x 0 ≡ priority_of s x
    at_other x other = get_or-set_other s.priorities t x priority 0 other

    pub distinct-priority : IsState s → (x y : ℕ) → x < task_count s → y < task_count s → get_or given x 0 ≡ get_or given y 0 → x ≡ y
    distinct-priority ok x y known_x known_y e = elim (cases_eq x t) [
      | inl x_t ↦ elim (cases_eq y t) [
        | inl y_t ↦ x_t ∙ sym y_t
        | inr y_not ↦ x_t ∙ sym (free y known_y (sym (at_other y y_not) ∙ sym e ∙ ap (λ n. get_or given n 0) x_t ∙ at_t))
      ]
      | inr x_not ↦ elim (cases_eq y t) [
        | inl y_t ↦ free x known_x (sym (at_other x x_not) ∙ e ∙ ap (λ n. get_or given n 0) y_t ∙ at_t) ∙ sym y_t
        | inr y_not ↦ ok.distinct x y known_x known_y (sym (at_other x x_not) ∙ e ∙ at_other y y_not)
      ]
    ]

    pub IsState-state_with_priority : IsState s → IsState (state_with_priority s t priority)
    IsState-state_with_priority ok = IsState-priorities s given (length-set s.priorities t priority) ok (distinct-priority ok)

  -- ---- t and u exchange theirs
  module _ (u : ℕ) (number_u : u < task_count s) where
    abbrev pub first : List ℕ
    first = set s.priorities t (priority_of s u)

    abbrev pub after : List ℕ
    after = set first u (priority_of s t)

    pub after_count : length after ≡ task_count s
    after_count = length-set first u (priority_of s t) ∙ length-set s.priorities t (priority_of s u)

    -- whose priority each task has then
    abbrev pub origin : ℕ → ℕ → Type 0
    origin x y = (y < task_count s) × (get_or after x 0 ≡ priority_of s y)

    from_u : origin u t
    from_u = (number, get_or-set_same first u (priority_of s t) 0 (omega (arith, number_u, length-set s.priorities t (priority_of s u))))

    from_t : t ≢ u → origin t u
    from_t apart =
        (number_u, get_or-set_other first u t (priority_of s t) 0 apart ∙ get_or-set_same s.priorities t (priority_of s u) 0 number)

    from_other : (x : ℕ) → x < task_count s → x ≢ u → x ≢ t → origin x x
    from_other x known not_u not_t =
        (known, get_or-set_other first u x (priority_of s t) 0 not_u ∙ get_or-set_other s.priorities t x (priority_of s u) 0 not_t)

    same_origin : IsState s → (x y a b : ℕ) → get_or after x 0 ≡ get_or after y 0 → origin x a → origin y b → a ≡ b
    same_origin ok x y a b e from_a from_b = ok.distinct a b from_a.0 from_b.0 (sym from_a.1 ∙ e ∙ from_b.1)

    distinct-exchange : IsState s → (x y : ℕ) → x < task_count s → y < task_count s → get_or after x 0 ≡ get_or after y 0 → x ≡ y
    distinct-exchange ok x y known_x known_y e = go (cases_eq x u) (cases_eq x t) (cases_eq y u) (cases_eq y t)
      where
        same : (a b : ℕ) → origin x a → origin y b → a ≡ b
        same a b = same_origin ok x y a b e

        along : (z w a : ℕ) → z ≡ w → origin w a → origin z a
        along z w a is from = rw is from

        go : (x ≡ u) ⊎ (x ≢ u) → (x ≡ t) ⊎ (x ≢ t) → (y ≡ u) ⊎ (y ≢ u) → (y ≡ t) ⊎ (y ≢ t) → x ≡ y
        go (inl x_u) _ (inl y_u) _ = x_u ∙ sym y_u
        go (inl x_u) _ (inr y_not_u) (inl y_t) = let apart : t ≢ u = λ f. y_not_u (y_t ∙ f) in x_u
            ∙ sym (same t u (along x u t x_u from_u) (along y t u y_t (from_t apart))) ∙ sym y_t
        go (inl x_u) _ (inr y_not_u) (inr y_not_t) =
            absurd (y_not_t (sym (same t y (along x u t x_u from_u) (from_other y known_y y_not_u y_not_t))))
        go (inr x_not_u) (inl x_t) (inl y_u) _ = let apart : t ≢ u = λ f. x_not_u (x_t ∙ f) in x_t
            ∙ sym (same u t (along x t u x_t (from_t apart)) (along y u t y_u from_u)) ∙ sym y_u
        go (inr x_not_u) (inl x_t) (inr y_not_u) (inl y_t) = x_t ∙ sym y_t
        go (inr x_not_u) (inl x_t) (inr y_not_u) (inr y_not_t) = let apart : t ≢ u = λ f. x_not_u (x_t ∙ f) in
            absurd (y_not_u (sym (same u y (along x t u x_t (from_t apart)) (from_other y known_y y_not_u y_not_t))))
        go (inr x_not_u) (inr x_not_t) (inl y_u) _ =
            absurd (x_not_t (same x t (from_other x known_x x_not_u x_not_t) (along y u t y_u from_u)))
        go (inr x_not_u) (inr x_not_t) (inr y_not_u) (inl y_t) = let apart : t ≢ u = λ f. y_not_u (y_t ∙ f) in
            absurd (x_not_u (same x u (from_other x known_x x_not_u x_not_t) (along y t u y_t (from_t apart))))
        go (inr x_not_u) (inr x_not_t) (inr y_not_u) (inr y_not_t) =
            same x y (from_other x known_x x_not_u x_not_t) (from_other y known_y y_not_u y_not_t)

    pub IsState-state_with_exchange : IsState s → IsState (state_with_exchange s t u)
    IsState-state_with_exchange ok = IsState-priorities s after after_count ok (distinct-exchange ok)
