-- The most urgent absent task of a list, as far as the list was read.
use Rattle.std.proofs.Common.{◌≡◌, ℕ, ◌+◌, ◌<◌, ◌≤◌, true, false, List, length, get_or, nat_eq, Option, Some, None, refl, sym, ◌∙◌, inl}
use Rattle.std.proofs.Common.{inr, ◌⊎◌, arith, eq-eqb, eqb-true, below_more}
use Rattle.std.specs.Prelude.{IfSome, MatchOption}
use Rattle.std.proofs.lemmas.Bool.{true≢false}
use Rattle.std.proofs.lemmas.List.{get_or_default}
use Rattle.std.proofs.lemmas.List.Folds.{list_any_at, Any-from_list_any}
use Rattle.std.proofs.lemmas.Option.{same_Some}
use Rattle.strong_apa.specs.State.{State, task_count, priority_of, is_ready}
use Rattle.strong_apa.specs.Placement.{IsSubset}
use Rattle.reach_certificate.specs.Admission.{is_among, IsMostUrgentAbsent}

-- a task of the list stands at some place of it
pub among_place : (tasks : List ℕ) (t : ℕ) → is_among tasks t ≡ true → (k : ℕ) × (k < length tasks) × (get_or tasks k 0 ≡ t)
among_place tasks t among = let any = Any-from_list_any (λ u. nat_eq u t) tasks among in
    (any.0, any.2, get_or_default tasks any.0 0 any.1 any.2 ∙ any.3 ∙ eqb-true any.1 t any.4)

pub among-at : (tasks : List ℕ) (k : ℕ) → k < length tasks → is_among tasks (get_or tasks k 0) ≡ true
among-at tasks k fits = list_any_at (λ u. nat_eq u (get_or tasks k 0)) tasks k 0 fits (eq-eqb (get_or tasks k 0) (get_or tasks k 0) refl)

-- of the first n tasks of the list, t is the most urgent absent one
pub record IsFirstOf (s : State) (tasks : List ℕ) (n t : ℕ) : Type 0 where
  pub number : t < task_count s
  pub among : is_among tasks t ≡ true
  pub absent : is_ready s t ≡ false
  pub most_urgent : (k : ℕ) → k < n → is_ready s (get_or tasks k 0) ≡ false → priority_of s t ≤ priority_of s (get_or tasks k 0)

-- one more task of the list, which is ready or no more urgent
IsFirstOf-longer : (s : State) (tasks : List ℕ) (n t : ℕ)
    → (is_ready s (get_or tasks n 0) ≡ false → priority_of s t ≤ priority_of s (get_or tasks n 0)) → IsFirstOf s tasks n t
    → IsFirstOf s tasks (n + 1) t
IsFirstOf-longer s tasks n t later h = record {
  number = h.number;
  among = h.among;
  absent = h.absent;
  most_urgent = below_more _ _ h.most_urgent later;
}

-- what was found among the first n tasks of the list
abbrev pub IsFoundOf : State → List ℕ → ℕ → Option ℕ → Type 0
IsFoundOf s tasks n None = (k : ℕ) → k < n → is_ready s (get_or tasks k 0) ≡ true
IsFoundOf s tasks n (Some t) = IsFirstOf s tasks n t

-- one more task of the list, which is ready
pub IsFoundOf-passed : (s : State) (tasks : List ℕ) (n : ℕ) (found : Option ℕ) → is_ready s (get_or tasks n 0) ≡ true
    → IsFoundOf s tasks n found → IsFoundOf s tasks (n + 1) found
IsFoundOf-passed s tasks n None ready h = below_more _ _ h ready
IsFoundOf-passed s tasks n (Some t) ready h = IsFirstOf-longer s tasks n t (λ absent. absurd (true≢false (sym ready ∙ absent))) h

-- one more task of the list, which is absent
pub IsFoundOf-more : (s : State) (tasks : List ℕ) (n : ℕ) (found : Option ℕ) (r : ℕ) → n < length tasks → get_or tasks n 0 < task_count s
    → is_ready s (get_or tasks n 0) ≡ false
    → (r ≡ get_or tasks n 0) ⊎ (found ≡ Some r) → priority_of s r ≤ priority_of s (get_or tasks n 0)
    → IfSome found (λ u. priority_of s r ≤ priority_of s u)
    → IsFoundOf s tasks n found → IsFoundOf s tasks (n + 1) (Some r)
IsFoundOf-more s tasks n None r fits number absent (inl it) first first_of_found h = record {
  number = rw it number;
  among = rw it (among-at tasks n fits);
  absent = rw it absent;
  most_urgent = below_more _ _ (λ k lt absent'. absurd (true≢false (sym (h k lt) ∙ absent'))) (λ _. first);
}
IsFoundOf-more s tasks n None r fits number absent (inr found) first first_of_found h = cc
IsFoundOf-more s tasks n (Some u) r fits number absent (inl it) first first_of_found h = record {
  number = rw it number;
  among = rw it (among-at tasks n fits);
  absent = rw it absent;
  most_urgent = below_more _ _ (λ k lt absent'. (let le = h.most_urgent k lt absent' in omega arith)) (λ _. first);
}
IsFoundOf-more s tasks n (Some u) r fits number absent (inr found) first first_of_found h =
    rw (← same_Some u r found) (IsFirstOf-longer s tasks n u (λ _. rw (same_Some u r found) first) h)

-- the whole list was read
pub found_in : (s : State) (tasks : List ℕ) (n : ℕ) (found : Option ℕ) → length tasks ≤ n → IsFoundOf s tasks n found
    → MatchOption found (IsSubset (is_among tasks) (is_ready s)) (IsMostUrgentAbsent s tasks)
found_in s tasks n None all h = λ t among. let place = among_place tasks t among in
    rw (← place.2) (h place.0 (let fits = place.1 in omega arith))
found_in s tasks n (Some t) all h = record {
  among = h.among;
  absent = h.absent;
  most_urgent = λ u among absent. let place = among_place tasks u among in
      rw (← place.2) (h.most_urgent place.0 (let fits = place.1 in omega arith) (rw (place.2) absent));
}
