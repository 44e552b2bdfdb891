-- The last place of a task and its moves, as time passes.
use Rattle.std.proofs.Common.{◌≡◌, ℕ, zero, suc, ◌+◌, ◌<◌, ◌≤◌, ◌↔◌, true, false, List, [], ◌∷◌, length, get_or, set, subst, Option, Some}
use Rattle.std.proofs.Common.{None, IfSome, if◌then◌else◌, refl, sym, ap, ◌∙◌, inl, inr, arith, eq-eqb}
use Rattle.std.specs.Prelude.{IsNone, is_some}
use Rattle.std.specs.List.{list_any}
use Rattle.std.proofs.lemmas.Bool.{cases_Bool, cases_eq, true≢false, or_left}
use Rattle.std.proofs.lemmas.List.{get_or-set_same, get_or-set_other}
use Rattle.strong_apa.specs.State.{State, IsState, is_task, task_on, is_linked}
use Rattle.strong_apa.proofs.Linked.{is_task-same, is_task-true}
use Rattle.strong_apa.proofs.Counts.{count_below-agree, count_below-more, count_below-same, count_below-zero, count_below-bound}
use Rattle.job_release.specs.Moments.{Timeline}
use Rattle.job_release.specs.Moves.{place_from, place_of, later_place, last_place, is_other_place, is_move, moves_of}
use Rattle.job_release.specs.Driving.{JobRowRuns}
use Rattle.job_release.specs.declared.row.JobRow.{JobRow}

-- ---- where a task is
nowhere : (t k : ℕ) (on : List (Option ℕ)) → list_any (is_task t) on ≡ false → place_from t k on ≡ None
nowhere t k [] none = refl
nowhere t k (occupant ∷ rest) none = elim (cases_Bool (is_task t occupant)) [
  | inl here ↦ absurd (true≢false (sym (or_left (is_task t occupant) (list_any (is_task t) rest) here) ∙ none))
  | inr other ↦ (let later : list_any (is_task t) rest ≡ false = rw other at none in rw other (nowhere t (k + 1) rest later))
]

-- where it stands at a place, the first place is one at which it stands
somewhere : (t k p : ℕ) (on : List (Option ℕ)) → get_or on p None ≡ Some t → (q : ℕ) × (place_from t k on ≡ Some (k + q))
    × (get_or on q None ≡ Some t)
somewhere t k p [] there = cc
somewhere t k zero (occupant ∷ rest) there =
    let here : is_task t occupant ≡ true = ap (is_task t) there ∙ is_task-same t in
    let same : k ≡ k + 0 = omega arith in
    (zero, rw here (ap (λ (n : ℕ). Some n) same), there)
somewhere t k (suc p) (occupant ∷ rest) there = elim (cases_Bool (is_task t occupant)) [
  | inl here ↦ (let same : k ≡ k + 0 = omega arith in (zero, rw here (ap (λ (n : ℕ). Some n) same), is_task-true t occupant here))
  | inr other ↦ (
      let found = somewhere t (k + 1) p rest there in
      let same : k + 1 + found.0 ≡ k + suc found.0 = omega arith in
      (suc found.0, rw other (found.1 ∙ ap (λ (n : ℕ). Some n) same), found.2))
]

-- what a place says of a task is where it is
pub place_is : (s : State) (t : ℕ) (place : Option ℕ) → IsState s → IfSome place (λ p. task_on s p ≡ Some t)
    → IsNone place ↔ (is_linked s t ≡ false) → place ≡ place_of s t
place_is s t None ok there none = sym (nowhere t 0 s.on (none.0 refl))
place_is s t (Some p) ok there none =
    let found = somewhere t 0 p s.on there in
    let same : p ≡ 0 + found.0 = ok.once p found.0 t there found.2 ∙ omega arith in
    ap (λ (n : ℕ). Some n) same ∙ sym found.1

-- ---- places and moves of equal states
pub same_place : (one other : Timeline) (t x : ℕ) → ((y : ℕ) → y < x → one y ≡ other y) → last_place one t x ≡ last_place other t x
unfolding last_place
same_place one other t zero agree = refl
same_place one other t (suc x) agree = rw (same_place one other t x (λ y below. agree y (omega arith)), agree x (omega arith)) refl

pub same_moves : (one other : Timeline) (t x : ℕ) → ((y : ℕ) → y < x → one y ≡ other y) → moves_of one t x ≡ moves_of other t x
same_moves one other t x agree =
    count_below-agree (is_move one t) (is_move other t) x
    (λ y below. rw (same_place one other t y (λ z lower. agree z (omega arith)), agree y below) refl)

-- ---- before the first moment
pub no_place : (states : Timeline) (t : ℕ) → last_place states t 0 ≡ None
unfolding last_place
no_place states t = refl

pub no_moves : (states : Timeline) (t : ℕ) → moves_of states t 0 ≡ 0
no_moves states t = count_below-zero (is_move states t)

pub moves_within : (states : Timeline) (t x : ℕ) → moves_of states t x ≤ x
moves_within states t x = count_below-bound (is_move states t) x

-- ---- while a state stays
next_place : (states : Timeline) (t x : ℕ) (place : Option ℕ) → place_of (states x) t ≡ place
    → last_place states t (suc x) ≡ later_place (last_place states t x) place
unfolding last_place
next_place states t x place is = rw is refl

later_twice : (earlier place : Option ℕ) → later_place (later_place earlier place) place ≡ later_place earlier place
later_twice earlier None = refl
later_twice earlier (Some p) = refl

no_move_twice : (earlier place : Option ℕ) → is_other_place (later_place earlier place) place ≡ false
no_move_twice None None = refl
no_move_twice (Some p) None = refl
no_move_twice earlier (Some p) = rw (eq-eqb p p refl) refl

module _ (states : Timeline) (t m : ℕ) (links : State) where
  pub place_while : (d : ℕ) → ((y : ℕ) → m ≤ y → y < m + suc d → states y ≡ links) → last_place states t (m + suc d)
      ≡ later_place (last_place states t m) (place_of links t)
  place_while zero still =
      let next : m + 1 ≡ suc m = omega arith in
      let here : place_of (states m) t ≡ place_of links t = ap (λ (s : State). place_of s t) (still m (omega arith) (omega arith)) in
      ap (last_place states t) next ∙ next_place states t m (place_of links t) here
  place_while (suc d) still =
      let next : m + suc (suc d) ≡ suc (m + suc d) = omega arith in
      let here : place_of (states (m + suc d)) t ≡ place_of links t = ap (λ (s : State). place_of s t)
      (still (m + suc d) (omega arith) (omega arith)) in
      let before = place_while d (λ y from below. still y from (omega arith)) in
      ap (last_place states t) next ∙ next_place states t (m + suc d) (place_of links t) here
      ∙ ap (λ (earlier : Option ℕ). later_place earlier (place_of links t)) before ∙ later_twice (last_place states t m) (place_of links t)

  -- a move at the first moment, and none after it
  pub moves_while : (d : ℕ) → ((y : ℕ) → m ≤ y → y < m + suc d → states y ≡ links)
      → moves_of states t (m + suc d) ≡ moves_of states t m + (if is_other_place (last_place states t m) (place_of links t) then 1 else 0)
  moves_while zero still =
      let next : m + 1 ≡ suc m = omega arith in
      let here : is_move states t m ≡ is_other_place (last_place states t m) (place_of links t) =
      ap (λ (s : State). is_other_place (last_place states t m) (place_of s t)) (still m (omega arith) (omega arith)) in
      elim (cases_Bool (is_other_place (last_place states t m) (place_of links t))) [
        | inl moves ↦ rw moves (ap (moves_of states t) next ∙ count_below-more (is_move states t) m (here ∙ moves) ∙ omega arith)
        | inr stays ↦ rw stays (ap (moves_of states t) next ∙ count_below-same (is_move states t) m (here ∙ stays) ∙ omega arith)
      ]
  moves_while (suc d) still =
      let next : m + suc (suc d) ≡ suc (m + suc d) = omega arith in
      let before = moves_while d (λ y from below. still y from (omega arith)) in
      let place = place_while d (λ y from below. still y from (omega arith)) in
      let here : is_move states t (m + suc d) ≡ false =
      ap (λ (s : State). is_other_place (last_place states t (m + suc d)) (place_of s t)) (still (m + suc d) (omega arith) (omega arith))
      ∙ ap (λ (earlier : Option ℕ). is_other_place earlier (place_of links t)) place
      ∙ no_move_twice (last_place states t m) (place_of links t) in
      ap (moves_of states t) next ∙ count_below-same (is_move states t) (m + suc d) here ∙ before

-- ---- rows run
-- a place is there where the task is linked
pub place_there : (s : State) (t : ℕ) (place : Option ℕ) → IsNone place ↔ (is_linked s t ≡ false) → is_some place ≡ is_linked s t
place_there s t None none = sym (none.0 refl)
place_there s t (Some p) none = elim (cases_Bool (is_linked s t)) [
  | inl linked ↦ sym linked
  | inr not_linked ↦ absurd (true≢false (none.1 not_linked))
]

-- a task that is linked nowhere does not move
pub stays_nowhere : (earlier : Option ℕ) → is_other_place earlier None ≡ false
stays_nowhere None = refl
stays_nowhere (Some p) = refl

pub not_run : (units : ℕ) (row : JobRow) → JobRowRuns false None units row row
not_run units row = record {
  jobs = refl;
  released = refl;
  asked = refl;
  finishes = refl;
  service = omega arith;
  place = refl;
  moves = rw (stays_nowhere row.place) (omega arith);
}

abbrev pub RunsIn : State → ℕ → List JobRow → List JobRow → ℕ → JobRow → Type 0
RunsIn links units old new k d = JobRowRuns (is_linked links k) (place_of links k) units (get_or old k d) (get_or new k d)

-- one row more has run
pub run_more : (links : State) (units : ℕ) (old rows : List JobRow) (t : ℕ) (read new : JobRow) (place : Option ℕ)
    → place ≡ place_of links t → is_some place ≡ is_linked links t
    → t < length rows → ((d : JobRow) → get_or rows t d ≡ read) → JobRowRuns (is_some place) place units read new
    → ((k : ℕ) (d : JobRow) → k < t → RunsIn links units old rows k d) → ((k : ℕ) (d : JobRow) → t ≤ k → get_or rows k d ≡ get_or old k d)
    → (k : ℕ) (d : JobRow) → k < t + 1 → RunsIn links units old (set rows t new) k d
run_more links units old rows t read new place is there within at ran moved left k d below = elim (cases_eq k t) [
  | inl same ↦ (
      let own : JobRowRuns (is_linked links t) (place_of links t) units read new = rw (there, is) at ran in
      let P : JobRow → Type 0 = λ r. JobRowRuns (is_linked links t) (place_of links t) units r new in
      let Q : JobRow → Type 0 = λ r. JobRowRuns (is_linked links t) (place_of links t) units (get_or old t d) r in
      let R : ℕ → Type 0 = λ n. RunsIn links units old (set rows t new) n d in
      subst R (sym same) (subst Q (sym (get_or-set_same rows t new d within)) (subst P (sym (at d) ∙ left t d (omega arith)) own)))
  | inr other ↦ (
      let Q : JobRow → Type 0 = λ r. JobRowRuns (is_linked links k) (place_of links k) units (get_or old k d) r in
      subst Q (sym (get_or-set_other rows t k new d other)) (moved k d (omega arith)))
]
