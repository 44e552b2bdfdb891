-- Every set of tasks has a best subset. The tasks are admitted by urgency, each where it can be placed together with
-- those that were admitted before it.
use Rattle.std.proofs.Common.{◌≡◌, ◌≢◌, ℕ, zero, suc, ◌<◌, Bool, true, false, ◌||◌, nat_eq, if◌then◌else◌, refl, sym, ap, ◌∙◌, subst, inl}
use Rattle.std.proofs.Common.{inr, IsTrue, arith, eq-eqb, ne_eqb, eqb-true}
use Rattle.std.proofs.lemmas.Bool.{cases_Bool, cases_eq, true≢false, or_cases, or_parts, or_left}
use Rattle.affinity_mask.specs.ProcSet.{has}
use Rattle.strong_apa.specs.State.{State, IsState, IsMoreUrgent, task_count, priority_of, effective_mask}
use Rattle.strong_apa.specs.Placement.{TaskTest, IsPlaceable, IsSubset, IsBest}
use Rattle.strong_apa.proofs.Ends.{has_decided}
use Rattle.strong_apa.proofs.Least.{Decided}
use Rattle.strong_apa.proofs.Masks.{effective_mask_below}
use Rattle.strong_apa.proofs.Best.{latest}
use Rattle.strong_apa.proofs.FirstFound.{exists_below, both_decided}
use Rattle.reach_certificate.specs.Best.{BestExists}

same_decided : (a b : Bool) → Decided (a ≡ b)
same_decided true true = inl refl
same_decided true false = inr true≢false
same_decided false true = inr (λ e. true≢false (sym e))
same_decided false false = inl refl

equal_decided : (m n : ℕ) → Decided (m ≡ n)
equal_decided m n = elim (cases_eq m n) [ inl e ↦ inl e | inr ne ↦ inr ne ]

-- ---- whether a set can be placed
-- a placement of the tasks of A below n on processors that are not taken
record IsPlacementBelow (s : State) (A : TaskTest) (n : ℕ) (taken : ℕ → Bool) (place : ℕ → ℕ) : Type 0 where
  allowed : (t : ℕ) → t < n → A t ≡ true → IsTrue (has (effective_mask s t) (place t))
  free : (t : ℕ) → t < n → A t ≡ true → taken (place t) ≡ false
  apart : (t u : ℕ) → t < n → u < n → A t ≡ true → A u ≡ true → place t ≡ place u → t ≡ u

module _ (s : State) (A : TaskTest) (n : ℕ) (taken : ℕ → Bool) where
  abbrev CanBePlaced : Type 0
  CanBePlaced = (place : ℕ → ℕ) × IsPlacementBelow s A n taken place

-- the processors that are taken once p is
abbrev taken_with : (ℕ → Bool) → ℕ → ℕ → Bool
taken_with taken p q = taken q || nat_eq q p

module _ (s : State) (A : TaskTest) (n : ℕ) (taken : ℕ → Bool) where
  -- task n on p, which is free, and those below it elsewhere
  abbrev CanBePlacedWith : ℕ → Type 0
  CanBePlacedWith p = IsTrue (has (effective_mask s n) p) × ((taken p ≡ false) × CanBePlaced s A n (taken_with taken p))

  -- where task n is not in A, nothing is asked of it
  placed_without : A n ≡ false → CanBePlaced s A n taken → CanBePlaced s A (suc n) taken
  placed_without out h = (
    h.0,
    record {
      allowed = λ t lt member. h.1.allowed t (below t lt member) member;
      free = λ t lt member. h.1.free t (below t lt member) member;
      apart = λ t u lt lu member member'. h.1.apart t u (below t lt member) (below u lu member') member member';
    },
  )
    where
      below : (t : ℕ) → t < suc n → A t ≡ true → t < n
      below t lt member = elim (cases_eq t n) [
        | inl e ↦ absurd (true≢false (sym member ∙ ap A e ∙ out))
        | inr ne ↦ omega arith
      ]

  placed_less : CanBePlaced s A (suc n) taken → CanBePlaced s A n taken
  placed_less h = (
    h.0,
    record {
      allowed = λ t lt. h.1.allowed t (omega arith);
      free = λ t lt. h.1.free t (omega arith);
      apart = λ t u lt lu. h.1.apart t u (omega arith) (omega arith);
    },
  )

  -- where it is, it has a processor of its own
  placed_apart : A n ≡ true → (h : CanBePlaced s A (suc n) taken) → CanBePlacedWith (h.0 n)
  placed_apart member h = (
    h.1.allowed n (omega arith) member,
    (
      h.1.free n (omega arith) member,
      (
        h.0,
        record {
          allowed = λ t lt. h.1.allowed t (omega arith);
          free = λ t lt member'. rw (
            h.1.free t (omega arith) member',
            ne_eqb (h.0 t) (h.0 n) (λ e. absurd (let same = h.1.apart t n (omega arith) (omega arith) member' member e in omega arith)),
          )
              refl;
          apart = λ t u lt lu. h.1.apart t u (omega arith) (omega arith);
        },
      ),
    ),
  )

  placed_with : (p : ℕ) → CanBePlacedWith p → CanBePlaced s A (suc n) taken
  placed_with p h = (place, record { allowed = allowed; free = free; apart = apart })
    where
      before : ℕ → ℕ
      before = h.1.1.0

      place : ℕ → ℕ
      place t = if nat_eq t n then p else before t

      here : (t : ℕ) → t ≡ n → place t ≡ p
      here t e = rw (eq-eqb t n e) refl

      there : (t : ℕ) → t ≢ n → place t ≡ before t
      there t ne = rw (ne_eqb t n ne) refl

      rest : IsPlacementBelow s A n (taken_with taken p) before
      rest = h.1.1.1

      allowed : (t : ℕ) → t < suc n → A t ≡ true → IsTrue (has (effective_mask s t) (place t))
      allowed t lt member = elim (cases_eq t n) [
        | inl e ↦ rw (here t e, e) h.0
        | inr ne ↦ rw (there t ne) (rest.allowed t (omega arith) member)
      ]

      free : (t : ℕ) → t < suc n → A t ≡ true → taken (place t) ≡ false
      free t lt member = elim (cases_eq t n) [
        | inl e ↦ rw (here t e) h.1.0
        | inr ne ↦ rw (there t ne) (or_parts (taken (before t)) _ (rest.free t (omega arith) member)).0
      ]

      -- a task below n is not on p
      elsewhere : (t : ℕ) → t < n → A t ≡ true → before t ≢ p
      elsewhere t lt member e = true≢false (sym (eq-eqb (before t) p e) ∙ (or_parts (taken (before t)) _ (rest.free t lt member)).1)

      apart : (t u : ℕ) → t < suc n → u < suc n → A t ≡ true → A u ≡ true → place t ≡ place u → t ≡ u
      apart t u lt lu member member' same = elim (cases_eq t n) [
        | inl e ↦ elim (cases_eq u n) [
          | inl e' ↦ e ∙ sym e'
          | inr ne ↦ absurd (elsewhere u (omega arith) member' (sym (there u ne) ∙ sym same ∙ here t e))
        ]
        | inr ne ↦ elim (cases_eq u n) [
          | inl e' ↦ absurd (elsewhere t (omega arith) member (sym (there t ne) ∙ same ∙ here u e'))
          | inr ne' ↦ rest.apart t u (omega arith) (omega arith) member member' (sym (there t ne) ∙ same ∙ there u ne')
        ]
      ]

module _ (s : State) (ok : IsState s) (A : TaskTest) where
  with_decided : (n : ℕ) (taken : ℕ → Bool) (p : ℕ) → Decided (CanBePlaced s A n (taken_with taken p))
      → Decided (CanBePlacedWith s A n taken p)
  with_decided n taken p rest =
      both_decided (IsTrue (has (effective_mask s n) p)) ((taken p ≡ false) × CanBePlaced s A n (taken_with taken p))
      (has_decided (effective_mask s n) p)
      (both_decided (taken p ≡ false) (CanBePlaced s A n (taken_with taken p)) (same_decided (taken p) false) rest)

  placed_decided : (n : ℕ) (taken : ℕ → Bool) → Decided (CanBePlaced s A n taken)
  placed_decided zero taken = inl (
    (λ t. 0),
    record { allowed = λ t lt. absurd (omega arith); free = λ t lt. absurd (omega arith); apart = λ t u lt. absurd (omega arith) },
  )
  placed_decided (suc n) taken = elim (cases_Bool (A n)) [
    | inl member ↦ elim (exists_below (CanBePlacedWith s A n taken) (λ p. with_decided n taken p (placed_decided n (taken_with taken p)))
        s.processors) [
          | inl found ↦ inl (placed_with s A n taken found.0 found.2)
          | inr none ↦ inr (λ h. none (
            h.0 n,
            effective_mask_below s ok n (h.0 n) (h.1.allowed n (omega arith) member),
            placed_apart s A n taken member h,
          ))
        ]
    | inr out ↦ elim (placed_decided n taken) [
      | inl h ↦ inl (placed_without s A n taken out h)
      | inr fails ↦ inr (λ h. fails (placed_less s A n taken h))
    ]
  ]

  placeable_decided : ((t : ℕ) → A t ≡ true → t < task_count s) → Decided (IsPlaceable s A)
  placeable_decided number = elim (placed_decided (task_count s) (λ p. false)) [
    | inl h ↦ inl (
      h.0,
      record {
        allowed = λ t member. h.1.allowed t (number t member) member;
        apart = λ t u member member'. h.1.apart t u (number t member) (number u member') member member';
      },
    )
    | inr fails ↦ inr (λ h. fails (
      h.0,
      record {
        allowed = λ t lt. h.1.allowed t;
        free = λ t lt member. refl;
        apart = λ t u lt lu. h.1.apart t u;
      },
    ))
  ]

IsPlaceable-subset : (s : State) (A B : TaskTest) → IsSubset A B → IsPlaceable s B → IsPlaceable s A
IsPlaceable-subset s A B within h = (
  h.0,
  record {
    allowed = λ t member. h.1.allowed t (within t member);
    apart = λ t u member member'. h.1.apart t u (within t member) (within u member');
  },
)

-- ---- the tasks are admitted by urgency
module _ (s : State) (ok : IsState s) (R : TaskTest) (number : (t : ℕ) → R t ≡ true → t < task_count s) where
  -- no placeable set has t and all the more urgent tasks of A
  abbrev IsRefused : TaskTest → ℕ → Type 0
  IsRefused A t = (B : TaskTest) → IsPlaceable s B → B t ≡ true → ((u : ℕ) → A u ≡ true → IsMoreUrgent s u t → B u ≡ true) → ⊥

  -- the tasks of R whose priority number is below the bound were admitted, or are refused
  record AreAdmitted (bound : ℕ) (A : TaskTest) : Type 0 where
    subset : IsSubset A R
    placeable : IsPlaceable s A
    urgent : (t : ℕ) → A t ≡ true → priority_of s t < bound
    refused : (t : ℕ) → R t ≡ true → priority_of s t < bound → A t ≡ false → IsRefused A t

  -- the task of this priority, if there is one
  abbrev HasPriority : ℕ → ℕ → Type 0
  HasPriority bound t = (R t ≡ true) × (priority_of s t ≡ bound)

  module _ (bound : ℕ) (A : TaskTest) (admitted : AreAdmitted bound A) where
    none_more : ((t : ℕ) × (t < task_count s) × HasPriority bound t → ⊥) → AreAdmitted (suc bound) A
    none_more none = record {
      subset = admitted.subset;
      placeable = admitted.placeable;
      urgent = λ t member. let lt = admitted.urgent t member in omega arith;
      refused = λ t inside lt. admitted.refused t inside (elim (cases_eq (priority_of s t) bound) [
        | inl e ↦ absurd (none (t, number t inside, (inside, e)))
        | inr ne ↦ omega arith
      ]);
    }

    module _ (t : ℕ) (inside : R t ≡ true) (at : priority_of s t ≡ bound) where
      abbrev with_t : TaskTest
      with_t u = A u || nat_eq u t

      with_subset : IsSubset with_t R
      with_subset u member = elim (or_cases (A u) _ member) [
        | inl before ↦ admitted.subset u before
        | inr it ↦ rw (eqb-true u t it) inside
      ]

      with_urgent : (u : ℕ) → with_t u ≡ true → priority_of s u < suc bound
      with_urgent u member = elim (or_cases (A u) _ member) [
        | inl before ↦ (let lt = admitted.urgent u before in omega arith)
        | inr it ↦ (let e = ap (priority_of s) (eqb-true u t it) in omega arith)
      ]

      -- another task is more urgent
      before_bound : (u : ℕ) → R u ≡ true → priority_of s u < suc bound → u ≢ t → priority_of s u < bound
      before_bound u inside' lt ne = elim (cases_eq (priority_of s u) bound) [
        | inl e ↦ absurd (ne (ok.distinct u t (number u inside') (number t inside) (e ∙ sym at)))
        | inr other ↦ omega arith
      ]

      one_more : IsPlaceable s with_t → AreAdmitted (suc bound) with_t
      one_more placeable = record {
        subset = with_subset;
        placeable = placeable;
        urgent = with_urgent;
        refused = λ u inside' lt out B placed has_u keeps.
            let parts = or_parts (A u) _ out in
            let ne : u ≢ t = λ e. true≢false (sym (eq-eqb u t e) ∙ parts.1) in
            admitted.refused u inside' (before_bound u inside' lt ne) parts.0 B placed has_u
            (λ v member more. keeps v (or_left (A v) _ member) more);
      }

      left_out : (IsPlaceable s with_t → ⊥) → AreAdmitted (suc bound) A
      left_out fails = record {
        subset = admitted.subset;
        placeable = admitted.placeable;
        urgent = λ u member. let lt = admitted.urgent u member in omega arith;
        refused = λ u inside' lt out. elim (cases_eq u t) [
          | inl e ↦ subst (IsRefused A) (sym e) refused
          | inr ne ↦ admitted.refused u inside' (before_bound u inside' lt ne) out
        ];
      }
        where
          refused : IsRefused A t
          refused B placed has_t keeps = fails (IsPlaceable-subset s with_t B (λ v member. elim (or_cases (A v) _ member) [
            | inl before ↦ keeps v before (let lt = admitted.urgent v before in omega arith)
            | inr it ↦ rw (eqb-true v t it) has_t
          ]) placed)

  admit_all : (bound : ℕ) → (A : TaskTest) × AreAdmitted bound A
  admit_all zero = (
    (λ t. false),
    record {
      subset = λ t member. absurd (true≢false (sym member));
      placeable = (
        (λ t. 0),
        record {
          allowed = λ t member. absurd (true≢false (sym member));
          apart = λ t u member. absurd (true≢false (sym member));
        },
      );
      urgent = λ t member. absurd (true≢false (sym member));
      refused = λ t inside lt. absurd (omega arith);
    },
  )
  admit_all (suc bound) = go (admit_all bound)
      (exists_below (HasPriority bound) (λ t. both_decided (R t ≡ true) (priority_of s t ≡ bound) (same_decided (R t) true)
      (equal_decided (priority_of s t) bound)) (task_count s))
    where
      go : (A : TaskTest) × AreAdmitted bound A → Decided ((t : ℕ) × (t < task_count s) × HasPriority bound t)
          → (A : TaskTest) × AreAdmitted (suc bound) A
      go (A, admitted) (inr none) = (A, none_more bound A admitted none)
      go (A, admitted) (inl (t, lt, (inside, at))) = elim (placeable_decided s ok (with_t bound A admitted t inside at)
          (λ u member. number u (with_subset bound A admitted t inside at u member))) [
            | inl placeable ↦ (with_t bound A admitted t inside at, one_more bound A admitted t inside at placeable)
            | inr fails ↦ (A, left_out bound A admitted t inside at fails)
          ]

  -- once all were, nobody better is left
  IsBest-admitted : (bound : ℕ) → ((t : ℕ) → t < task_count s → priority_of s t < bound) → (A : TaskTest) → AreAdmitted bound A
      → IsBest s R A
  IsBest-admitted bound late A admitted = record {
    subset = admitted.subset;
    placeable = admitted.placeable;
    none_better = λ B within placed better.
        let t = better.task in
        let inside = within t better.in_first in
        admitted.refused t inside (late t (number t inside)) better.not_in_second B placed better.in_first
        (λ u member more. elim (cases_Bool (B u)) [
          | inl there ↦ there
          | inr out ↦ absurd (let le = better.most_urgent u (λ e. true≢false (sym member ∙ sym e ∙ out)) in omega arith)
        ]);
  }

pub best_exists : BestExists
best_exists s R ok number =
    let last = latest s (task_count s) in
    let found = admit_all s ok R number (suc last.0) in
    (found.0, IsBest-admitted s ok R number (suc last.0) (λ t lt. let le = last.1 t lt in omega arith) found.0 found.1)
