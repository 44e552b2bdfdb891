-- Each part of a reply is right, or has a first place or a task that is wrong.
use Rattle.std.proofs.Common.{◌≡◌, ◌≢◌, ℕ, zero, suc, ◌+◌, ◌<◌, ◌≤◌, Bool, true, false, List, length, get_or, Option, Some, None, refl, sym}
use Rattle.std.proofs.Common.{ap, subst, inl, inr, ◌⊎◌, IsTrue, arith}
use Rattle.std.proofs.lemmas.Bool.{cases_eq, cases_lt, true≢false}
use Rattle.std.proofs.lemmas.Option.{same_Some}
use Rattle.affinity_mask.specs.ProcSet.{has, Within}
use Rattle.strong_apa.specs.State.{State, IsState, task_on, task_count, effective_mask, priority_of}
use Rattle.strong_apa.specs.Chain.{CanShift, CanEnterAt}
use Rattle.strong_apa.specs.Step.{CanEnterInto, IsNobodyInto, IsMostUrgentInto}
use Rattle.strong_apa.proofs.Ends.{has_decided, CanShift_decided}
use Rattle.strong_apa.proofs.Least.{Decided}
use Rattle.strong_apa.proofs.Masks.{effective_mask_below}
use Rattle.reach_certificate.specs.Defect.{AllFit, IsFirstMisfit, FitsAt, MovesBack, ReachFits, BackFits, EntersRightly, EntersWrongly}
use Rattle.reach_certificate.specs.Defect.{last_processor}
use Rattle.link_table.proofs.Leaders.{IsFoundInto, IsFound-nothing, IsComing, IsNotLessUrgent, into_more, into_passed, into_whole}
use Rattle.strong_apa.proofs.Fullness.{waiting_decided}
use Rattle.strong_apa.proofs.FirstFound.{nobody_decided}

-- ---- what can be decided
and_decided : {A B : Type 0} → Decided A → Decided B → Decided (A × B)
and_decided (inl a) (inl b) = inl (a, b)
and_decided (inl a) (inr fails) = inr (λ h. fails h.1)
and_decided (inr fails) b = inr (λ h. fails h.0)

if_decided : {A B : Type 0} → Decided A → Decided B → Decided (A → B)
if_decided (inr never) b = inl (λ a. absurd (never a))
if_decided (inl a) (inl b) = inl (λ h. b)
if_decided (inl a) (inr fails) = inr (λ h. fails (h a))

less_decided : (a b : ℕ) → Decided (a < b)
less_decided a b = elim (cases_lt a b) [ inl lt ↦ inl lt | inr ge ↦ inr (λ lt. omega arith) ]

at_most_decided : (a b : ℕ) → Decided (a ≤ b)
at_most_decided a b = elim (cases_lt b a) [ inl lt ↦ inr (λ le. omega arith) | inr ge ↦ inl ge ]

-- the first number below n without the property, or all have it
first_without : (P : ℕ → Type 0) → ((k : ℕ) → Decided (P k)) → (n : ℕ)
    → ((k : ℕ) → k < n → P k) ⊎ ((i : ℕ) × (i < n) × (P i → ⊥) × ((k : ℕ) → k < i → P k))
first_without P decided zero = inl (λ k lt. absurd (omega arith))
first_without P decided (suc n) = elim (first_without P decided n) [
  | inr first ↦ inr (first.0, (let lt = first.1 in omega arith), first.2, first.3)
  | inl all ↦ elim (decided n) [
    | inl here ↦ inl (λ k lt. elim (cases_eq k n) [
      | inl same ↦ subst P (sym same) here
      | inr other ↦ all k (omega arith)
    ])
    | inr fails ↦ inr (n, omega arith, fails, all)
  ]
]

below_decided : (P : ℕ → Type 0) → ((k : ℕ) → Decided (P k)) → (n : ℕ) → Decided ((k : ℕ) → k < n → P k)
below_decided P decided n = elim (first_without P decided n) [
  | inl all ↦ inl all
  | inr first ↦ inr (λ all. first.2 (all first.0 first.1))
]

pub fit_or_misfit : (Fits : ℕ → Type 0) → ((i : ℕ) → Decided (Fits i)) → (count : ℕ)
    → AllFit Fits count ⊎ ((i : ℕ) × IsFirstMisfit Fits count i)
fit_or_misfit Fits decided zero = elim (decided 0) [
  | inl here ↦ inl (λ i looked_at. elim looked_at [
    | inl first ↦ subst Fits (sym first) here
    | inr there ↦ absurd (omega arith)
  ])
  | inr fails ↦ inr (0, record { looked_at = inl refl; misfit = fails; before = λ k lt. absurd (omega arith) })
]
fit_or_misfit Fits decided (suc n) = elim (first_without Fits decided (suc n)) [
  | inl all ↦ inl (λ i looked_at. elim looked_at [
    | inl first ↦ all i (omega arith)
    | inr there ↦ all i there
  ])
  | inr first ↦ inr (first.0, record { looked_at = inr first.1; misfit = first.2; before = first.3 })
]

-- ---- occupants
somebody_decided : (o : Option ℕ) → Decided ((u : ℕ) × (o ≡ Some u))
somebody_decided None = inr (λ h. let e = h.1 in cc)
somebody_decided (Some u) = inl (u, refl)

same_decided : (o : Option ℕ) (d : ℕ) → Decided (o ≡ Some d)
same_decided None d = inr (λ e. cc)
same_decided (Some u) d = elim (cases_eq u d) [
  | inl same ↦ inl (ap (λ (n : ℕ). Some n) same)
  | inr other ↦ inr (λ e. other (same_Some u d e))
]

holder_decided : (o : Option ℕ) (P Q : ℕ → Type 0) → ((u : ℕ) → Decided (P u)) → ((u : ℕ) → Decided (Q u))
    → Decided ((u : ℕ) × (o ≡ Some u) × P u × Q u)
holder_decided None P Q first second = inr (λ h. let e = h.1 in cc)
holder_decided (Some u) P Q first second = elim (first u) [
  | inr fails ↦ inr (λ h. fails (subst P (sym (same_Some u h.0 h.1)) h.2))
  | inl one ↦ elim (second u) [
    | inl other ↦ inl (u, refl, one, other)
    | inr fails ↦ inr (λ h. fails (subst Q (sym (same_Some u h.0 h.1)) h.3))
  ]
]

-- ---- chains
module _ (s : State) (Begins : ℕ → Type 0) (Follows : ℕ → ℕ → Type 0) (Ends : ℕ → Type 0) (begins_decided : (q : ℕ) → Decided (Begins q))
    (follows_decided : (p q : ℕ) → Decided (Follows p q)) (ends_decided : (q : ℕ) → Decided (Ends q)) (chain : List ℕ) where
  next_decided : (i : ℕ) → Decided ((k : ℕ) → i ≡ k + 1 → Follows (get_or chain k 0) (get_or chain i 0))
  next_decided zero = inl (λ k e. absurd (omega arith))
  next_decided (suc j) = elim (follows_decided (get_or chain j 0) (get_or chain (suc j) 0)) [
    | inl yes_it ↦ inl (λ k e. let same : j ≡ k = omega arith in subst (λ (n : ℕ). Follows (get_or chain n 0) (get_or chain (suc j) 0))
        same yes_it)
    | inr fails ↦ inr (λ all. fails (all j (omega arith)))
  ]

  differs_decided : (a b : ℕ) → Decided (a ≢ b)
  differs_decided a b = elim (cases_eq a b) [ inl same ↦ inr (λ differs. differs same) | inr other ↦ inl other ]

  pub place_decided : (i : ℕ) → Decided (FitsAt s Begins Follows Ends chain i)
  place_decided i =
      go (less_decided i (length chain)) (less_decided (get_or chain i 0) s.processors)
      (below_decided (λ k. get_or chain k 0 ≢ get_or chain i 0) (λ k. differs_decided (get_or chain k 0) (get_or chain i 0)) i)
      (if_decided (cases_eq i 0) (begins_decided (get_or chain i 0))) (next_decided i)
      (if_decided (cases_eq (i + 1) (length chain)) (ends_decided (get_or chain i 0)))
    where
      go : Decided (i < length chain) → Decided (get_or chain i 0 < s.processors)
          → Decided ((k : ℕ) → k < i → get_or chain k 0 ≢ get_or chain i 0) → Decided (i ≡ 0 → Begins (get_or chain i 0))
          → Decided ((k : ℕ) → i ≡ k + 1 → Follows (get_or chain k 0) (get_or chain i 0))
          → Decided (i + 1 ≡ length chain → Ends (get_or chain i 0)) → Decided (FitsAt s Begins Follows Ends chain i)
      go (inl there) (inl below) (inl once) (inl first) (inl next) (inl last) =
          inl record { there = there; below = below; once = once; first = first; next = next; last = last }
      go (inr fails) below once first next last = inr (λ fits. fails fits.there)
      go (inl there) (inr fails) once first next last = inr (λ fits. fails fits.below)
      go (inl there) (inl below) (inr fails) first next last = inr (λ fits. fails fits.once)
      go (inl there) (inl below) (inl once) (inr fails) next last = inr (λ fits. fails fits.first)
      go (inl there) (inl below) (inl once) (inl first) (inr fails) last = inr (λ fits. fails fits.next)
      go (inl there) (inl below) (inl once) (inl first) (inl next) (inr fails) = inr (λ fits. fails fits.last)

pub moves_back_decided : (s : State) (entered : Option ℕ) (p q : ℕ) → Decided (MovesBack s entered p q)
moves_back_decided s None p q = inr (λ h. true≢false (sym h.0))
moves_back_decided s (Some w) p q = and_decided (inl refl) (CanShift_decided s q p)

pub idle_end_decided : (s : State) (q : ℕ) → Decided (task_on s q ≡ None)
idle_end_decided s q = nobody_decided (task_on s q)

pub occupied_end_decided : (s : State) (q : ℕ) → Decided ((u : ℕ) × (task_on s q ≡ Some u))
occupied_end_decided s q = somebody_decided (task_on s q)

pub place_is_decided : (p q : ℕ) → Decided (q ≡ p)
place_is_decided p q = cases_eq q p

-- ---- sets
module _ (s : State) (ok : IsState s) where
  within_decided : (u X : ℕ) → Decided (Within (effective_mask s u) X)
  within_decided u X = elim (below_decided (λ p. IsTrue (has (effective_mask s u) p) → IsTrue (has X p))
      (λ p. if_decided (has_decided (effective_mask s u) p) (has_decided X p)) s.processors) [
        | inl all ↦ inl (λ p h. all p (effective_mask_below s ok u p h) h)
        | inr fails ↦ inr (λ within. fails (λ p lt h. within p h))
      ]

  pub reach_decided : (t reach : ℕ) (Holds : ℕ → Type 0) → ((u : ℕ) → Decided (Holds u)) → (q : ℕ) → Decided (ReachFits s t reach Holds q)
  reach_decided t reach Holds holds_decided q =
      go (if_decided (has_decided (effective_mask s t) q) (has_decided reach q))
      (if_decided (has_decided reach q) (holder_decided (task_on s q) (λ u. Within (effective_mask s u) reach) Holds
      (λ u. within_decided u reach) holds_decided))
    where
      go : Decided (IsTrue (has (effective_mask s t) q) → IsTrue (has reach q))
          → Decided (IsTrue (has reach q) → (u : ℕ) × (task_on s q ≡ Some u) × Within (effective_mask s u) reach × Holds u)
          → Decided (ReachFits s t reach Holds q)
      go (inl mask) (inl held) = inl record { mask = mask; held = held }
      go (inl mask) (inr fails) = inr (λ fits. fails fits.held)
      go (inr fails) held = inr (λ fits. fails fits.mask)

  not_decided : {A : Type 0} → Decided A → Decided (A → ⊥)
  not_decided (inl a) = inr (λ never. never a)
  not_decided (inr never) = inl never

  false_decided : (b : Bool) → Decided (b ≡ false)
  false_decided false = inl refl
  false_decided true = inr (λ e. true≢false e)

  closed_decided : (back q : ℕ) → Decided (has back q ≡ false → (r : ℕ) → IsTrue (has back r) → CanShift s q r → ⊥)
  closed_decided back q = if_decided (false_decided (has back q))
      (elim (below_decided (λ r. IsTrue (has back r) → CanShift s q r → ⊥)
      (λ r. if_decided (has_decided back r) (not_decided (CanShift_decided s q r))) s.processors) [
        | inl all ↦ inl (λ r inside shift. all r (effective_mask_below s ok shift.0 r shift.2) inside shift)
        | inr fails ↦ inr (λ closed. fails (λ r lt. closed r))
      ])

  pub back_decided : (p back q : ℕ) → Decided (BackFits s p back q)
  back_decided p back q =
      go (if_decided (cases_eq q p) (has_decided back q)) (if_decided (has_decided back q) (less_decided q s.processors))
      (closed_decided back q)
    where
      go : Decided (q ≡ p → IsTrue (has back q)) → Decided (IsTrue (has back q) → q < s.processors)
          → Decided (has back q ≡ false → (r : ℕ) → IsTrue (has back r) → CanShift s q r → ⊥) → Decided (BackFits s p back q)
      go (inl place) (inl below) (inl closed) = inl record { place = place; below = below; closed = closed }
      go (inr fails) below closed = inr (λ fits. fails fits.place)
      go (inl place) (inr fails) closed = inr (λ fits. fails fits.below)
      go (inl place) (inl below) (inr fails) = inr (λ fits. fails fits.closed)

  -- ---- tasks
  enters_decided : (set v : ℕ) → Decided (CanEnterInto s set v)
  enters_decided set v = and_decided (waiting_decided s v)
      (elim (below_decided (λ q. IsTrue (has set q) → CanEnterAt s v q → ⊥)
      (λ q. if_decided (has_decided set q) (not_decided (has_decided (effective_mask s v) q))) s.processors) [
        | inl none ↦ inr (λ h. none h.0 (effective_mask_below s ok v h.0 h.2) h.1 h.2)
        | inr some ↦ elim (first_without (λ q. IsTrue (has set q) → CanEnterAt s v q → ⊥)
            (λ q. if_decided (has_decided set q) (not_decided (has_decided (effective_mask s v) q))) s.processors) [
              | inl none ↦ absurd (some none)
              | inr first ↦ go first.0 first.2 (has_decided set first.0) (has_decided (effective_mask s v) first.0)
            ]
      ])
    where
      go : (q : ℕ) → ((IsTrue (has set q) → CanEnterAt s v q → ⊥) → ⊥) → Decided (IsTrue (has set q)) → Decided (CanEnterAt s v q)
          → Decided ((q : ℕ) × IsTrue (has set q) × CanEnterAt s v q)
      go q fails (inl inside) (inl enters) = inl (q, inside, enters)
      go q fails (inl inside) (inr never) = absurd (fails (λ inside enters. never enters))
      go q fails (inr outside) enters = absurd (fails (λ inside. absurd (outside inside)))

  -- who leads of the tasks below n that can enter
  leader_below : (set n : ℕ) → (found : Option ℕ) × IsFoundInto s set n found
  leader_below set zero = (None, IsFound-nothing (IsComing s set) (IsNotLessUrgent s))
  leader_below set (suc n) = go (leader_below set n).0 (leader_below set n).1 (enters_decided set n)
    where
      one_more : (found : Option ℕ) → IsFoundInto s set (n + 1) found → IsFoundInto s set (suc n) found
      one_more found h = let e : n + 1 ≡ suc n = omega arith in subst (λ (k : ℕ). IsFoundInto s set k found) e h

      go : (found : Option ℕ) → IsFoundInto s set n found → Decided (CanEnterInto s set n)
          → (found : Option ℕ) × IsFoundInto s set (suc n) found
      go found h (inr never) = (found, one_more found (into_passed s set n found never h))
      go None h (inl coming) = (Some n, one_more (Some n) (into_more s set n n None coming (inl refl) (omega arith) tt h))
      go (Some d) h (inl coming) = elim (cases_lt (priority_of s d) (priority_of s n)) [
        | inl lt ↦ (Some d, one_more (Some d) (into_more s set n d (Some d) coming (inr refl) (omega arith) (omega arith) h))
        | inr ge ↦ (Some n, one_more (Some n) (into_more s set n n (Some d) coming (inl refl) (omega arith) ge h))
      ]

  most_urgent_or_nobody : (set : ℕ) → ((v : ℕ) × IsMostUrgentInto s set v) ⊎ IsNobodyInto s set
  most_urgent_or_nobody set = go (leader_below set (task_count s)).0 (leader_below set (task_count s)).1
    where
      go : (found : Option ℕ) → IsFoundInto s set (task_count s) found → ((v : ℕ) × IsMostUrgentInto s set v) ⊎ IsNobodyInto s set
      go None h = inr (into_whole s ok set (task_count s) None (omega arith) h)
      go (Some v) h = inl (v, into_whole s ok set (task_count s) (Some v) (omega arith) h)

  pub enters_rightly_or_wrongly : (entered : Option ℕ) (chain : List ℕ) (back : ℕ) → EntersRightly s entered chain back
      ⊎ ((x : ℕ) × EntersWrongly s entered chain back x)
  enters_rightly_or_wrongly None chain back = elim (most_urgent_or_nobody back) [
    | inl most ↦ inr (most.0, inl (most.1, inl (λ e. cc)))
    | inr nobody ↦ inl nobody
  ]
  enters_rightly_or_wrongly (Some w) chain back = elim (most_urgent_or_nobody back) [
    | inr nobody ↦ inr (w, inr (nobody, refl))
    | inl most ↦ elim (cases_eq w most.0) [
      | inr other ↦ inr (most.0, inl (most.1, inl (λ e. other (same_Some w most.0 e))))
      | inl same ↦ elim (has_decided (effective_mask s w) (last_processor chain)) [
        | inl there ↦ inl (subst (IsMostUrgentInto s back) (sym same) most.1, there)
        | inr never ↦ inr (w, inl (subst (IsMostUrgentInto s back) (sym same) most.1, inr never))
      ]
    ]
  ]
