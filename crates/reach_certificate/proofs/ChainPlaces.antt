-- Chains and their places: a chain whose places all fit is a path in which no processor stands twice, and the other way
-- round.
use Rattle.std.proofs.Common.{◌≡◌, ◌≢◌, ℕ, zero, suc, ◌<◌, List, [], ◌∷◌, length, get_or, refl, sym, ap, ◌∙◌, subst, inl, inr, arith}
use Rattle.std.proofs.lemmas.Bool.{cases_lt, cases_eq}
use Rattle.std.proofs.lemmas.List.{get_or_default}
use Rattle.strong_apa.specs.State.{State}
use Rattle.strong_apa.specs.Chain.{IsPath, IsSimple}
use Rattle.reach_certificate.specs.Defect.{AllFit, IsFirstMisfit, FitsAt, last_processor}

-- ---- the first place that does not fit
-- a place that is looked at does not fit where all fit
pub all_fit_no_misfit : (Fits : ℕ → Type 0) (count i : ℕ) → AllFit Fits count → IsFirstMisfit Fits count i → ⊥
all_fit_no_misfit Fits count i all first = first.misfit (all i first.looked_at)

-- there is one first place
pub misfit_unique : (Fits : ℕ → Type 0) (count i j : ℕ) → IsFirstMisfit Fits count i → IsFirstMisfit Fits count j → i ≡ j
misfit_unique Fits count i j one other = elim (cases_eq i j) [
  | inl same ↦ same
  | inr differs ↦ elim (cases_lt i j) [
    | inl lt ↦ absurd (one.misfit (other.before i lt))
    | inr ge ↦ absurd (other.misfit (one.before j (omega arith)))
  ]
]

-- ---- paths, step by step
pub path_of : (Step : ℕ → ℕ → Type 0) (x : ℕ) (rest : List ℕ) → ((k : ℕ) → k < length rest → Step (get_or (x ∷ rest) k 0) (get_or rest k 0))
    → IsPath Step x rest (get_or (x ∷ rest) (length rest) 0)
path_of Step x [] steps = refl
path_of Step x (r ∷ rest) steps = (steps 0 (omega arith), path_of Step r rest (λ k lt. steps (suc k) (omega arith)))

pub step_of : (Step : ℕ → ℕ → Type 0) (x : ℕ) (rest : List ℕ) (q : ℕ) → IsPath Step x rest q → (k : ℕ) → k < length rest
    → Step (get_or (x ∷ rest) k 0) (get_or rest k 0)
step_of Step x [] q path k lt = absurd (omega arith)
step_of Step x (r ∷ rest) q path zero lt = path.0
step_of Step x (r ∷ rest) q path (suc k) lt = step_of Step r rest q path.1 k (omega arith)

path_end : (Step : ℕ → ℕ → Type 0) (x : ℕ) (rest : List ℕ) (q : ℕ) → IsPath Step x rest q → get_or (x ∷ rest) (length rest) 0 ≡ q
path_end Step x [] q path = path
path_end Step x (r ∷ rest) q path = path_end Step r rest q path.1

pub path_map : (Step Other : ℕ → ℕ → Type 0) → ((a b : ℕ) → Step a b → Other a b) → (x : ℕ) (rest : List ℕ) (q : ℕ) → IsPath Step x rest q
    → IsPath Other x rest q
path_map Step Other each x [] q path = path
path_map Step Other each x (r ∷ rest) q path = (each x r path.0, path_map Step Other each r rest q path.1)

last_at : (x : ℕ) (rest : List ℕ) → last_processor (x ∷ rest) ≡ get_or (x ∷ rest) (length rest) 0
last_at x rest = ap (λ (n : ℕ). get_or (x ∷ rest) n 0) (omega arith)

-- a path ends on the last processor
pub path_last : (Step : ℕ → ℕ → Type 0) (x : ℕ) (rest : List ℕ) (q : ℕ) → IsPath Step x rest q → last_processor (x ∷ rest) ≡ q
path_last Step x rest q path = last_at x rest ∙ path_end Step x rest q path

-- ---- places
module _ (s : State) (Begins : ℕ → Type 0) (Follows : ℕ → ℕ → Type 0) (Ends : ℕ → Type 0) where
  pub fit_is_simple : (chain : List ℕ) → AllFit (FitsAt s Begins Follows Ends chain) (length chain) → IsSimple chain
  fit_is_simple chain all i j d lt fits e =
      (all j (inr fits)).once i lt (get_or_default chain i 0 d (omega arith) ∙ e ∙ get_or_default chain j d 0 fits)

  pub fit_is_not_empty : (chain : List ℕ) → AllFit (FitsAt s Begins Follows Ends chain) (length chain) → chain ≢ []
  fit_is_not_empty [] all e = let there = (all 0 (inl refl)).there in omega arith
  fit_is_not_empty (x ∷ rest) all e = cc

  module _ (x : ℕ) (rest : List ℕ) (all : AllFit (FitsAt s Begins Follows Ends (x ∷ rest)) (length (x ∷ rest))) where
    pub fit_begins : Begins x
    fit_begins = (all 0 (inl refl)).first refl

    pub fit_path : IsPath Follows x rest (last_processor (x ∷ rest))
    fit_path = subst (λ (q : ℕ). IsPath Follows x rest q) (sym (last_at x rest))
        (path_of Follows x rest (λ k lt. (all (suc k) (inr (omega arith))).next k (omega arith)))

    pub fit_ends : Ends (last_processor (x ∷ rest))
    fit_ends = subst Ends (sym (last_at x rest)) ((all (length rest) (inr (omega arith))).last (omega arith))

    pub fit_last_below : last_processor (x ∷ rest) < s.processors
    fit_last_below = subst (λ (q : ℕ). q < s.processors) (sym (last_at x rest)) (all (length rest) (inr (omega arith))).below

  -- a path of processors in which none stands twice
  module _ (x : ℕ) (rest : List ℕ) (q : ℕ) (begins : Begins x) (path : IsPath Follows x rest q) (ends : Ends q)
      (simple : IsSimple (x ∷ rest)) (below : (i : ℕ) → i < length (x ∷ rest) → get_or (x ∷ rest) i 0 < s.processors) where
    at_place : (i : ℕ) → i < length (x ∷ rest) → FitsAt s Begins Follows Ends (x ∷ rest) i
    at_place i there = record {
      there = there;
      below = below i there;
      once = λ k lt. simple k i 0 lt there;
      first = λ e. subst (λ (n : ℕ). Begins (get_or (x ∷ rest) n 0)) (sym e) begins;
      next = λ k e. let e' : i ≡ suc k = omega arith in subst (λ (n : ℕ). Follows (get_or (x ∷ rest) k 0) (get_or (x ∷ rest) n 0)) (sym e')
          (step_of Follows x rest q path k (omega arith));
      last = λ e. let e' : i ≡ length rest = omega arith in
          subst Ends (sym (ap (λ (n : ℕ). get_or (x ∷ rest) n 0) e' ∙ path_end Follows x rest q path)) ends;
    }

    pub all_places_fit : AllFit (FitsAt s Begins Follows Ends (x ∷ rest)) (length (x ∷ rest))
    all_places_fit i looked_at = elim looked_at [
      | inl first ↦ at_place i (omega arith)
      | inr there ↦ at_place i there
    ]
