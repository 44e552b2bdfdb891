-- Who leads among the tasks that a loop has visited: the least urgent occupant, or the most urgent task that can enter.
use Rattle.std.proofs.Common.{◌≡◌, ℕ, ◌+◌, ◌<◌, ◌≤◌, true, false, not, ◌&&◌, nat_eq, Option, Some, None, refl, sym, ap, ◌∙◌, subst, inl}
use Rattle.std.proofs.Common.{inr, ◌⊎◌, IsTrue, arith, below_more, ne_eqb}
use Rattle.std.proofs.Math.Bool.{and-true}
use Rattle.std.specs.Prelude.{IfSome, MatchOption, is_some}
use Rattle.std.proofs.lemmas.Bool.{cases_eq, and_from, and_parts, true≢false}
use Rattle.std.specs.Option.{ForSome}
use Rattle.std.proofs.lemmas.Option.{same_Some}
use Rattle.affinity_mask.specs.ProcSet.{has, empty}
use Rattle.affinity_mask.proofs.Sets.{has-zero}
use Rattle.strong_apa.specs.State.{State, IsState, task_count, task_on, priority_of}
use Rattle.strong_apa.proofs.Linked.{linked_number}
use Rattle.strong_apa.proofs.Unique.{ready_number}
use Rattle.strong_apa.specs.Step.{CanEnterInto, IsNobodyOn, IsNobodyInto, IsLeastUrgentOn, IsMostUrgentInto}

-- ---- tasks at places, of which each two are compared
module _ (At : ℕ → ℕ → Type 0) (Leads : ℕ → ℕ → Type 0) where
  -- d is at some place, and leads each task at a place below n
  abbrev pub IsLeader : ℕ → ℕ → Type 0
  IsLeader n d = ((k : ℕ) × At k d) × ((k : ℕ) → k < n → (u : ℕ) → At k u → Leads d u)

  -- who leads of the tasks at the places below n, if there is one
  abbrev pub IsFound : ℕ → Option ℕ → Type 0
  IsFound n None = (k : ℕ) → k < n → (u : ℕ) → At k u → ⊥
  IsFound n (Some d) = IsLeader n d

  pub IsFound-nothing : IsFound 0 None
  IsFound-nothing k lt u at = absurd (omega arith)

  -- one more place, at which nobody is
  pub IsFound-passed : (n : ℕ) (found : Option ℕ) → ((u : ℕ) → At n u → ⊥) → IsFound n found → IsFound (n + 1) found
  IsFound-passed n None nobody h = below_more (λ k. (u : ℕ) → At k u → ⊥) n h nobody
  IsFound-passed n (Some d) nobody h = (h.0, below_more (λ k. (u : ℕ) → At k u → Leads d u) n h.1 (λ u at. absurd (nobody u at)))

  -- one more place, at which t is
  module _ (through : (a b c : ℕ) → Leads a b → Leads b c → Leads a c) (n t r : ℕ) (at : At n t) (alone : (u : ℕ) → At n u → t ≡ u)
      (leads : Leads r t) where
    leads_here : (u : ℕ) → At n u → Leads r u
    leads_here u at_u = subst (Leads r) (alone u at_u) leads

    pub IsFound-more : (found : Option ℕ) → (r ≡ t) ⊎ (found ≡ Some r) → IfSome found (Leads r) → IsFound n found → IsFound (n + 1) (Some r)
    IsFound-more None (inl it) leads_found h =
        ((n, subst (At n) (sym it) at), below_more (λ k. (u : ℕ) → At k u → Leads r u) n (λ k lt u at_u. absurd (h k lt u at_u)) leads_here)
    IsFound-more None (inr found) leads_found h = cc
    IsFound-more (Some d) (inl it) leads_found h = (
      (n, subst (At n) (sym it) at),
      below_more (λ k. (u : ℕ) → At k u → Leads r u) n
          (λ k lt u at_u. through r d u leads_found (h.1 k lt u at_u)) leads_here,
    )
    IsFound-more (Some d) (inr found) leads_found h = (
      (h.0.0, subst (At h.0.0) (same_Some d r found) h.0.1),
      below_more (λ k. (u : ℕ) → At k u → Leads r u) n (λ k lt u at_u. through r d u leads_found (h.1 k lt u at_u)) leads_here,
    )

  -- whoever was found is at some place
  pub found_at : (P : ℕ → Type 0) → ((k u : ℕ) → At k u → P u) → (n : ℕ) (found : Option ℕ) → IsFound n found → ForSome found P
  found_at P each n None h = λ u e. cc
  found_at P each n (Some d) h = λ u e. subst P (same_Some d u e) (each h.0.0 d h.0.1)

-- ---- the least urgent task on the processors of a set
abbrev pub IsOn : State → ℕ → ℕ → ℕ → Type 0
IsOn s set p u = IsTrue (has set p) × (task_on s p ≡ Some u)

abbrev pub IsNotMoreUrgent : State → ℕ → ℕ → Type 0
IsNotMoreUrgent s d u = priority_of s u ≤ priority_of s d

-- d is on a processor of the set, and no less urgent one is on a processor of it that is not in the rest
pub record IsLastSoFar (s : State) (set rest d : ℕ) : Type 0 where
  pub there : (p : ℕ) × IsOn s set p d
  pub last : (p u : ℕ) → IsOn s set p u → has rest p ≡ false → IsNotMoreUrgent s d u

-- who was found on the processors of the set that are not in the rest
abbrev pub IsFoundOn : State → ℕ → ℕ → Option ℕ → Type 0
IsFoundOn s set rest None = (p u : ℕ) → IsOn s set p u → has rest p ≡ false → ⊥
IsFoundOn s set rest (Some d) = IsLastSoFar s set rest d

-- the rest are occupied processors of the set
abbrev pub IsRestOf : State → ℕ → ℕ → Type 0
IsRestOf s set rest = (p : ℕ) → IsTrue (has rest p) → (u : ℕ) × IsOn s set p u

somebody : (o : Option ℕ) → is_some o ≡ true → (u : ℕ) × (o ≡ Some u)
somebody None h = absurd (true≢false (sym h))
somebody (Some u) h = (u, refl)

pub rest_first : (s : State) (set linked rest : ℕ) → ((p : ℕ) → has linked p ≡ is_some (task_on s p))
    → ((p : ℕ) → has rest p ≡ (has set p && has linked p)) → IsRestOf s set rest
rest_first s set linked rest is_linked is_rest p h =
    let parts = and_parts (has set p) (has linked p) (sym (is_rest p) ∙ h) in
    let there = somebody (task_on s p) (sym (is_linked p) ∙ parts.1) in
    (there.0, (parts.0, there.1))

pub rest_fewer : (s : State) (set rest then p : ℕ) → ((q : ℕ) → has then q ≡ (has rest q && not (nat_eq q p))) → IsRestOf s set rest
    → IsRestOf s set then
rest_fewer s set rest then p fewer are q h = are q ((and_parts (has rest q) (not (nat_eq q p)) (sym (fewer q) ∙ h)).0)

-- at first all occupied processors of the set are in the rest
pub on_first : (s : State) (set linked rest : ℕ) → ((p : ℕ) → has linked p ≡ is_some (task_on s p))
    → ((p : ℕ) → has rest p ≡ (has set p && has linked p)) → IsFoundOn s set rest None
on_first s set linked rest is_linked is_rest p u on out =
    true≢false (sym (is_rest p ∙ and_from (has set p) (has linked p) (on.0) (is_linked p ∙ ap (λ (o : Option ℕ). is_some o) (on.1))) ∙ out)

pub on_number : (s : State) → IsState s → (set rest : ℕ) (found : Option ℕ) → IsFoundOn s set rest found
    → ForSome found (λ u. u < task_count s)
on_number s ok set rest None h = λ u e. cc
on_number s ok set rest (Some d) h = λ u e. rw (← same_Some d u e) (linked_number s h.there.0 d ok h.there.1.1)

-- one more processor, of which t is the occupant
module _ (s : State) (set rest then p t r : ℕ) (on : IsOn s set p t) (fewer : (q : ℕ) → has then q ≡ (has rest q && not (nat_eq q p)))
    (last : priority_of s t ≤ priority_of s r) where
  -- a processor that is not in the rest then is p, or was not in it before
  left : (q : ℕ) → has then q ≡ false → (q ≡ p) ⊎ (has rest q ≡ false)
  left q out = elim (cases_eq q p) [
    | inl e ↦ inl e
    | inr ne ↦ inr (sym (and-true (has rest q)) ∙ ap (λ b. has rest q && not b) (sym (ne_eqb q p ne)) ∙ sym (fewer q) ∙ out)
  ]

  here : (q u : ℕ) → q ≡ p → IsOn s set q u → IsNotMoreUrgent s r u
  here q u e on_u = let same : t ≡ u = same_Some t u (sym (on.1) ∙ ap (task_on s) (sym e) ∙ on_u.1) in rw (← same) last

  pub on_more : (found : Option ℕ) → (r ≡ t) ⊎ (found ≡ Some r) → IfSome found (λ u. priority_of s u ≤ priority_of s r)
      → IsFoundOn s set rest found → IsFoundOn s set then (Some r)
  on_more None either last_of_found h = record {
    there = elim either [ inl it ↦ (p, rw it on) | inr found ↦ cc ];
    last = λ q u on_u out. elim (left q out) [
      | inl e ↦ here q u e on_u
      | inr before ↦ absurd (h q u on_u before)
    ];
  }
  on_more (Some d) either last_of_found h = record {
    there = elim either [ inl it ↦ (p, rw it on) | inr found ↦ (h.there.0, rw (← same_Some d r found) h.there.1) ];
    last = λ q u on_u out. elim (left q out) [
      | inl e ↦ here q u e on_u
      | inr before ↦ let less = h.last q u on_u before in omega arith
    ];
  }

-- at the end nothing is left
pub on_whole : (s : State) (set rest : ℕ) (found : Option ℕ) → rest ≡ empty → IsFoundOn s set rest found
    → MatchOption found (IsNobodyOn s set) (IsLeastUrgentOn s set)
on_whole s set rest None none h = λ p u inside on. h p u (inside, on) (ap (λ n. has n p) none ∙ has-zero p)
on_whole s set rest (Some d) none h = record {
  there = (h.there.0, h.there.1.0, h.there.1.1);
  least_urgent = λ p u inside on. h.last p u (inside, on) (ap (λ n. has n p) none ∙ has-zero p);
}

-- ---- the most urgent task that can enter into a set
abbrev pub IsComing : State → ℕ → ℕ → ℕ → Type 0
IsComing s set w u = (w ≡ u) × CanEnterInto s set w

abbrev pub IsNotLessUrgent : State → ℕ → ℕ → Type 0
IsNotLessUrgent s w u = priority_of s w ≤ priority_of s u

-- who was found of the tasks below n
abbrev pub IsFoundInto : State → ℕ → ℕ → Option ℕ → Type 0
IsFoundInto s set n found = IsFound (IsComing s set) (IsNotLessUrgent s) n found

pub into_number : (s : State) → IsState s → (set n : ℕ) (found : Option ℕ) → IsFoundInto s set n found
    → ForSome found (λ u. u < task_count s)
into_number s ok set n found h = found_at (IsComing s set) (IsNotLessUrgent s) (λ u. u < task_count s)
    (λ w u coming. ready_number s ok u (subst (λ v. CanEnterInto s set v) coming.0 coming.1).0.ready) n found h

pub into_more : (s : State) (set t r : ℕ) (found : Option ℕ) → CanEnterInto s set t → (r ≡ t) ⊎ (found ≡ Some r)
    → priority_of s r ≤ priority_of s t → IfSome found (λ u. priority_of s r ≤ priority_of s u) → IsFoundInto s set t found
    → IsFoundInto s set (t + 1) (Some r)
into_more s set t r found coming either first first_of_found h =
    IsFound-more (IsComing s set) (IsNotLessUrgent s) (λ a b c ab bc. omega arith) t t r (refl, coming) (λ u same. same.0)
    first found either first_of_found h

pub into_passed : (s : State) (set t : ℕ) (found : Option ℕ) → (CanEnterInto s set t → ⊥) → IsFoundInto s set t found
    → IsFoundInto s set (t + 1) found
into_passed s set t found not_coming h = IsFound-passed (IsComing s set) (IsNotLessUrgent s) t found (λ u coming. not_coming coming.1) h

pub into_whole : (s : State) → IsState s → (set n : ℕ) (found : Option ℕ) → task_count s ≤ n → IsFoundInto s set n found
    → MatchOption found (IsNobodyInto s set) (IsMostUrgentInto s set)
into_whole s ok set n None all h = λ w p waits inside enters. h w (let number = ready_number s ok w waits.ready in omega arith) w
    (refl, (waits, (p, inside, enters)))
into_whole s ok set n (Some d) all h =
    let coming = subst (λ v. CanEnterInto s set v) h.0.1.0 h.0.1.1 in
    record {
      waits = coming.0;
      there = coming.1;
      most_urgent = λ w p waits inside enters. h.1 w (let number = ready_number s ok w waits.ready in omega arith) w
          (refl, (waits, (p, inside, enters)));
    }
