-- The search for the most urgent lost task, over the processors to which tasks are linked; and what follows where nobody is lost.
use Rattle.std.proofs.Common.{◌≡◌, ℕ, ◌+◌, ◌<◌, ◌≤◌, true, false, List, Option, Some, None, refl, sym, ap, ◌∙◌, subst, inl, inr, ◌⊎◌, arith}
use Rattle.std.specs.Prelude.{◌↔◌, MatchOption, IfNone}
use Rattle.std.proofs.lemmas.Bool.{cases_Bool, cases_eq, true≢false}
use Rattle.std.proofs.lemmas.Option.{same_Some}
use Rattle.strong_apa.specs.State.{State, IsState, IsWaiting, task_on, is_linked, priority_of, IsMoreUrgent}
use Rattle.strong_apa.specs.Placement.{IsPlacement}
use Rattle.strong_apa.specs.Certified.{HasCertificates}
use Rattle.strong_apa.proofs.Linked.{place_in, task_on-linked, is_linked-from_on, occupied_number, linked_number}
use Rattle.live_core.specs.Seen.{seen_at, Claims, RunsOn, AreAllApart, IsTable, IsFresh, IsLost, IsMostUrgentLost, IsNobodyLost}
use Rattle.live_core.specs.Seen.{RunsJustLinked}
use Rattle.live_core.proofs.SeenTables.{filled}

-- ---- the search
-- found is the most urgent lost task of those that are linked to the processors below p
pub record IsFirstBelow (s table : State) (p : ℕ) (found : Option ℕ) : Type 0 where
  pub lost : (t : ℕ) → found ≡ Some t → IsLost s table t
  pub first : (q u : ℕ) → q < p → task_on s q ≡ Some u → IsLost s table u → (t : ℕ) × (found ≡ Some t) × (priority_of s t ≤ priority_of s u)

pub first_none : (s table : State) → IsFirstBelow s table 0 None
first_none s table = record {
  lost = λ t e. absurd (let h : ◌≡◌ {A = Option ℕ} None (Some t) = e in cc);
  first = λ q u lt on lost. absurd (omega arith);
}

-- nobody who is lost is linked to p
pub first_same : (s table : State) (p : ℕ) (found : Option ℕ) → ((u : ℕ) → task_on s p ≡ Some u → IsLost s table u → ⊥)
    → IsFirstBelow s table p found → IsFirstBelow s table (p + 1) found
first_same s table p found nobody below = record {
  lost = below.lost;
  first = λ q u lt on lost. elim (cases_eq q p) [
    | inl same ↦ absurd (nobody u (rw same at on) lost)
    | inr other ↦ below.first q u (omega arith) on lost
  ];
}

-- the more urgent one of found and t
pub first_more : (s table : State) (p t : ℕ) (found : Option ℕ) (new : ℕ) → task_on s p ≡ Some t → is_linked table t ≡ false
    → (new ≡ t) ⊎ (found ≡ Some new) → priority_of s new ≤ priority_of s t
    → ((u : ℕ) → found ≡ Some u → priority_of s new ≤ priority_of s u)
    → IsFirstBelow s table p found → IsFirstBelow s table (p + 1) (Some new)
first_more s table p t found new on nowhere which urgent before below = record {
  lost = λ u e. subst (IsLost s table) (same_Some new u e) (elim which [
    | inl it ↦ subst (IsLost s table) (sym it) record { linked = is_linked-from_on s p t on; nowhere = nowhere }
    | inr old ↦ below.lost new old
  ]);
  first = λ q u lt there lost. elim (cases_eq q p) [
    | inl same ↦ (new, refl, rw (same_Some u t (sym there ∙ rw same on)) urgent)
    | inr other ↦
        let one = below.first q u (omega arith) there lost in
        let le = before one.0 one.1 in
        let le' = one.2 in
        (new, refl, omega arith)
  ];
}

-- at the end
pub first_whole : (s table : State) → IsState s → (p : ℕ) → s.processors ≤ p → (found : Option ℕ) → IsFirstBelow s table p found
    → MatchOption found (IsNobodyLost s table) (IsMostUrgentLost s table)
first_whole s table ok p all None below = λ t lost.
    let on = task_on-linked s t lost.linked in
    let lt = occupied_number s (place_in t s.on) t ok on in
    let one = below.first (place_in t s.on) t (omega arith) on lost in
    let h : ◌≡◌ {A = Option ℕ} None (Some one.0) = one.1 in
    cc
first_whole s table ok p all (Some t) below = record {
  lost = below.lost t refl;
  first = λ u lost.
      let on = task_on-linked s u lost.linked in
      let lt = occupied_number s (place_in u s.on) u ok on in
      let one = below.first (place_in u s.on) u (omega arith) on lost in
      rw (same_Some t one.0 one.1) one.2;
}

-- ---- where nobody is lost, and just there, the linked tasks are seen apart
pub held_where_nobody_lost : (s table : State) → IsNobodyLost s table → (t : ℕ) → is_linked s t ≡ true → is_linked table t ≡ true
held_where_nobody_lost s table nobody t linked = elim (cases_Bool (is_linked table t)) [
  | inl held ↦ held
  | inr nowhere ↦ absurd (nobody t record { linked = linked; nowhere = nowhere })
]

pub apart_where_nobody_lost : (s table : State) (seen : List (Option ℕ)) → IsTable s seen table → IsNobodyLost s table → AreAllApart s seen
apart_where_nobody_lost s table seen is_table nobody = record {
  each = λ t linked. (
    place_in t table.on,
    is_table.holds (place_in t table.on) t
        (task_on-linked table t (held_where_nobody_lost s table nobody t linked)),
  );
  apart = λ t u q a b. same_Some t u (sym (on_where t q a) ∙ on_where u q b);
}
  where
    on_where : (t q : ℕ) → Claims s seen t q → task_on table q ≡ Some t
    on_where t q claims =
        let on = task_on-linked table t (held_where_nobody_lost s table nobody t claims.linked) in
        let same = same_Some (place_in t table.on) q (sym (is_table.holds (place_in t table.on) t on).there ∙ claims.there) in
        rw (← same) on

pub nobody_lost_where_apart : (s table : State) (seen : List (Option ℕ)) → IsTable s seen table → AreAllApart s seen → IsNobodyLost s table
nobody_lost_where_apart s table seen is_table all t lost =
    let claims = all.each t lost.linked in
    let holder = is_table.covers claims.0 t claims.1 in
    let same = all.apart t holder.0 claims.0 claims.1 (is_table.holds claims.0 holder.0 holder.1) in
    true≢false (sym (is_linked-from_on table claims.0 t (subst (λ (v : ℕ). task_on table claims.0 ≡ Some v) (sym same) holder.1))
    ∙ lost.nowhere)

-- ---- in a fresh table the holders are those that run where they are seen
holds_where_runs : (s table : State) (seen : List (Option ℕ)) → IsState s → IsTable s seen table → IsFresh s seen table → (q t : ℕ)
    → RunsOn s seen t q → task_on table q ≡ Some t
holds_where_runs s table seen ok is_table fresh q t runs =
    let holder = is_table.covers q t runs.claims in
    let u = holder.0 in
    let le = fresh q u t holder.1 runs.claims in
    let claims = is_table.holds q u holder.1 in
    let le' = runs.most_urgent u claims in
    let same : u ≡ t = ok.distinct u t (linked_number s (place_in u s.on) u ok (task_on-linked s u claims.linked))
    (linked_number s (place_in t s.on) t ok (task_on-linked s t runs.claims.linked)) (omega arith) in
    subst (λ (v : ℕ). task_on table q ≡ Some v) same holder.1

pub held_runs : (s table : State) (seen : List (Option ℕ)) → IsTable s seen table → IsFresh s seen table → (q t : ℕ)
    → task_on table q ≡ Some t → RunsOn s seen t q
held_runs s table seen is_table fresh q t on = record { claims = is_table.holds q t on; most_urgent = λ u claims. fresh q t u on claims }

pub holds_just_where_runs : (s table : State) (seen : List (Option ℕ)) → IsState s → IsTable s seen table → IsFresh s seen table → (q t : ℕ)
    → (task_on table q ≡ Some t) ↔ RunsOn s seen t q
holds_just_where_runs s table seen ok is_table fresh q t =
    (held_runs s table seen is_table fresh q t, holds_where_runs s table seen ok is_table fresh q t)

-- ---- where they are seen apart, they are the most urgent of their processors
abbrev where_seen : Option ℕ → ℕ
where_seen None = 0
where_seen (Some q) = q

module _ (s : State) (seen : List (Option ℕ)) (ok : IsState s) (certificates : HasCertificates s) (all : AreAllApart s seen) where
  abbrev place : ℕ → ℕ
  place t = where_seen (seen_at seen t)

  place_is : (t : ℕ) (linked : is_linked s t ≡ true) → place t ≡ (all.each t linked).0
  place_is t linked = ap where_seen (all.each t linked).1.there

  claims_place : (t : ℕ) → is_linked s t ≡ true → Claims s seen t (place t)
  claims_place t linked = subst (λ (q : ℕ). Claims s seen t q) (sym (place_is t linked)) (all.each t linked).1

  seen_placement : IsPlacement s (is_linked s) place
  seen_placement = record {
    allowed = λ t linked. (claims_place t linked).allowed;
    apart = λ t u ht hu e. all.apart t u (place t) (claims_place t ht) (subst (λ (q : ℕ). Claims s seen u q) (sym e) (claims_place u hu));
  }

  pub just_linked_where_apart : RunsJustLinked s seen
  just_linked_where_apart q w queued = elim (cases_Bool (is_linked s w)) [
    | inl linked ↦ (w, record { linked = linked; there = queued.there; allowed = queued.allowed }, (λ other. absurd (other refl)))
    | inr nowhere ↦
        let waits : IsWaiting s w = record { ready = queued.ready; not_linked = nowhere } in
        let set = (certificates w waits).0 in
        let certificate = (certificates w waits).1 in
        let found = filled s ok (is_linked s) place seen_placement set
        (λ p inside. let held = certificate.occupied p inside in (held.0, held.1, is_linked-from_on s p held.0 held.1, held.3))
        q (certificate.within q queued.allowed) in
        let u = found.1 in
        let held = certificate.occupied found.0 found.2 in
        let same : held.0 ≡ u = same_Some held.0 u (sym held.1 ∙ found.3) in (
          u,
          subst (λ (r : ℕ). Claims s seen u r) found.5 (claims_place u found.4),
          (λ other. subst (λ (v : ℕ). IsMoreUrgent s v w) same held.2),
        )
  ]

-- what `lost` answers
pub apart_answer : (s table : State) (seen : List (Option ℕ)) → IsTable s seen table → (found : Option ℕ)
    → MatchOption found (IsNobodyLost s table) (IsMostUrgentLost s table)
    → MatchOption found (AreAllApart s seen) (λ t. AreAllApart s seen → ⊥)
apart_answer s table seen is_table None nobody = apart_where_nobody_lost s table seen is_table nobody
apart_answer s table seen is_table (Some t) first = λ all. nobody_lost_where_apart s table seen is_table all t first.lost

pub just_linked_answer : (s : State) (seen : List (Option ℕ)) → IsState s → (found : Option ℕ)
    → MatchOption found (AreAllApart s seen) (λ t. AreAllApart s seen → ⊥) → HasCertificates s → IfNone found (RunsJustLinked s seen)
just_linked_answer s seen ok None all certificates = just_linked_where_apart s seen ok certificates all
just_linked_answer s seen ok (Some t) not_all certificates = tt
