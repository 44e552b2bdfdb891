-- The index of the places of tasks agrees with the layout from the start on, and when another occupant comes.
use Rattle.std.proofs.Common.{◌≡◌, ◌≢◌, ℕ, ◌<◌, ◌≤◌, List, length, get_or, set, replicate, Option, Some, None, refl, sym, ap, ◌∙◌, inl, inr}
use Rattle.std.proofs.Common.{◌⊎◌, IsTrue, arith, length-set, get_or-set_same, get_or-set_other, eq-eqb, ne_eqb, if◌then◌else◌, ◌==◌}
use Rattle.std.specs.Prelude.{is_some}
use Rattle.std.specs.Option.{ForSome}
use Rattle.std.proofs.lemmas.Bool.{cases_eq, cases_lt, ltb-true, true≢false}
use Rattle.std.proofs.lemmas.List.{length-replicate, get_or-replicate, get_or_past}
use Rattle.std.proofs.lemmas.Option.{same_Some}
use Rattle.affinity_mask.specs.ProcSet.{has, empty, all_below, Within}
use Rattle.affinity_mask.proofs.Sets.{has-zero, has-all_below}
use Rattle.link_table.specs.Layout.{Layout, occupant_in, mask_has, IsNowhere, with_occupant, with_mask, places_without, places_with}
use Rattle.link_table.specs.PlacesView.{IsIndex}
use Rattle.strong_apa.proofs.Idling.{idle_at}
use Rattle.strong_apa.proofs.Start.{none_on}

-- whether an option has this number
pub cases_Some : (o : Option ℕ) (t : ℕ) → (o ≡ Some t) ⊎ (o ≡ Some t → ⊥)
cases_Some None t = inr (λ e. cc)
cases_Some (Some u) t = elim (cases_eq u t) [
  | inl same ↦ inl (ap (λ (n : ℕ). Some n) same)
  | inr other ↦ inr (λ e. other (same_Some u t e))
]

-- ---- the start
pub IsIndex-start : (masks : List ℕ) (m : ℕ) (of on : List (Option ℕ)) (feeders : List ℕ) (linked online : ℕ) → m ≤ 64
    → ((t : ℕ) → Within (get_or masks t empty) (all_below m)) → of ≡ replicate (length masks) None → on ≡ replicate m None
    → feeders ≡ replicate m empty → linked ≡ empty
    → IsIndex (record { masks = masks; online = online; on = on }) of linked feeders
IsIndex-start masks m of on feeders linked online few lawful e1 e2 e3 e4 = rw (e1, e2, e3, e4) record {
  few = rw (length-replicate {A = Option ℕ} m None) few;
  masks = rw (length-replicate {A = Option ℕ} m None) lawful;
  places_count = length-replicate (length masks) None;
  feeders_count = length-replicate m empty ∙ sym (length-replicate m None);
  place = λ p t e. absurd (let n = none_on m p in cc);
  occupant = λ t p e. absurd (let n = none_on (length masks) t in cc);
  occupied = λ p. has-zero p ∙ ap (λ (o : Option ℕ). is_some o) (sym (none_on m p));
  fed = λ q p lt.
      let within : q < m = rw (length-replicate {A = Option ℕ} m None) at lt in
      ap (λ (X : ℕ). has X p) (get_or-replicate m q empty empty within) ∙ has-zero p
      ∙ ap (λ (o : Option ℕ). mask_has (record { masks = masks; online = online; on = replicate m None }) o q) (sym (none_on m p));
}

-- ---- the places of tasks
length-places_without : (of : List (Option ℕ)) (out : Option ℕ) → length (places_without of out) ≡ length of
length-places_without of None = refl
length-places_without of (Some u) = length-set of u None

pub length-places_with : (of : List (Option ℕ)) (out guest : Option ℕ) (p : ℕ) → length (places_with (places_without of out) guest p)
    ≡ length of
length-places_with of out None p = length-places_without of out
length-places_with of out (Some t) p = length-set (places_without of out) t (Some p) ∙ length-places_without of out

without-other : (of : List (Option ℕ)) (out : Option ℕ) (t : ℕ) → (out ≡ Some t → ⊥) → get_or (places_without of out) t None
    ≡ get_or of t None
without-other of None t ne = refl
without-other of (Some u) t ne = get_or-set_other of u t None None (λ e. ne (ap (λ (n : ℕ). Some n) (sym e)))

without-same : (of : List (Option ℕ)) (t : ℕ) → get_or (places_without of (Some t)) t None ≡ None
without-same of t = idle_at of t

with-other : (of : List (Option ℕ)) (guest : Option ℕ) (p t : ℕ) → (guest ≡ Some t → ⊥) → get_or (places_with of guest p) t None
    ≡ get_or of t None
with-other of None p t ne = refl
with-other of (Some u) p t ne = get_or-set_other of u t (Some p) None (λ e. ne (ap (λ (n : ℕ). Some n) (sym e)))

with-same : (of : List (Option ℕ)) (guest : Option ℕ) (p t : ℕ) → guest ≡ Some t → t < length of → get_or (places_with of guest p) t None
    ≡ Some p
with-same of guest p t e lt = rw e (get_or-set_same of t (Some p) None lt)

if_same : {A : Type 0} (q p : ℕ) (x y : A) → q ≡ p → (if q == p then x else y) ≡ x
if_same q p x y e = rw (eq-eqb q p e) refl

if_other : {A : Type 0} (q p : ℕ) (x y : A) → q ≢ p → (if q == p then x else y) ≡ y
if_other q p x y ne = rw (ne_eqb q p ne) refl

-- ---- another occupant
module _ (a : Layout) (of : List (Option ℕ)) (linked : ℕ) (feeders : List ℕ) (ix : IsIndex a of linked feeders)
    (p : ℕ) (below : p < length a.on) (guest : Option ℕ) (number : ForSome guest (λ t. t < length a.masks))
    (nowhere : ForSome guest (IsNowhere a)) where
  place_then : (r t : ℕ) → occupant_in (with_occupant a p guest) r ≡ Some t
      → get_or (places_with (places_without of (occupant_in a p)) guest p) t None ≡ Some r
  place_then r t e = elim (cases_eq r p) [
    | inl same ↦
        let here : guest ≡ Some t = sym (get_or-set_same a.on p guest None below) ∙ ap (λ (n : ℕ). get_or (set a.on p guest) n None)
        (sym same) ∙ e in
        let lt = number t here in
        let n = length-places_without of (occupant_in a p) in
        let m = ix.places_count in
        with-same (places_without of (occupant_in a p)) guest p t here (omega arith) ∙ ap (λ (n : ℕ). Some n) (sym same)
    | inr other ↦
        let before : occupant_in a r ≡ Some t = sym (get_or-set_other a.on p r guest None other) ∙ e in
        with-other (places_without of (occupant_in a p)) guest p t (λ g. nowhere t g r before)
        ∙ without-other of (occupant_in a p) t (λ o. other (same_Some r p (sym (ix.place r t before) ∙ ix.place p t o)))
        ∙ ix.place r t before
  ]

  occupant_then : (t r : ℕ) → get_or (places_with (places_without of (occupant_in a p)) guest p) t None ≡ Some r
      → occupant_in (with_occupant a p guest) r ≡ Some t
  occupant_then t r e = elim (cases_Some guest t) [
    | inl g ↦
        let lt = number t g in
        let n = length-places_without of (occupant_in a p) in
        let m = ix.places_count in
        let same : p ≡ r = same_Some p r (sym (with-same (places_without of (occupant_in a p)) guest p t g (omega arith)) ∙ e) in
        ap (λ (n : ℕ). get_or (set a.on p guest) n None) (sym same) ∙ get_or-set_same a.on p guest None below ∙ g
    | inr ng ↦ later ng (cases_Some (occupant_in a p) t)
  ]
    where
      later : (guest ≡ Some t → ⊥) → (occupant_in a p ≡ Some t) ⊎ (occupant_in a p ≡ Some t → ⊥) → occupant_in (with_occupant a p guest) r
          ≡ Some t
      later ng (inl o) = absurd (
          let h : ◌≡◌ {A = Option ℕ} None (Some r) = sym (without-same of t) ∙ ap (λ (x : Option ℕ). get_or (places_without of x) t None)
          (sym o) ∙ sym (with-other (places_without of (occupant_in a p)) guest p t ng) ∙ e in cc)
      later ng (inr apart) =
          let before : occupant_in a r ≡ Some t = ix.occupant t r
          (sym (without-other of (occupant_in a p) t apart) ∙ sym (with-other (places_without of (occupant_in a p)) guest p t ng)
          ∙ e) in
          let other : r ≢ p = λ s. apart (ap (λ (n : ℕ). get_or a.on n None) (sym s) ∙ before) in
          get_or-set_other a.on p r guest None other ∙ before

  -- the index is written at p
  pub IsIndex-replaced : (of_then : List (Option ℕ)) (linked_then : ℕ) (feeders_then written : List ℕ) (runs : ℕ)
      → of_then ≡ places_with (places_without of (occupant_in a p)) guest p
      → ((q : ℕ) → has linked_then q ≡ (if q == p then is_some guest else has linked q)) → feeders_then ≡ written
      → length written ≡ length feeders
      → ((q r : ℕ) → q < length feeders → has (get_or written q 0) r ≡ (if r == p then has runs q else has (get_or feeders q 0) r))
      → ((q : ℕ) → has runs q ≡ mask_has a guest q)
      → IsIndex (with_occupant a p guest) of_then linked_then feeders_then
  IsIndex-replaced of_then linked_then feeders_then written runs of_is linked_is written_is count feeders_are runs_are =
      rw (of_is, written_is) record {
        few = let n = length-set a.on p guest in let m = ix.few in omega arith;
        masks = rw (length-set a.on p guest) ix.masks;
        places_count = length-places_with of (occupant_in a p) guest p ∙ ix.places_count;
        feeders_count = count ∙ ix.feeders_count ∙ sym (length-set a.on p guest);
        place = place_then;
        occupant = occupant_then;
        occupied = λ q. elim (cases_eq q p) [
          | inl same ↦ linked_is q ∙ if_same q p (is_some guest) (has linked q) same
              ∙ ap (λ (o : Option ℕ). is_some o) (sym (ap (λ (n : ℕ). get_or (set a.on p guest) n None) same
              ∙ get_or-set_same a.on p guest None below))
          | inr other ↦ linked_is q ∙ if_other q p (is_some guest) (has linked q) other ∙ ix.occupied q
              ∙ ap (λ (o : Option ℕ). is_some o) (sym (get_or-set_other a.on p q guest None other))
        ];
        fed = λ q r lt.
            let n = length-set a.on p guest in
            let m = ix.feeders_count in
            let within : q < length feeders = omega arith in
            let there : q < length a.on = omega arith in
            elim (cases_eq r p) [
              | inl same ↦ feeders_are q r within ∙ if_same r p (has runs q) (has (get_or feeders q 0) r) same ∙ runs_are q
                  ∙ ap (λ (o : Option ℕ). mask_has a o q)
                  (sym (ap (λ (n : ℕ). get_or (set a.on p guest) n None) same ∙ get_or-set_same a.on p guest None below))
              | inr other ↦ feeders_are q r within ∙ if_other r p (has runs q) (has (get_or feeders q 0) r) other ∙ ix.fed q r there
                  ∙ ap (λ (o : Option ℕ). mask_has a o q) (sym (get_or-set_other a.on p r guest None other))
            ];
      }

-- an occupant has an entry of its own
pub occupant_listed : (a : Layout) (of : List (Option ℕ)) (linked : ℕ) (feeders : List ℕ) → IsIndex a of linked feeders → (p u : ℕ)
    → occupant_in a p ≡ Some u → u < length of
occupant_listed a of linked feeders ix p u e = elim (cases_lt u (length of)) [
  | inl lt ↦ lt
  | inr ge ↦ absurd (let past = get_or_past of u None ge in let there = ix.place p u e in cc)
]

-- the mask of a guest has processors of the machine alone
pub mask_inside : (a : Layout) (of : List (Option ℕ)) (linked : ℕ) (feeders : List ℕ) → IsIndex a of linked feeders
    → (guest : Option ℕ) (mask : ℕ) → ((q : ℕ) → has mask q ≡ mask_has a guest q) → (q : ℕ) → IsTrue (has mask q) → q < length feeders
mask_inside a of linked feeders ix None mask are q h = absurd (true≢false (sym h ∙ are q))
mask_inside a of linked feeders ix (Some t) mask are q h =
    let below = ltb-true q (length a.on) (sym (has-all_below (length a.on) q) ∙ ix.masks t q (sym (are q) ∙ h)) in
    let count = ix.feeders_count in
    omega arith

-- ---- another mask of a task that is nowhere
pub IsIndex-masked : (a : Layout) (of : List (Option ℕ)) (linked : ℕ) (feeders : List ℕ) → IsIndex a of linked feeders → (t mask : ℕ)
    → t < length a.masks → IsNowhere a t → Within mask (all_below (length a.on)) → IsIndex (with_mask a t mask) of linked feeders
IsIndex-masked a of linked feeders ix t mask number nowhere lawful = record {
  few = ix.few;
  masks = λ u. elim (cases_eq u t) [
    | inl same ↦ rw (same, get_or-set_same a.masks t mask empty number) lawful
    | inr other ↦ rw (get_or-set_other a.masks t u mask empty other) (ix.masks u)
  ];
  places_count = ix.places_count ∙ sym (length-set a.masks t mask);
  feeders_count = ix.feeders_count;
  place = ix.place;
  occupant = ix.occupant;
  occupied = ix.occupied;
  fed = λ q p lt. ix.fed q p lt ∙ kept q (occupant_in a p) (nowhere p);
}
  where
    kept : (q : ℕ) (o : Option ℕ) → (o ≡ Some t → ⊥) → mask_has a o q ≡ mask_has (with_mask a t mask) o q
    kept q None other = refl
    kept q (Some u) other =
        ap (λ (X : ℕ). has X q) (sym (get_or-set_other a.masks t u mask empty (λ same. other (ap (λ (n : ℕ). Some n) same))))
