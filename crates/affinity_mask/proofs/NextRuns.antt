-- The next run of a set, and what it adds to the canonical list.
use Rattle.std.proofs.Common.{◌≡◌, ◌≢◌, ℕ, zero, suc, ◌+◌, ◌-◌, ◌<◌, ◌≤◌, inl, inr, Bool, true, false, not, ◌&&◌, nat_eq, nat_lt, List, []}
use Rattle.std.proofs.Common.{◌∷◌, ◌++◌, length, refl, sym, ◌∙◌, ap, ap₂, arith, ⊎_elim, ne_eqb, eq-eqb, append_assoc, add-one}
use Rattle.std.proofs.Common.{if◌then◌else◌}
use Rattle.std.proofs.lemmas.Bool.{cases_Bool, cases_eq, cases_lt, le-ltb, lt-ltb, true≢false}
use Rattle.std.proofs.Math.Bool.{and-true}
use Rattle.affinity_mask.specs.Number.{canonical_number}
use Rattle.affinity_mask.specs.ProcSet.{has, empty, all_below, Within, IsLeastMember}
use Rattle.affinity_mask.specs.ListText.{comma, dash, begins_run, ends_run, run_text, canonical_list}
use Rattle.affinity_mask.specs.ListSteps.{list_below, RunsTo, IsBetween, IsNextRun, item_text}
use Rattle.affinity_mask.proofs.Sets.{has-all_below, has-zero}
use Rattle.affinity_mask.proofs.Runs.{begins-suc, ends-suc}
use Rattle.affinity_mask.proofs.Written.{adds_nothing, adds_first, adds_last, run_longer, list_below-same, list_below-all}

-- ---- tests

never : (b : Bool) → (b && false) ≡ false
never true = refl
never false = refl

first_of : (a b : Bool) → (a && b) ≡ true → a ≡ true
first_of true b e = refl
first_of false b e = e

flipped : (b : Bool) → not b ≡ true → b ≡ false
flipped true e = sym e
flipped false e = refl

-- ---- the run of a member

-- the numbers from p on that are no members
abbrev pub AreGaps : ℕ → ℕ → ℕ → Type 0
AreGaps X p Z = (q : ℕ) → has Z q ≡ ((nat_lt q 64 && not (has X q)) && not (nat_lt q p))

pub gaps_from : (A X B F Z p : ℕ) → ((q : ℕ) → has A q ≡ nat_lt q 64)
    → ((q : ℕ) → has B q ≡ (has A q && not (has X q))) → ((q : ℕ) → has F q ≡ nat_lt q p)
    → ((q : ℕ) → has Z q ≡ (has B q && not (has F q))) → AreGaps X p Z
gaps_from A X B F Z p a b f z q =
    z q
    ∙ ap₂ (λ (s t : Bool). s && not t) (b q ∙ ap (λ (s : Bool). s && not (has X q)) (a q)) (f q)

gap_is : (X Z q p : ℕ) → AreGaps X p Z → q < 64 → p ≤ q → has Z q ≡ not (has X q)
gap_is X Z q p gaps small le =
    gaps q ∙ rw (lt-ltb q 64 small, le-ltb q p le) (and-true (not (has X q)))

-- the least gap comes after the run
pub run_to_gap : (X Z p next : ℕ) → AreGaps X p Z → has X p ≡ true → IsLeastMember Z next → next < 64
    → (p < next) × RunsTo X p (next - 1)
run_to_gap X Z p next gaps member least small =
    (above, record { ascends = omega (arith, above); small = omega arith; members = inside; over = ended })
  where
    from : p ≤ next
    from = elim (cases_lt next p) [
      | inr late ↦ late
      | inl early ↦ absurd (true≢false
          (sym least.0 ∙ gaps next ∙ rw (lt-ltb next p early) (never (nat_lt next 64 && not (has X next)))))
    ]

    absent : has X next ≡ false
    absent = flipped (has X next) (sym (gap_is X Z next p gaps small from) ∙ least.0)

    above : p < next
    above = ⊎_elim
        (λ (same : p ≡ next). absurd (true≢false (sym member ∙ ap (λ (q : ℕ). has X q) same ∙ absent)))
        (λ (ne : p ≢ next). omega (arith, from))
        (cases_eq p next)

    inside : (i : ℕ) → p ≤ i → i ≤ next - 1 → has X i ≡ true
    inside i low high = elim (cases_Bool (has X i)) [
      | inl here ↦ here
      | inr out ↦
          let gap : has Z i ≡ true = gap_is X Z i p gaps (omega (arith, above)) low ∙ rw out refl in
          let late : next ≤ i = least.1 i gap in
          absurd (omega (arith, above))
    ]

    ended : has X (next - 1 + 1) ≡ false
    ended = let same : next - 1 + 1 ≡ next = omega (arith, above) in ap (λ (q : ℕ). has X q) same ∙ absent

-- without gaps the run ends at the last processor
pub run_to_last : (X Z p : ℕ) → AreGaps X p Z → Z ≡ empty → p < 64 → Within X (all_below 64) → RunsTo X p 63
run_to_last X Z p gaps none small within = record {
  ascends = omega arith;
  small = omega arith;
  members = inside;
  over = ended;
}
  where
    inside : (i : ℕ) → p ≤ i → i ≤ 63 → has X i ≡ true
    inside i low high = elim (cases_Bool (has X i)) [
      | inl here ↦ here
      | inr out ↦
          let gap : has Z i ≡ true = gap_is X Z i p gaps (omega arith) low ∙ rw out refl in
          absurd (true≢false (sym gap ∙ ap (λ (Y : ℕ). has Y i) none ∙ has-zero i))
    ]

    ended : has X 64 ≡ false
    ended = elim (cases_Bool (has X 64)) [
      | inr out ↦ out
      | inl here ↦ absurd (true≢false (sym (within 64 here) ∙ has-all_below 64 64))
    ]

-- ---- what a run adds

begins_here : (X n low : ℕ) → IsBetween X n → n ≤ low → has X low ≡ true
    → ((q : ℕ) → n ≤ q → q < low → has X q ≡ false) → begins_run X low ≡ true
begins_here X n low between le inside out =
    ⊎_elim
    (λ (e : low ≡ 0). rw (inside, eq-eqb low 0 e) refl)
    (λ (ne : low ≢ 0). rw (inside, ne_eqb low 0 ne, before ne) refl)
    (cases_eq low 0)
  where
    not_at : low ≢ 0 → low ≡ n → ⊥
    not_at ne same = elim between.apart [
      | inl start ↦ ne (same ∙ start)
      | inr none ↦ true≢false (sym inside ∙ ap (λ (q : ℕ). has X q) same ∙ none)
    ]

    before : low ≢ 0 → has X (low - 1) ≡ false
    before ne = elim (cases_lt (low - 1) n) [
      | inr later ↦ out (low - 1) later (omega arith)
      | inl sooner ↦ (let same : low ≡ n = omega arith in absurd (not_at ne same))
    ]

-- within a run nothing is added
stays : (X low h : ℕ) → low ≤ h → ((i : ℕ) → low ≤ i → i ≤ suc h → has X i ≡ true)
    → list_below X (suc h) ≡ list_below X (suc low)
stays X low zero le members = let same : 0 ≡ low = omega arith in ap (λ (n : ℕ). list_below X (suc n)) same
stays X low (suc h) le members =
    ⊎_elim
    (λ (same : suc h ≡ low). ap (λ (n : ℕ). list_below X (suc n)) same)
    (λ (ne : suc h ≢ low).
    let here : has X (suc h) ≡ true = members (suc h) (omega arith) (omega arith) in
    let before : has X h ≡ true = members h (omega arith) (omega arith) in
    let next : has X (suc (suc h)) ≡ true = members (suc (suc h)) (omega arith) (omega arith) in
    adds_nothing X (suc h) (begins-suc X h ∙ rw (here, before) refl) (ends-suc X (suc h) ∙ rw (here, next) refl)
    ∙ stays X low h (omega arith) (λ i from to. members i from (omega arith)))
    (cases_eq (suc h) low)

-- a comma, unless the list has nothing yet
comma_after : List ℕ → List ℕ
comma_after ys = if nat_eq (length ys) 0 then [] else comma ∷ []

alone_added : (X low high : ℕ) → low ≡ high → begins_run X low ≡ true
    → list_below X (suc high) ≡ list_below X low ++ (comma_after (list_below X low) ++ run_text (low, high))
unfolding comma_after
alone_added X low high same begins =
    ap (λ (n : ℕ). list_below X (suc n)) (sym same) ∙ adds_first X low begins
    ∙ ap (λ (ys : List ℕ). list_below X low ++ ((if nat_eq (length (list_below X low)) 0 then [] else comma ∷ []) ++ ys))
    (sym (one low high same))
  where
    one : (low high : ℕ) → low ≡ high → run_text (low, high) ≡ canonical_number low
    one low high same = rw (eq-eqb low high same) refl

last_added : (X low high : ℕ) → low < high → RunsTo X low high → begins_run X low ≡ true
    → list_below X (suc high) ≡ list_below X low ++ (comma_after (list_below X low) ++ run_text (low, high))
unfolding comma_after
last_added X low high less run begins =
    adds_last X high out ends
    ∙ ap (λ (ys : List ℕ). ys ++ last) (up ∙ adds_first X low begins)
    ∙ append_assoc (list_below X low) (mark ++ canonical_number low) last
    ∙ ap (λ (ys : List ℕ). list_below X low ++ ys) (append_assoc mark (canonical_number low) last)
    ∙ ap (λ (ys : List ℕ). list_below X low ++ (mark ++ ys)) (sym (run_longer low high less))
  where
    last : List ℕ
    last = dash ∷ canonical_number high

    mark : List ℕ
    mark = if nat_eq (length (list_below X low)) 0 then [] else comma ∷ []

    here : has X high ≡ true
    here = run.members high run.ascends (omega arith)

    before : has X (high - 1) ≡ true
    before = run.members (high - 1) (omega arith) (omega arith)

    out : begins_run X high ≡ false
    out = let ne : high ≢ 0 = omega arith in rw (here, ne_eqb high 0 ne, before) refl

    ends : ends_run X high ≡ true
    ends = rw (here, run.over) refl

    up : list_below X high ≡ list_below X (suc low)
    up =
        let same : high ≡ suc (high - 1) = omega arith in
        ap (list_below X) same
        ∙ stays X low (high - 1) (omega arith) (λ i from to. run.members i from (omega arith))

run_added : (X low high : ℕ) → RunsTo X low high → begins_run X low ≡ true
    → list_below X (high + 1)
    ≡ list_below X low ++ item_text (nat_eq (length (list_below X low)) 0) low high
unfolding item_text comma_after
run_added X low high run begins =
    ap (list_below X) (add-one high)
    ∙ ⊎_elim
    (λ (same : low ≡ high). alone_added X low high same begins)
    (λ (ne : low ≢ high). last_added X low high (let le = run.ascends in omega arith) run begins)
    (cases_eq low high)

-- ---- the first run from a number on

-- the least member from n on
least_from : (X Y n p : ℕ) → ((q : ℕ) → has Y q ≡ (has X q && not (nat_lt q n))) → IsLeastMember Y p
    → (n ≤ p) × (has X p ≡ true) × ((q : ℕ) → n ≤ q → q < p → has X q ≡ false)
least_from X Y n p rest least =
    (from, first_of (has X p) (not (nat_lt p n)) (sym (rest p) ∙ least.0), outside)
  where
    from : n ≤ p
    from = elim (cases_lt p n) [
      | inr high ↦ high
      | inl low ↦ absurd (true≢false (sym least.0 ∙ rest p ∙ rw (lt-ltb p n low) (never (has X p))))
    ]

    outside : (q : ℕ) → n ≤ q → q < p → has X q ≡ false
    outside q low high = elim (cases_Bool (has X q)) [
      | inr out ↦ out
      | inl member ↦
          let first : p ≤ q = least.1 q (rest q ∙ rw (member, le-ltb q n low) refl) in
          absurd (omega arith)
    ]

-- what is left from n on
pub rest_from : (X Y F n : ℕ) → ((q : ℕ) → has Y q ≡ (has X q && not (has F q)))
    → ((q : ℕ) → has F q ≡ nat_lt q n) → (q : ℕ) → has Y q ≡ (has X q && not (nat_lt q n))
rest_from X Y F n rest first q = rest q ∙ ap (λ (b : Bool). has X q && not b) (first q)

pub next_run : (X Y n low high : ℕ) → ((q : ℕ) → has Y q ≡ (has X q && not (nat_lt q n)))
    → IsLeastMember Y low → IsBetween X n → RunsTo X low high → IsNextRun X n low high
next_run X Y n low high rest least between run =
    let first = least_from X Y n low rest least in
    let same : list_below X low ≡ list_below X n = list_below-same X n low first.0 first.2 in
    record {
      from = first.0;
      ascends = run.ascends;
      small = run.small;
      after = record { few = (let s = run.small in omega arith); apart = inr run.over };
      adds =
          run_added X low high run (begins_here X n low between first.0 first.1 first.2)
          ∙ ap (λ (ys : List ℕ). ys ++ item_text (nat_eq (length ys) 0) low high) same;
    }

-- the whole text, where no member is left
pub up_to_end : (X Y n : ℕ) → n ≤ 64 → ((q : ℕ) → has Y q ≡ (has X q && not (nat_lt q n))) → Y ≡ empty
    → Within X (all_below 64) → list_below X n ≡ canonical_list X
up_to_end X Y n le rest none within =
    sym (list_below-same X n 64 le outside) ∙ list_below-all X within
  where
    outside : (q : ℕ) → n ≤ q → q < 64 → has X q ≡ false
    outside q low high = elim (cases_Bool (has X q)) [
      | inr out ↦ out
      | inl member ↦ absurd (true≢false
          (sym (rest q ∙ rw (member, le-ltb q n low) refl) ∙ ap (λ (Z : ℕ). has Z q) none ∙ has-zero q))
    ]
