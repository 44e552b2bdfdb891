-- The canonical list of a set is a processor list of it: its runs are found from 0 upward, and each is an item.
use Rattle.std.proofs.Common.{◌≡◌, ◌≢◌, ℕ, zero, suc, Bool, true, false, not, ◌&&◌, ◌||◌, ◌-◌, ◌<◌, ◌≤◌, ◌⊎◌, inl, inr, nat_eq, nat_lt}
use Rattle.std.proofs.Common.{nat_le, refl, sym, ap, ap₂, ◌∙◌, arith, ⊎_elim, eq-eqb, ne_eqb, List, [], ◌∷◌, ◌++◌, map, All, Any, add-one}
use Rattle.std.specs.List.{list_any, zip, join_with_byte}
use Rattle.std.proofs.lemmas.Bool.{cases_eq, cases_Bool, true≢false}
use Rattle.std.proofs.Math.Bool.{or_assoc, or-false, and-true, and-false}
use Rattle.std.proofs.lemmas.List.{map-append}
use Rattle.std.proofs.lemmas.List.Folds.{list_any-append}
use Rattle.std.proofs.lemmas.List.Elements.{All-nil, All-push, All-weaker, All-map}
use Rattle.std.proofs.lemmas.Fmt.{decimal_is_IsNumeral}
use Rattle.affinity_mask.specs.Number.{IsNumber, number_value, canonical_number}
use Rattle.affinity_mask.specs.ProcSet.{has, empty, all_below, Within, passing_below}
use Rattle.affinity_mask.specs.ListText.{comma, IsItem, Item, IsWellFormed, IsListText, begins_run, ends_run, run_text, canonical_list}
use Rattle.affinity_mask.proofs.Sets.{has-all_below, has-intersection, intersection-all_below, empty_from_none}
use Rattle.affinity_mask.specs.ListSteps.{item_covers}
use Rattle.affinity_mask.proofs.Lists.{passing_more, passing_same}
use Rattle.affinity_mask.proofs.Unions.{Any-from_covers, covers_from_Any}

-- whether the run has p
covers : ℕ → ℕ × ℕ → Bool
covers p run = nat_le run.0 p && nat_le p run.1

-- whether one of the runs has p
pub covered : List (ℕ × ℕ) → ℕ → Bool
covered done p = list_any (covers p) done

-- the ends of the run are in order, and below n
abbrev pub Ascends : ℕ → ℕ × ℕ → Type 0
Ascends n run = (run.0 ≤ run.1) × (run.1 < n)

-- below n there are just these runs, and none of them goes on at n
pub record IsClosed (X n : ℕ) (done : List (ℕ × ℕ)) : Type 0 where
  pub starts : passing_below (begins_run X) n ≡ map (λ (run : ℕ × ℕ). run.0) done
  pub ends : passing_below (ends_run X) n ≡ map (λ (run : ℕ × ℕ). run.1) done
  pub ascending : All (Ascends n) done
  pub same : (p : ℕ) → covered done p ≡ (has X p && nat_lt p n)
  pub fresh : begins_run X n ≡ has X n

-- below n there are these runs, and one more that began at start and goes on at n
pub record IsOpen (X n : ℕ) (done : List (ℕ × ℕ)) (start : ℕ) : Type 0 where
  pub starts : passing_below (begins_run X) n ≡ map (λ (run : ℕ × ℕ). run.0) done ++ start ∷ []
  pub ends : passing_below (ends_run X) n ≡ map (λ (run : ℕ × ℕ). run.1) done
  pub ascending : All (Ascends n) done
  pub below : start < n
  pub same : (p : ℕ) → (covered done p || (nat_le start p && nat_lt p n)) ≡ (has X p && nat_lt p n)
  pub member : has X n ≡ true
  pub goes_on : begins_run X n ≡ false

pub begins-suc : (X n : ℕ) → begins_run X (suc n) ≡ (has X (suc n) && not (has X n))
begins-suc X n =
    let e : suc n - 1 ≡ n = omega arith in
    let ne : suc n ≢ 0 = omega arith in
    rw (ne_eqb (suc n) 0 ne, e) refl

pub ends-suc : (X n : ℕ) → ends_run X n ≡ (has X n && not (has X (suc n)))
ends-suc X n = rw (add-one n) refl

below-suc : (p n : ℕ) → p ≢ n → nat_lt p (suc n) ≡ nat_lt p n
below-suc p n ne = grind arith

none_below : (p : ℕ) → nat_lt p 0 ≡ false
none_below p = grind arith

here : (n : ℕ) → nat_lt n (suc n) ≡ (nat_lt n n || nat_eq n n)
here n = grind arith

-- what one more number adds to the members below n
out_at : (X n p : ℕ) → has X n ≡ false → (has X p && nat_lt p (suc n)) ≡ (has X p && nat_lt p n)
out_at X n p out =
    ⊎_elim (λ (e : p ≡ n). rw e (rw out refl)) (λ (ne : p ≢ n). rw (below-suc p n ne) refl) (cases_eq p n)

in_at : (X n p : ℕ) → has X n ≡ true → (has X p && nat_lt p (suc n)) ≡ ((has X p && nat_lt p n) || nat_eq p n)
in_at X n p inside =
    ⊎_elim (λ (e : p ≡ n). rw e (rw inside (here n)))
    (λ (ne : p ≢ n). rw (below-suc p n ne, ne_eqb p n ne) (sym (or-false _)))
    (cases_eq p n)

-- what one more number adds to a run
run_grows : (start n p : ℕ) → start ≤ n → (nat_le start p && nat_lt p (suc n)) ≡ ((nat_le start p && nat_lt p n) || nat_eq p n)
run_grows start n p le = grind arith

run_ends : (start n p : ℕ) → start ≤ n → (nat_le start p && nat_le p n) ≡ ((nat_le start p && nat_lt p n) || nat_eq p n)
run_ends start n p le = grind arith

run_alone : (n p : ℕ) → (nat_le n p && nat_le p n) ≡ nat_eq p n
run_alone n p = grind arith

run_opens : (n p : ℕ) → (nat_le n p && nat_lt p (suc n)) ≡ nat_eq p n
run_opens n p = grind arith

all_further : (n : ℕ) (done : List (ℕ × ℕ)) → All (Ascends n) done → All (Ascends (suc n)) done
all_further n done all =
    All-weaker (Ascends n) (Ascends (suc n)) (λ run h. (h.0, omega (arith, h.1))) done all

all_push : (n start : ℕ) (done : List (ℕ × ℕ)) → All (Ascends n) done → start ≤ n → All (Ascends (suc n)) (done ++ (start, n) ∷ [])
all_push n start done all le =
    let last : Ascends (suc n) (start, n) = (le, omega arith) in
    All-push (Ascends (suc n)) done (start, n) (all_further n done all) last

covered-push : (done : List (ℕ × ℕ)) (run : ℕ × ℕ) (p : ℕ) → covered (done ++ run ∷ []) p ≡ (covered done p || covers p run)
unfolding covered
covered-push done run p = list_any-append (covers p) done (run ∷ []) ∙ ap (λ (b : Bool). covered done p || b) (or-false (covers p run))

-- no run goes on, and n is no member
pub skip : (X n : ℕ) (done : List (ℕ × ℕ)) → IsClosed X n done → has X n ≡ false → IsClosed X (suc n) done
skip X n done c out = record {
  starts = passing_same (begins_run X) n (c.fresh ∙ out) ∙ c.starts;
  ends = passing_same (ends_run X) n (rw out refl) ∙ c.ends;
  ascending = all_further n done c.ascending;
  same = λ p. c.same p ∙ sym (out_at X n p out);
  fresh = begins-suc X n ∙ rw out (and-true (has X (suc n)));
}

-- a run of n alone
pub single : (X n : ℕ) (done : List (ℕ × ℕ)) → IsClosed X n done → has X n ≡ true → has X (suc n) ≡ false
    → IsClosed X (suc n) (done ++ (n, n) ∷ [])
unfolding covers
single X n done c inside next = record {
  starts =
      passing_more (begins_run X) n (c.fresh ∙ inside) ∙ ap (λ (xs : List ℕ). xs ++ n ∷ []) c.starts
      ∙ sym (map-append (λ (run : ℕ × ℕ). run.0) done ((n, n) ∷ []));
  ends =
      passing_more (ends_run X) n (ends-suc X n ∙ rw (inside, next) refl) ∙ ap (λ (xs : List ℕ). xs ++ n ∷ []) c.ends
      ∙ sym (map-append (λ (run : ℕ × ℕ). run.1) done ((n, n) ∷ []));
  ascending = all_push n n done c.ascending (omega arith);
  same = λ p. covered-push done (n, n) p ∙ ap₂ (λ (a b : Bool). a || b) (c.same p) (run_alone n p) ∙ sym (in_at X n p inside);
  fresh = begins-suc X n ∙ rw next refl;
}

-- a run begins at n and goes on
pub begin : (X n : ℕ) (done : List (ℕ × ℕ)) → IsClosed X n done → has X n ≡ true → has X (suc n) ≡ true → IsOpen X (suc n) done n
begin X n done c inside next = record {
  starts = passing_more (begins_run X) n (c.fresh ∙ inside) ∙ ap (λ (xs : List ℕ). xs ++ n ∷ []) c.starts;
  ends = passing_same (ends_run X) n (ends-suc X n ∙ rw (inside, next) refl) ∙ c.ends;
  ascending = all_further n done c.ascending;
  below = omega arith;
  same = λ p. ap₂ (λ (a b : Bool). a || b) (c.same p) (run_opens n p) ∙ sym (in_at X n p inside);
  member = next;
  goes_on = begins-suc X n ∙ rw (next, inside) refl;
}

-- the run that began at start ends at n
pub finish : (X n : ℕ) (done : List (ℕ × ℕ)) (start : ℕ) → IsOpen X n done start → has X (suc n) ≡ false
    → IsClosed X (suc n) (done ++ (start, n) ∷ [])
unfolding covers
finish X n done start o next = record {
  starts =
      passing_same (begins_run X) n o.goes_on ∙ o.starts
      ∙ sym (map-append (λ (run : ℕ × ℕ). run.0) done ((start, n) ∷ []));
  ends =
      passing_more (ends_run X) n (ends-suc X n ∙ rw (o.member, next) refl) ∙ ap (λ (xs : List ℕ). xs ++ n ∷ []) o.ends
      ∙ sym (map-append (λ (run : ℕ × ℕ). run.1) done ((start, n) ∷ []));
  ascending = all_push n start done o.ascending (omega (arith, o.below));
  same = λ p.
      covered-push done (start, n) p
      ∙ ap (λ (b : Bool). covered done p || b) (run_ends start n p (omega (arith, o.below)))
      ∙ sym (or_assoc (covered done p) (nat_le start p && nat_lt p n) (nat_eq p n))
      ∙ ap (λ (b : Bool). b || nat_eq p n) (o.same p)
      ∙ sym (in_at X n p o.member);
  fresh = begins-suc X n ∙ rw next refl;
}

-- the run that began at start goes on past n
pub stay : (X n : ℕ) (done : List (ℕ × ℕ)) (start : ℕ) → IsOpen X n done start → has X (suc n) ≡ true → IsOpen X (suc n) done start
stay X n done start o next = record {
  starts = passing_same (begins_run X) n o.goes_on ∙ o.starts;
  ends = passing_same (ends_run X) n (ends-suc X n ∙ rw (o.member, next) refl) ∙ o.ends;
  ascending = all_further n done o.ascending;
  below = omega (arith, o.below);
  same = λ p.
      ap (λ (b : Bool). covered done p || b) (run_grows start n p (omega (arith, o.below)))
      ∙ sym (or_assoc (covered done p) (nat_le start p && nat_lt p n) (nat_eq p n))
      ∙ ap (λ (b : Bool). b || nat_eq p n) (o.same p)
      ∙ sym (in_at X n p o.member);
  member = next;
  goes_on = begins-suc X n ∙ rw (next, o.member) refl;
}

-- the runs below n, for each n
RunsExist : ℕ → ℕ → Type 0
RunsExist X n = ((done : List (ℕ × ℕ)) × IsClosed X n done) ⊎ ((done : List (ℕ × ℕ)) × (start : ℕ) × IsOpen X n done start)

pub found_none : (X : ℕ) → IsClosed X 0 []
unfolding passing_below covered
found_none X = record {
  starts = refl;
  ends = refl;
  ascending = All-nil (Ascends 0);
  same = λ p. rw (none_below p) (sym (and-false (has X p)));
  fresh = and-true (has X 0);
}

found_more : (X n : ℕ) → RunsExist X n → RunsExist X (suc n)
unfolding RunsExist
found_more X n (inl (done, c)) =
    ⊎_elim
    (λ (inside : has X n ≡ true). ⊎_elim
    (λ (next : has X (suc n) ≡ true). inr (done, n, begin X n done c inside next))
    (λ (next : has X (suc n) ≡ false). inl (done ++ (n, n) ∷ [], single X n done c inside next))
    (cases_Bool (has X (suc n))))
    (λ (out : has X n ≡ false). inl (done, skip X n done c out))
    (cases_Bool (has X n))
found_more X n (inr (done, start, o)) =
    ⊎_elim
    (λ (next : has X (suc n) ≡ true). inr (done, start, stay X n done start o next))
    (λ (next : has X (suc n) ≡ false). inl (done ++ (start, n) ∷ [], finish X n done start o next))
    (cases_Bool (has X (suc n)))

found : (X n : ℕ) → RunsExist X n
unfolding RunsExist
found X zero = inl ([], found_none X)
found X (suc n) = found_more X n (found X n)

-- ---- from runs to items

pub zip_back : (done : List (ℕ × ℕ)) → zip (map (λ (run : ℕ × ℕ). run.0) done) (map (λ (run : ℕ × ℕ). run.1) done) ≡ done
zip_back [] = refl
zip_back (run ∷ done) = ap (λ (rest : List (ℕ × ℕ)). run ∷ rest) (zip_back done)

-- the text of a run, with its ends
abbrev item_of : ℕ × ℕ → Item
item_of run = record { text = run_text run; low = run.0; high = run.1 }

texts_of_items : (done : List (ℕ × ℕ)) → map (λ (item : Item). item.text) (map item_of done) ≡ map run_text done
texts_of_items [] = refl
texts_of_items (run ∷ done) = ap (λ (rest : List (List ℕ)). run_text run ∷ rest) (texts_of_items done)

pub number_of : (n : ℕ) → n < 64 → IsNumber (canonical_number n) × (number_value (canonical_number n) ≡ n)
number_of n below = decimal_is_IsNumeral n (omega arith)

item_form : (low high : ℕ) → low < 64 → high < 64 → IsItem (run_text (low, high)) low high
item_form low high p q =
    ⊎_elim
    (λ (e : low ≡ high). rw (eq-eqb low high e) (inl ((number_of low p).0, (number_of low p).1, e)))
    (λ (ne : low ≢ high). rw (ne_eqb low high ne)
    (inr (
      canonical_number low,
      canonical_number high,
      refl,
      (number_of low p).0,
      (number_of high q).0,
      (number_of low p).1,
      (number_of high q).1,
    )))
    (cases_eq low high)

item_lawful : (run : ℕ × ℕ) → Ascends 64 run → IsWellFormed (item_of run)
item_lawful run h = record {
  form = item_form run.0 run.1 (omega (arith, h.0, h.1)) h.1;
  ascends = h.0;
  small = omega (arith, h.1);
}

covered-items : (done : List (ℕ × ℕ)) (p : ℕ) → list_any (item_covers p) (map item_of done) ≡ covered done p
unfolding covered covers
covered-items [] p = refl
covered-items (run ∷ done) p = ap (λ (rest : Bool). covers p run || rest) (covered-items done p)

-- a run that has p is an item that has p, and the other way round
covered-Any : (done : List (ℕ × ℕ)) (p : ℕ) → covered done p ≡ true
    → Any (λ (item : Item). (item.low ≤ p) × (p ≤ item.high)) (map item_of done)
covered-Any done p e = Any-from_covers p (map item_of done) (covered-items done p ∙ e)

Any-covered : (done : List (ℕ × ℕ)) (p : ℕ) → Any (λ (item : Item). (item.low ≤ p) × (p ≤ item.high)) (map item_of done)
    → covered done p ≡ true
Any-covered done p any = sym (covered-items done p) ∙ covers_from_Any p (map item_of done) any

-- a set of processors has no member but those below 64
all_inside : (X p : ℕ) → Within X (all_below 64) → (has X p && nat_lt p 64) ≡ has X p
all_inside X p within =
    rw (← has-all_below 64 p, ← has-intersection X (all_below 64) p)
    (ap (λ (Y : ℕ). has Y p) (intersection-all_below X 64 within))

list_of_runs : (X : ℕ) (done : List (ℕ × ℕ)) → IsClosed X 64 done → X ≢ empty → Within X (all_below 64) → IsListText (canonical_list X) X
unfolding covered
list_of_runs X [] c some within =
    absurd (some (empty_from_none X (λ q. sym (all_inside X q within) ∙ sym (c.same q))))
list_of_runs X (run ∷ more) c some within =
    let same : (p : ℕ) → covered (run ∷ more) p ≡ has X p = λ p. c.same p ∙ all_inside X p within in (
      item_of run,
      map item_of more,
      record {
        joined =
            ap (λ (found : List (ℕ × ℕ)). join_with_byte comma (map run_text found)) (ap₂ zip c.starts c.ends ∙ zip_back (run ∷ more))
            ∙ sym (ap (join_with_byte comma) (texts_of_items (run ∷ more)));
        well_formed =
            All-map IsWellFormed item_of (run ∷ more)
            (All-weaker (Ascends 64) (λ (run : ℕ × ℕ). IsWellFormed (item_of run)) item_lawful (run ∷ more) c.ascending);
        union = λ p. (λ h. covered-Any (run ∷ more) p (same p ∙ h), λ any. sym (same p) ∙ Any-covered (run ∷ more) p any);
      },
    )

pub canonical_list-IsListText : (X : ℕ) → X ≢ empty → Within X (all_below 64) → IsListText (canonical_list X) X
unfolding RunsExist
canonical_list-IsListText X some within =
    elim (found X 64) [
      | inl (done, c) ↦ list_of_runs X done c some within
      | inr (done, start, o) ↦ absurd (true≢false (sym (within 64 o.member) ∙ has-all_below 64 64))
    ]
