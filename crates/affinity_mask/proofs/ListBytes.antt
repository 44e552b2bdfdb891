-- The bytes of a canonical list, as they are written and compared run by run.
use Rattle.std.proofs.Common.{◌≡◌, ◌≢◌, ℕ, zero, suc, ◌+◌, ◌/◌, ◌%◌, ◌<◌, ◌≤◌, inl, inr, Bool, true, false, nat_eq, Option, Some, None, Bor}
use Rattle.std.proofs.Common.{List, [], ◌∷◌, ◌++◌, length, take, refl, sym, ◌∙◌, ap, arith, ne_eqb, append_assoc, append-nil, length-append}
use Rattle.std.proofs.Common.{if◌then◌else◌}
use Rattle.std.proofs.lemmas.Bool.{cases_lt}
use Rattle.std.proofs.lemmas.Fmt.{decimal_digit, decimal_step}
use Rattle.std.proofs.lemmas.List.{take-take}
use Rattle.std.proofs.Math.Seq.{take-append_seam}
use Rattle.affinity_mask.specs.Number.{canonical_number}
use Rattle.affinity_mask.specs.ProcSet.{all_below, Within}
use Rattle.affinity_mask.specs.ListText.{comma, dash, run_text, canonical_list}
use Rattle.affinity_mask.specs.ListSteps.{list_below, end_text, IsNextRun, item_text, AfterFront}
use Rattle.affinity_mask.proofs.Written.{list_below-all}

-- ---- numbers below 100

pub two_digits : (n : ℕ) → 10 ≤ n → n < 100
    → canonical_number n ≡ ((48 + n / 10) ∷ []) ++ ((48 + n % 10) ∷ [])
two_digits n more small =
    decimal_step n more (omega arith)
    ∙ ap (λ (ds : List ℕ). ds ++ ((48 + n % 10) ∷ [])) (decimal_digit (n / 10) (omega arith))

pub one_digit : (n : ℕ) → n < 10 → canonical_number n ≡ (48 + n) ∷ []
one_digit n small = decimal_digit n small

pub digits_appended : (n : ℕ) (old mid new : List ℕ) → 10 ≤ n → n < 100 → mid ≡ old ++ (48 + n / 10) ∷ []
    → new ≡ mid ++ (48 + n % 10) ∷ [] → new ≡ old ++ canonical_number n
digits_appended n old mid new more small one two =
    two ∙ ap (λ (ys : List ℕ). ys ++ (48 + n % 10) ∷ []) one
    ∙ append_assoc old ((48 + n / 10) ∷ []) ((48 + n % 10) ∷ [])
    ∙ ap (λ (ys : List ℕ). old ++ ys) (sym (two_digits n more small))

-- ---- what is appended

-- what a prefix of the bytes was stays so
pub prefix_kept : (old more mid new : List ℕ) → mid ≡ old ++ more → take (length mid) new ≡ mid
    → take (length old) new ≡ old
prefix_kept old more mid new grown prefix =
    sym (take-take (length old) (length mid) new (omega (arith, ap length grown, length-append old more)))
    ∙ ap (take (length old)) (prefix ∙ grown)
    ∙ take-append_seam old more

pub item_appended : (is_first : Bool) (low high : ℕ) (old mid : List ℕ)
    → mid ≡ old ++ (if is_first then [] else comma ∷ [])
    → mid ++ run_text (low, high) ≡ old ++ item_text is_first low high
unfolding item_text
item_appended is_first low high old mid e =
    ap (λ (ys : List ℕ). ys ++ run_text (low, high)) e
    ∙ append_assoc old (if is_first then [] else comma ∷ []) (run_text (low, high))

shorter_by : (a b : ℕ) → nat_eq b (a + b) ≡ nat_eq a 0
shorter_by a b = grind arith

-- ---- what is compared

same_rest : (a b c : List ℕ) → a ++ b ≡ a ++ c → b ≡ c
same_rest [] b c e = e
same_rest (x ∷ a) b c e = let rest : a ++ b ≡ a ++ c = cc in same_rest a b c rest

-- two parts, one after the other
pub none_after : (text a b : List ℕ) → ((after : List ℕ) → text ≡ a ++ after → ⊥) → (after : List ℕ)
    → text ≡ (a ++ b) ++ after → ⊥
none_after text a b none after e = none (b ++ after) (e ∙ append_assoc a b after)

pub then_after : (text a b mid : List ℕ) (result : Option (Bor (List ℕ))) → text ≡ a ++ mid
    → AfterFront mid b result → AfterFront text (a ++ b) result
then_after text a b mid None cut none =
    λ after e. none after (same_rest a mid (b ++ after) (sym cut ∙ e ∙ append_assoc a b after))
then_after text a b mid (Some after) cut more =
    cut ∙ ap (λ (ys : List ℕ). a ++ ys) more ∙ sym (append_assoc a b after.now)

-- the text of a run that is longer
pub run_longer_text : (low high : ℕ) → low ≢ high
    → run_text (low, high) ≡ canonical_number low ++ ((dash ∷ []) ++ canonical_number high)
run_longer_text low high ne = rw (ne_eqb low high ne) refl

-- the first item, and a later one
pub item_first : (is_first : Bool) (low high : ℕ) → is_first ≡ true → item_text is_first low high ≡ run_text (low, high)
unfolding item_text
item_first is_first low high e = rw e refl

pub item_later : (is_first : Bool) (low high : ℕ) → is_first ≡ false
    → item_text is_first low high ≡ (comma ∷ []) ++ run_text (low, high)
unfolding item_text
item_later is_first low high e = rw e refl

-- ---- the list, run by run

below_step : (X m : ℕ) → list_below X (suc m) ≡ list_below X m ++ end_text X (nat_eq (length (list_below X m)) 0) m
unfolding list_below
below_step X m = refl

-- the list below a number is a prefix of that below a greater one
below_begins : (X n m : ℕ) → n ≤ m → (tail : List ℕ) × (list_below X m ≡ list_below X n ++ tail)
below_begins X n zero le =
    let same : 0 ≡ n = omega arith in
    ([], ap (list_below X) same ∙ sym (append-nil (list_below X n)))
below_begins X n (suc m) le = elim (cases_lt m n) [
  | inl above ↦
      let same : suc m ≡ n = omega arith in
      ([], ap (list_below X) same ∙ sym (append-nil (list_below X n)))
  | inr within ↦ one_more X n m (below_begins X n m within)
]
  where
    one_more : (X n m : ℕ) → ((tail : List ℕ) × (list_below X m ≡ list_below X n ++ tail))
        → (tail : List ℕ) × (list_below X (suc m) ≡ list_below X n ++ tail)
    one_more X n m (tail, e) = (
      tail ++ end_text X (nat_eq (length (list_below X m)) 0) m,
      below_step X m
          ∙ ap (λ (ys : List ℕ). ys ++ end_text X (nat_eq (length (list_below X m)) 0) m) e
          ∙ append_assoc (list_below X n) tail (end_text X (nat_eq (length (list_below X m)) 0) m),
    )

first_flag : (X n : ℕ) (is_first : Bool) (text rest : List ℕ) → text ≡ list_below X n ++ rest
    → is_first ≡ nat_eq (length rest) (length text) → is_first ≡ nat_eq (length (list_below X n)) 0
first_flag X n is_first text rest cut first =
    let long : length text ≡ length (list_below X n) + length rest = ap length cut ∙ length-append (list_below X n) rest in
    first ∙ ap (λ (k : ℕ). nat_eq (length rest) k) long ∙ shorter_by (length (list_below X n)) (length rest)

-- a text that does not go on with the next run is no list of the set
pub not_list : (X n low high : ℕ) (is_first : Bool) (text rest : List ℕ) → Within X (all_below 64)
    → IsNextRun X n low high → text ≡ list_below X n ++ rest → is_first ≡ nat_eq (length rest) (length text)
    → ((after : List ℕ) → rest ≡ item_text is_first low high ++ after → ⊥) → text ≡ canonical_list X → ⊥
not_list X n low high is_first text rest within run cut first none same =
    by (below_begins X (high + 1) 64 run.after.few)
  where
    by : ((tail : List ℕ) × (list_below X 64 ≡ list_below X (high + 1) ++ tail)) → ⊥
    by (tail, e) =
        none tail (same_rest (list_below X n) rest (item_text is_first low high ++ tail)
        (sym cut ∙ same ∙ sym (list_below-all X within) ∙ e ∙ ap (λ (ys : List ℕ). ys ++ tail) run.adds
        ∙ append_assoc (list_below X n) (item_text (nat_eq (length (list_below X n)) 0) low high) tail
        ∙ ap (λ (b : Bool). list_below X n ++ (item_text b low high ++ tail))
        (sym (first_flag X n is_first text rest cut first))))
