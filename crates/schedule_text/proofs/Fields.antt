-- What a field says: numbers, lists, sets and chains of processors.
use Rattle.std.proofs.Common.{◌≡◌, ◌≢◌, ℕ, zero, suc, ◌+◌, ◌-◌, ◌<◌, ◌≤◌, ◌^◌, false, true, nat_lt, ◌==◌, nat_eq, ◌⊎◌, inl, inr, IsTrue}
use Rattle.std.proofs.Common.{List, [], ◌∷◌, length, map, get_or, All, Contains, Option, Some, None, MatchOption, refl, sym, ap, ◌∙◌, subst}
use Rattle.std.proofs.Common.{arith, ne_eqb, eq-eqb, length-append}
use Rattle.std.specs.Prelude.{codes}
use Rattle.std.specs.List.{slice_split, join_with_byte}
use Rattle.std.specs.Str.Parse.{AllDigits, digits_value}
use Rattle.std.proofs.lemmas.Bool.{cases_eq, cases_lt, true≢false}
use Rattle.std.proofs.lemmas.List.Elements.{All-head, All-tail, All-from_get_or, All-contains, Contains-get_or}
use Rattle.std.proofs.lemmas.List.Splits.{slice_split_none, slice_split_at, length-slice_split, join_with_byte-slice_split}
use Rattle.std.proofs.lemmas.Fmt.{decimal_is_IsNumeral, decimal_digit, first_decimal, decimal-digits_value}
use Rattle.std.proofs.lemmas.Str.Parse.{IsNumeralModel, numerals_by_value, tells_digits, digit_at}
use Rattle.affinity_mask.specs.ProcSet.{has, empty, Within}
use Rattle.affinity_mask.specs.Number.{canonical_number}
use Rattle.affinity_mask.specs.ListText.{Item, IsItem, IsWellFormed, IsListText, IsCanonicalList, canonical_list}
use Rattle.affinity_mask.specs.ListFault.{IsListFault}
use Rattle.affinity_mask.specs.declared.mask_fault.MaskFault.{MaskFault}
use Rattle.affinity_mask.proofs.Sets.{has-zero, has-all_below}
use Rattle.affinity_mask.proofs.Runs.{canonical_list-IsListText}
use Rattle.affinity_mask.proofs.ListTexts.{list_text-one_set, list_text-no_fault}
use Rattle.task_set.specs.TaskSet.{IsMask}
use Rattle.text_fields.specs.Number.{IsNumberOf, IsNumberWithin}
use Rattle.schedule_text.specs.ScheduleText.{set_text}
use Rattle.schedule_text.specs.Schedule.{IsOfProcessors}
use Rattle.schedule_text.specs.Fields.{HasLeadingZero, IsNumberField, IsProcessorField, IsListField, IsMaskField, IsSetField}

-- ---- numbers

-- a canonical number within bounds is a number within them
pub number_within : (least most : ℕ) (field : List ℕ) (n : ℕ) → most < 2 ^ 64 → IsNumberField least most field n
    → IsNumberWithin least most field n
number_within least most field n small f =
    let fits : n < 2 ^ 64 = (let high = f.range.1 in omega arith) in
    let value = decimal_is_IsNumeral n fits in
    subst (λ (text : List ℕ). IsNumberWithin least most text n) (sym f.is_text) (value, f.range.0, f.range.1)

-- what is no number within bounds is no canonical one
pub number_none : (least most : ℕ) (field : List ℕ) → most < 2 ^ 64
    → ((n : ℕ) → IsNumberWithin least most field n → ⊥) → (n : ℕ) → IsNumberField least most field n → ⊥
number_none least most field small none n f = none n (number_within least most field n small f)

-- a number that is not written as its canonical number is none
pub number_differs : (least most : ℕ) (field : List ℕ) (number : ℕ) → most < 2 ^ 64
    → IsNumberWithin least most field number → canonical_number number ≢ field → (n : ℕ)
    → IsNumberField least most field n → ⊥
number_differs least most field number small within differs n f =
    let other = number_within least most field n small f in
    let same : n ≡ number = sym other.0.1 ∙ within.0.1 in
    differs (sym (f.is_text ∙ ap canonical_number same))

-- ---- leading zeros

-- a number without a leading zero is canonical
canonical_without : (field : List ℕ) (n : ℕ) → n < 2 ^ 64 → IsNumberOf field n → (HasLeadingZero field → ⊥)
    → field ≡ canonical_number n
canonical_without field n small number plain =
    sym (decimal-digits_value digits_by_value field number.0.1 number.0.0 alone (omega (arith, number.1)))
    ∙ ap canonical_number number.1
  where
    digits_by_value : IsNumeralModel (AllDigits 10) (digits_value 10)
    digits_by_value = numerals_by_value (AllDigits 10) tells_digits

    alone : get_or field 0 0 ≡ 48 → length field ≡ 1
    alone zero_first = elim (cases_lt 1 (length field)) [
      | inl more ↦ absurd (plain (more, zero_first))
      | inr few ↦ omega (arith, number.0.0)
    ]

-- a canonical number has none
canonical_lacks : (n : ℕ) → n < 2 ^ 64 → HasLeadingZero (canonical_number n) → ⊥
canonical_lacks zero small leads = omega (arith, leads.0, ap length (decimal_digit 0 (omega arith)))
canonical_lacks (suc m) small leads = omega (arith, leads.1, first_decimal (suc m) (omega arith) small)

pub leading_zero_none : (least most : ℕ) (field : List ℕ) → most < 2 ^ 64 → HasLeadingZero field → (n : ℕ)
    → IsNumberField least most field n → ⊥
leading_zero_none least most field small leads n f =
    let high : n ≤ most = f.range.1 in
    canonical_lacks n (omega arith) (subst HasLeadingZero f.is_text leads)

-- where there is none, a number within bounds is a canonical one, and the other way round
pub number_matched : (least most : ℕ) (field : List ℕ) (r : Option ℕ) → most < 2 ^ 64
    → (HasLeadingZero field → ⊥)
    → MatchOption r ((n : ℕ) → IsNumberWithin least most field n → ⊥) (IsNumberWithin least most field)
    → MatchOption r ((n : ℕ) → IsNumberField least most field n → ⊥) (IsNumberField least most field)
number_matched least most field None small plain none = number_none least most field small none
number_matched least most field (Some n) small plain within =
    let high : n ≤ most = within.2 in
    record {
      range = (within.1, within.2);
      is_text = canonical_without field n (omega arith) within.0 plain;
    }

-- a field has one canonical number
pub number_once : (least most least' most' : ℕ) (field : List ℕ) (m n : ℕ) → most < 2 ^ 64 → most' < 2 ^ 64
    → IsNumberField least most field m → IsNumberField least' most' field n → m ≡ n
number_once least most least' most' field m n small small' one other =
    sym (number_within least most field m small one).0.1 ∙ (number_within least' most' field n small' other).0.1

-- a canonical number has digits alone
digits_visible : (byte : ℕ) (text : List ℕ) → AllDigits 10 text → (byte < 48) ⊎ (57 < byte) → Contains text byte → ⊥
digits_visible byte text digits outside here =
    let each : All (λ (b : ℕ). (48 ≤ b) × (b ≤ 57)) text = All-from_get_or (λ (b : ℕ). (48 ≤ b) × (b ≤ 57)) text
    0 (λ i lt. let range = digit_at text i digits lt in (omega (arith, range.0), omega (arith, range.1))) in
    let range = All-contains (λ (b : ℕ). (48 ≤ b) × (b ≤ 57)) text byte each here in
    elim outside [ inl low ↦ omega (arith, range.0, low) | inr high ↦ omega (arith, range.1, high) ]

pub number_lacks : (n byte : ℕ) → n < 2 ^ 64 → (byte < 48) ⊎ (57 < byte) → Contains (canonical_number n) byte → ⊥
number_lacks n byte small outside = digits_visible byte (canonical_number n) (decimal_is_IsNumeral n small).0.1 outside

-- ---- cut and joined

unlike : (c : ℕ) (text : List ℕ) → (Contains text c → ⊥) → All (λ (b : ℕ). nat_eq b c ≡ false) text
unlike c text lacks =
    All-from_get_or (λ (b : ℕ). nat_eq b c ≡ false) text 0
    (λ i lt. ne_eqb (get_or text i 0) c (λ e. lacks (contains_here text i lt e)))
  where
    contains_here : (text : List ℕ) (i : ℕ) → i < length text → get_or text i 0 ≡ c → Contains text c
    contains_here text i lt e = subst (Contains text) e (Contains-get_or text i 0 lt)

pub split_joined : (c : ℕ) (first : List ℕ) (more : List (List ℕ))
    → All (λ (piece : List ℕ). Contains piece c → ⊥) (first ∷ more)
    → slice_split (λ (b : ℕ). b == c) (join_with_byte c (first ∷ more)) ≡ first ∷ more
split_joined c first [] lacks =
    slice_split_none (λ (b : ℕ). nat_eq b c) first
    (unlike c first (All-head (λ (piece : List ℕ). Contains piece c → ⊥) first [] lacks))
split_joined c first (next ∷ more) lacks =
    slice_split_at (λ (b : ℕ). nat_eq b c) first c (join_with_byte c (next ∷ more))
    (unlike c first (All-head (λ (piece : List ℕ). Contains piece c → ⊥) first (next ∷ more) lacks))
    (eq-eqb c c refl)
    ∙ ap (λ (rest : List (List ℕ)). first ∷ rest)
    (split_joined c next more (All-tail (λ (piece : List ℕ). Contains piece c → ⊥) first (next ∷ more) lacks))

pub joined_split : (c : ℕ) (text : List ℕ) → join_with_byte c (slice_split (λ (b : ℕ). b == c) text) ≡ text
joined_split c text = join_with_byte-slice_split c text

-- there is one piece at least
pub split_some : (c : ℕ) (text : List ℕ) → slice_split (λ (b : ℕ). b == c) text ≡ [] → ⊥
split_some c text none =
    let count = length-slice_split (λ (b : ℕ). nat_eq b c) text in
    let nothing : length (slice_split (λ (b : ℕ). nat_eq b c) text) ≡ 0 = ap length none in
    omega arith

-- ---- lists and sets

-- a processor list has a processor
list_some : (text : List ℕ) (X : ℕ) → IsListText text X → X ≡ empty → ⊥
list_some text X (first, more, list) none =
    let item = All-head IsWellFormed first more list.well_formed in
    let ascends : first.low ≤ first.high = item.ascends in
    let member : IsTrue (has X first.low) = (list.union first.low).1
    (0, first, omega arith, refl, (omega arith, ascends)) in
    true≢false (sym member ∙ ap (λ (Y : ℕ). has Y first.low) none ∙ has-zero first.low)

pub list_text : (field : List ℕ) (X : ℕ) → IsListField field X → IsListText field X
list_text field X f =
    subst (λ (text : List ℕ). IsListText text X) (sym f.is_text)
    (canonical_list-IsListText X f.some f.processors)

-- a list with a fault is none
pub list_refused : (field : List ℕ) (fault : MaskFault) → IsListFault field fault → (X : ℕ) → IsListField field X → ⊥
list_refused field fault why X f = list_text-no_fault field X fault (list_text field X f) why

-- a list that is not written as its canonical list is none
pub list_differs : (field : List ℕ) (Y : ℕ) → IsListText field Y → canonical_list Y ≢ field → (X : ℕ)
    → IsListField field X → ⊥
list_differs field Y list differs X f =
    let same = list_text-one_set field X Y (list_text field X f) list in
    differs (sym (f.is_text ∙ ap canonical_list same))

pub list_read : (field : List ℕ) (X : ℕ) → IsListText field X → IsOfProcessors X → canonical_list X ≡ field
    → IsListField field X
list_read field X list processors same =
    record { some = list_some field X list; processors = processors; is_text = sym same }

-- a canonical list with a processor is such a field, and there is no other
pub list_canonical : (field : List ℕ) (X : ℕ) → IsCanonicalList field X → IsListField field X
list_canonical field X list = record { some = list.some; processors = list.processors; is_text = list.is_text }

pub list_otherwise : (field : List ℕ) → ((X : ℕ) → IsCanonicalList field X → ⊥) → (X : ℕ) → IsListField field X → ⊥
list_otherwise field none X f = none X (record { some = f.some; processors = f.processors; is_text = f.is_text })

-- a field is of one list
pub list_once : (field : List ℕ) (X Y : ℕ) → IsListField field X → IsListField field Y → X ≡ Y
list_once field X Y one other = list_text-one_set field X Y (list_text field X one) (list_text field Y other)

-- ---- processors and masks

pub processor_read : (m : ℕ) (field : List ℕ) (p : ℕ) → 1 ≤ m → IsNumberField 0 (m - 1) field p
    → IsProcessorField m field p
processor_read m field p some f = (let high = f.range.1 in record { below = omega arith; is_text = f.is_text })

pub processor_number : (m : ℕ) (field : List ℕ) (p : ℕ) → IsProcessorField m field p → IsNumberField 0 (m - 1) field p
processor_number m field p f =
    (let below = f.below in record { range = (omega arith, omega arith); is_text = f.is_text })

pub processor_none : (m : ℕ) (field : List ℕ) → ((p : ℕ) → IsNumberField 0 (m - 1) field p → ⊥) → (p : ℕ)
    → IsProcessorField m field p → ⊥
processor_none m field none p f = none p (processor_number m field p f)

-- a mask on at most 64 processors is a set of processors
pub mask_processors : (m X : ℕ) → m ≤ 64 → IsMask m X → IsOfProcessors X
mask_processors m X few mask p member = has-all_below 64 p ∙ below p (let here = mask.below p member in omega arith)
  where
    below : (p : ℕ) → p < 64 → nat_lt p 64 ≡ true
    below p lt = grind arith

-- a mask is within the numbers below m
pub mask_within : (m n mask all : ℕ) → n ≡ m → ((q : ℕ) → has all q ≡ nat_lt q n) → IsMask m mask → Within mask all
mask_within m n mask all same contents valid p member = contents p ∙ below p (let here = valid.below p member in omega arith)
  where
    below : (p : ℕ) → p < n → nat_lt p n ≡ true
    below p lt = grind arith

pub mask_list : (m : ℕ) (field : List ℕ) (mask : ℕ) → m ≤ 64 → IsMaskField m field mask → IsListField field mask
mask_list m field mask few f =
    record { some = f.valid.some; processors = mask_processors m mask few f.valid; is_text = f.is_text }

pub mask_none : (m : ℕ) (field : List ℕ) → m ≤ 64 → ((X : ℕ) → IsListField field X → ⊥) → (mask : ℕ)
    → IsMaskField m field mask → ⊥
mask_none m field few none mask f = none mask (mask_list m field mask few f)

-- the list of a set that is no mask is the list of no mask
pub mask_differs : (m : ℕ) (field : List ℕ) (X : ℕ) → m ≤ 64 → IsListField field X → (IsMask m X → ⊥) → (mask : ℕ)
    → IsMaskField m field mask → ⊥
mask_differs m field X few f no_mask mask g =
    no_mask (subst (IsMask m) (list_once field mask X (mask_list m field mask few g) f) g.valid)

none_within : IsOfProcessors empty
none_within p member = absurd (true≢false (sym member ∙ has-zero p))

pub set_empty : (field : List ℕ) (X : ℕ) → X ≡ empty → field ≡ codes "-" → IsSetField field X
set_empty field X none dash = subst (IsSetField field) (sym none) (record { processors = none_within; is_text = dash })

-- a set with processors is written as a list
pub set_list : (X : ℕ) → X ≢ empty → set_text X ≡ canonical_list X
set_list X some = rw (ne_eqb X empty some) refl

pub set_read : (field : List ℕ) (X : ℕ) → IsListField field X → IsSetField field X
set_read field X f = record { processors = f.processors; is_text = f.is_text ∙ sym (set_list X f.some) }

-- a set is '-' or a list
set_cases : (field : List ℕ) (X : ℕ) → IsSetField field X → ((X ≡ empty) × (field ≡ codes "-")) ⊎ IsListField field X
set_cases field X f = elim (cases_eq X empty) [
  | inl none ↦ inl (none, f.is_text ∙ ap set_text none)
  | inr some ↦ inr (record { some = some; processors = f.processors; is_text = f.is_text ∙ set_list X some })
]

pub set_none : (field : List ℕ) → field ≢ codes "-" → ((X : ℕ) → IsListField field X → ⊥) → (X : ℕ)
    → IsSetField field X → ⊥
set_none field no_dash none X f = elim (set_cases field X f) [ inl dash ↦ no_dash dash.1 | inr list ↦ none X list ]

-- '-' is no item of a list, and so no list: each of its numbers has a digit
item_some : (text : List ℕ) (low high : ℕ) → text ≡ codes "-" → IsItem text low high → ⊥
item_some text low high dash (inl number) =
    digits_visible 45 text number.0.1 (inl (omega arith))
    (subst (λ (t : List ℕ). Contains t 45) (sym dash) (0, omega arith, refl))
item_some text low high dash (inr (a, b, joined, one, two, first, last)) =
    let count : length text ≡ 1 = ap length dash in
    let more : length text ≡ length a + (length b + 1) = ap length joined
    ∙ (let both = length-append a (45 ∷ b) in omega arith) in
    let some = one.0 in
    omega arith

item_length : (text : List ℕ) (low high : ℕ) → IsItem text low high → 0 < length text
item_length text low high (inl number) = number.0.0
item_length text low high (inr (a, b, joined, one, two, first, last)) =
    omega (arith, ap length joined, length-append a (45 ∷ b))

dash_no_list : (field : List ℕ) (X : ℕ) → field ≡ codes "-" → IsListField field X → ⊥
dash_no_list field X dash f = by (list_text field X f)
  where
    by : IsListText field X → ⊥
    by (first, [], list) =
        item_some first.text first.low first.high (sym list.joined ∙ dash)
        (All-head IsWellFormed first [] list.well_formed).form
    by (first, second ∷ more, list) =
        let some = item_length first.text first.low first.high
        (All-head IsWellFormed first (second ∷ more) list.well_formed).form in
        let rest = join_with_byte 44 (map (λ (item : Item). item.text) (second ∷ more)) in
        omega (arith, some, ap length dash, ap length list.joined, length-append first.text (44 ∷ rest))

-- a field is of one set
pub set_once : (field : List ℕ) (X Y : ℕ) → IsSetField field X → IsSetField field Y → X ≡ Y
set_once field X Y one other = elim (set_cases field X one) [
  | inl none ↦ elim (set_cases field Y other) [
    | inl none' ↦ none.0 ∙ sym none'.0
    | inr list ↦ absurd (dash_no_list field Y none.1 list)
  ]
  | inr list ↦ elim (set_cases field Y other) [
    | inl none' ↦ absurd (dash_no_list field X none'.1 list)
    | inr list' ↦ list_once field X Y list list'
  ]
]
