-- Fields of which it is known that they say something or nothing.
use Rattle.std.proofs.Common.{◌≡◌, ◌≢◌, ℕ, zero, suc, ◌-◌, ◌<◌, ◌≤◌, ◌^◌, ◌⊎◌, inl, inr, true, nat_lt, List, [], ◌∷◌, length, map, All}
use Rattle.std.proofs.Common.{Contains, Option, Some, None, refl, sym, ap, ◌∙◌, subst, arith, lit<}
use Rattle.std.specs.Prelude.{codes}
use Rattle.std.proofs.lemmas.Bool.{cases_eq, cases_lt}
use Rattle.std.proofs.lemmas.List.{length-map}
use Rattle.std.proofs.lemmas.List.Elements.{All-nil, All-cons, All-head, All-tail, Contains-append_right}
use Rattle.affinity_mask.specs.ProcSet.{empty}
use Rattle.affinity_mask.specs.Number.{canonical_number}
use Rattle.affinity_mask.specs.ListText.{IsWellFormed, IsListText, canonical_list}
use Rattle.affinity_mask.proofs.Sets.{has-all_below}
use Rattle.affinity_mask.proofs.TextCases.{text_list_or_fault}
use Rattle.text_fields.proofs.Addable.{mask_decided}
use Rattle.text_fields.proofs.Decisions.{bytes_decided, number_within_decided}
use Rattle.schedule_text.specs.Schedule.{IsOfProcessors}
use Rattle.schedule_text.specs.LineForms.{IsField}
use Rattle.schedule_text.specs.Fields.{links_of, IsNumberField, IsProcessorField, IsListField, IsMaskField, IsSetField, IsChainField}
use Rattle.schedule_text.specs.Fields.{AreProcessorFields, IsLastField}
use Rattle.text_fields.proofs.Words.{head_same, tail_same}
use Rattle.schedule_text.proofs.Fields.{processor_read, processor_none, mask_none, mask_differs, number_none, number_differs, list_refused}
use Rattle.schedule_text.proofs.Fields.{list_differs, list_read, set_empty, set_read, set_none}
use Rattle.schedule_text.proofs.Chains.{chain_empty, chain_read, chain_none}
use Rattle.schedule_text.proofs.Contexts.{last_none}

-- two facts hold, or not both
pub both_decided : {P Q : Type 0} → (P ⊎ (P → ⊥)) → (Q ⊎ (Q → ⊥)) → (P × Q) ⊎ ((P × Q) → ⊥)
both_decided (inl p) (inl q) = inl (p, q)
both_decided (inl p) (inr none) = inr (λ both. none both.1)
both_decided (inr none) q = inr (λ both. none both.0)

-- a byte is in a text or not
pub byte_decided : (byte : ℕ) (text : List ℕ) → Contains text byte ⊎ (Contains text byte → ⊥)
byte_decided byte [] = inr (λ here. absurd (omega (arith, here.1)))
byte_decided byte (x ∷ xs) = elim (cases_eq x byte) [
  | inl same ↦ inl (0, omega arith, same)
  | inr other ↦ elim (byte_decided byte xs) [
    | inl later ↦ inl (Contains-append_right (x ∷ []) xs byte later)
    | inr none ↦ inr (not_first other none)
  ]
]
  where
    not_first : x ≢ byte → (Contains xs byte → ⊥) → Contains (x ∷ xs) byte → ⊥
    not_first other none (zero, within, same) = other same
    not_first other none (suc k, within, same) = none (k, omega (arith, within), same)

pub field_decided : (bytes : List ℕ) → IsField bytes ⊎ (IsField bytes → ⊥)
field_decided bytes = elim (bytes_decided bytes []) [
  | inl none ↦ inr (λ f. f.some none)
  | inr some ↦ elim (byte_decided 32 bytes) [
    | inl space ↦ inr (λ f. f.no_space space)
    | inr no_space ↦ elim (byte_decided 9 bytes) [
      | inl tab ↦ inr (λ f. f.no_tab tab)
      | inr no_tab ↦ inl (record { some = some; no_space = no_space; no_tab = no_tab })
    ]
  ]
]

-- ---- numbers

-- a field is a canonical number within bounds, or none
pub number_field_decided : (least most : ℕ) (field : List ℕ) → most < 2 ^ 64
    → ((n : ℕ) × IsNumberField least most field n) ⊎ ((n : ℕ) → IsNumberField least most field n → ⊥)
number_field_decided least most field small = elim (number_within_decided least most field) [
  | inr none ↦ inr (number_none least most field small none)
  | inl found ↦ elim (bytes_decided (canonical_number found.0) field) [
    | inl same ↦ inl (found.0, record { range = (found.1.1, found.1.2); is_text = sym same })
    | inr differs ↦ inr (number_differs least most field found.0 small found.1 differs)
  ]
]

-- ---- lists, sets and chains

list_processors : (text : List ℕ) (X : ℕ) → IsListText text X → IsOfProcessors X
list_processors text X (first, more, list) p member =
    let found = (list.union p).0 member in
    let item = subst IsWellFormed found.3 (list.well_formed found.0 found.1 found.2) in
    let small = item.small in
    let high : p ≤ found.1.high = found.4.1 in
    has-all_below 64 p ∙ below p (omega arith)
  where
    below : (p : ℕ) → p < 64 → nat_lt p 64 ≡ true
    below p lt = grind arith

pub list_field_decided : (field : List ℕ) → ((X : ℕ) × IsListField field X) ⊎ ((X : ℕ) → IsListField field X → ⊥)
list_field_decided field = elim (text_list_or_fault field) [
  | inr bad ↦ inr (list_refused field bad.0 bad.1)
  | inl found ↦ elim (bytes_decided (canonical_list found.0) field) [
    | inl same ↦ inl (found.0, list_read field found.0 found.1 (list_processors field found.0 found.1) same)
    | inr differs ↦ inr (list_differs field found.0 found.1 differs)
  ]
]

-- a field is a processor of m, or none
pub processor_field_decided : (m : ℕ) (field : List ℕ) → (1 ≤ m) × (m ≤ 64) → ((p : ℕ) × IsProcessorField m field p)
    ⊎ ((p : ℕ) → IsProcessorField m field p → ⊥)
processor_field_decided m field (some, few) = elim (number_field_decided 0 (m - 1) field (omega arith)) [
  | inl found ↦ inl (found.0, processor_read m field found.0 some found.1)
  | inr none ↦ inr (processor_none m field none)
]

-- a field is the list of a mask on m processors, or none
pub mask_field_decided : (m : ℕ) (field : List ℕ) → m ≤ 64 → ((mask : ℕ) × IsMaskField m field mask)
    ⊎ ((mask : ℕ) → IsMaskField m field mask → ⊥)
mask_field_decided m field few = elim (list_field_decided field) [
  | inr none ↦ inr (mask_none m field few none)
  | inl found ↦ elim (mask_decided m found.0) [
    | inl mask ↦ inl (found.0, record { valid = mask; is_text = found.1.is_text })
    | inr (inl none) ↦ absurd (found.1.some none)
    | inr (inr outside) ↦ inr (mask_differs m field found.0 few found.1
        (λ mask. let here = mask.below outside.0 outside.1.member in let high = outside.1.outside in omega arith))
  ]
]

pub set_field_decided : (field : List ℕ) → ((X : ℕ) × IsSetField field X) ⊎ ((X : ℕ) → IsSetField field X → ⊥)
set_field_decided field = elim (bytes_decided field (codes "-")) [
  | inl dash ↦ inl (empty, set_empty field empty refl dash)
  | inr no_dash ↦ elim (list_field_decided field) [
    | inl found ↦ inl (found.0, set_read field found.0 found.1)
    | inr none ↦ inr (set_none field no_dash none)
  ]
]

-- some fields are processors, or not
processors_decided : (fields : List (List ℕ))
    → ((list : List ℕ) × All (λ (p : ℕ). p < 64) list × (fields ≡ map canonical_number list))
    ⊎ ((list : List ℕ) → All (λ (p : ℕ). p < 64) list → fields ≡ map canonical_number list → ⊥)
processors_decided [] = inl ([], All-nil (λ (p : ℕ). p < 64), refl)
processors_decided (field ∷ fields) = elim (number_field_decided 0 63 field (lit< tt)) [
  | inr none ↦ inr (first_none none)
  | inl found ↦ elim (processors_decided fields) [
    | inl rest ↦ inl (
      found.0 ∷ rest.0,
      All-cons (λ (p : ℕ). p <
          64) found.0 rest.0 (let high = found.1.range.1 in omega arith) rest.1,
      two_same found.1.is_text rest.2,
    )
    | inr none ↦ inr (rest_none none)
  ]
]
  where
    two_same : {a b : List ℕ} {xs ys : List (List ℕ)} → a ≡ b → xs ≡ ys → a ∷ xs ≡ b ∷ ys
    two_same one two = cc

    first_none : ((n : ℕ) → IsNumberField 0 63 field n → ⊥) → (list : List ℕ) → All (λ (p : ℕ). p < 64) list
        → field ∷ fields ≡ map canonical_number list → ⊥
    first_none none [] all e = cc
    first_none none (p ∷ list) all e =
        let small : p < 64 = All-head (λ (p : ℕ). p < 64) p list all in
        none p (record { range = (omega arith, omega arith); is_text = head_same e })

    rest_none : ((list : List ℕ) → All (λ (p : ℕ). p < 64) list → fields ≡ map canonical_number list → ⊥)
        → (list : List ℕ) → All (λ (p : ℕ). p < 64) list → field ∷ fields ≡ map canonical_number list → ⊥
    rest_none none [] all e = cc
    rest_none none (p ∷ list) all e = none list (All-tail (λ (p : ℕ). p < 64) p list all) (tail_same e)

processor_list_decided : (fields : List (List ℕ)) → ((list : List ℕ) × AreProcessorFields fields list)
    ⊎ ((list : List ℕ) → AreProcessorFields fields list → ⊥)
processor_list_decided fields = elim (processors_decided fields) [
  | inr none ↦ inr (λ list f. none list f.list.1 f.each_field)
  | inl found ↦ elim (cases_lt 64 (length fields)) [
    | inl long ↦ inr (λ list f. let few : length list ≤ 64 = f.list.0 in let count : length fields
        ≡ length list = ap length f.each_field ∙ length-map list canonical_number in omega arith)
    | inr short ↦ inl (
      found.0,
      record {
        list = (
          let count : length fields ≡ length found.0 = ap length found.2
              ∙ length-map found.0 canonical_number in omega arith,
          found.1,
        );
        each_field = found.2;
      },
    )
  ]
]

pub chain_field_decided : (field : List ℕ) → ((chain : List ℕ) × IsChainField field chain)
    ⊎ ((chain : List ℕ) → IsChainField field chain → ⊥)
chain_field_decided field = elim (bytes_decided field (codes "-")) [
  | inl dash ↦ inl ([], chain_empty field [] refl dash)
  | inr no_dash ↦ elim (processor_list_decided (links_of field)) [
    | inl found ↦ inl (found.0, chain_read field (links_of field) found.0 refl found.1)
    | inr none ↦ inr (chain_none field (links_of field) no_dash refl none)
  ]
]

pub last_field_decided : (field : List ℕ) → ((last : Option ℕ) × IsLastField field last)
    ⊎ ((last : Option ℕ) → IsLastField field last → ⊥)
last_field_decided field = elim (bytes_decided field (codes "-")) [
  | inl dash ↦ inl (None, record { processor = tt; is_text = dash })
  | inr no_dash ↦ elim (number_field_decided 0 63 field (lit< tt)) [
    | inl found ↦ inl (
      Some found.0,
      record
          { processor = (let high = found.1.range.1 in omega arith); is_text = found.1.is_text },
    )
    | inr none ↦ inr (λ last f. last_none field last no_dash none f)
  ]
]

-- ---- tasks
