-- Chains of processors as fields, link by link.
use Rattle.std.proofs.Common.{◌≡◌, ◌≢◌, ℕ, ◌<◌, ◌≤◌, ◌⊎◌, inl, inr, List, [], ◌∷◌, ◌++◌, length, map, get_or, All, Contains, Bor, refl, sym}
use Rattle.std.proofs.Common.{ap, ◌∙◌, subst, arith, length-append}
use Rattle.std.specs.Prelude.{codes}
use Rattle.std.specs.List.{join_with_byte}
use Rattle.std.proofs.lemmas.List.{length-map, map-append, get_or-map}
use Rattle.std.proofs.lemmas.List.Elements.{All-nil, All-push, All-weaker, All-map, All-get_or, All-head, All-tail}
use Rattle.affinity_mask.specs.Number.{canonical_number}
use Rattle.text_fields.specs.Fields.{texts}
use Rattle.schedule_text.specs.ScheduleText.{chain_text}
use Rattle.schedule_text.specs.Schedule.{IsProcessorList}
use Rattle.schedule_text.specs.Fields.{links_of, IsNumberField, IsChainField, AreProcessorFields}
use Rattle.std.proofs.lemmas.Fmt.{decimal_injective}
use Rattle.text_fields.proofs.Words.{head_same, tail_same}
use Rattle.schedule_text.proofs.Fields.{number_lacks, split_joined, joined_split, split_some}

-- the processors of these links
abbrev pub AreProcessorsSoFar : List (Bor (List ℕ)) → List ℕ → Type 0
AreProcessorsSoFar links chain = IsProcessorList chain × (map canonical_number chain ≡ texts links)

pub list_more : (links : List (Bor (List ℕ))) (link : Bor (List ℕ)) (chain : List ℕ) (p : ℕ)
    → AreProcessorsSoFar links chain → length chain ≢ 64 → IsNumberField 0 63 link.now p
    → AreProcessorsSoFar (links ++ link ∷ []) (chain ++ p ∷ [])
list_more links link chain p so_far short f =
    let small : p < 64 = (let high = f.range.1 in omega arith) in
    let few : length (chain ++ p ∷ []) ≤ 64 = (let before = so_far.0.0 in omega (arith, length-append chain (p ∷ []))) in (
      (few, All-push (λ (q : ℕ). q < 64) chain p so_far.0.1 small),
      map-append canonical_number chain (p ∷ [])
          ∙ ap (λ (prefix : List (List ℕ)). prefix ++ canonical_number p ∷ []) so_far.1
          ∙ ap (λ (text : List ℕ). texts links ++ text ∷ []) (sym f.is_text)
          ∙ sym (map-append (λ (link : Bor (List ℕ)). link.now) links (link ∷ [])),
    )

-- a list with a link that is no processor is no list of processors
pub list_none : (all : List (List ℕ)) (i : ℕ) (link : List ℕ) → i < length all → link ≡ get_or all i link
    → ((n : ℕ) → IsNumberField 0 63 link n → ⊥) → (list : List ℕ) → AreProcessorFields all list → ⊥
list_none all i link within here none list of_row =
    let count : length list ≡ length all = sym (length-map list canonical_number) ∙ sym (ap length of_row.each_field) in
    let inside : i < length list = omega arith in
    let small : get_or list i 0 < 64 = All-get_or (λ (q : ℕ). q < 64) list i 0 inside of_row.list.1 in
    let same : link ≡ canonical_number (get_or list i 0) = here
    ∙ ap (λ (fields : List (List ℕ)). get_or fields i link) of_row.each_field
    ∙ get_or-map canonical_number list i 0 link inside in
    none (get_or list i 0) (record { range = (omega arith, omega arith); is_text = same })

-- 64 links and one more are no list of processors
pub list_full : (all : List (List ℕ)) (links : List (Bor (List ℕ))) (chain : List ℕ)
    → AreProcessorsSoFar links chain → length chain ≡ 64 → length links < length all → (list : List ℕ)
    → AreProcessorFields all list → ⊥
list_full all links chain so_far full within list of_row =
    let count : length list ≡ length all = sym (length-map list canonical_number) ∙ sym (ap length of_row.each_field) in
    let few : length list ≤ 64 = of_row.list.0 in
    let read : length chain ≡ length links = sym (length-map chain canonical_number) ∙ ap length so_far.1
    ∙ length-map links (λ (link : Bor (List ℕ)). link.now) in
    absurd (omega arith)

pub list_read : (all : List (List ℕ)) (links : List (Bor (List ℕ))) (chain : List ℕ)
    → AreProcessorsSoFar links chain → texts links ≡ all → AreProcessorFields all chain
list_read all links chain so_far cut = record { list = so_far.0; each_field = sym (so_far.1 ∙ cut) }

-- ---- the field of a chain

pub chain_empty : (field chain : List ℕ) → chain ≡ [] → field ≡ codes "-" → IsChainField field chain
chain_empty field chain none dash =
    subst (IsChainField field) (sym none)
    (record { list = (omega arith, All-nil (λ (p : ℕ). p < 64)); is_text = dash })

-- the links of a chain with processors
links_back : (p : ℕ) (rest : List ℕ) → IsProcessorList (p ∷ rest) → links_of (chain_text (p ∷ rest))
    ≡ map canonical_number (p ∷ rest)
links_back p rest list =
    split_joined 62 (canonical_number p) (map canonical_number rest)
    (All-map (λ (piece : List ℕ). Contains piece 62 → ⊥) canonical_number (p ∷ rest)
    (All-weaker (λ (q : ℕ). q < 64) (λ (q : ℕ). Contains (canonical_number q) 62 → ⊥)
    (λ q small. number_lacks q 62 (omega arith) (inr (omega arith))) (p ∷ rest) list.1))

pub chain_read : (field : List ℕ) (links : List (List ℕ)) (chain : List ℕ) → links ≡ links_of field
    → AreProcessorFields links chain → IsChainField field chain
chain_read field links [] cut of_row = absurd (split_some 62 field (sym cut ∙ of_row.each_field))
chain_read field links (p ∷ rest) cut of_row =
    record {
      list = of_row.list;
      is_text = sym (joined_split 62 field)
          ∙ ap (join_with_byte 62) (sym cut ∙ of_row.each_field);
    }

-- a chain is '-' or a list
chain_cases : (field chain : List ℕ) → IsChainField field chain → ((chain ≡ []) × (field ≡ codes "-"))
    ⊎ AreProcessorFields (links_of field) chain
chain_cases field [] f = inl (refl, f.is_text)
chain_cases field (p ∷ rest) f =
    inr (record { list = f.list; each_field = ap links_of f.is_text ∙ links_back p rest f.list })

pub chain_none : (field : List ℕ) (links : List (List ℕ)) → field ≢ codes "-" → links ≡ links_of field
    → ((chain : List ℕ) → AreProcessorFields links chain → ⊥) → (chain : List ℕ) → IsChainField field chain → ⊥
chain_none field links no_dash cut none chain f =
    elim (chain_cases field chain f) [
      | inl dash ↦ no_dash dash.1
      | inr list ↦ none chain (subst (λ (fields : List (List ℕ)). AreProcessorFields
          fields chain) (sym cut) list)
    ]

number_some : (n : ℕ) → n < 64 → canonical_number n ≡ codes "-" → ⊥
number_some n small is =
    number_lacks n 45 (omega arith) (inl (omega arith))
    (subst (λ (text : List ℕ). Contains text 45) (sym is) (0, omega arith, refl))

-- a list is not '-'
list_no_dash : (field chain : List ℕ) → field ≡ codes "-" → AreProcessorFields (links_of field) chain → ⊥
list_no_dash field chain dash list = by chain list.list (sym (ap links_of dash) ∙ list.each_field)
  where
    by : (chain : List ℕ) → IsProcessorList chain → links_of (codes "-") ≡ map canonical_number chain → ⊥
    by [] list e = cc
    by (p ∷ rest) list e = number_some p (All-head (λ (q : ℕ). q < 64) p rest list.1) (sym (head_same e))

lists_same : (one other : List ℕ) → All (λ (p : ℕ). p < 64) one → All (λ (p : ℕ). p < 64) other
    → map canonical_number one ≡ map canonical_number other → one ≡ other
lists_same [] [] a b e = refl
lists_same [] (q ∷ other) a b e = absurd (omega (arith, ap length e))
lists_same (p ∷ one) [] a b e = absurd (omega (arith, ap length e))
lists_same (p ∷ one) (q ∷ other) a b e =
    let below : p < 64 = All-head (λ (p : ℕ). p < 64) p one a in
    let below' : q < 64 = All-head (λ (p : ℕ). p < 64) q other b in
    two_lists (decimal_injective p q (omega arith) (omega arith) (head_same e))
    (lists_same one other (All-tail (λ (p : ℕ). p < 64) p one a) (All-tail (λ (p : ℕ). p < 64) q other b)
    (tail_same e))
  where
    two_lists : {p q : ℕ} {xs ys : List ℕ} → p ≡ q → xs ≡ ys → p ∷ xs ≡ q ∷ ys
    two_lists one two = cc

-- a field is of one chain
pub chain_once : (field one other : List ℕ) → IsChainField field one → IsChainField field other → one ≡ other
chain_once field one other f g = elim (chain_cases field one f) [
  | inl none ↦ elim (chain_cases field other g) [
    | inl none' ↦ none.0 ∙ sym none'.0
    | inr list ↦ absurd (list_no_dash field other none.1 list)
  ]
  | inr list ↦ elim (chain_cases field other g) [
    | inl none' ↦ absurd (list_no_dash field one none'.1 list)
    | inr list' ↦ lists_same one other list.list.1 list'.list.1 (sym list.each_field ∙ list'.each_field)
  ]
]
