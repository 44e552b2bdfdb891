-- Each text is a processor list or has a fault: the pieces are tried in turn.
use Rattle.std.proofs.Common.{◌≡◌, ◌≢◌, ℕ, zero, suc, ◌<◌, ◌≤◌, ◌⊎◌, inl, inr, true, false, nat_eq, List, [], ◌∷◌, ◌++◌, length, All}
use Rattle.std.proofs.Common.{Contains, refl, sym, ◌∙◌, ap, arith, ⊎_elim, append_assoc, append-nil}
use Rattle.std.specs.List.{join_with_byte, list_all}
use Rattle.std.specs.Char.{is_ascii_digit}
use Rattle.std.proofs.lemmas.Bool.{cases_Bool, cases_eq, cases_lt, true≢false}
use Rattle.std.proofs.lemmas.List.Elements.{All-nil, All-cons, All-head, All-tail, All-push}
use Rattle.std.proofs.lemmas.List.Splits.{length-slice_split}
use Rattle.affinity_mask.specs.declared.mask_fault.MaskFault.{MaskFault}
use Rattle.affinity_mask.specs.declared.mask_fault.MaskFault.TheVariants.{Empty, BadItem, Backward, Large}
use Rattle.affinity_mask.specs.Number.{IsNumber, number_value}
use Rattle.affinity_mask.specs.ListText.{comma, dash, Item, IsItem, IsWellFormed, IsListText}
use Rattle.affinity_mask.specs.ListFault.{pieces, place_behind, IsWellFormedPiece, IsPieceFault, IsListFault}
use Rattle.affinity_mask.specs.ListSteps.{AreEnds}
use Rattle.affinity_mask.proofs.Numbers.{digits_model}
use Rattle.affinity_mask.proofs.Items.{ends_item, ends_none, join-pieces}
use Rattle.affinity_mask.proofs.Unions.{union_of}
use Rattle.affinity_mask.proofs.ListTexts.{texts_of}

-- ---- one piece

number_cases : (text : List ℕ) → IsNumber text ⊎ (IsNumber text → ⊥)
number_cases [] = inr (λ number. omega (arith, number.0))
number_cases (d ∷ ds) =
    ⊎_elim
    (λ (all : list_all is_ascii_digit (d ∷ ds) ≡ true). inl (omega arith, digits_model.to (d ∷ ds) all))
    (λ (other : list_all is_ascii_digit (d ∷ ds) ≡ false). inr (λ number. true≢false (sym (digits_model.from (d ∷ ds) number.1) ∙ other)))
    (cases_Bool (list_all is_ascii_digit (d ∷ ds)))

lacks_more : (byte x : ℕ) (xs : List ℕ) → x ≢ byte → (Contains xs byte → ⊥) → Contains (x ∷ xs) byte → ⊥
lacks_more byte x xs ne lacks (zero, lt, e) = ne e
lacks_more byte x xs ne lacks (suc k, lt, e) = lacks (k, omega arith, e)

-- what stands around the first byte of this value, if there is one
cut_cases : (byte : ℕ) (text : List ℕ) → (Contains text byte → ⊥)
    ⊎ ((a : List ℕ) × (b : List ℕ) × (text ≡ a ++ byte ∷ b) × (Contains a byte → ⊥))
cut_cases byte [] = inl (λ h. omega (arith, h.1))
cut_cases byte (x ∷ xs) =
    ⊎_elim
    (λ (e : x ≡ byte). inr ([], xs, ap (λ (y : ℕ). y ∷ xs) e, λ h. omega (arith, h.1)))
    (λ (ne : x ≢ byte). elim (cut_cases byte xs) [
      | inl lacks ↦ inl (lacks_more byte x xs ne lacks)
      | inr cut ↦ inr (x ∷ cut.0, cut.1, ap (λ (ys : List ℕ). x ∷ ys) cut.2, lacks_more byte x (cut.0) ne cut.3)
    ])
    (cases_eq x byte)

ends_exist : (piece : List ℕ) → (a : List ℕ) × (b : List ℕ) × AreEnds piece a b
ends_exist piece = elim (cut_cases dash piece) [
  | inl lacks ↦ (piece, piece, inl (lacks, refl, refl))
  | inr cut ↦ (cut.0, cut.1, inr (cut.2, cut.3))
]

item_cases : (piece : List ℕ) → ((low : ℕ) × (high : ℕ) × IsItem piece low high) ⊎ ((low high : ℕ) → ¬ IsItem piece low high)
item_cases piece =
    let ends = ends_exist piece in
    ⊎_elim
    (λ (na : IsNumber (ends.0)). ⊎_elim
    (λ (nb : IsNumber (ends.1)). inl (number_value (ends.0), number_value (ends.1), ends_item piece (ends.0) (ends.1) ends.2 na nb))
    (λ nb. inr (ends_none piece (ends.0) (ends.1) ends.2 (λ both. nb both.1)))
    (number_cases (ends.1)))
    (λ na. inr (ends_none piece (ends.0) (ends.1) ends.2 (λ both. na both.0)))
    (number_cases (ends.0))

piece_cases : (piece : List ℕ) (place : ℕ) → IsWellFormedPiece piece ⊎ ((fault : MaskFault) × IsPieceFault piece place fault)
piece_cases piece place = elim (item_cases piece) [
  | inl item ↦ ⊎_elim
      (λ (back : item.1 < item.0). inr (Backward place, (refl, (item.0, item.1, item.2, back))))
      (λ (le : item.0 ≤ item.1). ⊎_elim
      (λ (big : 63 < item.1). inr (Large place, (refl, (item.0, item.1, item.2, le, inr big))))
      (λ (small : item.1 ≤ 63). inl (item.0, item.1, record { form = item.2; ascends = le; small = small }))
      (cases_lt 63 (item.1)))
      (cases_lt (item.1) (item.0))
  | inr other ↦ inr (BadItem place, (refl, other))
]

-- ---- all pieces

-- the pieces after well-formed ones are well-formed too, or one of them is the first that has a fault
pieces_cases : (whole before rest : List (List ℕ)) → whole ≡ before ++ rest → All IsWellFormedPiece before
    → All IsWellFormedPiece whole ⊎ ((done : List (List ℕ)) × (piece : List ℕ) × (after : List (List ℕ)) × (fault : MaskFault)
    × (whole ≡ done ++ piece ∷ after) × All IsWellFormedPiece done × IsPieceFault piece (place_behind done) fault)
pieces_cases whole before [] e well_formed = inl (rw (e, append-nil) well_formed)
pieces_cases whole before (piece ∷ rest) e well_formed = elim (piece_cases piece (place_behind before)) [
  | inl item ↦ pieces_cases whole (before ++ piece ∷ []) rest (e ∙ sym (append_assoc before (piece ∷ []) rest))
      (All-push IsWellFormedPiece before piece well_formed item)
  | inr found ↦ inr (before, piece, rest, found.0, e, well_formed, found.1)
]

items_of : (texts : List (List ℕ)) → All IsWellFormedPiece texts → (items : List Item) × (texts_of items ≡ texts) × All IsWellFormed items
items_of [] well_formed = ([], refl, All-nil IsWellFormed)
items_of (text ∷ texts) well_formed =
    let first = All-head IsWellFormedPiece text texts well_formed in
    let more = items_of texts (All-tail IsWellFormedPiece text texts well_formed) in
    let item : Item = record { text = text; low = first.0; high = first.1 } in
    (item ∷ more.0, ap (λ (others : List (List ℕ)). text ∷ others) more.1, All-cons IsWellFormed item (more.0) first.2 more.2)

list_from_items : (text : List ℕ) (items : List Item) → texts_of items ≡ pieces text → All IsWellFormed items → (X : ℕ) × IsListText text X
list_from_items text [] e well_formed = absurd (omega (arith, ap length e, length-slice_split (λ byte. nat_eq byte comma) text))
list_from_items text (first ∷ more) e well_formed =
    let set = union_of (first ∷ more) well_formed in (
      set.0,
      (
        first,
        more,
        record { joined = sym (join-pieces text) ∙ ap (join_with_byte comma) (sym e); well_formed = well_formed; union = set.1 },
      ),
    )

some_text_cases : (text : List ℕ) → text ≢ [] → ((X : ℕ) × IsListText text X) ⊎ ((fault : MaskFault) × IsListFault text fault)
some_text_cases text some = elim (pieces_cases (pieces text) [] (pieces text) refl (All-nil IsWellFormedPiece)) [
  | inl well_formed ↦ let items = items_of (pieces text) well_formed in inl (list_from_items text (items.0) items.1 items.2)
  | inr found ↦ inr (
    found.3,
    inr (some, (found.0, found.1, found.2, record { cut = found.4; well_formed = found.5; fault_of = found.6 })),
  )
]

pub text_list_or_fault : (text : List ℕ) → ((X : ℕ) × IsListText text X) ⊎ ((fault : MaskFault) × IsListFault text fault)
text_list_or_fault [] = inr (Empty, inl (refl, refl))
text_list_or_fault (x ∷ xs) = some_text_cases (x ∷ xs) (λ nothing. omega (arith, ap length nothing))
