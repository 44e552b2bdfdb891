-- Each text is a processor list of one set, or has one fault.
use Rattle.std.proofs.Common.{◌≡◌, ◌≢◌, ℕ, ◌+◌, ◌≤◌, inl, inr, List, [], ◌∷◌, ◌++◌, length, map, All, Any, IsTrue, ◌↔◌, refl, sym, ◌∙◌, ap}
use Rattle.std.proofs.Common.{subst, arith, append_assoc, length-append, ◌-◌, ◌||◌, Option, Some, None, MatchOption, Bor}
use Rattle.std.specs.List.{join_with_byte, list_any}
use Rattle.std.proofs.lemmas.List.{map-append}
use Rattle.std.proofs.lemmas.List.Elements.{All-nil, All-head, All-tail, All-map, All-weaker, All-push}
use Rattle.std.proofs.lemmas.List.Sums.{sum_by_push}
use Rattle.affinity_mask.specs.declared.mask_fault.MaskFault.{MaskFault}
use Rattle.affinity_mask.specs.declared.mask_fault.MaskFault.TheVariants.{Empty, BadItem, Backward, Large}
use Rattle.affinity_mask.specs.ProcSet.{has, empty}
use Rattle.affinity_mask.specs.ListText.{comma, Item, IsItem, IsWellFormed, IsListOf, IsListText}
use Rattle.affinity_mask.specs.ListFault.{pieces, place_behind, IsWellFormedPiece, IsPieceFault, IsListFault}
use Rattle.affinity_mask.specs.ListSteps.{item_covers, IsReadSoFar, ReadsItem}
use Rattle.affinity_mask.proofs.Sets.{has-zero}
use Rattle.affinity_mask.proofs.Items.{Lacks, pieces-joined, join-pieces, item_lacks_comma, item_once}
use Rattle.affinity_mask.proofs.Unions.{Any-from_covers, covers_from_Any, union-push, same_union}

-- the texts of items
abbrev pub texts_of : List Item → List (List ℕ)
texts_of items = map (λ (item : Item). item.text) items

-- ---- a list text is cut into its items

pub pieces-list : (text : List ℕ) (X : ℕ) (first : Item) (more : List Item) → IsListOf text X first more
    → pieces text ≡ texts_of (first ∷ more)
pieces-list text X first more list =
    ap pieces list.joined
    ∙ pieces-joined first.text (texts_of more)
    (All-map (Lacks comma) (λ (item : Item). item.text) (first ∷ more)
    (All-weaker IsWellFormed (λ (item : Item). Lacks comma item.text)
    (λ item well_formed. item_lacks_comma item.text item.low item.high well_formed.form) (first ∷ more) list.well_formed))

-- an item is its text and its ends
same_item : (one other : Item) → one.text ≡ other.text → IsWellFormed one → IsWellFormed other → one ≡ other
same_item one other e p q =
    let ends = item_once other.text one.low one.high other.low other.high (rw (← e) p.form) q.form in
    ap (λ (text : List ℕ). record { text = text; low = one.low; high = one.high }) e
    ∙ ap (λ (low : ℕ). record { text = other.text; low = low; high = one.high }) ends.0
    ∙ ap (λ (high : ℕ). record { text = other.text; low = other.low; high = high }) ends.1

same_items : (ones others : List Item) → texts_of ones ≡ texts_of others → All IsWellFormed ones → All IsWellFormed others → ones ≡ others
same_items [] [] e p q = refl
same_items [] (y ∷ ys) e p q = cc
same_items (x ∷ xs) [] e p q = cc
same_items (x ∷ xs) (y ∷ ys) e p q =
    let text : x.text ≡ y.text = cc in
    let texts : texts_of xs ≡ texts_of ys = cc in
    let first = same_item x y text (All-head IsWellFormed x xs p) (All-head IsWellFormed y ys q) in
    let rest = same_items xs ys texts (All-tail IsWellFormed x xs p) (All-tail IsWellFormed y ys q) in
    cc

-- ---- one set

pub list_text-one_set : (text : List ℕ) (X Y : ℕ) → IsListText text X → IsListText text Y → X ≡ Y
list_text-one_set text X Y (first, more, one) (first', more', other) =
    let texts = sym (pieces-list text X first more one) ∙ pieces-list text Y first' more' other in
    let items = same_items (first ∷ more) (first' ∷ more') texts one.well_formed other.well_formed in
    let union : (p : ℕ) → IsTrue (has X p) ↔ Any (λ (item : Item). (item.low ≤ p) × (p ≤ item.high)) (first' ∷ more') =
    subst (λ (found : List Item). (p : ℕ) → IsTrue (has X p) ↔ Any (λ (item : Item). (item.low ≤ p) × (p ≤ item.high)) found)
    items one.union in
    same_union X Y (first' ∷ more') union other.union

-- ---- one fault

-- an item of processors has no fault
well_formed_piece : (piece : List ℕ) (place : ℕ) (fault : MaskFault) → IsWellFormedPiece piece → IsPieceFault piece place fault → ⊥
well_formed_piece piece place Empty (low, high, well_formed) h = h
well_formed_piece piece place (BadItem at) (low, high, well_formed) h = h.1 low high well_formed.form
well_formed_piece piece place (Backward at) (low, high, well_formed) (same, (a, b, form, back)) =
    let ends = item_once piece low high a b well_formed.form form in omega (arith, ends.0, ends.1, well_formed.ascends, back)
well_formed_piece piece place (Large at) (low, high, well_formed) (same, (a, b, form, le, inl big)) =
    let ends = item_once piece low high a b well_formed.form form in
    omega (arith, ends.0, ends.1, well_formed.ascends, well_formed.small, big)
well_formed_piece piece place (Large at) (low, high, well_formed) (same, (a, b, form, le, inr big)) =
    let ends = item_once piece low high a b well_formed.form form in omega (arith, ends.0, ends.1, well_formed.small, big)

-- a piece has one fault
piece_fault_once : (piece : List ℕ) (place : ℕ) (one other : MaskFault) → IsPieceFault piece place one → IsPieceFault piece place other
    → one ≡ other
piece_fault_once piece place Empty other h g = absurd h
piece_fault_once piece place one Empty h g = absurd g
piece_fault_once piece place (BadItem at) (BadItem at') h g = ap BadItem (h.0 ∙ sym g.0)
piece_fault_once piece place (BadItem at) (Backward at') h (same, (a, b, form, back)) = absurd (h.1 a b form)
piece_fault_once piece place (BadItem at) (Large at') h (same, (a, b, form, le, big)) = absurd (h.1 a b form)
piece_fault_once piece place (Backward at) (BadItem at') (same, (a, b, form, back)) g = absurd (g.1 a b form)
piece_fault_once piece place (Backward at) (Backward at') (same, h) (same', g) = ap Backward (same ∙ sym same')
piece_fault_once piece place (Backward at) (Large at') (same, (a, b, form, back)) (same', (a', b', form', le, big)) =
    let ends = item_once piece a b a' b' form form' in absurd (omega (arith, ends.0, ends.1, back, le))
piece_fault_once piece place (Large at) (BadItem at') (same, (a, b, form, le, big)) g = absurd (g.1 a b form)
piece_fault_once piece place (Large at) (Backward at') (same, (a, b, form, le, big)) (same', (a', b', form', back)) =
    let ends = item_once piece a b a' b' form form' in absurd (omega (arith, ends.0, ends.1, back, le))
piece_fault_once piece place (Large at) (Large at') (same, h) (same', g) = ap Large (same ∙ sym same')

-- the pieces before the first fault, and its piece, are determined
first_fault_once : (before before' : List (List ℕ)) (piece piece' : List ℕ) (after after' : List (List ℕ)) (n m : ℕ) (one other : MaskFault)
    → before ++ piece ∷ after ≡ before' ++ piece' ∷ after' → All IsWellFormedPiece before → All IsWellFormedPiece before'
    → IsPieceFault piece n one → IsPieceFault piece' m other → (before ≡ before') × (piece ≡ piece')
first_fault_once [] [] piece piece' after after' n m one other e p q f g = (refl, cc)
first_fault_once [] (y ∷ ys) piece piece' after after' n m one other e p q f g =
    let same : piece ≡ y = cc in absurd (well_formed_piece piece n one (rw same (All-head IsWellFormedPiece y ys q)) f)
first_fault_once (x ∷ xs) [] piece piece' after after' n m one other e p q f g =
    let same : piece' ≡ x = cc in absurd (well_formed_piece piece' m other (rw same (All-head IsWellFormedPiece x xs p)) g)
first_fault_once (x ∷ xs) (y ∷ ys) piece piece' after after' n m one other e p q f g =
    let head : x ≡ y = cc in
    let tail : xs ++ piece ∷ after ≡ ys ++ piece' ∷ after' = cc in
    let rest = first_fault_once xs ys piece piece' after after' n m one other tail (All-tail IsWellFormedPiece x xs p)
    (All-tail IsWellFormedPiece y ys q) f g in
    let others : xs ≡ ys = rest.0 in
    (cc, rest.1)

pub list_text-one_fault : (text : List ℕ) (one other : MaskFault) → IsListFault text one → IsListFault text other → one ≡ other
list_text-one_fault text one other (inl p) (inl q) = p.1 ∙ sym q.1
list_text-one_fault text one other (inl p) (inr q) = absurd (q.0 p.0)
list_text-one_fault text one other (inr p) (inl q) = absurd (p.0 q.0)
list_text-one_fault text one other (inr (some, (before, piece, after, p))) (inr (some', (before', piece', after', q))) =
    let same = first_fault_once before before' piece piece' after after' _ _ one other (sym p.cut ∙ q.cut)
    p.well_formed q.well_formed p.fault_of q.fault_of in
    piece_fault_once piece' (place_behind before') one other (rw (same.0, same.1) at p.fault_of) q.fault_of

-- ---- no list with a fault

-- each piece of a list text is an item of processors
well_formed_texts : (items : List Item) → All IsWellFormed items → All IsWellFormedPiece (texts_of items)
well_formed_texts items well_formed =
    All-map IsWellFormedPiece (λ (item : Item). item.text) items
    (All-weaker IsWellFormed (λ (item : Item). IsWellFormedPiece item.text) (λ item h. (item.low, item.high, h)) items well_formed)

well_formed_within : (before : List (List ℕ)) (piece : List ℕ) (after : List (List ℕ)) → All IsWellFormedPiece (before ++ piece ∷ after)
    → IsWellFormedPiece piece
well_formed_within [] piece after all = All-head IsWellFormedPiece piece after all
well_formed_within (x ∷ before) piece after all =
    well_formed_within before piece after (All-tail IsWellFormedPiece x (before ++ piece ∷ after) all)

pub list_text-no_fault : (text : List ℕ) (X : ℕ) (fault : MaskFault) → IsListText text X → ¬ IsListFault text fault
list_text-no_fault text X fault (first, more, list) (inl (nothing, same)) =
    let cut = sym (pieces-list text X first more list) ∙ ap pieces nothing in
    let alone : first.text ≡ [] = cc in
    no_empty_item first.low first.high (rw alone at (All-head IsWellFormed first more list.well_formed).form)
  where
    no_empty_item : (low high : ℕ) → IsItem [] low high → ⊥
    no_empty_item low high (inl one) = omega (arith, one.0.0)
    no_empty_item low high (inr (a, b, joined, na, nb, va, vb)) = by a joined
      where
        by : (a : List ℕ) → [] ≡ a ++ 45 ∷ b → ⊥
        by [] e = cc
        by (x ∷ xs) e = cc
list_text-no_fault text X fault (first, more, list) (inr (some, (before, piece, after, found))) =
    let cut = sym found.cut ∙ pieces-list text X first more list in
    let all : All IsWellFormedPiece (before ++ piece ∷ after) = rw cut (well_formed_texts (first ∷ more) list.well_formed) in
    well_formed_piece piece (place_behind before) fault (well_formed_within before piece after all) found.fault_of

-- ---- reading, item by item

pub read_none : (text : List ℕ) → IsReadSoFar text empty text []
read_none text = record {
  cut = refl;
  place = omega arith;
  well_formed = All-nil IsWellFormed;
  union = λ p. has-zero p;
}

-- the item that was read
abbrev item_read : (piece : List ℕ) (X : ℕ) → ReadsItem piece X → Item
item_read piece X item = record { text = piece; low = item.low; high = item.high }

pub read_more : (text rest piece others : List ℕ) (X Y Z : ℕ) (done : List Item) → IsReadSoFar text X rest done
    → pieces rest ≡ piece ∷ pieces others → length rest ≡ length piece + 1 + length others → ReadsItem piece Y
    → ((p : ℕ) → has Z p ≡ (has X p || has Y p)) → (more : List Item) × IsReadSoFar text Z others more
read_more text rest piece others X Y Z done before cut long item joined =
    let last : Item = item_read piece Y item in
    let texts : texts_of (done ++ last ∷ []) ≡ texts_of done ++ piece ∷ [] = map-append (λ (item : Item). item.text) done (last ∷ []) in (
      done ++ last ∷ [],
      record {
        cut =
            before.cut ∙ ap (λ (parts : List (List ℕ)). texts_of done ++ parts) cut
            ∙ sym (append_assoc (texts_of done) (piece ∷ []) (pieces others))
            ∙ ap (λ (parts : List (List ℕ)). parts ++ pieces others) (sym texts);
        place = omega (
          arith,
          before.place,
          long,
          ap place_behind texts,
          sum_by_push (λ (text : List ℕ). length text + 1) (texts_of done)
              piece,
        );
        well_formed = All-push IsWellFormed done last before.well_formed item.well_formed;
        union = λ p. union-push p X Y Z done last (joined p) (before.union p) (item.contents p);
      },
    )

-- items one after another are a first one and more
list_of_items : (text : List ℕ) (X : ℕ) (items : List Item) → items ≢ [] → text ≡ join_with_byte comma (texts_of items)
    → All IsWellFormed items → ((p : ℕ) → has X p ≡ list_any (item_covers p) items) → IsListText text X
list_of_items text X [] some joined well_formed union = absurd (some refl)
list_of_items text X (first ∷ more) some joined well_formed union = (
  first,
  more,
  record {
    joined = joined;
    well_formed = well_formed;
    union = λ p. (λ h. Any-from_covers p (first ∷ more) (sym (union p) ∙ h), λ any. union p ∙ covers_from_Any p (first ∷ more) any);
  },
)

pub read_all : (text rest piece : List ℕ) (X Y Z : ℕ) (done : List Item) → IsReadSoFar text X rest done → pieces rest ≡ piece ∷ []
    → ReadsItem piece Y → ((p : ℕ) → has Z p ≡ (has X p || has Y p)) → IsListText text Z
read_all text rest piece X Y Z done before cut item joined =
    let last : Item = item_read piece Y item in
    let texts : texts_of (done ++ last ∷ []) ≡ texts_of done ++ piece ∷ [] = map-append (λ (item : Item). item.text) done (last ∷ []) in
    list_of_items text Z (done ++ last ∷ [])
    (λ nothing. omega (arith, ap length nothing, length-append done (last ∷ [])))
    (sym (join-pieces text) ∙ ap (join_with_byte comma) (before.cut ∙ ap (λ (parts : List (List ℕ)). texts_of done ++ parts) cut
    ∙ sym texts))
    (All-push IsWellFormed done last before.well_formed item.well_formed)
    (λ p. union-push p X Y Z done last (joined p) (before.union p) (item.contents p))

pub read_fault : (text rest piece : List ℕ) (after : List (List ℕ)) (X place : ℕ) (done : List Item) (fault : MaskFault) → text ≢ []
    → IsReadSoFar text X rest done → pieces rest ≡ piece ∷ after → place ≡ length text - length rest → IsPieceFault piece place fault
    → IsListFault text fault
read_fault text rest piece after X place done fault some before cut at found =
    let here : place ≡ place_behind (texts_of done) = omega (arith, at, before.place) in
    inr (
      some,
      (
        texts_of done,
        piece,
        after,
        record {
          cut = before.cut ∙ ap (λ (parts : List (List ℕ)). texts_of done ++ parts) cut;
          well_formed = well_formed_texts done before.well_formed;
          fault_of = rw here at found;
        },
      ),
    )

-- what stands before the first comma is the first piece, whatever follows
pub first_piece_is : (text piece : List ℕ) (others : Option (Bor (List ℕ)))
    → MatchOption others (pieces text ≡ piece ∷ []) (λ rest. pieces text ≡ piece ∷ pieces rest.now)
    → (after : List (List ℕ)) × (pieces text ≡ piece ∷ after)
first_piece_is text piece None cut = ([], cut)
first_piece_is text piece (Some rest) cut = (pieces rest.now, cut)
