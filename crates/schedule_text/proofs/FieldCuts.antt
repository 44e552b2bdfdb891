-- A line is cut at one space after the other.
use Rattle.std.proofs.Common.{◌≡◌, ◌≢◌, ℕ, suc, ◌+◌, ◌-◌, ◌<◌, ◌≤◌, ◌^◌, ◌%◌, ◌/◌, Bool, false, cond, ◌⊎◌, inl, inr, List, [], ◌∷◌, ◌++◌}
use Rattle.std.proofs.Common.{length, take, drop, get_or, map, Bor, sym, ap, subst, ◌∙◌, refl, arith, append_assoc, length-take-le}
use Rattle.std.proofs.Common.{length-drop, drop-cons, ne_eqb, w64, shr-shr}
use Rattle.std.specs.Prelude.{◌==◌, All}
use Rattle.std.specs.Int.{bit_at}
use Rattle.std.proofs.lemmas.Bool.{cases_eq, cases_lt}
use Rattle.std.proofs.Math.ListN.{get_or-map}
use Rattle.std.proofs.lemmas.Simd.{bit_mask_l, length-chunk, get_or-chunk}
use Rattle.std.specs.Simd.Lanes.{mask_l, chunk}
use Rattle.std.proofs.lemmas.List.{take-append-drop, get_or-take, get_or-drop, drop-drop, get_or_past, map-append, take_all}
use Rattle.std.proofs.lemmas.List.Elements.{All-from_get_or}
use Rattle.std.proofs.lemmas.List.Splits.{slice_split_none, slice_split_at}
use Rattle.std.proofs.lemmas.Nat.Bits.{bit_at-trailing_zeros, bit_at-zero}
use Rattle.std.specs.Int.{trailing_zeros}
use Rattle.text_fields.specs.Fields.{texts}
use Rattle.schedule_text.specs.Fields.{spaced_fields_of}
use Rattle.schedule_text.specs.Spacing.{AreSpaces}

-- no space stands from i up to j
abbrev pub NoSpace : List ℕ → ℕ → ℕ → Type 0
NoSpace text i j = (q : ℕ) → i ≤ q → q < j → get_or text q 0 ≢ 32

-- the fields in the room are those before `from`, and no space stands from there up to `at`
pub record IsCutTo (text : List ℕ) (room : List (Bor (List ℕ))) (from at : ℕ) : Type 0 where
  pub within : from ≤ length text
  pub cut : spaced_fields_of text ≡ texts room ++ spaced_fields_of (drop from text)
  pub none : NoSpace text from at

-- nothing of a part is a space
no_space_in : (text : List ℕ) (from n : ℕ) → from + n ≤ length text → NoSpace text from (from + n)
    → All (λ (byte : ℕ). (byte == 32) ≡ false) (take n (drop from text))
no_space_in text from n within none =
    All-from_get_or (λ (byte : ℕ). (byte == 32) ≡ false) (take n (drop from text)) 0 at
  where
    at : (k : ℕ) → k < length (take n (drop from text)) → (get_or (take n (drop from text)) k 0 == 32) ≡ false
    at k short =
        let size : length (take n (drop from text)) ≡ n = length-take-le n (drop from text) (omega (arith, length-drop from text)) in
        let here : get_or (take n (drop from text)) k 0 ≡ get_or text (from + k) 0 = get_or-take n (drop from text) k 0 (omega arith)
        ∙ get_or-drop from text k 0 in
        ne_eqb _ 32 (λ is. none (from + k) (omega arith) (omega arith) (sym here ∙ is))

-- the field that goes on ends at a space
pub cut_more : (text : List ℕ) (room : List (Bor (List ℕ))) (field : Bor (List ℕ)) (from space : ℕ) → from ≤ space
    → space < length text → get_or text space 0 ≡ 32 → NoSpace text from space
    → field.now ≡ take (space - from) (drop from text)
    → spaced_fields_of text ≡ texts room ++ spaced_fields_of (drop from text)
    → spaced_fields_of text ≡ texts (room ++ field ∷ []) ++ spaced_fields_of (drop (space + 1) text)
cut_more text room field from space ordered within here none is cut =
    let n = space - from in
    let end : from + n ≡ space = omega arith in
    let one_more : suc space ≡ space + 1 = omega arith in
    let rest : drop n (drop from text) ≡ 32 ∷ drop (space + 1) text =
    drop-drop n from text ∙ ap (λ (k : ℕ). drop k text) end ∙ drop-cons text space 0 within
    ∙ ap (λ (k : ℕ). get_or text space 0 ∷ drop k text) one_more ∙ ap (λ (byte : ℕ). byte ∷ drop (space + 1) text) here in
    let whole : drop from text ≡ take n (drop from text) ++ 32 ∷ drop (space + 1) text =
    sym (take-append-drop n (drop from text)) ∙ ap (λ (after : List ℕ). take n (drop from text) ++ after) rest in
    let one : spaced_fields_of (drop from text) ≡ field.now ∷ spaced_fields_of (drop (space + 1) text) =
    ap spaced_fields_of whole
    ∙ slice_split_at (λ byte. byte == 32) (take n (drop from text)) 32 (drop (space + 1) text)
    (no_space_in text from n (omega arith) (subst (NoSpace text from) (sym end) none)) refl
    ∙ ap (λ (first : List ℕ). first ∷ spaced_fields_of (drop (space + 1) text)) (sym is) in
    cut ∙ ap (λ (after : List (List ℕ)). texts room ++ after) one
    ∙ sym (append_assoc (texts room) (field.now ∷ []) (spaced_fields_of (drop (space + 1) text)))
    ∙ ap (λ (before : List (List ℕ)). before ++ spaced_fields_of (drop (space + 1) text))
    (sym (map-append (λ (f : Bor (List ℕ)). f.now) room (field ∷ [])))

-- the room has one more field, and the next one begins after the space
pub cut_at_space : (text : List ℕ) (room next : List (Bor (List ℕ))) (field : Bor (List ℕ)) (from at space : ℕ)
    → IsCutTo text room from at → from ≤ at → at ≤ space → space < length text → get_or text space 0 ≡ 32
    → NoSpace text at space → field.now ≡ take (space - from) (drop from text) → next ≡ room ++ field ∷ []
    → IsCutTo text next (space + 1) (space + 1)
cut_at_space text room next field from at space so_far begun later within here none is grown = record {
  within = omega arith;
  cut = cut_more text room field from space (omega arith) within here before is so_far.cut
      ∙ ap (λ (fields : List (Bor (List ℕ))). texts fields ++ spaced_fields_of (drop (space + 1) text)) (sym grown);
  none = λ q low high. absurd (omega arith);
}
  where
    before : NoSpace text from space
    before q low high = elim (cases_lt q at) [
      | inl early ↦ so_far.none q low early
      | inr late ↦ none q late high
    ]

-- a block, or the part of it that there is, was looked at
pub cut_past : (text : List ℕ) (room : List (Bor (List ℕ))) (from at end next : ℕ) → IsCutTo text room from at
    → NoSpace text at end → (end ≡ next) ⊎ (end ≡ length text) → IsCutTo text room from next
cut_past text room from at end next so_far none is = record { within = so_far.within; cut = so_far.cut; none = before is }
  where
    before : (end ≡ next) ⊎ (end ≡ length text) → NoSpace text from next
    before is q low high = elim (cases_lt q at) [
      | inl early ↦ so_far.none q low early
      | inr late ↦ elim is [
        | inl all ↦ none q late (omega arith)
        | inr over ↦ elim (cases_lt q (length text)) [
          | inl within ↦ none q late (omega arith)
          | inr past ↦ λ space. absurd (omega (arith, get_or_past text q 0 past, space))
        ]
      ]
    ]

-- the last field ends with the line
pub cut_whole : (text : List ℕ) (room : List (Bor (List ℕ))) (field : Bor (List ℕ)) (from at : ℕ) → IsCutTo text room from at
    → length text ≤ at → field.now ≡ take (length text - from) (drop from text)
    → texts (room ++ field ∷ []) ≡ spaced_fields_of text
cut_whole text room field from at so_far end is =
    let size : from + (length text - from) ≡ length text = let within = so_far.within in omega arith in
    let all : take (length text - from) (drop from text)
    ≡ drop from text = take_all _ (drop from text) (omega (arith, length-drop from text)) in
    let last : spaced_fields_of (drop from text) ≡ field.now ∷ [] =
    slice_split_none (λ byte. byte == 32) (drop from text)
    (subst (All (λ (byte : ℕ). (byte == 32) ≡ false)) all
    (no_space_in text from (length text - from) (omega arith) (λ q low high. so_far.none q low (omega arith))))
    ∙ ap (λ (first : List ℕ). first ∷ []) (sym (is ∙ all)) in
    map-append (λ (f : Bor (List ℕ)). f.now) room (field ∷ [])
    ∙ ap (λ (after : List (List ℕ)). texts room ++ after) (sym last) ∙ sym so_far.cut

-- ---- by the bits of a block

-- the lowest bit is the next space
pub next_space : (text : List ℕ) (at end bits : ℕ) → AreSpaces text at end bits → 0 < bits → bits < 2 ^ 64
    → (k : ℕ) → k ≡ trailing_zeros w64 bits
    → (k < 64) × (at + k < end) × (get_or text (at + k) 0 ≡ 32) × NoSpace text at (at + k)
next_space text at end bits spaces some fits k is =
    let low = bit_at-trailing_zeros w64 bits some fits in
    let set : bit_at bits k ≡ 1 = ap (bit_at bits) is ∙ low.1 in
    let here = spaces.each k set in
    (omega (arith, low.0), here.0, here.1, none here.0)
  where
    none : at + k < end → NoSpace text at (at + k)
    none within q from to space =
        let back : at + (q - at) ≡ q = omega arith in
        let low = bit_at-trailing_zeros w64 bits some fits in
        let set = spaces.all (q - at) (omega arith) (ap (λ (j : ℕ). get_or text j 0) back ∙ space) in
        let unset = low.2 (q - at) (omega arith) in omega arith

-- without bits there is none
pub no_more_spaces : (text : List ℕ) (at end bits : ℕ) → AreSpaces text at end bits → bits ≡ 0 → NoSpace text at end
no_more_spaces text at end bits spaces none q from to space =
    let back : at + (q - at) ≡ q = omega arith in
    let set = spaces.all (q - at) (omega arith) (ap (λ (j : ℕ). get_or text j 0) back ∙ space) in
    omega (arith, set, ap (λ (n : ℕ). bit_at n (q - at)) none, bit_at-zero (q - at))

-- the bits after the lowest n are those of the places after the first n
pub later_spaces : (text : List ℕ) (at end bits n : ℕ) → AreSpaces text at end bits
    → AreSpaces text (at + n) end (bits / 2 ^ n)
later_spaces text at end bits n spaces = record {
  each = λ k set. let here = spaces.each (n + k) (sym (moved k) ∙ set) in
      (omega (arith, here.0), ap (λ (j : ℕ). get_or text j 0) (there k) ∙ here.1);
  all = λ k within space. moved k ∙ spaces.all (n + k) (omega arith) (ap (λ (j : ℕ). get_or text j 0) (sym (there k)) ∙ space);
}
  where
    moved : (k : ℕ) → bit_at (bits / 2 ^ n) k ≡ bit_at bits (n + k)
    moved k = ap (λ (x : ℕ). x % 2) (shr-shr bits n k)

    there : (k : ℕ) → at + n + k ≡ at + (n + k)
    there k = omega arith

-- the bits of a comparison of sixteen bytes with a space
pub block_spaces : (text : List ℕ) (start : ℕ) → start + 16 ≤ length text
    → AreSpaces text start (start + 16) (mask_l (map (λ (x : ℕ). x == 32) (chunk start 16 text)))
block_spaces text start within = record {
  each = λ k set. elim (cases_lt k 16) [
    | inl short ↦ (omega arith, sym (get_or-chunk start 16 text k 0 short) ∙ is_space _ (sym (told k) ∙ set))
    | inr past ↦ absurd (omega (arith, no_bit k past, set))
  ];
  all = λ k short space. told k ∙ ap (λ (x : ℕ). cond {A = ℕ} (x == 32) 1 0) (get_or-chunk start 16 text k 0 (omega arith) ∙ space);
}
  where
    told : (k : ℕ) → bit_at (mask_l (map (λ (x : ℕ). x == 32) (chunk start 16 text))) k
        ≡ cond {A = ℕ} (get_or (chunk start 16 text) k 0 == 32) 1 0
    told k = bit_mask_l (map (λ (x : ℕ). x == 32) (chunk start 16 text)) k
        ∙ ap (λ (b : Bool). cond {A = ℕ} b 1 0) (get_or-map (λ (x : ℕ). x == 32) (chunk start 16 text) k 0)

    is_space : (x : ℕ) → cond {A = ℕ} (x == 32) 1 0 ≡ 1 → x ≡ 32
    is_space x set = elim (cases_eq x 32) [
      | inl same ↦ same
      | inr other ↦ absurd (omega (arith, set, ap (λ (b : Bool). cond {A = ℕ} b 1 0) (ne_eqb x 32 other)))
    ]

    no_bit : (k : ℕ) → 16 ≤ k → bit_at (mask_l (map (λ (x : ℕ). x == 32) (chunk start 16 text))) k ≡ 0
    no_bit k past = told k ∙ ap (λ (x : ℕ). cond {A = ℕ} (x == 32) 1 0)
        (get_or_past (chunk start 16 text) k 0 (omega (arith, length-chunk start 16 text within)))
