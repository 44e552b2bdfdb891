-- The pieces of a text between commas, and the numbers of an item around its '-'.
use Rattle.std.proofs.Common.{◌≡◌, ◌≢◌, ℕ, ◌<◌, inl, inr, Option, Some, None, MatchOption, IfNone, Bor, Bool, true, false, nat_eq, List, []}
use Rattle.std.proofs.Common.{◌∷◌, ◌++◌, length, All, Contains, refl, sym, ◌∙◌, ap, arith, ne_eqb}
use Rattle.std.specs.List.{slice_split, join_with_byte}
use Rattle.std.specs.Option.{unwrap_or}
use Rattle.std.specs.Bool.{then_some}
use Rattle.std.specs.Str.Parse.{AllDigits}
use Rattle.std.proofs.lemmas.Bool.{true≢false}
use Rattle.std.proofs.lemmas.List.Elements.{All-nil, All-cons, All-head, All-tail, All-append, Contains-append_right}
use Rattle.std.proofs.lemmas.List.Splits.{slice_split_none, slice_split_at, length-slice_split, join_with_byte-slice_split}
use Rattle.affinity_mask.specs.Number.{IsNumber, number_value}
use Rattle.affinity_mask.specs.ListText.{comma, dash, IsItem}
use Rattle.affinity_mask.specs.ListFault.{pieces}
use Rattle.affinity_mask.specs.ListSteps.{AreEnds}
use Rattle.affinity_mask.proofs.Numbers.{digit_is}

-- no byte of the text is this one
abbrev pub Lacks : ℕ → List ℕ → Type 0
Lacks byte text = All (λ (x : ℕ). nat_eq x byte ≡ false) text

pub lacks_from_none : (byte : ℕ) (text : List ℕ) → (Contains text byte → ⊥) → Lacks byte text
lacks_from_none byte [] lacks = All-nil (λ (x : ℕ). nat_eq x byte ≡ false)
lacks_from_none byte (x ∷ xs) lacks =
    All-cons (λ (y : ℕ). nat_eq y byte ≡ false) x xs
    (ne_eqb x byte (λ e. lacks (0, omega arith, e)))
    (lacks_from_none byte xs (λ h. lacks (Contains-append_right (x ∷ []) xs byte h)))

-- digits have no byte below '0'
pub lacks_from_digits : (byte : ℕ) (ds : List ℕ) → byte < 48 → AllDigits 10 ds → Lacks byte ds
lacks_from_digits byte [] low a = All-nil (λ (x : ℕ). nat_eq x byte ≡ false)
lacks_from_digits byte (d ∷ ds) low a =
    All-cons (λ (y : ℕ). nat_eq y byte ≡ false) d ds
    (ne_eqb d byte (λ e. absurd (omega (arith, digit_is d a.0, e))))
    (lacks_from_digits byte ds low a.1)

-- ---- pieces

pub pieces-whole : (text : List ℕ) → Lacks comma text → pieces text ≡ text ∷ []
pieces-whole text lacks = slice_split_none (λ byte. nat_eq byte comma) text lacks

pub pieces-cut : (piece rest : List ℕ) → Lacks comma piece → pieces (piece ++ comma ∷ rest) ≡ piece ∷ pieces rest
pieces-cut piece rest lacks = slice_split_at (λ byte. nat_eq byte comma) piece comma rest lacks refl

pub pieces-joined : (first : List ℕ) (more : List (List ℕ)) → All (Lacks comma) (first ∷ more)
    → pieces (join_with_byte comma (first ∷ more)) ≡ first ∷ more
pieces-joined first [] lacks = pieces-whole first (All-head (Lacks comma) first [] lacks)
pieces-joined first (next ∷ more) lacks =
    pieces-cut first (join_with_byte comma (next ∷ more)) (All-head (Lacks comma) first (next ∷ more) lacks)
    ∙ ap (λ (rest : List (List ℕ)). first ∷ rest) (pieces-joined next more (All-tail (Lacks comma) first (next ∷ more) lacks))

pub join-pieces : (text : List ℕ) → join_with_byte comma (pieces text) ≡ text
join-pieces text = join_with_byte-slice_split comma text

-- ---- items

-- what stands between the dashes of a text
dashed : List ℕ → List (List ℕ)
dashed text = slice_split (λ byte. nat_eq byte dash) text

dashed-whole : (text : List ℕ) → Lacks dash text → dashed text ≡ text ∷ []
unfolding dashed
dashed-whole text lacks = slice_split_none (λ byte. nat_eq byte dash) text lacks

dashed-cut : (a b : List ℕ) → Lacks dash a → dashed (a ++ dash ∷ b) ≡ a ∷ dashed b
unfolding dashed
dashed-cut a b lacks = slice_split_at (λ byte. nat_eq byte dash) a dash b lacks refl

dashed-some : (text : List ℕ) → dashed text ≢ []
unfolding dashed
dashed-some text e = omega (arith, ap length e, length-slice_split (λ byte. nat_eq byte dash) text)

dashed-one : (text one : List ℕ) → dashed text ≡ one ∷ [] → text ≡ one
unfolding dashed
dashed-one text one e = sym (join_with_byte-slice_split dash text) ∙ ap (join_with_byte dash) e

number_lacks : (byte : ℕ) (text : List ℕ) → byte < 48 → IsNumber text → Lacks byte text
number_lacks byte text low number = lacks_from_digits byte text low number.1

dashed-number : (text : List ℕ) → IsNumber text → dashed text ≡ text ∷ []
dashed-number text number = dashed-whole text (number_lacks dash text (omega arith) number)

dashed-pair : (a b : List ℕ) → IsNumber a → IsNumber b → dashed (a ++ dash ∷ b) ≡ a ∷ b ∷ []
dashed-pair a b na nb =
    dashed-cut a b (number_lacks dash a (omega arith) na) ∙ ap (λ (rest : List (List ℕ)). a ∷ rest) (dashed-number b nb)

-- an item has no comma
pub item_lacks_comma : (text : List ℕ) (low high : ℕ) → IsItem text low high → Lacks comma text
item_lacks_comma text low high (inl one) = number_lacks comma text (omega arith) one.0
item_lacks_comma text low high (inr (a, b, joined, na, nb, va, vb)) =
    rw joined
    (All-append (λ (x : ℕ). nat_eq x comma ≡ false) a (dash ∷ b) (number_lacks comma a (omega arith) na)
    (All-cons (λ (x : ℕ). nat_eq x comma ≡ false) dash b refl (number_lacks comma b (omega arith) nb)))

-- a text is an item in one way at most
pub item_once : (text : List ℕ) (low high low' high' : ℕ) → IsItem text low high → IsItem text low' high' → (low ≡ low') × (high ≡ high')
item_once text low high low' high' (inl one) (inl other) = (cc, cc)
item_once text low high low' high' (inl one) (inr (a, b, joined, na, nb, va, vb)) =
    let alone = dashed-number text one.0 in
    let pair = ap dashed joined ∙ dashed-pair a b na nb in
    cc
item_once text low high low' high' (inr (a, b, joined, na, nb, va, vb)) (inl one) =
    let alone = dashed-number text one.0 in
    let pair = ap dashed joined ∙ dashed-pair a b na nb in
    cc
item_once text low high low' high' (inr (a, b, joined, na, nb, va, vb)) (inr (c, d, joined', nc, nd, vc, vd)) =
    let one = ap dashed joined ∙ dashed-pair a b na nb in
    let other = ap dashed joined' ∙ dashed-pair c d nc nd in
    let first : a ≡ c = cc in
    let second : b ≡ d = cc in
    (sym va ∙ ap number_value first ∙ vc, sym vb ∙ ap number_value second ∙ vd)

-- ---- the ends of an item

pub ends_item : (piece a b : List ℕ) → AreEnds piece a b → IsNumber a → IsNumber b → IsItem piece (number_value a) (number_value b)
ends_item piece a b (inl (lacks, ea, eb)) na nb = inl (rw ea at na, ap number_value (sym ea), ap number_value (ea ∙ sym eb))
ends_item piece a b (inr (cut, lacks)) na nb = inr (a, b, cut, na, nb, refl, refl)

pub ends_none : (piece a b : List ℕ) → AreEnds piece a b → ((IsNumber a × IsNumber b) → ⊥) → (low high : ℕ) → ¬ IsItem piece low high
ends_none piece a b (inl (lacks, ea, eb)) none low high (inl one) = none (rw ea one.0, rw eb one.0)
ends_none piece a b (inl (lacks, ea, eb)) none low high (inr (c, d, joined, nc, nd, vc, vd)) =
    let alone = dashed-whole piece (lacks_from_none dash piece lacks) in
    let pair = ap dashed joined ∙ dashed-pair c d nc nd in
    cc
ends_none piece a b (inr (cut, lacks)) none low high (inl one) =
    let alone = dashed-number piece one.0 in
    let pair = ap dashed cut ∙ dashed-cut a b (lacks_from_none dash a lacks) in
    let nothing : dashed b ≡ [] = cc in
    dashed-some b nothing
ends_none piece a b (inr (cut, lacks)) none low high (inr (c, d, joined, nc, nd, vc, vd)) =
    let one = ap dashed cut ∙ dashed-cut a b (lacks_from_none dash a lacks) in
    let other = ap dashed joined ∙ dashed-pair c d nc nd in
    let first : a ≡ c = cc in
    let rest : dashed b ≡ d ∷ [] = cc in
    let second : b ≡ d = dashed-one b d rest in
    none (rw first nc, rw second nd)

-- the two parts around the first '-', or the piece twice, are its ends
pub ends_from_cut : (piece : Bor (List ℕ)) (cut : Option (Bor (List ℕ) × Bor (List ℕ))) (ends : Bor (List ℕ) × Bor (List ℕ))
    → MatchOption cut (Contains piece.now dash → ⊥) (λ parts. (piece.now ≡ parts.0.now ++ dash ∷ parts.1.now)
    × (Contains parts.0.now dash → ⊥)) → ends ≡ unwrap_or cut (piece, piece) → AreEnds piece.now ends.0.now ends.1.now
ends_from_cut piece None ends lacks e = rw e (inl (lacks, refl, refl))
ends_from_cut piece (Some parts) ends found e = rw e (inr found)

-- where not both ends are numbers, no numbers are answered, and the piece is no item
pub none_from_ends : {X : Type 0} (ends : X) (both : Bool) (piece a b : List ℕ) → AreEnds piece a b
    → ((IsNumber a × IsNumber b) → both ≡ true) → IfNone (then_some both ends) ((low high : ℕ) → ¬ IsItem piece low high)
none_from_ends ends true piece a b cut f = tt
none_from_ends ends false piece a b cut f = ends_none piece a b cut (λ numbers. true≢false (sym (f numbers)))
