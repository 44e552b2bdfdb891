-- Texts that are written piece by piece.
use Rattle.std.proofs.Common.{◌≡◌, ℕ, ◌+◌, List, [], ◌∷◌, ◌++◌, map, refl, sym, ap, ◌∙◌, append_assoc, append-nil, arith}
use Rattle.std.specs.List.{flat_map, range_with_len}
use Rattle.std.proofs.lemmas.List.Concat.{flat_map-append}
use Rattle.std.proofs.lemmas.List.FromFn.{map-range_with_len_more}

-- the numbers below n + 1
range_more : (n : ℕ) → range_with_len 0 (n + 1) ≡ range_with_len 0 n ++ n ∷ []
range_more n =
    let same : (xs : List ℕ) → map (λ x. x) xs ≡ xs = map_self in
    sym (same (range_with_len 0 (n + 1))) ∙ map-range_with_len_more (λ (x : ℕ). x) 0 n n (omega arith)
    ∙ ap (λ (xs : List ℕ). xs ++ n ∷ []) (same (range_with_len 0 n))
  where
    map_self : (xs : List ℕ) → map (λ x. x) xs ≡ xs
    map_self [] = refl
    map_self (x ∷ xs) = ap (λ (rest : List ℕ). x ∷ rest) (map_self xs)

-- after n pieces comes the next one
pub pieces_more : (f : ℕ → List ℕ) (n : ℕ) (old now next piece : List ℕ) → now ≡ old ++ flat_map f (range_with_len 0 n)
    → next ≡ now ++ piece → piece ≡ f n → next ≡ old ++ flat_map f (range_with_len 0 (n + 1))
pieces_more f n old now next piece before step is =
    let last : flat_map f (n ∷ []) ≡ f n = append-nil (f n) in
    let all : flat_map f (range_with_len 0 (n + 1)) ≡ flat_map f (range_with_len 0 n) ++ f n =
    ap (flat_map f) (range_more n) ∙ flat_map-append f (range_with_len 0 n) (n ∷ [])
    ∙ ap (λ (end : List ℕ). flat_map f (range_with_len 0 n) ++ end) last in
    step ∙ ap (λ (text : List ℕ). text ++ piece) before ∙ append_assoc old (flat_map f (range_with_len 0 n)) piece
    ∙ ap (λ (end : List ℕ). old ++ (flat_map f (range_with_len 0 n) ++ end)) is ∙ ap (λ (end : List ℕ). old ++ end) (sym all)

-- before the first piece
pub pieces_none : (f : ℕ → List ℕ) (old : List ℕ) → old ≡ old ++ flat_map f (range_with_len 0 0)
pieces_none f old = sym (append-nil old)

-- the two groups of a picture, and what stands around them
pub groups_joined : (before head lanes close between rows_head rows after : List ℕ)
    → [] ++ before ++ head ++ lanes ++ close ++ between ++ rows_head ++ rows ++ close ++ after
    ≡ before ++ (head ++ lanes ++ close) ++ between ++ (rows_head ++ rows ++ close) ++ after
groups_joined before head lanes close between rows_head rows after = simp append_assoc

-- ---- a bar, and the head of a group
pub bar_joined : (t0 t1 t2 t3 t4 a x b y c w d : List ℕ) → t1 ≡ t0 ++ (a ++ x) → t2 ≡ t1 ++ (b ++ y) → t3 ≡ t2 ++ (c ++ w) → t4 ≡ t3 ++ d
    → t4 ≡ t0 ++ (a ++ x ++ b ++ y ++ c ++ w ++ d)
bar_joined t0 t1 t2 t3 t4 a x b y c w d e1 e2 e3 e4 = rw (e4, e3, e2, e1) (simp append_assoc)

pub coloured_joined : (t0 t1 t2 t3 t4 t5 t6 a x b y c w d colour e : List ℕ) → t1 ≡ t0 ++ (a ++ x) → t2 ≡ t1 ++ (b ++ y)
    → t3 ≡ t2 ++ (c ++ w) → t4 ≡ t3 ++ d → t5 ≡ t4 ++ colour → t6 ≡ t5 ++ e
    → t6 ≡ t0 ++ (a ++ x ++ b ++ y ++ c ++ w ++ d ++ colour ++ e)
coloured_joined t0 t1 t2 t3 t4 t5 t6 a x b y c w d colour e e1 e2 e3 e4 e5 e6 = rw (e6, e5, e4, e3, e2, e1) (simp append_assoc)

pub stay_joined : (t0 t1 t2 t3 t4 t5 t6 t7 t8 t9 t10 t11 a x b y c w d colour e name f p g from h to i : List ℕ)
    → t1 ≡ t0 ++ (a ++ x) → t2 ≡ t1 ++ (b ++ y) → t3 ≡ t2 ++ (c ++ w) → t4 ≡ t3 ++ d → t5 ≡ t4 ++ colour → t6 ≡ t5 ++ e → t7 ≡ t6 ++ name
    → t8 ≡ t7 ++ (f ++ p) → t9 ≡ t8 ++ (g ++ from) → t10 ≡ t9 ++ (h ++ to) → t11 ≡ t10 ++ i
    → t11 ≡ t0 ++ (a ++ x ++ b ++ y ++ c ++ w ++ d ++ colour ++ e ++ name ++ f ++ p ++ g ++ from ++ h ++ to ++ i)
stay_joined t0 t1 t2 t3 t4 t5 t6 t7 t8 t9 t10 t11 a x b y c w d colour e name f p g from h to i e1 e2 e3 e4 e5 e6 e7 e8 e9 e10 e11 =
    rw (e11, e10, e9, e8, e7, e6, e5, e4, e3, e2, e1) (simp append_assoc)

pub head_joined : (t0 t1 t2 t3 t4 t5 t6 t7 a b c d e f g h i j k l m : List ℕ)
    → t1 ≡ t0 ++ (a ++ b) → t2 ≡ t1 ++ (c ++ d) → t3 ≡ t2 ++ (e ++ f) → t4 ≡ t3 ++ (g ++ h) → t5 ≡ t4 ++ (i ++ j) → t6 ≡ t5 ++ (k ++ l)
    → t7 ≡ t6 ++ m
    → t7 ≡ t0 ++ (a ++ b ++ c ++ d ++ e ++ f ++ g ++ h ++ i ++ j ++ k ++ l ++ m)
head_joined t0 t1 t2 t3 t4 t5 t6 t7 a b c d e f g h i j k l m e1 e2 e3 e4 e5 e6 e7 = rw (e7, e6, e5, e4, e3, e2, e1) (simp append_assoc)

-- the parts of a picture, one after the other
pub parts_joined : (t0 t1 t2 t3 t4 t5 t6 t7 t8 t9 before head lanes close between rows_head rows after : List ℕ)
    → t0 ≡ [] → t1 ≡ t0 ++ before → t2 ≡ t1 ++ head → t3 ≡ t2 ++ lanes → t4 ≡ t3 ++ close → t5 ≡ t4 ++ between → t6 ≡ t5 ++ rows_head
    → t7 ≡ t6 ++ rows → t8 ≡ t7 ++ close → t9 ≡ t8 ++ after
    → t9 ≡ before ++ (head ++ lanes ++ close) ++ between ++ (rows_head ++ rows ++ close) ++ after
parts_joined t0 t1 t2 t3 t4 t5 t6 t7 t8 t9 before head lanes close between rows_head rows after e0 e1 e2 e3 e4 e5 e6 e7 e8 e9 =
    rw (e9, e8, e7, e6, e5, e4, e3, e2, e1, e0) (groups_joined before head lanes close between rows_head rows after)
