-- Texts that are written piece by piece, and lists that are made so.
use Rattle.std.proofs.Common.{◌≡◌, ℕ, ◌+◌, Bool, true, false, cond, List, [], ◌∷◌, ◌++◌, map, refl, sym, ap, ◌∙◌, append_assoc, append-nil}
use Rattle.std.proofs.Common.{arith}
use Rattle.std.specs.Prelude.{filter}
use Rattle.std.specs.List.{flat_map, range_with_len}
use Rattle.std.proofs.lemmas.List.Concat.{flat_map-append}
use Rattle.std.proofs.lemmas.List.FromFn.{map-range_with_len_more, filter_of_map_range_with_len_more}

map_self : (xs : List ℕ) → map (λ x. x) xs ≡ xs
map_self [] = refl
map_self (x ∷ xs) = ap (λ (rest : List ℕ). x ∷ rest) (map_self xs)

-- the numbers below n + 1
range_more : (n : ℕ) → range_with_len 0 (n + 1) ≡ range_with_len 0 n ++ n ∷ []
range_more n =
    sym (map_self (range_with_len 0 (n + 1))) ∙ map-range_with_len_more (λ (x : ℕ). x) 0 n n (omega arith)
    ∙ ap (λ (xs : List ℕ). xs ++ n ∷ []) (map_self (range_with_len 0 n))

-- after n pieces comes the next one
pub pieces_more : (f : ℕ → List ℕ) (n : ℕ) (old now next : List ℕ) → now ≡ old ++ flat_map f (range_with_len 0 n)
    → next ≡ now ++ f n → next ≡ old ++ flat_map f (range_with_len 0 (n + 1))
pieces_more f n old now next before step =
    let last : flat_map f (n ∷ []) ≡ f n = append-nil (f n) in
    let all : flat_map f (range_with_len 0 (n + 1)) ≡ flat_map f (range_with_len 0 n) ++ f n =
    ap (flat_map f) (range_more n) ∙ flat_map-append f (range_with_len 0 n) (n ∷ [])
    ∙ ap (λ (end : List ℕ). flat_map f (range_with_len 0 n) ++ end) last in
    step ∙ ap (λ (text : List ℕ). text ++ f n) before ∙ append_assoc old (flat_map f (range_with_len 0 n)) (f n)
    ∙ ap (λ (end : List ℕ). old ++ end) (sym all)

-- before the first piece
pub pieces_none : (f : ℕ → List ℕ) (old : List ℕ) → old ≡ old ++ flat_map f (range_with_len 0 0)
pieces_none f old = sym (append-nil old)

-- one number more passes a test, or does not
pub passing_more : (p : ℕ → Bool) (n : ℕ) → filter p (range_with_len 0 (n + 1)) ≡ filter p (range_with_len 0 n) ++ cond (p n) (n ∷ []) []
passing_more p n =
    ap (filter p) (sym (map_self (range_with_len 0 (n + 1)))) ∙ filter_of_map_range_with_len_more p (λ (x : ℕ). x) 0 n n (omega arith)
    ∙ ap (λ (xs : List ℕ). filter p xs ++ cond (p n) (n ∷ []) []) (map_self (range_with_len 0 n))

pub passes_more : (p : ℕ → Bool) (n : ℕ) (now next : List ℕ) → now ≡ filter p (range_with_len 0 n) → p n ≡ true → next ≡ now ++ n ∷ []
    → next ≡ filter p (range_with_len 0 (n + 1))
passes_more p n now next before passes step =
    step ∙ ap (λ (xs : List ℕ). xs ++ n ∷ []) before
    ∙ ap (λ (b : Bool). filter p (range_with_len 0 n) ++ cond b (n ∷ []) []) (sym passes) ∙ sym (passing_more p n)

pub passes_not : (p : ℕ → Bool) (n : ℕ) (now : List ℕ) → now ≡ filter p (range_with_len 0 n) → p n ≡ false
    → now ≡ filter p (range_with_len 0 (n + 1))
passes_not p n now before fails =
    before ∙ sym (append-nil (filter p (range_with_len 0 n)))
    ∙ ap (λ (b : Bool). filter p (range_with_len 0 n) ++ cond b (n ∷ []) []) (sym fails) ∙ sym (passing_more p n)

-- the parts of a picture, one after the other
pub parts_joined : (t0 t1 t2 t3 t4 t5 t6 a b c d e f : List ℕ) → t0 ≡ [] → t1 ≡ t0 ++ a → t2 ≡ t1 ++ b → t3 ≡ t2 ++ c → t4 ≡ t3 ++ d
    → t5 ≡ t4 ++ e → t6 ≡ t5 ++ f → t6 ≡ a ++ b ++ c ++ d ++ e ++ f
parts_joined t0 t1 t2 t3 t4 t5 t6 a b c d e f e0 e1 e2 e3 e4 e5 e6 = rw (e6, e5, e4, e3, e2, e1, e0) (simp append_assoc)

-- what stands around it
pub around_joined : (t0 t1 t2 t3 t4 t5 t6 t7 t8 a b c d e f g h : List ℕ) → t1 ≡ t0 ++ a → t2 ≡ t1 ++ b → t3 ≡ t2 ++ c → t4 ≡ t3 ++ d
    → t5 ≡ t4 ++ e → t6 ≡ t5 ++ f → t7 ≡ t6 ++ g → t8 ≡ t7 ++ h → t8 ≡ t0 ++ (a ++ b ++ c ++ d ++ e ++ f ++ g ++ h)
around_joined t0 t1 t2 t3 t4 t5 t6 t7 t8 a b c d e f g h e1 e2 e3 e4 e5 e6 e7 e8 = rw (e8, e7, e6, e5, e4, e3, e2, e1) (simp append_assoc)
