-- Words of a line that differ, and parts of lists that are equal.
use Rattle.std.proofs.Common.{◌≡◌, ℕ, zero, suc, ◌+◌, ◌<◌, ◌≤◌, Bool, true, false, ◌&&◌, nat_eq, List, [], ◌∷◌, length, get_or, take}
use Rattle.std.proofs.Common.{IsTrue, ◌↔◌, refl, sym, ap, ◌∙◌, add-one, eq-eqb, arith}
use Rattle.std.specs.Str.{bytes_eq}
use Rattle.std.proofs.Math.Bool.{and-true}
use Rattle.std.proofs.lemmas.Bool.{true≢false}
use Rattle.std.proofs.lemmas.List.{take_all}
use Rattle.std.proofs.lemmas.Slice.Eq.{bytes_eq-Decides}

pub head_same : {A : Type 0} {a b : A} {xs ys : List A} → a ∷ xs ≡ b ∷ ys → a ≡ b
head_same e = cc

pub tail_same : {A : Type 0} {a b : A} {xs ys : List A} → a ∷ xs ≡ b ∷ ys → xs ≡ ys
tail_same e = cc

-- whether two words are one
abbrev pub are_same : List ℕ → List ℕ → Bool
are_same [] [] = true
are_same [] (y ∷ ys) = false
are_same (x ∷ xs) [] = false
are_same (x ∷ xs) (y ∷ ys) = nat_eq x y && are_same xs ys

are_same-itself : (xs : List ℕ) → are_same xs xs ≡ true
are_same-itself [] = refl
are_same-itself (x ∷ xs) = rw (eq-eqb x x refl, are_same-itself xs) refl

-- two words that differ are not one
pub other_word : {a b : List ℕ} → a ≡ b → are_same a b ≡ false → ⊥
other_word {a = a} e differ = true≢false (sym (are_same-itself a) ∙ ap (are_same a) e ∙ differ)

-- nor are lists that begin with them
pub clash : {a b : List ℕ} {xs ys : List (List ℕ)} → a ∷ xs ≡ b ∷ ys → are_same a b ≡ false → ⊥
clash e differ = other_word (head_same e) differ

-- ---- two tests at once

pub and_left : (a b : Bool) → (a && b) ≡ true → a ≡ true
and_left a b e = grind arith

pub and_right : (a b : Bool) → (a && b) ≡ true → b ≡ true
and_right a b e = grind arith

-- ---- a word by its bytes

and_assoc : (a b c : Bool) → ((a && b) && c) ≡ (a && (b && c))
and_assoc true b c = refl
and_assoc false b c = refl

-- one byte more of both
same_more : (xs ys : List ℕ) (i : ℕ) → i < length xs → length xs ≡ length ys
    → bytes_eq (take (suc i) xs) (take (suc i) ys)
    ≡ (bytes_eq (take i xs) (take i ys) && nat_eq (get_or xs i 0) (get_or ys i 0))
same_more [] ys i within long = absurd (omega arith)
same_more (x ∷ xs) [] i within long = absurd (omega (arith, long))
same_more (x ∷ xs) (y ∷ ys) zero within long = and-true (nat_eq x y)
same_more (x ∷ xs) (y ∷ ys) (suc i) within long =
    ap (λ (b : Bool). nat_eq x y && b) (same_more xs ys i (omega (arith, within)) (omega (arith, long)))
    ∙ sym (and_assoc (nat_eq x y) (bytes_eq (take i xs) (take i ys)) (nat_eq (get_or xs i 0) (get_or ys i 0)))

pub same_with : (field word : List ℕ) (i : ℕ) (same : Bool) → i < length word → length field ≡ length word
    → same ≡ bytes_eq (take i field) (take i word)
    → (same && nat_eq (get_or field i 0) (get_or word i 0)) ≡ bytes_eq (take (i + 1) field) (take (i + 1) word)
same_with field word i same within long so_far =
    ap (λ (b : Bool). b && nat_eq (get_or field i 0) (get_or word i 0)) so_far
    ∙ sym (same_more field word i (omega (arith, within, long)) long)
    ∙ ap (λ (k : ℕ). bytes_eq (take k field) (take k word)) (sym (add-one i))

-- all bytes of both
pub whole_word : (field word : List ℕ) (i : ℕ) (same : Bool) → length word ≤ i → length field ≡ length word
    → same ≡ bytes_eq (take i field) (take i word) → IsTrue same ↔ (field ≡ word)
whole_word field word i same all long tested =
    let whole : same ≡ bytes_eq field word =
    rw (take_all i field (omega (arith, all, long)), take_all i word all) at tested in
    let decided = bytes_eq-Decides field word in
    (λ yes. decided.0 (sym whole ∙ yes), λ equal. whole ∙ decided.1 equal)
