-- One piece after another, and what one piece gives.
use Rattle.std.proofs.Common.{◌≡◌, ℕ, List, [], ◌++◌, ◌+◌, ◌-◌, ◌≤◌, length, take, drop, Option, Some, None, sym, ap, ◌∙◌, append_assoc}
use Rattle.std.proofs.Common.{take-append-drop, arith, take-add, take_all, length-drop, length-append, length-take, min, Ok, ◌↔◌, ◌<◌}
use Rattle.std.proofs.lemmas.Grind.{common_steps}
use Rattle.std.proofs.lemmas.List.{nil_from_length, drop_all}
use Rattle.std.specs.Io.KnownBytes.{Consumes, Appends}
use Rattle.shift_io.specs.Stream.{Takes, TakesExactly}

-- bytes that were taken in two parts
pub consumes_more : (a b c : Option (List ℕ)) (xs ys : List ℕ) → Consumes a b xs → Consumes b c ys → Consumes a c (xs ++ ys)
consumes_more None b c xs ys p q = tt
consumes_more (Some a) None c xs ys p q = absurd p
consumes_more (Some a) (Some b) None xs ys p q = absurd q
consumes_more (Some a) (Some b) (Some c) xs ys p q = p ∙ ap (λ (r : List ℕ). xs ++ r) q ∙ sym (append_assoc xs ys c)

-- bytes that were put in two parts
pub appends_more : (a b c : Option (List ℕ)) (xs ys : List ℕ) → Appends a b xs → Appends b c ys → Appends a c (xs ++ ys)
appends_more None b c xs ys p q = tt
appends_more (Some a) None c xs ys p q = absurd p
appends_more (Some a) (Some b) None xs ys p q = absurd q
appends_more (Some a) (Some b) (Some c) xs ys p q = q ∙ ap (λ (r : List ℕ). r ++ ys) p ∙ append_assoc a xs ys

-- the bytes that were taken before, and one take
pub takes_more : {E : Type 0} (a b c : Option (List ℕ)) (bytes into : List ℕ) (n : ℕ) → Consumes a b bytes → Takes {E = E} b c (Ok n) into
    → TakesExactly a c (length bytes + n)
takes_more a b c bytes into n before one =
    (bytes ++ take n into, consumes_more a b c bytes (take n into) before one.bytes.0, simp length-append (omega (arith, one.bound.1)))

-- a prefix of the bytes that was put before, and a prefix of the rest
pub appends_prefix : (a b c : Option (List ℕ)) (xs : List ℕ) (done n : ℕ) → done ≤ length xs → Appends a b (take done xs)
    → n ≤ length (take (length xs - done) (drop done xs)) → Appends b c (take n (take (length xs - done) (drop done xs)))
    → (done + n ≤ length xs) × Appends a c (take (done + n) xs)
appends_prefix a b c xs done n within before fits one =
    let rest : take (length xs - done) (drop done xs) ≡ drop done xs = take_all (length xs - done) (drop done xs)
    (simp length-drop (omega arith)) in
    let fits_rest : n ≤ length (drop done xs) = rw rest at fits in (
      let left = length-drop done xs in omega arith,
      rw take-add (appends_more a b c (take done xs) (take n (drop done xs)) before (rw rest at one)),
    )

-- where there is room, as many bytes as fit are none exactly where none is left
none_fits : (left : List ℕ) (n room : ℕ) → 0 < room → n ≡ min (length left) room → (n ≡ 0) ↔ (left ≡ [])
none_fits left n room some count =
    (λ none. nil_from_length left (omega arith), λ none. let short : length left ≡ 0 = ap length none in omega arith)

-- the first bytes left, as many as there is room for, are one take
pub takes_prefix : {E : Type 0} (left into : List ℕ) (n : ℕ) → n ≡ min (length left) (length into)
    → Takes {E = E} (Some left) (Some (drop n left)) (Ok n) (take n left ++ drop n into)
takes_prefix left into n count =
    let taken : length (take n left) ≡ n = simp length-take (omega arith) in
    let prefix : take n (take n left ++ drop n into) ≡ take n left = grind (arith, common_steps) in
    let room : length (take n left ++ drop n into) ≡ length into = simp (length-append, length-drop, taken) (omega arith) in
    record {
      bound = (rw room (omega arith), rw prefix (sym taken));
      bytes = (rw prefix (sym (take-append-drop n left)), λ none some. drop_all n left (omega arith));
      end = λ some. none_fits left n (length into) (rw room at some) count;
    }
