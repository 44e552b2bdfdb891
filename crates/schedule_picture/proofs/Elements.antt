-- What a reader of elements goes over.
use Rattle.std.proofs.Common.{◌≡◌, ℕ, zero, suc, ◌/◌, ◌%◌, ◌<◌, ◌==◌, Bool, true, false, cond, if◌then◌else◌, List, [], ◌∷◌, ◌++◌, refl, ap}
use Rattle.std.proofs.Common.{◌∙◌, arith}
use Rattle.std.specs.Prelude.{codes, ◌&&◌, Result, Ok, Err, OnOk}
use Rattle.std.proofs.lemmas.Bool.Decides.{nat_tests}
use Rattle.std.specs.Fmt.{digits, decimal, digits_onto, digit_glyph}
use Rattle.schedule_picture.specs.Elements.{Reader, Start, Ended, Inside, Value, Tag, Opens, Broken, is_plain, are_plain, next, reads}
use Rattle.schedule_picture.specs.Elements.{Moves, Keeps, BeginsText, GoesOn, Ends}

pub reads_both : (untitled : Bool) (r : Reader) (xs ys : List ℕ) → reads untitled r (xs ++ ys) ≡ reads untitled (reads untitled r xs) ys
reads_both untitled r [] ys = refl
reads_both untitled r (x ∷ xs) ys = reads_both untitled (next untitled r x) xs ys

-- ---- plain bytes
pub both : (a b : Bool) → (a && b) ≡ true → (a ≡ true) × (b ≡ true)
both true b h = (refl, h)
both false b h = absurd (cc h)

stays_value : (untitled : Bool) (name : List ℕ) (outer : List (List ℕ)) (x : ℕ) → is_plain x ≡ true → next untitled (Value name outer) x
    ≡ Value name outer
stays_value untitled name outer x h = ap (λ (b : Bool). cond b (Value name outer) (cond (x == 34) (Tag name outer) Broken)) h

stays_inside : (untitled : Bool) (name : List ℕ) (outer : List (List ℕ)) (x : ℕ) → is_plain x ≡ true → next untitled (Inside name outer) x
    ≡ Inside name outer
stays_inside untitled name outer x h =
    ap (λ (b : Bool). cond b (Inside name outer) (cond (x == 10) (Inside name outer) (cond (x == 60) (Opens (name ∷ outer)) Broken))) h

pub plain_value : (xs : List ℕ) → are_plain xs ≡ true → (untitled : Bool) (name : List ℕ) (outer : List (List ℕ))
    → reads untitled (Value name outer) xs ≡ Value name outer
plain_value [] h untitled name outer = refl
plain_value (x ∷ xs) h untitled name outer =
    let parts = both (is_plain x) (are_plain xs) h in
    ap (λ (r : Reader). reads untitled r xs) (stays_value untitled name outer x parts.0) ∙ plain_value xs parts.1 untitled name outer

pub plain_inside : (xs : List ℕ) → are_plain xs ≡ true → (untitled : Bool) (name : List ℕ) (outer : List (List ℕ))
    → reads untitled (Inside name outer) xs ≡ Inside name outer
plain_inside [] h untitled name outer = refl
plain_inside (x ∷ xs) h untitled name outer =
    let parts = both (is_plain x) (are_plain xs) h in
    ap (λ (r : Reader). reads untitled r xs) (stays_inside untitled name outer x parts.0) ∙ plain_inside xs parts.1 untitled name outer

-- the same, before others
pub over_value : (xs : List ℕ) → are_plain xs ≡ true → (untitled : Bool) (name : List ℕ) (outer : List (List ℕ)) (rest : List ℕ)
    → reads untitled (Value name outer) (xs ++ rest) ≡ reads untitled (Value name outer) rest
over_value xs h untitled name outer rest =
    reads_both untitled (Value name outer) xs rest ∙ ap (λ (r : Reader). reads untitled r rest) (plain_value xs h untitled name outer)

pub over_inside : (xs : List ℕ) → are_plain xs ≡ true → (untitled : Bool) (name : List ℕ) (outer : List (List ℕ)) (rest : List ℕ)
    → reads untitled (Inside name outer) (xs ++ rest) ≡ reads untitled (Inside name outer) rest
over_inside xs h untitled name outer rest =
    reads_both untitled (Inside name outer) xs rest ∙ ap (λ (r : Reader). reads untitled r rest) (plain_inside xs h untitled name outer)

-- ---- numbers
glyph_plain : (d : ℕ) → d < 10 → is_plain (digit_glyph false d) ≡ true
glyph_plain d low = grind (arith, nat_tests)

pub plain_both : (x : ℕ) (xs : List ℕ) → is_plain x ≡ true → are_plain xs ≡ true → are_plain (x ∷ xs) ≡ true
plain_both x xs h rest = ap (λ (b : Bool). b && are_plain xs) h ∙ rest

pub plain_append : (xs ys : List ℕ) → are_plain xs ≡ true → are_plain ys ≡ true → are_plain (xs ++ ys) ≡ true
plain_append [] ys h rest = rest
plain_append (x ∷ xs) ys h rest =
    let parts = both (is_plain x) (are_plain xs) h in plain_both x (xs ++ ys) parts.0 (plain_append xs ys parts.1 rest)

onto_plain : (k n : ℕ) (acc : List ℕ) → are_plain acc ≡ true → are_plain (digits_onto k 10 false n acc) ≡ true
onto_plain zero n acc h = h
onto_plain (suc k) n acc h =
    let d : is_plain (digit_glyph false (n % 10)) ≡ true = glyph_plain (n % 10) (omega arith) in
    let more : are_plain (digit_glyph false (n % 10) ∷ acc) ≡ true = plain_both (digit_glyph false (n % 10)) acc d h in
    elim (n / 10 == 0) as (λ b. are_plain (if b then digit_glyph false (n % 10) ∷ acc
    else digits_onto k 10 false (n / 10) (digit_glyph false (n % 10) ∷ acc)) ≡ true)
    [ true ↦ more | false ↦ onto_plain k (n / 10) (digit_glyph false (n % 10) ∷ acc) more ]

pub number_plain : (n : ℕ) → are_plain (decimal n) ≡ true
unfolding digits
number_plain n = onto_plain 64 n [] refl

pub number_value : (untitled : Bool) (name : List ℕ) (outer : List (List ℕ)) (n : ℕ) (rest : List ℕ)
    → reads untitled (Value name outer) (decimal n ++ rest) ≡ reads untitled (Value name outer) rest
number_value untitled name outer n rest = over_value (decimal n) (number_plain n) untitled name outer rest

pub number_inside : (untitled : Bool) (name : List ℕ) (outer : List (List ℕ)) (n : ℕ) (rest : List ℕ)
    → reads untitled (Inside name outer) (decimal n ++ rest) ≡ reads untitled (Inside name outer) rest
number_inside untitled name outer n rest = over_inside (decimal n) (number_plain n) untitled name outer rest

-- ---- texts that go on
pub keeps_same : (text : List ℕ) → Keeps text text
keeps_same text = record { is = λ untitled begin name outer at. at }

pub keeps_then : (a b c : List ℕ) → Keeps a b → Keeps b c → Keeps a c
keeps_then a b c first second =
    record { is = λ untitled begin name outer at. second.is untitled begin name outer (first.is untitled begin name outer at) }

pub on_ok_then : {E : Type 0} (r : Result Unit E) (a b c : List ℕ) → Keeps a b → OnOk r (Keeps b c) → OnOk r (Keeps a c)
on_ok_then (Ok x) a b c first second = keeps_then a b c first second
on_ok_then (Err e) a b c first second = tt

pub on_ok_same : {E : Type 0} (r : Result Unit E) (text : List ℕ) → OnOk r (Keeps text text)
on_ok_same (Ok x) text = keeps_same text
on_ok_same (Err e) text = tt

pub moves_by : (from to : Reader) (old new piece line : List ℕ) → new ≡ old ++ line → line ≡ piece
    → ((untitled : Bool) → reads untitled from piece ≡ to) → Moves from to old new
moves_by from to old new piece line put is over = record {
  is = λ untitled begin at.
      ap (reads untitled begin) (put ∙ ap (λ (l : List ℕ). old ++ l) is) ∙ reads_both untitled begin old piece
      ∙ ap (λ (r : Reader). reads untitled r piece) at ∙ over untitled;
}

-- a line of whole elements
pub keeps_by : {E : Type 0} (r : Result Unit E) (old new piece line : List ℕ) → OnOk r (new ≡ old ++ line) → line ≡ piece
    → ((untitled : Bool) (name : List ℕ) (outer : List (List ℕ)) → reads untitled (Inside name outer) piece ≡ Inside name outer)
    → OnOk r (Keeps old new)
keeps_by (Ok x) old new piece line put is over =
    record {
      is = λ untitled begin name outer at.
          (moves_by (Inside name outer) (Inside name outer) old new piece line put is (λ u. over u name outer)).is untitled begin at;
    }
keeps_by (Err e) old new piece line put is over = tt

-- three pieces, which are whole elements together
pub keeps_three : {E : Type 0} (r : Result Unit E) (old t1 t2 new a b c : List ℕ) (p q : List ℕ → List (List ℕ) → Reader) → t1 ≡ old ++ a
    → t2 ≡ t1 ++ b → OnOk r (new ≡ t2 ++ c)
    → ((untitled : Bool) (name : List ℕ) (outer : List (List ℕ)) → reads untitled (Inside name outer) a ≡ p name outer)
    → ((untitled : Bool) (name : List ℕ) (outer : List (List ℕ)) → reads untitled (p name outer) b ≡ q name outer)
    → ((untitled : Bool) (name : List ℕ) (outer : List (List ℕ)) → reads untitled (q name outer) c ≡ Inside name outer)
    → OnOk r (Keeps old new)
keeps_three (Ok x) old t1 t2 new a b c p q e1 e2 e3 s1 s2 s3 = record {
  is = λ untitled begin name outer at.
      let at1 = (moves_by (Inside name outer) (p name outer) old t1 a a e1 refl (λ u. s1 u name outer)).is untitled begin at in
      let at2 = (moves_by (p name outer) (q name outer) t1 t2 b b e2 refl (λ u. s2 u name outer)).is untitled begin at1 in
      (moves_by (q name outer) (Inside name outer) t2 new c c e3 refl (λ u. s3 u name outer)).is untitled begin at2;
}
keeps_three (Err e) old t1 t2 new a b c p q e1 e2 e3 s1 s2 s3 = tt

-- a line that moves a reader
pub moves_ok : {E : Type 0} (r : Result Unit E) (from to : Reader) (old new piece line : List ℕ) → OnOk r (new ≡ old ++ line) → line ≡ piece
    → ((untitled : Bool) → reads untitled from piece ≡ to) → OnOk r (Moves from to old new)
moves_ok (Ok x) from to old new piece line put is over = moves_by from to old new piece line put is over
moves_ok (Err e) from to old new piece line put is over = tt

-- plain bytes
pub keeps_plain : {E : Type 0} (r : Result Unit E) (old new piece : List ℕ) → OnOk r (new ≡ old ++ piece) → are_plain piece ≡ true
    → OnOk r (Keeps old new)
keeps_plain r old new piece put plain =
    keeps_by r old new piece piece put refl (λ untitled name outer. plain_inside piece plain untitled name outer)

pub keeps_field : {E : Type 0} (r : Result Unit E) (old new label : List ℕ) (n : ℕ) → OnOk r (new ≡ old ++ (label ++ decimal n))
    → are_plain label ≡ true → OnOk r (Keeps old new)
keeps_field r old new label n put plain =
    keeps_plain r old new (label ++ decimal n) put (plain_append label (decimal n) plain (number_plain n))

pub keeps_fields : {E : Type 0} (r : Result Unit E) (old t1 new label next : List ℕ) (m n : ℕ) → t1 ≡ old ++ (label ++ decimal m)
    → OnOk r (new ≡ t1 ++ (next ++ decimal n)) → are_plain label ≡ true → are_plain next ≡ true → OnOk r (Keeps old new)
keeps_fields r old t1 new label next m n e1 e2 first second =
    on_ok_then r old t1 new (keeps_field {E = Unit {0}} (Ok tt) old t1 label m e1 first) (keeps_field r t1 new next n e2 second)

-- an element that is opened, and closed again after whole elements
pub keeps_around : {E : Type 0} (r : Result Unit E) (old t1 t2 new a c inner : List ℕ) → t1 ≡ old ++ a → Keeps t1 t2
    → OnOk r (new ≡ t2 ++ c)
    → ((untitled : Bool) (name : List ℕ) (outer : List (List ℕ)) → reads untitled (Inside name outer) a ≡ Inside inner (name ∷ outer))
    → ((untitled : Bool) (name : List ℕ) (outer : List (List ℕ)) → reads untitled (Inside inner (name ∷ outer)) c ≡ Inside name outer)
    → OnOk r (Keeps old new)
keeps_around (Ok x) old t1 t2 new a c inner e1 keeps e3 s1 s3 = record {
  is = λ untitled begin name outer at.
      let at1 = (moves_by (Inside name outer) (Inside inner (name ∷ outer)) old t1 a a e1 refl (λ u. s1 u name outer)).is untitled begin
      at in
      let at2 = keeps.is untitled begin inner (name ∷ outer) at1 in
      (moves_by (Inside inner (name ∷ outer)) (Inside name outer) t2 new c c e3 refl (λ u. s3 u name outer)).is untitled begin at2;
}
keeps_around (Err e) old t1 t2 new a c inner e1 keeps e3 s1 s3 = tt

-- the same, with an element within another one
pub keeps_deep : {E : Type 0} (r : Result Unit E) (old t1 t2 new a c inner middle : List ℕ) → t1 ≡ old ++ a → Keeps t1 t2
    → OnOk r (new ≡ t2 ++ c)
    → ((untitled : Bool) (name : List ℕ) (outer : List (List ℕ)) → reads untitled (Inside name outer) a
    ≡ Inside inner (middle ∷ name ∷ outer))
    → ((untitled : Bool) (name : List ℕ) (outer : List (List ℕ)) → reads untitled (Inside inner (middle ∷ name ∷ outer)) c
    ≡ Inside name outer) → OnOk r (Keeps old new)
keeps_deep (Ok x) old t1 t2 new a c inner middle e1 keeps e3 s1 s3 = record {
  is = λ untitled begin name outer at.
      let at1 = (moves_by (Inside name outer) (Inside inner (middle ∷ name ∷ outer)) old t1 a a e1 refl (λ u. s1 u name outer)).is untitled
      begin at in
      let at2 = keeps.is untitled begin inner (middle ∷ name ∷ outer) at1 in
      (moves_by (Inside inner (middle ∷ name ∷ outer)) (Inside name outer) t2 new c c e3 refl (λ u. s3 u name outer)).is untitled begin at2;
}
keeps_deep (Err e) old t1 t2 new a c inner middle e1 keeps e3 s1 s3 = tt

-- ---- the three texts around the groups
pub begins_by : (t0 t1 t2 t3 t4 : List ℕ) → t0 ≡ [] → Moves Start (Inside (codes "svg") []) t0 t1 → Keeps t1 t2 → Keeps t2 t3 → Keeps t3 t4
    → BeginsText t4
begins_by t0 t1 t2 t3 t4 e0 m1 k2 k3 k4 = λ untitled.
    let at1 = m1.is untitled Start (ap (reads untitled Start) e0) in
    k4.is untitled Start _ _ (k3.is untitled Start _ _ (k2.is untitled Start _ _ at1))

pub goes_on_by : (t0 t1 t2 t3 t4 : List ℕ) → t0 ≡ [] → Keeps t0 t1 → Keeps t1 t2 → Keeps t2 t3 → Keeps t3 t4 → GoesOn t4
goes_on_by t0 t1 t2 t3 t4 e0 k1 k2 k3 k4 = λ untitled.
    let r : Reader = Inside (codes "svg") [] in
    k4.is untitled r _ _ (k3.is untitled r _ _ (k2.is untitled r _ _ (k1.is untitled r _ _ (ap (reads untitled r) e0))))

pub ends_by : (t0 t1 t2 t3 : List ℕ) → t0 ≡ [] → Keeps t0 t1 → Keeps t1 t2 → t3 ≡ t2 ++ codes "</svg>\n" → Ends t3
ends_by t0 t1 t2 t3 e0 k1 k2 e3 = λ untitled.
    let r : Reader = Inside (codes "svg") [] in
    (moves_by r Ended t2 t3 (codes "</svg>\n") (codes "</svg>\n") e3 refl (λ u. refl)).is untitled r
    (k2.is untitled r _ _ (k1.is untitled r _ _ (ap (reads untitled r) e0)))
