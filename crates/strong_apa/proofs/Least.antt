-- Least lists: at most one, and one where there is any.
use Rattle.std.proofs.Common.{◌≡◌, ℕ, zero, suc, ◌<◌, ◌≤◌, List, [], ◌∷◌, length, refl, sym, ◌∙◌, subst, inl, inr, ◌⊎◌, arith}
use Rattle.std.proofs.lemmas.Bool.{cases_lt, cases_eq}
use Rattle.strong_apa.proofs.Simple.{AllBelow}
use Rattle.strong_apa.specs.Chain.{IsLexicographicallyLess, IsLess, IsLeastSuch}

-- ---- at most one
lexicographic_asym : (xs ys : List ℕ) → IsLexicographicallyLess xs ys → IsLexicographicallyLess ys xs → ⊥
lexicographic_asym [] ys less more = less
lexicographic_asym (x ∷ xs) [] less more = less
lexicographic_asym (x ∷ xs) (y ∷ ys) (inl lt) (inl gt) = absurd (omega arith)
lexicographic_asym (x ∷ xs) (y ∷ ys) (inl lt) (inr same) = let e = same.0 in absurd (omega arith)
lexicographic_asym (x ∷ xs) (y ∷ ys) (inr same) (inl gt) = let e = same.0 in absurd (omega arith)
lexicographic_asym (x ∷ xs) (y ∷ ys) (inr same) (inr back) = lexicographic_asym xs ys same.1 back.1

less_asym : (xs ys : List ℕ) → IsLess xs ys → IsLess ys xs → ⊥
less_asym xs ys (inl lt) (inl gt) = absurd (omega arith)
less_asym xs ys (inl lt) (inr same) = let e = same.0 in absurd (omega arith)
less_asym xs ys (inr same) (inl gt) = let e = same.0 in absurd (omega arith)
less_asym xs ys (inr same) (inr back) = lexicographic_asym xs ys same.1 back.1

-- two least lists with one property are equal
pub least_unique : (Has : List ℕ → Type 0) (xs ys : List ℕ) → IsLeastSuch Has xs → IsLeastSuch Has ys → xs ≡ ys
least_unique Has xs ys one other = elim (one.least ys other.itself) [
  | inl same ↦ same
  | inr less ↦ elim (other.least xs one.itself) [
    | inl same ↦ sym same
    | inr more ↦ absurd (less_asym xs ys less more)
  ]
]

-- ---- one where there is any
abbrev pub Decided : Type 0 → Type 0
Decided P = P ⊎ (P → ⊥)

-- among the lists of n numbers below m that have the property, the lexicographically least one, or there is none
abbrev LeastOfLength : ℕ → ℕ → (List ℕ → Type 0) → Type 0
LeastOfLength m n Has =
    ((xs : List ℕ) × (length xs ≡ n) × Has xs
    × ((ys : List ℕ) → length ys ≡ n → AllBelow m ys → Has ys → (xs ≡ ys) ⊎ IsLexicographicallyLess xs ys))
    ⊎ ((ys : List ℕ) → length ys ≡ n → AllBelow m ys → Has ys → ⊥)

-- the same of the lists of n + 1 numbers whose first number is below k
abbrev LeastWithHead : ℕ → ℕ → ℕ → (List ℕ → Type 0) → Type 0
LeastWithHead m n k Has =
    ((x : ℕ) × (xs : List ℕ) × (x < k) × (length xs ≡ n) × Has (x ∷ xs)
    × ((y : ℕ) (ys : List ℕ) → y < k → length ys ≡ n → AllBelow m ys → Has (y ∷ ys)
    → (x ∷ xs ≡ y ∷ ys) ⊎ IsLexicographicallyLess (x ∷ xs) (y ∷ ys)))
    ⊎ ((y : ℕ) (ys : List ℕ) → y < k → length ys ≡ n → AllBelow m ys → Has (y ∷ ys) → ⊥)

least_with_head : (m n : ℕ) (Has : List ℕ → Type 0) → ((x : ℕ) → LeastOfLength m n (λ xs. Has (x ∷ xs))) → (k : ℕ) → LeastWithHead m n k Has
least_with_head m n Has tails zero = inr (λ y ys lt. absurd (omega arith))
least_with_head m n Has tails (suc k) = go (least_with_head m n Has tails k) (tails k)
  where
    go : LeastWithHead m n k Has → LeastOfLength m n (λ xs. Has (k ∷ xs)) → LeastWithHead m n (suc k) Has
    go (inl found) tail = inl (
      found.0,
      found.1,
      (let lt = found.2 in omega arith),
      found.3,
      found.4,
      (λ y ys lt n' all h. elim (cases_lt y k) [
        | inl below ↦ found.5 y ys below n' all h
        | inr ge ↦ inr (inl (let less = found.2 in omega arith))
      ]),
    )
    go (inr none) (inl tail) = inl (
      k,
      tail.0,
      omega arith,
      tail.1,
      tail.2,
      (λ y ys lt n' all h. elim (cases_lt y k) [
        | inl below ↦ absurd (none y ys below n' all h)
        | inr ge ↦ (let same : k ≡ y = omega arith in elim (tail.3 ys n' all (rw same h)) [
          | inl e ↦ inl (rw (same, e) refl)
          | inr less ↦ inr (inr (same, less))
        ])
      ]),
    )
    go (inr none) (inr no_tail) = inr (λ y ys lt n' all h. elim (cases_lt y k) [
      | inl below ↦ none y ys below n' all h
      | inr ge ↦ (let same : k ≡ y = omega arith in no_tail ys n' all (rw same h))
    ])

least_of_length : (m n : ℕ) (Has : List ℕ → Type 0) → ((xs : List ℕ) → Decided (Has xs)) → LeastOfLength m n Has
least_of_length m zero Has decided = elim (decided []) [
  | inl h ↦ inl ([], refl, h, (λ ys n _ _. inl (empty_of ys n)))
  | inr fails ↦ inr (λ ys n _ h. fails (subst Has (sym (empty_of ys n)) h))
]
  where
    empty_of : (ys : List ℕ) → length ys ≡ 0 → [] ≡ ys
    empty_of [] n = refl
    empty_of (y ∷ ys) n = absurd (omega arith)
least_of_length m (suc n) Has decided =
    go (least_with_head m n Has (λ x. least_of_length m n (λ xs. Has (x ∷ xs)) (λ xs. decided (x ∷ xs))) m)
  where
    go : LeastWithHead m n m Has → LeastOfLength m (suc n) Has
    go (inl found) = inl (
      found.0 ∷ found.1,
      (let e = found.3 in omega arith),
      found.4,
      (λ ys n' all h. split ys n' all h found.5),
    )
      where
        split : (ys : List ℕ) → length ys ≡ suc n → AllBelow m ys → Has ys
            → ((y : ℕ) (rest : List ℕ) → y < m → length rest ≡ n → AllBelow m rest → Has (y ∷ rest)
            → (found.0 ∷ found.1 ≡ y ∷ rest) ⊎ IsLexicographicallyLess (found.0 ∷ found.1) (y ∷ rest))
            → (found.0 ∷ found.1 ≡ ys) ⊎ IsLexicographicallyLess (found.0 ∷ found.1) ys
        split [] n' all h least = absurd (omega arith)
        split (y ∷ rest) n' all h least = least y rest all.0 (omega arith) all.1 h
    go (inr none) = inr split
      where
        split : (ys : List ℕ) → length ys ≡ suc n → AllBelow m ys → Has ys → ⊥
        split [] n' all h = omega arith
        split (y ∷ rest) n' all h = none y rest all.0 (omega arith) all.1 h

-- the least of all lists of numbers below m that have the property
abbrev LeastBelow : ℕ → (List ℕ → Type 0) → Type 0
LeastBelow m Has = (xs : List ℕ) × Has xs × ((ys : List ℕ) → AllBelow m ys → Has ys → (xs ≡ ys) ⊎ IsLess xs ys)

least_up_to : (m n : ℕ) (Has : List ℕ → Type 0) → ((xs : List ℕ) → Decided (Has xs))
    → LeastBelow m Has ⊎ ((ys : List ℕ) → length ys ≤ n → AllBelow m ys → Has ys → ⊥)
least_up_to m zero Has decided = elim (least_of_length m 0 Has decided) [
  | inl found ↦ inl (
    found.0,
    found.2,
    (λ ys all h. elim (cases_eq (length ys) 0) [
      | inl same ↦ elim (found.3 ys same all h) [ inl e ↦ inl e | inr less ↦ inr (inr (found.1 ∙ sym same, less)) ]
      | inr longer ↦ inr (inl (let e = found.1 in omega arith))
    ]),
  )
  | inr none ↦ inr (λ ys le all h. none ys (omega arith) all h)
]
least_up_to m (suc n) Has decided = elim (least_up_to m n Has decided) [
  | inl least ↦ inl least
  | inr shorter ↦ elim (least_of_length m (suc n) Has decided) [
    | inl found ↦ inl (
      found.0,
      found.2,
      (λ ys all h. elim (cases_lt (length ys) (suc n)) [
        | inl lt ↦ absurd (shorter ys (omega arith) all h)
        | inr ge ↦ elim (cases_eq (length ys) (suc n)) [
          | inl same ↦ elim (found.3 ys same all h) [ inl e ↦ inl e | inr less ↦ inr (inr (found.1 ∙ sym same, less)) ]
          | inr longer ↦ inr (inl (let e = found.1 in omega arith))
        ]
      ]),
    )
    | inr none ↦ inr (λ ys le all h. elim (cases_eq (length ys) (suc n)) [
      | inl same ↦ none ys same all h
      | inr other ↦ shorter ys (omega arith) all h
    ])
  ]
]

-- where some list has a property that only lists of numbers below m have, and that is decided, a least list has it
pub least_exists : (m : ℕ) (Has : List ℕ → Type 0) → ((xs : List ℕ) → Decided (Has xs)) → ((xs : List ℕ) → Has xs → AllBelow m xs)
    → (xs : List ℕ) → Has xs → (least : List ℕ) × IsLeastSuch Has least
least_exists m Has decided below xs h = elim (least_up_to m (length xs) Has decided) [
  | inl found ↦ (found.0, record { itself = found.1; least = λ other has_other. found.2 other (below other has_other) has_other })
  | inr none ↦ absurd (none xs (omega arith) (below xs h) h)
]
