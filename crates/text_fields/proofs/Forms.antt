-- Forms of exact parts are exact.
use Rattle.std.proofs.Common.{◌≡◌, ℕ, ◌⊎◌, List, [], ◌∷◌, false, refl, sym, ap, ◌∙◌, subst, inl, inr}
use Rattle.text_fields.proofs.Decisions.{bytes_decided}
use Rattle.text_fields.proofs.Words.{are_same, clash, head_same, tail_same}
use Rattle.text_fields.specs.Form.{Fields, IsExact, AnyField, One, First, When, Begins, Row, NoRow}

-- what says the same as an exact form is exact
pub exact-same : {T A : Type 0} {Says Other : T → A → Type 0} → ((text : T) (value : A) → Says text value → Other text value)
    → ((text : T) (value : A) → Other text value → Says text value) → IsExact Says → IsExact Other
exact-same to from exact = record {
  once = λ text one other is also. exact.once text one other (from text one is) (from text other also);
  decided = λ text. elim (exact.decided text) [
    | inl found ↦ inl (found.0, to text found.0 found.1)
    | inr none ↦ inr (λ value says. none value (from text value says))
  ];
}

pub any_field : IsExact AnyField
any_field = record { once = λ field one other is also. is ∙ sym also; decided = λ field. inl (field, refl) }

module _ {A B : Type 0} {Says : List ℕ → A → Type 0} (make : A → B) (exact : IsExact Says) where
  one_once : (fields : Fields) (one other : B) → One make Says fields one → One make Says fields other → one ≡ other
  one_once fields one other (field, a, e, is, made) (field', a', e', is', made') =
      let same : field' ≡ field = head_same (sym e' ∙ e) in
      made ∙ ap make (exact.once field a a' is (subst (λ (f : List ℕ). Says f a') same is')) ∙ sym made'

  one_decided : (fields : Fields) → ((value : B) × One make Says fields value) ⊎ ((value : B) → One make Says fields value → ⊥)
  one_decided [] = inr (λ value says. let e = says.2 in cc)
  one_decided (field ∷ []) = elim (exact.decided field) [
    | inl found ↦ inl (make found.0, (field, found.0, refl, found.1, refl))
    | inr none ↦ inr (λ value says. none says.1 (subst (λ (f : List ℕ). Says f says.1) (sym (head_same says.2)) says.3))
  ]
  one_decided (field ∷ second ∷ rest) = inr (λ value says. let e = says.2 in cc)

  pub exact-one : IsExact (One make Says)
  exact-one = record { once = one_once; decided = one_decided }

module _ {A B C : Type 0} {Says : List ℕ → A → Type 0} {More : Fields → B → Type 0} (make : A → B → C) (exact : IsExact Says)
    (more : IsExact More) where
  first_once : (fields : Fields) (one other : C) → First make Says More fields one → First make Says More fields other → one ≡ other
  first_once fields one other (field, rest, a, b, e, is, says, made) (field', rest', a', b', e', is', says', made') =
      let firsts = exact.once field a a' is (subst (λ (f : List ℕ). Says f a') (head_same (sym e' ∙ e)) is') in
      let seconds = more.once rest b b' says (subst (λ (r : Fields). More r b') (tail_same (sym e' ∙ e)) says') in
      made ∙ rw (firsts, seconds) (sym made')

  first_decided : (fields : Fields) → ((value : C) × First make Says More fields value)
      ⊎ ((value : C) → First make Says More fields value → ⊥)
  first_decided [] = inr (λ value says. let e = says.4 in cc)
  first_decided (field ∷ rest) = elim (exact.decided field) [
    | inr none ↦ inr (λ value says. none says.2 (subst (λ (f : List ℕ). Says f says.2) (sym (head_same says.4)) says.5))
    | inl first ↦ elim (more.decided rest) [
      | inr none ↦ inr (λ value says. none says.3 (subst (λ (r : Fields). More r says.3) (sym (tail_same says.4)) says.6))
      | inl second ↦ inl (make first.0 second.0, (field, rest, first.0, second.0, refl, first.1, second.1, refl))
    ]
  ]

  pub exact-first : IsExact (First make Says More)
  exact-first = record { once = first_once; decided = first_decided }

pub exact-when : {A : Type 0} {Holds : Type 0} {Says : Fields → A → Type 0} → Holds ⊎ (Holds → ⊥) → IsExact Says → IsExact (When Holds Says)
exact-when {A} {Holds} {Says} known exact = record {
  once = λ fields one other is also. exact.once fields one other is.1 also.1;
  decided = λ fields. by fields known (exact.decided fields);
}
  where
    by : (fields : Fields) → Holds ⊎ (Holds → ⊥) → ((value : A) × Says fields value) ⊎ ((value : A) → Says fields value → ⊥)
        → ((value : A) × When Holds Says fields value) ⊎ ((value : A) → When Holds Says fields value → ⊥)
    by fields (inr fails) said = inr (λ value says. fails says.0)
    by fields (inl holds) (inl found) = inl (found.0, (holds, found.1))
    by fields (inl holds) (inr none) = inr (λ value says. none value says.1)

pub no_row : {A : Type 0} → IsExact {A = A} NoRow
no_row = record { once = λ fields one other is also. absurd is; decided = λ fields. inr (λ value says. says) }

pub begins_decided : (word : List ℕ) (fields : Fields) → Begins word fields ⊎ (Begins word fields → ⊥)
begins_decided word [] = inr (λ begins. let e = begins.1 in cc)
begins_decided word (first ∷ rest) = elim (bytes_decided first word) [
  | inl same ↦ inl (rest, ap (λ (w : List ℕ). w ∷ rest) same)
  | inr differs ↦ inr (λ begins. differs (head_same begins.1))
]

module _ {A : Type 0} {Here Else : Fields → A → Type 0} (word : List ℕ) (here : IsExact Here) (else : IsExact Else) where
  row_once : (fields : Fields) (one other : A) → Row word Here Else fields one → Row word Here Else fields other → one ≡ other
  row_once fields one other (inl (rest, e, is)) (inl (rest', e', is')) =
      here.once rest one other is (subst (λ (r : Fields). Here r other) (tail_same (sym e' ∙ e)) is')
  row_once fields one other (inl (rest, e, is)) (inr (never, is')) = absurd (never (rest, e))
  row_once fields one other (inr (never, is)) (inl (rest, e, is')) = absurd (never (rest, e))
  row_once fields one other (inr (never, is)) (inr (never', is')) = else.once fields one other is is'

  row_decided : (fields : Fields) → ((value : A) × Row word Here Else fields value) ⊎ ((value : A) → Row word Here Else fields value → ⊥)
  row_decided fields = elim (begins_decided word fields) [
    | inl begins ↦ elim (here.decided begins.0) [
      | inl found ↦ inl (found.0, inl (begins.0, begins.1, found.1))
      | inr none ↦ inr (λ value says. elim says [
        | inl is ↦ none value (subst (λ (r : Fields). Here r value) (tail_same (sym is.1 ∙ begins.1)) is.2)
        | inr never ↦ never.0 begins
      ])
    ]
    | inr never ↦ elim (else.decided fields) [
      | inl found ↦ inl (found.0, inr (never, found.1))
      | inr none ↦ inr (λ value says. elim says [
        | inl is ↦ never (is.0, is.1)
        | inr other ↦ none value other.1
      ])
    ]
  ]

  pub exact-row : IsExact (Row word Here Else)
  exact-row = record { once = row_once; decided = row_decided }

-- what begins with one word does not begin with another
pub never : {word first : List ℕ} {rest : Fields} → are_same first word ≡ false → Begins word (first ∷ rest) → ⊥
never differ begins = clash begins.1 differ
