-- Forms of fields: what some fields say, by what each of them says. A form that is made of exact
-- ones is exact.
use Rattle.std.specs.Prelude.{◌≡◌, ℕ, ◌⊎◌, List, [], ◌∷◌}

abbrev pub Fields : Type 0
Fields = List (List ℕ)

-- a text says one value at most, and it is decided whether it says one
pub record IsExact {T A : Type 0} (Says : T → A → Type 0) : Type 0 where
  pub once : (text : T) (one other : A) → Says text one → Says text other → one ≡ other
  pub decided : (text : T) → ((value : A) × Says text value) ⊎ ((value : A) → Says text value → ⊥)

-- any field, which says itself
abbrev pub AnyField : List ℕ → List ℕ → Type 0
AnyField field value = value ≡ field

-- one field alone, of which this is made
abbrev pub One : {A B : Type 0} → (A → B) → (List ℕ → A → Type 0) → Fields → B → Type 0
One {A} make Says fields value =
    (field : List ℕ) × (a : A) × (fields ≡ field ∷ []) × Says field a × (value ≡ make a)

-- one field, and those after it, of which this is made
abbrev pub First : {A B C : Type 0} → (A → B → C) → (List ℕ → A → Type 0) → (Fields → B → Type 0)
    → Fields → C → Type 0
First {A} {B} make Says More fields value =
    (field : List ℕ) × (rest : Fields) × (a : A) × (b : B) × (fields ≡ field ∷ rest) × Says field a
    × More rest b
    × (value ≡ make a b)

-- where something holds
abbrev pub When : {A : Type 0} → Type 0 → (Fields → A → Type 0) → Fields → A → Type 0
When Holds Says fields value = Holds × Says fields value

-- the fields begin with this word
abbrev pub Begins : List ℕ → Fields → Type 0
Begins word fields = (rest : Fields) × (fields ≡ word ∷ rest)

-- after this word they say it so, and after another one otherwise
abbrev pub Row : {A : Type 0} → List ℕ → (Fields → A → Type 0) → (Fields → A → Type 0) → Fields → A
    → Type 0
Row word Here Else fields value =
    ((rest : Fields) × (fields ≡ word ∷ rest) × Here rest value)
    ⊎ ((Begins word fields → ⊥) × Else fields value)

-- there is no further row
abbrev pub NoRow : {A : Type 0} → Fields → A → Type 0
NoRow fields value = ⊥
