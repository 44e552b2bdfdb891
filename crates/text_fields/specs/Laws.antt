-- Laws of the texts of a machine, whatever it reads. A text is cut into lines, and the machine
-- makes an answer of these.
use Rattle.std.specs.Prelude.{◌≡◌, ℕ, ◌+◌, ◌⊎◌, List, ◌∷◌, ◌++◌, length}
use Rattle.text_fields.specs.Machine.{Outcome, Leads, IsText, Refuses, IsAnswer, IsFaultOfLine}
use Rattle.text_fields.specs.Machine.{IsFaultOfEnd}

module _ {P L V K : Type 0} (cut : List ℕ → List L) (begins : P)
    (Comes : P → L → Outcome P K → Type 0) (Ends : P → Outcome V K → Type 0) where
  -- the bytes are a text of this value
  abbrev pub IsTextOf : List ℕ → V → Type 0
  IsTextOf bytes value = IsAnswer Comes Ends 1 begins (cut bytes) (IsText value)

  -- the bytes are refused with this line and kind
  abbrev pub IsRefused : List ℕ → ℕ → K → Type 0
  IsRefused bytes number kind = IsAnswer Comes Ends 1 begins (cut bytes) (Refuses number kind)

  -- a text is that of at most one value
  abbrev pub HasOneValue : Type 0
  HasOneValue = (bytes : List ℕ) (value other : V) → IsTextOf bytes value → IsTextOf bytes other
      → value ≡ other

  -- a text is refused with at most one line and one kind
  abbrev pub HasOneFault : Type 0
  HasOneFault =
      (bytes : List ℕ) (line number : ℕ) (kind other : K)
      → IsRefused bytes line kind → IsRefused bytes number other → (line ≡ number) × (kind ≡ other)

  -- no text is both that of a value and refused
  abbrev pub NeverBoth : Type 0
  NeverBoth =
      (bytes : List ℕ) (value : V) (line : ℕ) (kind : K) → IsTextOf bytes value
      → IsRefused bytes line kind → ⊥

  -- each text is that of a value, or is refused
  abbrev pub AlwaysOne : Type 0
  AlwaysOne =
      (bytes : List ℕ)
      → ((value : V) × IsTextOf bytes value) ⊎ ((line : ℕ) × (kind : K) × IsRefused bytes line kind)

  -- a refused text has a first faulty line with lines without fault before it, or else its end has
  -- the fault
  abbrev pub BeforeIsFine : Type 0
  BeforeIsFine =
      (bytes : List ℕ) (number : ℕ) (kind : K) → IsRefused bytes number kind
      → IsFaultOfLine begins Comes (cut bytes) number kind
      ⊎ IsFaultOfEnd begins Comes Ends (cut bytes) number kind

  -- a text is refused at its first faulty line
  abbrev pub FirstFaultDecides : Type 0
  FirstFaultDecides =
      (bytes : List ℕ) (number : ℕ) (kind : K)
      → IsFaultOfLine begins Comes (cut bytes) number kind → IsRefused bytes number kind

  -- a text that is refused at a line is refused alike, whatever follows this line
  abbrev pub RefusedAlike : Type 0
  RefusedAlike =
      (bytes other : List ℕ) (before after more : List L) (line : L) (kind : K)
      → cut bytes ≡ before ++ line ∷ after → cut other ≡ before ++ line ∷ more
      → IsRefused bytes (length before + 1) kind → IsRefused other (length before + 1) kind

-- what is expected at the end of a text of a value is valid
abbrev pub EndsValid : {P L V K : Type 0} → (List ℕ → List L) → P → (P → Type 0)
    → (P → L → Outcome P K → Type 0) → (P → Outcome V K → Type 0) → Type 0
EndsValid {P} {L} {V} {K} cut begins IsValid Comes Ends =
    (bytes : List ℕ) (value : V) → IsTextOf cut begins Comes Ends bytes value
    → (last : P) × IsValid last × Ends last (Leads value)
