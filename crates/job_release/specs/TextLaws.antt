-- Laws of the texts of jobs. They rest on nothing but the definitions that they name.
use Rattle.std.specs.Prelude.{◌≡◌, ℕ, ◌⊎◌, List}
use Rattle.job_release.specs.JobInput.{JobInputData, IsJobInput}
use Rattle.job_release.specs.JobText.{IsJobText, IsJobRefused}
use Rattle.job_release.specs.declared.fault.JobKind.{JobKind}

-- a text is that of at most one input
abbrev pub TextHasOneInput : Type 0
TextHasOneInput =
    (bytes : List ℕ) (input other : JobInputData) → IsJobText bytes input → IsJobText bytes other
    → input ≡ other

-- a text is refused with at most one line and one kind
abbrev pub TextHasOneFault : Type 0
TextHasOneFault =
    (bytes : List ℕ) (line number : ℕ) (kind other : JobKind)
    → IsJobRefused bytes line kind → IsJobRefused bytes number other
    → (line ≡ number) × (kind ≡ other)

-- no text is both that of an input and refused
abbrev pub InputHasNoFault : Type 0
InputHasNoFault =
    (bytes : List ℕ) (input : JobInputData) (line : ℕ) (kind : JobKind)
    → IsJobText bytes input → IsJobRefused bytes line kind → ⊥

-- each text is that of an input or is refused
abbrev pub AcceptedOrRefused : Type 0
AcceptedOrRefused =
    (bytes : List ℕ)
    → ((input : JobInputData) × IsJobText bytes input)
    ⊎ ((line : ℕ) × (kind : JobKind) × IsJobRefused bytes line kind)

-- of the input of a text holds what holds of each input
abbrev pub TextIsOfValidInput : Type 0
TextIsOfValidInput =
    (bytes : List ℕ) (input : JobInputData) → IsJobText bytes input → IsJobInput input
