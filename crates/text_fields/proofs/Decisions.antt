-- Facts about bytes, fields and numbers of which it is known that they hold or fail.
use Rattle.std.proofs.Common.{◌≡◌, ◌≢◌, ℕ, suc, ◌<◌, ◌≤◌, ◌⊎◌, Bool, IsTrue, List, [], ◌∷◌, length, map, Some, refl, sym, ap, ◌∙◌, inl, inr}
use Rattle.std.proofs.Common.{arith}
use Rattle.std.specs.Prelude.{All, slice_get}
use Rattle.std.specs.Char.{digit_value}
use Rattle.std.specs.Str.Parse.{AllDigits}
use Rattle.std.proofs.lemmas.Bool.{cases_Bool, cases_eq, cases_lt, true≢false}
use Rattle.std.proofs.lemmas.List.Elements.{All-nil, All-cons}
use Rattle.affinity_mask.specs.Number.{IsNumber, number_value}
use Rattle.text_fields.specs.Number.{IsNumberWithin}

-- a test is passed or failed
pub test_decided : (b : Bool) → IsTrue b ⊎ (IsTrue b → ⊥)
test_decided b =
    elim (cases_Bool b) [
      | inl passes ↦ inl passes
      | inr fails ↦ inr (λ passes. true≢false (sym passes ∙ fails))
    ]

-- two lists of bytes are one or not
pub bytes_decided : (one other : List ℕ) → (one ≡ other) ⊎ (one ≡ other → ⊥)
bytes_decided [] [] = inl refl
bytes_decided [] (y ∷ ys) = inr (λ e. cc)
bytes_decided (x ∷ xs) [] = inr (λ e. cc)
bytes_decided (x ∷ xs) (y ∷ ys) = elim (cases_eq x y) [
  | inl same ↦ elim (bytes_decided xs ys) [
    | inl rest ↦ inl (cc)
    | inr differ ↦ inr (λ e. differ (cc))
  ]
  | inr differ ↦ inr (λ e. differ (cc))
]

-- an item has this image, or none has
pub image_decided : {X A : Type 0} (f : X → A) → ((a b : A) → (a ≡ b) ⊎ (a ≡ b → ⊥)) → (v : A) (xs : List X)
    → ((i : ℕ) × (slice_get (map f xs) i ≡ Some v)) ⊎ All (λ x. f x ≢ v) xs
image_decided f same v [] = inr (All-nil (λ x. f x ≢ v))
image_decided f same v (x ∷ xs) = elim (same (f x) v) [
  | inl here ↦ inl (0, ap Some here)
  | inr differs ↦ elim (image_decided f same v xs) [
    | inl later ↦ inl (suc later.0, later.1)
    | inr none ↦ inr (All-cons (λ x. f x ≢ v) x xs differs none)
  ]
]

-- ---- numbers

all_digits_decided : (text : List ℕ) → AllDigits 10 text ⊎ (AllDigits 10 text → ⊥)
all_digits_decided [] = inl tt
all_digits_decided (byte ∷ rest) = elim (cases_lt (digit_value byte) 10) [
  | inr large ↦ inr (λ digits. let small : digit_value byte < 10 = digits.0 in omega arith)
  | inl small ↦ elim (all_digits_decided rest) [
    | inl digits ↦ inl (small, digits)
    | inr fails ↦ inr (λ digits. fails digits.1)
  ]
]

number_decided : (text : List ℕ) → IsNumber text ⊎ (IsNumber text → ⊥)
number_decided text = elim (cases_lt 0 (length text)) [
  | inr none ↦ inr (λ number. let some : 0 < length text = number.0 in omega arith)
  | inl some ↦ elim (all_digits_decided text) [
    | inl digits ↦ inl (some, digits)
    | inr fails ↦ inr (λ number. fails number.1)
  ]
]

-- a text is a number within some bounds, or not
pub number_within_decided : (least most : ℕ) (text : List ℕ)
    → ((n : ℕ) × IsNumberWithin least most text n) ⊎ ((n : ℕ) → IsNumberWithin least most text n → ⊥)
number_within_decided least most text = elim (number_decided text) [
  | inr fails ↦ inr (λ n within. fails within.0.0)
  | inl number ↦ elim (cases_lt (number_value text) least) [
    | inl small ↦ inr (λ n within. let value = within.0.1 in let low : least ≤ n = within.1 in omega arith)
    | inr low ↦ elim (cases_lt most (number_value text)) [
      | inl large ↦ inr (λ n within. let value = within.0.1 in let high : n ≤ most = within.2 in omega arith)
      | inr high ↦ inl (number_value text, ((number, refl), low, high))
    ]
  ]
]
