-- What a line comes to, by one question after another. Each of these has one outcome, where its
-- questions have answers.
use Rattle.std.specs.Prelude.{◌≡◌, ◌⊎◌}

-- there is one outcome
pub record IsDecided {O : Type 0} (Is : O → Type 0) : Type 0 where
  pub some : (outcome : O) × Is outcome
  pub one : (outcome other : O) → Is outcome → Is other → outcome ≡ other

-- this outcome and no other
abbrev pub IsOnly : {O : Type 0} → O → O → Type 0
IsOnly one outcome = outcome ≡ one

-- where something holds this comes of it, and else that
abbrev pub IsChoice : {O : Type 0} → Type 0 → (O → Type 0) → (O → Type 0) → O → Type 0
IsChoice Holds Then Else outcome = (Holds × Then outcome) ⊎ ((Holds → ⊥) × Else outcome)

-- where some value is said this comes of it, and where none is, that
abbrev pub IsReading : {A O : Type 0} → (A → Type 0) → (A → O → Type 0) → (O → Type 0) → O → Type 0
IsReading {A} Says Then Else outcome =
    ((value : A) × Says value × Then value outcome)
    ⊎ (((value : A) → Says value → ⊥) × Else outcome)

-- a value is said and this comes of it, or a fault and that comes of it
abbrev pub IsJudging : {A F O : Type 0} → (A → Type 0) → (F → Type 0)
    → (A → O → Type 0) → (F → O → Type 0) → O → Type 0
IsJudging {A} {F} Says HasFault Then Else outcome =
    ((value : A) × Says value × Then value outcome)
    ⊎ ((fault : F) × HasFault fault × Else fault outcome)

-- something holds and this comes of it, or there is a fault and that comes of it
abbrev pub IsAllowing : {F O : Type 0} → Type 0 → (F → Type 0) → (O → Type 0) → (F → O → Type 0) → O
    → Type 0
IsAllowing {F} Holds HasFault Then Else outcome =
    (Holds × Then outcome) ⊎ ((fault : F) × HasFault fault × Else fault outcome)
