-- Jumps. A processor goes on from the thread that its last switch went to. Where a switch is from
-- another one, the trace has not all of the switches between the two.
use Rattle.std.specs.Prelude.{◌≡◌, ℕ, ◌<◌, Bool, false, not, ◌==◌, nat_eq, cond, List, length}
use Rattle.std.specs.Prelude.{slice_get, Option, None, Some}
use Rattle.std.specs.Option.{option_eq}
use Rattle.trace_losses.specs.Moments.{IsCount}
use Rattle.trace_passages.specs.declared.passage.Passage.{Passage}
use Rattle.trace_passages.specs.declared.turn.Turn.{Turn}
use Rattle.trace_passages.specs.declared.turn.Turn.TheVariants.{Switch, Woken}

-- a line is a switch of the processor
abbrev pub is_switch : ℕ → Turn → Bool
is_switch p (Woken task) = false
is_switch p (Switch processor from to) = processor == p

-- the same of a line that may be none
abbrev pub is_switch_of : ℕ → Option Turn → Bool
is_switch_of p None = false
is_switch_of p (Some turn) = is_switch p turn

-- the last switch of the processor among the first n passages is the k-th one, and it goes to this
-- thread, or to one that is not listed
pub record IsLastSwitch (passages : List Passage) (n p : ℕ) (to : Option ℕ) : Type 0 where
  pub k : ℕ
  pub from : Option ℕ
  pub passage : Passage
  pub before : k < n
  pub there : slice_get passages k ≡ Some passage
  pub is : passage.turn ≡ Some (Switch p from to)
  pub last : (l : ℕ) (other : Passage) → k < l → l < n → slice_get passages l ≡ Some other
      → is_switch_of p other.turn ≡ false

-- the n-th passage is a switch of a processor from another thread than the one that the last switch
-- of this processor before it went to
pub record IsJump (passages : List Passage) (n : ℕ) : Type 0 where
  pub processor : ℕ
  pub from : Option ℕ
  pub to : Option ℕ
  pub came : Option ℕ
  pub passage : Passage
  pub there : slice_get passages n ≡ Some passage
  pub is : passage.turn ≡ Some (Switch processor from to)
  pub last : IsLastSwitch passages n processor came
  pub differs : came ≡ from → ⊥

-- so many of the passages are such switches
abbrev pub AreJumps : List Passage → ℕ → Type 0
AreJumps passages jumps = IsCount (IsJump passages) 0 (length passages) jumps

-- ---- one passage after another
-- this is said of the last switch of the processor among the first n passages, if there is one
abbrev pub IsLast : List Passage → ℕ → ℕ → Option (Option ℕ) → Type 0
IsLast passages n p None =
    (l : ℕ) (other : Passage) → l < n → slice_get passages l ≡ Some other
    → is_switch_of p other.turn ≡ false
IsLast passages n p (Some to) = IsLastSwitch passages n p to

-- the same of each processor
abbrev pub AreLast : List Passage → ℕ → (ℕ → Option (Option ℕ)) → Type 0
AreLast passages n last = (p : ℕ) → IsLast passages n p (last p)

-- the last switch, if there is one, went to another thread
abbrev pub is_other : Option (Option ℕ) → Option ℕ → Bool
is_other None from = false
is_other (Some came) from = not (option_eq nat_eq came from)

-- the line is a switch from another thread than the last one of its processor went to
abbrev pub jumps : (ℕ → Option (Option ℕ)) → Turn → Bool
jumps last (Woken task) = false
jumps last (Switch p from to) = is_other (last p) from

-- the same of a line that may be none
abbrev pub jumps_by : (ℕ → Option (Option ℕ)) → Option Turn → Bool
jumps_by last None = false
jumps_by last (Some turn) = jumps last turn

-- what is said of the last switch of a processor after a line
abbrev pub last_after : (ℕ → Option (Option ℕ)) → Turn → ℕ → Option (Option ℕ)
last_after last (Woken task) q = last q
last_after last (Switch p from to) q = cond (nat_eq p q) (Some to) (last q)

-- the same after a line that may be none
abbrev pub last_by : (ℕ → Option (Option ℕ)) → Option Turn → ℕ → Option (Option ℕ)
last_by last None q = last q
last_by last (Some turn) q = last_after last turn q
