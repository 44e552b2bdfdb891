-- Passages as they are read, and with the numbers that threads have at the end.
use Rattle.std.proofs.Common.{◌≡◌, ℕ, ◌+◌, ◌-◌, ◌<◌, Bool, true, false, nat_lt, nat_eq, List, length, Option, None, Some, refl, sym}
use Rattle.std.proofs.Common.{subst, arith, ltb-true}
use Rattle.std.specs.Prelude.{All, map, position, if◌then◌else◌}
use Rattle.std.specs.Option.{ForSome, option_map, option_and_then}
use Rattle.std.proofs.lemmas.List.Elements.{All-map, All-weaker}
use Rattle.kernel_trace.specs.Passages.{IsPassageOf}
use Rattle.kernel_trace.specs.Unlisted.{settled, settled_turn, settled_passage}
use Rattle.trace_passages.specs.Passages.{IsMentionOf}
use Rattle.trace_passages.specs.Turns.{AreThreads}
use Rattle.trace_passages.specs.declared.passage.Passage.{Passage}
use Rattle.trace_passages.specs.declared.turn.Turn.{Turn}
use Rattle.trace_passages.specs.declared.turn.Turn.TheVariants as turn
use Rattle.kernel_trace.proofs.Positions.{position_some}

-- a thread that wakes up is one of the first so many tasks
abbrev pub IsWokenOf : ℕ → Option Turn → Type 0
IsWokenOf tasks None = Unit {0}
IsWokenOf tasks (Some (turn.Woken task)) = task < tasks
IsWokenOf tasks (Some (turn.Switch processor from to)) = Unit {0}

-- the mentions of a passage are of the first so many tasks, and its moment is not too late
pub record IsReadOf (tasks : ℕ) (passage : Passage) : Type 0 where
  pub woken : IsWokenOf tasks passage.turn
  pub first : IsMentionOf tasks passage.first
  pub second : IsMentionOf tasks passage.second
  pub moment : passage.moment < 9223372036854775808

-- ---- with the numbers of the end
number_within : (tasks : ℕ) (unlisted : List ℕ) (thread : Option ℕ)
    → ForSome (option_and_then (settled tasks unlisted) thread) (λ t. t < tasks + length unlisted)
number_within tasks unlisted None t e = cc
number_within tasks unlisted (Some n) t e = by (nat_lt n tasks) refl e
  where
    placed : (place : Option ℕ) → ((k : ℕ) → place ≡ Some k → k < length unlisted) → option_map (λ k. tasks + k) place ≡ Some t
        → t < tasks + length unlisted
    placed None within e = cc
    placed (Some k) within e =
        let same : tasks + k ≡ t = cc in
        let below = within k refl in
        omega (arith, same, below)

    by : (b : Bool) → nat_lt n tasks ≡ b
        → (if b then Some n else option_map (λ k. tasks + k) (position (nat_eq (n - tasks)) unlisted)) ≡ Some t
        → t < tasks + length unlisted
    by true is e =
        let same : n ≡ t = cc in
        let below = ltb-true n tasks is in
        omega (arith, same, below)
    by false is e =
        placed (position (nat_eq (n - tasks)) unlisted)
        (λ k found. (position_some (nat_eq (n - tasks)) unlisted k (sym found)).1) e

turn_within : (tasks : ℕ) (unlisted : List ℕ) (said : Option Turn) → IsWokenOf tasks said
    → ForSome (option_map (settled_turn tasks unlisted) said) (AreThreads (tasks + length unlisted))
turn_within tasks unlisted None woken turned e = cc
turn_within tasks unlisted (Some (turn.Woken task)) woken turned e =
    let same : turn.Woken task ≡ turned = cc in
    subst (AreThreads (tasks + length unlisted)) same (omega (arith, woken))
turn_within tasks unlisted (Some (turn.Switch processor from to)) woken turned e =
    let same : settled_turn tasks unlisted (turn.Switch processor from to) ≡ turned = cc in
    subst (AreThreads (tasks + length unlisted)) same (number_within tasks unlisted from, number_within tasks unlisted to)

pub settled_within : (tasks : ℕ) (unlisted : List ℕ) (passages : List Passage) → All (IsReadOf tasks) passages
    → All (IsPassageOf tasks (tasks + length unlisted)) (map (settled_passage tasks unlisted) passages)
settled_within tasks unlisted passages all =
    All-map (IsPassageOf tasks (tasks + length unlisted)) (settled_passage tasks unlisted) passages
    (All-weaker (IsReadOf tasks) (λ (passage : Passage). IsPassageOf tasks (tasks + length unlisted)
    (settled_passage tasks unlisted passage))
    (λ passage is. record {
      numbers = record { turn = turn_within tasks unlisted passage.turn is.woken; first = is.first; second = is.second };
      moment = is.moment;
    }) passages all)
