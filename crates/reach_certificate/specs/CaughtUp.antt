-- Contexts that catch up with the links at some processors. Private: contracts of this crate's own
-- functions.
use Rattle.std.specs.Prelude.{◌≡◌, ℕ, ◌⊎◌, ◌&&◌, not, List, length, get_or, filter, Contains}
use Rattle.std.specs.Prelude.{Option, None}
use Rattle.std.specs.List.{range_with_len}
use Rattle.strong_apa.specs.State.{State, task_on, is_task}
use Rattle.reach_certificate.specs.Contexts.{ContextsData, context_after_takes, EachBecomes}

-- the processors on which t is taken where the first occupants give way to the second ones
abbrev pub taken_among : List (Option ℕ) → List (Option ℕ) → ℕ → List ℕ
taken_among first second t = filter
    (λ p. is_task t (get_or second p None) && not (is_task t (get_or first p None)))
    (range_with_len 0 (length first))

-- on these processors the occupant that is held is the one that is linked, and on any other one
-- too, or it is still the one before; each task is taken where another one was held
pub record HaveCaughtUp (s : State) (places : List ℕ) (before after : ContextsData) : Type 0 where
  pub count : length after.held ≡ length before.held
  pub there : (p : ℕ) → Contains places p → get_or after.held p None ≡ task_on s p
  pub either : (p : ℕ) → (get_or after.held p None ≡ get_or before.held p None)
      ⊎ (get_or after.held p None ≡ task_on s p)
  pub each : EachBecomes (λ t c. context_after_takes c (taken_among before.held after.held t))
      before.each after.each
