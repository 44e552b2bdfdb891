-- The rule over the turn words, the contexts at home and the views of the hands. Word t is 2k while
-- the context of task t is at home after k stints, and 2k + 1 while exactly one hand runs it in the
-- stint with number k.
use Rattle.std.specs.Prelude.{◌≡◌, ℕ, ◌+◌, ◌/◌, ◌%◌, ◌<◌, ◌==◌, cond, List, [], ◌∷◌, length}
use Rattle.std.specs.Prelude.{slice_index, Option, Some, None}
use mathlib.Core.Option.{some}
use lib.ListN.{get_elem?}
use Rattle.atomic_table.specs.Table.{State}
use Rattle.task_set.specs.declared.context.Context.{Context}
use Rattle.task_set.specs.Context.{fresh_context}
use Rattle.task_set.specs.Orders.{Stint}
use Rattle.context_slots.specs.declared.view.OpenStint.{OpenStint}
use Rattle.context_slots.specs.declared.view.HandView.{HandView}
use Rattle.context_slots.specs.Contexts.{context_after_stints}
use Rattle.task_set.specs.Sum.{total}

-- the weight of a stint, where it is one of the task t, and else 0
abbrev pub of_task : ℕ → (Stint → ℕ) → Stint → ℕ
of_task t h e = cond (e.task == t) (h e) 0

-- 1 where a stint of t is under way, and else 0
abbrev pub is_under_way : ℕ → Option OpenStint → ℕ
is_under_way t None = 0
is_under_way t (Some st) = cond (st.task == t) 1 0

-- they are stints of t, numbered from n on
abbrev pub IsNumbered : ℕ → ℕ → List Stint → Type 0
IsNumbered t n [] = Unit {0}
IsNumbered t n (e ∷ es) = (e.task ≡ t) × (e.number ≡ n) × IsNumbered t (n + 1) es

-- a context that lies at home once so many stints of its task have ended: the fresh one after
-- stints of the task that are numbered from 0 on
pub record IsHomeAfter (base : Context) (t number : ℕ) : Type 0 where
  pub log : List Stint
  pub numbered : IsNumbered t 0 log
  pub count : length log ≡ number
  pub context : base ≡ context_after_stints (fresh_context t) log

-- a stint under way has the next number of its task, and its base is the context after all earlier
-- stints
abbrev pub IsRun : (ℕ → List Stint) → ℕ → Option OpenStint → Type 0
IsRun log slots None = Unit {0}
IsRun log slots (Some st) = (st.task < slots) × (st.number ≡ length (log st.task))
    × (st.base ≡ context_after_stints (fresh_context st.task) (log st.task))

-- a hand with no part has ended nothing and holds nothing
abbrev pub IdleIsEmpty : HandView → Type 0
IdleIsEmpty v = v.parts ≡ 0 → (v.ended ≡ []) × (v.holds ≡ None)

-- the rule, with the ended stints of each task in the order of their numbers as its log
pub record HandOverRule (processors : ℕ) (s : State (Option Context) HandView) : Type 0 where
  pub log : ℕ → List Stint
  -- there is a part for each processor, and a hand without parts has nothing
  pub whole : total (λ v. v.parts) s.views ≡ processors
  pub idle : (j : ℕ) (v : HandView) → get_elem? s.views j ≡ some v → IdleIsEmpty v
  -- each stint of a log stands in the ended stints of exactly one hand, once, and no other stint
  -- does
  pub balanced : (t : ℕ) (h : Stint → ℕ) → total (λ v. total (of_task t h) v.ended) s.views
      ≡ total h (log t)
  pub numbered : (t : ℕ) → IsNumbered t 0 (log t)
  -- a task has a word and a place, half of the word is the number of its stints, and an odd word
  -- has exactly one holder
  pub wide : length s.words ≡ length s.homes
  pub counted : (t : ℕ) → t < length s.homes → slice_index s.words t / 2 ≡ length (log t)
  pub holders : (t : ℕ) → t < length s.homes → total (λ v. is_under_way t v.holds) s.views
      ≡ slice_index s.words t % 2
  -- the context at home is the fresh one after all stints, and so is the base of the stint that is
  -- under way
  pub home : (t : ℕ) → t < length s.homes → slice_index s.words t % 2 ≡ 0
      → get_elem? s.homes t ≡ some (some (Some (context_after_stints (fresh_context t) (log t))))
  pub out : (j : ℕ) (v : HandView) → get_elem? s.views j ≡ some v
      → IsRun log (length s.homes) v.holds
