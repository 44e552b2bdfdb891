-- Who of the linked tasks is lost where another scheduler has the tasks, and what helps.
use Rattle.std.specs.Prelude.{◌≡◌, ℕ, true, List, [], Option, Some, None, ◌↔◌, MatchOption, IfNone}
use Rattle.std.specs.Prelude.{set}
use Rattle.strong_apa.specs.State.{State, task_on}
use Rattle.strong_apa.specs.Chain.{IsLeastSuch, EndsIdle}
use Rattle.live_core.specs.Live.{LiveData}
use Rattle.live_core.specs.Seen.{SeenData, IsTable, RunsOn, IsLost, IsNobodyLost, IsMostUrgentLost}
use Rattle.live_core.specs.Seen.{AreAllApart, RunsJustLinked, Helps, EndsWithin}

-- the links, with these holders in place of the linked tasks
abbrev pub state_held : State → List (Option ℕ) → State
state_held s on = record s { on = on }

-- a table of these holders
abbrev pub settled_data : State → List (Option ℕ) → List (Option ℕ) → SeenData
settled_data s seen on = record { seen = seen; table = state_held s on; is_settled = true }

-- who holds which processor: whoever did so where nothing has changed, else of the linked tasks
-- that are seen there and may run there the most urgent one
abbrev pub AreHoldersAfter : Option (List (Option ℕ)) → State → List (Option ℕ) → List (Option ℕ)
    → Type 0
AreHoldersAfter (Some held) s seen on = on ≡ held
AreHoldersAfter None s seen on =
    (q t : ℕ) → (task_on (state_held s on) q ≡ Some t) ↔ RunsOn s seen t q

-- the processors have these holders
pub record AreHolders (d : LiveData) (on : List (Option ℕ)) : Type 0 where
  pub table : IsTable d.links d.seen (state_held d.links on)
  pub which : AreHoldersAfter d.holders d.links d.seen on

-- the most urgent lost task is found, if any is lost, and all else stays. Nobody is lost exactly
-- where all linked tasks are seen on processors of their masks that are on line, no two on one;
-- each is then more urgent than all other ready tasks that are seen there. It takes at most as many
-- helps as there are processors until nobody is lost
pub record FindsLost (old : LiveData) (found : Option ℕ) (new : LiveData) : Type 0 where
  pub on : List (Option ℕ)
  pub holders : AreHolders old on
  pub rest : new ≡ record old { holders = Some on }
  pub first : MatchOption found (IsNobodyLost old.links (state_held old.links on))
      (IsMostUrgentLost old.links (state_held old.links on))
  pub apart : MatchOption found (AreAllApart old.links old.seen)
      (λ t. AreAllApart old.links old.seen → ⊥)
  pub just_linked : IfNone found (RunsJustLinked old.links old.seen)
  pub soon : EndsWithin old.links.processors old.links (settled_data old.links old.seen on)

-- t is helped, where the processors have these holders: it and those on the chain are seen where
-- they hold processors then, and all else stays but for the moves
pub record HelpsTask (old : LiveData) (on : List (Option ℕ)) (t : ℕ) (new : LiveData) : Type 0 where
  pub chain : List ℕ
  pub on_then : List (Option ℕ)
  pub helps : Helps old.links t (settled_data old.links old.seen on) chain new.moves
      (settled_data old.links new.seen on_then)
  pub rest : new ≡ record old { moves = new.moves; seen = new.seen; holders = Some on_then }

-- nobody is helped, and there are no moves
abbrev pub HelpsNobody : LiveData → List (Option ℕ) → LiveData → Type 0
HelpsNobody old on new = new ≡ record old { moves = []; holders = Some on }

-- the most urgent lost task is helped, if any is lost
pub record HelpsLost (old : LiveData) (found : Option ℕ) (new : LiveData) : Type 0 where
  pub on : List (Option ℕ)
  pub finds : FindsLost old found (record old { holders = Some on })
  pub helps : MatchOption found (HelpsNobody old on new) (λ t. HelpsTask old on t new)

-- t is lost where the processors have these holders, and the chain is the least one of t to a
-- processor that nobody holds
abbrev pub IsChainFor : LiveData → List (Option ℕ) → ℕ → List ℕ → Type 0
IsChainFor d on t chain = IsLost d.links (state_held d.links on) t
    × IsLeastSuch (EndsIdle (state_held d.links on) t) chain

-- the chain that would help t is found, if t is lost, and all else stays
pub record FindsChain (old : LiveData) (t : ℕ) (found : Option (List ℕ))
    (new : LiveData) : Type 0 where
  pub on : List (Option ℕ)
  pub holders : AreHolders old on
  pub rest : new ≡ record old { holders = Some on }
  pub chain : MatchOption found (IsLost old.links (state_held old.links on) t → ⊥)
      (IsChainFor old on t)

-- a task is seen on a processor, or nowhere, and all else stays
abbrev pub data_with_seen : LiveData → ℕ → Option ℕ → LiveData
data_with_seen d t place = record d { seen = set d.seen t place; holders = None }
