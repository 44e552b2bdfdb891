-- How a chain and a set are judged. Private: contracts of this crate's own functions. Each word is
-- a case of the definitions of defects.
use Rattle.std.specs.Prelude.{◌≡◌, ℕ, ◌+◌, ◌<◌, List, slice_index, IsTrue, Option, Some, None}
use Rattle.std.specs.Prelude.{MatchOption}
use Rattle.affinity_mask.specs.ProcSet.{has, Within}
use Rattle.strong_apa.specs.State.{State, effective_mask, task_on, IsMoreUrgent}
use Rattle.strong_apa.specs.Chain.{CanShift}
use Rattle.reach_certificate.specs.Defect.{AllFit, IsFirstMisfit, FitsAt, BeginsFor, MovesBack}
use Rattle.reach_certificate.specs.Defect.{ReachFits, BackFits, IsNoLessUrgent, processor_count}
use Rattle.reach_certificate.specs.declared.chain_rule.ChainRule.{ChainRule}
use Rattle.reach_certificate.specs.declared.chain_rule.ChainRule.TheVariants.{ToIdle, ToOccupied}
use Rattle.reach_certificate.specs.declared.chain_rule.ChainRule.TheVariants.{Back}
use Rattle.reach_certificate.specs.declared.set_rule.SetRule.{SetRule}
use Rattle.reach_certificate.specs.declared.set_rule.SetRule.TheVariants.{HeldAgainst, HeldOver}
use Rattle.reach_certificate.specs.declared.set_rule.SetRule.TheVariants.{LeadsBack}

-- the answer is the first place that does not fit, or nothing, and then all fit
abbrev pub IsFirstMisfitIfAny : (ℕ → Type 0) → ℕ → Option ℕ → Type 0
IsFirstMisfitIfAny Fits count found =
    MatchOption found (AllFit Fits count) (IsFirstMisfit Fits count)

-- ---- chains
-- the task of the rule, if it has one, is one of so many
abbrev pub IsChainRuleOf : ℕ → ChainRule → Type 0
IsChainRuleOf count (ToIdle t) = t < count
IsChainRuleOf count (ToOccupied t) = t < count
IsChainRuleOf count (Back place entered) = Unit {0}

-- a chain by the rule may begin with q
abbrev pub ChainMayBegin : State → ChainRule → ℕ → Type 0
ChainMayBegin s (ToIdle t) = BeginsFor s t
ChainMayBegin s (ToOccupied t) = BeginsFor s t
ChainMayBegin s (Back place entered) = λ q. q ≡ place

-- after a processor of a chain by the rule q may follow
abbrev pub Follows : State → ChainRule → ℕ → ℕ → Type 0
Follows s (ToIdle t) = CanShift s
Follows s (ToOccupied t) = CanShift s
Follows s (Back place entered) = MovesBack s entered

-- a chain by the rule may end on q
abbrev pub ChainMayEnd : State → ChainRule → ℕ → Type 0
ChainMayEnd s (ToIdle t) = λ q. task_on s q ≡ None
ChainMayEnd s (ToOccupied t) = λ q. (u : ℕ) × (task_on s q ≡ Some u)
ChainMayEnd s (Back place entered) = λ q. Unit {0}

-- the processor at place i begins the chain, or follows the one before it
pub record IsNextInChain (s : State) (rule : ChainRule) (chain : List ℕ) (i : ℕ) : Type 0 where
  pub first : i ≡ 0 → ChainMayBegin s rule (slice_index chain i)
  pub next : (k : ℕ) → i ≡ k + 1 → Follows s rule (slice_index chain k) (slice_index chain i)

-- place i of a chain fits the rule
abbrev pub FitsChainRule : State → ChainRule → List ℕ → ℕ → Type 0
FitsChainRule s rule chain i =
    FitsAt s (ChainMayBegin s rule) (Follows s rule) (ChainMayEnd s rule) chain i

-- the chain visits q at a place before place i
abbrev pub ComesBefore : List ℕ → ℕ → ℕ → Type 0
ComesBefore chain i q = (k : ℕ) × (k < i) × (slice_index chain k ≡ q)

-- ---- sets
-- the tasks of the rule are among so many, and its processor is one that may be
abbrev pub IsSetRuleOf : ℕ → SetRule → Type 0
IsSetRuleOf count (HeldAgainst t) = t < count
IsSetRuleOf count (HeldOver t out) = (t < count) × (out < count)
IsSetRuleOf count (LeadsBack place) = place < processor_count

-- u holds its place by the rule
abbrev pub HoldsItsPlace : State → SetRule → ℕ → Type 0
HoldsItsPlace s (HeldAgainst t) u = IsMoreUrgent s u t
HoldsItsPlace s (HeldOver t out) u = IsNoLessUrgent s u out
HoldsItsPlace s (LeadsBack place) u = Unit {0}

-- the occupant of q may run only within the set, and holds its place there
abbrev pub IsHeld : State → SetRule → ℕ → ℕ → Type 0
IsHeld s rule set q =
    (u : ℕ) × (task_on s q ≡ Some u) × Within (effective_mask s u) set × HoldsItsPlace s rule u

-- the occupant of q may run on a processor of the set
abbrev pub ShiftsInto : State → ℕ → ℕ → Type 0
ShiftsInto s q set = (r : ℕ) × IsTrue (has set r) × CanShift s q r

-- q fits the set by the rule
abbrev pub FitsSetRule : State → SetRule → ℕ → ℕ → Type 0
FitsSetRule s (HeldAgainst t) set q = ReachFits s t set (λ u. IsMoreUrgent s u t) q
FitsSetRule s (HeldOver t out) set q = ReachFits s t set (λ u. IsNoLessUrgent s u out) q
FitsSetRule s (LeadsBack place) set q = BackFits s place set q
