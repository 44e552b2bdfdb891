-- Why a reply does not pass. A reply is looked at in four parts, one after the other. Its kind may
-- stand with the event; each place of its chain fits; each processor fits the set; the tasks that
-- it names are the right ones. The first part that fails is the defect, reported with its first
-- place, its least processor, or the right task. Of a task that leaves and comes back, the parts of
-- its leaving are looked at before those of its return. A chain need not be the least, nor a set
-- the smallest.
use Rattle.std.specs.Prelude.{◌≡◌, ◌≢◌, ℕ, ◌+◌, ◌-◌, ◌<◌, ◌≤◌, ◌⊎◌, true, false, List, length}
use Rattle.std.specs.Prelude.{slice_index, IsTrue, Option, Some, None, IsSome, All}
use Rattle.affinity_mask.specs.ProcSet.{has, all_below, Within}
use Rattle.task_set.specs.declared.event.Event.{Event}
use Rattle.task_set.specs.declared.event.Event.TheVariants.{Arrive, Depart, Tick, Affinity, Offline}
use Rattle.task_set.specs.declared.event.Event.TheVariants.{Online}
use Rattle.strong_apa.specs.declared.reply.Came.{Came}
use Rattle.strong_apa.specs.declared.reply.Came.TheVariants as came
use Rattle.strong_apa.specs.declared.reply.Gone.{Gone}
use Rattle.strong_apa.specs.declared.reply.Moved.{Moved}
use Rattle.strong_apa.specs.declared.reply.Reply.{Reply}
use Rattle.strong_apa.specs.declared.reply.Reply.TheVariants.{Left, Ticked, AlreadyReady, NotReady}
use Rattle.strong_apa.specs.declared.reply.Reply.TheVariants.{Masked, Remasked, AlreadyOff}
use Rattle.strong_apa.specs.declared.reply.Reply.TheVariants.{AlreadyOn, Off, On}
use Rattle.strong_apa.specs.declared.reply.Entry.{Entry}
use Rattle.strong_apa.specs.Reply.{reply_of_came, reply_of_gone, sets_of}
use Rattle.strong_apa.specs.State.{State, effective_mask, task_on, is_ready, is_linked, priority_of}
use Rattle.strong_apa.specs.State.{IsIdle, IsWaiting, IsMoreUrgent, state_with_mask}
use Rattle.strong_apa.specs.State.{state_with_online, state_with_offline, state_after_leaving}
use Rattle.strong_apa.specs.Chain.{CanShift, CanEnterAt}
use Rattle.strong_apa.specs.Step.{IsNobodyInto, IsMostUrgentInto}
use Rattle.strong_apa.specs.History.{state_after_left}
use Rattle.reach_certificate.specs.declared.defect.Defect.{Defect}
use Rattle.reach_certificate.specs.declared.defect.Defect.TheVariants.{WrongReply, BadChain, BadSet}
use Rattle.reach_certificate.specs.declared.defect.Defect.TheVariants.{WrongTask}

-- ---- places that are looked at in order
-- a place is looked at where it is one of so many, and the first is even where there are none
abbrev pub IsLookedAt : ℕ → ℕ → Type 0
IsLookedAt count i = (i ≡ 0) ⊎ (i < count)

-- each place that is looked at fits
abbrev pub AllFit : (ℕ → Type 0) → ℕ → Type 0
AllFit Fits count = (i : ℕ) → IsLookedAt count i → Fits i

-- place i is looked at and does not fit, and each one before it does
pub record IsFirstMisfit (Fits : ℕ → Type 0) (count i : ℕ) : Type 0 where
  pub looked_at : IsLookedAt count i
  pub misfit : Fits i → ⊥
  pub before : (k : ℕ) → k < i → Fits k

-- ---- the kind of the reply
-- a reply of this kind may stand with the arrival of t: it was ready, or it was absent and came to
-- something
abbrev pub IsAllowedToArrival : State → ℕ → Reply → Type 0
IsAllowedToArrival s t reply =
    ((is_ready s t ≡ true) × (reply ≡ AlreadyReady))
    ⊎ ((is_ready s t ≡ false) × ((came : Came) × (reply ≡ reply_of_came came)))

-- and with the departure of t: it was absent, or waited, or was linked to a processor at which
-- somebody comes in, or nobody
abbrev pub IsAllowedToDeparture : State → ℕ → Reply → Type 0
IsAllowedToDeparture s t reply =
    ((is_ready s t ≡ false) × (reply ≡ NotReady))
    ⊎ ((IsWaiting s t × (reply ≡ Left))
    ⊎ ((is_linked s t ≡ true) × ((gone : Gone) × (reply ≡ reply_of_gone gone))))

-- and with a change of the mask of t: it was absent, or had waited and came back, or was linked to
-- a processor at which somebody comes in, or nobody, and came back
abbrev pub IsAllowedToAffinity : State → ℕ → Reply → Type 0
IsAllowedToAffinity s t reply =
    ((is_ready s t ≡ false) × (reply ≡ Masked))
    ⊎ ((IsWaiting s t × ((came : Came) × (reply ≡ Remasked None came)))
    ⊎ ((is_linked s t ≡ true) × ((gone : Gone) × (came : Came)
    × (reply ≡ Remasked (Some gone) came))))

-- and where p goes off line: it was off line, or idle, or its occupant is the task that came back
abbrev pub IsAllowedToOffline : State → ℕ → Reply → Type 0
IsAllowedToOffline s p reply =
    ((has s.online p ≡ false) × (reply ≡ AlreadyOff))
    ⊎ ((IsIdle s p × (reply ≡ Off None))
    ⊎ ((moved : Moved) × (reply ≡ Off (Some moved)) × (task_on s p ≡ Some moved.task)))

-- and where p comes on line: it was on line, or somebody comes in there, or nobody
abbrev pub IsAllowedToOnline : State → ℕ → Reply → Type 0
IsAllowedToOnline s p reply =
    ((has s.online p ≡ true) × (reply ≡ AlreadyOn))
    ⊎ ((has s.online p ≡ false) × ((parts : Gone) × (reply ≡ On parts)))

-- and with the event
abbrev pub IsAllowed : State → Event → Reply → Type 0
IsAllowed s (Arrive t) reply = IsAllowedToArrival s t reply
IsAllowed s (Depart t) reply = IsAllowedToDeparture s t reply
IsAllowed s (Tick units) reply = reply ≡ Ticked
IsAllowed s (Affinity t mask) reply = IsAllowedToAffinity s t reply
IsAllowed s (Offline p) reply = IsAllowedToOffline s p reply
IsAllowed s (Online p) reply = IsAllowedToOnline s p reply

-- ---- the chain
-- place i of a chain fits: there is a processor, the machine has it, and the chain has not visited
-- it before; the first one begins the chain, each other one follows the one before it, and the last
-- one ends it
pub record FitsAt (s : State) (Begins : ℕ → Type 0) (Follows : ℕ → ℕ → Type 0) (Ends : ℕ → Type 0)
    (chain : List ℕ) (i : ℕ) : Type 0 where
  pub there : i < length chain
  pub below : slice_index chain i < s.processors
  pub once : (k : ℕ) → k < i → slice_index chain k ≢ slice_index chain i
  pub first : i ≡ 0 → Begins (slice_index chain i)
  pub next : (k : ℕ) → i ≡ k + 1 → Follows (slice_index chain k) (slice_index chain i)
  pub last : i + 1 ≡ length chain → Ends (slice_index chain i)

-- the mask of t has q
abbrev pub BeginsFor : State → ℕ → ℕ → Type 0
BeginsFor s t q = IsTrue (has (effective_mask s t) q)

-- place i of a chain of t fits that ends on an idle processor
abbrev pub PlacedFits : State → ℕ → List ℕ → ℕ → Type 0
PlacedFits s t chain i = FitsAt s (BeginsFor s t) (CanShift s) (λ q. task_on s q ≡ None) chain i

-- place i of a chain of t fits that ends on an occupied processor
abbrev pub DisplacedFits : State → ℕ → List ℕ → ℕ → Type 0
DisplacedFits s t chain i =
    FitsAt s (BeginsFor s t) (CanShift s) (λ q. (u : ℕ) × (task_on s q ≡ Some u)) chain i

-- somebody enters, and the occupant of the next processor may run on the one before it
abbrev pub MovesBack : State → Option ℕ → ℕ → ℕ → Type 0
MovesBack s entered before q = IsSome entered × CanShift s q before

-- place i of a back chain to p fits, along which a task enters, or nobody
abbrev pub FreedFits : State → ℕ → Option ℕ → List ℕ → ℕ → Type 0
FreedFits s p entered chain i = FitsAt s (λ q. q ≡ p) (MovesBack s entered) (λ q. Unit {0}) chain i

-- ---- the set
-- q fits a set behind which t stays: the set has it where the mask of t does, and where the set has
-- it, its occupant may run only within the set, and holds its place
pub record ReachFits (s : State) (t reach : ℕ) (Holds : ℕ → Type 0) (q : ℕ) : Type 0 where
  pub mask : IsTrue (has (effective_mask s t) q) → IsTrue (has reach q)
  pub held : IsTrue (has reach q) → (u : ℕ) × (task_on s q ≡ Some u)
      × Within (effective_mask s u) reach × Holds u

-- q fits a set from which shifts lead to p: the set has it where it is p; where the set has it, so
-- does the machine, and else its occupant may run on no processor of the set
pub record BackFits (s : State) (p back q : ℕ) : Type 0 where
  pub place : q ≡ p → IsTrue (has back q)
  pub below : IsTrue (has back q) → q < s.processors
  pub closed : has back q ≡ false → (r : ℕ) → IsTrue (has back r) → CanShift s q r → ⊥

-- u is no less urgent than d
abbrev pub IsNoLessUrgent : State → ℕ → ℕ → Type 0
IsNoLessUrgent s u d = priority_of s u ≤ priority_of s d

-- the processor on which a chain ends
abbrev pub last_processor : List ℕ → ℕ
last_processor chain = slice_index chain (length chain - 1)

-- processors are numbered from 0 to 63
abbrev pub processor_count : ℕ
processor_count = 64

-- each processor fits a set around t, whose tasks are no less urgent than the one on which the
-- chain ends
abbrev pub OverFits : State → ℕ → List ℕ → ℕ → Type 0
OverFits s t chain reach = (d : ℕ) × (task_on s (last_processor chain) ≡ Some d)
    × AllFit (ReachFits s t reach (λ u. IsNoLessUrgent s u d)) processor_count

-- q is the least processor that does not fit it
abbrev pub HasBadOver : State → ℕ → List ℕ → ℕ → ℕ → Type 0
HasBadOver s t chain reach q = (d : ℕ) × (task_on s (last_processor chain) ≡ Some d)
    × IsFirstMisfit (ReachFits s t reach (λ u. IsNoLessUrgent s u d)) processor_count q

-- each processor fits a set behind which t waits
abbrev pub AgainstFits : State → ℕ → ℕ → ℕ → Type 0
AgainstFits s t reach q = ReachFits s t reach (λ u. IsMoreUrgent s u t) q

-- ---- the tasks
-- the right one enters: the most urgent waiting task that may run on a processor of the set, and it
-- may run on the last processor of the chain; or nobody, where nobody may
abbrev pub EntersRightly : State → Option ℕ → List ℕ → ℕ → Type 0
EntersRightly s None chain back = IsNobodyInto s back
EntersRightly s (Some w) chain back =
    IsMostUrgentInto s back w × CanEnterAt s w (last_processor chain)

-- x should enter, and another one does, or nobody, or x may not run on the last processor of the
-- chain; or nobody should, and x does
abbrev pub EntersWrongly : State → Option ℕ → List ℕ → ℕ → ℕ → Type 0
EntersWrongly s entered chain back x =
    (IsMostUrgentInto s back x × ((entered ≢ Some x) ⊎ (CanEnterAt s x (last_processor chain) → ⊥)))
    ⊎ (IsNobodyInto s back × (entered ≡ Some x))

-- the right one is displaced: it was on the last processor, and is less urgent than t
abbrev pub DisplacesRightly : State → ℕ → List ℕ → ℕ → Type 0
DisplacesRightly s t chain out =
    (task_on s (last_processor chain) ≡ Some out) × IsMoreUrgent s t out

-- x was on the last processor, and another one is displaced, or x is no less urgent than t
abbrev pub DisplacesWrongly : State → ℕ → List ℕ → ℕ → ℕ → Type 0
DisplacesWrongly s t chain out x =
    (task_on s (last_processor chain) ≡ Some x) × ((out ≢ x) ⊎ IsNoLessUrgent s x t)

-- ---- what an arrival came to, and who came in
-- the chain, the set and the displaced task are all right
pub record DisplacedIsRight (s : State) (t : ℕ) (chain : List ℕ) (out reach : ℕ) : Type 0 where
  pub places : AllFit (DisplacedFits s t chain) (length chain)
  pub set : OverFits s t chain reach
  pub tasks : DisplacesRightly s t chain out

-- all parts of what t came to are right
abbrev pub CameIsRight : State → ℕ → Came → Type 0
CameIsRight s t (came.Placed chain) = AllFit (PlacedFits s t chain) (length chain)
CameIsRight s t (came.Displaced chain out reach) = DisplacedIsRight s t chain out reach
CameIsRight s t (came.Waits reach) = AllFit (AgainstFits s t reach) processor_count

-- the first of the chain, the set and the displaced task that fails
abbrev pub IsDisplacedDefect : State → ℕ → List ℕ → ℕ → ℕ → Defect → Type 0
IsDisplacedDefect s t chain out reach (BadChain i) =
    IsFirstMisfit (DisplacedFits s t chain) (length chain) i
IsDisplacedDefect s t chain out reach (BadSet q) =
    AllFit (DisplacedFits s t chain) (length chain) × HasBadOver s t chain reach q
IsDisplacedDefect s t chain out reach (WrongTask x) = AllFit (DisplacedFits s t chain)
    (length chain) × OverFits s t chain reach × DisplacesWrongly s t chain out x
IsDisplacedDefect s t chain out reach _ = ⊥

-- the first part of what t came to that fails
abbrev pub IsCameDefect : State → ℕ → Came → Defect → Type 0
IsCameDefect s t (came.Placed chain) (BadChain i) =
    IsFirstMisfit (PlacedFits s t chain) (length chain) i
IsCameDefect s t (came.Displaced chain out reach) defect =
    IsDisplacedDefect s t chain out reach defect
IsCameDefect s t (came.Waits reach) (BadSet q) =
    IsFirstMisfit (AgainstFits s t reach) processor_count q
IsCameDefect s t _ _ = ⊥

-- all parts of who came in are right, where p has become idle
pub record GoneIsRight (s : State) (p : ℕ) (gone : Gone) : Type 0 where
  pub chain : AllFit (FreedFits s p gone.entered gone.chain) (length gone.chain)
  pub set : AllFit (BackFits s p gone.back) processor_count
  pub tasks : EntersRightly s gone.entered gone.chain gone.back

-- the first part of it that fails
abbrev pub IsGoneDefect : State → ℕ → Gone → Defect → Type 0
IsGoneDefect s p gone (BadChain i) =
    IsFirstMisfit (FreedFits s p gone.entered gone.chain) (length gone.chain) i
IsGoneDefect s p gone (BadSet q) = AllFit (FreedFits s p gone.entered gone.chain)
    (length gone.chain) × IsFirstMisfit (BackFits s p gone.back) processor_count q
IsGoneDefect s p gone (WrongTask x) = AllFit (FreedFits s p gone.entered gone.chain)
    (length gone.chain) × AllFit (BackFits s p gone.back) processor_count
    × EntersWrongly s gone.entered gone.chain gone.back x
IsGoneDefect s p gone _ = ⊥

-- ---- a task leaves, and comes back
-- a part fails of who came in at the processor of t, once t has left it
abbrev pub IsVacatedDefect : State → ℕ → Gone → Defect → Type 0
IsVacatedDefect s t gone defect = (place : ℕ) × (task_on s place ≡ Some t)
    × IsGoneDefect (state_after_leaving s t) place gone defect

-- t leaves rightly: it had waited, or all parts are right of who came in at its processor
abbrev pub LeavesRightly : State → ℕ → Option Gone → Type 0
LeavesRightly s t None = IsWaiting s t
LeavesRightly s t (Some gone) =
    (place : ℕ) × (task_on s place ≡ Some t) × GoneIsRight (state_after_leaving s t) place gone

-- a part fails of who came in, where t leaves a processor
abbrev pub IsLeavingDefect : State → ℕ → Option Gone → Defect → Type 0
IsLeavingDefect s t None defect = ⊥
IsLeavingDefect s t (Some gone) defect = IsVacatedDefect s t gone defect

-- a part fails of how t leaves, or else of what t comes to once its mask has changed
abbrev pub IsReturnDefect : State → ℕ → ℕ → Option Gone → Came → Defect → Type 0
IsReturnDefect s t mask gone came defect =
    IsLeavingDefect s t gone defect
    ⊎ (LeavesRightly s t gone × IsCameDefect (state_with_mask (state_after_left s t gone) t mask)
    t came defect)

-- a part fails of what the task of p comes to once p is off line
abbrev pub IsMovedDefect : State → ℕ → Moved → Defect → Type 0
IsMovedDefect s p moved defect = (task_on s p ≡ Some moved.task)
    × IsCameDefect (state_with_offline (state_after_leaving s moved.task) p)
    moved.task moved.came defect

-- ---- the first part of a reply that fails
-- the reply may stand with the event, and a part of it fails first
abbrev pub IsPartDefect : State → Event → Reply → Defect → Type 0
IsPartDefect s (Arrive t) reply defect = (came : Came) × (reply ≡ reply_of_came came)
    × (is_ready s t ≡ false) × IsCameDefect s t came defect
IsPartDefect s (Depart t) reply defect =
    (gone : Gone) × (reply ≡ reply_of_gone gone) × IsVacatedDefect s t gone defect
IsPartDefect s (Tick units) reply defect = ⊥
IsPartDefect s (Affinity t mask) reply defect = (gone : Option Gone) × (came : Came)
    × (reply ≡ Remasked gone came) × IsReturnDefect s t mask gone came defect
IsPartDefect s (Offline p) reply defect =
    (moved : Moved) × (reply ≡ Off (Some moved)) × IsMovedDefect s p moved defect
IsPartDefect s (Online p) reply defect = (parts : Gone) × (reply ≡ On parts)
    × (has s.online p ≡ false) × IsGoneDefect (state_with_online s p) p parts defect

-- the reply may not stand with the event, or this part of it fails first
abbrev pub IsReplyDefect : State → Event → Reply → Defect → Type 0
IsReplyDefect s event reply defect =
    ((defect ≡ WrongReply) × (IsAllowed s event reply → ⊥)) ⊎ IsPartDefect s event reply defect

-- the defect of an entry in the state before it
abbrev pub IsDefect : State → Entry → Defect → Type 0
IsDefect s entry defect = IsReplyDefect s entry.event entry.reply defect

-- the kinds of defects are numbered from 1 to 4, in the order in which they are tried
abbrev pub number_of : Defect → ℕ
number_of WrongReply = 1
number_of (BadChain i) = 2
number_of (BadSet q) = 3
number_of (WrongTask x) = 4

-- the sets of a reply have no number beyond those of processors
abbrev pub HasSetsOfProcessors : Reply → Type 0
HasSetsOfProcessors reply = All (λ set. Within set (all_below processor_count)) (sets_of reply)
