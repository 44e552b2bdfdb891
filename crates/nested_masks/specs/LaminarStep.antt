-- What a scheduler by counts does at an event. An arriving task joins the linked ones where no
-- tight node contains its mask. Else the smallest tight node that contains it decides: the least
-- urgent linked task that it holds is displaced where it is less urgent, and otherwise the arriving
-- task waits. When a linked task departs, the most urgent waiting task joins whose mask lies in no
-- tight node then.
use Rattle.std.specs.Prelude.{◌≡◌, ℕ, ◌<◌, ◌≤◌, true, false, length, set, Option, Some, None}
use Rattle.affinity_mask.specs.ProcSet.{Within}
use Rattle.task_set.specs.declared.event.Event.{Event}
use Rattle.task_set.specs.declared.event.Event.TheVariants.{Arrive, Depart, Tick}
use Rattle.nested_masks.specs.Laminar.{IsTight}
use Rattle.nested_masks.specs.NestedData.{NestedData, ready_of, linked_of, priority_in, mask_in}
use Rattle.nested_masks.specs.NestedData.{IsUrgenter, Waits}
use Rattle.nested_masks.specs.declared.reply.NestedReply.{NestedReply}
use Rattle.nested_masks.specs.declared.reply.NestedReply.TheVariants as answer

-- no tight node contains the set
abbrev pub IsInNoTight : NestedData → ℕ → Type 0
IsInNoTight n X = (node : ℕ) → IsTight n.masks (linked_of n) node → Within X node → ⊥

-- the smallest tight node that contains the set
pub record IsLeastTight (n : NestedData) (X node : ℕ) : Type 0 where
  pub tight : IsTight n.masks (linked_of n) node
  pub contains : Within X node
  pub least : (other : ℕ) → IsTight n.masks (linked_of n) other → Within X other → Within node other

-- d is the least urgent of the linked tasks that the node holds
pub record IsLeastUrgentIn (n : NestedData) (node d : ℕ) : Type 0 where
  pub linked : linked_of n d ≡ true
  pub within : Within (mask_in n d) node
  pub least_urgent : (u : ℕ) → linked_of n u ≡ true → Within (mask_in n u) node
      → priority_in n u ≤ priority_in n d

-- all linked tasks that the node holds are more urgent than t
abbrev pub AllUrgenterIn : NestedData → ℕ → ℕ → Type 0
AllUrgenterIn n node t =
    (u : ℕ) → linked_of n u ≡ true → Within (mask_in n u) node → IsUrgenter n u t

-- t becomes ready, and waits
abbrev pub with_waiting : NestedData → ℕ → NestedData
with_waiting n t = record n { ready = set n.ready t true }

-- t becomes absent, and is linked no longer
abbrev pub without_task : NestedData → ℕ → NestedData
without_task n t = record n { ready = set n.ready t false; linked = set n.linked t false }

-- t joins the linked tasks
abbrev pub with_linked : NestedData → ℕ → NestedData
with_linked n t = record n { linked = set n.linked t true }

-- t is linked no longer
abbrev pub with_unlinked : NestedData → ℕ → NestedData
with_unlinked n t = record n { linked = set n.linked t false }

-- t, which was absent, joins the linked tasks
pub record Enters (n : NestedData) (t : ℕ) (new : NestedData) : Type 0 where
  pub free : IsInNoTight n (mask_in n t)
  pub after : new ≡ with_linked (with_waiting n t) t

-- t, which was absent, takes the place of the least urgent linked task of the smallest tight node
pub record Displaces (n : NestedData) (t out node : ℕ) (new : NestedData) : Type 0 where
  pub smallest : IsLeastTight n (mask_in n t) node
  pub out_there : IsLeastUrgentIn n node out
  pub out_less_urgent : IsUrgenter n t out
  pub after : new ≡ with_linked (with_unlinked (with_waiting n t) out) t

-- t, which was absent, waits: the linked tasks of the smallest tight node are all more urgent
pub record StaysOut (n : NestedData) (t node : ℕ) (new : NestedData) : Type 0 where
  pub smallest : IsLeastTight n (mask_in n t) node
  pub more_urgent : AllUrgenterIn n node t
  pub after : new ≡ with_waiting n t

-- t arrives, with this reply
abbrev pub ArrivesByCounts : NestedData → ℕ → NestedReply → NestedData → Type 0
ArrivesByCounts n t answer.AlreadyReady new = (ready_of n t ≡ true) × (new ≡ n)
ArrivesByCounts n t answer.Entered new = (ready_of n t ≡ false) × Enters n t new
ArrivesByCounts n t (answer.Displaced out node) new =
    (ready_of n t ≡ false) × Displaces n t out node new
ArrivesByCounts n t (answer.Waits node) new = (ready_of n t ≡ false) × StaysOut n t node new
ArrivesByCounts n t _ new = ⊥

-- w waits, and no tight node contains its mask
pub record MayEnter (n : NestedData) (w : ℕ) : Type 0 where
  pub waits : Waits n w
  pub free : IsInNoTight n (mask_in n w)

-- w is the most urgent waiting task whose mask lies in no tight node
pub record IsMostUrgentFree (n : NestedData) (w : ℕ) : Type 0 where
  pub free : MayEnter n w
  pub most_urgent : (v : ℕ) → MayEnter n v → priority_in n w ≤ priority_in n v

-- the mask of every waiting task lies in a tight node
abbrev pub IsNobodyFree : NestedData → Type 0
IsNobodyFree n = (v : ℕ) → MayEnter n v → ⊥

-- who joins once a linked task has left
abbrev pub FillStep : NestedData → Option ℕ → NestedData → Type 0
FillStep n None new = IsNobodyFree n × (new ≡ n)
FillStep n (Some w) new = IsMostUrgentFree n w × (new ≡ with_linked n w)

-- t departs, with this reply
abbrev pub DepartsByCounts : NestedData → ℕ → NestedReply → NestedData → Type 0
DepartsByCounts n t answer.NotReady new = (ready_of n t ≡ false) × (new ≡ n)
DepartsByCounts n t answer.Left new = Waits n t × (new ≡ without_task n t)
DepartsByCounts n t (answer.Freed entered) new =
    (linked_of n t ≡ true) × FillStep (without_task n t) entered new
DepartsByCounts n t _ new = ⊥

-- the step of the scheduler by counts; masks do not change, and processors stay on line
abbrev pub LaminarStep : NestedData → Event → NestedReply → NestedData → Type 0
LaminarStep n (Arrive t) reply new = (t < length n.priorities) × ArrivesByCounts n t reply new
LaminarStep n (Depart t) reply new = (t < length n.priorities) × DepartsByCounts n t reply new
LaminarStep n (Tick units) reply new = (reply ≡ answer.Ticked) × (new ≡ n)
LaminarStep n event reply new = ⊥
