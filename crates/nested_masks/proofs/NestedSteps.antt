-- The scheduler by counts keeps its invariant, and the node of a reply certifies.
use Rattle.std.proofs.Common.{◌≡◌, ℕ, ◌<◌, true, false, length, refl, ap, ◌∙◌, arith, get_or-set_same, Option, Some, None, IfSome, sym}
use Rattle.task_set.specs.declared.event.Event.{Event}
use Rattle.task_set.specs.declared.event.Event.TheVariants.{Arrive, Depart, Tick, Affinity, Offline, Online}
use Rattle.nested_masks.specs.NestedData.{NestedData, IsNested, ready_of, linked_of, mask_in, IsUrgenter}
use Rattle.nested_masks.specs.LaminarStep.{with_waiting, with_linked, without_task, IsInNoTight, IsLeastTight, IsLeastUrgentIn}
use Rattle.nested_masks.specs.LaminarStep.{AllUrgenterIn, IsMostUrgentFree, IsNobodyFree, ArrivesByCounts, DepartsByCounts, LaminarStep}
use Rattle.nested_masks.specs.NestedText.{NamesTasks}
use Rattle.nested_masks.specs.Answers.{NodeCertifies}
use Rattle.nested_masks.specs.declared.reply.NestedReply.{NestedReply}
use Rattle.nested_masks.specs.declared.reply.NestedReply.TheVariants as answer
use Rattle.nested_masks.proofs.Changes.{counted-waiting, counted-unlinked, counted-linked, counted-without, absent_unlinked, in_ready}
use Rattle.nested_masks.proofs.Changes.{flag_number, linked_number}
use Rattle.nested_masks.proofs.Kept.{kept-entering, kept-staying_out, kept-displacing, displaced, out_number, t_unlinked, node_keeps}
use Rattle.nested_masks.proofs.Kept.{free-between}
use Rattle.nested_masks.proofs.KeptByDepartures.{kept-leaving, kept-unfilled, kept-filled}
use Rattle.nested_masks.proofs.BestByCounts.{certifies_everywhere}

-- the task of an arrival
abbrev arriving : Event → ℕ
arriving (Arrive t) = t
arriving (Depart t) = 0
arriving (Tick units) = 0
arriving (Affinity t mask) = 0
arriving (Offline p) = 0
arriving (Online p) = 0

module _ (n : NestedData) (ok : IsNested n) (t : ℕ) (number : t < length n.priorities) where
  ready_then : ready_of (with_waiting n t) t ≡ true
  ready_then = get_or-set_same n.ready t true false (in_ready n ok.counted t number)

  module _ (absent : ready_of n t ≡ false) where
    pub nested-entering : IsInNoTight n (mask_in n t) → IsNested (with_linked (with_waiting n t) t)
    nested-entering free = record {
      counted = counted-linked (with_waiting n t) (counted-waiting n ok.counted t number) t number ready_then
          (absent_unlinked n ok.counted t absent) free;
      kept_out = kept-entering n ok.counted t number absent free ok.kept_out;
    }

    pub nested-staying_out : (node : ℕ) → IsLeastTight n (mask_in n t) node → AllUrgenterIn n node t → IsNested (with_waiting n t)
    nested-staying_out node smallest urgent = record {
      counted = counted-waiting n ok.counted t number;
      kept_out = kept-staying_out n ok.counted t number absent node smallest urgent ok.kept_out;
    }

    module _ (node out : ℕ) (smallest : IsLeastTight n (mask_in n t) node) (out_there : IsLeastUrgentIn n node out)
        (urgent : IsUrgenter n t out) where
      pub nested-displacing : IsNested (displaced n ok.counted t number absent node out smallest out_there urgent)
      nested-displacing = record {
        counted = counted-linked _ (counted-unlinked (with_waiting n t) (counted-waiting n ok.counted t number) out
            (out_number n ok.counted t number absent node out smallest out_there urgent)) t number ready_then
            (t_unlinked n ok.counted t number absent node out smallest out_there urgent)
            (free-between n ok.counted t number absent node out smallest out_there urgent);
        kept_out = kept-displacing n ok.counted t number absent node out smallest out_there urgent ok.kept_out;
      }

  pub nested-leaving : linked_of n t ≡ false → IsNested (without_task n t)
  nested-leaving not_linked = record {
    counted = counted-without n ok.counted t number;
    kept_out = kept-leaving n ok.counted t number not_linked ok.kept_out;
  }

  module _ (linked : linked_of n t ≡ true) where
    pub nested-unfilled : IsNobodyFree (without_task n t) → IsNested (without_task n t)
    nested-unfilled nobody = record {
      counted = counted-without n ok.counted t number;
      kept_out = kept-unfilled n ok.counted t number linked ok.kept_out nobody;
    }

    pub nested-filled : (w : ℕ) → w < length n.priorities → IsMostUrgentFree (without_task n t) w
        → IsNested (with_linked (without_task n t) w)
    nested-filled w in_set first = record {
      counted = counted-linked (without_task n t) (counted-without n ok.counted t number)
          w in_set first.free.waits.ready first.free.waits.not_linked first.free.free;
      kept_out = kept-filled n ok.counted t number linked ok.kept_out w first;
    }

  -- the node of a reply certifies the task that waits then
  arrival_certifies : (reply : NestedReply) (new : NestedData) → IsNested new → ArrivesByCounts n t reply new
      → NodeCertifies new (Arrive t) reply
  arrival_certifies reply new nested step = record {
    waits = λ u node arrived is.
        let this = rw is at step in
        let same : u ≡ t = sym (ap arriving arrived) in
        certifies_everywhere new nested node u (rw (same, this.1.after)
        record { tight = this.1.smallest.tight; contains = this.1.smallest.contains; more_urgent = this.1.more_urgent });
    displaced = λ out node is.
        let this = rw is at step in
        certifies_everywhere new nested node out (rw this.1.after
        (node_keeps n ok.counted t number this.0 node out this.1.smallest this.1.out_there this.1.out_less_urgent out
        this.1.out_there.within (omega arith)));
  }

pub laminar_certifies : (n : NestedData) → IsNested n → (event : Event) (reply : NestedReply) (new : NestedData) → IsNested new
    → LaminarStep n event reply new → NodeCertifies new event reply
laminar_certifies n ok (Arrive t) reply new nested step = arrival_certifies n ok t step.0 reply new nested step.1
laminar_certifies n ok (Depart t) reply new nested step = record {
  waits = λ u node arrived is. absurd (let this = rw is at step in this.1);
  displaced = λ out node is. absurd (let this = rw is at step in this.1);
}
laminar_certifies n ok (Tick units) reply new nested step = record {
  waits = λ u node arrived is. absurd (let ticked = step.0 in cc);
  displaced = λ out node is. absurd (let ticked = step.0 in cc);
}
laminar_certifies n ok (Affinity t mask) reply new nested step = absurd step
laminar_certifies n ok (Offline p) reply new nested step = absurd step
laminar_certifies n ok (Online p) reply new nested step = absurd step

column_kept : (n new changed : NestedData) → new ≡ changed → changed.priorities ≡ n.priorities → new.priorities ≡ n.priorities
column_kept n new changed e same = ap (λ (m : NestedData). m.priorities) e ∙ same

arrival_keeps : (n : NestedData) (t : ℕ) (reply : NestedReply) (new : NestedData) → ArrivesByCounts n t reply new
    → new.priorities ≡ n.priorities
arrival_keeps n t answer.Entered new step = column_kept n new _ step.1.after refl
arrival_keeps n t (answer.Displaced out node) new step = column_kept n new _ step.1.after refl
arrival_keeps n t (answer.Waits node) new step = column_kept n new _ step.1.after refl
arrival_keeps n t answer.AlreadyReady new step = column_kept n new n step.1 refl
arrival_keeps n t _ new step = absurd step

departure_keeps : (n : NestedData) (t : ℕ) (reply : NestedReply) (new : NestedData) → DepartsByCounts n t reply new
    → new.priorities ≡ n.priorities
departure_keeps n t answer.NotReady new step = column_kept n new n step.1 refl
departure_keeps n t answer.Left new step = column_kept n new _ step.1 refl
departure_keeps n t (answer.Freed None) new step = column_kept n new _ step.1.1 refl
departure_keeps n t (answer.Freed (Some w)) new step = column_kept n new _ step.1.1 refl
departure_keeps n t _ new step = absurd step

-- a step keeps the tasks
pub step_keeps : (n : NestedData) (event : Event) (reply : NestedReply) (new : NestedData) → LaminarStep n event reply new
    → new.priorities ≡ n.priorities
step_keeps n (Arrive t) reply new step = arrival_keeps n t reply new step.1
step_keeps n (Depart t) reply new step = departure_keeps n t reply new step.1
step_keeps n (Tick units) reply new step = column_kept n new n step.1 refl
step_keeps n (Affinity t mask) reply new step = absurd step
step_keeps n (Offline p) reply new step = absurd step
step_keeps n (Online p) reply new step = absurd step

module _ (n : NestedData) (ok : IsNested n) where
  -- the task that joins is of the set
  filled_named : (t : ℕ) → t < length n.priorities → (new : NestedData) (entered : Option ℕ)
      → DepartsByCounts n t (answer.Freed entered) new → IfSome entered (λ w. w < length n.priorities)
  filled_named t number new None step = tt
  filled_named t number new (Some w) step =
      let lt = flag_number _ w step.1.0.free.waits.ready in
      let count = (counted-without n ok.counted t number).state.ready_count in
      omega arith

  -- a reply names tasks of the set
  pub step_names : (event : Event) (reply : NestedReply) (new : NestedData) → LaminarStep n event reply new
      → NamesTasks (length n.priorities) reply
  step_names (Arrive t) reply new step = record {
    displaced = λ out node is. let this = rw is at step in linked_number n ok.counted out this.1.1.out_there.linked;
    freed = λ entered is. absurd (let this = rw is at step in this.1);
  }
  step_names (Depart t) reply new step = record {
    displaced = λ out node is. absurd (let this = rw is at step in this.1);
    freed = λ entered is. filled_named t step.0 new entered (rw is at step.1);
  }
  step_names (Tick units) reply new step = record {
    displaced = λ out node is. absurd (let ticked = step.0 in cc);
    freed = λ entered is. absurd (let ticked = step.0 in cc);
  }
  step_names (Affinity t mask) reply new step = absurd step
  step_names (Offline p) reply new step = absurd step
  step_names (Online p) reply new step = absurd step
