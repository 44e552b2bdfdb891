-- What the reply of a step carries: its tasks are tasks of the state, its chains and its sets are of the processors.
use Rattle.std.proofs.Common.{ℕ, ◌<◌, ◌≤◌, List, [], ◌∷◌, length, Option, Some, None, sym, subst, inl, inr, arith, IsTrue}
use Rattle.std.specs.Prelude.{All}
use Rattle.std.specs.List.{cons_option}
use Rattle.std.proofs.lemmas.List.Elements.{All-nil, All-cons, All-head, All-from_get_or}
use Rattle.affinity_mask.specs.ProcSet.{has}
use Rattle.task_set.specs.TaskSet.{IsMask}
use Rattle.task_set.specs.declared.event.Event.{Event}
use Rattle.task_set.specs.declared.event.Event.TheVariants.{Arrive, Depart, Tick, Affinity, Offline, Online}
use Rattle.strong_apa.specs.declared.reply.Came.{Came}
use Rattle.strong_apa.specs.declared.reply.Came.TheVariants.{Placed, Displaced, Waits}
use Rattle.strong_apa.specs.declared.reply.Gone.{Gone}
use Rattle.strong_apa.specs.declared.reply.Reply.{Reply}
use Rattle.strong_apa.specs.declared.reply.Reply.TheVariants.{Remasked}
use Rattle.strong_apa.specs.Reply.{reply_of_came, reply_of_gone, chains_of, sets_of, tasks_named, came_chains, came_sets, came_tasks}
use Rattle.strong_apa.specs.State.{State, IsState, HasSameTasks, task_count, state_with_mask, state_with_online, state_with_offline}
use Rattle.strong_apa.specs.State.{state_after_leaving}
use Rattle.strong_apa.specs.Chain.{CanShift, IsPath, IsChainOf, IsReach, IsBackChain, IsBackReach}
use Rattle.strong_apa.specs.Step.{Comes, EnterStep, Fills, LeaveStep, AffinityStep, OfflineStep, OnlineStep, SchedulerStep}
use Rattle.strong_apa.proofs.Changes.{IsState-state_with_online}
use Rattle.strong_apa.proofs.Ends.{least_chain_to_idle, least_chain_to_task, least_back_chain}
use Rattle.strong_apa.proofs.Leaving.{IsState-state_after_leaving}
use Rattle.strong_apa.proofs.Linked.{linked_number, occupied_number}
use Rattle.strong_apa.proofs.Masks.{online_below}
use Rattle.strong_apa.proofs.Paths.{Reaches-online}
use Rattle.strong_apa.proofs.SameTasks.{same_count}
use Rattle.strong_apa.proofs.Shifts.{chain_below}
use Rattle.strong_apa.proofs.Steps.{leave_effect, same_tasks-left, has_left, IsState-remasked, IsState-moved}
use Rattle.strong_apa.proofs.Unique.{ready_number}

-- at most 64 processors, which the machine has
abbrev pub IsListOn : State → List ℕ → Type 0
IsListOn s chain = (length chain ≤ 64) × All (λ p. p < s.processors) chain

-- a set of processors that the machine has
abbrev pub IsSetOn : State → ℕ → Type 0
IsSetOn s set = (p : ℕ) → IsTrue (has set p) → p < s.processors

-- what a reply carries is of the state
pub record IsReplyOn (s : State) (reply : Reply) : Type 0 where
  pub tasks : All (λ t. t < task_count s) (tasks_named reply)
  pub chains : All (IsListOn s) (chains_of reply)
  pub sets : All (IsSetOn s) (sets_of reply)

-- what an arrival carries is of the state
pub record IsCameOn (s : State) (came : Came) : Type 0 where
  pub tasks : All (λ t. t < task_count s) (came_tasks came)
  pub chains : All (IsListOn s) (came_chains came)
  pub sets : All (IsSetOn s) (came_sets came)

no_task : (s : State) → All (λ t. t < task_count s) []
no_task s = All-nil (λ t. t < task_count s)

one_task : (s : State) (t : ℕ) → t < task_count s → All (λ t. t < task_count s) (t ∷ [])
one_task s t number = All-cons (λ t. t < task_count s) t [] number (no_task s)

no_list : (s : State) → All (IsListOn s) []
no_list s = All-nil (IsListOn s)

one_list : (s : State) (chain : List ℕ) → IsListOn s chain → All (IsListOn s) (chain ∷ [])
one_list s chain is = All-cons (IsListOn s) chain [] is (no_list s)

no_set : (s : State) → All (IsSetOn s) []
no_set s = All-nil (IsSetOn s)

one_set : (s : State) (set : ℕ) → IsSetOn s set → All (IsSetOn s) (set ∷ [])
one_set s set is = All-cons (IsSetOn s) set [] is (no_set s)

-- ---- arrivals
module _ (s : State) (ok : IsState s) where
  reach_on : (t reach : ℕ) → IsReach s t reach → IsSetOn s reach
  reach_on t reach reached p inside = online_below s ok p (Reaches-online s t p ((reached p).0 inside))

  chain_on : (t : ℕ) (chain : List ℕ) (q : ℕ) → IsChainOf s t chain q → length chain ≤ 64 → IsListOn s chain
  chain_on t chain q is_chain fits = (fits, All-from_get_or (λ p. p < s.processors) chain 0 (chain_below s ok t chain q is_chain))

  came_on : (t : ℕ) (came : Came) (new : State) → Comes s t came new → IsCameOn s came
  came_on t (Placed chain) new step = record {
    tasks = no_task s;
    chains =
        one_list s chain (chain_on t chain step.least.itself.0 step.least.itself.1 ((least_chain_to_idle s t ok).fits chain step.least));
    sets = no_set s;
  }
  came_on t (Displaced chain out reach) new step = record {
    tasks = one_task s out (linked_number s step.out_there.there.0 out ok step.out_there.there.2);
    chains = one_list s chain (chain_on t chain step.least.itself.0 step.least.itself.1
        ((least_chain_to_task s t out ok).fits chain step.least));
    sets = one_set s reach (reach_on t reach step.reached);
  }
  came_on t (Waits reach) new step =
      record { tasks = no_task s; chains = no_list s; sets = one_set s reach (reach_on t reach step.reached) }

  -- ---- where p has become idle
  -- after its first processor, a back chain visits occupied ones alone
  back_walk_on : (p : ℕ) (rest : List ℕ) (q : ℕ) → IsPath (λ a b. CanShift s b a) p rest q → All (λ p. p < s.processors) rest
  back_walk_on p [] q path = All-nil (λ p. p < s.processors)
  back_walk_on p (r ∷ rest) q path =
      All-cons (λ p. p < s.processors) r rest (occupied_number s r path.0.0 ok path.0.1) (back_walk_on r rest q path.1)

  back_chain_on : (p : ℕ) (chain : List ℕ) (q : ℕ) → p < s.processors → IsBackChain s p chain q → length chain ≤ 64 → IsListOn s chain
  back_chain_on p [] q number is_back fits = absurd is_back
  back_chain_on p (first ∷ rest) q number is_back fits =
      (fits, All-cons (λ p. p < s.processors) first rest (rw is_back.0 number) (back_walk_on p rest q is_back.1))

  back_walk_end : (p : ℕ) (rest : List ℕ) (q : ℕ) → p < s.processors → IsPath (λ a b. CanShift s b a) p rest q → q < s.processors
  back_walk_end p [] q number path = subst (λ (n : ℕ). n < s.processors) path number
  back_walk_end p (r ∷ rest) q number path = back_walk_end r rest q (occupied_number s r path.0.0 ok path.0.1) path.1

  back_chain_end : (p : ℕ) (chain : List ℕ) (q : ℕ) → p < s.processors → IsBackChain s p chain q → q < s.processors
  back_chain_end p [] q number is_back = absurd is_back
  back_chain_end p (first ∷ rest) q number is_back = back_walk_end p rest q number is_back.1

  back_on : (p back : ℕ) → p < s.processors → IsBackReach s p back → IsSetOn s back
  back_on p back number reached q inside = let chain = (reached q).0 inside in back_chain_end p chain.0 q number chain.1

  entered_chain_on : (p : ℕ) (entered : Option ℕ) (chain : List ℕ) (back : ℕ) (new : State) → p < s.processors
      → EnterStep s p entered chain back new → IsListOn s chain
  entered_chain_on p None chain back new number step =
      rw step.1 (omega arith, All-cons (λ p. p < s.processors) p [] number (All-nil (λ p. p < s.processors)))
  entered_chain_on p (Some w) chain back new number step =
      back_chain_on p chain step.1.itself.0 number step.1.itself.1 ((least_back_chain s p w ok number).fits chain step.1)

  entered_on : (p : ℕ) (entered : Option ℕ) (chain : List ℕ) (back : ℕ) (new : State) → EnterStep s p entered chain back new
      → All (λ t. t < task_count s) (cons_option entered [])
  entered_on p None chain back new step = no_task s
  entered_on p (Some w) chain back new step = one_task s w (ready_number s ok w step.0.waits.ready)

  gone_on : (p : ℕ) (gone : Gone) (new : State) → p < s.processors → Fills s p gone new → IsReplyOn s (reply_of_gone gone)
  gone_on p gone new number fills = record {
    tasks = entered_on p gone.entered gone.chain gone.back new fills.enters;
    chains = one_list s gone.chain (entered_chain_on p gone.entered gone.chain gone.back new number fills.enters);
    sets = one_set s gone.back (back_on p gone.back number fills.reached);
  }

-- ---- replies that are made of an arrival, or of who came in
arrived_on : (s : State) (came : Came) → IsCameOn s came → IsReplyOn s (reply_of_came came)
arrived_on s (Placed chain) on = record { tasks = on.tasks; chains = on.chains; sets = on.sets }
arrived_on s (Displaced chain out reach) on = record { tasks = on.tasks; chains = on.chains; sets = on.sets }
arrived_on s (Waits reach) on = record { tasks = on.tasks; chains = on.chains; sets = on.sets }

-- the same tasks and processors in another state
came_on-same : (s other : State) → HasSameTasks s other → (came : Came) → IsCameOn other came → IsCameOn s came
came_on-same s other same came on = record {
  tasks = subst (λ (n : ℕ). All (λ t. t < n) (came_tasks came)) (same_count s other same) on.tasks;
  chains = subst (λ (m : ℕ). All (λ (chain : List ℕ). (length chain ≤ 64) × All (λ p. p < m) chain) (came_chains came))
      same.processors on.chains;
  sets = subst (λ (m : ℕ). All (λ (set : ℕ). (p : ℕ) → IsTrue (has set p) → p < m) (came_sets came)) same.processors on.sets;
}

-- who came in, and then others
entered_and : (s : State) (entered : Option ℕ) (others : List ℕ) → All (λ t. t < task_count s) (cons_option entered [])
    → All (λ t. t < task_count s) others → All (λ t. t < task_count s) (cons_option entered others)
entered_and s None others first later = later
entered_and s (Some w) others first later = All-cons (λ t. t < task_count s) w others (All-head (λ t. t < task_count s) w [] first) later

module _ (s : State) (ok : IsState s) where
  left_on : (t : ℕ) (gone : Gone) (new : State) → LeaveStep s t (Some gone) new → IsReplyOn s (reply_of_gone gone)
  left_on t gone new (place, linked, fills) =
      let on = gone_on (state_after_leaving s t) (IsState-state_after_leaving s ok t) place gone new (occupied_number s place t ok linked)
      fills in
      record { tasks = on.tasks; chains = on.chains; sets = on.sets }

  remasked_on : (t : ℕ) (gone : Option Gone) (came : Came) (between : State) → LeaveStep s t gone between → IsCameOn s came
      → IsReplyOn s (Remasked gone came)
  remasked_on t None came between leaves on = record { tasks = on.tasks; chains = on.chains; sets = on.sets }
  remasked_on t (Some gone) came between leaves on =
      let first = left_on t gone between leaves in
      record {
        tasks = entered_and s gone.entered (came_tasks came) first.tasks on.tasks;
        chains = All-cons (IsListOn s) gone.chain (came_chains came) (All-head (IsListOn s) gone.chain [] first.chains) on.chains;
        sets = All-cons (IsSetOn s) gone.back (came_sets came) (All-head (IsSetOn s) gone.back [] first.sets) on.sets;
      }

  affinity_on : (t mask : ℕ) (reply : Reply) (new : State) → t < task_count s → IsMask s.processors mask → AffinityStep s t mask reply new
      → IsReplyOn s reply
  affinity_on t mask reply new number lawful (inl absent) =
      rw absent.answer record { tasks = no_task s; chains = no_list s; sets = no_set s }
  affinity_on t mask reply new number lawful (inr remasks) =
      let between = remasks.between in
      let left = has_left s ok t mask remasks.gone between number lawful remasks.leaves in
      let later = came_on (state_with_mask between t mask) (IsState-remasked s t mask between left) t remasks.came new remasks.comes in
      let same = same_tasks-left s t remasks.gone in
      let effect = leave_effect s t remasks.gone between remasks.leaves in
      let same_between : HasSameTasks s (state_with_mask between t mask) = record {
        processors = rw effect same.processors;
        priorities = rw effect same.priorities;
      } in
      subst (IsReplyOn s) (sym remasks.answer) (remasked_on t remasks.gone remasks.came between remasks.leaves
      (came_on-same s (state_with_mask between t mask) same_between remasks.came later))

  offline_on : (p : ℕ) (reply : Reply) (new : State) → OfflineStep s p reply new → IsReplyOn s reply
  offline_on p reply new (inl again) = rw again.answer record { tasks = no_task s; chains = no_list s; sets = no_set s }
  offline_on p reply new (inr (inl idle)) = rw idle.answer record { tasks = no_task s; chains = no_list s; sets = no_set s }
  offline_on p reply new (inr (inr occupied)) =
      let t = occupied.moved.task in
      let on = came_on (state_with_offline (state_after_leaving s t) p) (IsState-moved s ok p t occupied.occupied)
      t occupied.moved.came new occupied.comes in
      subst (IsReplyOn s) (sym occupied.answer) record {
        tasks = All-cons (λ t. t < task_count s) t (came_tasks occupied.moved.came) (linked_number s p t ok occupied.occupied) on.tasks;
        chains = on.chains;
        sets = on.sets;
      }

  online_on : (p : ℕ) (reply : Reply) (new : State) → p < s.processors → OnlineStep s p reply new → IsReplyOn s reply
  online_on p reply new number (inl again) = rw again.answer record { tasks = no_task s; chains = no_list s; sets = no_set s }
  online_on p reply new number (inr fills) =
      let on = gone_on (state_with_online s p) (IsState-state_with_online s p ok number) p fills.parts new number fills.fills in
      subst (IsReplyOn s) (sym fills.answer) record { tasks = on.tasks; chains = on.chains; sets = on.sets }

-- ---- whole steps
pub step_is_on : (s : State) (event : Event) (reply : Reply) (new : State) → IsState s → SchedulerStep s event reply new → IsReplyOn s reply
step_is_on s (Arrive t) reply new ok (number, inl again) = rw again.answer record { tasks = no_task s; chains = no_list s; sets = no_set s }
step_is_on s (Arrive t) reply new ok (number, inr arrives) =
    subst (IsReplyOn s) (sym arrives.answer) (arrived_on s arrives.came (came_on s ok t arrives.came new arrives.comes))
step_is_on s (Depart t) reply new ok (number, inl again) = rw again.answer record { tasks = no_task s; chains = no_list s; sets = no_set s }
step_is_on s (Depart t) reply new ok (number, inr (inl waiting)) =
    rw waiting.answer record { tasks = no_task s; chains = no_list s; sets = no_set s }
step_is_on s (Depart t) reply new ok (number, inr (inr linked)) =
    let left = state_after_leaving s t in
    let on = gone_on left (IsState-state_after_leaving s ok t) linked.place linked.gone new
    (occupied_number s linked.place t ok linked.linked) linked.fills in
    subst (IsReplyOn s) (sym linked.answer) record { tasks = on.tasks; chains = on.chains; sets = on.sets }
step_is_on s (Tick units) reply new ok (said, same) = rw said record { tasks = no_task s; chains = no_list s; sets = no_set s }
step_is_on s (Affinity t mask) reply new ok (number, lawful, step) = affinity_on s ok t mask reply new number lawful step
step_is_on s (Offline p) reply new ok (number, step) = offline_on s ok p reply new step
step_is_on s (Online p) reply new ok (number, step) = online_on s ok p reply new number step
