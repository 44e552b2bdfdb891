use Rattle.std.proofs.Common.{◌≡◌, ℕ, Bool, false, List, None, length, replicate, refl, sym, ap, ◌∙◌, subst, inl, inr, arith}
use Rattle.std.proofs.lemmas.Bool.{cases_lt, lt-ltb, true≢false}
use Rattle.std.proofs.lemmas.List.{get_or_past, length-map}
use Rattle.affinity_mask.specs.ProcSet.{has, empty, all_below, Within}
use Rattle.affinity_mask.proofs.Sets.{has-zero, has-all_below}
use Rattle.task_set.specs.TaskSet.{TaskData, SetData, priorities, masks}
use Rattle.strong_apa.specs.State.{State, IsState, mask_of, start_of}
use Rattle.strong_apa.proofs.Start.{IsState-start}
use Rattle.link_table.specs.Layout.{Layout}
use Rattle.link_table.specs.WaitingTasks.{Waiting}
use Rattle.link_table.specs.LinksView.{AreAwaited}
use Rattle.link_table.proofs.Awaiting.{AreAwaited-start}
use Rattle.link_table.proofs.links.Links.new.Goals as goal

-- the masks of a set have processors of the machine alone
masks_inside : (s : State) → IsState s → (t : ℕ) → Within (mask_of s t) (all_below s.processors)
masks_inside s ok t p h = elim (cases_lt t (length s.masks)) [
  | inl number ↦ has-all_below s.processors p ∙ lt-ltb p s.processors ((ok.masks t (let count = ok.masks_count in omega arith)).below p h)
  | inr past ↦ absurd (true≢false (sym h ∙ ap (λ (X : ℕ). has X p) (get_or_past s.masks t empty past) ∙ has-zero p))
]

pub new-requires-clause-masks : goal.new-requires-clause-masks
new-requires-clause-masks c =
    let set = c.args.set.now in
    rw (c.in_ok-masks.ensures, c.processors-processors.ensures.value)
    (masks_inside (start_of set) (IsState-start set c.processors-processors.ensures.valid))

pub new-requires-2 : goal.new-requires-2
new-requires-2 c =
    omega (
      arith,
      ap length c.in_ok-priorities.ensures,
      length-map c.args.set.now.tasks (λ (x : TaskData). x.priority),
      c.len.ensures.value,
      c.len.ensures.bound,
    )

-- the columns are those of the start
begins : (set : SetData) (m n : ℕ) (flags : List Bool) (waiting : Waiting) (places : Layout) (masks_then priorities_then : List ℕ)
    → m ≡ set.processors → n ≡ length set.tasks → flags ≡ replicate n false
    → masks_then ≡ masks set → priorities_then ≡ priorities set
    → waiting ≡ record { priorities = priorities_then; masks = replicate (length priorities_then) empty }
    → places ≡ record { masks = masks_then; online = all_below m; on = replicate m None }
    → record {
      processors = m;
      priorities = waiting.priorities;
      masks = places.masks;
      online = places.online;
      ready = flags;
      on = places.on;
    } ≡ start_of set
begins set m n flags waiting places masks_then priorities_then em en ef e1 e2 ew ep = rw (ew, ep, ef, e1, e2, em, en) refl

pub invariant_of-result : goal.invariant_of-result
invariant_of-result c =
    let set = c.args.set.now in
    let flags = c.in_ok-ready.ensures.items_if_clones_equal (λ y e. e) in
    let prios = c.in_ok-priorities.ensures in
    let start = begins set _ c.len.result _ _ _ _ _ c.processors-processors.ensures.value c.len.ensures.value flags c.in_ok-masks.ensures
    prios c.in_ok-waiting.ensures c.in_ok-places.ensures in
    record {
      state = subst IsState (sym start) (IsState-start set c.processors-processors.ensures.valid);
      waiting = subst (λ (s : State). AreAwaited s c.in_ok-waiting.waiting.masks) (sym start)
          (AreAwaited-start set _ (ap (λ (w : Waiting). w.masks) c.in_ok-waiting.ensures ∙ ap (λ (ps : List ℕ). replicate (length ps) empty)
          prios));
    }

pub returns : goal.returns
returns c =
    let flags = c.in_ok-ready.ensures.items_if_clones_equal (λ y e. e) in
    begins c.args.set.now _ c.len.result _ _ _ _ _ c.processors-processors.ensures.value c.len.ensures.value flags c.in_ok-masks.ensures
    c.in_ok-priorities.ensures c.in_ok-waiting.ensures c.in_ok-places.ensures
