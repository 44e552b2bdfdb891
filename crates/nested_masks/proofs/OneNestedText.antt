-- A scheduler by counts has no choice, so the run of the events of a set has one text.
use Rattle.std.proofs.Common.{◌≡◌, ℕ, ◌<◌, ◌≤◌, List, [], ◌∷◌, length, map, Option, Some, None, refl, sym, ap, ◌∙◌, subst, arith}
use Rattle.std.proofs.Common.{le_antisymm}
use Rattle.std.proofs.lemmas.Bool.{true≢false}
use Rattle.affinity_mask.specs.ProcSet.{Within}
use Rattle.task_set.specs.declared.event.Event.{Event}
use Rattle.task_set.specs.declared.event.Event.TheVariants.{Arrive, Depart, Tick, Affinity, Offline, Online}
use Rattle.nested_masks.specs.Laws.{NestedTextIsUnique}
use Rattle.nested_masks.specs.NestedData.{NestedData, IsNested, nested_start, mask_in, priority_in, Waits}
use Rattle.nested_masks.specs.NestedText.{NestedEntry, RunsTo, nested_text}
use Rattle.nested_masks.specs.LaminarStep.{IsLeastTight, Displaces, FillStep, ArrivesByCounts, DepartsByCounts, LaminarStep, with_waiting}
use Rattle.nested_masks.specs.LaminarStep.{with_linked, with_unlinked, without_task}
use Rattle.nested_masks.specs.declared.reply.NestedReply.{NestedReply}
use Rattle.nested_masks.specs.declared.reply.NestedReply.TheVariants as answer
use Rattle.nested_masks.proofs.Changes.{counted-without, flag_number, linked_number}
use Rattle.nested_masks.proofs.NestedSteps.{nested-entering, nested-staying_out, nested-displacing, nested-leaving, nested-unfilled}
use Rattle.nested_masks.proofs.NestedSteps.{nested-filled}
use Rattle.nested_masks.proofs.Started.{counted-start, nested-start}
use Rattle.nested_masks.proofs.Withins.{within_both}

module _ (n : NestedData) (ok : IsNested n) where
  -- tasks with one priority are one
  same_task : (t u : ℕ) → t < length n.priorities → u < length n.priorities → priority_in n t ≤ priority_in n u
      → priority_in n u ≤ priority_in n t → t ≡ u
  same_task t u number also upto from = ok.counted.state.distinct t u number also (le_antisymm upto from)

  same_node : (X node other : ℕ) → IsLeastTight n X node → IsLeastTight n X other → node ≡ other
  same_node X node other one two = within_both node other (one.least other two.tight two.contains) (two.least node one.tight one.contains)

  -- ---- an arrival
  displaces_once : (t out node out' node' : ℕ) (new next : NestedData) → Displaces n t out node new → Displaces n t out' node' next
      → (answer.Displaced out node ≡ answer.Displaced out' node') × (new ≡ next)
  displaces_once t out node out' node' new next one two =
      let nodes = same_node (mask_in n t) node node' one.smallest two.smallest in
      let here : Within (mask_in n out) node' = subst (λ (X : ℕ). Within (mask_in n out) X) nodes one.out_there.within in
      let there : Within (mask_in n out') node = subst (λ (X : ℕ). Within (mask_in n out') X) (sym nodes) two.out_there.within in
      let outs = same_task out out' (linked_number n ok.counted out one.out_there.linked)
      (linked_number n ok.counted out' two.out_there.linked)
      (two.out_there.least_urgent out one.out_there.linked here) (one.out_there.least_urgent out' two.out_there.linked there) in (
        λ i. answer.Displaced (outs i) (nodes i),
        one.after ∙ ap (λ (d : ℕ). with_linked (with_unlinked (with_waiting n t) d) t) outs
            ∙ sym two.after,
      )

  arrives_once : (t : ℕ) (reply other : NestedReply) (new next : NestedData) → ArrivesByCounts n t reply new
      → ArrivesByCounts n t other next → (reply ≡ other) × (new ≡ next)
  arrives_once t answer.AlreadyReady answer.AlreadyReady new next one two = (refl, one.1 ∙ sym two.1)
  arrives_once t answer.AlreadyReady answer.Entered new next one two = absurd (true≢false (sym one.0 ∙ two.0))
  arrives_once t answer.AlreadyReady (answer.Displaced out node) new next one two = absurd (true≢false (sym one.0 ∙ two.0))
  arrives_once t answer.AlreadyReady (answer.Waits node) new next one two = absurd (true≢false (sym one.0 ∙ two.0))
  arrives_once t answer.AlreadyReady _ new next one two = absurd two
  arrives_once t answer.Entered answer.AlreadyReady new next one two = absurd (true≢false (sym two.0 ∙ one.0))
  arrives_once t answer.Entered answer.Entered new next one two = (refl, one.1.after ∙ sym two.1.after)
  arrives_once t answer.Entered (answer.Displaced out node) new next one two =
      absurd (one.1.free node two.1.smallest.tight two.1.smallest.contains)
  arrives_once t answer.Entered (answer.Waits node) new next one two = absurd (one.1.free node two.1.smallest.tight two.1.smallest.contains)
  arrives_once t answer.Entered _ new next one two = absurd two
  arrives_once t (answer.Displaced out node) answer.AlreadyReady new next one two = absurd (true≢false (sym two.0 ∙ one.0))
  arrives_once t (answer.Displaced out node) answer.Entered new next one two =
      absurd (two.1.free node one.1.smallest.tight one.1.smallest.contains)
  arrives_once t (answer.Displaced out node) (answer.Displaced out' node') new next one two =
      displaces_once t out node out' node' new next one.1 two.1
  arrives_once t (answer.Displaced out node) (answer.Waits node') new next one two =
      absurd (
      let nodes = same_node (mask_in n t) node node' one.1.smallest two.1.smallest in
      let more = two.1.more_urgent out one.1.out_there.linked (subst (λ (X : ℕ). Within (mask_in n out) X) nodes one.1.out_there.within) in
      let less = one.1.out_less_urgent in
      omega arith)
  arrives_once t (answer.Displaced out node) _ new next one two = absurd two
  arrives_once t (answer.Waits node) answer.AlreadyReady new next one two = absurd (true≢false (sym two.0 ∙ one.0))
  arrives_once t (answer.Waits node) answer.Entered new next one two = absurd (two.1.free node one.1.smallest.tight one.1.smallest.contains)
  arrives_once t (answer.Waits node) (answer.Displaced out node') new next one two =
      absurd (
      let nodes = same_node (mask_in n t) node' node two.1.smallest one.1.smallest in
      let more = one.1.more_urgent out two.1.out_there.linked (subst (λ (X : ℕ). Within (mask_in n out) X) nodes two.1.out_there.within) in
      let less = two.1.out_less_urgent in
      omega arith)
  arrives_once t (answer.Waits node) (answer.Waits node') new next one two =
      let nodes = same_node (mask_in n t) node node' one.1.smallest two.1.smallest in
      (ap (λ (X : ℕ). answer.Waits X) nodes, one.1.after ∙ sym two.1.after)
  arrives_once t (answer.Waits node) _ new next one two = absurd two
  arrives_once t _ other new next one two = absurd one

  module _ (t : ℕ) (number : t < length n.priorities) where
    arrival_keeps : (reply : NestedReply) (new : NestedData) → ArrivesByCounts n t reply new → IsNested new
    arrival_keeps answer.AlreadyReady new step = subst IsNested (sym step.1) ok
    arrival_keeps answer.Entered new step = subst IsNested (sym step.1.after) (nested-entering n ok t number step.0 step.1.free)
    arrival_keeps (answer.Displaced out node) new step =
        subst IsNested (sym step.1.after) (nested-displacing n ok t number step.0 node out step.1.smallest step.1.out_there
        step.1.out_less_urgent)
    arrival_keeps (answer.Waits node) new step =
        subst IsNested (sym step.1.after) (nested-staying_out n ok t number step.0 node step.1.smallest step.1.more_urgent)
    arrival_keeps _ new step = absurd step

    -- ---- a departure
    joining_number : (w : ℕ) → Waits (without_task n t) w → w < length n.priorities
    joining_number w waits =
        let fits = flag_number _ w waits.ready in
        let count = (counted-without n ok.counted t number).state.ready_count in
        omega arith

    fills_once : (entered other : Option ℕ) (new next : NestedData) → FillStep (without_task n t) entered new
        → FillStep (without_task n t) other next → (entered ≡ other) × (new ≡ next)
    fills_once None None new next one two = (refl, one.1 ∙ sym two.1)
    fills_once None (Some w) new next one two = absurd (one.0 w two.0.free)
    fills_once (Some w) None new next one two = absurd (two.0 w one.0.free)
    fills_once (Some w) (Some v) new next one two =
        let same = same_task w v (joining_number w one.0.free.waits) (joining_number v two.0.free.waits) (one.0.most_urgent v two.0.free)
        (two.0.most_urgent w one.0.free) in
        (ap (λ (u : ℕ). Some u) same, one.1 ∙ ap (λ (u : ℕ). with_linked (without_task n t) u) same ∙ sym two.1)

    departs_once : (reply other : NestedReply) (new next : NestedData) → DepartsByCounts n t reply new → DepartsByCounts n t other next
        → (reply ≡ other) × (new ≡ next)
    departs_once answer.NotReady answer.NotReady new next one two = (refl, one.1 ∙ sym two.1)
    departs_once answer.NotReady answer.Left new next one two = absurd (true≢false (sym two.0.ready ∙ one.0))
    departs_once answer.NotReady (answer.Freed entered) new next one two =
        absurd (true≢false (sym (ok.counted.linked_ready t two.0) ∙ one.0))
    departs_once answer.NotReady _ new next one two = absurd two
    departs_once answer.Left answer.NotReady new next one two = absurd (true≢false (sym one.0.ready ∙ two.0))
    departs_once answer.Left answer.Left new next one two = (refl, one.1 ∙ sym two.1)
    departs_once answer.Left (answer.Freed entered) new next one two = absurd (true≢false (sym two.0 ∙ one.0.not_linked))
    departs_once answer.Left _ new next one two = absurd two
    departs_once (answer.Freed entered) answer.NotReady new next one two =
        absurd (true≢false (sym (ok.counted.linked_ready t one.0) ∙ two.0))
    departs_once (answer.Freed entered) answer.Left new next one two = absurd (true≢false (sym one.0 ∙ two.0.not_linked))
    departs_once (answer.Freed entered) (answer.Freed other) new next one two =
        let same = fills_once entered other new next one.1 two.1 in
        (ap (λ (e : Option ℕ). answer.Freed e) same.0, same.1)
    departs_once (answer.Freed entered) _ new next one two = absurd two
    departs_once _ other new next one two = absurd one

    departure_keeps : (reply : NestedReply) (new : NestedData) → DepartsByCounts n t reply new → IsNested new
    departure_keeps answer.NotReady new step = subst IsNested (sym step.1) ok
    departure_keeps answer.Left new step = subst IsNested (sym step.1) (nested-leaving n ok t number step.0.not_linked)
    departure_keeps (answer.Freed None) new step = subst IsNested (sym step.1.1) (nested-unfilled n ok t number step.0 step.1.0)
    departure_keeps (answer.Freed (Some w)) new step =
        subst IsNested (sym step.1.1) (nested-filled n ok t number step.0 w (joining_number w step.1.0.free.waits) step.1.0)
    departure_keeps _ new step = absurd step

  -- ---- any event
  step_once : (event : Event) (reply other : NestedReply) (new next : NestedData) → LaminarStep n event reply new
      → LaminarStep n event other next → (reply ≡ other) × (new ≡ next)
  step_once (Arrive t) reply other new next one two = arrives_once t reply other new next one.1 two.1
  step_once (Depart t) reply other new next one two = departs_once t one.0 reply other new next one.1 two.1
  step_once (Tick units) reply other new next one two = (one.0 ∙ sym two.0, one.1 ∙ sym two.1)
  step_once (Affinity t mask) reply other new next one two = absurd one
  step_once (Offline p) reply other new next one two = absurd one
  step_once (Online p) reply other new next one two = absurd one

  step_nests : (event : Event) (reply : NestedReply) (new : NestedData) → LaminarStep n event reply new → IsNested new
  step_nests (Arrive t) reply new step = arrival_keeps t step.0 reply new step.1
  step_nests (Depart t) reply new step = departure_keeps t step.0 reply new step.1
  step_nests (Tick units) reply new step = subst IsNested (sym step.1) ok
  step_nests (Affinity t mask) reply new step = absurd step
  step_nests (Offline p) reply new step = absurd step
  step_nests (Online p) reply new step = absurd step

-- ---- a run
runs_once : (n : NestedData) → IsNested n → (entries others : List NestedEntry) (last end : NestedData)
    → map (λ (entry : NestedEntry). entry.event) entries ≡ map (λ (entry : NestedEntry). entry.event) others → RunsTo n entries last
    → RunsTo n others end → entries ≡ others
runs_once n ok [] [] last end same one two = refl
runs_once n ok [] (other ∷ others) last end same one two = absurd (cc)
runs_once n ok (entry ∷ entries) [] last end same one two = absurd (cc)
runs_once n ok (entry ∷ entries) (other ∷ others) last end same one two =
    let event : other.event ≡ entry.event = cc in
    let rest : map (λ (e : NestedEntry). e.event) entries ≡ map (λ (e : NestedEntry). e.event) others = cc in
    let step : LaminarStep n entry.event other.reply other.after = subst (λ (e : Event). LaminarStep n e other.reply other.after)
    event two.0 in
    let both = step_once n ok entry.event entry.reply other.reply entry.after other.after one.0 step in
    let later = runs_once entry.after (step_nests n ok entry.event entry.reply entry.after one.0) entries others last end rest one.1
    (subst (λ (d : NestedData). RunsTo d others end) (sym both.1) two.1) in
    λ i. record { event = (sym event) i; reply = both.0 i; after = both.1 i } ∷ later i

pub nested_text_is_unique : NestedTextIsUnique
nested_text_is_unique set events text other valid laminar one two =
    let ok = nested-start set (counted-start set valid laminar) in
    one.written ∙ ap (nested_text set) (runs_once (nested_start set) ok one.entries two.entries one.last two.last
    (one.run.each_event ∙ sym two.run.each_event) one.run.steps two.run.steps)
    ∙ sym two.written
