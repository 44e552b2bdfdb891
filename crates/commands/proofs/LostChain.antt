-- The task with the longest stretch, and its chain: found one after another, among the tasks, and only one.
use Rattle.std.proofs.Common.{◌≡◌, ℕ, suc, ◌+◌, ◌<◌, ◌≤◌, ◌⊎◌, Bool, true, List, [], ◌∷◌, length, map, take, drop, get_or, Option, None}
use Rattle.std.proofs.Common.{Some}
use Rattle.std.proofs.Common.{refl, sym, ap, ◌∙◌, subst, inl, inr, arith}
use Rattle.std.specs.Prelude.{All, IfSome, reverse, slice_get}
use Rattle.std.proofs.lemmas.Bool.{cases_lt}
use Rattle.std.proofs.lemmas.List.{get_or_past, length-map}
use Rattle.std.proofs.lemmas.List.Elements.{All-nil, All-cons}
use Rattle.std.proofs.lemmas.Option.{slice_get-get_or, slice_get_within}
use Rattle.kernel_trace.specs.declared.loss_text.StepRow.{StepRow}
use Rattle.task_set.specs.TaskSet.{SetData, IsTaskSet}
use Rattle.strong_apa.specs.State.{State, IsState, task_count, task_on}
use Rattle.strong_apa.proofs.Linked.{linked_number}
use Rattle.trace_losses.specs.Book.{nothing_seen, of_task}
use Rattle.trace_losses.specs.ChainAt.{IsChainAt, steps_of}
use Rattle.trace_losses.specs.Losses.{AreLosses}
use Rattle.trace_losses.specs.Moments.{is_lost, losses}
use Rattle.trace_losses.specs.Passages.{ready_after_passages}
use Rattle.trace_losses.specs.declared.chains.ChainStep.{ChainStep}
use Rattle.trace_losses.specs.declared.loss.Loss.{Loss}
use Rattle.trace_losses.specs.declared.seen.Seen.{Seen}
use Rattle.trace_losses.specs.declared.tally.Stretch.{Stretch}
use Rattle.trace_losses.proofs.OneChains.{chains_are_unique}
use Rattle.trace_losses.proofs.SeenMoments.{count_of}
use Rattle.trace_passages.specs.Passages.{ArePassages, span_of}
use Rattle.trace_passages.specs.declared.passage.Passage.{Passage}
use Rattle.commands.specs.LostChain.{no_loss, longest_at, longest_count, NoneLost, IsLongestLost, IsFoundLost, BeginWithin, step_row}
use Rattle.commands.specs.LostChain.{IsChainRow}
use Rattle.commands.specs.LostChain.{IsLongestChain, IsNoChain, IsLostChain}

-- ---- found one after another
up_to : (P : ℕ → Type 0) (t u : ℕ) → u < t + 1 → ((v : ℕ) → v < t → P v) → P t → P u
up_to P t u below early now = elim (cases_lt u t) [
  | inl lt ↦ early u lt
  | inr ge ↦ (let same : t ≡ u = omega (arith, ge, below) in subst P same now)
]

pub now_longest : (found : List Loss) (t : ℕ) (first : Option ℕ) → IsFoundLost found t first
    → longest_count found first < (longest_at found t).count → IsFoundLost found (t + 1) (Some t)
now_longest found t None none more = record {
  within = omega arith;
  lost = more;
  longest = λ u below. up_to (λ v. (longest_at found v).count ≤ (longest_at found t).count) t u below
      (λ v early. let zero = none v early in omega (arith, zero)) (omega arith);
  first = λ u early. let zero = none u early in omega (arith, zero, more);
}
now_longest found t (Some f) is more = record {
  within = omega arith;
  lost = omega (arith, more);
  longest = λ u below. up_to (λ v. (longest_at found v).count ≤ (longest_at found t).count) t u below
      (λ v early. let least = is.longest v early in omega (arith, least, more)) (omega arith);
  first = λ u early. let least = is.longest u early in omega (arith, least, more);
}

pub still_longest : (found : List Loss) (t : ℕ) (first : Option ℕ) → IsFoundLost found t first
    → (longest_at found t).count ≤ longest_count found first → IsFoundLost found (t + 1) first
still_longest found t None none less =
    λ u below. up_to (λ v. (longest_at found v).count ≡ 0) t u below none (omega (arith, less))
still_longest found t (Some f) is less =
    let within = is.within in
    record {
      within = omega (arith, within);
      lost = is.lost;
      longest = λ u below. up_to (λ v. (longest_at found v).count ≤ (longest_at found f).count) t u below is.longest less;
      first = is.first;
    }

pub found_within : (found : List Loss) (n : ℕ) (first : Option ℕ) → IsFoundLost found n first → n ≤ length found
    → IfSome first (λ t. t < length found)
found_within found n None is all = tt
found_within found n (Some t) is all = let within = is.within in omega (arith, within, all)

-- ---- in the span
begins : (moments : List Bool) (first count : ℕ) → 0 < count
    → ((x : ℕ) → first ≤ x → x < first + count → slice_get moments x ≡ Some true) → first < length moments
begins moments first count some each = slice_get_within moments first true (each first (omega arith) (omega (arith, some)))

pub begin_within : (set : SetData) (threads : ℕ) (passages : List Passage) (units : ℕ) (found : List Loss) (beside : List ℕ)
    → AreLosses set threads passages units found beside → BeginWithin (span_of passages) found
begin_within set threads passages units found beside are t some = elim (cases_lt t (length found)) [
  | inl below ↦
      (let loss : Loss = get_or found t no_loss in
      let is = are.losses.each t loss (slice_get-get_or found t no_loss below) in
      let in_all = begins (losses (of_task t are.moments)) loss.longest.first loss.longest.count some is.longest.each in
      let one = length-map (of_task t are.moments) is_lost in
      let two = length-map are.moments (λ (seen : List Seen). get_or seen t nothing_seen) in
      let all = are.are.all in
      let span = are.span in
      omega (arith, in_all, one, two, all, span))
  | inr past ↦ (let none = ap (λ (loss : Loss). loss.longest.count) (get_or_past found t no_loss past) in
      absurd (omega (arith, none, some)))
]

-- ---- among the tasks
steps_below : (table : State) (tasks : ℕ) → IsState table → task_count table ≡ tasks → (guest : Option ℕ)
    → IfSome guest (λ t. t < tasks) → (chain : List ℕ)
    → All (λ (step : StepRow). step.task < tasks) (map step_row (steps_of table guest chain))
steps_below table tasks ok count guest below [] = All-nil (λ (step : StepRow). step.task < tasks)
steps_below table tasks ok count None below (p ∷ rest) = All-nil (λ (step : StepRow). step.task < tasks)
steps_below table tasks ok count (Some t) below (p ∷ rest) =
    All-cons (λ (step : StepRow). step.task < tasks) (record { task = t; processor = p })
    (map step_row (steps_of table (task_on table p) rest))
    below (steps_below table tasks ok count (task_on table p) (holder (task_on table p) refl) rest)
  where
    holder : (on : Option ℕ) → task_on table p ≡ on → IfSome on (λ u. u < tasks)
    holder None is = tt
    holder (Some u) is = let number = linked_number table p u ok is in omega (arith, number, count)

chain_below : (set : SetData) (passages : List Passage) (x t : ℕ) (chain : List ChainStep) → t < length set.tasks
    → IsChainAt set passages x t chain → All (λ (step : StepRow). step.task < length set.tasks) (map step_row chain)
chain_below set passages x t chain below is = elim is.along [
  | inl along ↦
      (let count = count_of set (ready_after_passages (reverse (take is.n passages))) is.links is.placed in
      subst (λ steps. All (λ (step : StepRow). step.task < length set.tasks) (map step_row steps)) (sym along.3)
      (steps_below _ (length set.tasks) is.table.state count (Some t) below along.0))
  | inr none ↦
      subst (λ steps. All (λ (step : StepRow). step.task < length set.tasks) (map step_row steps)) (sym none.1)
      (All-nil (λ (step : StepRow). step.task < length set.tasks))
]

pub steps_within : (set : SetData) (passages : List Passage) (found : List Loss) (count first : ℕ) (steps : List StepRow)
    → length found ≡ length set.tasks → IsLostChain set passages found count first steps
    → All (λ (step : StepRow). step.task < length set.tasks) steps
steps_within set passages found count first steps same is = elim is [
  | inl one ↦
      (let within = one.is_task.within in
      let below : one.task < length set.tasks = omega (arith, within, same) in
      subst (All (λ (step : StepRow). step.task < length set.tasks)) (sym one.row.are_steps)
      (chain_below set passages (longest_at found one.task).first one.task one.row.chain below one.row.is_chain))
  | inr none ↦
      subst (All (λ (step : StepRow). step.task < length set.tasks)) (sym none.no_steps)
      (All-nil (λ (step : StepRow). step.task < length set.tasks))
]

-- ---- only one
one_longest : (found : List Loss) (n t u : ℕ) → IsLongestLost found n t → IsLongestLost found n u → t ≡ u
one_longest found n t u one other = elim (cases_lt t u) [
  | inl lt ↦ (let less = other.first t lt in let more = one.longest u other.within in absurd (omega (arith, less, more)))
  | inr ge ↦ elim (cases_lt u t) [
    | inl lt ↦ (let less = one.first u lt in let more = other.longest t one.within in absurd (omega (arith, less, more)))
    | inr le ↦ omega (arith, ge, le)
  ]
]

not_both : {A : Type 0} (found : List Loss) (n t : ℕ) → IsLongestLost found n t → NoneLost found n → A
not_both found n t is none = let zero = none t is.within in let lost = is.lost in absurd (omega (arith, zero, lost))

pub one_lost_chain : (set : SetData) (threads : ℕ) (passages : List Passage) (found : List Loss) (count first other begin : ℕ)
    (steps more : List StepRow) → IsTaskSet set → ArePassages (length set.tasks) threads passages
    → IsLostChain set passages found count first steps → IsLostChain set passages found other begin more
    → (count ≡ other) × (first ≡ begin) × (steps ≡ more)
one_lost_chain set threads passages found count first other begin steps more valid passing one two = elim one [
  | inl is ↦ elim two [
    | inl also ↦
        (let same : also.task ≡ is.task = one_longest found (length found) also.task is.task also.is_task is.is_task in
        let row : IsChainRow set passages is.task (longest_at found is.task) other begin more =
        subst (λ (t : ℕ). IsChainRow set passages t (longest_at found t) other begin more) same also.row in (
          is.row.is_count ∙ sym row.is_count,
          is.row.is_first ∙ sym row.is_first,
          is.row.are_steps
              ∙ ap (map step_row)
              (chains_are_unique set threads passages (longest_at found is.task).first is.task is.row.chain row.chain valid passing
              is.row.is_chain
              row.is_chain) ∙ sym row.are_steps,
        ))
    | inr none ↦ not_both found (length found) is.task is.is_task none.none
  ]
  | inr none ↦ elim two [
    | inl also ↦ not_both found (length found) also.task also.is_task none.none
    | inr neither ↦
        (none.no_count ∙ sym neither.no_count, none.no_first ∙ sym neither.no_first, none.no_steps ∙ sym neither.no_steps)
  ]
]
