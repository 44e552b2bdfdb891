use Rattle.std.proofs.Common.{◌≡◌, ℕ, ◌+◌, ◌≤◌, List, Option, length, drop, ap, ◌∙◌, subst, sym, arith}
use Rattle.std.specs.Prelude.{Vec}
use Rattle.std.specs.declared.alloc.Global.{Global}
use Rattle.std.proofs.lemmas.Result.{IfOk-weaker}
use Rattle.kernel_trace.specs.LossText.{loss_text}
use Rattle.kernel_trace.specs.declared.loss_text.LossRow.{LossRow}
use Rattle.kernel_trace.specs.declared.loss_text.StepRow.{StepRow}
use Rattle.kernel_trace.specs.declared.loss_text.ThreadRow.{ThreadRow}
use Rattle.task_set.specs.TaskSet.{SetData}
use Rattle.trace_losses.specs.Jumps.{AreJumps}
use Rattle.trace_losses.specs.Losses.{AreLosses}
use Rattle.trace_losses.specs.declared.loss.Loss.{Loss}
use Rattle.trace_passages.specs.Passages.{span_of}
use Rattle.trace_passages.specs.declared.passage.Passage.{Passage}
use Rattle.commands.specs.Lost.{told_rows, IsLossText}
use Rattle.commands.specs.LostChain.{BeginWithin, IsLostChain}
use Rattle.commands.specs.LostThreads.{AreMost, thread_rows}
use Rattle.commands.proofs.LossRows.{losses_length, numbered, rows_length, rows_within}
use Rattle.commands.proofs.LostChain.{begin_within, steps_within}
use Rattle.commands.proofs.lost.text_of.Goals as goal

pub rows_of-requires-clause-tasks : goal.rows_of-requires-clause-tasks
rows_of-requires-clause-tasks c =
    let count = rw c.set.ensures at c.len-tasks.ensures.value in
    let most = c.len-tasks.ensures.bound in
    let each = losses_length c.args.trace.now.set _ _ _ _ _ (rw c.set-2.ensures at c.in_ok-found.ensures.losses) in
    rw c.deref.ensures.value (omega (arith, count, most, each))

pub rows_of-requires-clause-rivals : goal.rows_of-requires-clause-rivals
rows_of-requires-clause-rivals c =
    let count = rw c.set.ensures at c.len-tasks.ensures.value in
    let most = c.len-tasks.ensures.bound in
    let bound : length c.args.trace.now.set.tasks ≤ 1024 = omega (arith, count, most) in
    rw c.deref.ensures.value (numbered c.args.trace.now.set _ _ _ _ _ bound (rw c.set-2.ensures at c.in_ok-found.ensures.losses))

pub lost_chain-requires-clause-within : goal.lost_chain-requires-clause-within
lost_chain-requires-clause-within c =
    let found : List Loss = c.in_ok-found.found.losses.items in
    subst (BeginWithin (span_of c.args.trace.now.passages)) (sym c.deref-2.ensures.value)
    (subst (λ (passages : List Passage). BeginWithin (span_of passages) found) c.passages.ensures
    (begin_within c.set-2.result.now _ c.passages.result.now _ found _ c.in_ok-found.ensures.losses))

pub write_losses-requires-clause-steps : goal.write_losses-requires-clause-steps
write_losses-requires-clause-steps c =
    let each = losses_length c.args.trace.now.set _ _ _ _ _ (rw c.set-2.ensures at c.in_ok-found.ensures.losses) in
    let same : length c.deref-2.result.now ≡ length c.args.trace.now.set.tasks = ap length c.deref-2.ensures.value ∙ each in
    let row = c.in_ok-lost_chain.field-0 in
    rw c.set-3.ensures
    (steps_within c.args.trace.now.set c.args.trace.now.passages c.deref-2.result.now row.count row.first row.steps.items same
    c.in_ok-lost_chain.ensures)

pub write_losses-requires-clause-tasks : goal.write_losses-requires-clause-tasks
write_losses-requires-clause-tasks c =
    let each = losses_length c.args.trace.now.set _ _ _ _ _ (rw c.set-2.ensures at c.in_ok-found.ensures.losses) in
    let rows = rows_length c.args.trace.now.mentioned 0 c.in_ok-found.found.losses.items in
    rw (c.deref-4.ensures.value, c.in_ok-rows.ensures, c.deref.ensures.value, c.set-3.ensures) (omega (arith, each, rows))

pub write_losses-requires-clause-rivals : goal.write_losses-requires-clause-rivals
write_losses-requires-clause-rivals c =
    rw (c.deref-4.ensures.value, c.in_ok-rows.ensures, c.deref.ensures.value, c.set-3.ensures)
    (rows_within c.args.trace.now.set _ _ _ _ _ c.args.trace.now.mentioned (rw c.set-2.ensures at c.in_ok-found.ensures.losses))

pub returns : goal.returns
returns c =
    let trace = c.args.trace.now in
    let found = c.in_ok-found.found in
    let losses : List Loss = found.losses.items in
    let beside : List ℕ = found.beside.items in
    let named : List ThreadRow = c.in_ok-lost_threads.field-0.items in
    let tasks : c.len-tasks.result ≡ length trace.set.tasks = rw c.set.ensures at c.len-tasks.ensures.value in
    let unlisted = c.unlisted.ensures.value in
    let threads : c.len-tasks.result + c.unlisted.result ≡ length trace.set.tasks
    + length trace.unlisted = omega (arith, tasks, unlisted) in
    let are : AreLosses trace.set (length trace.set.tasks + length trace.unlisted) trace.passages found.span losses beside =
    subst (λ (set : SetData). AreLosses set (length trace.set.tasks + length trace.unlisted) trace.passages found.span losses beside)
    c.set-2.ensures
    (subst (λ (passages : List Passage).
    AreLosses c.set-2.result.now (length trace.set.tasks + length trace.unlisted) passages found.span losses beside)
    c.passages.ensures
    (subst (λ (n : ℕ). AreLosses c.set-2.result.now n c.passages.result.now found.span losses beside)
    threads c.in_ok-found.ensures.losses)) in
    let most : AreMost 10 (thread_rows trace.unlisted (drop (length trace.set.tasks) beside)) named =
    subst (λ (counts : List ℕ). AreMost 10 (thread_rows trace.unlisted (drop (length trace.set.tasks) counts)) named)
    c.deref-3.ensures.value
    c.in_ok-lost_threads.ensures in
    let rows : c.deref-4.result.now ≡ told_rows trace.mentioned 0 losses =
    c.deref-4.ensures.value ∙ c.in_ok-rows.ensures ∙ ap (told_rows trace.mentioned 0) c.deref.ensures.value in
    let row = c.in_ok-lost_chain.field-0 in
    let is_chain : IsLostChain trace.set trace.passages losses row.count row.first row.steps.items =
    subst (λ (losses : List Loss). IsLostChain trace.set trace.passages losses row.count row.first row.steps.items) c.deref-2.ensures.value
    c.in_ok-lost_chain.ensures in
    let made : SetData → Option ℕ → List (Option LossRow) → ℕ → List ℕ =
    λ set clock rows unlisted.
    loss_text set clock found.span rows row.count row.first row.steps.items unlisted named found.jumps in
    let same
    : made c.set-3.result.now c.clock.result c.deref-4.result.now c.unlisted-2.result
    ≡ made trace.set trace.clock (told_rows trace.mentioned 0 losses) (length trace.unlisted) =
    ap (λ (set : SetData). made set c.clock.result c.deref-4.result.now c.unlisted-2.result) c.set-3.ensures
    ∙ ap (λ (clock : Option ℕ). made trace.set clock c.deref-4.result.now c.unlisted-2.result) c.clock.ensures
    ∙ ap (λ (told : List (Option LossRow)). made trace.set trace.clock told c.unlisted-2.result) rows
    ∙ ap (made trace.set trace.clock (told_rows trace.mentioned 0 losses)) c.unlisted-2.ensures.value in
    IfOk-weaker c.write_losses.result
    (λ (text : Vec ℕ Global). text.items ≡ made c.set-3.result.now c.clock.result c.deref-4.result.now c.unlisted-2.result)
    (λ (text : Vec ℕ Global). IsLossText trace text.items)
    (λ text put. record {
      units = found.span;
      losses = losses;
      beside = beside;
      count = row.count;
      first = row.first;
      steps = row.steps.items;
      threads = named;
      jumps = found.jumps;
      valid = (rw c.set.ensures at c.len-tasks.ensures.valid);
      are = are;
      is_chain = is_chain;
      are_most = most;
      are_jumps = subst (λ (passages : List Passage). AreJumps passages found.jumps) c.passages.ensures c.in_ok-found.ensures.jumps;
      text = put ∙ same;
    })
    c.write_losses.ensures
