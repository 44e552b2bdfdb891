-- Bytes are the text of one trace, and what is written of a trace has one text.
use Rattle.std.proofs.Common.{◌≡◌, ℕ, ◌+◌, List, length, map, drop, sym, ap, ◌∙◌, subst}
use Rattle.kernel_trace.specs.LossText.{loss_text}
use Rattle.kernel_trace.specs.declared.loss_text.StepRow.{StepRow}
use Rattle.kernel_trace.specs.declared.loss_text.ThreadRow.{ThreadRow}
use Rattle.kernel_trace.specs.Passage.{TaskTraceData, IsTaskTraceText}
use Rattle.kernel_trace.specs.Survey.{survey_of}
use Rattle.kernel_trace.proofs.Followed.{following_machine}
use Rattle.text_fields.proofs.TextLaws.{one_value}
use Rattle.text_fields.specs.Lines.{lines_of}
use Rattle.trace_losses.specs.Jobs.{changes_of}
use Rattle.trace_losses.specs.declared.job.TraceJob.{TraceJob}
use Rattle.trace_losses.specs.declared.loss.Loss.{Loss}
use Rattle.trace_losses.proofs.OneJobs.{one_jobs}
use Rattle.trace_losses.proofs.OneLosses.{losses_are_unique, jumps_are_unique}
use Rattle.commands.specs.ImportJobs.{IsJobListOf, listed, job_text}
use Rattle.commands.specs.Lost.{IsLossText, told_rows}
use Rattle.commands.specs.LostThreads.{AreMost, thread_rows}
use Rattle.commands.specs.LostChain.{IsLostChain}
use Rattle.commands.proofs.LostChain.{one_lost_chain}
use Rattle.commands.proofs.LostThreads.{one_list}
use Rattle.commands.specs.TraceLaws.{LostTextIsUnique, ImportedJobsTextIsUnique}

one_trace : (bytes : List ℕ) (trace other : TaskTraceData) → IsTaskTraceText bytes trace → IsTaskTraceText bytes other → trace ≡ other
one_trace bytes trace other = one_value (following_machine (survey_of (lines_of bytes))) lines_of bytes trace other

pub lost_text_is_unique : LostTextIsUnique
lost_text_is_unique read put other one two =
    let trace : TaskTraceData = one.trace in
    let told = one.is_loss in
    let also : IsLossText trace other =
    subst (λ (t : TaskTraceData). IsLossText t other) (one_trace read two.trace trace two.is_text one.is_text) two.is_loss in
    let passages = trace.passages in
    let same =
    losses_are_unique trace.set (length trace.set.tasks + length trace.unlisted) passages told.units also.units told.losses also.losses
    told.beside also.beside
    told.valid
    one.is_trace.in_order told.are also.are in
    let jumps = jumps_are_unique passages told.jumps also.jumps told.are_jumps also.are_jumps in
    let is_chain : IsLostChain trace.set passages also.losses told.count told.first told.steps =
    subst (λ (losses : List Loss). IsLostChain trace.set passages losses told.count told.first told.steps) same.1 told.is_chain in
    let chain =
    one_lost_chain trace.set (length trace.set.tasks + length trace.unlisted) passages also.losses told.count told.first also.count
    also.first
    told.steps also.steps told.valid one.is_trace.in_order is_chain also.is_chain in
    let counts : List ℕ → List ThreadRow = λ beside. thread_rows trace.unlisted (drop (length trace.set.tasks) beside) in
    let threads : told.threads ≡ also.threads =
    one_list 10 (counts also.beside) told.threads also.threads
    (subst (λ (beside : List ℕ). AreMost 10 (counts beside) told.threads) same.2 told.are_most) also.are_most in
    let others = length trace.unlisted in
    let text : ℕ → List Loss → ℕ → ℕ → List StepRow → List ThreadRow → ℕ → List ℕ =
    λ units losses count first steps threads jumps.
    loss_text trace.set trace.clock units (told_rows trace.mentioned 0 losses) count first steps others threads jumps in
    told.text
    ∙ ap (λ (units : ℕ). text units told.losses told.count told.first told.steps told.threads told.jumps) same.0
    ∙ ap (λ (losses : List Loss). text also.units losses told.count told.first told.steps told.threads told.jumps) same.1
    ∙ ap (λ (count : ℕ). text also.units also.losses count told.first told.steps told.threads told.jumps) chain.0
    ∙ ap (λ (first : ℕ). text also.units also.losses also.count first told.steps told.threads told.jumps) chain.1
    ∙ ap (λ (steps : List StepRow). text also.units also.losses also.count also.first steps told.threads told.jumps) chain.2
    ∙ ap (λ (named : List ThreadRow). text also.units also.losses also.count also.first also.steps named told.jumps) threads
    ∙ ap (text also.units also.losses also.count also.first also.steps also.threads) jumps
    ∙ sym also.text

pub imported_jobs_text_is_unique : ImportedJobsTextIsUnique
imported_jobs_text_is_unique read put other one two =
    let trace : TaskTraceData = one.trace in
    let list = one.is_list in
    let also : IsJobListOf trace other =
    subst (λ (t : TaskTraceData). IsJobListOf t other) (one_trace read two.trace trace two.is_text one.is_text) two.is_list in
    let passages = trace.passages in
    let same = one_jobs passages (changes_of passages) list.jobs also.jobs list.has.are also.has.are in
    list.text ∙ ap (λ (jobs : List TraceJob). job_text trace (map listed jobs)) same ∙ sym also.text
