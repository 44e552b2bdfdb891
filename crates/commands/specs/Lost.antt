-- What the kernel lost beside the best set, from the bytes of a trace of the Linux scheduler. The
-- numbers of a task are counts: of the moments of the trace, each a microsecond from the first
-- change to the last used line, at which something holds of it.
use Rattle.std.specs.Prelude.{◌≡◌, ℕ, ◌+◌, ◌<◌, ◌^◌, Bool, false, List, [], ◌∷◌, drop, length, All}
use Rattle.std.specs.Prelude.{Option, None, Some, IfSome, slice_index_or, if◌then◌else◌}
use Rattle.kernel_trace.specs.LossText.{loss_text}
use Rattle.kernel_trace.specs.Passage.{TaskTraceData, IsTaskTraceText, IsTaskTraceRefused}
use Rattle.kernel_trace.specs.Passages.{IsTaskTrace}
use Rattle.kernel_trace.specs.declared.loss_text.LossRow.{LossRow}
use Rattle.kernel_trace.specs.declared.loss_text.StepRow.{StepRow}
use Rattle.kernel_trace.specs.declared.loss_text.ThreadRow.{ThreadRow}
use Rattle.task_set.specs.TaskSet.{IsTaskSet}
use Rattle.trace_losses.specs.Jumps.{AreJumps}
use Rattle.trace_losses.specs.Losses.{AreLosses}
use Rattle.trace_losses.specs.declared.loss.Loss.{Loss}
use Rattle.commands.specs.Import.{RefusesTraceText}
use Rattle.commands.specs.LostChain.{IsLostChain}
use Rattle.commands.specs.LostThreads.{AreMost, thread_rows}
use Rattle.commands.specs.Refusal.{IsAnsweredInput}
use Rattle.commands.specs.declared.status.Status.{Status}

-- ---- what is written
-- the row of a task, by what it lost
abbrev pub loss_row : Loss → LossRow
loss_row loss = record {
  ready = loss.ready;
  ran = loss.served;
  lost = loss.lost;
  over = loss.over;
  longest = loss.longest.count;
  first = loss.longest.first;
  rival = loss.rival;
}

-- what is told of a task: the row, where the trace mentions it
abbrev pub told_row : Bool → Loss → Option LossRow
told_row mentioned loss = if mentioned then Some (loss_row loss) else None

-- the same of tasks that follow each other, from this one on
abbrev pub told_rows : List Bool → ℕ → List Loss → List (Option LossRow)
told_rows mentioned t [] = []
told_rows mentioned t (loss ∷ rest) =
    told_row (slice_index_or mentioned t false) loss ∷ told_rows mentioned (t + 1) rest

-- each rival has a task's number
abbrev pub AreNumbered : List Loss → Type 0
AreNumbered losses = All (λ (loss : Loss). IfSome loss.rival (λ t. t < 2 ^ 32)) losses

-- the bytes are the text of the span of a trace with the clock of its first moment, of what each of
-- its tasks lost that a used line mentions, of the chain that was not taken for the longest stretch
-- of lost moments, of how many other threads are told apart and which ten
-- of them ran most while a task was lost, and of how many switches are from another thread than the
-- one that came last
pub record IsLossText (trace : TaskTraceData) (put : List ℕ) : Type 0 where
  pub units : ℕ
  pub losses : List Loss
  pub beside : List ℕ
  pub count : ℕ
  pub first : ℕ
  pub steps : List StepRow
  pub threads : List ThreadRow
  pub jumps : ℕ
  pub valid : IsTaskSet trace.set
  pub are : AreLosses trace.set (length trace.set.tasks + length trace.unlisted)
      trace.passages units
      losses beside
  pub is_chain : IsLostChain trace.set trace.passages losses count first steps
  pub are_most : AreMost 10 (thread_rows trace.unlisted (drop (length trace.set.tasks) beside))
      threads
  pub are_jumps : AreJumps trace.passages jumps
  pub text : put ≡ loss_text trace.set trace.clock units (told_rows trace.mentioned 0 losses)
      count first steps (length trace.unlisted) threads jumps

-- the bytes read are the text of a trace, and the bytes written are the text of what its tasks
-- lost: of each task the number of moments of the span at which it is ready, at which it is ready
-- and runs, and at which it is in the best placeable set of the ready tasks and runs nowhere; how
-- many of the latter stand in stretches of more than 50; the longest stretch of them, the first of
-- several; and who ran most in it without being in that set; of the longest of all these stretches
-- the chain that would have given its task a processor at its first moment; and of the threads that
-- are told apart the number of moments at which each runs while some task is lost
pub record IsLossOf (read put : List ℕ) : Type 0 where
  pub trace : TaskTraceData
  pub is_text : IsTaskTraceText read trace
  pub is_trace : IsTaskTrace read trace
  pub is_loss : IsLossText trace put

-- the bytes are the text of a trace, read as what its lines say of tasks
abbrev pub AcceptsTaskTrace : List ℕ → Type 0
AcceptsTaskTrace bytes = (trace : TaskTraceData) × IsTaskTraceText bytes trace

-- the bytes are refused with this status
abbrev pub RefusesTaskTrace : List ℕ → Status → Type 0
RefusesTaskTrace bytes status = IsAnsweredInput (RefusesTraceText (IsTaskTraceRefused bytes)) status
