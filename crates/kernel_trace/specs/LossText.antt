-- The text of what a kernel did beside the best set: the span, with the clock of its first moment,
-- and for each task that the trace mentions at how many moments it was ready, ran, and was lost,
-- and how many of the lost ones stand in a long stretch; the longest stretch of lost moments with
-- its first one and the clock then, `-` where there is none; and the task that ran then. A task
-- that no line mentions has `-`. After the tasks stands the chain that was not taken for the
-- longest of all stretches: its first moment with the clock then, `-` where no task was lost, and a
-- line for each task that would have gone to another processor. Then stand how many other threads
-- are told apart, and those of them that ran most while a task was lost. Last stands how many
-- switches are from another thread than the one that the switch before it on the same processor
-- went to. Lines end with a line feed, fields are separated by one space, and numbers are
-- canonical.
use Rattle.std.specs.Prelude.{ℕ, ◌+◌, ◌==◌, List, [], ◌∷◌, ◌++◌, codes, Option, Some, None}
use Rattle.std.specs.Prelude.{if◌then◌else◌}
use Rattle.affinity_mask.specs.Number.{canonical_number}
use Rattle.task_set.specs.TaskSet.{SetData}
use Rattle.text_fields.specs.EventText.{name_of}
use Rattle.text_fields.specs.LineText.{line}
use Rattle.kernel_trace.specs.StampText.{stamp_text, clock_after}
use Rattle.kernel_trace.specs.declared.loss_text.LossRow.{LossRow}
use Rattle.kernel_trace.specs.declared.loss_text.StepRow.{StepRow}
use Rattle.kernel_trace.specs.declared.loss_text.ThreadRow.{ThreadRow}

-- the first moment of so many, with its clock, by that of moment 0
abbrev pub moment_text : Option ℕ → ℕ → ℕ → List ℕ
moment_text clock count first =
    if count == 0 then codes "- -" else canonical_number first ++ codes " "
    ++ stamp_text (clock_after clock first)

-- the task that ran meanwhile, `nobody` where there is none
abbrev pub rival_text : SetData → Option ℕ → List ℕ
rival_text set None = codes "nobody"
rival_text set (Some t) = name_of set t

-- what is told of a task after its name
unfoldable pub row_text : SetData → Option ℕ → LossRow → List ℕ
row_text set clock row =
    codes " ready " ++ canonical_number row.ready ++ codes " ran " ++ canonical_number row.ran
    ++ codes " lost " ++ canonical_number row.lost ++ codes " over " ++ canonical_number row.over
    ++ codes " longest " ++ canonical_number row.longest ++ codes " at "
    ++ moment_text clock row.longest row.first
    ++ codes " while " ++ rival_text set row.rival

-- the same, where a line mentions the task
abbrev pub told_text : SetData → Option ℕ → Option LossRow → List ℕ
told_text set clock None = codes " -"
told_text set clock (Some row) = row_text set clock row

-- the line of a task
abbrev pub loss_line : SetData → Option ℕ → ℕ → Option LossRow → List ℕ
loss_line set clock t row = line (name_of set t ++ told_text set clock row)

-- the lines of some tasks that follow each other, from this one on
abbrev pub loss_lines : SetData → Option ℕ → ℕ → List (Option LossRow) → List ℕ
loss_lines set clock t [] = []
loss_lines set clock t (row ∷ rest) = loss_line set clock t row ++ loss_lines set clock (t + 1) rest

-- the header and the span
unfoldable pub span_text : Option ℕ → ℕ → List ℕ
span_text clock span =
    codes "lost 3\nspan " ++ canonical_number span ++ codes " at " ++ line (stamp_text clock)

-- the line of a step of a chain: a task, and the processor that it would have gone to
unfoldable pub step_line : SetData → StepRow → List ℕ
step_line set step = name_of set step.task ++ codes " to " ++ line (canonical_number step.processor)

-- the lines of some steps
abbrev pub step_lines : SetData → List StepRow → List ℕ
step_lines set [] = []
step_lines set (step ∷ rest) = step_line set step ++ step_lines set rest

-- the chain for a stretch of so many moments from the first one on
unfoldable pub chain_text : SetData → Option ℕ → ℕ → ℕ → List StepRow → List ℕ
chain_text set clock count first steps =
    codes "chain " ++ line (moment_text clock count first) ++ step_lines set steps

-- the line of a thread
unfoldable pub thread_line : ThreadRow → List ℕ
thread_line row =
    codes "thread " ++ canonical_number row.id ++ codes " ran " ++ line (canonical_number row.ran)

-- the lines of some threads
abbrev pub thread_lines : List ThreadRow → List ℕ
thread_lines [] = []
thread_lines (row ∷ rest) = thread_line row ++ thread_lines rest

-- what stands after the tasks and the chain: how many threads are told apart, those that are named,
-- the count of switches, and the end
unfoldable pub end_text : ℕ → List ThreadRow → ℕ → List ℕ
end_text unlisted threads jumps =
    codes "unlisted " ++ line (canonical_number unlisted) ++ thread_lines threads ++ codes "jumps "
    ++ line (canonical_number jumps) ++ codes "end\n"

-- the whole text
abbrev pub loss_text : SetData → Option ℕ → ℕ → List (Option LossRow) → ℕ → ℕ → List StepRow → ℕ
    → List ThreadRow → ℕ → List ℕ
loss_text set clock span rows count first steps unlisted threads jumps =
    span_text clock span ++ loss_lines set clock 0 rows ++ chain_text set clock count first steps
    ++ end_text unlisted threads jumps
