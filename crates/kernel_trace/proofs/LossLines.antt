-- The lines of losses as they are written.
use Rattle.std.proofs.Common.{◌≡◌, ℕ, List, [], ◌∷◌, ◌++◌, codes, Option, refl, append_assoc}
use Rattle.affinity_mask.specs.Number.{canonical_number}
use Rattle.task_set.specs.TaskSet.{SetData}
use Rattle.text_fields.specs.EventText.{name_of}
use Rattle.kernel_trace.specs.StampText.{stamp_text}
use Rattle.kernel_trace.specs.LossText.{moment_text, rival_text, row_text, told_text, loss_line, loss_lines, span_text, thread_line}
use Rattle.kernel_trace.specs.LossText.{thread_lines, step_line, step_lines, chain_text, end_text, loss_text}
use Rattle.kernel_trace.specs.declared.loss_text.LossRow.{LossRow}
use Rattle.kernel_trace.specs.declared.loss_text.StepRow.{StepRow}
use Rattle.kernel_trace.specs.declared.loss_text.ThreadRow.{ThreadRow}

-- ---- a line
pieces : (old a b c d e f g h i j k l m n : List ℕ)
    → old ++ a ++ b ++ c ++ d ++ e ++ f ++ g ++ h ++ i ++ j ++ k ++ l ++ m ++ n ≡ old
    ++ (a ++ b ++ c ++ d ++ e ++ f ++ g ++ h ++ i ++ j ++ k ++ l ++ m ++ n)
pieces old a b c d e f g h i j k l m n = simp append_assoc

pub row_written : (set : SetData) (clock : Option ℕ) (row : LossRow) (t0 t1 t2 t3 t4 t5 t6 t7 t8 t9 : List ℕ)
    → t1 ≡ t0 ++ codes " ready " ++ canonical_number row.ready → t2 ≡ t1 ++ codes " ran " ++ canonical_number row.ran
    → t3 ≡ t2 ++ codes " lost " ++ canonical_number row.lost → t4 ≡ t3 ++ codes " over " ++ canonical_number row.over
    → t5 ≡ t4 ++ codes " longest " ++ canonical_number row.longest → t6 ≡ t5 ++ codes " at "
    → t7 ≡ t6 ++ moment_text clock row.longest row.first → t8 ≡ t7 ++ codes " while " → t9 ≡ t8 ++ rival_text set row.rival
    → t9 ≡ t0 ++ row_text set clock row
unfolding row_text
row_written set clock row t0 t1 t2 t3 t4 t5 t6 t7 t8 t9 e1 e2 e3 e4 e5 e6 e7 e8 e9 =
    rw (e9, e8, e7, e6, e5, e4, e3, e2, e1)
    (pieces t0 (codes " ready ") (canonical_number row.ready) (codes " ran ") (canonical_number row.ran) (codes " lost ")
    (canonical_number row.lost) (codes " over ") (canonical_number row.over) (codes " longest ") (canonical_number row.longest)
    (codes " at ")
    (moment_text clock row.longest row.first) (codes " while ") (rival_text set row.rival))

line_pieces : (old a b c : List ℕ) → old ++ a ++ b ++ c ≡ old ++ ((a ++ b) ++ c)
line_pieces old a b c = simp append_assoc

pub line_written : (set : SetData) (clock : Option ℕ) (t : ℕ) (row : Option LossRow) (t0 t1 t2 t3 : List ℕ)
    → t1 ≡ t0 ++ name_of set t → t2 ≡ t1 ++ told_text set clock row → t3 ≡ t2 ++ 10 ∷ [] → t3 ≡ t0 ++ loss_line set clock t row
line_written set clock t row t0 t1 t2 t3 e1 e2 e3 = rw (e3, e2, e1) (line_pieces t0 (name_of set t) (told_text set clock row) (10 ∷ []))

-- ---- the text
span_pieces : (old a b c d e : List ℕ) → old ++ a ++ b ++ c ++ d ++ e ≡ old ++ (a ++ b ++ c ++ (d ++ e))
span_pieces old a b c d e = simp append_assoc

pub span_written : (clock : Option ℕ) (span : ℕ) (t0 t1 t2 t3 t4 : List ℕ) → t1 ≡ t0 ++ codes "lost 3\nspan " ++ canonical_number span
    → t2 ≡ t1 ++ codes " at " → t3 ≡ t2 ++ stamp_text clock → t4 ≡ t3 ++ 10 ∷ [] → t4 ≡ t0 ++ span_text clock span
unfolding span_text
span_written clock span t0 t1 t2 t3 t4 e1 e2 e3 e4 =
    rw (e4, e3, e2, e1) (span_pieces t0 (codes "lost 3\nspan ") (canonical_number span) (codes " at ") (stamp_text clock) (10 ∷ []))

thread_pieces : (old a b c d e : List ℕ) → old ++ a ++ b ++ c ++ d ++ e ≡ old ++ (a ++ b ++ c ++ (d ++ e))
thread_pieces old a b c d e = simp append_assoc

pub thread_written : (row : ThreadRow) (t0 t1 t2 t3 : List ℕ) → t1 ≡ t0 ++ codes "thread " ++ canonical_number row.id
    → t2 ≡ t1 ++ codes " ran " ++ canonical_number row.ran → t3 ≡ t2 ++ 10 ∷ [] → t3 ≡ t0 ++ thread_line row
unfolding thread_line
thread_written row t0 t1 t2 t3 e1 e2 e3 =
    rw (e3, e2, e1) (thread_pieces t0 (codes "thread ") (canonical_number row.id) (codes " ran ") (canonical_number row.ran) (10 ∷ []))

step_pieces : (old a b c d : List ℕ) → old ++ a ++ b ++ c ++ d ≡ old ++ (a ++ b ++ (c ++ d))
step_pieces old a b c d = simp append_assoc

pub step_written : (set : SetData) (step : StepRow) (t0 t1 t2 t3 : List ℕ) → t1 ≡ t0 ++ name_of set step.task
    → t2 ≡ t1 ++ codes " to " ++ canonical_number step.processor → t3 ≡ t2 ++ 10 ∷ [] → t3 ≡ t0 ++ step_line set step
unfolding step_line
step_written set step t0 t1 t2 t3 e1 e2 e3 =
    rw (e3, e2, e1) (step_pieces t0 (name_of set step.task) (codes " to ") (canonical_number step.processor) (10 ∷ []))

chain_pieces : (old a b c d : List ℕ) → old ++ a ++ b ++ c ++ d ≡ old ++ (a ++ (b ++ c) ++ d)
chain_pieces old a b c d = simp append_assoc

pub chain_written : (set : SetData) (clock : Option ℕ) (count first : ℕ) (steps : List StepRow) (t0 t1 t2 t3 t4 : List ℕ)
    → t1 ≡ t0 ++ codes "chain " → t2 ≡ t1 ++ moment_text clock count first → t3 ≡ t2 ++ 10 ∷ [] → t4 ≡ t3 ++ step_lines set steps
    → t4 ≡ t0 ++ chain_text set clock count first steps
unfolding chain_text
chain_written set clock count first steps t0 t1 t2 t3 t4 e1 e2 e3 e4 =
    rw (e4, e3, e2, e1) (chain_pieces t0 (codes "chain ") (moment_text clock count first) (10 ∷ []) (step_lines set steps))

end_pieces : (old a b c d e f g : List ℕ)
    → old ++ a ++ b ++ c ++ d ++ e ++ f ++ (10 ∷ g) ≡ old ++ (a ++ (b ++ c) ++ d ++ e ++ (f ++ 10 ∷ []) ++ g)
end_pieces old a b c d e f g = simp append_assoc

pub end_written : (unlisted : ℕ) (threads : List ThreadRow) (jumps : ℕ) (t0 t1 t2 t3 t4 t5 : List ℕ)
    → t1 ≡ t0 ++ codes "unlisted " ++ canonical_number unlisted → t2 ≡ t1 ++ 10 ∷ [] → t3 ≡ t2 ++ thread_lines threads
    → t4 ≡ t3 ++ codes "jumps " ++ canonical_number jumps → t5 ≡ t4 ++ codes "\nend\n" → t5 ≡ t0 ++ end_text unlisted threads jumps
unfolding end_text
end_written unlisted threads jumps t0 t1 t2 t3 t4 t5 e1 e2 e3 e4 e5 =
    rw (e5, e4, e3, e2, e1)
    (end_pieces t0 (codes "unlisted ") (canonical_number unlisted) (10 ∷ []) (thread_lines threads) (codes "jumps ")
    (canonical_number jumps)
    (codes "end\n"))

pub text_written : (set : SetData) (clock : Option ℕ) (span : ℕ) (rows : List (Option LossRow)) (count first : ℕ)
    (steps : List StepRow) (unlisted : ℕ) (threads : List ThreadRow) (jumps : ℕ) (t0 t1 t2 t3 t4 : List ℕ)
    → t0 ≡ []
    → t1 ≡ t0 ++ span_text clock span → t2 ≡ t1 ++ loss_lines set clock 0 rows → t3 ≡ t2 ++ chain_text set clock count first steps
    → t4 ≡ t3 ++ end_text unlisted threads jumps
    → t4 ≡ loss_text set clock span rows count first steps unlisted threads jumps
text_written set clock span rows count first steps unlisted threads jumps t0 t1 t2 t3 t4 e0 e1 e2 e3 e4 = rw (e4, e3, e2, e1, e0) refl
