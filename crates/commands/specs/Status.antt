-- The answers of a program, as numbers and as lines: each has the exit status and the line that are
-- fixed for it here, and Done has no line.
use Rattle.std.specs.Prelude.{ℕ, List, [], ◌++◌, codes, Option, None, Some}
use Rattle.trace_reader.specs.declared.fault.InputFault.{InputFault}
use Rattle.trace_reader.specs.InputFault.{kind_number}
use Rattle.affinity_mask.specs.Number.{canonical_number}
use Rattle.schedule_text.specs.declared.fault.TextFault.{TextFault}
use Rattle.schedule_text.specs.ScheduleFault as text
use Rattle.commands.specs.declared.status.Status.{Status}
use Rattle.commands.specs.declared.status.Status.TheVariants.{Done, Invalid, Usage, Input, Version}
use Rattle.commands.specs.declared.status.Status.TheVariants.{Crossing, TooLong, ReadFault}
use Rattle.commands.specs.declared.status.Status.TheVariants.{WriteFault, OutOfMemory}

-- the exit status of the process after an answer
abbrev pub exit_status_of : Status → ℕ
exit_status_of Done = 0
exit_status_of (Invalid line defect) = 1
exit_status_of Usage = 2
exit_status_of (Input line kind) = 3
exit_status_of Version = 3
exit_status_of (Crossing one other) = 3
exit_status_of (TooLong most) = 3
exit_status_of ReadFault = 4
exit_status_of WriteFault = 5
exit_status_of OutOfMemory = 6

-- the line that reports an answer, without its line feed
abbrev pub status_text : Status → List ℕ
status_text Done = []
status_text (Invalid line defect) =
    codes "invalid: line " ++ canonical_number line ++ codes ", defect " ++ canonical_number defect
status_text Usage = codes
    "usage: run, check, make n p t e, large n p t e, weak, nested, jobs, watch k, import, draw [A B], steps [A B], chrome [AT], lost, weakjobs, importjobs, runjobs, show [A B]"
status_text (Input line kind) =
    codes "input: line " ++ canonical_number line ++ codes ", kind " ++ canonical_number kind
status_text Version = codes "input: version 1 wanted"
status_text (Crossing one other) = codes "input: tasks "
    ++ (canonical_number one ++ (codes " and "
    ++ (canonical_number other ++ codes " have crossing masks")))
status_text (TooLong most) = codes "input: more than " ++ canonical_number most ++ codes " bytes"
status_text ReadFault = codes "read fault"
status_text WriteFault = codes "write fault"
status_text OutOfMemory = codes "out of memory"

-- P holds, unless the answer comes after bytes were written
abbrev pub BeforePut : Status → Type 0 → Type 0
BeforePut Done P = Unit {0}
BeforePut WriteFault P = Unit {0}
BeforePut (Invalid line defect) P = P
BeforePut Usage P = P
BeforePut (Input line kind) P = P
BeforePut Version P = P
BeforePut (Crossing one other) P = P
BeforePut (TooLong most) P = P
BeforePut ReadFault P = P
BeforePut OutOfMemory P = P

-- the status of a fault of a text: its line and the number of its kind; out of memory has no number
abbrev pub status_of_number : ℕ → Option ℕ → Status
status_of_number line None = OutOfMemory
status_of_number line (Some kind) = Input line kind

-- the status of a fault of the input
abbrev pub status_of_fault : InputFault → Status
status_of_fault fault = status_of_number fault.line (kind_number fault.kind)

-- the status of a fault of a schedule text
abbrev pub status_of_text_fault : TextFault → Status
status_of_text_fault fault = status_of_number fault.line (text.kind_number fault.kind)
