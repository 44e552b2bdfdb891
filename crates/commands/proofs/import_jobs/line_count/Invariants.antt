use Rattle.std.proofs.Common.{◌≡◌, ◌-◌, ◌≤◌, length, drop}
use Rattle.text_fields.specs.Lines.{lines_of}
use Rattle.commands.proofs.import_jobs.line_count.Given as goal

abbrev pub invariant-loop-i : goal.invariant-loop-i
invariant-loop-i l = record {
  count : l.lines ≡ length (lines_of (drop (length l.bytes - l.i) l.bytes));
  bound : l.lines ≤ l.i;
}
