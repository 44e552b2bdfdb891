use Rattle.std.proofs.Common.{take}
use Rattle.std.specs.Prelude.{IsTrue, All}
use Rattle.text_fields.specs.Lines.{MayStand}
use Rattle.text_fields.proofs.fields.has_plain_lines.Given as goal

abbrev pub invariant-loop-byte : goal.invariant-loop-byte
invariant-loop-byte l = IsTrue l.plain → All MayStand (take l.byte-index l.text)
