use Rattle.std.proofs.Common.{◌≡◌, ◌≤◌, take}
use Rattle.std.specs.Str.Parse.{AllDigits}
use Rattle.affinity_mask.specs.Number.{number_value}
use Rattle.text_fields.proofs.number.read_number.Given as goal

abbrev pub invariant-loop-byte : goal.invariant-loop-byte
invariant-loop-byte l = AllDigits 10 (take l.byte-index l.field) × (l.value ≡ number_value (take l.byte-index l.field)) × (l.value ≤ l.most)
