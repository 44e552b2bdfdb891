use Rattle.std.proofs.Common.{sym, ◌∙◌}
use Rattle.std.proofs.lemmas.Bool.{true≢false}
use Rattle.std.proofs.lemmas.Str.{IsUtf8-from_ascii}
use Rattle.std.proofs.lemmas.Str.Ascii.{IsAscii-from_all}
use Rattle.text_fields.proofs.Names.{other_byte_is_new}
use Rattle.text_fields.proofs.name.task_of.Goals as goal

pub returns-then-not-is_ascii : goal.returns-then-not-is_ascii
returns-then-not-is_ascii c =
    other_byte_is_new c.args.set.now c.args.name.now c.len-valid.ensures.valid
    (λ ascii. true≢false (sym (c.is_ascii.ensures.1 ascii) ∙ c.if-not-is_ascii.true))

pub from_utf8_unchecked-requires : goal.from_utf8_unchecked-requires
from_utf8_unchecked-requires c =
    IsUtf8-from_ascii c.args.name.now
    (IsAscii-from_all c.args.name.now (c.is_ascii.ensures.0 c.if-not-is_ascii.false))
