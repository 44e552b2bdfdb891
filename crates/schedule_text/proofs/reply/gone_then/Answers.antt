use Rattle.std.proofs.Common.{sym, ◌∙◌, arith}
use Rattle.std.proofs.lemmas.Bool.{true≢false}
use Rattle.schedule_text.proofs.FieldLists.{other_gone}
use Rattle.schedule_text.proofs.reply.gone_then.Goals as goal

pub returns-else-is_word : goal.returns-else-is_word
returns-else-is_word c =
    other_gone c.args.fields.now _ (omega (arith, c.if-fields-le-GONE_FIELDS.false))
    (λ is. true≢false (sym (c.is_word.ensures.1 is) ∙ c.if-is_word.false))
