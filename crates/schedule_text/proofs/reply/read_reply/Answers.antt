use Rattle.std.proofs.Common.{refl, sym, ◌∙◌}
use Rattle.std.specs.Prelude.{codes}
use Rattle.std.proofs.lemmas.Bool.{true≢false}
use Rattle.std.proofs.lemmas.Result.{err_from_is_err_and}
use Rattle.schedule_text.proofs.FieldLists.{headed, only_one, more_than_one}
use Rattle.schedule_text.proofs.ReplyFields.{refused_at, read_at, empty_refused, word_read_at, word_refused_at, freed_read, freed_refused}
use Rattle.schedule_text.proofs.ReplyFields.{came_said, came_refused}
use Rattle.schedule_text.proofs.reply.read_reply.Goals as goal

pub returns-in_err-read_gone-clause-refused : goal.returns-in_err-read_gone-clause-refused
returns-in_err-read_gone-clause-refused c =
    let p = err_from_is_err_and c.from_residual.result c.from_residual.ensures.1 in
    rw (p.1, p.2) (freed_refused c.args.version c.args.set.now c.args.fields.now _ c.in_err-read_gone.field-0.0
    c.in-len1-up.len_at_least (c.is_word.ensures.0 c.if-is_word.true) c.in_err-read_gone.ensures.refused)

pub returns-clause-refused : goal.returns-clause-refused
returns-clause-refused c =
    came_refused c.args.version c.args.set.now c.args.fields.now _ c.came_reply.result c.in-len1-up.len_at_least
    (more_than_one c.args.fields.now c.is_empty.result c.is_empty.ensures c.if-is_empty.false) (
      λ is. true≢false (sym (c.is_word.ensures.1 is) ∙ c.if-is_word.false),
      λ is. true≢false (sym (c.is_word-2.ensures.1 is) ∙ c.if-is_word-2.false),
      λ is. true≢false (sym (c.is_word-3.ensures.1 is) ∙ c.if-is_word-3.false),
      λ is. true≢false (sym (c.is_word-4.ensures.1 is) ∙ c.if-is_word-4.false),
    ) c.came_reply.ensures.refused

pub returns-clause-read : goal.returns-clause-read
returns-clause-read c = came_said c.args.version c.args.set.now c.args.fields.now c.came_reply.result c.came_reply.ensures.read

pub returns-then-is_word-2-clause-refused : goal.returns-then-is_word-2-clause-refused
returns-then-is_word-2-clause-refused c =
    refused_at c.args.version c.args.version _ _ c.args.set.now c.on_reply.result refl
    (headed c.args.fields.now _ (codes "on") c.in-len1-up.len_at_least
    (c.is_word-2.ensures.0 c.if-is_word-2.true)) c.on_reply.ensures.refused

pub returns-then-is_word-3-clause-refused : goal.returns-then-is_word-3-clause-refused
returns-then-is_word-3-clause-refused c =
    refused_at c.args.version c.args.version _ _ c.args.set.now c.off_reply.result refl
    (headed c.args.fields.now _ (codes "off") c.in-len1-up.len_at_least
    (c.is_word-3.ensures.0 c.if-is_word-3.true)) c.off_reply.ensures.refused

pub returns-then-is_word-4-clause-refused : goal.returns-then-is_word-4-clause-refused
returns-then-is_word-4-clause-refused c =
    refused_at c.args.version c.args.version _ _ c.args.set.now c.remasked_reply.result refl
    (headed c.args.fields.now _ (codes "remasked") c.in-len1-up.len_at_least
    (c.is_word-4.ensures.0 c.if-is_word-4.true)) c.remasked_reply.ensures.refused

pub returns-in_default-clause-refused : goal.returns-in_default-clause-refused
returns-in_default-clause-refused c = empty_refused c.args.version c.args.set.now c.args.fields.now c.in_default.len_below

pub returns-then-is_empty-clause-read : goal.returns-then-is_empty-clause-read
returns-then-is_empty-clause-read c =
    word_read_at c.args.version c.args.set.now _ _ c.word_reply.result
    (only_one c.args.fields.now _ c.is_empty.result c.in-len1-up.len_at_least c.is_empty.ensures c.if-is_empty.true)
    c.word_reply.ensures

pub returns-then-is_empty-clause-refused : goal.returns-then-is_empty-clause-refused
returns-then-is_empty-clause-refused c =
    word_refused_at c.args.version c.args.set.now _ _ c.word_reply.result
    (only_one c.args.fields.now _ c.is_empty.result c.in-len1-up.len_at_least c.is_empty.ensures c.if-is_empty.true)
    c.word_reply.ensures

pub returns-then-is_word-clause-read : goal.returns-then-is_word-clause-read
returns-then-is_word-clause-read c =
    rw c.from.ensures (freed_read c.args.version c.args.set.now c.args.fields.now _ c.in_ok-read_gone.field-0
    c.in-len1-up.len_at_least (c.is_word.ensures.0 c.if-is_word.true) c.in_ok-read_gone.ensures.read)

pub returns-then-is_word-2-clause-read : goal.returns-then-is_word-2-clause-read
returns-then-is_word-2-clause-read c =
    read_at c.args.version _ _ c.args.set.now c.on_reply.result (headed c.args.fields.now _ (codes "on")
    c.in-len1-up.len_at_least (c.is_word-2.ensures.0 c.if-is_word-2.true)) c.on_reply.ensures.read

pub returns-then-is_word-3-clause-read : goal.returns-then-is_word-3-clause-read
returns-then-is_word-3-clause-read c =
    read_at c.args.version _ _ c.args.set.now c.off_reply.result (headed c.args.fields.now _ (codes "off")
    c.in-len1-up.len_at_least (c.is_word-3.ensures.0 c.if-is_word-3.true)) c.off_reply.ensures.read

pub returns-then-is_word-4-clause-read : goal.returns-then-is_word-4-clause-read
returns-then-is_word-4-clause-read c =
    read_at c.args.version _ _ c.args.set.now c.remasked_reply.result (headed c.args.fields.now _ (codes "remasked")
    c.in-len1-up.len_at_least (c.is_word-4.ensures.0 c.if-is_word-4.true)) c.remasked_reply.ensures.read
