use Rattle.std.proofs.Common.{◌≡◌, arith}
use Rattle.schedule_text.proofs.ReplyFields.{refused_at, off_cut}
use Rattle.schedule_text.proofs.reply.off_reply.Goals as goal

pub returns-then-is_word-2-clause-refused : goal.returns-then-is_word-2-clause-refused
returns-then-is_word-2-clause-refused c =
    let two : 2 ≡ c.args.version = omega arith in
    refused_at 2 c.args.version _ _ c.args.set.now c.moved_reply.result two
    (off_cut c.args.rest.now _ c.in-len2-up.len_at_least (c.is_word-in-len2-up.ensures.0 c.if-is_word-2.true))
    c.moved_reply.ensures.refused
