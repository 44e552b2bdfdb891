use Rattle.std.proofs.Common.{◌≡◌, ◌∷◌, arith}
use Rattle.std.specs.Prelude.{codes}
use Rattle.std.proofs.lemmas.Result.{err_from_is_err_and}
use Rattle.strong_apa.specs.declared.reply.Reply.TheVariants.{On}
use Rattle.text_fields.specs.Fields.{texts}
use Rattle.schedule_text.specs.LineFields.{IsGoneFields, IsReplyFields}
use Rattle.schedule_text.proofs.Parts.{same_fault}
use Rattle.schedule_text.proofs.Replies.{on_to, on_from}
use Rattle.schedule_text.proofs.reply.on_reply.Goals as goal

pub returns-in_err-parts-clause-refused : goal.returns-in_err-parts-clause-refused
returns-in_err-parts-clause-refused c =
    let p = err_from_is_err_and c.from_residual.result c.from_residual.ensures.1 in
    let two : c.args.version ≡ 2 = omega arith in
    let rest = texts c.args.rest.now in
    rw (p.1, p.2) (same_fault (IsGoneFields rest) (IsReplyFields c.args.version (codes "on" ∷ rest)) c.args.set.now
    c.in_err-parts.field-0.0 (λ tasks gone f. (On gone, on_to c.args.version two rest tasks gone f))
    (on_from c.args.version rest) c.in_err-parts.ensures.refused)
