use Rattle.strong_apa.specs.declared.reply.Reply.TheVariants.{Waits}
use Rattle.text_fields.specs.Fields.{texts}
use Rattle.schedule_text.specs.LineFields.{IsReplyFields}
use Rattle.schedule_text.proofs.Entries.{reply_listed}
use Rattle.schedule_text.proofs.entry.add_reply.Goals as goal

pub returns-in-Some-clause-read : goal.returns-in-Some-clause-read
returns-in-Some-clause-read c =
    reply_listed c.list-in-Some.result c.args.entries.now.items c.list-in-Some.new.entries.items c.args.caller c.args.event
    (Waits c.in-Some.reach) (IsReplyFields c.args.version (texts c.args.fields.now) c.args.set.now)
    c.list-in-Some.ensures.listed (c.in-Some.ensures c.args.version c.args.set.now)
