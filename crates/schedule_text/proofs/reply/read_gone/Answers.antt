use Rattle.std.proofs.Common.{IfErr, subst, ℕ, List}
use Rattle.schedule_text.specs.LineFields.{IsGoneFault}
use Rattle.schedule_text.proofs.FieldLists.{texts_five}
use Rattle.schedule_text.proofs.Arrivals.{five_words}
use Rattle.schedule_text.proofs.reply.read_gone.Goals as goal

pub returns-then-are_gone_words-clause-refused : goal.returns-then-are_gone_words-clause-refused
returns-then-are_gone_words-clause-refused c =
    let same = five_words _ _ _ _ _ _ (texts_five c.args.fields.now _ c.in-len5.len_at_least c.in-len5.len_below)
    (c.are_gone_words.ensures.0 c.if-are_gone_words.true) in
    subst (λ (fields : List (List ℕ)). IfErr c.gone_of.result
    (IsGoneFault fields c.args.set.now)) same c.gone_of.ensures.refused
