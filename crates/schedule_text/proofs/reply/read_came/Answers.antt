use Rattle.std.proofs.Common.{IfOk, IfErr, inl, refl, sym, ◌∙◌, subst, ℕ, List}
use Rattle.std.proofs.lemmas.Bool.{true≢false}
use Rattle.schedule_text.specs.LineFields.{IsCameFields, IsCameFault}
use Rattle.text_fields.proofs.FieldLists.{texts_two}
use Rattle.schedule_text.proofs.FieldLists.{texts_six}
use Rattle.schedule_text.proofs.Arrivals.{two_read, two_refused, six_words, six_none}
use Rattle.schedule_text.proofs.reply.read_came.Goals as goal

pub returns-clause-refused : goal.returns-clause-refused
returns-clause-refused c =
    let same = six_words _ _ _ _ _ _ _ (texts_six c.args.fields.now _ c.in-len6.len_at_least c.in-len6.len_below)
    (c.is_displaced.ensures.0 c.if-not-is_displaced.false) in
    subst (λ (fields : List (List ℕ)). IfErr c.displaced.result
    (IsCameFault fields c.args.set.now)) same
    c.displaced.ensures.refused

pub returns-clause-read : goal.returns-clause-read
returns-clause-read c =
    let same = six_words _ _ _ _ _ _ _ (texts_six c.args.fields.now _ c.in-len6.len_at_least c.in-len6.len_below)
    (c.is_displaced.ensures.0 c.if-not-is_displaced.false) in
    subst (λ (fields : List (List ℕ)). IfOk c.displaced.result
    (IsCameFields fields c.args.set.now)) same
    c.displaced.ensures.read

pub returns-then-not-is_displaced-clause-refused : goal.returns-then-not-is_displaced-clause-refused
returns-then-not-is_displaced-clause-refused c =
    inl (
      refl,
      six_none _ _ _ _ _ _ _ (texts_six c.args.fields.now _ c.in-len6.len_at_least c.in-len6.len_below)
          (λ words. true≢false (sym (c.is_displaced.ensures.1 words) ∙ c.if-not-is_displaced.true)),
    )

pub returns-in-len2-clause-read : goal.returns-in-len2-clause-read
returns-in-len2-clause-read c =
    two_read c.args.set.now _ _ _ c.valued_came.result
    (texts_two c.args.fields.now _ c.in-len2.len_at_least c.in-len2.len_below) c.valued_came.ensures.read

pub returns-in-len2-clause-refused : goal.returns-in-len2-clause-refused
returns-in-len2-clause-refused c =
    two_refused c.args.set.now _ _ _ c.valued_came.result
    (texts_two c.args.fields.now _ c.in-len2.len_at_least c.in-len2.len_below) c.valued_came.ensures.refused
