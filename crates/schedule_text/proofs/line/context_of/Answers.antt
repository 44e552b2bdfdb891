use Rattle.std.proofs.Common.{sym, ◌∙◌}
use Rattle.std.proofs.lemmas.Bool.{true≢false}
use Rattle.text_fields.proofs.NamedTasks.{named_task}
use Rattle.schedule_text.proofs.Contexts.{eleven_said, eleven_named, context_read, wide}
use Rattle.schedule_text.proofs.line.context_of.Goals as goal

pub returns-in_err-units : goal.returns-in_err-units
returns-in_err-units c =
    rw c.from_residual.ensures (λ context f. let said = eleven_said c.args.set.now c.args.t c.args.fields.now _ context
    c.in-len11.len_at_least c.in-len11.len_below f in
    c.in_err-units.ensures context.units (wide _ context.units f.of_task.units said.units_are))

pub returns-in_err-stints : goal.returns-in_err-stints
returns-in_err-stints c =
    rw c.from_residual-in_err-stints.ensures (λ context f. let said = eleven_said c.args.set.now c.args.t c.args.fields.now _ context
    c.in-len11.len_at_least c.in-len11.len_below f in
    c.in_err-stints.ensures context.stints (wide _ context.stints f.of_task.stints said.stints_are))

pub returns-in_err-moves : goal.returns-in_err-moves
returns-in_err-moves c =
    rw c.from_residual-in_err-moves.ensures (λ context f. let said = eleven_said c.args.set.now c.args.t c.args.fields.now _ context
    c.in-len11.len_at_least c.in-len11.len_below f in
    c.in_err-moves.ensures context.moves (wide _ context.moves f.of_task.moves said.moves_are))

pub returns-in_err-last : goal.returns-in_err-last
returns-in_err-last c =
    rw c.from_residual-in_err-last.ensures (λ context f. let said = eleven_said c.args.set.now c.args.t c.args.fields.now _ context
    c.in-len11.len_at_least c.in-len11.len_below f in
    c.in_err-last.ensures context.last (record { processor = f.of_task.last; is_text = said.last_is }))

pub returns-in_err-trail : goal.returns-in_err-trail
returns-in_err-trail c =
    rw c.from_residual-in_err-trail.ensures (λ context f. let said = eleven_said c.args.set.now c.args.t c.args.fields.now _ context
    c.in-len11.len_at_least c.in-len11.len_below f in
    c.in_err-trail.ensures context.trail (wide _ context.trail f.of_task.trail said.trail_is))

pub returns-then-not-is_word : goal.returns-then-not-is_word
returns-then-not-is_word c = λ context f.
    let named = eleven_named c.args.set.now c.args.t c.args.fields.now _ context
    c.in-len11.len_at_least c.in-len11.len_below f in
    let called = (named_task c.args.set.now c.args.t c.name.result.now c.name.ensures).1 in
    true≢false (sym (c.is_word.ensures.1 (named.0 ∙ sym called)) ∙ c.if-not-is_word.true)

pub returns-then-not-are_context_words : goal.returns-then-not-are_context_words
returns-then-not-are_context_words c = λ context f.
    let named = eleven_named c.args.set.now c.args.t c.args.fields.now _ context
    c.in-len11.len_at_least c.in-len11.len_below f in
    true≢false (sym (c.are_context_words.ensures.1 named.1) ∙ c.if-not-are_context_words.true)

pub returns : goal.returns
returns c =
    context_read c.args.set.now c.args.t c.args.fields.now _ c.in_ok-units.units c.in_ok-stints.stints c.in_ok-moves.moves
    c.in_ok-trail.trail c.in_ok-last.last c.in-len11.len_at_least c.in-len11.len_below
    (c.is_word.ensures.0 c.if-not-is_word.false
    ∙ (named_task c.args.set.now c.args.t c.name.result.now c.name.ensures).1)
    (c.are_context_words.ensures.0 c.if-not-are_context_words.false) c.in_ok-units.ensures c.in_ok-stints.ensures
    c.in_ok-moves.ensures c.in_ok-last.ensures c.in_ok-trail.ensures
