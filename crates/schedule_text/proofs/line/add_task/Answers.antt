use Rattle.std.proofs.Common.{inr, refl, sym, ◌∙◌, arith}
use Rattle.std.proofs.lemmas.Bool.{true≢false}
use Rattle.std.proofs.lemmas.Result.{err_from_is_err_and}
use Rattle.text_fields.proofs.FieldLists.{texts_four}
use Rattle.text_fields.proofs.Names.{name_is_text}
use Rattle.schedule_text.proofs.Tasks.{task_form, not_four, not_begun, list_fault, task_refused}
use Rattle.schedule_text.proofs.line.add_task.Goals.{then-not-is_word-via-then-not-is_word}
use Rattle.schedule_text.proofs.line.add_task.Goals.{then-not-is_word-via-else-not-is_word+then-not-is_field}
use Rattle.schedule_text.proofs.line.add_task.Goals as goal

pub returns-in_err-mask-clause-refused : goal.returns-in_err-mask-clause-refused
returns-in_err-mask-clause-refused c =
    let p = err_from_is_err_and c.from_residual.result c.from_residual.ensures.1 in
    rw (p.1, p.2) (list_fault c.args.set.now _ _ _ _ _ c.in_err-mask.field-0.0
    (texts_four c.args.fields.now _ c.in-len4.len_at_least c.in-len4.len_below) c.in_err-mask.ensures.refused)

pub returns-in_default-from_utf8-clause-refused : goal.returns-in_default-from_utf8-clause-refused
returns-in_default-from_utf8-clause-refused c =
    let four = texts_four c.args.fields.now _ c.in-len4.len_at_least c.in-len4.len_below in
    let form = task_form _ _ _ _ _ _ c.in-Some.priority c.in_ok-mask.mask four refl
    (c.is_word.ensures.0 c.if-not-is_word.false) (c.is_field.ensures.0 c.if-not-is_field.false)
    c.in-Some.ensures c.in_ok-mask.ensures.read in
    inr (inr (_, _, refl, form, λ named. c.in_default-from_utf8.ensures.cases.0 (name_is_text _ named)))

pub returns-in_err-add-clause-refused : goal.returns-in_err-add-clause-refused
returns-in_err-add-clause-refused c =
    let p = err_from_is_err_and c.from_residual-in_err-add.result c.from_residual-in_err-add.ensures.1 in
    let four = texts_four c.args.fields.now _ c.in-len4.len_at_least c.in-len4.len_below in
    let form = task_form _ _ _ _ _ c.in-Ok.name.now c.in-Some.priority c.in_ok-mask.mask four
    c.in-Ok.ensures.cases.0 (c.is_word.ensures.0 c.if-not-is_word.false)
    (c.is_field.ensures.0 c.if-not-is_field.false) c.in-Some.ensures c.in_ok-mask.ensures.read in
    rw (p.1, p.2) (task_refused c.args.set.now _ _ c.in_err-add.field-0.0 form c.in_err-add.ensures.refused)

pub returns-in_default-clause-refused : goal.returns-in_default-clause-refused
returns-in_default-clause-refused c =
    not_four c.args.set.now c.args.fields.now (λ four. omega (arith, four, c.in_default.len_below))

pub returns-in_default-2-clause-refused : goal.returns-in_default-2-clause-refused
returns-in_default-2-clause-refused c =
    not_four c.args.set.now c.args.fields.now (λ four. omega (arith, four, c.in_default.len_at_least))

pub returns-then-not-is_word-clause-refused : goal.returns-then-not-is_word-clause-refused
returns-then-not-is_word-clause-refused c =
    not_begun c.args.set.now _ _ _ _ _ (texts_four c.args.fields.now _ c.in-len4.len_at_least c.in-len4.len_below)
    (λ priority start. elim c.then-not-is_word.branch [
      | then-not-is_word-via-then-not-is_word w ↦ true≢false (sym (c.is_word.ensures.1 start.is_word) ∙ w.if-not-is_word.true)
      | then-not-is_word-via-else-not-is_word+then-not-is_field w ↦
          true≢false (sym (w.is_field.ensures.1 start.is_name) ∙ w.if-not-is_field.true)
    ])

pub returns-in_default-number_of-clause-refused : goal.returns-in_default-number_of-clause-refused
returns-in_default-number_of-clause-refused c =
    not_begun c.args.set.now _ _ _ _ _ (texts_four c.args.fields.now _ c.in-len4.len_at_least c.in-len4.len_below)
    (λ priority start. c.in_default-number_of.ensures priority start.is_number)

pub returns-clause-read : goal.returns-clause-read
returns-clause-read c =
    let four = texts_four c.args.fields.now _ c.in-len4.len_at_least c.in-len4.len_below in
    let form = task_form _ _ _ _ _ c.in-Ok.name.now c.in-Some.priority c.in_ok-mask.mask four
    c.in-Ok.ensures.cases.0 (c.is_word.ensures.0 c.if-not-is_word.false)
    (c.is_field.ensures.0 c.if-not-is_field.false) c.in-Some.ensures c.in_ok-mask.ensures.read in
    record { task = _; form = form; allowed = c.in_ok-add.ensures.added.allowed; last = c.in_ok-add.ensures.added.last }
