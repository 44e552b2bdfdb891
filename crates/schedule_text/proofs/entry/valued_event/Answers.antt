use Rattle.std.proofs.Common.{refl, ap, ◌∙◌, inl}
use Rattle.std.proofs.lemmas.Result.{err_from_is_err_and}
use Rattle.text_fields.specs.declared.word.EventWord.TheVariants.{Arrive, Depart, Tick, Offline, Online}
use Rattle.text_fields.specs.EventWord.{word_text}
use Rattle.schedule_text.proofs.Shapes.{arrival_fault, departure_fault, arrival_read, departure_read, no_event}
use Rattle.schedule_text.proofs.entry.valued_event.Goals as goal

pub returns-in_err-known_task-in-Some-Arrive-clause-refused : goal.returns-in_err-known_task-in-Some-Arrive-clause-refused
returns-in_err-known_task-in-Some-Arrive-clause-refused c =
    let p = err_from_is_err_and c.from_residual.result c.from_residual.ensures.1 in
    rw (p.1, p.2) (arrival_fault c.args.version c.args.set.now c.args.word.now c.args.value.now
    c.in_err-known_task-in-Some-Arrive.field-0.0 (c.in-Some-Arrive.ensures ∙ ap word_text c.in-Some-Arrive.field-0-is)
    c.in_err-known_task-in-Some-Arrive.ensures.refused)

pub returns-in_err-known_task-in-Some-Depart-clause-refused : goal.returns-in_err-known_task-in-Some-Depart-clause-refused
returns-in_err-known_task-in-Some-Depart-clause-refused c =
    let p = err_from_is_err_and c.from_residual-in_err-known_task-in-Some-Depart.result
    c.from_residual-in_err-known_task-in-Some-Depart.ensures.1 in
    rw (p.1, p.2) (departure_fault c.args.version c.args.set.now c.args.word.now c.args.value.now
    c.in_err-known_task-in-Some-Depart.field-0.0 (c.in-Some-Depart.ensures ∙ ap word_text c.in-Some-Depart.field-0-is)
    c.in_err-known_task-in-Some-Depart.ensures.refused)

pub returns-in_ok-known_task-in-Some-Arrive-clause-read : goal.returns-in_ok-known_task-in-Some-Arrive-clause-read
returns-in_ok-known_task-in-Some-Arrive-clause-read c =
    arrival_read c.args.version c.args.set.now c.args.word.now c.args.value.now c.in_ok-known_task-in-Some-Arrive.field-0
    (c.in-Some-Arrive.ensures ∙ ap word_text c.in-Some-Arrive.field-0-is) c.in_ok-known_task-in-Some-Arrive.ensures.read

pub returns-in_ok-known_task-in-Some-Depart-clause-read : goal.returns-in_ok-known_task-in-Some-Depart-clause-read
returns-in_ok-known_task-in-Some-Depart-clause-read c =
    departure_read c.args.version c.args.set.now c.args.word.now c.args.value.now c.in_ok-known_task-in-Some-Depart.field-0
    (c.in-Some-Depart.ensures ∙ ap word_text c.in-Some-Depart.field-0-is) c.in_ok-known_task-in-Some-Depart.ensures.read

pub returns-in-None-clause-refused : goal.returns-in-None-clause-refused
returns-in-None-clause-refused c =
    let none = c.in-None.ensures in
    inl (
      refl,
      no_event c.args.version c.args.set.now.processors c.args.word.now c.args.value.now
          (none Arrive, none Depart, none Tick) (none Offline) (none Online),
    )
