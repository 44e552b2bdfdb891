use Rattle.std.proofs.Common.{inl, ap}
use Rattle.std.proofs.lemmas.Result.{err_from_is_err_and}
use Rattle.text_fields.specs.Fields.{texts}
use Rattle.text_fields.specs.Machine.{Leads}
use Rattle.schedule_text.specs.LineOutcome.{IsEntryOutcome}
use Rattle.schedule_text.specs.Prefix.{EntriesExpected}
use Rattle.schedule_text.proofs.Stages.{at_fields, entry_refused}
use Rattle.schedule_text.proofs.stage.list_entry.Goals as goal

pub returns-in_err-add_entry-clause-refused : goal.returns-in_err-add_entry-clause-refused
returns-in_err-add_entry-clause-refused c =
    let p = err_from_is_err_and c.from_residual-in_err-add_entry.result c.from_residual-in_err-add_entry.ensures.1 in
    rw (p.1, p.2) (λ count room. entry_refused c.args.version c.args.set.now count c.args.entries.now.items
    (texts c.in_ok-fields.fields.now) c.args.text.now c.in_err-add_entry.field-0.0
    c.in_ok-fields.ensures room c.in_err-add_entry.ensures.refused)

pub returns-clause-read : goal.returns-clause-read
returns-clause-read c count room =
    let added = c.in_ok-add_entry.ensures.read in
    inl (
      room,
      at_fields (IsEntryOutcome c.args.version c.args.set.now count c.args.entries.now.items) _ _ _ c.in_ok-fields.ensures
          (inl (added.0, added.2, ap (λ entries. Leads (EntriesExpected c.args.version c.args.set.now count entries)) added.1)),
    )
