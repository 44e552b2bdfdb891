use Rattle.history_laws.proofs.LegalNames.{legal_names}
use Rattle.replay.proofs.ContextLists.{contexts_known}
use Rattle.task_set.specs.Event.{IsOfVersion}
use Rattle.trace_reader.specs.declared.posted.Posted.{Posted}
use Rattle.strong_apa.specs.State.{start_of}
use Rattle.strong_apa.proofs.Versions.{legal_has_version}
use Rattle.replay.proofs.MergedCounts.{about_merged, merge_posted}
use Rattle.command_line.proofs.replayed.text_of_replay.Goals as goal

pub write_schedule-requires-clause-version : goal.write_schedule-requires-clause-version
write_schedule-requires-clause-version c = rw c.version.ensures.value c.version.ensures.valid.version

pub write_schedule-requires-clause-of_version : goal.write_schedule-requires-clause-of_version
write_schedule-requires-clause-of_version c =
    let input = c.args.input.now in
    let history = c.args.history.now in
    let version = input.version in
    let of_events =
    merge_posted (λ (posted : Posted). IsOfVersion version posted.event) input.events history c.set.ensures.valid.of_version
    c.requires.merge in
    let of_entries = legal_has_version version (start_of input.set) history c.requires.legal of_events in
    rw c.version.ensures.value
    (λ k d within. record { event = (of_entries k d within).0; reply = (of_entries k d within).1 })

pub write_schedule-requires-clause-entries : goal.write_schedule-requires-clause-entries
write_schedule-requires-clause-entries c =
    let input = c.args.input.now in
    let history = c.args.history.now in
    let valid = c.set.ensures.valid in
    let names = legal_names input.set history valid.valid c.requires.legal in
    let about = about_merged input.set input.events history valid.each_event c.requires.merge in
    rw c.set.ensures.value
    (λ k d within. record { event = about k d within; reply = names k d within })

pub write_schedule-requires-clause-contexts : goal.write_schedule-requires-clause-contexts
write_schedule-requires-clause-contexts c =
    rw c.set.ensures.value (contexts_known c.args.input.now.set c.args.history.now _ _ c.requires.contexts)
