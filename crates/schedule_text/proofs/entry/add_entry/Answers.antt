use Rattle.std.proofs.Common.{refl, sym, subst, inl, inr, ◌≡◌, ◌⊎◌, ◌∷◌, ◌++◌, ℕ, List, Result, Ok, Err, IfOk, IfErr}
use Rattle.text_fields.specs.Fields.{texts}
use Rattle.task_set.specs.TaskSet.{SetData, IsTaskSet}
use Rattle.task_set.specs.declared.event.Event.{Event}
use Rattle.strong_apa.specs.declared.reply.Reply.{Reply}
use Rattle.schedule_text.specs.declared.fault.TextKind.{TextKind}
use Rattle.schedule_text.specs.Fields.{IsNumberField}
use Rattle.schedule_text.specs.Reading.{IsOutOfMemory}
use Rattle.schedule_text.specs.LineFields.{IsEventFields, IsEventFault, IsEventSize, IsReplyFields, IsReplyFault, IsEntryFault, both_of}
use Rattle.text_fields.proofs.FieldLists.{texts_first_one}
use Rattle.schedule_text.proofs.Parts.{fault_of_both, fault_first, fault_second}
use Rattle.schedule_text.proofs.Entries.{entry_cut, entry_parts, entry_listed}
use Rattle.schedule_text.proofs.entry.add_entry.Goals as goal

-- the fault of the event or of the reply is that of the entry
entry_fault : (version : ℕ) (set : SetData) (number : List ℕ) (fields event reply : List (List ℕ)) (stream : ℕ)
    (first : Result Event TextKind) (second : Result Reply TextKind) (kind : TextKind) → IsTaskSet set
    → IsNumberField 0 15 number stream → IsEventSize event → fields ≡ number ∷ (event ++ reply)
    → IfOk first (IsEventFields version set.processors event set) → IfErr first (IsEventFault version event set)
    → IfOk second (IsReplyFields version reply set) → IfErr second (IsReplyFault version reply set)
    → Err kind ≡ both_of first second → IsEntryFault version fields set kind
entry_fault version set number fields event reply stream first second kind valid s size cut read refused read' refused' is =
    subst (λ (all : List (List ℕ)). IsEntryFault version all set kind) (sym cut)
    (fault_of_both (entry_parts version set number event reply stream valid s size)
    (IsEventFields version set.processors event set) (IsReplyFields version reply set) first second (λ e f. (e, f))
    (λ r f. (r, f)) read refused read' refused' kind is)

-- the same of the reply, where the event was read
reply_fault : {U : Type 0} (version : ℕ) (set : SetData) (number : List ℕ) (fields event reply : List (List ℕ)) (stream : ℕ)
    (first : Result Event TextKind) (e : Event) (result : Result U TextKind) → IsTaskSet set → IsNumberField 0 15 number stream
    → IsEventSize event → fields ≡ number ∷ (event ++ reply) → first ≡ Ok e
    → IfOk first (IsEventFields version set.processors event set) → IfErr first (IsEventFault version event set)
    → IfErr result (λ kind. IsOutOfMemory kind ⊎ IsReplyFault version reply set kind)
    → IfErr result (λ kind. IsOutOfMemory kind ⊎ IsEntryFault version fields set kind)
reply_fault version set number fields event reply stream first e (Ok u) valid s size cut is read refused fault = tt
reply_fault version set number fields event reply stream first e (Err kind) valid s size cut is read refused (inl none) = inl none
reply_fault version set number fields event reply stream first e (Err kind) valid s size cut is read refused (inr fault) =
    inr (entry_fault version set number fields event reply stream first (Err kind) kind valid s size cut read refused tt fault
    (fault_second first (Err kind) e kind is refl))

pub returns-in-Ok-clause-read : goal.returns-in-Ok-clause-read
returns-in-Ok-clause-read c =
    let event = texts c.in-Some-event_then.event.now in
    let reply = texts c.in-Some-event_then.reply.now in
    let cut = texts_first_one c.args.fields.now _ c.in-len1-up.len_at_least in
    entry_listed c.args.version c.args.set.now _ event reply (texts c.args.fields.now) c.in-Some.stream c.in-Ok.event
    c.args.entries.now.items c.add_reply.new.entries.items c.add_reply.result
    (entry_cut _ _ _ event reply cut c.in-Some-event_then.ensures) c.in-Some.ensures c.in-Ok.ensures.read
    c.add_reply.ensures.read

pub returns-in-Ok-clause-refused : goal.returns-in-Ok-clause-refused
returns-in-Ok-clause-refused c =
    let event = texts c.in-Some-event_then.event.now in
    let reply = texts c.in-Some-event_then.reply.now in
    let cut = texts_first_one c.args.fields.now _ c.in-len1-up.len_at_least in
    reply_fault c.args.version c.args.set.now _ (texts c.args.fields.now) event reply c.in-Some.stream c.read_event.result
    c.in-Ok.event c.add_reply.result c.len-valid.ensures.valid c.in-Some.ensures c.in-Some-event_then.ensures.size
    (entry_cut _ _ _ event reply cut c.in-Some-event_then.ensures) c.in-Ok.is c.read_event.ensures.read
    c.read_event.ensures.refused c.add_reply.ensures.refused

pub returns-in-Err-clause-refused : goal.returns-in-Err-clause-refused
returns-in-Err-clause-refused c =
    let event = texts c.in-Some-event_then.event.now in
    let reply = texts c.in-Some-event_then.reply.now in
    let cut = texts_first_one c.args.fields.now _ c.in-len1-up.len_at_least in
    inr (entry_fault c.args.version c.args.set.now _ (texts c.args.fields.now) event reply c.in-Some.stream
    c.read_event.result c.read_reply.result c.fault_with.result c.len-valid.ensures.valid c.in-Some.ensures
    c.in-Some-event_then.ensures.size (entry_cut _ _ _ event reply cut c.in-Some-event_then.ensures)
    c.read_event.ensures.read c.read_event.ensures.refused c.read_reply.ensures.read c.read_reply.ensures.refused
    (fault_first c.read_event.result c.read_reply.result c.in-Err.kind c.fault_with.result c.in-Err.is c.fault_with.ensures))
