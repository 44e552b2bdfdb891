use Rattle.std.proofs.Common.{ℕ, refl}
use Rattle.task_set.specs.Refusal.{IsNameOf}
use Rattle.text_fields.specs.Fields.{texts}
use Rattle.text_fields.proofs.NamedTasks.{named_task}
use Rattle.schedule_text.specs.LineFields.{IsCameFields}
use Rattle.schedule_text.proofs.Names.{set_fields, named_fault}
use Rattle.schedule_text.proofs.Parts.{read_of_both, fault_of_both, fault_alone}
use Rattle.schedule_text.proofs.Replies.{moved_parts, moved_read}
use Rattle.schedule_text.proofs.reply.moved_reply.Goals as goal

pub returns-in-Ok-clause-read : goal.returns-in-Ok-clause-read
returns-in-Ok-clause-read c =
    let set = c.args.set.now in
    let name = c.args.name.now in
    let after = texts c.args.arrival.now in
    let both = read_of_both (λ (t : ℕ). IsNameOf set t name) (IsCameFields after set) c.known_task.result
    c.read_came.result c.in-Ok.task c.in-Ok.came c.in-Ok.ensures c.known_task.ensures.read c.read_came.ensures.read in
    moved_read 2 set name after c.in-Ok.task c.in-Ok.came refl both.0 both.1

pub returns-in-Err-clause-refused : goal.returns-in-Err-clause-refused
returns-in-Err-clause-refused c =
    let set = c.args.set.now in
    let name = c.args.name.now in
    let after = texts c.args.arrival.now in
    fault_of_both (moved_parts 2 set name after refl (set_fields set c.len-valid.ensures.valid))
    (λ (t : ℕ). IsNameOf set t name) (IsCameFields after set) c.known_task.result c.read_came.result
    (λ t called. let named = named_task set t name called in (t, named.0, named.1)) (λ arrival f. (arrival, f))
    c.known_task.ensures.read (fault_alone c.known_task.result (named_fault set name) c.known_task.ensures.refused)
    c.read_came.ensures.read c.read_came.ensures.refused c.in-Err.kind c.in-Err.ensures
