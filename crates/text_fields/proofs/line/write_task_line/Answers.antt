use Rattle.text_fields.proofs.Written.{task_written}
use Rattle.text_fields.proofs.line.write_task_line.Goals as goal

pub returns : goal.returns
returns c =
    let name_bytes = rw c.as_bytes.ensures.value at c.in_ok-extend_from_slice-2.ensures.items in
    task_written c.args.name.now c.args.priority c.args.mask.now _ _ _ _ _ _ _ _ c.in_ok-extend_from_slice.ensures.items
    name_bytes c.in_ok-push.ensures.items c.in_ok-write_number.ensures c.in_ok-push-2.ensures.items
    c.in_ok-write_list.ensures.written c.in_ok-push-3.ensures.items
