use Rattle.std.proofs.Common.{ap, ◌∙◌, ◌++◌, ℕ, List}
use Rattle.text_fields.proofs.NamedTasks.{named_task}
use Rattle.text_fields.proofs.name.write_name.Goals as goal

pub returns : goal.returns
returns c =
    let bytes = rw c.as_bytes.ensures.value at c.in_ok-extend_from_slice.ensures.items in
    bytes ∙ ap (λ (name : List ℕ). c.args.text.now.items ++ name)
    (named_task c.args.set.now c.args.t c.name.result.now c.name.ensures).1
