use Rattle.schedule_text.proofs.Written.{context_written}
use Rattle.schedule_text.proofs.write.write_context.Goals as goal

pub returns : goal.returns
returns c =
    context_written c.args.set.now c.args.context.now _ _ _ _ _ _ _ _ _ c.in_ok-write_name.ensures
    c.in_ok-write_labelled_number.ensures c.in_ok-write_labelled_number-2.ensures
    c.in_ok-write_labelled_number-3.ensures
    c.in_ok-write_word.ensures c.in_ok-write_number_or_dash.ensures c.in_ok-write_labelled_number-4.ensures
    c.in_ok-push.ensures.items
