use Rattle.schedule_text.proofs.Written.{displaced_written}
use Rattle.schedule_text.proofs.write.write_displaced.Goals as goal

pub returns : goal.returns
returns c =
    displaced_written c.args.set.now c.args.chain.now c.args.out c.args.reach.now _ _ _ _ _ _ _ _
    c.in_ok-write_word.ensures c.in_ok-write_chain.ensures c.in_ok-write_word-2.ensures
    c.in_ok-write_name.ensures c.in_ok-write_word-3.ensures c.write_set.ensures
