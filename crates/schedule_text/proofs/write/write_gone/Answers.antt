use Rattle.schedule_text.proofs.Written.{gone_written}
use Rattle.schedule_text.proofs.write.write_gone.Goals as goal

pub returns : goal.returns
returns c =
    gone_written c.args.set.now c.args.word.now c.args.entered c.args.chain.now c.args.back.now _ _ _ _ _ _ _ _
    c.in_ok-write_word.ensures c.in_ok-write_chain.ensures c.in_ok-write_word-2.ensures
    c.in_ok-write_name_or_dash.ensures c.in_ok-write_word-3.ensures c.write_set.ensures
