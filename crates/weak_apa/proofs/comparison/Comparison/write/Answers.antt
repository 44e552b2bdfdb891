use Rattle.weak_apa.proofs.Written.{line_written}
use Rattle.weak_apa.proofs.comparison.Comparison.write.Goals as goal

pub returns : goal.returns
returns c =
    line_written c.args.set.now c.args.self.now c.from.result c.from-2.result _ _ _ _ _ _ _ c.from.ensures c.from-2.ensures
    c.in_ok-write_number.ensures c.in_ok-push.ensures.items
    c.in_ok-write_number-2.ensures c.in_ok-push-2.ensures.items c.in_ok-write_name_or_dash.ensures c.in_ok-push-3.ensures.items
