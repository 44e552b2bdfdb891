use Rattle.std.proofs.Common.{ℕ, ◌≤◌, length, arith, subst}
use Rattle.trace_losses.specs.Beside.{is_loss}
use Rattle.trace_losses.proofs.Besides.{beside_more, some_units}
use Rattle.trace_losses.proofs.Watches.{most_more}
use Rattle.trace_losses.proofs.beside.Beside.pass.Goals as goal

pub count_all-requires-clause-room : goal.count_all-requires-clause-room
count_all-requires-clause-room c = λ t count is.
    (let some = some_units c.args.units c.units_with_loss-with_loss.result (is_loss c.args.seen.now) c.units_with_loss-with_loss.ensures in
    let most = c.requires.kept t count is in
    omega (arith, some, most, c.requires.room))

pub returns-clause-beside : goal.returns-clause-beside
returns-clause-beside c = λ moments is.
    beside_more moments c.args.self.now.counts.items c.count_all.new.counts.items c.args.units c.units_with_loss-with_loss.result
    c.args.seen.now
    c.units_with_loss-with_loss.ensures c.count_all.ensures is

pub returns-clause-kept : goal.returns-clause-kept
returns-clause-kept c =
    most_more c.args.self.now.counts.items c.count_all.new.counts.items c.args.seen.now c.args.units c.units_with_loss-with_loss.result
    c.args.self.now.moments (length c.args.self.now.counts.items)
    (some_units c.args.units c.units_with_loss-with_loss.result (is_loss c.args.seen.now) c.units_with_loss-with_loss.ensures)
    c.count_all.ensures (omega arith)
    c.requires.kept
