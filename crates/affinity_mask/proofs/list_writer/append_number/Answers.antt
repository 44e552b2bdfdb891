use Rattle.std.proofs.Common.{ℕ, List, ◌++◌, sym, ◌∙◌, ap, arith}
use Rattle.affinity_mask.proofs.ListBytes.{one_digit, digits_appended}
use Rattle.affinity_mask.proofs.list_writer.append_number.Goals as goal

pub returns-then-n-lt10-clause-written : goal.returns-then-n-lt10-clause-written
returns-then-n-lt10-clause-written c =
    c.in_ok-push.ensures.items
    ∙ ap (λ (ds : List ℕ). c.args.into.now.items ++ ds) (sym (one_digit c.args.n (omega arith)))

pub returns-clause-written : goal.returns-clause-written
returns-clause-written c =
    digits_appended c.args.n c.args.into.now.items c.push-2.new.self.items c.push-3.new.self.items (omega arith)
    (omega arith) c.in_ok-push-2.ensures.items c.in_ok-push-3.ensures.items
