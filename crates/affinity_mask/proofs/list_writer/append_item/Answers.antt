use Rattle.std.proofs.Common.{◌∙◌, sym, ap, ℕ, Vec, Global, append-nil}
use Rattle.std.proofs.lemmas.Result.{on_ok_weaker}
use Rattle.affinity_mask.proofs.ListBytes.{item_appended}
use Rattle.affinity_mask.proofs.list_writer.append_item.Goals as goal
use Rattle.affinity_mask.proofs.list_writer.append_item.Goals.{then-not-is_first+in_ok-push, else-not-is_first}

pub returns-clause-written : goal.returns-clause-written
returns-clause-written c =
    on_ok_weaker c.append_run.result
    (λ e. e ∙ item_appended c.args.is_first c.args.low c.args.high c.args.into.now.items c.if-not-is_first.into.items
    (elim c.if-not-is_first.branch [
      | then-not-is_first+in_ok-push w ↦ rw w.if-not-is_first.true
          (ap (λ (v : Vec ℕ Global). v.items) w.into-is ∙ w.in_ok-push.ensures.items)
      | else-not-is_first w ↦ rw w.if-not-is_first.false
          (ap (λ (v : Vec ℕ Global). v.items) w.into-is ∙ sym (append-nil c.args.into.now.items))
    ]))
    c.append_run.ensures.written
