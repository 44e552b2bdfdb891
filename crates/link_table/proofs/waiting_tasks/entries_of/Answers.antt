use Rattle.std.proofs.Common.{◌∙◌, ap, length, refl, arith}
use Rattle.std.proofs.lemmas.List.{length_push}
use Rattle.link_table.proofs.Urgent.{entries_more, each_more, numbered_more}
use Rattle.link_table.proofs.waiting_tasks.entries_of.Goals as goal

pub loop-t-preserved : goal.loop-t-preserved
loop-t-preserved c = record {
  all = entries_more c.args.by_task.now c.loop-t.entries.items _ c.loop-t.t _ (omega arith)
      refl c.in_ok-push.ensures.items c.loop-t.invariant.all;
  each = each_more c.args.by_task.now c.loop-t.entries.items _ c.loop-t.t _ refl c.in_ok-push.ensures.items c.loop-t.invariant.each;
  count = let n = ap length c.in_ok-push.ensures.items ∙ length_push c.loop-t.entries.items _ in let before = c.loop-t.invariant.count in
      omega arith;
  numbered = numbered_more c.loop-t.entries.items _ _ c.loop-t.t c.loop-t.invariant.count refl c.in_ok-push.ensures.items
      c.loop-t.invariant.numbered;
}
