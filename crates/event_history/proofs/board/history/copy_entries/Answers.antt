use Rattle.std.proofs.Common.{◌∙◌, ◌++◌, ◌∷◌, [], List, take, get_or, sym, ap, arith, append_assoc}
use Rattle.std.proofs.lemmas.List.{take_more}
use Rattle.strong_apa.specs.declared.reply.Entry.{Entry}
use Rattle.event_history.proofs.board.history.copy_entries.Goals as goal

pub loop-entry-preserved : goal.loop-entry-preserved
loop-entry-preserved c =
    let i = c.loop-entry.invariant in
    let n = c.loop-entry.entry-index in
    let entry : Entry = c.entry-item.result in (
      c.push_reserved.ensures.items ∙ (λ k. i.0 k ++ (c.copy.ensures ∙ c.entry-item.is) k ∷ [])
          ∙ append_assoc c.reserve.new.self.items (take n c.args.entries.now) (get_or c.args.entries.now n entry ∷ [])
          ∙ ap (λ (l : List Entry). c.reserve.new.self.items ++ l) (sym (take_more c.args.entries.now n entry c.loop-entry-test.true)),
      omega (arith, i.1, c.push_reserved.ensures.len, c.push_reserved.ensures.capacity, c.loop-entry-test.true),
    )
