use Rattle.std.proofs.Common.{◌≡◌, ◌+◌, ◌-◌, List, [], ◌∷◌, ◌++◌, map, sym, ap, ◌∙◌, subst, arith, append_assoc, append-nil}
use Rattle.kernel_trace.specs.declared.loss_text.ThreadRow.{ThreadRow}
use Rattle.commands.specs.LostThreads.{IsMost, NoneRan, rested, AreMost}
use Rattle.commands.proofs.LostThreads.{one_named, none_named, all_named}
use Rattle.commands.proofs.lost_threads.most_of.Goals as goal

pub loop-done-preserved : goal.loop-done-preserved
loop-done-preserved c = λ rest are.
    let row : ThreadRow = c.in-Some.row in
    let left : List ThreadRow = c.loop-done.left.items in
    let named : List ThreadRow = c.loop-done.named.items in
    let is : IsMost left row = rw c.deref.ensures.value at c.in-Some.ensures in
    let rows : AreMost (10 - (c.loop-done.done + 1)) (map (rested row.id) left) rest =
    subst (λ (rows : List ThreadRow). AreMost (10 - (c.loop-done.done + 1)) rows rest) c.rest.ensures are in
    let put : named ++ row ∷ rest ≡ c.push.new.self.items ++ rest =
    sym (ap (λ (list : List ThreadRow). list ++ rest) c.in_ok-push.ensures.items ∙ append_assoc named (row ∷ []) rest) in
    subst (AreMost 10 c.args.rows.items) put
    (c.loop-done.invariant (row ∷ rest) (one_named c.loop-done.done left rest row c.loop-done-test.true is rows))

pub returns-in_default : goal.returns-in_default
returns-in_default c =
    let left : List ThreadRow = c.loop-done.left.items in
    let none : NoneRan left = rw c.deref.ensures.value at c.in_default.ensures in
    subst (AreMost 10 c.args.rows.items) (append-nil c.loop-done.named.items)
    (c.loop-done.invariant [] (none_named c.loop-done.done left c.loop-done-test.true none))

pub returns : goal.returns
returns c =
    let past = c.loop-done-test.false in
    subst (AreMost 10 c.args.rows.items) (append-nil c.loop-done.named.items)
    (c.loop-done.invariant [] (all_named c.loop-done.done c.loop-done.left.items (omega (arith, past))))
