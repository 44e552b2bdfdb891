use Rattle.std.proofs.Common.{rules, ◌≡◌, ◌≤◌, ap, sym, subst, arith, List, length}
use mathlib.Core.List.{IsPrefix}
use Rattle.strong_apa.specs.declared.reply.Entry.{Entry}
use Rattle.left_right.specs.Sides.{view}
use Rattle.schedule_board.proofs.Prefixes.{prefix_shorter}
use Rattle.schedule_board.proofs.board.Observer.read.Goals.{then-count-self, else-count-self}
use Rattle.schedule_board.proofs.board.Observer.read.Goals as goal

pub returns-clause-told : goal.returns-clause-told
returns-clause-told g c =
    let shown = c.replace_with-shown.result in
    let told = c.args.self.now.told.log in
    let seen : (view c.replace_with-shown.new.dest.place).seen ≡ shown.reached = search rules in
    let count : shown.picture.count ≡ length shown.reached.log = shown.drawn.count in
    let less : length told ≤ length shown.reached.log = elim c.if-count-self.branch [
      | then-count-self w ↦ absurd w.wait_for_ever.ensures
      | else-count-self w ↦ omega (arith, w.if-count-self, count, c.args.self.now.counted)
    ] in
    let this : IsPrefix shown.reached.log c.learn.new.self.log = subst (λ (l : List Entry). IsPrefix l c.learn.new.self.log)
    (ap (λ s. s.log) c.again-both.ensures) c.learn.ensures.2 in
    subst (λ (l : List Entry). IsPrefix told l) (sym (ap (λ s. s.log) seen))
    (prefix_shorter told shown.reached.log c.learn.new.self.log c.learn.ensures.3 this less)
