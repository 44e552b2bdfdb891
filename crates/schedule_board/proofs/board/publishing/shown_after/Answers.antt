use Rattle.std.proofs.Common.{◌≡◌, ◌+◌, List, [], ◌∷◌, ◌++◌, take, sym, ap, ◌∙◌, subst, arith, append_assoc}
use Rattle.std.proofs.lemmas.List.{take_more}
use Rattle.strong_apa.specs.declared.reply.Entry.{Entry}
use Rattle.schedule_board.specs.Pictures.{IsPictureOf}
use Rattle.schedule_board.proofs.board.publishing.shown_after.Goals as goal

pub loop-entry-preserved : goal.loop-entry-preserved
loop-entry-preserved c =
    let m = c.args.shown.now.picture.occupants.processors in
    let log = c.args.shown.now.reached.log in
    let more = c.args.more.now in
    let i = c.loop-entry.entry-index in
    let entry = c.entry-item.result in
    let one : take (i + 1) more ≡ take i more ++ entry ∷ [] =
    take_more more i entry (omega arith) ∙ ap (λ (e : Entry). take i more ++ e ∷ []) (sym c.entry-item.is) in
    let whole : (log ++ take i more) ++ entry ∷ [] ≡ log ++ take (i + 1) more =
    append_assoc log (take i more) (entry ∷ []) ∙ ap (λ (l : List Entry). log ++ l) (sym one) in
    subst (λ (l : List Entry). IsPictureOf m l c.follow.new.self) whole
    (c.follow.ensures.drawn m (log ++ take i more) c.loop-entry.invariant)
