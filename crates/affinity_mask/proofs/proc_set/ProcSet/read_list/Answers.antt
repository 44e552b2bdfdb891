use Rattle.std.proofs.Common.{arith, ◌≡◌, ◌≢◌, ◌<◌, ◌∙◌, [], Ok, Err, ap, length, refl}
use Rattle.std.proofs.lemmas.Result.{err_from_is_err_and}
use Rattle.affinity_mask.specs.ListFault.{IsListFault}
use Rattle.affinity_mask.proofs.ListTexts.{read_none, read_more, read_all, read_fault, first_piece_is, list_text-one_set}
use Rattle.affinity_mask.proofs.ListTexts.{list_text-one_fault, list_text-no_fault}
use Rattle.affinity_mask.proofs.proc_set.ProcSet.read_list.Goals as goal

pub loop-item-init : goal.loop-item-init
loop-item-init c = ([], rw c.empty-set.ensures (read_none c.args.text.now))

-- the fault of the piece is that of the text
faulty : (c : goal.After-from_residual) → IsListFault c.args.text.now c.in_err-item.field-0.0
faulty c =
    let so_far = c.loop-item.invariant in
    let long : 0 < length c.args.text.now = grind arith in
    let some : c.args.text.now ≢ [] = λ nothing. omega (arith, long, ap length nothing) in
    let first = first_piece_is c.loop-item.rest.now _ c.first_piece.result.1 c.first_piece.ensures.cut in
    read_fault c.args.text.now c.loop-item.rest.now _ first.0 c.loop-item.set _ so_far.0 _ some so_far.1 first.1 refl
    c.in_err-item.ensures.refused

answered : (c : goal.After-from_residual) → c.from_residual.result ≡ Err c.in_err-item.field-0.0
answered c = let p = err_from_is_err_and c.from_residual.result c.from_residual.ensures.1 in p.1 ∙ ap Err p.2

pub returns-in_err-item-clause-refused : goal.returns-in_err-item-clause-refused
returns-in_err-item-clause-refused c = rw (answered c) (faulty c)

pub returns-in_err-item-clause-accepts : goal.returns-in_err-item-clause-accepts
returns-in_err-item-clause-accepts c = λ X list. absurd (list_text-no_fault c.args.text.now X _ list (faulty c))

pub returns-in_err-item-clause-refuses : goal.returns-in_err-item-clause-refuses
returns-in_err-item-clause-refuses c = λ fault found. answered c ∙ ap Err (list_text-one_fault c.args.text.now _ fault (faulty c) found)

pub loop-item-preserved : goal.loop-item-preserved
loop-item-preserved c =
    let so_far = c.loop-item.invariant in
    let cut = rw c.in-Some.is at c.first_piece.ensures.cut in
    let long = rw c.in-Some.is at c.first_piece.ensures.shorter in
    read_more c.args.text.now c.loop-item.rest.now _ _ c.loop-item.set _ c.either_of-set.result so_far.0 so_far.1 cut long
    c.in_ok-item.ensures.read c.either_of-set.ensures

pub returns-in-None-clause-read : goal.returns-in-None-clause-read
returns-in-None-clause-read c =
    let so_far = c.loop-item.invariant in
    let cut = rw c.in-None.is at c.first_piece.ensures.cut in
    read_all c.args.text.now c.loop-item.rest.now _ c.loop-item.set _ c.either_of-set.result so_far.0 so_far.1 cut c.in_ok-item.ensures.read
    c.either_of-set.ensures

pub returns-in-None-clause-accepts : goal.returns-in-None-clause-accepts
returns-in-None-clause-accepts c = λ X list. ap Ok
    (list_text-one_set c.args.text.now c.either_of-set.result X (returns-in-None-clause-read c) list)

pub returns-in-None-clause-refuses : goal.returns-in-None-clause-refuses
returns-in-None-clause-refuses c = λ fault found. absurd
    (list_text-no_fault c.args.text.now c.either_of-set.result fault (returns-in-None-clause-read c) found)
