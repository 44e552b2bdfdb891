use Rattle.std.proofs.Common.{◌≡◌, ◌<◌, ◌+◌, ℕ, List, [], ◌∷◌, ◌++◌, length, get_or, take, take_all, sym, ◌∙◌, subst, arith, if◌then◌else◌}
use Rattle.std.proofs.lemmas.List.{get_or_default, take_more}
use Rattle.strong_apa.specs.State.{task_on}
use Rattle.strong_apa.proofs.Linked.{linked_number}
use Rattle.sched_core.specs.CoreRows.{RowData, row_at, empty_row, RowChanges, RowsChange, NumbersBecome, came}
use Rattle.sched_core.proofs.RowsChanged.{rows_change-none, rows_change-one, rows_change-then, can_follow-after}
use Rattle.sched_core.proofs.order_rows.follow_chain.Goals as goal

pub loop-p-init : goal.loop-p-init
loop-p-init c = rows_change-none c.args.links.now c.args.rows.now.items c.args.takes.now.items

pub on-requires : goal.on-requires
on-requires c = c.requires.below c.loop-p.p-index 0 (omega arith)

pub index_mut-requires : goal.index_mut-requires
index_mut-requires c =
    let fits = c.requires.below c.loop-p.p-index 0 (omega arith) in
    omega (arith, fits, c.requires.one_each, c.loop-p.invariant.count, c.loop-p.rows.ok.0)

pub change-requires-clause-known : goal.change-requires-clause-known
change-requires-clause-known c = λ t on.
    let number = linked_number c.args.links.now (get_or c.args.chain.now c.loop-p.p-index 0) t c.requires.state
    (sym c.on.ensures.value ∙ on) in
    omega (arith, number, c.requires.number_each, c.loop-p.invariant.takes_more.count, c.loop-p.takes.ok.0)

pub change-requires-clause-can : goal.change-requires-clause-can
change-requires-clause-can c =
    let chain = c.args.chain.now in
    let i = c.loop-p.p-index in
    let p = get_or chain i 0 in
    let now = c.loop-p.rows.items in
    let fits = c.requires.below i 0 (omega arith) in
    let there : p < length now = omega (arith, fits, c.requires.one_each, c.loop-p.invariant.count) in
    let same : c.index_mut.result.now ≡ row_at now p = c.index_mut.ensures.value
    ∙ get_or_default now p c.index_mut.result.now empty_row there in
    rw (same, c.on.ensures.value) ((can_follow-after c.args.links.now chain (take i chain) c.args.rows.now.items now c.args.takes.now.items
    c.loop-p.takes.items c.requires c.loop-p.invariant chain c.requires.below).each p fits)

pub loop-p-preserved : goal.loop-p-preserved
loop-p-preserved c =
    let i = c.loop-p.p-index in
    let chain = c.args.chain.now in
    let p = get_or chain i 0 in
    let low : i < length chain = omega arith in
    let links = c.args.links.now in
    let old = c.args.rows.now.items in
    let takes = c.args.takes.now.items in
    let now = c.loop-p.rows.items in
    let counted = c.loop-p.takes.items in
    let row = c.index_mut.result.now in
    let more : take (i + 1) chain ≡ take i chain ++ p ∷ [] = take_more chain i 0 low in
    let fits = c.requires.below i 0 low in
    let there : p < length now = omega (arith, fits, c.requires.one_each, c.loop-p.invariant.count) in
    let same : row ≡ row_at now p = c.index_mut.ensures.value ∙ get_or_default now p row empty_row there in
    let changes : RowChanges (row_at now p) (λ t. get_or counted t 0) (task_on links p) c.change.new.self = subst
    (λ (r : RowData). RowChanges r (λ t. get_or counted t 0) (task_on links p) c.change.new.self) same
    (rw c.on.ensures.value at c.change.ensures.row) in
    let numbers : NumbersBecome (λ t n. if came t (row_at now p).held (task_on links p) then n + 1 else n)
    counted c.change.new.takes.items = subst
    (λ (r : RowData). NumbersBecome (λ t n. if came t r.held (task_on links p) then n + 1 else n) counted c.change.new.takes.items) same
    (rw c.on.ensures.value at c.change.ensures.takes) in
    rw more (rows_change-then links chain (take i chain) old now takes counted c.requires c.loop-p.invariant (p ∷ [])
    _ c.change.new.takes.items
    (rows_change-one links p now counted c.change.new.self c.change.new.takes.items there changes numbers))

pub returns : goal.returns
returns c =
    let whole : take c.loop-p.p-index c.args.chain.now ≡ c.args.chain.now = take_all c.loop-p.p-index c.args.chain.now (omega arith) in
    subst (λ (chain : List ℕ). RowsChange chain c.args.links.now c.args.rows.now.items c.args.takes.now.items c.loop-p.rows.items
    c.loop-p.takes.items) whole c.loop-p.invariant
