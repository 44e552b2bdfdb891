use Rattle.std.proofs.Common.{◌≡◌, ℕ, ◌<◌, length, Some, refl, sym, arith}
use Rattle.std.specs.Prelude.{slice_get}
use Rattle.std.proofs.lemmas.Option.{slice_get_read}
use Rattle.trace_losses.proofs.WatchLists.{one_passed, can_now}
use Rattle.trace_losses.proofs.watch.pass_all.Goals as goal

pub go_on-requires : goal.go_on-requires
go_on-requires c =
    let old = c.args.watches.now.items in
    let now = c.loop-t.watches.items in
    let t = c.loop-t.t in
    let same = c.loop-t.invariant.same in
    let below : t < length now = omega (arith, same) in
    let is : slice_get now t ≡ Some c.index_mut.result.now =
    slice_get_read now (length now) t c.index_mut.result.now refl below c.index_mut.ensures.value in
    c.requires t c.index_mut.result.now
    (can_now c.args.units c.args.seen.now old now t c.index_mut.result.now c.requires c.loop-t.invariant is)

pub loop-t-preserved : goal.loop-t-preserved
loop-t-preserved c =
    let old = c.args.watches.now.items in
    let now = c.loop-t.watches.items in
    let t = c.loop-t.t in
    let same = c.loop-t.invariant.same in
    let below : t < length now = omega (arith, same) in
    let is : slice_get now t ≡ Some c.index_mut.result.now =
    slice_get_read now (length now) t c.index_mut.result.now refl below c.index_mut.ensures.value in
    one_passed c.args.units c.args.seen.now old now t c.index_mut.result.now c.go_on.new.self c.loop-t.invariant is c.go_on.ensures
