use Rattle.std.proofs.Common.{◌≡◌, refl, sym, ◌∙◌, inr, IsTrue, Some}
use Rattle.std.proofs.lemmas.Bool.{and_parts}
use Rattle.affinity_mask.specs.ProcSet.{has}
use Rattle.strong_apa.specs.State.{effective_mask, task_on}
use Rattle.strong_apa.proofs.Linked.{linked_number}
use Rattle.weak_apa.proofs.Looking.{own_occupied, kept_out_by_none, kept_out_by_least}
use Rattle.weak_apa.proofs.Placing.{stable_on_idle, stable_displacing, stable_waiting}
use Rattle.weak_apa.proofs.arrival.take_turn.Goals as goal

pub returns-in-Some-clause-next : goal.returns-in-Some-clause-next
returns-in-Some-clause-next c =
    let s = c.args.links.now in
    let x = c.args.x in
    let p = c.in-Some.p in
    let waits = c.requires.waits in
    let parts = and_parts (has c.effective-own.result p) (has c.idle.result p)
    (sym (c.both.ensures.contents p) ∙ c.in-Some.ensures.least.0) in
    let there : IsTrue (has (effective_mask s x) p) = rw c.effective-own.ensures.value at parts.0 in
    rw c.go_on.ensures.goes (stable_on_idle s c.idle.ensures.valid x p waits.waits there waits.others
    ((c.idle.ensures.contents p).0 parts.1).1)

-- nobody is on the effective mask, which has no idle processor: it is empty
pub returns-in_default-least_urgent_on-clause-turn : goal.returns-in_default-least_urgent_on-clause-turn
returns-in_default-least_urgent_on-clause-turn c =
    let occupied = own_occupied c.args.links.now c.args.x c.effective-own.result c.idle.result c.both.result c.effective-own.ensures.value
    c.idle.ensures.contents c.both.ensures.contents (c.in_default.ensures.none.0 refl) in
    inr (
      kept_out_by_none c.args.links.now c.args.x occupied
          (rw c.effective-own.ensures.value at c.in_default-least_urgent_on.ensures.test),
      refl,
    )

pub returns-in_default-least_urgent_on-clause-next : goal.returns-in_default-least_urgent_on-clause-next
returns-in_default-least_urgent_on-clause-next c =
    let occupied = own_occupied c.args.links.now c.args.x c.effective-own.result c.idle.result c.both.result c.effective-own.ensures.value
    c.idle.ensures.contents c.both.ensures.contents (c.in_default.ensures.none.0 refl) in
    stable_waiting c.args.links.now c.args.x c.requires.waits.others
    (kept_out_by_none c.args.links.now c.args.x occupied
    (rw c.effective-own.ensures.value at c.in_default-least_urgent_on.ensures.test))

pub priority-requires-2 : goal.priority-requires-2
priority-requires-2 c =
    linked_number c.args.links.now _ c.in-Some-least_urgent_on.out c.idle.ensures.valid c.in-Some-least_urgent_on.ensures.test.there.2

-- the least urgent task there is more urgent than x
pub returns-then-priority-clause-turn : goal.returns-then-priority-clause-turn
returns-then-priority-clause-turn c =
    let occupied = own_occupied c.args.links.now c.args.x c.effective-own.result c.idle.result c.both.result c.effective-own.ensures.value
    c.idle.ensures.contents c.both.ensures.contents (c.in_default.ensures.none.0 refl) in
    inr (
      kept_out_by_least c.args.links.now c.args.x c.idle.ensures.valid c.requires.waits.waits c.requires.waits.number occupied
          c.in-Some-least_urgent_on.out (rw c.effective-own.ensures.value at c.in-Some-least_urgent_on.ensures.test)
          (rw (← c.priority.ensures, ← c.priority-2.ensures) c.if-priority.true),
      refl,
    )

pub returns-then-priority-clause-next : goal.returns-then-priority-clause-next
returns-then-priority-clause-next c =
    let occupied = own_occupied c.args.links.now c.args.x c.effective-own.result c.idle.result c.both.result c.effective-own.ensures.value
    c.idle.ensures.contents c.both.ensures.contents (c.in_default.ensures.none.0 refl) in
    stable_waiting c.args.links.now c.args.x c.requires.waits.others
    (kept_out_by_least c.args.links.now c.args.x c.idle.ensures.valid c.requires.waits.waits c.requires.waits.number occupied
    c.in-Some-least_urgent_on.out (rw c.effective-own.ensures.value at c.in-Some-least_urgent_on.ensures.test)
    (rw (← c.priority.ensures, ← c.priority-2.ensures) c.if-priority.true))

pub returns-clause-turn : goal.returns-clause-turn
returns-clause-turn c = record {
  occupied = own_occupied c.args.links.now c.args.x c.effective-own.result c.idle.result c.both.result c.effective-own.ensures.value
      c.idle.ensures.contents c.both.ensures.contents (c.in_default.ensures.none.0 refl);
  out_there = rw c.effective-own.ensures.value at c.in-Some-least_urgent_on.ensures.test;
  out_less_urgent = rw (← c.priority.ensures, ← c.priority-2.ensures) c.if-priority.false;
  place = c.unwrap-p.result;
  on = rw c.unwrap-p.ensures at c.of.ensures.place;
  goes = c.go_on-2.ensures.goes;
}

pub returns-clause-next : goal.returns-clause-next
returns-clause-next c =
    let s = c.args.links.now in
    let least = c.in-Some-least_urgent_on.ensures.test in
    let on : task_on s c.unwrap-p.result ≡ Some c.in-Some-least_urgent_on.out = rw c.unwrap-p.ensures at c.of.ensures.place in
    let there : IsTrue (has (effective_mask s c.args.x) c.unwrap-p.result) =
    (let inside = least.there.1 in
    let same = c.idle.ensures.valid.once least.there.0 c.unwrap-p.result c.in-Some-least_urgent_on.out least.there.2 on in
    rw (← same, ← c.effective-own.ensures.value) inside) in
    rw c.go_on-2.ensures.goes (stable_displacing s c.idle.ensures.valid c.args.x c.unwrap-p.result c.requires.waits.waits there
    c.in-Some-least_urgent_on.out on c.requires.waits.others (rw (← c.priority.ensures, ← c.priority-2.ensures) c.if-priority.false))
