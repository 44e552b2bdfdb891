use Rattle.std.proofs.Common.{◌≡◌, ◌<◌, length, get_or, ap, ◌∙◌, arith}
use Rattle.trace_reader.specs.declared.posted.Posted.{Posted}
use Rattle.strong_apa.specs.State.{task_count}
use Rattle.weak_apa.proofs.Alike.{same_tasks_alike}
use Rattle.weak_apa.proofs.ComparedSoFar.{compared_none, posted_known, known_weak, history_length, alike_next, compared_more}
use Rattle.weak_apa.proofs.ComparedSoFar.{compared_whole, core_count}
use Rattle.weak_apa.proofs.Counted.{apart_number}
use Rattle.weak_apa.proofs.comparing.add_lines.Goals as goal

pub loop-posted-init : goal.loop-posted-init
loop-posted-init c =
    compared_none c.args.input.now.set c.args.input.now.events c.args.weak.now c.args.core.now c.args.text.now.items c.requires.weak
    c.requires.core
    c.links-valid.ensures.valid c.requires.text

pub apply-requires : goal.apply-requires
apply-requires c =
    let fits : c.loop-posted.posted-index < length c.args.input.now.events = rw c.events-events.ensures.value at c.loop-posted-test.true in
    let is : c.posted-item.result ≡ get_or c.args.input.now.events c.loop-posted.posted-index
    c.posted-item.result = rw c.events-events.ensures.value at c.posted-item.is in
    known_weak c.args.input.now.set c.args.input.now.events c.loop-posted.posted-index c.loop-posted.weak c.loop-posted.core
    c.loop-posted.text.items c.loop-posted.invariant c.posted-item.result.event
    (posted_known c.args.input.now c.set-set.ensures.valid c.loop-posted.posted-index fits c.posted-item.result is)

pub enter-requires-clause-not_full : goal.enter-requires-clause-not_full
enter-requires-clause-not_full c =
    let fits : c.loop-posted.posted-index < length c.args.input.now.events = rw c.events-events.ensures.value at c.loop-posted-test.true in
    let n = history_length c.args.input.now.set c.args.input.now.events c.loop-posted.posted-index c.loop-posted.weak c.loop-posted.core
    c.loop-posted.text.items c.loop-posted.invariant (omega arith) in
    let few = c.set-set.ensures.valid.few in
    omega arith

pub new-requires : goal.new-requires
new-requires c =
    let fits : c.loop-posted.posted-index < length c.args.input.now.events = rw c.events-events.ensures.value at c.loop-posted-test.true in
    let is : c.posted-item.result ≡ get_or c.args.input.now.events c.loop-posted.posted-index
    c.posted-item.result = rw c.events-events.ensures.value at c.posted-item.is in
    rw (c.links.ensures.value, c.links-in-loop-posted.ensures.value) (same_tasks_alike c.apply.new.self c.enter.new.core.links
    (alike_next c.args.input.now.set c.args.input.now.events c.loop-posted.posted-index c.loop-posted.weak c.loop-posted.core
    c.loop-posted.text.items c.loop-posted.invariant c.posted-item.result fits c.posted-item.result.stream
    c.in_ok-enter.field-0 c.posted-item.result.event (ap (λ (p : Posted). p.event) is)
    c.apply.new.self c.enter.new.core c.apply.ensures.step c.apply.ensures.follows c.in_ok-enter.ensures))

pub write-requires : goal.write-requires
write-requires c =
    let fits : c.loop-posted.posted-index < length c.args.input.now.events = rw c.events-events.ensures.value at c.loop-posted-test.true in
    let is : c.posted-item.result ≡ get_or c.args.input.now.events c.loop-posted.posted-index
    c.posted-item.result = rw c.events-events.ensures.value at c.posted-item.is in
    let alike = alike_next c.args.input.now.set c.args.input.now.events c.loop-posted.posted-index c.loop-posted.weak c.loop-posted.core
    c.loop-posted.text.items c.loop-posted.invariant c.posted-item.result fits c.posted-item.result.stream
    c.in_ok-enter.field-0 c.posted-item.result.event (ap (λ (p : Posted). p.event) is)
    c.apply.new.self c.enter.new.core c.apply.ensures.step c.apply.ensures.follows c.in_ok-enter.ensures in
    let valid = c.links-in-loop-posted.ensures.valid in
    let compares = rw (c.links.ensures.value, c.links-in-loop-posted.ensures.value) at c.new.ensures in
    let count = core_count c.args.input.now.set c.enter.new.core valid (c.in_ok-enter.ensures.start ∙ c.loop-posted.invariant.start) in
    rw (c.set-set.ensures.value, ← count) (apart_number c.apply.new.self c.enter.new.core.links c.apply.ensures.valid valid.state
    (ap task_count alike) c.new.result.first compares.first)

pub loop-posted-preserved : goal.loop-posted-preserved
loop-posted-preserved c =
    let fits : c.loop-posted.posted-index < length c.args.input.now.events = rw c.events-events.ensures.value at c.loop-posted-test.true in
    let is : c.posted-item.result ≡ get_or c.args.input.now.events c.loop-posted.posted-index
    c.posted-item.result = rw c.events-events.ensures.value at c.posted-item.is in
    let compares = rw (c.links.ensures.value, c.links-in-loop-posted.ensures.value) at c.new.ensures in
    compared_more c.args.input.now.set c.args.input.now.events c.loop-posted.posted-index c.loop-posted.weak c.loop-posted.core
    c.loop-posted.text.items c.loop-posted.invariant c.posted-item.result fits c.posted-item.result.stream
    c.in_ok-enter.field-0 c.posted-item.result.event (ap (λ (p : Posted). p.event) is)
    c.apply.new.self c.enter.new.core c.apply.ensures.step c.apply.ensures.follows c.in_ok-enter.ensures
    c.new.result c.write.new.text.items c.links-in-loop-posted.ensures.valid c.apply.ensures.valid c.apply.ensures.stable compares
    (rw c.set-set.ensures.value at c.in_ok-write.ensures)

pub returns : goal.returns
returns c =
    compared_whole c.args.input.now.set c.args.input.now.events c.loop-posted.posted-index c.loop-posted.weak c.loop-posted.core
    c.loop-posted.text.items c.loop-posted.invariant (rw c.events-events.ensures.value at c.loop-posted.auto.posted-index-end)
    (rw c.events-events.ensures.value at c.loop-posted-test.false)
    c.extend_from_slice.new.self.items c.in_ok-extend_from_slice.ensures.items
