use Rattle.std.proofs.Common.{◌<◌, ◌≤◌}
use Rattle.strong_apa.specs.State.{task_count, priority_of}
use Rattle.strong_apa.proofs.Linked.{linked_number}
use Rattle.link_table.proofs.Leaders.{found_at}
use Rattle.weak_apa.specs.Apart.{IsOnlyOn}
use Rattle.weak_apa.proofs.Counted.{found_only}
use Rattle.weak_apa.proofs.comparison.first_only_in.Goals as goal

pub more_urgent-requires-clause-number : goal.more_urgent-requires-clause-number
more_urgent-requires-clause-number c =
    linked_number c.args.one.now c.loop-p.p c.in-Some.t c.processors-p-end.ensures.valid c.in-Some.ensures.0

pub more_urgent-requires-clause-found_number : goal.more_urgent-requires-clause-found_number
more_urgent-requires-clause-found_number c =
    let one = c.args.one.now in
    found_at (IsOnlyOn one c.args.other.now) (λ d t. priority_of one d ≤ priority_of one t) (λ u. u < task_count one)
    (λ k u at. linked_number one k u c.processors-p-end.ensures.valid at.0) c.loop-p.p c.loop-p.found c.loop-p.invariant

pub returns-clause-first : goal.returns-clause-first
returns-clause-first c =
    found_only c.args.one.now c.args.other.now c.processors-p-end.ensures.valid c.loop-p.p
    (rw c.processors-p-end.ensures.value at c.loop-p-test.false) c.loop-p.found c.loop-p.invariant
