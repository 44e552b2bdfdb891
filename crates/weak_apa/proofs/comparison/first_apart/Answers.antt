use Rattle.std.proofs.Common.{ℕ, List, get_or, ap}
use Rattle.strong_apa.proofs.Linked.{linked_number, place_in, task_on-linked}
use Rattle.weak_apa.proofs.Counted.{only_number, first_of_both, first_of_strong}
use Rattle.weak_apa.proofs.comparison.first_apart.Goals as goal

pub more_urgent-requires-clause-number : goal.more_urgent-requires-clause-number
more_urgent-requires-clause-number c =
    let weak = c.args.weak.now in
    rw c.requires.priorities (linked_number weak (place_in c.in-Some.t weak.on) c.in-Some.t c.in-Some.ensures.valid
    (task_on-linked weak c.in-Some.t c.in-Some.ensures.first.linked))

pub more_urgent-requires-clause-found_number : goal.more_urgent-requires-clause-found_number
more_urgent-requires-clause-found_number c = only_number c.args.strong.now c.args.weak.now c.first_only_in-found.ensures.valid
    c.first_only_in-found.result c.first_only_in-found.ensures.first

pub returns-in-Some : goal.returns-in-Some
returns-in-Some c =
    first_of_both c.args.weak.now c.args.strong.now (λ u. ap (λ (priorities : List ℕ). get_or priorities u 0) c.requires.priorities)
    c.first_only_in-found.result c.in-Some.t c.more_urgent.result c.first_only_in-found.ensures.first c.in-Some.ensures.first
    c.more_urgent.ensures.either c.more_urgent.ensures.first c.more_urgent.ensures.first_of_found

pub returns-in-None : goal.returns-in-None
returns-in-None c =
    first_of_strong c.args.weak.now c.args.strong.now (λ u. ap (λ (priorities : List ℕ). get_or priorities u 0) c.requires.priorities)
    c.first_only_in-found.result c.first_only_in-found.ensures.first c.in-None.ensures.first
