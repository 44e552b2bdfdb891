use Rattle.std.proofs.Common.{rules, tests, ◌≡◌, ◌≢◌}
use Rattle.std.proofs.lemmas.Iterator.{YieldsList-from_slice, IsFirst-from_position}
use Rattle.affinity_mask.proofs.Numbers.{significant-at, significant-none}
use Rattle.affinity_mask.proofs.number.significant.Goals as goal

pub returns-in-Some : goal.returns-in-Some
returns-in-Some c =
    let found = rw c.in-Some.is at (IsFirst-from_position _ _ c.position.result (λ d. d ≢ 48) (λ d. d ≡ 48) c.position.ensures.ran
    (YieldsList-from_slice c.args.number.now cc) (λ x q k. search (rules, tests)) (λ x q k. search (rules, tests))) in
    significant-at c.args.number.now c.in-Some.at c.requires.1 found.0 found.1 found.2

pub returns-in-None : goal.returns-in-None
returns-in-None c =
    significant-none c.args.number.now
    (rw c.in-None.is at (IsFirst-from_position _ _ c.position.result (λ d. d ≢ 48) (λ d. d ≡ 48) c.position.ensures.ran
    (YieldsList-from_slice c.args.number.now cc) (λ x q k. search (rules, tests)) (λ x q k. search (rules, tests))))
