use Rattle.task_set.specs.declared.event.Event.TheVariants.{Arrive, Affinity, Offline, Online}
use Rattle.weak_apa.proofs.Followed.{weak_step_follows}
use Rattle.weak_apa.proofs.weak.apply_to.Goals as goal

pub returns-in-Arrive-clause-follows : goal.returns-in-Arrive-clause-follows
returns-in-Arrive-clause-follows c =
    let number = rw c.in-Arrive.is at c.requires.of_system in
    rw c.in-Arrive.is (weak_step_follows c.args.links.now (Arrive c.in-Arrive.t) c.arrive.new.links c.processors-valid.ensures.valid
    (number, c.arrive.ensures.arrives))

pub returns-in-Affinity-clause-follows : goal.returns-in-Affinity-clause-follows
returns-in-Affinity-clause-follows c =
    let known = rw c.in-Affinity.is at c.requires.of_system in
    rw c.in-Affinity.is (weak_step_follows c.args.links.now (Affinity c.in-Affinity.task c.in-Affinity.mask)
    c.affinity.new.links c.processors-valid.ensures.valid (known.0, known.1, c.affinity.ensures.masks))

pub returns-in-Offline-clause-follows : goal.returns-in-Offline-clause-follows
returns-in-Offline-clause-follows c =
    let number = rw c.in-Offline.is at c.requires.of_system in
    rw c.in-Offline.is (weak_step_follows c.args.links.now (Offline c.in-Offline.p) c.offline.new.links c.processors-valid.ensures.valid
    (number, c.offline.ensures.goes_off))

pub returns-in-Online-clause-follows : goal.returns-in-Online-clause-follows
returns-in-Online-clause-follows c =
    let number = rw c.in-Online.is at c.requires.of_system in
    rw c.in-Online.is (weak_step_follows c.args.links.now (Online c.in-Online.p) c.online.new.links c.processors-valid.ensures.valid
    (number, c.online.ensures.comes_on))
