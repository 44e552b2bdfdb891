use Rattle.std.proofs.Common.{◌≡◌, ℕ, ◌+◌, ◌-◌, ◌<◌, ◌≤◌, ◌++◌, List, [], length, get_or, take, drop, vec_len, refl, sym, ap, ◌∙◌, subst}
use Rattle.std.proofs.Common.{arith}
use Rattle.std.specs.Prelude.{replicate, reverse}
use Rattle.trace_passages.specs.Passages.{moment_at}
use Rattle.trace_losses.specs.Counts.{AreCountsAt, AreCountsOf, AreWatchesAt}
use Rattle.trace_losses.specs.Passages.{AreMoments}
use Rattle.trace_losses.specs.Walk.{IsSeenBy, IsWalkAt}
use Rattle.trace_losses.specs.Watch.{WatchesPass, stretches_of}
use Rattle.trace_losses.specs.declared.seen.Seen.{Seen}
use Rattle.trace_losses.proofs.Passed.{no_passage, next_is_later, moment_there, moments_in_order}
use Rattle.trace_losses.proofs.SeenMoments.{no_moments, moments_on, seen_between}
use Rattle.trace_losses.proofs.Walks.{first_within, second_within, turn_within, stopped_within, walk_on}
use Rattle.trace_losses.proofs.WatchLists.{all_passed, can_pass, stretches_stay}
use Rattle.trace_losses.proofs.count.watch_all.Goals as goal

pub loop-i-init : goal.loop-i-init
loop-i-init c = record {
  at = c.requires.walk;
  seen = c.requires.seen;
  watched = record {
    moments = [];
    are = no_moments c.args.set.now c.args.threads c.args.passages.now c.requires.passages;
    of = c.requires.watches;
  };
  stretches = refl;
}

pub step-requires-clause-first : goal.step-requires-clause-first
step-requires-clause-first c = first_within c.args.set.now c.args.passages.now c.args.threads c.loop-i.i c.loop-i.walk.core
    c.loop-i.walk.runners.processors.items c.args.walk.now.runners.processors.items c.args.formers.now c.requires.passages c.requires.trail
    c.loop-i.invariant.at (omega arith) c.loop-i-test.true

pub step-requires-clause-second : goal.step-requires-clause-second
step-requires-clause-second c = second_within c.args.set.now c.args.passages.now c.args.threads c.loop-i.i c.loop-i.walk.core
    c.loop-i.walk.runners.processors.items c.args.walk.now.runners.processors.items c.args.formers.now c.requires.passages c.requires.trail
    c.loop-i.invariant.at (omega arith) c.loop-i-test.true

pub step-requires-clause-threads : goal.step-requires-clause-threads
step-requires-clause-threads c =
    let count = c.loop-i.invariant.at.count in
    turn_within c.args.set.now c.args.passages.now c.args.threads c.loop-i.i c.loop-i.walk.core c.loop-i.walk.runners.processors.items
    c.args.walk.now.runners.processors.items c.args.formers.now c.requires.passages c.requires.trail c.loop-i.invariant.at (omega arith)
    c.loop-i-test.true (vec_len c.loop-i.walk.runners.processors) (omega (arith, count))

pub step-requires-clause-within : goal.step-requires-clause-within
step-requires-clause-within c =
    let count = c.loop-i.invariant.at.count in
    stopped_within c.args.set.now c.args.passages.now c.args.threads c.loop-i.i c.loop-i.walk.core c.loop-i.walk.runners.processors.items
    c.args.walk.now.runners.processors.items c.args.formers.now c.requires.passages c.requires.trail c.loop-i.invariant.at (omega arith)
    c.loop-i-test.true (vec_len c.loop-i.walk.runners.processors) (omega (arith, count))

pub step-requires-clause-all : goal.step-requires-clause-all
step-requires-clause-all c =
    let count = c.loop-i.invariant.at.count in
    let seen = c.loop-i.invariant.seen in
    omega (arith, count, seen)

pub overflow_sub-units-in-loop-i : goal.overflow_sub-units-in-loop-i
overflow_sub-units-in-loop-i c =
    next_is_later (length c.args.set.now.tasks) c.args.threads c.args.passages.now c.requires.passages c.loop-i.i (omega arith)
    c.loop-i-test.true

pub pass_all-requires : goal.pass_all-requires
pass_all-requires c =
    let passages = c.args.passages.now in
    let i = c.loop-i.i in
    let watched = c.loop-i.invariant.watched in
    let long = watched.are.all in
    let width = c.step.ensures.all in
    let before = c.loop-i.invariant.seen in
    let all = c.requires.passages.all in
    let lent = c.deref.ensures.len in
    let first = moment_there passages (i - 1) (omega arith) in
    let second = moment_there passages i c.loop-i-test.true in
    let later = next_is_later (length c.args.set.now.tasks) c.args.threads passages c.requires.passages i (omega arith)
    c.loop-i-test.true in
    let last = moments_in_order (length c.args.set.now.tasks) c.args.threads passages c.requires.passages i (length passages - 1) no_passage
    (omega arith)
    (omega arith) in
    let span = c.span_of-span.ensures in
    can_pass _ _ c.loop-i.watches.items (length c.args.set.now.tasks) watched.moments watched.of (omega (arith, width, before, all, lent))
    (omega (arith, long, first, second, later, last, span))

pub loop-i-preserved : goal.loop-i-preserved
loop-i-preserved c =
    let passages = c.args.passages.now in
    let threads = c.args.threads in
    let i = c.loop-i.i in
    let some : 0 < i = omega arith in
    let on = c.loop-i.walk.runners.processors.items in
    let new = c.step.new.self.runners.processors.items in
    let seen = c.step.new.self.seen.items in
    let moved = c.step.ensures.threads in
    let at : IsWalkAt c.args.set.now passages threads i c.step.new.self.core new =
    walk_on c.args.set.now passages threads i c.loop-i.walk.core on c.args.walk.now.runners.processors.items c.args.formers.now
    c.requires.passages
    c.requires.trail c.loop-i.invariant.at some c.loop-i-test.true c.step.new.self.core new c.step.ensures.used
    (c.step.ensures.placed c.args.set.now) c.step.ensures.restored (omega (arith, moved)) in
    let width = c.step.ensures.all in
    let before = c.loop-i.invariant.seen in
    let long : length seen ≡ threads = omega (arith, width, before) in
    let by : IsSeenBy c.step.new.self.core.links new threads seen =
    (let wide : vec_len c.step.new.self.seen ≡ threads = width ∙ before in
    subst (λ (n : ℕ). IsSeenBy c.step.new.self.core.links new n seen) wide c.step.ensures.seen) in
    let between =
    seen_between c.args.set.now passages threads i c.step.new.self.core.links new seen c.requires.passages.all at.placed at.armed at.count
    by long in
    let units = (get_or passages i no_passage).moment - (get_or passages (i - 1) no_passage).moment in
    let first = moment_there passages (i - 1) (omega arith) in
    let second = moment_there passages i c.loop-i-test.true in
    let later = next_is_later (length c.args.set.now.tasks) threads passages c.requires.passages i some c.loop-i-test.true in
    let span : moment_at passages (i - 1) + units ≡ moment_at passages i = omega (arith, first, second, later) in
    let same : i ≡ i + 1 - 1 = omega arith in
    let watched = c.loop-i.invariant.watched in
    let passes : WatchesPass units seen c.loop-i.watches.items c.pass_all.new.watches.items (length c.loop-i.watches.items) =
    subst (λ (list : List Seen). WatchesPass units list c.loop-i.watches.items c.pass_all.new.watches.items (length c.loop-i.watches.items))
    c.deref.ensures.value c.pass_all.ensures in
    record {
      at = subst (λ (n : ℕ). IsWalkAt c.args.set.now passages threads n c.step.new.self.core new) same at;
      seen = omega (arith, width, before);
      watched =
          subst (λ (n : ℕ). AreWatchesAt c.args.set.now threads passages (moment_at passages n) c.pass_all.new.watches.items) same
          (record {
            moments = watched.moments ++ replicate units seen;
            are = moments_on c.args.set.now threads passages i units watched.moments seen c.requires.passages some c.loop-i-test.true
                between span watched.are;
            of = all_passed units seen c.loop-i.watches.items c.pass_all.new.watches.items (length c.args.set.now.tasks)
                watched.moments passes watched.of;
          });
      stretches = stretches_stay units seen c.loop-i.watches.items c.pass_all.new.watches.items passes ∙ c.loop-i.invariant.stretches;
    }
