use Rattle.std.proofs.Common.{◌≡◌, ℕ, ◌+◌, ◌-◌, ◌<◌, ◌≤◌, List, length, get_or, take, vec_len, Vec, sym, ap, ◌∙◌, subst, arith}
use Rattle.std.specs.Prelude.{reverse}
use Rattle.std.specs.declared.alloc.Global.{Global}
use Rattle.trace_passages.specs.Passages.{moment_at, span_of}
use Rattle.trace_passages.specs.declared.passage.Passage.{Passage}
use Rattle.trace_losses.specs.Walk.{IsWalkAt}
use Rattle.trace_losses.proofs.Passed.{no_passage, before_next, next_is_later, moment_there}
use Rattle.trace_losses.proofs.SeenMoments.{no_moments}
use Rattle.trace_losses.proofs.Walks.{first_within, second_within, turn_within, stopped_within, walk_on}
use Rattle.trace_bars.specs.Parts.{AreLayersAt, HasTracks, clipped, trace_of}
use Rattle.trace_bars.specs.Sights.{AreSightsBy, FollowsTo}
use Rattle.trace_bars.specs.declared.sight.Sight.{Sight}
use Rattle.trace_bars.proofs.Clipped.{clipped_first, clipped_last, clipped_order, clipped_within, cut_within, span_at}
use Rattle.trace_bars.proofs.Seen.{sights_at}
use Rattle.trace_bars.proofs.bars.fill.Goals as goal

pub loop-i-init : goal.loop-i-init
loop-i-init c =
    let threads : ℕ = vec_len c.args.trail.now.first.processors in
    record {
      at = c.requires.walk;
      follows = c.requires.links;
      sights = c.requires.sights;
      tracks = c.requires.tracks;
      layers =
          subst (λ (now : ℕ). AreLayersAt (trace_of c.args.set.now threads c.args.passages.now) c.args.part now c.args.layers.now)
          (clipped_first c.args.part (moment_at c.args.passages.now 0)
          (sym (no_moments c.args.set.now threads c.args.passages.now c.requires.passages).all))
          c.requires.layers;
    }

pub step-requires-clause-first : goal.step-requires-clause-first
step-requires-clause-first c = first_within c.args.set.now c.args.passages.now (vec_len c.args.trail.now.first.processors)
    c.loop-i.i c.loop-i.walk.core c.loop-i.walk.runners.processors.items c.args.trail.now.first.processors.items
    c.args.trail.now.formers.items c.requires.passages c.requires.trail c.loop-i.invariant.at (omega arith) c.loop-i-test.true

pub step-requires-clause-second : goal.step-requires-clause-second
step-requires-clause-second c = second_within c.args.set.now c.args.passages.now (vec_len c.args.trail.now.first.processors)
    c.loop-i.i c.loop-i.walk.core c.loop-i.walk.runners.processors.items c.args.trail.now.first.processors.items
    c.args.trail.now.formers.items c.requires.passages c.requires.trail c.loop-i.invariant.at (omega arith) c.loop-i-test.true

pub step-requires-clause-threads : goal.step-requires-clause-threads
step-requires-clause-threads c =
    let count = c.loop-i.invariant.at.count in
    turn_within c.args.set.now c.args.passages.now (vec_len c.args.trail.now.first.processors)
    c.loop-i.i c.loop-i.walk.core c.loop-i.walk.runners.processors.items c.args.trail.now.first.processors.items
    c.args.trail.now.formers.items c.requires.passages c.requires.trail c.loop-i.invariant.at (omega arith) c.loop-i-test.true
    (vec_len c.loop-i.walk.runners.processors) (omega (arith, count))

pub step-requires-clause-within : goal.step-requires-clause-within
step-requires-clause-within c =
    let count = c.loop-i.invariant.at.count in
    rw c.as_slice-formers.ensures.value
    (stopped_within c.args.set.now c.args.passages.now (vec_len c.args.trail.now.first.processors)
    c.loop-i.i c.loop-i.walk.core c.loop-i.walk.runners.processors.items c.args.trail.now.first.processors.items
    c.args.trail.now.formers.items c.requires.passages c.requires.trail c.loop-i.invariant.at (omega arith) c.loop-i-test.true
    (vec_len c.loop-i.walk.runners.processors) (omega (arith, count)))

pub advance-requires : goal.advance-requires
advance-requires c =
    let passages = c.args.passages.now in
    let i = c.loop-i.i in
    let count = c.loop-i.invariant.at.count in
    let moved = c.step.ensures.threads in
    let held = c.loop-i.invariant.sights in
    let kept = c.step.ensures.sights in
    let wide : vec_len c.step.new.self.sights ≡ vec_len c.args.trail.now.first.processors =
    ap (λ (list : Vec Sight Global). vec_len list) kept ∙ held in
    let later =
    next_is_later (length c.args.set.now.tasks) (vec_len c.args.trail.now.first.processors) passages c.requires.passages i (omega arith)
    c.loop-i-test.true in
    let order =
    clipped_order c.args.part (get_or passages (i - 1) no_passage).moment (get_or passages i no_passage).moment later in
    record {
      order = rw (c.clipped-now.ensures, c.clipped-next.ensures) order;
      sights = omega (arith, wide, count, moved);
      tracks = subst (λ (n : ℕ). HasTracks n c.loop-i.layers) (sym wide) c.loop-i.invariant.tracks;
    }

pub loop-i-preserved : goal.loop-i-preserved
loop-i-preserved c =
    let passages = c.args.passages.now in
    let threads : ℕ = vec_len c.args.trail.now.first.processors in
    let i = c.loop-i.i in
    let some : 0 < i = omega arith in
    let below = c.loop-i-test.true in
    let are = c.requires.passages in
    let part = c.args.part in
    let on = c.loop-i.walk.runners.processors.items in
    let moved = c.step.ensures.threads in
    let at : IsWalkAt c.args.set.now passages threads i c.step.new.self.core c.step.new.self.runners.processors.items =
    walk_on c.args.set.now passages threads i c.loop-i.walk.core on c.args.trail.now.first.processors.items c.args.trail.now.formers.items
    are
    c.requires.trail c.loop-i.invariant.at some below c.step.new.self.core c.step.new.self.runners.processors.items c.step.ensures.used
    (c.step.ensures.placed c.args.set.now) (rw c.as_slice-formers.ensures.value at c.step.ensures.restored) (omega (arith, moved)) in
    let follows : FollowsTo c.args.set.now (reverse (take i passages)) c.step.new.self.core.links =
    subst (λ (earlier : List Passage). FollowsTo c.args.set.now earlier c.step.new.self.core.links) (before_next passages i some below)
    (c.loop-i.walk.core.links, c.loop-i.invariant.follows, c.step.ensures.enters) in
    let held = c.loop-i.invariant.sights in
    let wide : vec_len c.step.new.self.sights ≡ threads = ap (λ (list : Vec Sight Global). vec_len list) c.step.ensures.sights ∙ held in
    let is_now : c.clipped-now.result ≡ clipped part (moment_at passages (i - 1)) =
    c.clipped-now.ensures ∙ ap (clipped part) (sym (moment_there passages (i - 1) (omega arith))) in
    let is_next : c.clipped-next.result ≡ clipped part (moment_at passages i) =
    c.clipped-next.ensures ∙ ap (clipped part) (sym (moment_there passages i below)) in
    let layers =
    c.in_ok-advance.ensures.on (trace_of c.args.set.now threads passages) part
    (subst (λ (n : ℕ). n ≤ part.to) (sym is_next) (clipped_within part (moment_at passages i) c.requires.part))
    (λ sights long by x from before.
    sights_at c.args.set.now passages threads i c.step.new.self.core.links c.step.new.self.runners.processors.items sights are.all at.placed
    follows
    at.armed at.count
    (subst (λ (n : ℕ). AreSightsBy c.step.new.self.core.links c.step.new.self.runners.processors.items n sights) wide by) (long ∙ wide) x
    (cut_within (length c.args.set.now.tasks) threads passages part are i x some below c.requires.part
    (subst (λ (n : ℕ). n ≤ x) is_now from) (subst (λ (n : ℕ). x < n) is_next before)))
    (subst (λ (n : ℕ). AreLayersAt (trace_of c.args.set.now threads passages) part n c.loop-i.layers) (sym is_now)
    c.loop-i.invariant.layers) in
    let same : i ≡ i + 1 - 1 = omega arith in
    record {
      at =
          rw (c.in_ok-advance.ensures.core, c.in_ok-advance.ensures.runners)
          (subst (λ (n : ℕ). IsWalkAt c.args.set.now passages threads n c.step.new.self.core c.step.new.self.runners.processors.items)
          same at);
      follows =
          rw c.in_ok-advance.ensures.core
          (subst (λ (n : ℕ). FollowsTo c.args.set.now (reverse (take n passages)) c.step.new.self.core.links) same follows);
      sights = c.in_ok-advance.ensures.all ∙ wide;
      tracks = subst (λ (n : ℕ). HasTracks n c.advance.new.layers) wide c.in_ok-advance.ensures.tracks;
      layers =
          subst (λ (n : ℕ). AreLayersAt (trace_of c.args.set.now threads passages) part (clipped part (moment_at passages n))
          c.advance.new.layers) same
          (subst (λ (n : ℕ). AreLayersAt (trace_of c.args.set.now threads passages) part n c.advance.new.layers) is_next layers);
    }

pub returns-clause-layers : goal.returns-clause-layers
returns-clause-layers c =
    let passages = c.args.passages.now in
    let threads : ℕ = vec_len c.args.trail.now.first.processors in
    subst (λ (n : ℕ). AreLayersAt (trace_of c.args.set.now threads passages) c.args.part n c.loop-i.layers)
    (ap (clipped c.args.part) (span_at passages c.loop-i.i c.loop-i-test.false (omega arith) (λ some. omega (arith, some)))
    ∙ clipped_last c.args.part (span_of passages) c.requires.part c.requires.within)
    c.loop-i.invariant.layers
