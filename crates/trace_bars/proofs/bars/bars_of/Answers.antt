use Rattle.std.proofs.Common.{◌≡◌, ℕ, length, vec_len, sym, subst, arith}
use Rattle.trace_passages.specs.Passages.{ArePassages}
use Rattle.trace_losses.specs.Walk.{IsTrail}
use Rattle.trace_bars.specs.Parts.{AreLayersAt, HasTracks, trace_of}
use Rattle.trace_bars.proofs.bars.bars_of.Goals as goal

pub layers_of-requires-clause-passages : goal.layers_of-requires-clause-passages
layers_of-requires-clause-passages c =
    let count = c.in_ok-trail.ensures.count in
    let wide : vec_len c.in_ok-trail.trail.first.processors ≡ c.args.threads = omega (arith, count) in
    subst (λ (n : ℕ). ArePassages (length c.args.set.now.tasks) n c.args.passages.now) (sym wide) c.requires.passages

pub layers_of-requires-clause-trail : goal.layers_of-requires-clause-trail
layers_of-requires-clause-trail c =
    let count = c.in_ok-trail.ensures.count in
    let wide : vec_len c.in_ok-trail.trail.first.processors ≡ c.args.threads = omega (arith, count) in
    subst (λ (n : ℕ). IsTrail c.args.passages.now n c.in_ok-trail.trail.first.processors.items c.in_ok-trail.trail.formers.items) (sym wide)
    c.in_ok-trail.ensures

pub returns : goal.returns
returns c =
    let count = c.in_ok-trail.ensures.count in
    let wide : vec_len c.in_ok-trail.trail.first.processors ≡ c.args.threads = omega (arith, count) in
    c.in_ok-bars.ensures (trace_of c.args.set.now c.args.threads c.args.passages.now)
    (subst (λ (n : ℕ). HasTracks n c.in_ok-layers.layers) wide c.in_ok-layers.ensures.tracks)
    (subst (λ (n : ℕ). AreLayersAt (trace_of c.args.set.now n c.args.passages.now) c.args.part c.args.part.to c.in_ok-layers.layers) wide
    c.in_ok-layers.ensures.layers)
