use Rattle.std.proofs.Common.{◌≡◌, ℕ, ◌<◌, ◌++◌, ◌∷◌, [], List, Some, length, map, get_or, refl, sym, ap, ◌∙◌, subst, arith}
use Rattle.std.specs.Prelude.{slice_get}
use Rattle.std.proofs.lemmas.List.{get_or-map, length-map}
use Rattle.std.proofs.lemmas.Option.{slice_get_read, slice_get-get_or}
use Rattle.trace_losses.specs.Losses.{IsLoss}
use Rattle.trace_losses.specs.Watch.{longest_of, stretches_of}
use Rattle.trace_losses.specs.declared.loss.Loss.{Loss}
use Rattle.trace_losses.specs.declared.tally.Stretch.{Stretch}
use Rattle.trace_losses.specs.declared.tally.Tally.{Tally}
use Rattle.trace_losses.specs.declared.watch.StretchWatch.{StretchWatch}
use Rattle.trace_losses.proofs.Appended.{each_pushed}
use Rattle.trace_losses.proofs.WatchLists.{no_tally}
use Rattle.trace_losses.proofs.loss.losses_by.Goals as goal

-- each tally has a watch, of its longest stretch
same_count : (watches : List StretchWatch) (tallies : List Tally) → stretches_of watches ≡ longest_of tallies
    → length watches ≡ length tallies
same_count watches tallies same =
    sym (length-map watches (λ (watch : StretchWatch). watch.stretch)) ∙ ap length same
    ∙ length-map tallies (λ (tally : Tally). tally.longest)

same_stretch : (watches : List StretchWatch) (tallies : List Tally) (t : ℕ) (watch : StretchWatch)
    → stretches_of watches ≡ longest_of tallies
    → t < length watches → watch ≡ get_or watches t watch → watch.stretch ≡ (get_or tallies t no_tally).longest
same_stretch watches tallies t watch same below is =
    let none : Stretch = record { first = 0; count = 0 } in
    let count = same_count watches tallies same in
    ap (λ (w : StretchWatch). w.stretch) is
    ∙ sym (get_or-map (λ (w : StretchWatch). w.stretch) watches t watch none below)
    ∙ ap (λ (list : List Stretch). get_or list t none) same
    ∙ get_or-map (λ (tally : Tally). tally.longest) tallies t no_tally none (omega (arith, below, count))

pub bounds-watches-t : goal.bounds-watches-t
bounds-watches-t c =
    let count = same_count c.args.watches.now c.args.tallies.now c.requires.stretches in
    omega (arith, count, c.requires.tasks)

pub loss_of-requires-clause-within : goal.loss_of-requires-clause-within
loss_of-requires-clause-within c =
    let tallies = c.args.tallies.now in
    c.requires.kept c.loop-t.t (get_or tallies c.loop-t.t no_tally)
    (slice_get-get_or tallies c.loop-t.t no_tally (omega (arith, c.requires.tasks)))

pub loss_of-requires-clause-stretch : goal.loss_of-requires-clause-stretch
loss_of-requires-clause-stretch c =
    let count = same_count c.args.watches.now c.args.tallies.now c.requires.stretches in
    same_stretch c.args.watches.now c.args.tallies.now c.loop-t.t c.index-watches-t.result c.requires.stretches
    (omega (arith, count, c.requires.tasks)) c.index-watches-t.is

pub loss_of-requires-clause-tasks : goal.loss_of-requires-clause-tasks
loss_of-requires-clause-tasks c =
    let watches = c.args.watches.now in
    let count = same_count watches c.args.tallies.now c.requires.stretches in
    let is = slice_get_read watches (length watches) c.loop-t.t c.index-watches-t.result refl (omega (arith, count, c.requires.tasks))
    c.index-watches-t.is in
    (c.requires.watches.1 c.loop-t.t c.index-watches-t.result is).width

pub loop-t-preserved : goal.loop-t-preserved
loop-t-preserved c =
    let priorities = c.args.priorities.now in
    let watches = c.args.watches.now in
    let tallies = c.args.tallies.now in
    let list = c.loop-t.list.items in
    let t = c.loop-t.t in
    let count = same_count watches tallies c.requires.stretches in
    let is = slice_get_read watches (length watches) t c.index-watches-t.result refl (omega (arith, count, c.requires.tasks))
    c.index-watches-t.is in
    let there = slice_get-get_or tallies t no_tally (omega (arith, c.requires.tasks)) in
    let one : Loss = c.loss_of.result in
    let pushed : c.push.new.self.items ≡ list ++ one ∷ [] = c.in_ok-push.ensures.items in
    let place : t ≡ length list = omega (arith, c.loop-t.invariant.tasks) in
    record {
      tasks = omega (arith, c.in_ok-push.ensures.len, c.loop-t.invariant.tasks);
      each = λ moments book watched.
          subst (λ (all : List Loss). (u : ℕ) (loss : Loss) → slice_get all u ≡ Some loss → IsLoss priorities moments u loss)
          (sym {A = List Loss} pushed)
          (each_pushed (λ (u : ℕ) (loss : Loss). IsLoss priorities moments u loss) list one (c.loop-t.invariant.each moments book watched)
          (subst (λ (u : ℕ). IsLoss priorities moments u one) place
          (c.loss_of.ensures moments t (book t (get_or tallies t no_tally) there) (watched t c.index-watches-t.result is))));
    }

pub returns : goal.returns
returns c = λ moments book watched. record {
  tasks = omega (arith, c.loop-t.invariant.tasks);
  each = c.loop-t.invariant.each moments book watched;
}
