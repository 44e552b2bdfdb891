use Rattle.std.proofs.Common.{◌≡◌, ℕ, ◌+◌, ◌++◌, ◌∷◌, List, [], length, map, take, get_or, refl, sym, ap, ◌∙◌, subst, arith}
use Rattle.std.proofs.lemmas.List.{map-append, take_more}
use Rattle.trace_losses.specs.Watch.{IsWatch, IsWatchOf, AreAtMost, AreWatches, stretches_of, longest_of}
use Rattle.trace_losses.specs.declared.tally.Stretch.{Stretch}
use Rattle.trace_losses.specs.declared.tally.Tally.{Tally}
use Rattle.trace_losses.specs.declared.watch.StretchWatch.{StretchWatch}
use Rattle.trace_losses.proofs.Appended.{each_pushed}
use Rattle.trace_losses.proofs.WatchLists.{no_tally}
use Rattle.trace_losses.proofs.count.new_watches.Goals as goal

pub loop-tally-preserved : goal.loop-tally-preserved
loop-tally-preserved c =
    let tallies = c.args.tallies.now in
    let k = c.loop-tally.tally-index in
    let watches = c.loop-tally.watches.items in
    let one : StretchWatch = c.in_ok-new.field-0 in
    let of_one = c.in_ok-new.ensures in
    let pushed : c.push.new.self.items ≡ watches ++ one ∷ [] = c.in_ok-push.ensures.items in
    let made : IsWatchOf (length tallies) [] one = record {
      counted = subst (λ (s : Stretch). IsWatch s [] one.counts.items) (sym of_one.stretch) of_one.watch;
      kept = subst (λ (n : ℕ). AreAtMost n one.counts.items) (sym of_one.moments) of_one.kept;
      all = of_one.moments;
      width = of_one.tasks;
    } in
    let stretch : StretchWatch → Stretch = λ (watch : StretchWatch). watch.stretch in
    let longest : Tally → Stretch = λ (tally : Tally). tally.longest in
    let there : Tally = get_or tallies k no_tally in
    record {
      watches =
          subst (AreWatches (length tallies) []) (sym pushed)
          (each_pushed (λ (t : ℕ) (watch : StretchWatch). IsWatchOf (length tallies) [] watch) watches one c.loop-tally.invariant.watches
          made);
      stretches =
          ap stretches_of pushed ∙ map-append stretch watches (one ∷ [])
          ∙ ap (λ (list : List Stretch). list ++ one.stretch ∷ []) c.loop-tally.invariant.stretches
          ∙ ap (λ (s : Stretch). longest_of (take k tallies) ++ s ∷ []) of_one.stretch
          ∙ sym (map-append longest (take k tallies) (there ∷ []))
          ∙ ap longest_of (sym (take_more tallies k no_tally c.loop-tally-test.true));
    }
