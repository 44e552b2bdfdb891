-- Where no moment passes, nothing is counted.
use Rattle.std.proofs.Common.{◌≡◌, ℕ, Bool, true, false, List, length, drop, take, Some, refl, sym, ap, ◌∙◌, add-zero}
use Rattle.std.specs.Prelude.{replicate, count_by, None}
use Rattle.std.proofs.lemmas.List.{length-replicate, get_or-replicate}
use Rattle.trace_losses.specs.Book.{of_task}
use Rattle.trace_losses.specs.Losses.{IsRival}
use Rattle.trace_losses.specs.Tally.{more}
use Rattle.trace_losses.specs.Watch.{is_rival, AreMore}
use Rattle.trace_losses.specs.declared.seen.Seen.{Seen}
use Rattle.trace_losses.specs.declared.tally.Stretch.{Stretch}
use Rattle.trace_losses.proofs.Watches.{none_counted}

-- no moments more
none_more : (b : Bool) (count : ℕ) → count ≡ more b count 0
none_more true count = sym (add-zero count)
none_more false count = sym (add-zero count)

pub nothing_more : (counts : List ℕ) (seen : List Seen) (units done : ℕ) → units ≡ 0 → AreMore counts counts seen units done
nothing_more counts seen units done none = rw none record {
  same = refl;
  counted = λ t count below is. is ∙ ap Some (none_more _ count);
  waiting = λ t from. refl;
}
