use Rattle.std.proofs.Common.{◌≡◌, ℕ, ◌+◌, ◌++◌, List, length, sym, ap, ◌∙◌, length-append}
use Rattle.std.specs.Prelude.{replicate}
use Rattle.std.proofs.lemmas.List.{length-replicate}
use Rattle.trace_losses.specs.declared.seen.Seen.{Seen}
use Rattle.trace_losses.proofs.count.pass_counts.Goals as goal

longer : (moments : List (List Seen)) (units : ℕ) (seen : List Seen) (n : ℕ) → n ≡ length moments
    → n + units ≡ length (moments ++ replicate units seen)
longer moments units seen n is =
    ap (λ (m : ℕ). m + units) is
    ∙ sym (length-append moments (replicate units seen) ∙ ap (λ (m : ℕ). length moments + m) (length-replicate units seen))

pub returns-then-units-gt0 : goal.returns-then-units-gt0
returns-then-units-gt0 c = λ moments is. record {
  book = c.pass.ensures.book moments is.book;
  kept = c.pass.ensures.kept;
  all = c.pass.ensures.moments ∙ longer moments c.args.units c.args.seen.now c.args.counts.now.book.moments is.all;
  width = c.pass.ensures.tasks ∙ is.width;
  beside = c.pass-then-units-gt0.ensures.beside moments is.beside;
  beside_kept = c.pass-then-units-gt0.ensures.kept;
  beside_all =
      c.pass-then-units-gt0.ensures.moments
      ∙ longer moments c.args.units c.args.seen.now c.args.counts.now.beside.moments is.beside_all;
  beside_width = c.pass-then-units-gt0.ensures.threads ∙ is.beside_width;
}
