use Rattle.std.proofs.Common.{ℕ, refl, sym, ◌∙◌, subst, inl, inr, IsTrue}
use Rattle.std.proofs.lemmas.Bool.{or_cases}
use Rattle.affinity_mask.specs.ProcSet.{has}
use Rattle.path_search.specs.Paths.{Steps}
use Rattle.path_search.proofs.Closures.{IsSearch-start, IsSearch-more, IsSearch-end, IsSearch-all, next_fresh}
use Rattle.path_search.proofs.Moves.{Steps-below}
use Rattle.link_table.proofs.Rests.{rest_falls}
use Rattle.path_search.proofs.ends.ends_from.Goals as goal

pub loop-p-init : goal.loop-p-init
loop-p-init c = record {
  search = IsSearch-start (Steps c.args.links.now c.args.direction) c.args.start c.empty-done.result c.empty-done.ensures;
  below = c.requires;
}

pub loop-p-smaller : goal.loop-p-smaller
loop-p-smaller c =
    rest_falls c.loop-p.done c.with-done.result c.in-Some.p c.with-done.ensures
    (next_fresh (Steps c.args.links.now c.args.direction) c.args.start c.loop-p.found c.loop-p.done c.minus.result c.loop-p.invariant.search
    c.minus.ensures c.in-Some.p c.in-Some.ensures.least.0)
    c.in-Some.ensures.bound

pub loop-p-preserved : goal.loop-p-preserved
loop-p-preserved c = record {
  search =
      IsSearch-more (Steps c.args.links.now c.args.direction) c.args.start c.loop-p.found c.loop-p.done c.minus.result
      c.loop-p.invariant.search c.minus.ensures c.in-Some.p c.in-Some.ensures.least.0
      c.after.result c.with-done.result c.either_of-found.result c.with-done.ensures c.after.ensures.contents c.either_of-found.ensures;
  below = λ q h. elim (or_cases (has c.loop-p.found q) (has c.after.result q) (sym (c.either_of-found.ensures q) ∙ h)) [
    | inl before ↦ c.loop-p.invariant.below q before
    | inr new ↦ Steps-below c.args.links.now c.after.ensures.valid c.args.direction c.in-Some.p q ((c.after.ensures.contents q).0 new)
  ];
}

pub returns-then-within : goal.returns-then-within
returns-then-within c =
    let Step = Steps c.args.links.now c.args.direction in
    IsSearch-all c.args.links.now c.online-online.ensures.valid c.args.direction c.args.start c.either_of-found.result c.with-done.result
    (IsSearch-more Step c.args.start c.loop-p.found c.loop-p.done c.minus.result c.loop-p.invariant.search c.minus.ensures c.in-Some.p
    c.in-Some.ensures.least.0
    c.after.result c.with-done.result c.either_of-found.result c.with-done.ensures c.after.ensures.contents c.either_of-found.ensures)
    (λ q h. c.within.ensures.0 c.if-within.true q (subst (λ (X : ℕ). IsTrue (has X q)) (sym c.online-online.ensures.value) h))

pub returns : goal.returns
returns c = IsSearch-end (Steps c.args.links.now c.args.direction) c.args.start c.loop-p.found c.loop-p.done c.minus.result
    c.loop-p.invariant.search c.minus.ensures (c.in_default.ensures.none.0 refl)
