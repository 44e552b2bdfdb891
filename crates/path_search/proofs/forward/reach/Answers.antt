use Rattle.std.proofs.Common.{ℕ, subst, IsTrue}
use Rattle.affinity_mask.specs.ProcSet.{has}
use Rattle.strong_apa.proofs.Masks.{effective_mask_below}
use Rattle.path_search.proofs.forward.reach.Goals as goal

pub ends_from-requires : goal.ends_from-requires
ends_from-requires c = λ p h. effective_mask_below c.args.links.now c.effective.ensures.valid c.args.t p
    (subst (λ (X : ℕ). IsTrue (has X p)) c.effective.ensures.value h)
