use Rattle.std.proofs.Common.{ℕ, subst, IsTrue}
use Rattle.affinity_mask.specs.ProcSet.{has}
use Rattle.strong_apa.proofs.Masks.{effective_mask_below}
use Rattle.path_search.proofs.ChainPaths.{back_chain_answer}
use Rattle.path_search.proofs.backward.back_chain.Goals as goal

pub least_path-requires : goal.least_path-requires
least_path-requires c = λ p h. effective_mask_below c.args.links.now c.effective-entries.ensures.valid c.args.w p
    (subst (λ (X : ℕ). IsTrue (has X p)) c.effective-entries.ensures.value h)

pub returns : goal.returns
returns c =
    back_chain_answer c.args.links.now c.args.p c.one-start.result c.one-start.ensures c.args.w c.effective-entries.result
    c.effective-entries.ensures.value c.least_path.result c.least_path.ensures
