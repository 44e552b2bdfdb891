use Rattle.std.proofs.Common.{rules, refl, sym, ◌∙◌, inl}
use Rattle.reach_certificate.proofs.ChangeJudgements.{masked_alone}
use Rattle.reach_certificate.proofs.change.follow_affinity.Goals as goal

pub returns-then-ne-clause-judged : goal.returns-then-ne-clause-judged
returns-then-ne-clause-judged c =
    inl (
      refl,
      masked_alone c.args.links.now c.is_ready.ensures.valid c.args.t c.args.reply.now
          (sym c.is_ready.ensures.value ∙ c.if-not-is_ready.true) (λ e. search rules),
    )
