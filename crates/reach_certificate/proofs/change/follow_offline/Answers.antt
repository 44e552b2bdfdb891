use Rattle.std.proofs.Common.{rules, refl, sym, ◌∙◌, inl}
use Rattle.reach_certificate.proofs.ChangeJudgements.{off_alone}
use Rattle.reach_certificate.proofs.change.follow_offline.Goals as goal

pub returns-then-not-is_online-clause-judged : goal.returns-then-not-is_online-clause-judged
returns-then-not-is_online-clause-judged c =
    inl (
      refl,
      off_alone c.args.links.now c.is_online.ensures.valid c.args.p c.args.reply.now
          (sym c.is_online.ensures.value ∙ c.if-not-is_online.true) (λ e. search rules),
    )
