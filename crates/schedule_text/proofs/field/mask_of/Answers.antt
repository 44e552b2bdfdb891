use Rattle.std.proofs.Common.{refl, sym, ◌∙◌}
use Rattle.std.proofs.lemmas.Bool.{true≢false}
use Rattle.std.proofs.lemmas.Result.{err_from_is_err_and}
use Rattle.schedule_text.proofs.Fields.{mask_within, mask_none, mask_differs}
use Rattle.schedule_text.proofs.field.mask_of.Goals as goal

pub returns-in_err-mask-clause-refused : goal.returns-in_err-mask-clause-refused
returns-in_err-mask-clause-refused c =
    let p = err_from_is_err_and c.from_residual.result c.from_residual.ensures.1 in
    rw (p.1, p.2) (
      c.in_err-mask.ensures.refused.0,
      mask_none c.args.set.now.processors c.args.field.now
          c.processors.ensures.valid.processors.1 c.in_err-mask.ensures.refused.1,
    )

pub returns-else-within-clause-refused : goal.returns-else-within-clause-refused
returns-else-within-clause-refused c = (
  refl,
  mask_differs c.args.set.now.processors c.args.field.now c.in_ok-mask.mask c.processors.ensures.valid.processors.1
      c.in_ok-mask.ensures.read
      (λ valid. true≢false (sym (c.within.ensures.1 (mask_within c.args.set.now.processors c.processors.result
      c.in_ok-mask.mask c.first-all.result c.processors.ensures.value c.first-all.ensures.contents valid))
      ∙ c.if-within.false)),
)
