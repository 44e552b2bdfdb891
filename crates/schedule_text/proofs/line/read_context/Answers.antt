use Rattle.std.proofs.Common.{inr, refl, sym, List, ℕ, subst}
use Rattle.schedule_text.specs.LineFields.{IsContextFields}
use Rattle.schedule_text.proofs.line.read_context.Goals as goal

pub returns-in-Some-clause-read : goal.returns-in-Some-clause-read
returns-in-Some-clause-read c =
    subst (λ (fields : List (List ℕ)). IsContextFields c.args.set.now c.args.t fields c.in-Some.context)
    c.in_ok-fields.ensures c.in-Some.ensures

pub returns-in-None-clause-refused : goal.returns-in-None-clause-refused
returns-in-None-clause-refused c = inr (
  refl,
  λ context f. c.in-None.ensures context
      (subst (λ (fields : List (List ℕ)). IsContextFields c.args.set.now c.args.t fields context) (sym c.in_ok-fields.ensures) f),
)
