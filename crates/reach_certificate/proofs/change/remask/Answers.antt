use Rattle.std.proofs.Common.{◌≡◌, ℕ, Option, Some, None, ◌∙◌, ap, subst, inr}
use Rattle.std.specs.Prelude.{MatchOption}
use Rattle.strong_apa.specs.declared.reply.Came.{Came}
use Rattle.strong_apa.specs.declared.reply.Gone.{Gone}
use Rattle.strong_apa.specs.State.{State, IsState, state_with_mask}
use Rattle.strong_apa.specs.History.{state_after_left}
use Rattle.strong_apa.specs.Passing.{CamePasses, LeavingPasses}
use Rattle.reach_certificate.specs.Defect.{IsCameDefect, IsReturnDefect}
use Rattle.reach_certificate.specs.Returning.{ReturnsRightly}
use Rattle.reach_certificate.specs.declared.defect.Defect.{Defect}
use Rattle.reach_certificate.proofs.ChangeDefects.{leaving_right}
use Rattle.reach_certificate.proofs.change.remask.Goals as goal

returned : (s : State) → IsState s → (t mask : ℕ) (gone : Option Gone) (came : Came) → LeavingPasses s t gone → (back : State)
    → back ≡ state_with_mask (state_after_left s t gone) t mask
    → (found : Option Defect) → MatchOption found (CamePasses back t came) (IsCameDefect back t came)
    → MatchOption found (ReturnsRightly s t mask gone came) (IsReturnDefect s t mask gone came)
returned s ok t mask before came leaves back is None comes = (leaves, subst (λ (b : State). CamePasses b t came) is comes)
returned s ok t mask before came leaves back is (Some defect) bad =
    inr (leaving_right s ok t before leaves, subst (λ (b : State). IsCameDefect b t came defect) is bad)

pub returns-clause-judged : goal.returns-clause-judged
returns-clause-judged c =
    returned c.args.links.now c.len.ensures.valid c.args.t c.args.mask c.args.gone.now c.args.came.now c.in_default.ensures.judged
    c.set_mask.new.self
    (c.set_mask.ensures.mask ∙ ap (λ (b : State). state_with_mask b c.args.t c.args.mask) c.in_default.ensures.followed)
    c.come.result c.come.ensures.judged
