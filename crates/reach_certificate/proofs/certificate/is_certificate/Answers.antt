use Rattle.std.proofs.Common.{◌≡◌, ℕ, Bool, not, Option, Some, None, IsTrue, ◌↔◌, sym, ◌∙◌}
use Rattle.std.specs.Prelude.{MatchOption, is_some}
use Rattle.std.proofs.lemmas.Bool.{not-true, not-false, true≢false}
use Rattle.affinity_mask.specs.ProcSet.{all_below, Within}
use Rattle.strong_apa.specs.State.{State, IsState}
use Rattle.strong_apa.specs.Certificate.{IsCertificate}
use Rattle.reach_certificate.specs.Defect.{AllFit, IsFirstMisfit, AgainstFits, processor_count}
use Rattle.reach_certificate.proofs.ChainPlaces.{all_fit_no_misfit}
use Rattle.reach_certificate.proofs.Fitting.{waits_fits, waits_passes}
use Rattle.reach_certificate.proofs.certificate.is_certificate.Goals as goal

certified : (s : State) → IsState s → (w x : ℕ) (found : Option ℕ) (answer : Bool) → is_some found ≡ not answer
    → MatchOption found (AllFit (AgainstFits s w x) processor_count) (IsFirstMisfit (AgainstFits s w x) processor_count)
    → Within x (all_below processor_count) → IsTrue answer ↔ IsCertificate s w x
certified s ok w x None answer says fits small = (
  (λ certifies. waits_passes s ok w x fits small),
  (λ certificate. not-false answer (sym says)),
)
certified s ok w x (Some q) answer says misfit small = (
  (λ certifies. absurd (true≢false (sym certifies ∙ not-true answer (sym says)))),
  (λ certificate. absurd (all_fit_no_misfit (AgainstFits s w x) processor_count q (waits_fits s ok w x certificate) misfit)),
)

pub returns : goal.returns
returns c = certified c.args.links.now c.len.ensures.valid c.args.w c.args.x c.first_misfit.result c.is_none.result c.is_none.ensures
    c.first_misfit.ensures.test c.first_misfit.ensures.processors
