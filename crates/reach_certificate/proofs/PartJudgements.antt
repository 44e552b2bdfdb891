-- What an arrival came to, and who came in, is right or has a defect.
use Rattle.std.proofs.Common.{◌≡◌, ℕ, ◌<◌, length, List, Some, None, sym, ap, ◌∙◌, subst, inl, inr, ◌⊎◌, arith}
use Rattle.std.proofs.lemmas.Bool.{cases_eq, cases_lt}
use Rattle.strong_apa.specs.declared.reply.Came.{Came}
use Rattle.strong_apa.specs.declared.reply.Came.TheVariants.{Placed, Displaced, Waits}
use Rattle.strong_apa.specs.declared.reply.Gone.{Gone}
use Rattle.strong_apa.specs.State.{State, IsState, IsMoreUrgent, task_on, effective_mask, priority_of}
use Rattle.strong_apa.specs.Chain.{CanShift}
use Rattle.strong_apa.proofs.Ends.{has_decided, CanShift_decided}
use Rattle.strong_apa.proofs.Least.{Decided}
use Rattle.reach_certificate.specs.Defect.{AllFit, IsFirstMisfit, BeginsFor, MovesBack, PlacedFits, DisplacedFits, FreedFits, ReachFits}
use Rattle.reach_certificate.specs.Defect.{BackFits, AgainstFits, IsNoLessUrgent, processor_count, OverFits, HasBadOver, DisplacesRightly}
use Rattle.reach_certificate.specs.Defect.{DisplacesWrongly, CameIsRight, IsCameDefect, GoneIsRight, IsGoneDefect}
use Rattle.reach_certificate.specs.declared.defect.Defect.{Defect}
use Rattle.reach_certificate.specs.declared.defect.Defect.TheVariants.{BadChain, BadSet, WrongTask}
use Rattle.reach_certificate.proofs.Decisions.{fit_or_misfit, place_decided, moves_back_decided, idle_end_decided, occupied_end_decided}
use Rattle.reach_certificate.proofs.Decisions.{place_is_decided, reach_decided, back_decided, enters_rightly_or_wrongly}
use Rattle.reach_certificate.proofs.ChainEnds.{displaced_end}

-- ---- what an arrival came to
module _ (s : State) (ok : IsState s) (t : ℕ) where
  less_urgent_decided : (a b : ℕ) → Decided (IsMoreUrgent s a b)
  less_urgent_decided a b = elim (cases_lt (priority_of s a) (priority_of s b)) [ inl lt ↦ inl lt | inr ge ↦ inr (λ lt. omega arith) ]

  no_less_decided : (a b : ℕ) → Decided (IsNoLessUrgent s a b)
  no_less_decided a b = elim (cases_lt (priority_of s b) (priority_of s a)) [ inl lt ↦ inr (λ le. omega arith) | inr ge ↦ inl ge ]

  placed_judged : (chain : List ℕ) → AllFit (PlacedFits s t chain) (length chain)
      ⊎ ((i : ℕ) × IsFirstMisfit (PlacedFits s t chain) (length chain) i)
  placed_judged chain = fit_or_misfit (PlacedFits s t chain)
      (place_decided s (BeginsFor s t) (CanShift s) (λ q. task_on s q ≡ None) (λ q. has_decided (effective_mask s t) q) (CanShift_decided s)
      (idle_end_decided s) chain) (length chain)

  displaced_judged : (chain : List ℕ) → AllFit (DisplacedFits s t chain) (length chain)
      ⊎ ((i : ℕ) × IsFirstMisfit (DisplacedFits s t chain) (length chain) i)
  displaced_judged chain = fit_or_misfit (DisplacedFits s t chain)
      (place_decided s (BeginsFor s t) (CanShift s) (λ q. (u : ℕ) × (task_on s q ≡ Some u)) (λ q. has_decided (effective_mask s t) q)
      (CanShift_decided s) (occupied_end_decided s) chain) (length chain)

  over_judged : (chain : List ℕ) (reach : ℕ) → AllFit (DisplacedFits s t chain) (length chain)
      → OverFits s t chain reach ⊎ ((q : ℕ) × HasBadOver s t chain reach q)
  over_judged chain reach fits =
      let d = displaced_end s t chain fits in
      elim (fit_or_misfit (ReachFits s t reach (λ u. IsNoLessUrgent s u d.0))
      (reach_decided s ok t reach (λ u. IsNoLessUrgent s u d.0) (λ u. no_less_decided u d.0)) processor_count) [
        | inl all ↦ inl (d.0, d.1, all)
        | inr bad ↦ inr (bad.0, (d.0, d.1, bad.1))
      ]

  out_judged : (chain : List ℕ) (out : ℕ) → AllFit (DisplacedFits s t chain) (length chain)
      → DisplacesRightly s t chain out ⊎ ((x : ℕ) × DisplacesWrongly s t chain out x)
  out_judged chain out fits =
      let d = displaced_end s t chain fits in
      elim (cases_eq out d.0) [
        | inr another ↦ inr (d.0, (d.1, inl another))
        | inl same ↦ elim (cases_lt (priority_of s t) (priority_of s d.0)) [
          | inl less ↦ inl (d.1 ∙ ap (λ (n : ℕ). Some n) (sym same), subst (λ (n : ℕ). priority_of s t < priority_of s n) (sym same) less)
          | inr no_less ↦ inr (d.0, (d.1, inr no_less))
        ]
      ]

  pub came_judged : (came : Came) → CameIsRight s t came ⊎ ((defect : Defect) × IsCameDefect s t came defect)
  came_judged (Placed chain) = elim (placed_judged chain) [
    | inl all ↦ inl all
    | inr bad ↦ inr (BadChain bad.0, bad.1)
  ]
  came_judged (Displaced chain out reach) = elim (displaced_judged chain) [
    | inr bad ↦ inr (BadChain bad.0, bad.1)
    | inl fits ↦ elim (over_judged chain reach fits) [
      | inr bad ↦ inr (BadSet bad.0, (fits, bad.1))
      | inl set ↦ elim (out_judged chain out fits) [
        | inr wrong ↦ inr (WrongTask wrong.0, (fits, set, wrong.1))
        | inl tasks ↦ inl record { places = fits; set = set; tasks = tasks }
      ]
    ]
  ]
  came_judged (Waits reach) = elim (fit_or_misfit (AgainstFits s t reach)
      (reach_decided s ok t reach (λ u. IsMoreUrgent s u t) (λ u. less_urgent_decided u t)) processor_count) [
        | inl all ↦ inl all
        | inr bad ↦ inr (BadSet bad.0, bad.1)
      ]

-- ---- who came in
pub gone_judged : (s : State) → IsState s → (p : ℕ) (gone : Gone)
    → GoneIsRight s p gone ⊎ ((defect : Defect) × IsGoneDefect s p gone defect)
gone_judged s ok p gone = elim (fit_or_misfit (FreedFits s p gone.entered gone.chain)
    (place_decided s (λ q. q ≡ p) (MovesBack s gone.entered) (λ q. Unit {0}) (place_is_decided p) (moves_back_decided s gone.entered)
    (λ q. inl tt) gone.chain) (length gone.chain)) [
      | inr bad ↦ inr (BadChain bad.0, bad.1)
      | inl fits ↦ elim (fit_or_misfit (BackFits s p gone.back) (back_decided s ok p gone.back) processor_count) [
        | inr bad ↦ inr (BadSet bad.0, (fits, bad.1))
        | inl set ↦ elim (enters_rightly_or_wrongly s ok gone.entered gone.chain gone.back) [
          | inr wrong ↦ inr (WrongTask wrong.0, (fits, set, wrong.1))
          | inl tasks ↦ inl record { chain = fits; set = set; tasks = tasks }
        ]
      ]
    ]
