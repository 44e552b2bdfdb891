-- What an arrival came to, and who came in, either is right or has one defect.
use Rattle.std.proofs.Common.{◌≡◌, ℕ, true, List, length, Option, Some, None, sym, ap, ◌∙◌, subst, inl, inr, arith, le_antisymm}
use Rattle.std.proofs.lemmas.Option.{same_Some}
use Rattle.strong_apa.specs.declared.reply.Came.{Came}
use Rattle.strong_apa.specs.declared.reply.Came.TheVariants.{Placed, Displaced, Waits}
use Rattle.strong_apa.specs.declared.reply.Gone.{Gone}
use Rattle.strong_apa.specs.State.{State, IsState, is_ready, priority_of}
use Rattle.strong_apa.specs.Step.{IsNobodyInto, IsMostUrgentInto}
use Rattle.strong_apa.proofs.Unique.{ready_number}
use Rattle.reach_certificate.specs.Defect.{AllFit, IsFirstMisfit, PlacedFits, DisplacedFits, FreedFits, ReachFits, BackFits, AgainstFits}
use Rattle.reach_certificate.specs.Defect.{IsNoLessUrgent, processor_count, OverFits, HasBadOver, EntersRightly, EntersWrongly}
use Rattle.reach_certificate.specs.Defect.{DisplacesRightly, DisplacesWrongly, DisplacedIsRight, CameIsRight, IsDisplacedDefect}
use Rattle.reach_certificate.specs.Defect.{IsCameDefect, GoneIsRight, IsGoneDefect}
use Rattle.reach_certificate.specs.declared.defect.Defect.{Defect}
use Rattle.reach_certificate.specs.declared.defect.Defect.TheVariants.{WrongReply, BadChain, BadSet, WrongTask}
use Rattle.reach_certificate.proofs.ChainPlaces.{all_fit_no_misfit, misfit_unique}

-- ---- tasks
-- ready tasks of one priority are one task
abbrev pub IsDistinct : State → Type 0
IsDistinct s = (t u : ℕ) → is_ready s t ≡ true → is_ready s u ≡ true → priority_of s t ≡ priority_of s u → t ≡ u

pub is_distinct : (s : State) → IsState s → IsDistinct s
is_distinct s ok t u ready other = ok.distinct t u (ready_number s ok t ready) (ready_number s ok u other)

module _ (s : State) (distinct : IsDistinct s) where
  most_urgent_unique : (back v w : ℕ) → IsMostUrgentInto s back v → IsMostUrgentInto s back w → v ≡ w
  most_urgent_unique back v w one other =
      distinct v w one.waits.ready other.waits.ready
      (le_antisymm (one.most_urgent w other.there.0 other.waits other.there.1 other.there.2)
      (other.most_urgent v one.there.0 one.waits one.there.1 one.there.2))

  somebody : (back v : ℕ) → IsMostUrgentInto s back v → IsNobodyInto s back → ⊥
  somebody back v most nobody = nobody v most.there.0 most.waits most.there.1 most.there.2

  enters_rightly_or_not : (entered : Option ℕ) (chain : List ℕ) (back x : ℕ) → EntersRightly s entered chain back
      → EntersWrongly s entered chain back x → ⊥
  enters_rightly_or_not None chain back x rightly (inl most) = somebody back x most.0 rightly
  enters_rightly_or_not None chain back x rightly (inr nobody) = let e = nobody.1 in cc
  enters_rightly_or_not (Some w) chain back x rightly (inl most) = elim most.1 [
    | inl another ↦ another (ap (λ (n : ℕ). Some n) (most_urgent_unique back w x rightly.0 most.0))
    | inr not_there ↦ not_there (rw (← most_urgent_unique back w x rightly.0 most.0) rightly.1)
  ]
  enters_rightly_or_not (Some w) chain back x rightly (inr nobody) = somebody back w rightly.0 nobody.0

  enters_wrongly_unique : (entered : Option ℕ) (chain : List ℕ) (back x y : ℕ) → EntersWrongly s entered chain back x
      → EntersWrongly s entered chain back y → x ≡ y
  enters_wrongly_unique entered chain back x y (inl one) (inl other) = most_urgent_unique back x y one.0 other.0
  enters_wrongly_unique entered chain back x y (inl one) (inr other) = absurd (somebody back x one.0 other.0)
  enters_wrongly_unique entered chain back x y (inr one) (inl other) = absurd (somebody back y other.0 one.0)
  enters_wrongly_unique entered chain back x y (inr one) (inr other) = same_Some x y (sym one.1 ∙ other.1)

-- ---- what an arrival came to
module _ (s : State) (t : ℕ) where
  abbrev Over : ℕ → ℕ → ℕ → Type 0
  Over reach d q = ReachFits s t reach (λ u. IsNoLessUrgent s u d) q

  over_fits_or_not : (chain : List ℕ) (reach q : ℕ) → OverFits s t chain reach → HasBadOver s t chain reach q → ⊥
  over_fits_or_not chain reach q all bad =
      all_fit_no_misfit (Over reach bad.0) processor_count q
      (subst (λ (d : ℕ). AllFit (Over reach d) processor_count) (same_Some all.0 bad.0 (sym all.1 ∙ bad.1)) all.2) bad.2

  bad_over_unique : (chain : List ℕ) (reach q r : ℕ) → HasBadOver s t chain reach q → HasBadOver s t chain reach r → q ≡ r
  bad_over_unique chain reach q r one other =
      misfit_unique (Over reach other.0) processor_count q r
      (subst (λ (d : ℕ). IsFirstMisfit (Over reach d) processor_count q) (same_Some one.0 other.0 (sym one.1 ∙ other.1)) one.2) other.2

  displaces_rightly_or_not : (chain : List ℕ) (out x : ℕ) → DisplacesRightly s t chain out → DisplacesWrongly s t chain out x → ⊥
  displaces_rightly_or_not chain out x right wrong =
      let same : out ≡ x = same_Some out x (sym right.0 ∙ wrong.0) in
      elim wrong.1 [
        | inl another ↦ another same
        | inr no_less ↦ let e = ap (priority_of s) same in let less = right.1 in omega arith
      ]

  displaced_right_or_not : (chain : List ℕ) (out reach : ℕ) (defect : Defect) → DisplacedIsRight s t chain out reach
      → IsDisplacedDefect s t chain out reach defect → ⊥
  displaced_right_or_not chain out reach (BadChain i) right bad =
      all_fit_no_misfit (DisplacedFits s t chain) (length chain) i right.places bad
  displaced_right_or_not chain out reach (BadSet q) right bad = over_fits_or_not chain reach q right.set bad.1
  displaced_right_or_not chain out reach (WrongTask x) right bad = displaces_rightly_or_not chain out x right.tasks bad.2
  displaced_right_or_not chain out reach _ right bad = bad

  pub came_right_or_not : (came : Came) (defect : Defect) → CameIsRight s t came → IsCameDefect s t came defect → ⊥
  came_right_or_not (Placed chain) (BadChain i) right bad = all_fit_no_misfit (PlacedFits s t chain) (length chain) i right bad
  came_right_or_not (Displaced chain out reach) defect right bad = displaced_right_or_not chain out reach defect right bad
  came_right_or_not (Waits reach) (BadSet q) right bad = all_fit_no_misfit (AgainstFits s t reach) processor_count q right bad
  came_right_or_not _ _ right bad = bad

  displaced_defect_unique : (chain : List ℕ) (out reach : ℕ) (one other : Defect) → IsDisplacedDefect s t chain out reach one
      → IsDisplacedDefect s t chain out reach other → one ≡ other
  displaced_defect_unique chain out reach (BadChain i) (BadChain j) one other =
      ap (λ (n : ℕ). BadChain n) (misfit_unique (DisplacedFits s t chain) (length chain) i j one other)
  displaced_defect_unique chain out reach (BadChain i) (BadSet r) one other =
      absurd (all_fit_no_misfit (DisplacedFits s t chain) (length chain) i other.0 one)
  displaced_defect_unique chain out reach (BadChain i) (WrongTask y) one other =
      absurd (all_fit_no_misfit (DisplacedFits s t chain) (length chain) i other.0 one)
  displaced_defect_unique chain out reach (BadSet q) (BadChain j) one other =
      absurd (all_fit_no_misfit (DisplacedFits s t chain) (length chain) j one.0 other)
  displaced_defect_unique chain out reach (BadSet q) (BadSet r) one other =
      ap (λ (n : ℕ). BadSet n) (bad_over_unique chain reach q r one.1 other.1)
  displaced_defect_unique chain out reach (BadSet q) (WrongTask y) one other = absurd (over_fits_or_not chain reach q other.1 one.1)
  displaced_defect_unique chain out reach (WrongTask x) (BadChain j) one other =
      absurd (all_fit_no_misfit (DisplacedFits s t chain) (length chain) j one.0 other)
  displaced_defect_unique chain out reach (WrongTask x) (BadSet r) one other = absurd (over_fits_or_not chain reach r one.1 other.1)
  displaced_defect_unique chain out reach (WrongTask x) (WrongTask y) one other =
      ap (λ (n : ℕ). WrongTask n) (same_Some x y (sym one.2.0 ∙ other.2.0))
  displaced_defect_unique chain out reach WrongReply _ one other = absurd one
  displaced_defect_unique chain out reach _ WrongReply one other = absurd other

  pub came_defect_unique : (came : Came) (one other : Defect) → IsCameDefect s t came one → IsCameDefect s t came other → one ≡ other
  came_defect_unique (Placed chain) (BadChain i) (BadChain j) one other =
      ap (λ (n : ℕ). BadChain n) (misfit_unique (PlacedFits s t chain) (length chain) i j one other)
  came_defect_unique (Displaced chain out reach) d e one other = displaced_defect_unique chain out reach d e one other
  came_defect_unique (Waits reach) (BadSet q) (BadSet r) one other =
      ap (λ (n : ℕ). BadSet n) (misfit_unique (AgainstFits s t reach) processor_count q r one other)
  came_defect_unique _ _ _ one other = absurd assumption

-- ---- who came in
module _ (s : State) (distinct : IsDistinct s) (p : ℕ) (gone : Gone) where
  abbrev Chain : ℕ → Type 0
  Chain i = FreedFits s p gone.entered gone.chain i

  abbrev Set : ℕ → Type 0
  Set q = BackFits s p gone.back q

  pub gone_right_or_not : (defect : Defect) → GoneIsRight s p gone → IsGoneDefect s p gone defect → ⊥
  gone_right_or_not (BadChain i) right bad = all_fit_no_misfit Chain (length gone.chain) i right.chain bad
  gone_right_or_not (BadSet q) right bad = all_fit_no_misfit Set processor_count q right.set bad.1
  gone_right_or_not (WrongTask x) right bad = enters_rightly_or_not s distinct gone.entered gone.chain gone.back x right.tasks bad.2
  gone_right_or_not _ right bad = bad

  pub gone_defect_unique : (one other : Defect) → IsGoneDefect s p gone one → IsGoneDefect s p gone other → one ≡ other
  gone_defect_unique (BadChain i) (BadChain j) one other =
      ap (λ (n : ℕ). BadChain n) (misfit_unique Chain (length gone.chain) i j one other)
  gone_defect_unique (BadChain i) (BadSet r) one other = absurd (all_fit_no_misfit Chain (length gone.chain) i other.0 one)
  gone_defect_unique (BadChain i) (WrongTask y) one other = absurd (all_fit_no_misfit Chain (length gone.chain) i other.0 one)
  gone_defect_unique (BadSet q) (BadChain j) one other = absurd (all_fit_no_misfit Chain (length gone.chain) j one.0 other)
  gone_defect_unique (BadSet q) (BadSet r) one other = ap (λ (n : ℕ). BadSet n) (misfit_unique Set processor_count q r one.1 other.1)
  gone_defect_unique (BadSet q) (WrongTask y) one other = absurd (all_fit_no_misfit Set processor_count q other.1 one.1)
  gone_defect_unique (WrongTask x) (BadChain j) one other = absurd (all_fit_no_misfit Chain (length gone.chain) j one.0 other)
  gone_defect_unique (WrongTask x) (BadSet r) one other = absurd (all_fit_no_misfit Set processor_count r one.1 other.1)
  gone_defect_unique (WrongTask x) (WrongTask y) one other =
      ap (λ (n : ℕ). WrongTask n) (enters_wrongly_unique s distinct gone.entered gone.chain gone.back x y one.2 other.2)
  gone_defect_unique WrongReply _ one other = absurd one
  gone_defect_unique _ WrongReply one other = absurd other
