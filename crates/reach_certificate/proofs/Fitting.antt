-- What an arrival came to passes just where its chain, its set and its tasks are right, and so does who came in.
use Rattle.std.proofs.Common.{◌≡◌, ℕ, zero, suc, ◌<◌, List, [], ◌∷◌, length, get_or, Option, Some, None, refl, sym, ap, ◌∙◌, subst, inl}
use Rattle.std.proofs.Common.{inr, IsTrue, arith}
use Rattle.std.specs.Prelude.{All}
use Rattle.std.proofs.lemmas.Bool.{cases_Bool, true≢false, ltb-true}
use Rattle.std.proofs.lemmas.List.Elements.{All-head}
use Rattle.std.proofs.lemmas.Option.{same_Some}
use Rattle.affinity_mask.specs.ProcSet.{has, all_below, Within}
use Rattle.affinity_mask.proofs.Sets.{has-all_below}
use Rattle.strong_apa.specs.declared.reply.Came.{Came}
use Rattle.strong_apa.specs.declared.reply.Came.TheVariants.{Placed, Displaced, Waits}
use Rattle.strong_apa.specs.declared.reply.Gone.{Gone}
use Rattle.strong_apa.specs.Reply.{reply_of_came}
use Rattle.strong_apa.specs.State.{State, IsState, task_on}
use Rattle.strong_apa.specs.Chain.{CanShift, CanEnterAt, IsPath, IsChainOf, IsBackChain, IsSimple}
use Rattle.strong_apa.specs.Certificate.{IsCertificate}
use Rattle.strong_apa.proofs.Linked.{occupied_number}
use Rattle.strong_apa.proofs.Masks.{effective_mask_below}
use Rattle.strong_apa.proofs.Paths.{Reaches-online}
use Rattle.strong_apa.proofs.Shifts.{chain_below}
use Rattle.strong_apa.proofs.Simple.{IsSimple-cons}
use Rattle.strong_apa.specs.Passing.{PlacedPasses, DisplacedPasses, CamePasses, IsBackClosed, EnteringPasses, GonePasses}
use Rattle.reach_certificate.specs.Defect.{AllFit, FitsAt, BeginsFor, PlacedFits, MovesBack, FreedFits, ReachFits, BackFits, AgainstFits}
use Rattle.reach_certificate.specs.Defect.{IsNoLessUrgent, last_processor, processor_count, EntersRightly, DisplacedIsRight, CameIsRight}
use Rattle.reach_certificate.specs.Defect.{GoneIsRight, HasSetsOfProcessors}
use Rattle.reach_certificate.proofs.ChainPlaces.{path_map, path_last, fit_is_simple, fit_begins, fit_path, fit_ends, all_places_fit}

-- a number of a set of processors is below their count
below_count : (X q : ℕ) → Within X (all_below processor_count) → IsTrue (has X q) → q < processor_count
below_count X q within h = ltb-true q processor_count (sym (has-all_below processor_count q) ∙ within q h)

-- the set of a reply that has one
pub only_set : (set : ℕ) → All (λ X. Within X (all_below processor_count)) (set ∷ []) → Within set (all_below processor_count)
only_set set small = All-head (λ X. Within X (all_below processor_count)) set [] small

-- ---- what an arrival came to
module _ (s : State) (ok : IsState s) (t : ℕ) where
  processor_fits : (q : ℕ) → q < s.processors → q < processor_count
  processor_fits q lt = let m = ok.processors in omega arith

  -- a chain that fits is a chain of t to the last processor
  fit_is_chain : (Ends : ℕ → Type 0) (chain : List ℕ) → AllFit (FitsAt s (BeginsFor s t) (CanShift s) Ends chain) (length chain)
      → IsChainOf s t chain (last_processor chain) × Ends (last_processor chain)
  fit_is_chain Ends [] all = let there = (all 0 (inl refl)).there in absurd (omega arith)
  fit_is_chain Ends (x ∷ rest) all = (
    (fit_begins s (BeginsFor s t) (CanShift s) Ends x rest all, fit_path s (BeginsFor s t) (CanShift s) Ends x rest all),
    fit_ends s (BeginsFor s t) (CanShift s) Ends x rest all,
  )

  chain_fits : (Ends : ℕ → Type 0) (chain : List ℕ) (q : ℕ) → IsChainOf s t chain q → Ends q → IsSimple chain
      → AllFit (FitsAt s (BeginsFor s t) (CanShift s) Ends chain) (length chain)
  chain_fits Ends [] q c ends simple = absurd c
  chain_fits Ends (x ∷ rest) q c ends simple =
      all_places_fit s (BeginsFor s t) (CanShift s) Ends x rest q c.0 c.1 ends simple (chain_below s ok t (x ∷ rest) q c)

  chain_last : (chain : List ℕ) (q : ℕ) → IsChainOf s t chain q → last_processor chain ≡ q
  chain_last [] q c = absurd c
  chain_last (x ∷ rest) q c = path_last (CanShift s) x rest q c.1

  -- placed
  pub placed_fits : (chain : List ℕ) → PlacedPasses s t chain → AllFit (PlacedFits s t chain) (length chain)
  placed_fits chain passes = chain_fits (λ q. task_on s q ≡ None) chain passes.ends.0 passes.ends.1 passes.ends.2.1 passes.simple

  pub placed_passes : (chain : List ℕ) → AllFit (PlacedFits s t chain) (length chain) → PlacedPasses s t chain
  placed_passes chain all =
      let c = fit_is_chain (λ q. task_on s q ≡ None) chain all in
      record {
        ends = (last_processor chain, c.0, (Reaches-online s t (last_processor chain) (chain, c.0), c.1));
        simple = fit_is_simple s (BeginsFor s t) (CanShift s) (λ q. task_on s q ≡ None) chain all;
      }

  -- displaced
  abbrev Occupied : ℕ → Type 0
  Occupied q = (u : ℕ) × (task_on s q ≡ Some u)

  displaced_last : (chain : List ℕ) (out reach : ℕ) → DisplacedPasses s t chain out reach → task_on s (last_processor chain) ≡ Some out
  displaced_last chain out reach passes = ap (task_on s) (chain_last chain passes.ends.0 passes.ends.1) ∙ passes.ends.2

  pub displaced_right : (chain : List ℕ) (out reach : ℕ) → DisplacedPasses s t chain out reach → DisplacedIsRight s t chain out reach
  displaced_right chain out reach passes = record {
    places = chain_fits Occupied chain passes.ends.0 passes.ends.1 (out, passes.ends.2) passes.simple;
    set = (out, displaced_last chain out reach passes, λ q looked_at. record { mask = passes.mask q; held = passes.full q });
    tasks = (displaced_last chain out reach passes, passes.out_less_urgent);
  }

  pub displaced_passes : (chain : List ℕ) (out reach : ℕ) → DisplacedIsRight s t chain out reach → Within reach (all_below processor_count)
      → DisplacedPasses s t chain out reach
  displaced_passes chain out reach right small =
      let c = fit_is_chain Occupied chain right.places in
      let d = right.set.0 in
      let same : d ≡ out = same_Some d out (sym right.set.1 ∙ right.tasks.0) in
      let fits : AllFit (ReachFits s t reach (λ u. IsNoLessUrgent s u out)) processor_count = subst
      (λ (n : ℕ). AllFit (ReachFits s t reach (λ u. IsNoLessUrgent s u n)) processor_count) same right.set.2 in
      record {
        ends = (last_processor chain, c.0, right.tasks.0);
        simple = fit_is_simple s (BeginsFor s t) (CanShift s) Occupied chain right.places;
        out_less_urgent = right.tasks.1;
        mask = λ q h. (fits q (inr (processor_fits q (effective_mask_below s ok t q h)))).mask h;
        full = λ q h. (fits q (inr (below_count reach q small h))).held h;
      }

  -- waits
  pub waits_fits : (reach : ℕ) → IsCertificate s t reach → AllFit (AgainstFits s t reach) processor_count
  waits_fits reach certificate q looked_at = record {
    mask = certificate.within q;
    held = λ h. let u = certificate.occupied q h in (u.0, u.1, u.3, u.2);
  }

  pub waits_passes : (reach : ℕ) → AllFit (AgainstFits s t reach) processor_count → Within reach (all_below processor_count)
      → IsCertificate s t reach
  waits_passes reach fits small = record {
    within = λ q h. (fits q (inr (processor_fits q (effective_mask_below s ok t q h)))).mask h;
    occupied = λ q h. let u = (fits q (inr (below_count reach q small h))).held h in (u.0, u.1, u.3, u.2);
  }

  -- whatever it is
  pub came_right : (came : Came) → CamePasses s t came → CameIsRight s t came
  came_right (Placed chain) passes = placed_fits chain passes
  came_right (Displaced chain out reach) passes = displaced_right chain out reach passes
  came_right (Waits reach) passes = waits_fits reach passes

  pub came_passes : (came : Came) → HasSetsOfProcessors (reply_of_came came) → CameIsRight s t came → CamePasses s t came
  came_passes (Placed chain) small right = placed_passes chain right
  came_passes (Displaced chain out reach) small right = displaced_passes chain out reach right (only_set reach small)
  came_passes (Waits reach) small right = waits_passes reach right (only_set reach small)

-- ---- who came in, where p has become idle in the state s
module _ (s : State) (ok : IsState s) (p : ℕ) (below_p : p < s.processors) where
  abbrev StepsBack : ℕ → ℕ → Type 0
  StepsBack a b = CanShift s b a

  back_below : (x : ℕ) (rest : List ℕ) (q : ℕ) → IsPath StepsBack x rest q → x < s.processors → (i : ℕ) → i < length (x ∷ rest)
      → get_or (x ∷ rest) i 0 < s.processors
  back_below x rest q path first zero lt = first
  back_below x [] q path first (suc i) lt = absurd (omega arith)
  back_below x (r ∷ rest) q path first (suc i) lt = back_below r rest q path.1 (occupied_number s r path.0.0 ok path.0.1) i (omega arith)

  -- the places of a chain along which w enters
  entry_fits : (w : ℕ) (chain : List ℕ) (q : ℕ) → IsBackChain s p chain q → IsSimple chain
      → AllFit (FreedFits s p (Some w) chain) (length chain)
  entry_fits w [] q c simple = absurd c
  entry_fits w (x ∷ rest) q c simple =
      let path : IsPath StepsBack x rest q = subst (λ (y : ℕ). IsPath StepsBack y rest q) (sym c.0) c.1 in
      all_places_fit s (λ y. y ≡ p) (MovesBack s (Some w)) (λ y. Unit {0}) x rest q c.0
      (path_map StepsBack (MovesBack s (Some w)) (λ a b step. (refl, step)) x rest q path) tt simple
      (back_below x rest q path (subst (λ (y : ℕ). y < s.processors) (sym c.0) below_p))

  nobody_fits : (chain : List ℕ) → chain ≡ p ∷ [] → AllFit (FreedFits s p None chain) (length chain)
  nobody_fits chain alone = subst (λ (xs : List ℕ). AllFit (FreedFits s p None xs) (length xs)) (sym alone)
      (all_places_fit s (λ y. y ≡ p) (MovesBack s None) (λ y. Unit {0}) p [] p refl refl tt
      (IsSimple-cons p [] (λ i lt. absurd (omega arith)) (λ i j d lt fits. absurd (omega arith)))
      (λ i lt. subst (λ (n : ℕ). get_or (p ∷ []) n 0 < s.processors) (let e : 0 ≡ i = omega arith in e) below_p))

  pub enters_fits : (entered : Option ℕ) (chain : List ℕ) (back : ℕ) → EnteringPasses s p entered chain back
      → AllFit (FreedFits s p entered chain) (length chain)
  enters_fits None chain back passes = nobody_fits chain passes.1
  enters_fits (Some w) chain back passes = let end = passes.1 in entry_fits w chain end.0 end.1 passes.2

  back_last : (chain : List ℕ) (q : ℕ) → IsBackChain s p chain q → last_processor chain ≡ q
  back_last [] q c = absurd c
  back_last (x ∷ rest) q c = path_last StepsBack x rest q (subst (λ (y : ℕ). IsPath StepsBack y rest q) (sym c.0) c.1)

  pub enters_rightly : (entered : Option ℕ) (chain : List ℕ) (back : ℕ) → EnteringPasses s p entered chain back
      → EntersRightly s entered chain back
  enters_rightly None chain back passes = passes.0
  enters_rightly (Some w) chain back passes =
      let end = passes.1 in (passes.0, subst (CanEnterAt s w) (sym (back_last chain end.0 end.1)) end.2)

  -- a chain that fits, where nobody enters, is p alone
  fit_is_alone : (chain : List ℕ) → AllFit (FreedFits s p None chain) (length chain) → chain ≡ p ∷ []
  fit_is_alone [] all = let there = (all 0 (inl refl)).there in absurd (omega arith)
  fit_is_alone (x ∷ []) all = ap (λ (y : ℕ). y ∷ []) (fit_begins s (λ y. y ≡ p) (MovesBack s None) (λ y. Unit {0}) x [] all)
  fit_is_alone (x ∷ r ∷ rest) all = let moves = (all 1 (inr (omega arith))).next 0 (omega arith) in absurd (true≢false (sym moves.0))

  fit_is_back_chain : (w : ℕ) (chain : List ℕ) → AllFit (FreedFits s p (Some w) chain) (length chain)
      → IsBackChain s p chain (last_processor chain)
  fit_is_back_chain w [] all = let there = (all 0 (inl refl)).there in absurd (omega arith)
  fit_is_back_chain w (x ∷ rest) all =
      let first = fit_begins s (λ y. y ≡ p) (MovesBack s (Some w)) (λ y. Unit {0}) x rest all in (
        first,
        subst (λ (y : ℕ). IsPath StepsBack y rest (last_processor (x ∷ rest))) first
            (path_map (MovesBack s (Some w)) StepsBack (λ a b step. step.1) x rest (last_processor (x ∷ rest))
            (fit_path s (λ y. y ≡ p) (MovesBack s (Some w)) (λ y. Unit {0}) x rest all)),
      )

  pub entry_passes : (entered : Option ℕ) (chain : List ℕ) (back : ℕ) → AllFit (FreedFits s p entered chain) (length chain)
      → EntersRightly s entered chain back → EnteringPasses s p entered chain back
  entry_passes None chain back all rightly = (rightly, fit_is_alone chain all)
  entry_passes (Some w) chain back all rightly = (
    rightly.0,
    (last_processor chain, fit_is_back_chain w chain all, rightly.1),
    fit_is_simple s (λ y. y ≡ p) (MovesBack s (Some w)) (λ y. Unit {0}) chain all,
  )

  pub back_fits : (back : ℕ) → IsTrue (has back p) → ((q : ℕ) → IsTrue (has back q) → q < s.processors) → IsBackClosed s back
      → AllFit (BackFits s p back) processor_count
  back_fits back has_p below closed q looked_at = record {
    place = λ e. subst (λ (n : ℕ). IsTrue (has back n)) (sym e) has_p;
    below = below q;
    closed = λ outside r inside shift. true≢false (sym (closed q r inside shift) ∙ outside);
  }

  module _ (back : ℕ) (fits : AllFit (BackFits s p back) processor_count) (small : Within back (all_below processor_count)) where
    at_processor : (q : ℕ) → q < s.processors → BackFits s p back q
    at_processor q lt = fits q (inr (let m = ok.processors in omega arith))

    pub fit_has_place : IsTrue (has back p)
    fit_has_place = (at_processor p below_p).place refl

    pub fit_below : (q : ℕ) → IsTrue (has back q) → q < s.processors
    fit_below q h = (fits q (inr (below_count back q small h))).below h

    pub fit_closed : IsBackClosed s back
    fit_closed q r inside shift = elim (cases_Bool (has back q)) [
      | inl h ↦ h
      | inr outside ↦ absurd ((at_processor q (occupied_number s q shift.0 ok shift.1)).closed outside r inside shift)
    ]

  -- all parts of who came in
  pub gone_right : (gone : Gone) → GonePasses s p gone → GoneIsRight s p gone
  gone_right gone passes = record {
    chain = enters_fits gone.entered gone.chain gone.back passes.enters;
    set = back_fits gone.back passes.has_place passes.below passes.closed;
    tasks = enters_rightly gone.entered gone.chain gone.back passes.enters;
  }

  pub gone_passes : (gone : Gone) → Within gone.back (all_below processor_count) → GoneIsRight s p gone → GonePasses s p gone
  gone_passes gone small right = record {
    has_place = fit_has_place gone.back right.set small;
    below = fit_below gone.back right.set small;
    closed = fit_closed gone.back right.set small;
    enters = entry_passes gone.entered gone.chain gone.back right.chain right.tasks;
  }
