-- A task that has just departed, and is linked to its processor again: nothing has changed.
use Rattle.std.proofs.Common.{◌≡◌, ◌≢◌, ℕ, zero, suc, Bool, true, false, List, [], ◌∷◌, get_or, set, map, Option, Some, None, refl, sym, ap}
use Rattle.std.proofs.Common.{◌∙◌, inl, inr}
use Rattle.std.specs.List.{range_with_len}
use Rattle.std.proofs.lemmas.Bool.{cases_eq, false≢true}
use Rattle.std.proofs.lemmas.List.FromFn.{fill_by_all}
use Rattle.strong_apa.specs.State.{State, IsState, task_on, state_with_ready, state_after_leaving}
use Rattle.strong_apa.specs.Chain.{occupant_after_shift, state_after_shift}
use Rattle.strong_apa.proofs.Leaving.{task_on-stays, task_on-state_after_leaving}
use Rattle.strong_apa.proofs.Shifts.{occupant-first, occupant-later}

-- a flag that is lowered and raised again
raised : (flags : List Bool) (t : ℕ) → get_or flags t false ≡ true → set (set flags t false) t true ≡ flags
raised [] t up = absurd (false≢true up)
raised (flag ∷ flags) zero up = ap (λ (b : Bool). b ∷ flags) (sym up)
raised (flag ∷ flags) (suc t) up = ap (λ (rest : List Bool). flag ∷ rest) (raised flags t up)

module _ (s : State) (ok : IsState s) (t p : ℕ) (on : task_on s p ≡ Some t) where
  -- who is on another processor stays
  stays : (q : ℕ) → q ≢ p → task_on s q ≡ task_on (state_after_leaving s t) q
  stays q ne = go (task_on s q) refl (task_on (state_after_leaving s t) q) refl
    where
      go : (before : Option ℕ) → task_on s q ≡ before → (after : Option ℕ) → task_on (state_after_leaving s t) q ≡ after
          → task_on s q ≡ task_on (state_after_leaving s t) q
      go (Some u) e after f = e ∙ sym (task_on-stays s t q u e (λ same. ne (ok.once q p t (e ∙ ap (λ (n : ℕ). Some n) same) on)))
      go None e None f = e ∙ sym f
      go None e (Some u) f = let there = (task_on-state_after_leaving s t q u f).0 in cc

  abbrev again : State
  again = state_with_ready (state_after_leaving s t) t

  linked_again : map (occupant_after_shift again (Some t) (p ∷ [])) (range_with_len 0 s.processors) ≡ s.on
  linked_again =
      sym (fill_by_all (occupant_after_shift again (Some t) (p ∷ [])) s.on s.processors None ok.on_count (λ q lt. elim (cases_eq q p) [
        | inl same ↦ rw same (on ∙ sym (occupant-first again (Some t) p []))
        | inr other ↦ stays q other ∙ sym (occupant-later again (Some t) p [] q other)
      ]))

  pub came_back : state_after_shift again t (p ∷ []) ≡ s
  came_back = λ k. record s { ready = raised s.ready t (ok.linked_ready p t on) k; on = linked_again k }
