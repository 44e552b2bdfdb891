-- The search for all that paths from a set lead to.
use Rattle.std.proofs.Common.{◌≡◌, ℕ, false, not, ◌&&◌, ◌||◌, List, [], ◌∷◌, ◌++◌, nat_eq, refl, sym, ◌∙◌, subst, inl, inr, ◌↔◌, IsTrue}
use Rattle.std.proofs.lemmas.Bool.{cases_Bool, or_cases, or_left, or_right, and_parts, and_from, not-true, not_from_false}
use Rattle.affinity_mask.specs.ProcSet.{has, empty, Within}
use Rattle.affinity_mask.proofs.Meetings.{no_member}
use Rattle.strong_apa.specs.Chain.{IsPath}
use Rattle.strong_apa.specs.State.{State, IsState}
use Rattle.path_search.specs.declared.direction.Direction.{Direction}
use Rattle.path_search.specs.Paths.{IsPathFrom, LeadsTo, Steps}
use Rattle.path_search.proofs.LeastPaths.{IsPathFrom-push}
use Rattle.path_search.proofs.Moves.{Steps-online}
use Rattle.affinity_mask.proofs.Sets.{added_cases}

-- what is found is led to, and the steps from what is done lead to what is found
pub record IsSearch (Step : ℕ → ℕ → Type 0) (start found done : ℕ) : Type 0 where
  pub sound : (q : ℕ) → IsTrue (has found q) → LeadsTo Step start q
  pub begun : Within start found
  pub within : Within done found
  pub closed : (p q : ℕ) → IsTrue (has done p) → Step p q → IsTrue (has found q)

pub IsSearch-start : (Step : ℕ → ℕ → Type 0) (start done : ℕ) → done ≡ empty → IsSearch Step start start done
IsSearch-start Step start done none = record {
  sound = λ q h. (q ∷ [], (h, refl));
  begun = λ q h. h;
  within = λ q h. absurd (no_member done q none h);
  closed = λ p q h. absurd (no_member done p none h);
}

-- `todo` has what is found and not done
module _ (Step : ℕ → ℕ → Type 0) (start found done todo : ℕ) (so_far : IsSearch Step start found done) (is_todo : (q : ℕ)
    → has todo q ≡ (has found q && not (has done q))) where
  module _ (p : ℕ) (next : IsTrue (has todo p)) where
    pub next_found : IsTrue (has found p)
    next_found = (and_parts (has found p) (not (has done p)) (sym (is_todo p) ∙ next)).0

    pub next_fresh : has done p ≡ false
    next_fresh = not-true (has done p) ((and_parts (has found p) (not (has done p)) (sym (is_todo p) ∙ next)).1)

    -- the next processor is done once what follows it is found
    pub IsSearch-more : (after done' found' : ℕ) → ((q : ℕ) → has done' q ≡ (has done q || nat_eq q p))
        → ((q : ℕ) → IsTrue (has after q) ↔ Step p q) → ((q : ℕ) → has found' q ≡ (has found q || has after q))
        → IsSearch Step start found' done'
    IsSearch-more after done' found' added is_after grown = record {
      sound = λ q h. elim (or_cases (has found q) (has after q) (sym (grown q) ∙ h)) [
        | inl before ↦ so_far.sound q before
        | inr new ↦ (let path = so_far.sound p next_found in
            (path.0 ++ q ∷ [], IsPathFrom-push Step start path.0 p q path.1 ((is_after q).0 new)))
      ];
      begun = λ q h. keeps q (so_far.begun q h);
      within = λ q h. elim (added_cases done done' p added q h) [
        | inl before ↦ keeps q (so_far.within q before)
        | inr e ↦ subst (λ (x : ℕ). IsTrue (has found' x)) (sym e) (keeps p next_found)
      ];
      closed = λ r q h step. elim (added_cases done done' p added r h) [
        | inl before ↦ keeps q (so_far.closed r q before step)
        | inr e ↦ grown q ∙ or_right (has found q) (has after q) ((is_after q).1 (subst (λ (x : ℕ). Step x q) e step))
      ];
    }
      where
        keeps : (q : ℕ) → IsTrue (has found q) → IsTrue (has found' q)
        keeps q h = grown q ∙ or_left (has found q) (has after q) h

  -- nothing is left to be done
  pub IsSearch-end : todo ≡ empty → (q : ℕ) → IsTrue (has found q) ↔ LeadsTo Step start q
  IsSearch-end none q = (so_far.sound q, λ path. arrives path.0 path.1)
    where
      all_done : (p : ℕ) → IsTrue (has found p) → IsTrue (has done p)
      all_done p h = elim (cases_Bool (has done p)) [
        | inl over ↦ over
        | inr open_yet ↦ absurd (no_member todo p none
            (is_todo p ∙ and_from (has found p) (not (has done p)) h (not_from_false (has done p) open_yet)))
      ]

      follows : (p : ℕ) (rest : List ℕ) → IsTrue (has found p) → IsPath Step p rest q → IsTrue (has found q)
      follows p [] h path = subst (λ (x : ℕ). IsTrue (has found x)) path h
      follows p (r ∷ rest) h path = follows r rest (so_far.closed p r (all_done p h) path.0) path.1

      arrives : (path : List ℕ) → IsPathFrom Step start path q → IsTrue (has found q)
      arrives [] path = absurd path
      arrives (p ∷ rest) path = follows p rest (so_far.begun p path.0) path.1

-- ---- all processors on line are found, and no step leads to another one
pub IsSearch-all : (s : State) → IsState s → (direction : Direction) (start found done : ℕ) → IsSearch (Steps s direction) start found done
    → Within s.online found → (q : ℕ) → IsTrue (has found q) ↔ LeadsTo (Steps s direction) start q
IsSearch-all s ok direction start found done so_far all q = (so_far.sound q, λ path. arrives path.0 path.1)
  where
    follows : (p : ℕ) (rest : List ℕ) → IsTrue (has found p) → IsPath (Steps s direction) p rest q → IsTrue (has found q)
    follows p [] h path = subst (λ (x : ℕ). IsTrue (has found x)) path h
    follows p (r ∷ rest) h path = follows r rest (all r (Steps-online s ok direction p r path.0)) path.1

    arrives : (path : List ℕ) → IsPathFrom (Steps s direction) start path q → IsTrue (has found q)
    arrives [] path = absurd path
    arrives (p ∷ rest) path = follows p rest (so_far.begun p path.0) path.1
