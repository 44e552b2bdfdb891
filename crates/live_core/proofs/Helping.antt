-- A lost task is helped: who holds a processor then, and where it is seen.
use Rattle.std.proofs.Common.{◌≡◌, ◌≢◌, ℕ, ◌+◌, ◌<◌, ◌≤◌, Bool, true, false, suc, not, ◌&&◌, List, length, map, Option, Some, None, refl}
use Rattle.std.proofs.Common.{sym, ap, ◌∙◌, subst, inl, inr, ◌⊎◌, arith}
use Rattle.std.specs.List.{range_with_len}
use Rattle.std.proofs.lemmas.Bool.{cases_Bool}
use Rattle.std.proofs.lemmas.Option.{same_Some}
use Rattle.std.proofs.lemmas.List.FromFn.{get_or-map-range_with_len}
use Rattle.strong_apa.specs.State.{State, IsState, IsWaiting, task_on, is_linked, task_count}
use Rattle.strong_apa.specs.Chain.{IsChainOf, IsSimple, IsLeastSuch, EndsIdle, occupant_after_shift, state_after_shift}
use Rattle.strong_apa.proofs.Linked.{place_in, task_on-linked, occupied_number, linked_number, not_on, not_linked-from_on}
use Rattle.strong_apa.proofs.Counts.{count_below-one_more}
use Rattle.strong_apa.proofs.Closed.{chain_fills}
use Rattle.strong_apa.proofs.KeptByShifts.{linked_or_out}
use Rattle.strong_apa.proofs.Shifts.{occupant_from, task_on-state_after_shift}
use Rattle.strong_apa.proofs.Simple.{Avoids-none}
use Rattle.live_core.specs.declared.moves.Move.{Move}
use Rattle.live_core.specs.Moves.{MovesLead}
use Rattle.live_core.specs.Needed.{MovesOnce}
use Rattle.live_core.specs.MoveData.{PassesOn}
use Rattle.live_core.proofs.ShiftPasses.{shift_passes, AreOn-itself}
use Rattle.live_core.specs.Seen.{SeenData, seen_at, Claims, IsTable, IsLost, Helps, lost_count}
use Rattle.live_core.proofs.SeenTables.{same_mask}

module _ (s : State) (t : ℕ) (old : SeenData) (chain : List ℕ) (moves : List Move) (new : SeenData)
    (is_table : IsTable s old.seen old.table) (lost : IsLost s old.table t) (waits : IsWaiting old.table t)
    (least : IsLeastSuch (EndsIdle old.table t) chain) (simple : IsSimple chain) (shifted : new.table ≡ state_after_shift old.table t chain)
    (ok : IsState new.table)
    (moved : (q u : ℕ) → task_on new.table q ≡ Some u → seen_at new.seen u ≡ Some q) (others : (u : ℕ) → is_linked new.table u ≡ false
    → seen_at new.seen u ≡ seen_at old.seen u) where
  is_chain : IsChainOf old.table t chain least.itself.0
  is_chain = least.itself.1

  -- all but the links stays
  same_then : new.table ≡ record s { on = new.table.on }
  same_then =
      shifted
      ∙ ap (λ (x : State). record x { on = map (occupant_after_shift old.table (Some t) chain) (range_with_len 0 old.table.processors) })
      is_table.same
      ∙ ap (λ (o : List (Option ℕ)). record s { on = o }) (sym (ap (λ (x : State). x.on) shifted))

  -- whoever holds a processor is t, or held one
  came_from : (q u : ℕ) → task_on new.table q ≡ Some u → (t ≡ u) ⊎ ((p : ℕ) × (task_on old.table p ≡ Some u))
  came_from q u on = elim (occupant_from old.table (λ y. ⊥) (Some t) chain q u (Avoids-none chain simple) (λ v. v)
      (task_on-state_after_shift old.table t chain q u (sym (ap (λ (x : State). task_on x q) shifted) ∙ on))) [
        | inl it ↦ inl (same_Some t u it)
        | inr there ↦ inr (there.0, there.2)
      ]

  linked_then : (q u : ℕ) → task_on new.table q ≡ Some u → is_linked s u ≡ true
  linked_then q u on = elim (came_from q u on) [
    | inl it ↦ subst (λ (n : ℕ). is_linked s n ≡ true) it lost.linked
    | inr there ↦ (is_table.holds there.0 u there.1).linked
  ]

  holds_then : (q u : ℕ) → task_on new.table q ≡ Some u → Claims s new.seen u q
  holds_then q u on = record {
    linked = linked_then q u on;
    there = moved q u on;
    allowed = sym (same_mask s new.table same_then u q) ∙ ok.allowed q u on;
  }

  -- who is on a processor of the table then
  on_then : (p u : ℕ) → p < old.table.processors → occupant_after_shift old.table (Some t) chain p ≡ Some u → task_on new.table p ≡ Some u
  on_then p u lt e = ap (λ (x : State). task_on x p) shifted ∙ get_or-map-range_with_len (occupant_after_shift old.table (Some t) chain)
      0 old.table.processors p p None lt (omega arith) ∙ e

  -- a processor that has a holder has one then
  stays_held : (p u : ℕ) → task_on old.table p ≡ Some u → (v : ℕ) × (task_on new.table p ≡ Some v)
  stays_held p u on =
      let filled = chain_fills old.table t chain least.itself.0 is_chain p
      (inl (λ none. let h : ◌≡◌ {A = Option ℕ} None (Some u) = sym none ∙ on in cc)) in
      (filled.0, on_then p filled.0 (occupied_number old.table p u is_table.state on) filled.1)

  covers_then : (q u : ℕ) → Claims s new.seen u q → (v : ℕ) × (task_on new.table q ≡ Some v)
  covers_then q u claims = elim (cases_Bool (is_linked new.table u)) [
    | inl held ↦
        let place = task_on-linked new.table u held in
        let same : place_in u new.table.on ≡ q = same_Some (place_in u new.table.on) q
        (sym (moved (place_in u new.table.on) u place) ∙ claims.there) in
        (u, rw (← same) place)
    | inr nowhere ↦
        let before = is_table.covers q u record {
          linked = claims.linked;
          there = sym (others u nowhere)
              ∙ claims.there;
          allowed = claims.allowed;
        } in
        stays_held q before.0 before.1
  ]

  -- whoever held a processor, and t, holds one: the chain ends where nobody was
  held_then : (u : ℕ) → (t ≡ u) ⊎ (is_linked old.table u ≡ true) → is_linked new.table u ≡ true
  held_then u before = elim (linked_or_out old.table is_table.state t waits chain least.itself.0 is_chain simple u before) [
    | inl linked ↦ ap (λ (x : State). is_linked x u) shifted ∙ linked
    | inr out ↦ absurd (let none : ◌≡◌ {A = Option ℕ} None (Some u) = sym least.itself.2.1 ∙ out in cc)
  ]

  -- who is lost then was lost before, and is not t
  lost_then : (u : ℕ) → u ≢ t → is_linked new.table u ≡ is_linked old.table u
  lost_then u ne = elim (cases_Bool (is_linked old.table u)) [
    | inl held ↦ held_then u (inr held) ∙ sym held
    | inr nowhere ↦ not_linked-from_on new.table u (λ q on. elim (came_from q u on) [
      | inl it ↦ ne (sym it)
      | inr there ↦ not_on old.table there.0 u nowhere there.1
    ]) ∙ sym nowhere
  ]

  fewer_then : IsState s → lost_count s old.table ≡ suc (lost_count s new.table)
  fewer_then ok_s = count_below-one_more (λ u. is_linked s u && not (is_linked old.table u))
      (λ u. is_linked s u && not (is_linked new.table u)) t (task_count s)
      (linked_number s (place_in t s.on) t ok_s (task_on-linked s t lost.linked))
      (rw (lost.linked, lost.nowhere) refl)
      (rw (lost.linked, held_then t (inl refl)) refl)
      (λ u lt ne. ap (λ (b : Bool). is_linked s u && not b) (sym (lost_then u ne)))

  pub helps : IsState s → MovesLead old.table.on moves new.table.on → length moves ≤ length chain + 1
      → ((u : ℕ) → MovesOnce old.table.on new.table.on moves u) → Helps s t old chain moves new
  helps ok_s replays few once = record {
    lost = lost;
    least = least;
    simple = simple;
    shifted = shifted;
    replays = replays;
    few = few;
    once = once;
    moved = moved;
    others = others;
    table = record { same = same_then; state = ok; holds = holds_then; covers = covers_then };
    runs = held_then t (inl refl);
    fewer = fewer_then ok_s;
    go_on = λ u held. held_then u (inr held);
  }

-- the chain passes the holders on
pub chain_passes : (a : State) (t : ℕ) (chain : List ℕ) → IsState a → IsWaiting a t → IsLeastSuch (EndsIdle a t) chain → IsSimple chain
    → length chain ≤ 64 → PassesOn a.on (Some t) chain (state_after_shift a t chain).on
chain_passes a t chain ok waits least simple fits =
    shift_passes a ok a.on t least.itself.0 (AreOn-itself a ok least.itself.0) chain least.itself.1 simple fits
    (λ p on. not_on a p t waits.not_linked on)
