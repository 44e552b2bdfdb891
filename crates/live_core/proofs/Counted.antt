-- Moves that are counted, of a task and in all.
use Rattle.std.proofs.Common.{◌≡◌, ◌≢◌, ℕ, suc, ◌+◌, ◌<◌, ◌≤◌, ◌⊎◌, List, [], ◌∷◌, ◌++◌, length, get_or, set, reverse, Option, Some, None}
use Rattle.std.proofs.Common.{option_map, refl, sym, ap, subst, ◌∙◌, inl, inr, arith, eq-eqb, ne_eqb, get_or-set_same, length-set}
use Rattle.std.proofs.Common.{length-append}
use Rattle.std.proofs.lemmas.Bool.{cases_eq}
use Rattle.std.proofs.lemmas.List.{length-reverse}
use Rattle.std.proofs.lemmas.Option.{same_Some}
use Rattle.std.specs.Option.{ForSome}
use Rattle.task_set.specs.declared.event.Event.{Event}
use Rattle.task_set.specs.declared.event.Event.TheVariants.{Arrive, Depart, Tick, Affinity, Offline, Online}
use Rattle.strong_apa.specs.declared.reply.Reply.{Reply}
use Rattle.strong_apa.specs.declared.reply.Reply.TheVariants.{Placed, Displaced, Waits, Freed, Left, Ticked, AlreadyReady, NotReady, Masked}
use Rattle.strong_apa.specs.declared.reply.Reply.TheVariants.{Remasked, AlreadyOff, AlreadyOn, Off, On}
use Rattle.strong_apa.specs.declared.reply.Moved.{Moved}
use Rattle.strong_apa.specs.Reply.{came_chain, filling_chain, coming_chain, chain_of}
use Rattle.strong_apa.specs.State.{State, task_on}
use Rattle.strong_apa.specs.Step.{OfflineStep}
use Rattle.strong_apa.specs.Chain.{IsSimple}
use Rattle.strong_apa.proofs.Simple.{IsSimple-head, IsSimple-tail}
use Rattle.live_core.specs.Moves.{MovesLead, CanMove, IsNowhere, occupant_at, occupants_after}
use Rattle.live_core.specs.MoveData.{PassesOn, OfflinePassesOn, EventLeadsTo, entered_by, moved_of, stop_of, shift_of, start_of_guest}
use Rattle.live_core.specs.MoveData.{shifts_along, last_of, passing_moves, IsOnce, AreOfflineMoves, AreMovesFor, guest_who_stays}
use Rattle.live_core.specs.Needed.{task_in, count_of, Stays, MovesOnce, AreNeeded}
use Rattle.live_core.specs.declared.moves.Move.{Move}
use Rattle.live_core.specs.declared.moves.Move.TheVariants.{Start, Shift, Stop}
use Rattle.live_core.proofs.Replaying.{occupant-set, occupant-set_none, None≢Some, there_before, stopped_once, stopped_nowhere}
use Rattle.live_core.proofs.Netting.{stays_out, guest_is_somewhere}
use Rattle.live_core.proofs.StepPasses.{arrival_leads, departure_leads, mask_leads, offline_leads, online_leads}

count-append : (t : ℕ) (xs ys : List Move) → count_of t (xs ++ ys) ≡ count_of t xs + count_of t ys
count-append t [] ys = omega arith
count-append t (move ∷ rest) ys = let e = count-append t rest ys in omega (arith, e)

count-own : (t : ℕ) (move : Move) (rest : List Move) → task_in move ≡ t → count_of t (move ∷ rest) ≡ suc (count_of t rest)
count-own t move rest same = rw (eq-eqb (task_in move) t same) (omega arith)

count-other : (t : ℕ) (move : Move) (rest : List Move) → task_in move ≢ t → count_of t (move ∷ rest) ≡ count_of t rest
count-other t move rest ne = rw (ne_eqb (task_in move) t ne) (omega arith)

-- ---- a task that stays
Stays-then : (a b c : List (Option ℕ)) (t : ℕ) → Stays a b t → Stays b c t → Stays a c t
Stays-then a b c t one two = λ p. (λ e. (two p).0 ((one p).0 e), λ e. (one p).1 ((two p).1 e))

Stays-back : (a b : List (Option ℕ)) (t : ℕ) → Stays a b t → Stays b a t
Stays-back a b t stays = λ p. ((stays p).1, (stays p).0)

set-stays : (on : List (Option ℕ)) (q : ℕ) (o : Option ℕ) (t : ℕ) → o ≢ Some t → occupant_at on q ≢ Some t → Stays on (set on q o) t
set-stays on q o t ne was = λ p. elim (occupant-set on q p o) [
  | inl there ↦ (λ e. absurd (was (rw there.1 at e)), λ e. absurd (ne (sym there.0 ∙ e)))
  | inr same ↦ (λ e. same ∙ e, λ e. sym same ∙ e)
]

other : (u t : ℕ) → u ≢ t → Some u ≢ Some t
other u t ne e = ne (same_Some u t e)

other_there : (o : Option ℕ) (u t : ℕ) → u ≢ t → o ≡ Some u → o ≢ Some t
other_there o u t ne e f = other u t ne (sym e ∙ f)

nobody_there : (o : Option ℕ) (t : ℕ) → o ≡ None → o ≢ Some t
nobody_there o t e f = None≢Some t (sym e ∙ f)

-- a move of another task
stays-step : (on : List (Option ℕ)) (move : Move) (t : ℕ) → CanMove on move → task_in move ≢ t → Stays on (occupants_after on move) t
stays-step on (Start u to) t can ne = set-stays on to (Some u) t (other u t ne) (nobody_there (occupant_at on to) t can.1)
stays-step on (Shift u from to) t can ne =
    let first = set-stays on from None t (None≢Some t) (other_there (occupant_at on from) u t ne can.2) in
    Stays-then on (set on from None) (set (set on from None) to (Some u)) t first
    (set-stays (set on from None) to (Some u) t (other u t ne) (λ e. nobody_there (occupant_at on to) t can.1 ((first to).1 e)))
stays-step on (Stop u from) t can ne = set-stays on from None t (None≢Some t) (other_there (occupant_at on from) u t ne can)

-- a move of its own takes it elsewhere
goes_elsewhere : (on : List (Option ℕ)) (move : Move) → CanMove on move → Stays on (occupants_after on move) (task_in move) → ⊥
goes_elsewhere on (Start t to) can stays =
    nobody_there (occupant_at on to) t can.1 ((stays to).1 (get_or-set_same on to (Some t) None can.0))
goes_elsewhere on (Shift t from to) can stays =
    nobody_there (occupant_at on to) t can.1 ((stays to).1
    (get_or-set_same (set on from None) to (Some t) None (rw (length-set on from None) can.0)))
goes_elsewhere on (Stop t from) can stays = None≢Some t (sym (occupant-set_none on from) ∙ (stays from).0 can)

unmoved : (a : List (Option ℕ)) (moves : List Move) (b : List (Option ℕ)) (t : ℕ) → MovesLead a moves b → count_of t moves ≡ 0 → Stays a b t
unmoved a [] b t replays none = λ p. (λ e. rw (← replays) e, λ e. rw replays e)
unmoved a (move ∷ rest) b t replays none = elim (cases_eq (task_in move) t) [
  | inl same ↦ absurd (let e = count-own t move rest same in omega arith)
  | inr ne ↦ Stays-then a (occupants_after a move) b t (stays-step a move t replays.0 ne)
      (unmoved (occupants_after a move) rest b t replays.1 (sym (count-other t move rest ne) ∙ none))
]

moved : (a : List (Option ℕ)) (moves : List Move) (b : List (Option ℕ)) (t : ℕ) → MovesLead a moves b → count_of t moves ≤ 1 → Stays a b t
    → count_of t moves ≡ 0
moved a [] b t replays most stays = refl
moved a (move ∷ rest) b t replays most stays = elim (cases_eq (task_in move) t) [
  | inl same ↦
      let e = count-own t move rest same in
      let later = unmoved (occupants_after a move) rest b t replays.1 (omega arith) in
      absurd (goes_elsewhere a move replays.0 (rw same
      (Stays-then a b (occupants_after a move) t stays (Stays-back (occupants_after a move) b t later))))
  | inr ne ↦
      let e = count-other t move rest ne in
      e ∙ moved (occupants_after a move) rest b t replays.1 (omega arith)
      (Stays-then (occupants_after a move) a b t (Stays-back a (occupants_after a move) t (stays-step a move t replays.0 ne)) stays)
]

moves_once : (a : List (Option ℕ)) (moves : List Move) (b : List (Option ℕ)) (t : ℕ) → MovesLead a moves b → count_of t moves ≤ 1
    → MovesOnce a b moves t
moves_once a moves b t replays most = record { most = most; stays = (unmoved a moves b t replays, moved a moves b t replays most) }

-- one that runs neither before nor after them, where it has one at most
moved_not : (a : List (Option ℕ)) (moves : List Move) (b : List (Option ℕ)) (t : ℕ) → MovesLead a moves b → count_of t moves ≤ 1
    → IsNowhere a t → IsNowhere b t → count_of t moves ≡ 0
moved_not a moves b t replays most before after = moved a moves b t replays most (λ p. (λ e. absurd (before p e), λ e. absurd (after p e)))

-- ---- the moves along a chain
count-stop : (t : ℕ) (o : Option ℕ) (p : ℕ) → o ≢ Some t → count_of t (stop_of o p) ≡ 0
count-stop t None p ne = refl
count-stop t (Some u) p ne = count-other t (Stop u p) [] (λ e. ne (ap Some e))

count-shift : (t : ℕ) (o : Option ℕ) (p q : ℕ) → o ≢ Some t → count_of t (shift_of o p q) ≡ 0
count-shift t None p q ne = refl
count-shift t (Some u) p q ne = count-other t (Shift u p q) [] (λ e. ne (ap Some e))

count-start : (t : ℕ) (o : Option ℕ) (p : ℕ) → o ≢ Some t → count_of t (start_of_guest o p) ≡ 0
count-start t None p ne = refl
count-start t (Some u) p ne = count-other t (Start u p) [] (λ e. ne (ap Some e))

count-stop_one : (t : ℕ) (o : Option ℕ) (p : ℕ) → o ≡ Some t → count_of t (stop_of o p) ≡ 1
count-stop_one t o p e = rw e (count-own t (Stop t p) [] refl)

count-shift_one : (t : ℕ) (o : Option ℕ) (p q : ℕ) → o ≡ Some t → count_of t (shift_of o p q) ≡ 1
count-shift_one t o p q e = rw e (count-own t (Shift t p q) [] refl)

count-start_one : (t : ℕ) (o : Option ℕ) (p : ℕ) → o ≡ Some t → count_of t (start_of_guest o p) ≡ 1
count-start_one t o p e = rw e (count-own t (Start t p) [] refl)

is_it : (o : Option ℕ) (t : ℕ) → (o ≡ Some t) ⊎ (o ≢ Some t)
is_it None t = inr (None≢Some t)
is_it (Some u) t = elim (cases_eq u t) [
  | inl same ↦ inl (ap Some same)
  | inr ne ↦ inr (other u t ne)
]

shifts-none : (on : List (Option ℕ)) (chain : List ℕ) (t : ℕ) → ((i : ℕ) → i < length chain → occupant_at on (get_or chain i 0) ≢ Some t)
    → count_of t (shifts_along on chain) ≡ 0
shifts-none on [] t none = refl
shifts-none on (p ∷ []) t none = refl
shifts-none on (p ∷ q ∷ rest) t none =
    let later = shifts-none on (q ∷ rest) t (λ i fits. none (suc i) (omega arith)) in
    let here = count-shift t (occupant_at on p) p q (none 0 (omega arith)) in
    let sum = count-append t (shifts_along on (q ∷ rest)) (shift_of (occupant_at on p) p q) in
    omega arith

shifts-once : (on : List (Option ℕ)) (chain : List ℕ) (t : ℕ) → IsOnce on → IsSimple chain → count_of t (shifts_along on chain) ≤ 1
shifts-once on [] t once simple = omega arith
shifts-once on (p ∷ []) t once simple = omega arith
shifts-once on (p ∷ q ∷ rest) t once simple =
    let sum = count-append t (shifts_along on (q ∷ rest)) (shift_of (occupant_at on p) p q) in
    elim (is_it (occupant_at on p) t) [
      | inl here ↦
          let one = count-shift_one t (occupant_at on p) p q here in
          let none = shifts-none on (q ∷ rest) t (λ i fits there. IsSimple-head p (q ∷ rest) simple i fits
          (once (get_or (q ∷ rest) i 0) p t there here)) in
          omega arith
      | inr ne ↦
          let none = count-shift t (occupant_at on p) p q ne in
          let later = shifts-once on (q ∷ rest) t once (IsSimple-tail p (q ∷ rest) simple) in
          omega arith
    ]

passing-once : (on : List (Option ℕ)) (guest : Option ℕ) (chain : List ℕ) (t : ℕ) → IsOnce on → IsSimple chain
    → (0 < length chain → ForSome guest (IsNowhere on)) → count_of t (passing_moves on guest chain) ≤ 1
passing-once on guest [] t once simple nowhere = omega arith
passing-once on guest (p ∷ rest) t once simple nowhere = go (is_it guest t) (is_it (occupant_at on last) t)
  where
    last : ℕ
    last = last_of (p ∷ rest)

    on_then : List (Option ℕ)
    on_then = set on last None

    stops : List Move
    stops = stop_of (occupant_at on last) last

    shifts : List Move
    shifts = shifts_along on_then (p ∷ rest)

    starts : List Move
    starts = start_of_guest guest p

    total : count_of t (passing_moves on guest (p ∷ rest)) ≡ count_of t stops + count_of t shifts + count_of t starts
    total = count-append t (stops ++ shifts) starts ∙ ap (λ (n : ℕ). n + count_of t starts) (count-append t stops shifts)

    go : (guest ≡ Some t) ⊎ (guest ≢ Some t) → (occupant_at on last ≡ Some t) ⊎ (occupant_at on last ≢ Some t)
        → count_of t (passing_moves on guest (p ∷ rest)) ≤ 1
    go (inl own) _ =
        let gone = nowhere (omega arith) t own in
        let a = count-stop t (occupant_at on last) last (gone last) in
        let b = shifts-none on_then (p ∷ rest) t
        (λ i fits there. gone (get_or (p ∷ rest) i 0) (there_before on last (get_or (p ∷ rest) i 0) t there)) in
        let d = count-start_one t guest p own in
        omega (arith, total, a, b, d)
    go (inr another) (inl here) =
        let a = count-stop_one t (occupant_at on last) last here in
        let b = shifts-none on_then (p ∷ rest) t (λ i fits there. stopped_nowhere on last t once here (get_or (p ∷ rest) i 0) there) in
        let d = count-start t guest p another in
        omega (arith, total, a, b, d)
    go (inr another) (inr ne) =
        let a = count-stop t (occupant_at on last) last ne in
        let b = shifts-once on_then (p ∷ rest) t (stopped_once on last once) simple in
        let d = count-start t guest p another in
        omega (arith, total, a, b, d)

-- of a task that is on no processor, and is not the guest
passing-none : (on : List (Option ℕ)) (guest : Option ℕ) (chain : List ℕ) (t : ℕ) → IsNowhere on t → guest ≢ Some t
    → count_of t (passing_moves on guest chain) ≡ 0
passing-none on guest [] t nowhere another = refl
passing-none on guest (p ∷ rest) t nowhere another =
    let last = last_of (p ∷ rest) in
    let stops = stop_of (occupant_at on last) last in
    let shifts = shifts_along (set on last None) (p ∷ rest) in
    let starts = start_of_guest guest p in
    let a = count-stop t (occupant_at on last) last (nowhere last) in
    let b = shifts-none (set on last None) (p ∷ rest) t
    (λ i fits there. nowhere (get_or (p ∷ rest) i 0) (there_before on last (get_or (p ∷ rest) i 0) t there)) in
    let d = count-start t guest p another in
    let one = count-append t (stops ++ shifts) starts in
    let two = count-append t stops shifts in
    omega (arith, a, b, d, one, two)

-- a task has one where its processor changes, and else none
pub passing-moves_once : (on : List (Option ℕ)) (guest : Option ℕ) (chain : List ℕ) (after : List (Option ℕ)) (moves : List Move)
    → IsOnce on → PassesOn on guest chain after → moves ≡ passing_moves on guest chain
    → MovesLead on moves after → (t : ℕ) → MovesOnce on after moves t
passing-moves_once on guest chain after moves once passes exact replays t =
    moves_once on moves after t replays (rw exact (passing-once on guest chain t once passes.can.simple passes.nowhere))

-- ---- how many moves
stop-length : (o : Option ℕ) (p : ℕ) → length (stop_of o p) ≤ 1
stop-length None p = omega arith
stop-length (Some t) p = omega arith

shift-length : (o : Option ℕ) (p q : ℕ) → length (shift_of o p q) ≤ 1
shift-length None p q = omega arith
shift-length (Some t) p q = omega arith

start-length : (o : Option ℕ) (p : ℕ) → length (start_of_guest o p) ≤ 1
start-length None p = omega arith
start-length (Some t) p = omega arith

shifts-length : (on : List (Option ℕ)) (p : ℕ) (rest : List ℕ) → length (shifts_along on (p ∷ rest)) ≤ length rest
shifts-length on p [] = omega arith
shifts-length on p (q ∷ rest) =
    let later = shifts-length on q rest in
    let one = shift-length (occupant_at on p) p q in
    omega (arith, length-append (shifts_along on (q ∷ rest)) (shift_of (occupant_at on p) p q))

pub passing-length : (on : List (Option ℕ)) (guest : Option ℕ) (chain : List ℕ) → length (passing_moves on guest chain) ≤ length chain + 1
passing-length on guest [] = omega arith
passing-length on guest (p ∷ rest) =
    let last = last_of (p ∷ rest) in
    let stops = stop_of (occupant_at on last) last in
    let shifts = shifts_along (set on last None) (p ∷ rest) in
    let a = stop-length (occupant_at on last) last in
    let b = shifts-length (set on last None) p rest in
    let d = start-length guest p in
    omega (arith, length-append (stops ++ shifts) (start_of_guest guest p), length-append stops shifts)

-- ---- an event
module _ (on : List (Option ℕ)) (after : List (Option ℕ)) (moves : List Move) (once : IsOnce on) (replays : MovesLead on moves after) where
  needed_once : (event : Event) (reply : Reply) (guest : Option ℕ) (chain : List ℕ) → PassesOn on guest chain after
      → moves ≡ passing_moves on guest chain → length chain ≤ length (chain_of reply) → AreNeeded event reply on after moves
  needed_once event reply guest chain passes exact short =
      let most : (t : ℕ) → count_of t moves ≤ 1 = λ t. rw exact (passing-once on guest chain t once passes.can.simple passes.nowhere) in
      let few = passing-length on guest chain in
      record {
        once = λ event_is t stays. moves_once on moves after t replays (most t);
        twice = λ t. let m = most t in omega arith;
        few = (let e = ap length exact in omega arith);
        idle = λ t. moved_not on moves after t replays (most t);
      }

  needed_none : (event : Event) (reply : Reply) → moves ≡ [] → AreNeeded event reply on after moves
  needed_none event reply none =
      let most : (t : ℕ) → count_of t moves ≤ 1 = λ t. rw none (omega arith) in
      record {
        once = λ event_is t stays. moves_once on moves after t replays (most t);
        twice = λ t. let m = most t in omega arith;
        few = rw none (omega arith);
        idle = λ t. moved_not on moves after t replays (most t);
      }

  twice_at_most : (first : Option ℕ) (one : List ℕ) (second : Option ℕ) (two : List ℕ) (between : List (Option ℕ))
      → PassesOn on first one between → PassesOn between second two after
      → (moves ≡ passing_moves on first one ++ passing_moves between second two) × (IsOnce on → IsOnce between) → (t : ℕ)
      → count_of t moves ≤ count_of t (passing_moves on first one) + 1
  twice_at_most first one second two between passes later exact t =
      let two_once = passing-once between second two t (exact.1 once) later.can.simple later.nowhere in
      let sum = count-append t (passing_moves on first one) (passing_moves between second two) in
      let e = ap (λ (list : List Move). count_of t list) exact.0 in
      omega arith

once_before : (on : List (Option ℕ)) (event : Event) (reply : Reply) (after : List (Option ℕ)) → EventLeadsTo on event reply after
    → IsOnce on
once_before on event reply after leads = subst IsOnce leads.before leads.state.once

-- whose processor goes off line
offline_mover : (s : State) (p : ℕ) (reply : Reply) (new : State) → OfflineStep s p reply new → (moved : Moved)
    → moved_of reply ≡ Some moved → task_on s p ≡ Some moved.task
offline_mover s p reply new (inl again) moved e = absurd (none_moved (rw again.answer at e))
  where
    none_moved : None ≡ Some moved → ⊥
    none_moved e = cc
offline_mover s p reply new (inr (inl idle)) moved e = absurd (none_moved (rw idle.answer at e))
  where
    none_moved : None ≡ Some moved → ⊥
    none_moved e = cc
offline_mover s p reply new (inr (inr occupied)) moved e =
    occupied.occupied ∙ ap (λ (m : Option Moved). option_map (λ (m : Moved). m.task) m) (rw occupied.answer at e)

moved_chain : (reply : Reply) (moved : Moved) → moved_of reply ≡ Some moved → length (came_chain moved.came) ≤ length (chain_of reply)
moved_chain (Off (Some other)) moved e = let same = ap (λ (m : Option Moved). length (chain_of (Off m))) e in omega arith
moved_chain (Off None) moved e = cc
moved_chain (Placed chain) moved e = cc
moved_chain (Displaced chain out reach) moved e = cc
moved_chain (Waits reach) moved e = cc
moved_chain (Freed entered chain back) moved e = cc
moved_chain Left moved e = cc
moved_chain Ticked moved e = cc
moved_chain AlreadyReady moved e = cc
moved_chain NotReady moved e = cc
moved_chain Masked moved e = cc
moved_chain (Remasked None came) moved e = cc
moved_chain (Remasked (Some gone) came) moved e = cc
moved_chain AlreadyOff moved e = cc
moved_chain AlreadyOn moved e = cc
moved_chain (On parts) moved e = cc

count-first : (on : List (Option ℕ)) (p t : ℕ) → occupant_at on p ≢ Some t → count_of t (passing_moves on None (p ∷ [])) ≡ 0
count-first on p t ne =
    let stops = stop_of (occupant_at on p) p in
    let a = count-stop t (occupant_at on p) p ne in
    let b = count-append t (stops ++ []) [] in
    let d = count-append t stops [] in
    omega arith

first-length : (on : List (Option ℕ)) (p : ℕ) → length (passing_moves on None (p ∷ [])) ≤ 1
first-length on p =
    let stops = stop_of (occupant_at on p) p in
    let a = stop-length (occupant_at on p) p in
    omega (arith, length-append (stops ++ []) [], length-append stops [])

offline_needed : (on : List (Option ℕ)) (p : ℕ) (reply : Reply) (after : List (Option ℕ)) (moves : List Move)
    → EventLeadsTo on (Offline p) reply after → MovesLead on moves after
    → (m : Option Moved) → moved_of reply ≡ m → OfflinePassesOn on p m after → AreOfflineMoves on p m moves
    → AreNeeded (Offline p) reply on after moves
offline_needed on p reply after moves leads replays None e passes exact =
    needed_none on after moves (once_before on (Offline p) reply after leads) replays (Offline p) reply exact
offline_needed on p reply after moves leads replays (Some moved) e passes exact =
    let once = once_before on (Offline p) reply after leads in
    let between = passes.0 in
    let both = exact between passes.1 in
    let most = twice_at_most on after moves once replays None (p ∷ []) (Some moved.task) (came_chain moved.came)
    between passes.1 passes.2 both in
    let here : occupant_at on p ≡ Some moved.task = ap (λ (o : List (Option ℕ)). occupant_at o p) (sym leads.before)
    ∙ offline_mover leads.old p reply leads.new leads.step.1 moved e in
    let later = passing-length between (Some moved.task) (came_chain moved.came) in
    record {
      once = λ event_is t stays.
          let none = count-first on p t (λ there. stays (rw e (same_Some moved.task t (sym here ∙ there)))) in
          let m = most t in
          moves_once on moves after t replays (omega arith);
      twice = λ t.
          let m = most t in
          let f = passing-once on None (p ∷ []) t once passes.1.can.simple passes.1.nowhere in
          omega arith;
      few =
          let short = moved_chain reply moved e in
          let f = first-length on p in
          let count = ap (λ (list : List Move). length list) both.0 in
          omega (arith, length-append (passing_moves on None (p ∷ [])) (passing_moves between (Some moved.task) (came_chain moved.came)));
      idle = λ t before then.
          let none = count-first on p t (before p) in
          let m = most t in
          moved_not on moves after t replays (omega arith) before then;
    }

-- the first chain moves nobody who runs neither before nor after both
first_of_none : (on : List (Option ℕ)) (guest : Option ℕ) (one : List ℕ) (t : ℕ) (two : List ℕ) (between after : List (Option ℕ)) (u : ℕ)
    → IsOnce between → IsNowhere on u → IsNowhere after u
    → PassesOn on (guest_who_stays guest one two) one between → PassesOn between (Some t) two after
    → count_of u (passing_moves on (guest_who_stays guest one two) one) ≡ 0
first_of_none on guest [] t two between after u once before then first second = refl
first_of_none on guest (p ∷ rest) t two between after u once before then first second =
    elim (is_it (guest_who_stays guest (p ∷ rest) two) u) [
      | inl own ↦ absurd (guest_is_somewhere on guest p rest t two between after u once own first second then)
      | inr another ↦ passing-none on (guest_who_stays guest (p ∷ rest) two) (p ∷ rest) u before another
    ]

-- no move is needless
pub needed : (on : List (Option ℕ)) (event : Event) (reply : Reply) (after : List (Option ℕ)) (moves : List Move)
    → EventLeadsTo on event reply after → AreMovesFor on event reply moves → MovesLead on moves after → AreNeeded event reply on after moves
needed on (Arrive t) reply after moves leads exact replays =
    needed_once on after moves (once_before on (Arrive t) reply after leads) replays (Arrive t) reply (Some t) (coming_chain reply)
    (arrival_leads on (Arrive t) reply after leads t refl) exact
    (omega (arith, length-append (filling_chain reply) (coming_chain reply)))
needed on (Depart t) reply after moves leads exact replays =
    needed_once on after moves (once_before on (Depart t) reply after leads) replays (Depart t) reply (entered_by reply)
    (reverse (filling_chain reply)) (departure_leads on (Depart t) reply after leads t refl) exact
    (omega (arith, length-append (filling_chain reply) (coming_chain reply), length-reverse (filling_chain reply)))
needed on (Online p) reply after moves leads exact replays =
    needed_once on after moves (once_before on (Online p) reply after leads) replays (Online p) reply (entered_by reply)
    (reverse (filling_chain reply)) (online_leads on (Online p) reply after leads p refl) exact
    (omega (arith, length-append (filling_chain reply) (coming_chain reply), length-reverse (filling_chain reply)))
needed on (Tick units) reply after moves leads exact replays =
    needed_none on after moves (once_before on (Tick units) reply after leads) replays (Tick units) reply exact
needed on (Affinity t mask) reply after moves leads exact replays =
    let once = once_before on (Affinity t mask) reply after leads in
    let one = reverse (filling_chain reply) in
    let guest = guest_who_stays (entered_by reply) one (coming_chain reply) in
    let passes = stays_out on (entered_by reply) one t (coming_chain reply) after
    (mask_leads on (Affinity t mask) reply after leads t mask refl) in
    let between = passes.0 in
    let both = exact between passes.1 in
    let most = twice_at_most on after moves once replays guest one (Some t) (coming_chain reply) between passes.1 passes.2 both in
    let first = passing-length on guest one in
    let later = passing-length between (Some t) (coming_chain reply) in
    record {
      once = λ masked. absurd masked;
      twice = λ u.
          let m = most u in
          let f = passing-once on guest one u once passes.1.can.simple passes.1.nowhere in
          omega arith;
      few =
          let count = ap (λ (list : List Move). length list) both.0 in
          omega (
            arith,
            length-append (passing_moves on guest one) (passing_moves between (Some t) (coming_chain reply)),
            length-append (filling_chain reply) (coming_chain reply),
            length-reverse (filling_chain reply),
          );
      idle = λ u before then.
          let none = first_of_none on (entered_by reply) one t (coming_chain reply) between after u (both.1 once) before
          then passes.1 passes.2 in
          let m = most u in
          moved_not on moves after u replays (omega arith) before then;
    }
needed on (Offline p) reply after moves leads exact replays =
    offline_needed on p reply after moves leads replays (moved_of reply) refl (offline_leads on (Offline p) reply after leads p refl) exact
