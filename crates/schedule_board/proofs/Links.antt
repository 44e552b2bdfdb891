-- What a shift and a leave do to the occupants that a picture shows.
use Rattle.std.proofs.Common.{◌≡◌, ℕ, ◌<◌, ◌≤◌, List, length, get_or, map, drop, Option, Some, None, refl, sym, ap, ◌∙◌, arith, drop-cons}
use Rattle.std.proofs.Common.{eq-eqb}
use Rattle.std.specs.List.{range_with_len}
use Rattle.std.proofs.lemmas.List.{get_or_past, drop_all}
use Rattle.std.proofs.lemmas.List.FromFn.{get_or-map-range_with_len, length-map-range_with_len}
use Rattle.strong_apa.specs.declared.reply.Came.{Came}
use Rattle.strong_apa.specs.declared.reply.Came.TheVariants as came
use Rattle.strong_apa.specs.declared.reply.Gone.{Gone}
use Rattle.strong_apa.specs.declared.reply.Reply.{Reply}
use Rattle.strong_apa.specs.Reply.{reply_of_came, came_of, gone_of}
use Rattle.strong_apa.proofs.Replies.{came_says, gone_says}
use Rattle.task_set.specs.declared.event.Event.TheVariants.{Arrive, Depart}
use Rattle.strong_apa.specs.State.{State, task_on, state_after_leaving, state_with_ready, state_with_mask, state_with_offline}
use Rattle.strong_apa.specs.Chain.{occupant_after_shift, state_after_shift}
use Rattle.strong_apa.specs.History.{state_after_reply, state_after_came, state_after_gone}
use Rattle.schedule_board.specs.declared.occupants.Occupants.{Occupants}
use Rattle.schedule_board.specs.Links.{ShowsLinks}

-- a processor that there is
pub shifted_in : (s : State) (t : ℕ) (chain : List ℕ) (p : ℕ) → p < s.processors → task_on (state_after_shift s t chain) p
    ≡ occupant_after_shift s (Some t) chain p
shifted_in s t chain p h = get_or-map-range_with_len (occupant_after_shift s (Some t) chain) 0 s.processors p p None h (omega arith)

-- a processor that there is not
pub shifted_out : (s : State) (t : ℕ) (chain : List ℕ) (p : ℕ) → s.processors ≤ p → task_on (state_after_shift s t chain) p ≡ None
shifted_out s t chain p h = get_or_past (map (occupant_after_shift s (Some t) chain) (range_with_len 0 s.processors)) p None
    (omega (arith, length-map-range_with_len (occupant_after_shift s (Some t) chain) 0 s.processors))

-- who becomes ready stays where it is, and so do all others where a mask changes or a processor goes off line or comes on line
pub shows_with_ready : (s : State) (t : ℕ) (shown : Occupants) → ShowsLinks s shown → ShowsLinks (state_with_ready s t) shown
shows_with_ready s t shown h = record { processors = h.processors; places = h.places; each = h.each }

pub shows_with_mask : (s : State) (t mask : ℕ) (shown : Occupants) → ShowsLinks s shown → ShowsLinks (state_with_mask s t mask) shown
shows_with_mask s t mask shown h = record { processors = h.processors; places = h.places; each = h.each }

pub shows_with_offline : (s : State) (p : ℕ) (shown : Occupants) → ShowsLinks s shown → ShowsLinks (state_with_offline s p) shown
shows_with_offline s p shown h = record { processors = h.processors; places = h.places; each = h.each }

-- what an arrival came to is its reply
pub arrived : (s : State) (t : ℕ) (c : Came) (reply : Reply) → came_of reply ≡ Some c → state_after_reply s (Arrive t) reply
    ≡ state_after_came s t c
arrived s t c reply e = ap (state_after_reply s (Arrive t)) (came_says reply c e) ∙ same c
  where
    same : (d : Came) → state_after_reply s (Arrive t) (reply_of_came d) ≡ state_after_came s t d
    same (came.Placed chain) = refl
    same (came.Displaced chain out reach) = refl
    same (came.Waits reach) = refl

-- and who came in after a departure is its reply
pub departed : (s : State) (t : ℕ) (gone : Gone) (reply : Reply) → gone_of reply ≡ Some gone → state_after_reply s (Depart t) reply
    ≡ state_after_gone (state_after_leaving s t) gone
departed s t gone reply e = ap (state_after_reply s (Depart t)) (gone_says reply gone e)

-- on the processor at place i of the chain the guest of that place goes
pub found : (s : State) (guest : Option ℕ) (chain : List ℕ) (i p : ℕ) → i < length chain → get_or chain i 0 ≡ p
    → occupant_after_shift s guest (drop i chain) p ≡ guest
found s guest chain i p h e =
    ap (λ (l : List ℕ). occupant_after_shift s guest l p) (drop-cons chain i 0 h) ∙ rw (eq-eqb p (get_or chain i 0) (sym e)) refl

-- after the chain's end the occupant stays
pub chain_over : (s : State) (guest : Option ℕ) (chain : List ℕ) (i p : ℕ) → length chain ≤ i
    → occupant_after_shift s guest (drop i chain) p ≡ task_on s p
chain_over s guest chain i p h = ap (λ (l : List ℕ). occupant_after_shift s guest l p) (drop_all i chain h)
