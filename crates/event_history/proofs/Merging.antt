-- The events that passes posted, and the history of a closed board.
use Rattle.std.proofs.Common.{◌≡◌, ◌≢◌, ℕ, zero, suc, ◌+◌, ◌<◌, ◌≤◌, eqb, cond, Bool, true, false, List, [], ◌∷◌, ◌++◌, length}
use Rattle.std.proofs.Common.{length-append, map, filter, get_or, Contains, sym, refl, ap, ◌∙◌, subst, arith, eq-eqb, ne_eqb, append_assoc}
use Rattle.std.proofs.Common.{slice_get, Some}
use mathlib.Core.Logic.{dite}
use mathlib.Core.List.{IsPrefix}
use native.Mathlib.Decide.{ℕ_discrete}
use Rattle.task_set.specs.declared.event.Event.{Event}
use Rattle.strong_apa.specs.declared.reply.Entry.{Entry}
use Rattle.sched_core.specs.CoreData.{entry_of}
use Rattle.event_history.specs.Boards.{BoardData, PassData, AreFrom}
use Rattle.event_history.specs.Closing.{Tells, AllTell}
use Rattle.event_history.specs.Merging.{events_of_caller, IsEventAt, AreEventsAt, AllPosted, ClosedBoardHoldsEvents, PostedEventsStay}
use Rattle.event_history.specs.Merging.{PostedEventIsLast}
use Rattle.event_history.specs.Places.{places, CallersBelow}

-- an entry stands where it stood once the history has grown
at_further : (xs r : List Entry) (p : ℕ) (e : Entry) → slice_get xs p ≡ Some e → slice_get (xs ++ r) p ≡ Some e
at_further [] r p e h = absurd (cc h)
at_further (x ∷ xs) r zero e h = h
at_further (x ∷ xs) r (suc p) e h = at_further xs r p e h

at_middle : (xs : List Entry) (e : Entry) (r : List Entry) → slice_get (xs ++ e ∷ r) (length xs) ≡ Some e
at_middle [] e r = refl
at_middle (x ∷ xs) e r = at_middle xs e r

further : (xs r : List Entry) (ps : List ℕ) (es : List Event) → AreEventsAt xs ps es → AreEventsAt (xs ++ r) ps es
further xs r [] [] h = tt
further xs r [] (e ∷ es) h = h
further xs r (p ∷ ps) [] h = h
further xs r (p ∷ ps) (e ∷ es) h = ((h.0.0, at_further xs r p h.0.0 h.0.1, h.0.2), further xs r ps es h.1)

further_seen : (xs ys : List Entry) (ps : List ℕ) (es : List Event) → IsPrefix xs ys → AreEventsAt xs ps es → AreEventsAt ys ps es
further_seen xs ys ps es p h = subst (λ (l : List Entry). AreEventsAt l ps es) p.1 (further xs p.0 ps es h)

events_snoc : (xs : List Entry) (ps : List ℕ) (es : List Event) (p : ℕ) (e : Event) → AreEventsAt xs ps es → IsEventAt xs p e
    → AreEventsAt xs (ps ++ p ∷ []) (es ++ e ∷ [])
events_snoc xs [] [] p e h at = (at, tt)
events_snoc xs [] (f ∷ es) p e h at = absurd h
events_snoc xs (q ∷ ps) [] p e h at = absurd h
events_snoc xs (q ∷ ps) (f ∷ es) p e h at = (h.0, events_snoc xs ps es p e h.1 at)

pub posted_events_stay : PostedEventsStay
posted_events_stay old new events grown mine h =
    subst (λ (l : List ℕ). AreEventsAt new.seen l events) (sym mine) (further_seen old.seen new.seen old.mine events grown.seen h)

pub posted_event_is_last : PostedEventIsLast
posted_event_is_last set old new event receipt events post h =
    let e : Entry = entry_of old.caller event receipt.reply in
    let all : List Entry = post.before ++ e ∷ [] in
    let seen : AreEventsAt all old.mine events = further post.before (e ∷ []) old.mine events
    (further_seen old.seen post.before old.mine events post.begins h) in
    let here : IsEventAt all receipt.place event = (e, ap (slice_get all) (sym post.at_place) ∙ at_middle post.before e [], refl) in
    subst (λ (l : List Entry). AreEventsAt l new.mine (events ++ event ∷ [])) (sym post.seen)
    (subst (λ (l : List ℕ). AreEventsAt all l (events ++ event ∷ [])) (sym post.mine)
    (events_snoc all old.mine events receipt.place event seen here))

no_events : (h : List Entry) (es : List Event) → AreEventsAt h [] es → [] ≡ es
no_events h [] is = refl
no_events h (e ∷ es) is = absurd is

-- the events at the places of a caller are its events
own_events : (x : ℕ) (before rest : List Entry) (es : List Event) → AreEventsAt (before ++ rest) (places x (length before) rest) es
    → events_of_caller x rest ≡ es
own_events x before [] es h = no_events (before ++ []) es h
own_events x before (e ∷ rest) es h =
    by (eqb e.caller x) es h (λ fs g. own_events x (before ++ e ∷ []) rest fs
    (subst (λ (l : List Entry). AreEventsAt l (places x (length (before ++ e ∷ [])) rest) fs) (sym (append_assoc before (e ∷ []) rest))
    (subst (λ (n : ℕ). AreEventsAt (before ++ e ∷ rest) (places x n rest) fs) (sym (length-append before (e ∷ []))) g)))
  where
    by : (b : Bool) (es : List Event) → AreEventsAt (before ++ e ∷ rest)
        (cond b (length before ∷ places x (length before + 1) rest) (places x (length before + 1) rest)) es
        → ((fs : List Event) → AreEventsAt (before ++ e ∷ rest) (places x (length before + 1) rest) fs → events_of_caller x rest ≡ fs)
        → map (λ (q : Entry). q.event) (cond b (e ∷ filter (λ (q : Entry). eqb q.caller x) rest)
        (filter (λ (q : Entry). eqb q.caller x) rest)) ≡ es
    by true [] h further = absurd h
    by true (f ∷ fs) h further =
        let same : Some e ≡ Some h.0.0 = sym (at_middle before e rest) ∙ h.0.1 in
        let one : e ≡ h.0.0 = cc same in
        λ i. ((ap (λ (q : Entry). q.event) one ∙ h.0.2) i) ∷ (further fs h.1 i)
    by false es h further = further es h

-- a caller's events in the history are those that its pass posted
of_pass : (h : List Entry) (closed : Bool) (pass : PassData) (es : List Event) → Tells h closed pass → AreEventsAt pass.seen pass.mine es
    → events_of_caller pass.caller h ≡ es
of_pass h closed pass es tells at = own_events pass.caller [] h es
    (subst (λ (l : List ℕ). AreEventsAt h l es) tells.mine (further_seen pass.seen h pass.mine es tells.seen at))

of_passes : (board : BoardData) (h : List Entry) (closed : Bool) (events : ℕ → List Event) (n : ℕ) (l : List PassData) → AreFrom board n l
    → AllTell h closed l → AllPosted events l
    → (x : ℕ) → n ≤ x → x < n + length l → events_of_caller x h ≡ events x
of_passes board h closed events n [] from tell all x low high = absurd (omega arith)
of_passes board h closed events n (p ∷ ps) from tell all x low high = dite (ℕ_discrete x n)
    (λ e. let same : p.caller ≡ x = from.1 ∙ sym e in subst (λ y. events_of_caller y h ≡ events y) same
    (of_pass h closed p (events p.caller) tell.0 all.0))
    (λ ne. of_passes board h closed events (n + 1) ps from.3 tell.1 all.1 x (omega arith) (omega arith))

nobody_else : (n : ℕ) (h : List Entry) → CallersBelow n h → (x : ℕ) → n ≤ x → events_of_caller x h ≡ []
nobody_else n [] below x high = refl
nobody_else n (e ∷ es) below x high =
    let other : e.caller ≢ x = λ is. absurd (omega (arith, below.0)) in
    ap (λ (b : Bool). map (λ (q : Entry). q.event)
    (cond b (e ∷ filter (λ (q : Entry). eqb q.caller x) es) (filter (λ (q : Entry). eqb q.caller x) es))) (ne_eqb e.caller x other)
    ∙ nobody_else n es below.1 x high

below_at : (n : ℕ) (h : List Entry) (k : ℕ) (d : Entry) → CallersBelow n h → k < length h → (get_or h k d).caller < n
below_at n [] k d below low = absurd (omega arith)
below_at n (e ∷ es) zero d below low = below.0
below_at n (e ∷ es) (suc k) d below low = below_at n es k d below.1 (omega arith)

-- an entry's event is one of its caller's
own_event : (x : ℕ) (h : List Entry) (k : ℕ) (d : Entry) → k < length h → (get_or h k d).caller ≡ x
    → Contains (events_of_caller x h) (get_or h k d).event
own_event x [] k d low is = absurd (omega arith)
own_event x (e ∷ es) zero d low is =
    subst (λ (b : Bool). Contains (map (λ (q : Entry). q.event)
    (cond b (e ∷ filter (λ (q : Entry). eqb q.caller x) es) (filter (λ (q : Entry). eqb q.caller x) es))) e.event)
    (sym (eq-eqb e.caller x is)) (0, omega arith, refl)
own_event x (e ∷ es) (suc k) d low is = by (eqb e.caller x) (own_event x es k d (omega arith) is)
  where
    by : (b : Bool) → Contains (events_of_caller x es) (get_or es k d).event
        → Contains (map (λ (q : Entry). q.event)
        (cond b (e ∷ filter (λ (q : Entry). eqb q.caller x) es) (filter (λ (q : Entry). eqb q.caller x) es))) (get_or es k d).event
    by true h = (suc h.0, omega (arith, h.1), h.2)
    by false h = h

pub closed_board_holds_events : ClosedBoardHoldsEvents
closed_board_holds_events board passes core events all is posted =
    let each : (x : ℕ) → x < board.callers → events_of_caller x core.history
    ≡ events x = λ x low. of_passes board core.history core.closed events 0 passes all.1 is.told posted x (omega arith)
    (omega (arith, all.0)) in
    record {
      each_caller = each;
      nobody_else = nobody_else board.callers core.history is.callers;
      each_entry = λ k d low.
          let e : Entry = get_or core.history k d in
          let below = below_at board.callers core.history k d is.callers low in
          (below, subst (λ (l : List Event). Contains l e.event) (each e.caller below) (own_event e.caller core.history k d low refl));
    }
