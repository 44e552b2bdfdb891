-- Passes that one caller uses, each at its place.
use Rattle.std.proofs.Common.{◌≡◌, ◌≢◌, ℕ, zero, suc, ◌+◌, ◌<◌, ◌≤◌, ◌==◌, Bool, true, false, Option, None, Some, IfSome, is_some, List, []}
use Rattle.std.proofs.Common.{◌∷◌, ◌++◌, length, map, filter, set, get_or, inl, All, refl, sym, ap, ◌∙◌, subst, arith, append-nil}
use Rattle.std.proofs.lemmas.List.{map-append}
use Rattle.std.proofs.lemmas.List.Elements.{All-head, All-tail, filter-append}
use mathlib.Core.List.{IsPrefix}
use Rattle.task_set.specs.declared.event.Event.{Event}
use Rattle.strong_apa.specs.declared.reply.Entry.{Entry}
use Rattle.trace_reader.specs.declared.posted.Posted.{Posted}
use Rattle.order_queues.specs.Ends.{QueueData}
use Rattle.event_history.specs.Boards.{BoardData, PassData, Grown, AreEyesOf, AreFrom}
use Rattle.event_history.specs.Merging.{AreEventsAt}
use Rattle.event_history.proofs.Prefixes.{prefix_refl, prefix_trans}
use Rattle.replay.specs.Merge.{events_of_stream}
use Rattle.replay.specs.Places.{AllFrom}
use Rattle.replay.specs.Streams.{Adds, IsPassAt, IsStreamedAt, IsUnused, SomeSawClose}
use Rattle.replay.proofs.Places.{AllFrom-weaker}
use Rattle.replay.proofs.Posts.{of_other, of_stream, pass_stays, streamed_stays}
use Rattle.replay.specs.Passes.{FirstSaw, FirstSawClose, HasGrown, HaveGrown}

-- a pass of which nothing changed
grown_self : (p : PassData) → Grown p p
grown_self p = record {
  board = refl;
  caller = refl;
  seen = prefix_refl p.seen;
  known = omega arith;
  close = λ saw. saw;
  looks = ([], sym (append-nil p.looks));
}

have_grown_self : (queues : List QueueData) (ps : List PassData) → HaveGrown queues ps ps
have_grown_self queues [] = tt
have_grown_self queues (p ∷ ps) = (record { grown = grown_self p; mine = refl; eyes = λ eyes. eyes }, have_grown_self queues ps)

-- the first pass knows more
pub first_grown : (queues : List QueueData) (ps : List PassData) (p q : PassData) → 1 ≤ length ps → p ≡ get_or ps 0 p → HasGrown queues p q
    → HaveGrown queues ps (set ps 0 q)
first_grown queues [] p q any is grown = absurd (omega arith)
first_grown queues (x ∷ xs) p q any is grown = (subst (λ (o : PassData). HasGrown queues o q) is grown, have_grown_self queues xs)

-- what holds of passes holds of them once they know more
pub streamed_grown : (board : BoardData) (events : List Posted) (whole : Bool) (n : ℕ) (ps qs : List PassData)
    → HaveGrown board.queues ps qs → AllFrom (IsStreamedAt board events whole) n ps → AllFrom (IsStreamedAt board events whole) n qs
streamed_grown board events whole n [] [] grown h = tt
streamed_grown board events whole n [] (q ∷ qs) grown h = absurd grown
streamed_grown board events whole n (p ∷ ps) [] grown h = absurd grown
streamed_grown board events whole n (p ∷ ps) (q ∷ qs) grown h = (
  streamed_stays board events whole n p q h.0 grown.0.grown grown.0.mine (grown.0.eyes h.0.own.eyes),
  streamed_grown board events whole
      (n + 1) ps qs grown.1 h.1,
)

pub count_grown : (queues : List QueueData) (ps qs : List PassData) → HaveGrown queues ps qs → length qs ≡ length ps
count_grown queues [] [] grown = refl
count_grown queues [] (q ∷ qs) grown = absurd grown
count_grown queues (p ∷ ps) [] grown = absurd grown
count_grown queues (p ∷ ps) (q ∷ qs) grown = ap suc (count_grown queues ps qs grown.1)

pub saw_grown : (queues : List QueueData) (entries : List Entry) (ps qs : List PassData) → HaveGrown queues ps qs → FirstSaw entries ps
    → FirstSaw entries qs
saw_grown queues entries [] qs grown saw = absurd saw
saw_grown queues entries (p ∷ ps) [] grown saw = absurd grown
saw_grown queues entries (p ∷ ps) (q ∷ qs) grown saw = prefix_trans entries p.seen q.seen saw grown.0.grown.seen

pub close_grown : (queues : List QueueData) (ps qs : List PassData) → HaveGrown queues ps qs → FirstSawClose ps → FirstSawClose qs
close_grown queues [] qs grown saw = absurd saw
close_grown queues (p ∷ ps) [] grown saw = absurd grown
close_grown queues (p ∷ ps) (q ∷ qs) grown saw = grown.0.grown.close saw

-- unused passes posted no event, and saw what is published while nothing is
pub begin_streamed : (board : BoardData) (n : ℕ) (ps : List PassData) → AreFrom board n ps → All IsUnused ps
    → AllFrom (IsStreamedAt board [] true) n ps
begin_streamed board n [] all unused = tt
begin_streamed board n (p ∷ ps) all unused = (
  record {
    own = record { of_board = all.0; caller = all.1; eyes = all.2 };
    posted = λ whole. subst (λ (mine : List ℕ). AreEventsAt p.seen mine []) (sym (All-head IsUnused p ps unused).mine) tt;
  },
  begin_streamed board (n + 1) ps all.3 (All-tail IsUnused p ps unused),
)

pub saw_none : (entries : List Entry) (ps : List PassData) → entries ≡ [] → 1 ≤ length ps → FirstSaw entries ps
saw_none entries [] none any = absurd (omega arith)
saw_none entries (p ∷ ps) none any = subst (λ (l : List Entry). IsPrefix l p.seen) (sym none) (p.seen, refl)

-- the passes of a replay, at their places
pub own_passes : (board : BoardData) (events : List Posted) (whole : Bool) (n : ℕ) (ps : List PassData)
    → AllFrom (IsStreamedAt board events whole) n ps → AllFrom (IsPassAt board) n ps
own_passes board events whole n ps streamed =
    AllFrom-weaker (IsStreamedAt board events whole) (IsPassAt board) (λ k p at. at.own) n ps streamed

pub saw_some : (entries : List Entry) (ps : List PassData) → FirstSaw entries ps → 1 ≤ length ps
saw_some entries [] saw = absurd saw
saw_some entries (p ∷ ps) saw = omega arith

-- a pass that saw the close is one of them
pub some_saw : (ps : List PassData) → FirstSawClose ps → SomeSawClose ps
some_saw [] saw = absurd saw
some_saw (p ∷ ps) saw = inl saw

-- the events of a stream with one event more
one_more : (n : ℕ) (done : List Posted) (posted : Posted) → events_of_stream n (done ++ posted ∷ []) ≡ events_of_stream n done
    ++ events_of_stream n (posted ∷ [])
one_more n done posted =
    ap (map (λ (p : Posted). p.event)) (filter-append (λ (p : Posted). p.stream == n) done (posted ∷ []))
    ∙ map-append (λ (p : Posted). p.event) (filter (λ (p : Posted). p.stream == n) done)
    (filter (λ (p : Posted). p.stream == n) (posted ∷ []))

-- the pass of the event's stream, and one of another stream
posted_here : (board : BoardData) (done : List Posted) (posted : Posted) (whole : Bool) (n : ℕ) (p q : PassData) → posted.stream ≡ n
    → Grown p q → AreEyesOf board.queues q.eyes
    → (whole ≡ true → Adds p (posted.event ∷ []) q) → IsStreamedAt board done true n p → IsStreamedAt board (done ++ posted ∷ []) whole n q
posted_here board done posted whole n p q is grown eyes adds at = record {
  own = pass_stays board n p q at.own grown eyes;
  posted = λ all. subst (AreEventsAt q.seen q.mine) (ap (λ (es : List Event). events_of_stream n done ++ es) (sym (of_stream n posted is))
      ∙ sym (one_more n done posted))
      (adds all (events_of_stream n done) (at.posted refl));
}

posted_elsewhere : (board : BoardData) (done : List Posted) (posted : Posted) (whole : Bool) (n : ℕ) (p : PassData) → posted.stream ≢ n
    → IsStreamedAt board done true n p → IsStreamedAt board (done ++ posted ∷ []) whole n p
posted_elsewhere board done posted whole n p other at = record {
  own = at.own;
  posted = λ all. subst (AreEventsAt p.seen p.mine)
      (sym (one_more n done posted ∙ ap (λ (es : List Event). events_of_stream n done ++ es) (of_other n posted other)
      ∙ append-nil (events_of_stream n done))) (at.posted refl);
}

posted_before : (board : BoardData) (done : List Posted) (posted : Posted) (whole : Bool) (n : ℕ) (ps : List PassData) → posted.stream < n
    → AllFrom (IsStreamedAt board done true) n ps → AllFrom (IsStreamedAt board (done ++ posted ∷ []) whole) n ps
posted_before board done posted whole n [] low h = tt
posted_before board done posted whole n (p ∷ ps) low h = (
  posted_elsewhere board done posted whole n p (λ same. absurd (omega (arith, low, same))) h.0,
  posted_before board done posted whole
      (n + 1) ps (omega (arith, low)) h.1,
)

-- an event was posted under the pass of its stream, unless it could not be
pub posted_under : (board : BoardData) (done : List Posted) (posted : Posted) (whole : Bool) (n : ℕ) (ps : List PassData) (i : ℕ)
    (p q : PassData) → i < length ps → p ≡ get_or ps i p → posted.stream ≡ n + i
    → Grown p q → AreEyesOf board.queues q.eyes → (whole ≡ true → Adds p (posted.event ∷ []) q)
    → AllFrom (IsStreamedAt board done true) n ps → AllFrom (IsStreamedAt board (done ++ posted ∷ []) whole) n (set ps i q)
posted_under board done posted whole n [] i p q low is stream grown eyes adds h = absurd (omega arith)
posted_under board done posted whole n (x ∷ xs) zero p q low is stream grown eyes adds h = (
  posted_here board done posted whole n p q (omega (arith, stream)) grown eyes adds (subst (IsStreamedAt board done true n) (sym is) h.0),
  posted_before board done posted whole (n + 1) xs (omega (arith, stream)) h.1,
)
posted_under board done posted whole n (x ∷ xs) (suc i) p q low is stream grown eyes adds h = (
  posted_elsewhere board done posted whole n x (λ same. absurd (omega (arith, stream, same))) h.0,
  posted_under board done posted whole (n + 1) xs i p q (omega arith) is (omega (arith, stream)) grown eyes adds h.1,
)

-- a fact of what was made, where something was made
pub if_made : {X : Type 0} (Q : Type 0) (made : Option X) → IfSome made (λ x. Q) → is_some made ≡ true → Q
if_made Q None h is = absurd (cc is)
if_made Q (Some x) h is = h

-- where not all was done, nothing is said of what was posted
pub not_whole : (board : BoardData) (done events : List Posted) (whole : Bool) (n : ℕ) (ps : List PassData)
    → AllFrom (IsStreamedAt board done whole) n ps → AllFrom (IsStreamedAt board events false) n ps
not_whole board done events whole n [] h = tt
not_whole board done events whole n (p ∷ ps) h =
    (record { own = h.0.own; posted = λ all. absurd (cc all) }, not_whole board done events whole (n + 1) ps h.1)
