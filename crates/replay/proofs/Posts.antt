-- Posting a stream, event by event.
use Rattle.std.proofs.Common.{◌≡◌, ◌≢◌, ℕ, ◌+◌, cond, Bool, true, false, ◌&&◌, inl, inr, List, [], ◌∷◌, ◌++◌, map, sym, refl, ap, ◌∙◌}
use Rattle.std.proofs.Common.{subst, arith, eq-eqb, ne_eqb, append-nil, append_assoc}
use Rattle.task_set.specs.declared.event.Event.{Event}
use Rattle.trace_reader.specs.declared.posted.Posted.{Posted}
use Rattle.event_history.specs.Boards.{BoardData, PassData, Grown, AreEyesOf, AreFrom}
use Rattle.event_history.specs.Merging.{AreEventsAt}
use Rattle.event_history.specs.Posting.{TookTurn, turn_looks}
use Rattle.event_history.proofs.Merging.{posted_events_stay}
use Rattle.event_history.proofs.Prefixes.{prefix_trans}
use Rattle.replay.specs.Merge.{events_of_stream}
use Rattle.replay.specs.Places.{AllFrom}
use Rattle.replay.specs.Streams.{Adds, IsPassAt, IsStreamedAt, SomeSawClose}

-- a pass stays its caller's
pub pass_stays : (board : BoardData) (n : ℕ) (old new : PassData) → IsPassAt board n old → Grown old new → AreEyesOf board.queues new.eyes
    → IsPassAt board n new
pass_stays board n old new own grown eyes =
    record { of_board = grown.board ∙ own.of_board; caller = grown.caller ∙ own.caller; eyes = eyes }

-- what a pass keeps, it keeps through two calls
pub grown_further : (old mid new : PassData) → Grown old mid → Grown mid new → Grown old new
grown_further old mid new first then = record {
  board = then.board ∙ first.board;
  caller = then.caller ∙ first.caller;
  seen = prefix_trans old.seen mid.seen new.seen first.seen then.seen;
  known = omega (arith, first.known, then.known);
  close = λ saw. then.close (first.close saw);
  looks = (
    first.looks.0 ++ then.looks.0,
    then.looks.1 ∙ ap (λ (l : List ℕ). l ++ then.looks.0) first.looks.1
        ∙ append_assoc old.looks first.looks.0 then.looks.0,
  );
}

-- a turn that came after what the pass had then gained
pub turn_further : (old mid new : PassData) (count : ℕ) → Grown old mid → TookTurn mid new count → TookTurn old new count
turn_further old mid new count grown took = (
  grown.looks.0 ++ took.0,
  took.1 ∙ ap (λ (l : List ℕ). turn_looks l count)
      (ap (λ (l : List ℕ). l ++ took.0) grown.looks.1 ∙ append_assoc old.looks grown.looks.0 took.0),
)

-- nothing was posted
pub adds_none : (old new : PassData) (events : List Event) → new ≡ old → events ≡ [] → Adds old events new
adds_none old new events same none = λ done at. subst (λ (es : List Event). AreEventsAt new.seen new.mine (done ++ es)) (sym none)
    (subst (λ (p : PassData). AreEventsAt p.seen p.mine (done ++ [])) (sym same)
    (subst (AreEventsAt old.seen old.mine) (sym (append-nil done)) at))

-- what was posted stays so
pub adds_further : (old mid new : PassData) (events : List Event) → Adds old events mid → Grown mid new → new.mine ≡ mid.mine
    → Adds old events new
adds_further old mid new events adds grown mine = λ done at. posted_events_stay mid new (done ++ events) grown mine (adds done at)

-- an event of the stream, and of another
pub of_stream : (stream : ℕ) (posted : Posted) → posted.stream ≡ stream → events_of_stream stream (posted ∷ []) ≡ posted.event ∷ []
of_stream stream posted is = ap (λ (b : Bool). map (λ (q : Posted). q.event) (cond b (posted ∷ []) [])) (eq-eqb posted.stream stream is)

pub of_other : (stream : ℕ) (posted : Posted) → posted.stream ≢ stream → events_of_stream stream (posted ∷ []) ≡ []
of_other stream posted other =
    ap (λ (b : Bool). map (λ (q : Posted). q.event) (cond b (posted ∷ []) [])) (ne_eqb posted.stream stream other)

pub adds_here : (old new : PassData) (stream : ℕ) (posted : Posted) → posted.stream ≡ stream → Adds old (posted.event ∷ []) new
    → Adds old (events_of_stream stream (posted ∷ [])) new
adds_here old new stream posted is adds = subst (λ (es : List Event). Adds old es new) (sym (of_stream stream posted is)) adds

-- all passes of a board, each at its place
pub passes_at : (board : BoardData) (n : ℕ) (passes : List PassData) → AreFrom board n passes → AllFrom (IsPassAt board) n passes
passes_at board n [] all = tt
passes_at board n (pass ∷ rest) all = (record { of_board = all.0; caller = all.1; eyes = all.2 }, passes_at board (n + 1) rest all.3)

pub passes_from : (board : BoardData) (n : ℕ) (passes : List PassData) → AllFrom (IsPassAt board) n passes → AreFrom board n passes
passes_from board n [] all = tt
passes_from board n (pass ∷ rest) all = (all.0.of_board, all.0.caller, all.0.eyes, passes_from board (n + 1) rest all.1)

-- one flag more, and a pass that posted its stream
both_true : (a b : Bool) → (a && b) ≡ true → (a ≡ true) × (b ≡ true)
both_true true b is = (refl, is)
both_true false b is = absurd (cc is)

pub streamed_first : (board : BoardData) (events : List Posted) (a b : Bool) (n : ℕ) (pass : PassData) → IsStreamedAt board events a n pass
    → IsStreamedAt board events (a && b) n pass
streamed_first board events a b n pass at = record { own = at.own; posted = λ whole. at.posted (both_true a b whole).0 }

pub streamed_last : (board : BoardData) (events : List Posted) (a b : Bool) (n : ℕ) (pass : PassData) → IsStreamedAt board events b n pass
    → IsStreamedAt board events (a && b) n pass
streamed_last board events a b n pass at = record { own = at.own; posted = λ whole. at.posted (both_true a b whole).1 }

-- a stream stays posted as its pass sees more
pub streamed_stays : (board : BoardData) (events : List Posted) (whole : Bool) (n : ℕ) (old new : PassData)
    → IsStreamedAt board events whole n old → Grown old new → new.mine ≡ old.mine → AreEyesOf board.queues new.eyes
    → IsStreamedAt board events whole n new
streamed_stays board events whole n old new at grown mine eyes = record {
  own = pass_stays board n old new at.own grown eyes;
  posted = λ all. posted_events_stay old new (events_of_stream n events) grown mine (at.posted all);
}

pub saw_last : (passes : List PassData) (pass : PassData) → pass.saw_close ≡ true → SomeSawClose (passes ++ pass ∷ [])
saw_last [] pass saw = inl saw
saw_last (first ∷ rest) pass saw = inr (saw_last rest pass saw)
