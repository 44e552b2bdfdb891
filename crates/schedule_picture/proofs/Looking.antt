-- Tracks that see one after the other.
use Rattle.std.proofs.Common.{◌≡◌, ◌≢◌, ℕ, ◌+◌, ◌<◌, ◌≤◌, List, length, get_or, Option, refl, sym, ◌∙◌, subst, arith, inl, inr}
use Rattle.std.proofs.lemmas.Bool.{cases_eq}
use Rattle.schedule_picture.specs.declared.span.Seen.{Seen}
use Rattle.schedule_picture.specs.Track.{TrackData, Sees, spans_until}
use Rattle.schedule_picture.specs.Tracks.{EachSees, OneSees, EachEnds, OneEnds}

-- the tracks below this place have become what they are to be, and the others stay
pub record BecomesBelow (Becomes : ℕ → TrackData → TrackData → Type 0) (bound : ℕ) (old new : List TrackData) : Type 0 where
  pub count : length new ≡ length old
  pub done : (x : ℕ) (d : TrackData) → x < bound → x < length old → Becomes x (get_or old x d) (get_or new x d)
  pub rest : (x : ℕ) (d : TrackData) → bound ≤ x → get_or new x d ≡ get_or old x d

-- one of them does
record BecomesAt (Becomes : ℕ → TrackData → TrackData → Type 0) (x : ℕ) (old new : List TrackData) : Type 0 where
  count : length new ≡ length old
  there : (d : TrackData) → Becomes x (get_or old x d) (get_or new x d)
  others : (y : ℕ) (d : TrackData) → y ≢ x → get_or new y d ≡ get_or old y d

pub below_none : (Becomes : ℕ → TrackData → TrackData → Type 0) (old : List TrackData) → BecomesBelow Becomes 0 old old
below_none Becomes old = record {
  count = refl;
  done = λ x d lt. absurd (omega arith);
  rest = λ x d le. refl;
}

below_more : (Becomes : ℕ → TrackData → TrackData → Type 0) (b : ℕ) (old mid new : List TrackData) → BecomesBelow Becomes b old mid
    → BecomesAt Becomes b mid new → BecomesBelow Becomes (b + 1) old new
below_more Becomes b old mid new below one = record {
  count = one.count ∙ below.count;
  done = λ x d lt in_list. elim (cases_eq x b) [
    | inl same ↦
        subst (λ (y : ℕ). Becomes y (get_or old y d) (get_or new y d)) (sym same)
        (subst (λ (t : TrackData). Becomes b t (get_or new b d)) (below.rest b d (omega arith)) (one.there d))
    | inr other ↦
        subst (λ (t : TrackData). Becomes x (get_or old x d) t) (sym (one.others x d other)) (below.done x d (omega arith) in_list)
  ];
  rest = λ x d le. one.others x d (omega arith) ∙ below.rest x d (omega arith);
}

-- ---- what is seen
pub Becoming : ℕ → (ℕ → Option Seen) → ℕ → TrackData → TrackData → Type 0
Becoming n sight x old new = Sees n (sight x) old new

pub seen_more : (n : ℕ) (sight : ℕ → Option Seen) (b : ℕ) (seen : Option Seen) (old mid new : List TrackData) → seen ≡ sight b
    → BecomesBelow (Becoming n sight) b old mid → OneSees n b seen mid new → BecomesBelow (Becoming n sight) (b + 1) old new
unfolding Becoming
seen_more n sight b seen old mid new is below one = below_more (Becoming n sight) b old mid new below (record {
  count = one.count;
  there = λ d. subst (λ (what : Option Seen). Sees n what (get_or mid b d) (get_or new b d)) is (one.there d);
  others = one.others;
})

pub seen_all : (n : ℕ) (sight : ℕ → Option Seen) (b : ℕ) (old new : List TrackData) → b ≡ length old
    → BecomesBelow (Becoming n sight) b old new → EachSees n sight old new
unfolding Becoming
seen_all n sight b old new all below = record {
  count = below.count;
  each = λ x d lt. below.done x d (omega arith) lt;
}

-- ---- what has ended
pub Ending : ℕ → ℕ → TrackData → TrackData → Type 0
Ending until x old new = new.spans ≡ spans_until old until

pub ended_more : (until b : ℕ) (old mid new : List TrackData) → BecomesBelow (Ending until) b old mid → OneEnds until b mid new
    → BecomesBelow (Ending until) (b + 1) old new
unfolding Ending
ended_more until b old mid new below one = below_more (Ending until) b old mid new below (record {
  count = one.count;
  there = one.there;
  others = one.others;
})

pub ended_all : (until b : ℕ) (old new : List TrackData) → length old ≤ b → BecomesBelow (Ending until) b old new → EachEnds until old new
unfolding Ending
ended_all until b old new all below = record {
  count = below.count;
  each = λ x d lt. below.done x d (omega arith) lt;
}
