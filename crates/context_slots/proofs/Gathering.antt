-- Hands that are taken from the end of a list.
use Rattle.std.proofs.Common.{◌≡◌, ℕ, ◌+◌, ◌<◌, List, [], ◌∷◌, ◌++◌, length, length-append, append_assoc, append-nil, ap, sym, subst, ◌∙◌}
use Rattle.std.proofs.Common.{arith, None}
use Rattle.std.specs.Prelude.{All}
use Rattle.std.proofs.lemmas.List.Elements.{All-append, All-weaker}
use Rattle.atomic_table.specs.Seated.{TableId}
use Rattle.task_set.specs.declared.context.Context.{Context}
use Rattle.task_set.specs.Orders.{Stint}
use Rattle.context_slots.specs.declared.hand_seat.HandSeat.{HandSeat}
use Rattle.context_slots.specs.HandOver.{of_task}
use Rattle.task_set.specs.Sum.{total}
use Rattle.context_slots.specs.Hands.{HandData, new_hand, AreNewHandsFrom, AreFreeFrom, all_ended}
use Rattle.context_slots.specs.HandSteps.{SeatState, HoldsNothing, dealing, fresh_view, joined}
use Rattle.context_slots.specs.HandSeats.{hand_data_of, slots_of, IsWhole}
use Rattle.context_slots.specs.Homes.{AllCame}
use Rattle.task_set.proofs.Sums.{total-append}

abbrev FreeOf : TableId → ℕ → HandData → Type 0
FreeOf table n h = (h.slots ≡ table) × (h.holds ≡ None) × (h.number ≡ n)

free_snoc : (table : TableId) (n : ℕ) (l : List HandData) (h : HandData) → AreFreeFrom table n (l ++ h ∷ [])
    → AreFreeFrom table n l × FreeOf table (n + length l) h
free_snoc table n [] h r = (tt, (r.0, r.2, r.1 ∙ omega arith))
free_snoc table n (x ∷ xs) h r = let t = free_snoc table (n + 1) xs h r.3 in ((r.0, r.1, r.2, t.0), (t.1.0, t.1.1, t.1.2 ∙ omega arith))

ended_snoc : (g : Stint → ℕ) (l : List HandData) (h : HandData) → total g (all_ended (l ++ h ∷ [])) ≡ total g (all_ended l)
    + total g h.ended
ended_snoc g [] h = omega (arith, total-append g h.ended [])
ended_snoc g (x ∷ xs) h =
    omega (arith, total-append g x.ended (all_ended (xs ++ h ∷ [])), total-append g x.ended (all_ended xs), ended_snoc g xs h)

pub popped_rest : (table : TableId) (l l' : List HandData) (h : HandData) → l ≡ l' ++ h ∷ [] → AreFreeFrom table 0 l
    → AreFreeFrom table 0 l' × FreeOf table (0 + length l') h
popped_rest table l l' h is r = free_snoc table 0 l' h (subst (AreFreeFrom table 0) is r)

pub popped_ended : (g : Stint → ℕ) (l l' : List HandData) (h : HandData) → l ≡ l' ++ h ∷ [] → total g (all_ended l) ≡ total g (all_ended l')
    + total g h.ended
popped_ended g l l' h is = ap (λ x. total g (all_ended x)) is ∙ ended_snoc g l' h

pub popped_length : (l l' : List HandData) (h : HandData) → l ≡ l' ++ h ∷ [] → length l ≡ length l' + 1
popped_length l l' h is = omega (arith, ap length is, length-append l' (h ∷ []))

pub joined_ended : (g : Stint → ℕ) (m m' : SeatState) (a : HandSeat) → m' ≡ (joined m.0 a.seat.me.0, m.1)
    → total g m'.0.ended ≡ total g m.0.ended + total g a.seat.me.0.ended
joined_ended g m m' a is = ap (λ (x : SeatState). total g x.0.ended) is ∙ total-append g m.0.ended a.seat.me.0.ended

pub joined_free : (m m' : SeatState) (a : HandSeat) → m' ≡ (joined m.0 a.seat.me.0, m.1) → HoldsNothing m → HoldsNothing m'
joined_free m m' a is free = (ap (λ (x : SeatState). x.0.holds) is ∙ free.0, ap (λ (x : SeatState). x.1) is ∙ free.1)

-- a whole hand that holds nothing
pub is_free : (a : HandSeat) (h : HandData) → hand_data_of a ≡ h → h.holds ≡ None → IsWhole a → HoldsNothing a.seat.me
is_free a h is none_held whole = let e = ap (λ (d : HandData). d.holds) is ∙ none_held in (e, whole.slots ∙ ap slots_of e)

pub new_more : (table : TableId) (n m : ℕ) (l : List HandData) (h : HandData) → AreNewHandsFrom table n l → h ≡ new_hand table m
    → m ≡ n + length l → AreNewHandsFrom table n (l ++ h ∷ [])
new_more table n m [] h all one is = (one ∙ ap (new_hand table) (is ∙ omega arith), tt)
new_more table n m (x ∷ xs) h all one is = (all.0, new_more table (n + 1) m xs h all.1 one (is ∙ omega arith))

-- what counts of the stints is their weight
pub same_came : (all all' : List Stint) (n : ℕ) (cs : List Context) → ((g : Stint → ℕ) → total g all ≡ total g all') → AllCame all n cs
    → AllCame all' n cs
same_came all all' n [] same h = tt
same_came all all' n (c ∷ cs) same h =
    ((h.0.0, h.0.1, (λ g. sym (same (of_task n g)) ∙ h.0.2 g), h.0.3), same_came all all' (n + 1) cs same h.1)

-- a hand that was just cut off
pub is_new : (a : HandSeat) (table : TableId) (n : ℕ) → a.number ≡ n → a.seat.table_id ≡ table
    → ◌≡◌ {A = SeatState} a.seat.me (fresh_view n, []) → hand_data_of a ≡ new_hand table n
is_new a table n number at me = λ i. record {
  slots = at i;
  number = number i;
  holds = (me i).0.holds;
  ended = (me i).0.ended;
  looks = (me i).0.looks;
}

abbrev IsBelow : ℕ → Stint → Type 0
IsBelow n stint = stint.processor < n

all_ended_snoc : (l : List HandData) (h : HandData) → all_ended (l ++ h ∷ []) ≡ all_ended l ++ h.ended
all_ended_snoc [] h = append-nil h.ended
all_ended_snoc (x ∷ xs) h = ap (λ l. x.ended ++ l) (all_ended_snoc xs h) ∙ sym (append_assoc x.ended (all_ended xs) h.ended)

below_snoc : (n : ℕ) (l : List HandData) (h : HandData) → All (IsBelow n) (all_ended l) → All (IsBelow n) h.ended
    → All (IsBelow n) (all_ended (l ++ h ∷ []))
below_snoc n l h some one = subst (All (IsBelow n)) (sym (all_ended_snoc l h)) (All-append (IsBelow n) (all_ended l) h.ended some one)

pub popped_below : (n : ℕ) (l l' : List HandData) (h : HandData) → l ≡ l' ++ h ∷ [] → All (IsBelow n) (all_ended l')
    → All (IsBelow n) h.ended → All (IsBelow n) (all_ended l)
popped_below n l l' h is some one = subst (λ x. All (IsBelow n) (all_ended x)) (sym is) (below_snoc n l' h some one)

-- a hand's own stints, where its number is below n
pub own_below : (n : ℕ) (a : HandSeat) (h : HandData) → hand_data_of a ≡ h → h.number < n → IsWhole a → All (IsBelow n) h.ended
own_below n a h is low whole = subst (λ (d : HandData). All (IsBelow n) d.ended) is
    (All-weaker (λ stint. stint.processor ≡ a.number) (IsBelow n) (λ stint own. omega (arith, own, low, ap (λ (d : HandData). d.number) is))
    a.seat.me.0.ended whole.own)

-- a hand that was just cut off is whole
pub new_whole : (a : HandSeat) (n : ℕ) → ◌≡◌ {A = SeatState} a.seat.me (fresh_view n, []) → IsWhole a
new_whole a n me = record {
  parts = ap (λ (m : SeatState). m.0.parts) me;
  slots = ap (λ (m : SeatState). m.1) me ∙ sym (ap (λ (m : SeatState). slots_of m.0.holds) me);
  own = subst (λ (m : SeatState). All (λ stint. stint.processor ≡ a.number) m.0.ended) (sym me)
      (λ k stint low. absurd (let none : ⊥ = omega (arith, low) in none));
}

module _ (a : HandSeat) (processors made : ℕ) (me : ◌≡◌ {A = SeatState} a.seat.me (dealing processors made, [])) where
  -- the first hand is whole once all others are made
  pub last_whole : processors ≡ made → IsWhole a
  last_whole all = record {
    parts = ap (λ (m : SeatState). m.0.parts) me ∙ omega (arith, all);
    slots = ap (λ (m : SeatState). m.1) me ∙ sym (ap (λ (m : SeatState). slots_of m.0.holds) me);
    own = subst (λ (m : SeatState). All (λ stint. stint.processor ≡ a.number) m.0.ended) (sym me)
        (λ k stint low. absurd (let none : ⊥ = omega (arith, low) in none));
  }

  -- it did nothing
  pub first_new : (table : TableId) → a.number ≡ 0 → a.seat.table_id ≡ table → hand_data_of a ≡ new_hand table 0
  first_new table number at = λ i. record {
    slots = at i;
    number = number i;
    holds = (me i).0.holds;
    ended = (me i).0.ended;
    looks = (me i).0.looks;
  }
