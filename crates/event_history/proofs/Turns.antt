-- What the steps of a turn tell together.
use Rattle.std.proofs.Common.{◌≡◌, ℕ, ◌*◌, ◌/◌, ◌≤◌, eqb, List, [], ◌∷◌, ◌++◌, length, sym, refl, ap, ◌∙◌, subst, arith, eq-eqb}
use Rattle.std.proofs.Common.{append_assoc, Option, Some, None, MatchBool}
use Rattle.atomic_table.specs.Table.{rest}
use Rattle.event_history.specs.declared.view.PassView.{PassView}
use Rattle.event_history.specs.Holdings.{HeldData}
use Rattle.event_history.specs.Turn.{Setting, TurnSeat, GoesOn, IsFree, HasTurn, loaded, found_another, with_turn, AllBegin}
use Rattle.event_history.proofs.Keeps.{one_held}

abbrev Found : TurnSeat → ℕ → TurnSeat → Type 0
Found m n m1 = (m1 ≡ (loaded m.0 n, m.1)) × AllBegin m.0.olds m.0.seen × (m.0.known ≤ n / 2)

-- a free pass that loaded is free
pub loaded_free : (m : TurnSeat) (n : ℕ) (m1 : TurnSeat) → IsFree m → m1 ≡ (loaded m.0 n, m.1) → IsFree m1
loaded_free m n m1 free is =
    subst IsFree (sym is) record { pass = free.pass; held = free.held; olds = refl; ended = free.ended; slots = free.slots }

-- the exchange won, and the turn with it
abbrev pub HasWon : Setting → TurnSeat → TurnSeat → ℕ → Type 0
HasWon of m1 m2 n = (held : HeldData) × (m2 ≡ (with_turn m1.0 n held.core, (0, Some held) ∷ [])) × GoesOn of m1.0 n held

-- the exchange found the word that it was for
pub won : (of : Setting) (k n : ℕ) (m1 m2 : TurnSeat) → k ≡ n → MatchBool (eqb k n) (HasWon of m1 m2 k) (m2 ≡ (found_another m1.0 k, m1.1))
    → HasWon of m1 m2 n
won of k n m1 m2 is told =
    subst (HasWon of m1 m2) is (subst (λ b. MatchBool b (HasWon of m1 m2 k) (m2 ≡ (found_another m1.0 k, m1.1))) (eq-eqb k n is) told)

one_slot : (r : Option HeldData) (a b : HeldData) (l : List (ℕ × Option HeldData)) → l ≡ (0, Some a) ∷ [] → l ≡ (0, r) ∷ rest l → r ≡ Some b
    → a ≡ b
one_slot r a b l is held got = one_held a b (sym is ∙ held ∙ (λ i. (0, got i) ∷ ap rest is i))

-- the turn, by a load, an exchange and a look into the slot
pub begun : (of : Setting) (m m1 m2 m3 : TurnSeat) (n : ℕ) (r : Option HeldData) (held : HeldData) → IsFree m → Found m n m1
    → HasWon of m1 m2 n
    → m2.1 ≡ (0, r) ∷ rest m2.1 → m3 ≡ (m2.0, (0, None) ∷ rest m2.1) → r ≡ Some held → HasTurn of m.0 m3 held
begun of m m1 m2 m3 n r held free found taken had put got =
    let slot : m2.1 ≡ (0, Some taken.0) ∷ [] = ap (λ (x : TurnSeat). x.1) taken.1 in
    let same : taken.0 ≡ held = one_slot r taken.0 held m2.1 slot had got in
    let v1 : m1.0 ≡ loaded m.0 n = ap (λ (x : TurnSeat). x.0) found.0 in
    let all : m3.0 ≡ with_turn (loaded m.0 n) n held.core = ap (λ (x : TurnSeat). x.0) put ∙ ap (λ (x : TurnSeat). x.0) taken.1
    ∙ (λ i. with_turn (v1 i) n (same i).core) in
    let on : GoesOn of (loaded m.0 n) n held = subst (λ (v : PassView). GoesOn of v n held) v1 (subst (GoesOn of m1.0 n) same taken.2) in
    let twice : n ≡ 2 * length held.core.history = sym on.count in
    record {
      pass = ap (λ (x : PassView). x.is_pass) all ∙ free.pass;
      caller = ap (λ (x : PassView). x.caller) all;
      ended = ap (λ (x : PassView). x.ended) all;
      mine = ap (λ (x : PassView). x.mine) all;
      seen = ap (λ (x : PassView). x.seen) all;
      close = ap (λ (x : PassView). x.saw_close) all;
      looks = ap (λ (x : PassView). x.looks) all ∙ append_assoc m.0.looks (n ∷ []) (n ∷ []) ∙ ap (λ k. m.0.looks ++ k ∷ k ∷ []) twice;
      knows = let e = ap (λ (x : PassView). x.known) all in omega arith;
      known = let e = ap (λ (x : PassView). x.known) all in omega (arith, found.2);
      had = ap (λ (x : PassView). x.held) all;
      slot = ap (λ (x : TurnSeat). x.1) put ∙ ap (λ l. (0, None) ∷ rest l) slot;
      start = on.start;
      queues = on.queues;
      begins = on.begins;
      closed = on.close;
    }
