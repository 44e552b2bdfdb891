-- The last switch of each processor, passage by passage.
use Rattle.std.proofs.Common.{◌≡◌, ℕ, ◌+◌, Bool, true, false, not, List, Option, None, Some, refl, sym, ap, ◌∙◌, subst, inl, inr, arith}
use Rattle.std.specs.Prelude.{slice_get, nat_eq, cond}
use Rattle.std.specs.Bool.{MatchBool}
use Rattle.std.specs.Option.{option_eq}
use Rattle.std.proofs.lemmas.Bool.{cases_eq, cases_lt, eqb-true, eq-eqb}
use Rattle.std.proofs.lemmas.Option.{same_Some}
use Rattle.trace_losses.specs.Moments.{IsCount}
use Rattle.trace_losses.specs.Jumps.{IsLastSwitch, IsJump, IsLast, AreLast, is_switch_of, is_other, jumps_by, last_by}
use Rattle.trace_passages.specs.declared.passage.Passage.{Passage}
use Rattle.trace_passages.specs.declared.turn.Turn.{Turn}
use Rattle.trace_passages.specs.declared.turn.Turn.TheVariants.{Switch, Woken}
use Rattle.trace_losses.proofs.Counts.{count_moved, count_append, count_all, count_none}

-- ---- threads
two_truths : {A : Type 0} (b : Bool) → b ≡ true → b ≡ false → A
two_truths b one other = differ (sym one ∙ other)
  where
    differ : {A : Type 0} → ◌≡◌ {A = Bool} true false → A
    differ e = cc

same_thread : (a b : Option ℕ) → option_eq nat_eq a b ≡ true → a ≡ b
same_thread None None e = refl
same_thread None (Some y) e = two_truths false e refl
same_thread (Some x) None e = two_truths false e refl
same_thread (Some x) (Some y) e = ap Some (eqb-true x y e)

equal_thread : (a : Option ℕ) → option_eq nat_eq a a ≡ true
equal_thread None = refl
equal_thread (Some x) = eq-eqb x x refl

-- ---- lines
no_turn : {A : Type 0} (turn : Turn) → ◌≡◌ {A = Option Turn} None (Some turn) → A
no_turn turn e = cc

no_switch : {A : Type 0} (t p : ℕ) (from to : Option ℕ) → Some (Woken t) ≡ Some (Switch p from to) → A
no_switch t p from to e = cc

same_processor : (p q : ℕ) (a b c d : Option ℕ) → Some (Switch p a b) ≡ Some (Switch q c d) → p ≡ q
same_processor p q a b c d e = cc

same_from : (p q : ℕ) (a b c d : Option ℕ) → Some (Switch p a b) ≡ Some (Switch q c d) → a ≡ c
same_from p q a b c d e = cc

same_to : (p q : ℕ) (a b c d : Option ℕ) → Some (Switch p a b) ≡ Some (Switch q c d) → b ≡ d
same_to p q a b c d e = cc

is_of_it : (p : ℕ) (from to : Option ℕ) (turn : Option Turn) → turn ≡ Some (Switch p from to) → is_switch_of p turn ≡ true
is_of_it p from to turn e = ap (is_switch_of p) e ∙ eq-eqb p p refl

module _ (passages : List Passage) (n : ℕ) where
  -- a processor has one last switch
  one_last : (p : ℕ) (a b : Option ℕ) → IsLastSwitch passages n p a → IsLastSwitch passages n p b → a ≡ b
  one_last p a b one other = elim (cases_lt one.k other.k) [
    | inl less ↦
        two_truths (is_switch_of p other.passage.turn) (is_of_it p other.from b other.passage.turn other.is)
        (one.last other.k other.passage less other.before other.there)
    | inr after ↦ elim (cases_lt other.k one.k) [
      | inl more ↦
          two_truths (is_switch_of p one.passage.turn) (is_of_it p one.from a one.passage.turn one.is)
          (other.last one.k one.passage more one.before one.there)
      | inr before ↦ (
          let place : one.k ≡ other.k = omega (arith, after, before) in
          let same : one.passage ≡ other.passage =
          same_Some one.passage other.passage (sym one.there ∙ ap (slice_get passages) place ∙ other.there) in
          same_to p p one.from a other.from b (sym one.is ∙ ap (λ (passage : Passage). passage.turn) same ∙ other.is))
    ]
  ]

  module _ (passage : Passage) (there : slice_get passages n ≡ Some passage) where
    -- the passage is no switch of the processor, and the last one stays
    stays : (p : ℕ) (found : Option (Option ℕ)) → is_switch_of p passage.turn ≡ false → IsLast passages n p found
        → IsLast passages (n + 1) p found
    stays p None apart is = λ l other below at. elim (cases_eq l n) [
      | inl same ↦
          ap (λ (one : Passage). is_switch_of p one.turn) (same_Some other passage (sym at ∙ ap (slice_get passages) same ∙ there)) ∙ apart
      | inr differs ↦ is l other (omega (arith, below, differs)) at
    ]
    stays p (Some to) apart is = record {
      k = is.k;
      from = is.from;
      passage = is.passage;
      before = (let earlier = is.before in omega (arith, earlier));
      there = is.there;
      is = is.is;
      last = λ l other after below at. elim (cases_eq l n) [
        | inl same ↦
            ap (λ (one : Passage). is_switch_of p one.turn) (same_Some other passage (sym at ∙ ap (slice_get passages) same ∙ there))
            ∙ apart
        | inr differs ↦ is.last l other after (omega (arith, below, differs)) at
      ];
    }

    module _ (last : ℕ → Option (Option ℕ)) (are : AreLast passages n last) where
      -- ---- the next passage
      by_same : (q : ℕ) (from to : Option ℕ) → passage.turn ≡ Some (Switch q from to) → (p : ℕ) (b : Bool) → nat_eq q p ≡ b
          → IsLast passages (n + 1) p (cond b (Some to) (last p))
      by_same q from to is p true e = record {
        k = n;
        from = from;
        passage = passage;
        before = omega arith;
        there = there;
        is = is ∙ ap (λ (r : ℕ). Some (Switch r from to)) (eqb-true q p e);
        last = λ l other after below at. absurd (omega (arith, after, below));
      }
      by_same q from to is p false e = stays p (last p) (ap (is_switch_of p) is ∙ e) (are p)

      by_turn : (turn : Option Turn) → passage.turn ≡ turn → AreLast passages (n + 1) (last_by last turn)
      by_turn None e p = stays p (last p) (ap (is_switch_of p) e) (are p)
      by_turn (Some (Woken t)) e p = stays p (last p) (ap (is_switch_of p) e) (are p)
      by_turn (Some (Switch q from to)) e p = by_same q from to e p (nat_eq q p) refl

      pub next_last : AreLast passages (n + 1) (last_by last passage.turn)
      next_last = by_turn passage.turn refl

      -- ---- whether it is a jump
      turn_of_jump : (jump : IsJump passages n) → passage.turn ≡ Some (Switch jump.processor jump.from jump.to)
      turn_of_jump jump =
          ap (λ (one : Passage). one.turn) (same_Some passage jump.passage (sym there ∙ jump.there)) ∙ jump.is

      module _ (p : ℕ) (from to : Option ℕ) (is : passage.turn ≡ Some (Switch p from to)) where
        last_of_jump : (jump : IsJump passages n) → IsLastSwitch passages n p jump.came
        last_of_jump jump =
            subst (λ (q : ℕ). IsLastSwitch passages n q jump.came)
            (same_processor jump.processor p jump.from jump.to from to (sym (turn_of_jump jump) ∙ is)) jump.last

        from_of_jump : (jump : IsJump passages n) → jump.from ≡ from
        from_of_jump jump = same_from jump.processor p jump.from jump.to from to (sym (turn_of_jump jump) ∙ is)

        by_equal : (came : Option ℕ) → IsLastSwitch passages n p came → (b : Bool) → option_eq nat_eq came from ≡ b
            → MatchBool (not b) (IsJump passages n) (IsJump passages n → ⊥)
        by_equal came last_is true e = λ jump.
            jump.differs (one_last p jump.came came (last_of_jump jump) last_is ∙ same_thread came from e ∙ sym (from_of_jump jump))
        by_equal came last_is false e = record {
          processor = p;
          from = from;
          to = to;
          came = came;
          passage = passage;
          there = there;
          is = is;
          last = last_is;
          differs = λ same. two_truths (option_eq nat_eq came from) (ap (λ (a : Option ℕ). option_eq nat_eq a from) same
              ∙ equal_thread from) e;
        }

        by_last : (found : Option (Option ℕ)) → IsLast passages n p found
            → MatchBool (is_other found from) (IsJump passages n) (IsJump passages n → ⊥)
        by_last None none = λ jump.
            (let before : IsLastSwitch passages n p jump.came = last_of_jump jump in
            two_truths (is_switch_of p before.passage.turn) (is_of_it p before.from jump.came before.passage.turn before.is)
            (none before.k before.passage before.before before.there))
        by_last (Some came) last_is = by_equal came last_is (option_eq nat_eq came from) refl

      jump_by : (turn : Option Turn) → passage.turn ≡ turn → MatchBool (jumps_by last turn) (IsJump passages n) (IsJump passages n → ⊥)
      jump_by None e = λ jump.
          no_turn (Switch jump.processor jump.from jump.to) (sym e ∙ turn_of_jump jump)
      jump_by (Some (Woken t)) e = λ jump.
          no_switch t jump.processor jump.from jump.to (sym e ∙ turn_of_jump jump)
      jump_by (Some (Switch p from to)) e = by_last p from to e (last p) (are p)

      pub next_jump : MatchBool (jumps_by last passage.turn) (IsJump passages n) (IsJump passages n → ⊥)
      next_jump = jump_by passage.turn refl

      -- one passage more is counted where it is one
      one_more : (b : Bool) → b ≡ jumps_by last passage.turn → IsCount (IsJump passages) (0 + n) 1 (cond b 1 0)
      one_more true e =
          let is : IsJump passages n = subst (λ (b : Bool). MatchBool b (IsJump passages n) (IsJump passages n → ⊥)) (sym e) next_jump in
          count_all (IsJump passages) (0 + n) 1
          (λ x from below. (let place : n ≡ x = omega (arith, from, below) in subst (IsJump passages) place is))
      one_more false e =
          let none : IsJump passages n → ⊥ = subst (λ (b : Bool). MatchBool b (IsJump passages n) (IsJump passages n → ⊥)) (sym e)
          next_jump in
          count_none (IsJump passages) (0 + n) 1
          (λ x from below is. (let place : x ≡ n = omega (arith, from, below) in none (subst (IsJump passages) place is)))

      pub jumps_on : (b : Bool) (jumps more : ℕ) → b ≡ jumps_by last passage.turn → more ≡ jumps + cond b 1 0
          → IsCount (IsJump passages) 0 n jumps → IsCount (IsJump passages) 0 (n + 1) more
      jumps_on b jumps more e after counted =
          count_moved (IsJump passages) 0 0 (1 + n) (n + 1) (jumps + cond b 1 0) more refl (omega arith) (sym after)
          (count_append (IsJump passages) n 0 1 jumps (cond b 1 0) counted (one_more b e))
