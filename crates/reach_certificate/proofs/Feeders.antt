-- The processors whose occupant may run on a processor of a set, as a loop over the set finds them.
use Rattle.std.proofs.Common.{◌≡◌, ℕ, ◌&&◌, ◌||◌, not, false, nat_eq, refl, sym, ap, ◌∙◌, subst, inl, inr, IsTrue, ◌↔◌, eq-eqb, ne_eqb}
use Rattle.std.proofs.Math.Bool.{and-true}
use Rattle.std.proofs.lemmas.Bool.{cases_eq, and_left, and_right, not_from_true, or_cases, or_left, or_right, true≢false}
use Rattle.affinity_mask.specs.ProcSet.{has, empty}
use Rattle.affinity_mask.proofs.Sets.{has-zero}
use Rattle.strong_apa.specs.State.{State}
use Rattle.strong_apa.specs.Chain.{CanShift}
use Rattle.reach_certificate.specs.Judging.{ShiftsInto}

-- found are those whose occupant may run on a processor of the set that is not left; those that are left are of the set
pub record FeedersFound (s : State) (set left found : ℕ) : Type 0 where
  pub feeders : (q : ℕ) → IsTrue (has found q) ↔ ((r : ℕ) × IsTrue (has set r) × (has left r ≡ false) × CanShift s q r)
  pub of_set : (r : ℕ) → IsTrue (has left r) → IsTrue (has set r)

-- none, before the first processor
pub feeders_none : (s : State) (set found : ℕ) → found ≡ empty → FeedersFound s set set found
feeders_none s set found none = record {
  feeders = λ q. (
    (λ h. absurd (true≢false (sym h ∙ ap (λ (X : ℕ). has X q) none ∙ has-zero q))),
    (λ source. absurd (true≢false (sym source.1 ∙ source.2))),
  );
  of_set = λ r h. h;
}

-- one processor less is left
module _ (s : State) (set left found p fewer more sources : ℕ) (so_far : FeedersFound s set left found) (there : IsTrue (has left p))
    (taken : (q : ℕ) → has fewer q ≡ (has left q && not (nat_eq q p)))
    (feeds : (q : ℕ) → IsTrue (has sources q) ↔ CanShift s q p) (added : (q : ℕ) → has more q ≡ (has found q || has sources q)) where
  out : has fewer p ≡ false
  out = taken p ∙ and_right (has left p) (not (nat_eq p p)) (not_from_true (nat_eq p p) (eq-eqb p p refl))

  pub feeders_more : FeedersFound s set fewer more
  feeders_more = record {
    feeders = λ q. (to q, from q);
    of_set = λ r h. elim (cases_eq r p) [
      | inl same ↦ subst (λ (n : ℕ). IsTrue (has set n)) (sym same) (so_far.of_set p there)
      | inr other ↦ so_far.of_set r (sym (taken r ∙ ap (λ b. has left r && not b) (ne_eqb r p other) ∙ and-true (has left r)) ∙ h)
    ];
  }
    where
      to : (q : ℕ) → IsTrue (has more q) → (r : ℕ) × IsTrue (has set r) × (has fewer r ≡ false) × CanShift s q r
      to q h = elim (or_cases (has found q) (has sources q) (sym (added q) ∙ h)) [
        | inl before ↦ (let source = (so_far.feeders q).0 before in
            (source.0, source.1, taken source.0 ∙ and_left (has left source.0) (not (nat_eq source.0 p)) source.2, source.3))
        | inr now ↦ (p, so_far.of_set p there, out, (feeds q).0 now)
      ]

      from : (q : ℕ) → ((r : ℕ) × IsTrue (has set r) × (has fewer r ≡ false) × CanShift s q r) → IsTrue (has more q)
      from q source = elim (cases_eq source.0 p) [
        | inl same ↦ added q ∙ or_right (has found q) (has sources q) ((feeds q).1 (subst (λ (n : ℕ). CanShift s q n) same source.3))
        | inr other ↦ added q ∙ or_left (has found q) (has sources q)
            ((so_far.feeders q).1 (
              source.0,
              source.1,
              sym (taken source.0 ∙ ap (λ b. has left source.0 && not b) (ne_eqb source.0 p other)
                  ∙ and-true (has left source.0)) ∙ source.2,
              source.3,
            ))
      ]

-- where none is left, all are found
pub feeders_whole : (s : State) (set left found : ℕ) → FeedersFound s set left found → left ≡ empty → (q : ℕ)
    → IsTrue (has found q) ↔ ShiftsInto s q set
feeders_whole s set left found so_far none q = (
  (λ h. let source = (so_far.feeders q).0 h in (source.0, source.1, source.3)),
  (λ source. (so_far.feeders q).1 (source.0, source.1, ap (λ (X : ℕ). has X source.0) none ∙ has-zero source.0, source.2)),
)
