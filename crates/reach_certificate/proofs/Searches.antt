-- One turn of the search for an idle processor.
use Rattle.std.proofs.Common.{◌≡◌, ℕ, suc, ◌+◌, ◌-◌, ◌<◌, ◌≤◌, true, false, ◌||◌, List, [], ◌∷◌, length, get_or, reverse, nat_eq, Some}
use Rattle.std.proofs.Common.{None, refl, sym, ◌∙◌, inl, inr, ◌⊎◌, IsTrue, arith, eq-eqb, ne_eqb}
use Rattle.std.proofs.Math.Bool.{or-false}
use Rattle.std.proofs.lemmas.Bool.{cases_Bool, cases_eq, true≢false, or_right}
use Rattle.std.proofs.lemmas.List.{length-reverse}
use Rattle.std.proofs.lemmas.List.Elements.{All-cons}
use Rattle.affinity_mask.specs.ProcSet.{has, members, Within}
use Rattle.strong_apa.specs.State.{State, IsState, task_on, effective_mask}
use Rattle.strong_apa.proofs.Masks.{effective_mask_online, effective_mask_below}
use Rattle.strong_apa.proofs.Simple.{IsSimple-cons}
use Rattle.reach_certificate.specs.Search.{IsWay, IsFull}
use Rattle.strong_apa.proofs.Counts.{count_below-bound, count_below-one_more, count_below-injection}
use Rattle.affinity_mask.proofs.Sets.{added_here, added_keeps, added_cases}

-- how many processors a set has
abbrev pub size_of : ℕ → ℕ
size_of X = length (members X)

pub size_bound : (X : ℕ) → size_of X ≤ 64
size_bound X = count_below-bound (has X) 64

pub size-within : (X Y : ℕ) → Within X Y → size_of X ≤ size_of Y
size-within X Y within = count_below-injection (has X) 64 (has Y) 64 (λ p. p) record {
  below = λ p lt h. lt;
  passes = λ p lt h. within p h;
  apart = λ p q lp lq hp hq e. e;
}

module _ (X Y p : ℕ) (added : (q : ℕ) → has Y q ≡ (has X q || nat_eq q p)) where
  pub size-added : p < 64 → has X p ≡ false → size_of Y ≡ suc (size_of X)
  size-added below fresh = count_below-one_more (has Y) (has X) p 64 below (added_here X Y p added) fresh
      (λ q lt ne. added q ∙ rw (ne_eqb q p ne) (or-false (has X q)))

-- a set that lacks a processor has room for it
pub size_room : (X p : ℕ) → p < 64 → has X p ≡ false → size_of X < 64
size_room X p below fresh =
    let more = count_below-one_more (λ q. has X q || nat_eq q p) (has X) p 64 below (or_right (has X p) _ (eq-eqb p p refl)) fresh
    (λ q lt ne. rw (ne_eqb q p ne) (or-false (has X q))) in
    let most = count_below-bound (λ q. has X q || nat_eq q p) 64 in
    omega arith

-- what is not in a set is in none within it
pub not_within : (X Y p : ℕ) → Within X Y → has Y p ≡ false → has X p ≡ false
not_within X Y p within out = elim (cases_Bool (has X p)) [
  | inl h ↦ absurd (true≢false (sym (within p h) ∙ out))
  | inr h ↦ h
]

-- what the turns before p have seen
pub record IsSeen (s : State) (t visited seen p : ℕ) : Type 0 where
  pub kept : Within visited seen
  pub mask : (q : ℕ) → q < p → IsTrue (has (effective_mask s t) q) → IsTrue (has seen q)
  pub occupied : (q : ℕ) → IsTrue (has seen q)
      → IsTrue (has visited q) ⊎ ((u : ℕ) × (task_on s q ≡ Some u) × Within (effective_mask s u) seen)

module _ (s : State) (ok : IsState s) (t visited seen p : ℕ) (so_far : IsSeen s t visited seen p) where
  -- a processor that is passed by
  pub IsSeen-passed : (IsTrue (has (effective_mask s t) p) → IsTrue (has seen p)) → IsSeen s t visited seen (p + 1)
  IsSeen-passed here = record {
    kept = so_far.kept;
    mask = λ q lt h. elim (cases_eq q p) [
      | inl e ↦ rw e (here (rw e at h))
      | inr ne ↦ so_far.mask q (omega arith) h
    ];
    occupied = so_far.occupied;
  }

  -- all processors were seen
  pub IsFull-seen : s.processors ≤ p → IsFull s t visited seen
  IsFull-seen all = record {
    kept = so_far.kept;
    mask = λ q h. let below = effective_mask_below s ok t q h in so_far.mask q (omega arith) h;
    occupied = so_far.occupied;
  }

  module _ (below : p < s.processors) (in_mask : has (effective_mask s t) p ≡ true) (fresh : has seen p ≡ false) where
    below_64 : p < 64
    below_64 = let most = ok.processors in omega arith

    not_visited : has visited p ≡ false
    not_visited = not_within visited seen p so_far.kept fresh

    -- nobody is there: the chain ends
    pub IsWay-idle : task_on s p ≡ None → IsWay s t visited (p ∷ [])
    IsWay-idle nobody = record {
      ends_idle = (p, (in_mask, refl), (effective_mask_online s t p in_mask, nobody));
      simple = λ i j d lt fits. absurd (omega arith);
      fresh = All-cons (λ q. has visited q ≡ false) p [] not_visited (λ k d lt. absurd (omega arith));
      fits = (let room = size_room visited p below_64 not_visited in omega arith);
    }

    module _ (u : ℕ) (on : task_on s p ≡ Some u) (added : ℕ) (is_added : (q : ℕ) → has added q ≡ (has seen q || nat_eq q p)) where
      -- the way of the occupant leaves room for one processor more
      pub way_room : (back : List ℕ) → IsWay s u added (reverse back) → length back < 64
      way_room back way =
          let fits = way.fits in let more = size-added seen added p is_added below_64 fresh in let n = length-reverse back in omega arith

      -- the occupant has a way on: so has t
      pub IsWay-more : (chain : List ℕ) → IsWay s u added chain → IsWay s t visited (p ∷ chain)
      IsWay-more [] way = absurd way.ends_idle.1
      IsWay-more (r ∷ rest) way = record {
        ends_idle = (way.ends_idle.0, (in_mask, ((u, on, way.ends_idle.1.0), way.ends_idle.1.1)), way.ends_idle.2);
        simple = IsSimple-cons p (r ∷ rest) (λ i fits e. true≢false
            (sym (added_here seen added p is_added) ∙ (rw e at (way.fresh i 0 fits)))) way.simple;
        fresh = All-cons (λ q. has visited q ≡ false) p (r ∷ rest) not_visited
            (λ k d fits. not_within visited added (get_or (r ∷ rest) k d) (λ q h. added_keeps seen added p is_added q (so_far.kept q h))
            (way.fresh k d fits));
        fits = (let fits = way.fits in let more = size-added seen added p is_added below_64 fresh in
            let le = size-within visited seen so_far.kept in omega arith);
      }

      -- it has none: so t has none through p
      pub IsSeen-more : (full : ℕ) → IsFull s u added full → IsSeen s t visited full (p + 1)
      IsSeen-more full dead = record {
        kept = λ q h. dead.kept q (added_keeps seen added p is_added q (so_far.kept q h));
        mask = λ q lt h. elim (cases_eq q p) [
          | inl e ↦ rw e (dead.kept p (added_here seen added p is_added))
          | inr ne ↦ dead.kept q (added_keeps seen added p is_added q (so_far.mask q (omega arith) h))
        ];
        occupied = λ q h. elim (dead.occupied q h) [
          | inl in_added ↦ elim (added_cases seen added p is_added q in_added) [
            | inl before ↦ elim (so_far.occupied q before) [
              | inl was ↦ inl was
              | inr held ↦ inr (held.0, held.1, (λ r k. dead.kept r (added_keeps seen added p is_added r (held.2 r k))))
            ]
            | inr here ↦ inr (u, rw here on, dead.mask)
          ]
          | inr held ↦ inr held
        ];
      }

      -- one processor more was seen
      pub added_falls : 64 - size_of added < 64 - size_of visited
      added_falls = let more = size-added seen added p is_added below_64 fresh in let le = size-within visited seen so_far.kept in
          let most = size_bound added in omega arith
