-- A tally goes on by equal moments.
use Rattle.std.proofs.Common.{◌≡◌, ℕ, zero, suc, ◌+◌, ◌-◌, ◌<◌, ◌≤◌, Bool, true, false, nat_lt, List, [], ◌∷◌, ◌++◌, length, refl, sym, ap}
use Rattle.std.proofs.Common.{◌∙◌, subst, arith, length-append}
use Rattle.std.specs.Prelude.{replicate, map, count_by, cond, if◌then◌else◌}
use Rattle.std.proofs.lemmas.List.{length-replicate, map-append}
use Rattle.std.proofs.lemmas.List.Sums.{sum_by-append}
use Rattle.trace_losses.specs.Moments.{is_ready_then, is_served, is_lost, losses, IsCount, IsCurrent, IsLongest, IsOver, IsTally}
use Rattle.trace_losses.specs.Tally.{IsWithin, more, over, current_after, ended_after, longer, tally_after}
use Rattle.trace_losses.specs.declared.seen.Seen.{Seen}
use Rattle.trace_losses.specs.declared.tally.Stretch.{Stretch}
use Rattle.trace_losses.specs.declared.tally.Tally.{Tally}
use Rattle.trace_losses.proofs.Overs.{over_grown, over_kept}
use Rattle.trace_losses.proofs.Stretches.{grown, longest_grown, ended, longest_kept}

-- ---- counts
count_next : (p : Seen → Bool) (units : ℕ) (seen : Seen)
    → count_by p (replicate (suc units) seen) ≡ 0 + cond (p seen) 1 0 + count_by p (replicate units seen)
count_next p units seen = sum_by-append (λ (x : Seen). cond (p x) 1 0) (seen ∷ []) (replicate units seen)

count_same : (p : Seen → Bool) (units : ℕ) (seen : Seen) (b : Bool) → p seen ≡ b
    → count_by p (replicate units seen) ≡ (if b then units else 0)
count_same p zero seen true e = refl
count_same p zero seen false e = refl
count_same p (suc units) seen true e =
    let one : cond (p seen) 1 0 ≡ 1 = ap {B = ℕ} (λ (b : Bool). cond b 1 0) e in
    omega (arith, count_next p units seen, count_same p units seen true e, one)
count_same p (suc units) seen false e =
    let none : cond (p seen) 1 0 ≡ 0 = ap {B = ℕ} (λ (b : Bool). cond b 1 0) e in
    omega (arith, count_next p units seen, count_same p units seen false e, none)

pub count_more : (p : Seen → Bool) (moments : List Seen) (units count : ℕ) (seen : Seen) → count ≡ count_by p moments
    → more (p seen) count units ≡ count_by p (moments ++ replicate units seen)
count_more p moments units count seen is =
    let parts = sum_by-append (λ (x : Seen). cond (p x) 1 0) moments (replicate units seen) in
    let same = count_same p units seen (p seen) refl in
    ap (λ (n : ℕ). n + (if p seen then units else 0)) is
    ∙ ap (λ (n : ℕ). count_by p moments + n) (sym same)
    ∙ sym parts

-- ---- losses
map_same : (units : ℕ) (seen : Seen) → map is_lost (replicate units seen) ≡ replicate units (is_lost seen)
map_same zero seen = refl
map_same (suc units) seen = ap (λ (rest : List Bool). is_lost seen ∷ rest) (map_same units seen)

losses_more : (moments : List Seen) (units : ℕ) (seen : Seen)
    → losses (moments ++ replicate units seen) ≡ losses moments ++ replicate units (is_lost seen)
losses_more moments units seen =
    map-append is_lost moments (replicate units seen) ∙ ap (λ (rest : List Bool). losses moments ++ rest) (map_same units seen)

-- the stretch up to the last moment, the moments over before it, and the longest stretch, where lost moments follow or others
record Stretched (lost : List Bool) (count over : ℕ) (stretch : Stretch) : Type 0 where
  current : IsCurrent lost count
  ended : IsCount (IsOver lost) 0 (length lost - count) over
  longest : IsLongest lost stretch

stretched : (b : Bool) (lost : List Bool) (units count over n : ℕ) (stretch : Stretch) → 0 < units → n ≡ length lost
    → IsCurrent lost count → IsCount (IsOver lost) 0 (length lost - count) over → IsLongest lost stretch
    → Stretched (lost ++ replicate units b) (current_after b count units) (ended_after b over count)
    (longer stretch (record { first = n + units - current_after b count units; count = current_after b count units }))
stretched true lost units count over n stretch some is current ended_is longest = record {
  current = grown lost units count current;
  ended = over_grown lost units count current over ended_is;
  longest = longest_grown lost units count current stretch longest n is;
}
stretched false lost units count over n stretch some is current ended_is longest = record {
  current = ended lost units some;
  ended = over_kept lost units count some current over ended_is;
  longest = longest_kept lost units some stretch longest n;
}

length_losses : (moments : List Seen) → length (losses moments) ≡ length moments
length_losses [] = refl
length_losses (seen ∷ moments) = omega (arith, length_losses moments)

pub tally_more : (moments : List Seen) (tally : Tally) (units : ℕ) (seen : Seen) → 0 < units → IsTally moments tally
    → IsTally (moments ++ replicate units seen) (tally_after tally units seen)
tally_more moments tally units seen some is =
    let counted : tally.moments ≡ length (losses moments) = is.count ∙ sym (length_losses moments) in
    let both = stretched (is_lost seen) (losses moments) units tally.current tally.ended tally.moments tally.longest some counted is.current
    is.ended is.longest in
    let same = sym (losses_more moments units seen) in
    let after : Tally = tally_after tally units seen in
    record {
      count =
          ap (λ (n : ℕ). n + units) is.count ∙ ap (λ (n : ℕ). length moments + n) (sym (length-replicate units seen))
          ∙ sym (length-append moments (replicate units seen));
      ready = count_more is_ready_then moments units tally.ready seen is.ready;
      served = count_more is_served moments units tally.served seen is.served;
      lost = count_more is_lost moments units tally.lost seen is.lost;
      current = subst (λ (lost : List Bool). IsCurrent lost after.current) same both.current;
      ended = subst (λ (lost : List Bool). IsCount (IsOver lost) 0 (length lost - after.current) after.ended) same both.ended;
      longest = subst (λ (lost : List Bool). IsLongest lost after.longest) same both.longest;
    }

-- no number is greater than that of the moments
pub count_within : (b : Bool) (count moments units : ℕ) → count ≤ moments → more b count units ≤ moments + units
count_within true count moments units is = omega arith
count_within false count moments units is = omega arith

current_within : (b : Bool) (count moments units : ℕ) → count ≤ moments → current_after b count units ≤ moments + units
current_within true count moments units is = omega arith
current_within false count moments units is = omega arith

ended_within : (b : Bool) (ended count moments units : ℕ) → ended + count ≤ moments
    → ended_after b ended count + current_after b count units ≤ moments + units
ended_within true ended count moments units is = omega arith
ended_within false ended count moments units is = by (nat_lt 50 count)
  where
    by : (b : Bool) → ended + (if b then count else 0) + 0 ≤ moments + units
    by true = omega (arith, is)
    by false = omega (arith, is)

pub within_more : (tally : Tally) (units : ℕ) (seen : Seen) → IsWithin tally → IsWithin (tally_after tally units seen)
within_more tally units seen is = record {
  ready = count_within (is_ready_then seen) tally.ready tally.moments units is.ready;
  served = count_within (is_served seen) tally.served tally.moments units is.served;
  lost = count_within (is_lost seen) tally.lost tally.moments units is.lost;
  current = current_within (is_lost seen) tally.current tally.moments units is.current;
  ended = ended_within (is_lost seen) tally.ended tally.current tally.moments units is.ended;
}

-- the numbers of a tally after so many moments more, one by one
pub tally_is : (tally : Tally) (units : ℕ) (seen : Seen) (is_served_now is_lost_now : Bool) (ready served lost current ended : ℕ)
    (longest : Stretch)
    → is_served_now ≡ is_served seen → is_lost_now ≡ is_lost seen
    → ready ≡ more seen.ready tally.ready units → served ≡ more is_served_now tally.served units
    → lost ≡ more is_lost_now tally.lost units → current ≡ current_after is_lost_now tally.current units
    → ended ≡ ended_after is_lost_now tally.ended tally.current
    → longest ≡ longer tally.longest (record { first = tally.moments + units - current; count = current })
    → (let found : Tally = record {
      moments = tally.moments + units;
      ready = ready;
      served = served;
      lost = lost;
      current = current;
      ended = ended;
      longest = longest;
    } in
    tally_after tally units seen ≡ found)
tally_is tally units seen is_served_now is_lost_now ready served lost current ended longest a b c d e f h g =
    let served_is : served ≡ more (is_served seen) tally.served units = d ∙ ap (λ (x : Bool). more x tally.served units) a in
    let lost_is : lost ≡ more (is_lost seen) tally.lost units = e ∙ ap (λ (x : Bool). more x tally.lost units) b in
    let now : ℕ = current_after (is_lost seen) tally.current units in
    let current_is : current ≡ now = f ∙ ap (λ (x : Bool). current_after x tally.current units) b in
    let ended_is : ended ≡ ended_after (is_lost seen) tally.ended tally.current =
    h ∙ ap (λ (x : Bool). ended_after x tally.ended tally.current) b in
    let longest_is : longest ≡ longer tally.longest (record { first = tally.moments + units - now; count = now }) =
    g ∙ ap (λ (n : ℕ). longer tally.longest (record { first = tally.moments + units - n; count = n })) current_is in
    cc
