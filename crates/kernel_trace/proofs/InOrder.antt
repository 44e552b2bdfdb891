-- The passages of a trace begin at moment 0, and their moments never fall.
use Rattle.std.proofs.Common.{◌≡◌, ℕ, zero, suc, ◌≤◌, List, [], ◌∷◌, Some, sym, ap, ◌∙◌, subst, arith}
use Rattle.std.specs.Prelude.{All, slice_get}
use Rattle.std.proofs.Math.Nat.{sub_self}
use Rattle.std.proofs.lemmas.List.Elements.{All-get_or}
use Rattle.std.proofs.lemmas.Option.{get_or_from_slice_get, slice_get_within}
use Rattle.kernel_trace.specs.Passages.{UsedLine, passage_since, passages_since, NeverFall, IsPassageOf}
use Rattle.kernel_trace.specs.Stamp.{microsecond}
use Rattle.trace_passages.specs.Passages.{ArePassages}
use Rattle.trace_passages.specs.declared.passage.Passage.{Passage}

at_least : (moment : ℕ) (passages : List Passage) (k : ℕ) (passage : Passage) → NeverFall moment passages
    → slice_get passages k ≡ Some passage
    → moment ≤ passage.moment
at_least moment [] k passage rise e = cc
at_least moment (next ∷ rest) zero passage rise e = let same : next ≡ passage = cc in subst (λ (p : Passage). moment ≤ p.moment) same rise.0
at_least moment (next ∷ rest) (suc k) passage rise e =
    let from = rise.0 in
    let later = at_least next.moment rest k passage rise.1 e in
    omega (arith, from, later)

rising : (moment : ℕ) (passages : List Passage) (k l : ℕ) (one other : Passage) → NeverFall moment passages → k ≤ l
    → slice_get passages k ≡ Some one → slice_get passages l ≡ Some other → one.moment ≤ other.moment
rising moment [] k l one other rise order e f = cc
rising moment (next ∷ rest) zero zero one other rise order e f =
    let same : one ≡ other = cc in
    let equal : one.moment ≡ other.moment = ap (λ (p : Passage). p.moment) same in
    omega (arith, equal)
rising moment (next ∷ rest) zero (suc l) one other rise order e f =
    let same : next ≡ one = cc in
    subst (λ (p : Passage). p.moment ≤ other.moment) same (at_least next.moment rest l other rise.1 f)
rising moment (next ∷ rest) (suc k) zero one other rise order e f = absurd (omega (arith, order))
rising moment (next ∷ rest) (suc k) (suc l) one other rise order e f =
    rising next.moment rest k l one other rise.1 (omega (arith, order)) e f

-- the first moment is that of the first line since itself
begins : (lines : List UsedLine) (passage : Passage) → slice_get (passages_since lines) 0 ≡ Some passage → passage.moment ≡ 0
begins [] passage e = cc
begins (first ∷ rest) passage e =
    let same : passage_since first.time first ≡ passage = cc in
    sym (ap (λ (p : Passage). p.moment) same) ∙ sub_self (microsecond first.time)

pub passages_in_order : (tasks threads : ℕ) (lines : List UsedLine) (passages : List Passage) → passages ≡ passages_since lines
    → NeverFall 0 passages
    → tasks ≤ threads → All (IsPassageOf tasks threads) passages → ArePassages tasks threads passages
passages_in_order tasks threads lines passages are rise most of_set = record {
  all = most;
  each =
      λ k passage e.
      let at = All-get_or (IsPassageOf tasks threads) passages k passage (slice_get_within passages k passage e) of_set in
      let of = subst (IsPassageOf tasks threads) (get_or_from_slice_get passages k passage passage e) at in
      of.numbers;
  begin = λ passage e. begins lines passage (subst (λ (list : List Passage). slice_get list 0 ≡ Some passage) are e);
  in_order = λ k l one other order e f. rising 0 passages k l one other rise order e f;
}
