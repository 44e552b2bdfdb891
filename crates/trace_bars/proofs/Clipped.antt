-- The moments of a part between two passages.
use Rattle.std.proofs.Common.{◌≡◌, ℕ, ◌-◌, ◌<◌, ◌≤◌, List, [], ◌∷◌, length, refl, ap, arith}
use Rattle.std.specs.Prelude.{min, max}
use Rattle.trace_passages.specs.Passages.{ArePassages, moment_at, span_of}
use Rattle.trace_passages.specs.declared.passage.Passage.{Passage}
use Rattle.trace_losses.specs.Passages.{IsCut}
use Rattle.trace_losses.proofs.Passed.{cut_at}
use Rattle.trace_bars.specs.Parts.{clipped}
use Rattle.trace_bars.specs.declared.bars.Part.{Part}

pub clipped_first : (part : Part) (moment : ℕ) → moment ≡ 0 → part.from ≡ clipped part moment
clipped_first part moment none = omega (arith, none)

pub clipped_last : (part : Part) (span : ℕ) → part.from ≤ part.to → part.to ≤ span → clipped part span ≡ part.to
clipped_last part span order within = omega (arith, order, within)

pub clipped_order : (part : Part) (one other : ℕ) → one ≤ other → clipped part one ≤ clipped part other
clipped_order part one other order = omega (arith, order)

pub clipped_within : (part : Part) (moment : ℕ) → part.from ≤ part.to → clipped part moment ≤ part.to
clipped_within part moment order = omega (arith, order)

pub cut_within : (tasks threads : ℕ) (passages : List Passage) (part : Part) → ArePassages tasks threads passages → (i x : ℕ) → 0 < i
    → i < length passages
    → part.from ≤ part.to → clipped part (moment_at passages (i - 1)) ≤ x → x < clipped part (moment_at passages i) → IsCut passages x i
cut_within tasks threads passages part are i x some below order from before =
    cut_at tasks threads passages are i x some below
    (later (moment_at passages (i - 1)) (moment_at passages i) part.from part.to x order from before)
    (earlier (moment_at passages (i - 1)) (moment_at passages i) part.from part.to x order from before)
  where
    later : (a b f t x : ℕ) → f ≤ t → max f (min t a) ≤ x → x < max f (min t b) → a ≤ x
    later a b f t x order from before = omega (arith, order, from, before)

    earlier : (a b f t x : ℕ) → f ≤ t → max f (min t a) ≤ x → x < max f (min t b) → x < b
    earlier a b f t x order from before = omega (arith, order, from, before)

-- after the last passage
pub span_at : (passages : List Passage) (i : ℕ) → length passages ≤ i → 1 ≤ i → (1 ≤ length passages → i ≤ length passages)
    → moment_at passages (i - 1) ≡ span_of passages
span_at [] i all some most = refl
span_at (first ∷ rest) i all some most =
    let most = most (omega arith) in
    let here : i - 1 ≡ length (first ∷ rest) - 1 = omega (arith, all, most) in
    ap (moment_at (first ∷ rest)) here
