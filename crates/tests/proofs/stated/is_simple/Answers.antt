use Rattle.std.proofs.Common.{◌≡◌, ℕ, false, get_or, sym, ap, ◌∙◌, inl, inr, arith, eq-eqb}
use Rattle.std.proofs.lemmas.Bool.{cases_lt, or_left, or_right, true≢false}
use Rattle.std.proofs.lemmas.List.{get_or_default}
use Rattle.std.proofs.lemmas.Option.{get_or_from_slice_get}
use Rattle.affinity_mask.specs.ProcSet.{has}
use Rattle.tests.proofs.stated.is_simple.Goals as goal

pub returns : goal.returns
returns c = λ _ i j d lt fits e. c.loop-i.invariant.apart i j lt (omega arith) (get_or_default c.args.chain.now i 0 d (omega arith) ∙ e
    ∙ get_or_default c.args.chain.now j d 0 fits)

pub loop-i-preserved : goal.loop-i-preserved
loop-i-preserved c =
    let chain = c.args.chain.now in
    let i = c.loop-i.i in
    let here : get_or chain i 0 ≡ c.at-p.result = get_or_from_slice_get chain i c.at-p.result 0 c.at-p.ensures.value in
    let fresh : has c.loop-i.seen (get_or chain i 0) ≡ false = rw here (sym c.has.ensures ∙ c.if-has.false) in
    record {
      seen = λ k below. elim (cases_lt k i) [
        | inl lt ↦ c.with-seen.ensures (get_or chain k 0) ∙ or_left _ _ (c.loop-i.invariant.seen k lt)
        | inr ge ↦ c.with-seen.ensures (get_or chain k 0) ∙ or_right (has c.loop-i.seen (get_or chain k 0)) _
            (let same : k ≡ i = omega arith in eq-eqb (get_or chain k 0) c.at-p.result (ap (λ (n : ℕ). get_or chain n 0) same ∙ here))
      ];
      apart = λ j k lt below e. elim (cases_lt k i) [
        | inl earlier ↦ c.loop-i.invariant.apart j k lt earlier e
        | inr ge ↦ let same : k ≡ i = omega arith in
            true≢false (sym (c.loop-i.invariant.seen j (omega arith)) ∙ ap (has c.loop-i.seen) (e ∙ ap (λ (n : ℕ). get_or chain n 0) same)
            ∙ fresh)
      ];
    }
