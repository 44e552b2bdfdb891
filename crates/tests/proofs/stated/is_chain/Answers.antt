use Rattle.std.proofs.Common.{◌≡◌, ℕ, ◌+◌, ◌-◌, ◌<◌, true, List, [], ◌∷◌, length, get_or, take, take_all, Some, refl, sym, ap, ◌∙◌, subst}
use Rattle.std.proofs.Common.{arith}
use Rattle.std.specs.Prelude.{slice_get}
use Rattle.std.proofs.lemmas.List.{take_more}
use Rattle.std.proofs.lemmas.Option.{get_or_from_slice_get}
use Rattle.affinity_mask.specs.ProcSet.{has}
use Rattle.strong_apa.specs.State.{State, IsState, effective_mask, task_on}
use Rattle.strong_apa.specs.Chain.{CanShift, IsChainOf}
use Rattle.strong_apa.proofs.Linked.{linked_number}
use Rattle.strong_apa.proofs.Paths.{IsChainOf-push}
use Rattle.tests.proofs.stated.is_chain.Goals as goal

pub effective-requires-in-loop-i : goal.effective-requires-in-loop-i
effective-requires-in-loop-i c =
    linked_number c.args.links.now c.at-before.result c.in-Some.occupant c.processors-processors.ensures.valid (sym c.in-Some.ensures.value)

-- a first processor of the effective mask
first_of : (s : State) → IsState s → (t : ℕ) (chain : List ℕ) (p : ℕ) → slice_get chain 0 ≡ Some p → has (effective_mask s t) p ≡ true
    → IsChainOf s t (take 1 chain) (get_or chain 0 0)
first_of s ok t [] p at h = cc
first_of s ok t (x ∷ rest) p at h = (rw (get_or_from_slice_get (x ∷ rest) 0 p 0 at) h, refl)

pub loop-i-init : goal.loop-i-init
loop-i-init c = first_of c.args.links.now c.processors-processors.ensures.valid c.args.t c.args.chain.now c.at.result c.at.ensures.value
    (ap (λ (X : ℕ). has X c.at.result) (sym c.effective.ensures.value) ∙ sym c.has.ensures ∙ c.if-not-has.false)

-- a next processor of the occupant's effective mask
next_of : (s : State) → IsState s → (t : ℕ) (chain : List ℕ) (i p u q : ℕ) → i < length chain → slice_get chain (i - 1) ≡ Some p
    → slice_get chain i ≡ Some q → task_on s p ≡ Some u → has (effective_mask s u) q ≡ true
    → IsChainOf s t (take i chain) (get_or chain (i - 1) 0) → IsChainOf s t (take (i + 1) chain) (get_or chain (i + 1 - 1) 0)
next_of s ok t chain i p u q fits before at on h c =
    let e = get_or_from_slice_get chain (i - 1) p 0 before in
    let f = get_or_from_slice_get chain i q 0 at in
    let step : CanShift s p q = (u, on, h) in
    let same : i + 1 - 1 ≡ i = omega arith in
    rw (same, take_more chain i 0 fits, f) (IsChainOf-push s t (take i chain) p q (rw e at c) step)

pub loop-i-preserved : goal.loop-i-preserved
loop-i-preserved c =
    next_of c.args.links.now c.processors-processors.ensures.valid c.args.t c.args.chain.now c.loop-i.i c.at-before.result
    c.in-Some.occupant c.at-in-loop-i.result (omega arith)
    c.at-before.ensures.value c.at-in-loop-i.ensures.value (sym c.in-Some.ensures.value)
    (ap (λ (X : ℕ). has X c.at-in-loop-i.result) (sym c.effective-in-loop-i.ensures.value) ∙ sym c.has-in-loop-i.ensures
    ∙ c.if-not-has-2.false) c.loop-i.invariant

pub returns : goal.returns
returns c = λ _. (
  get_or c.args.chain.now (c.loop-i.i - 1) 0,
  subst (λ (xs : List ℕ). IsChainOf c.args.links.now c.args.t xs (get_or c.args.chain.now (c.loop-i.i - 1) 0))
      (take_all c.loop-i.i c.args.chain.now (omega arith)) c.loop-i.invariant,
)
