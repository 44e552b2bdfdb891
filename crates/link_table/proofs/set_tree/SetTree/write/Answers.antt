use Rattle.std.proofs.Common.{◌≡◌, ℕ, ◌+◌, ◌<◌, ◌||◌, not, false, List, set, length, get_or, sym, ap, ◌∙◌, subst, inl, inr, arith, ne_eqb}
use Rattle.std.proofs.Common.{length-set, ◌==◌}
use Rattle.std.proofs.lemmas.Bool.{cases_eq, true≢false}
use Rattle.std.proofs.lemmas.List.{get_or_read}
use Rattle.std.specs.Int.Bits.{bit_xor}
use Rattle.affinity_mask.specs.ProcSet.{has, empty}
use Rattle.link_table.proofs.Trees.{IsHalfWritten, written_begins, written_whole, written_leaves, written_more, beside_within}
use Rattle.link_table.proofs.set_tree.SetTree.write.Goals as goal

-- a set that does not differ from the one that was read is there
stands : (nodes : List ℕ) (k sum read : ℕ) → k < length nodes → read ≡ get_or nodes k read → not (sum == read) ≡ false
    → sum ≡ get_or nodes k empty
stands nodes k sum read fits at e = elim (cases_eq sum read) [
  | inl same ↦ same ∙ get_or_read nodes k read fits at empty
  | inr ne ↦ absurd (true≢false (sym (ap not (ne_eqb sum read ne)) ∙ e))
]

pub loop-k-init : goal.loop-k-init
loop-k-init c =
    let s = c.self.inside in
    subst (λ (row : List ℕ). IsHalfWritten s.width s.nodes.items (set row c.args.r c.args.item) (s.width + c.args.r) c.args.item)
    c.self.view_is
    (written_begins s.width s.nodes.items c.self.invariant c.args.r c.args.item
    (subst (λ (row : List ℕ). c.args.r < length row) (sym c.self.view_is) c.requires))

pub index-requires : goal.index-requires
index-requires c = let half = c.loop-k.invariant in omega (arith, half.high, half.count, c.loop-k.self-inside.nodes.ok.0)

pub index_mut-requires : goal.index_mut-requires
index_mut-requires c = let half = c.loop-k.invariant in omega (arith, half.high, half.count, c.loop-k.self-inside.nodes.ok.0)

pub index-requires-in-loop-k : goal.index-requires-in-loop-k
index-requires-in-loop-k c =
    let s = c.loop-k.self-inside in
    omega (arith, beside_within c.loop-k.k s.width c.loop-k.invariant.high, c.loop-k.invariant.count, s.nodes.ok.0)

pub loop-k-preserved : goal.loop-k-preserved
loop-k-preserved c =
    let s = c.loop-k.self-inside in
    let k = c.loop-k.k in
    let written = set s.nodes.items k c.loop-k.sum in
    let fits : bit_xor k 1 < length written = omega (
      arith,
      beside_within k s.width c.loop-k.invariant.high,
      c.loop-k.invariant.count,
      length-set s.nodes.items k c.loop-k.sum,
    ) in
    let beside = get_or_read written (bit_xor k 1) c.index-in-loop-k.result.now fits c.index-in-loop-k.ensures empty in
    written_more s.width s.nodes.items _ k c.loop-k.sum c.loop-k.invariant c.loop-k-test.true c.either_of-sum.result
    (λ p. c.either_of-sum.ensures p ∙ ap (λ (X : ℕ). has c.loop-k.sum p || has X p) beside)

pub invariant_of-self : goal.invariant_of-self
invariant_of-self c =
    let half = c.loop-k.invariant in
    let nodes = c.loop-k.self-inside.nodes in
    written_whole _ nodes.items _ c.loop-k.k c.loop-k.sum half
    (λ low. stands nodes.items c.loop-k.k c.loop-k.sum c.index.result.now (omega (arith, half.high, half.count)) c.index.ensures
    (sym c.ne.ensures ∙ c.if-ne.false))

pub returns-else-ne : goal.returns-else-ne
returns-else-ne c =
    let half = c.loop-k.invariant in
    let nodes = c.loop-k.self-inside.nodes in
    written_leaves _ nodes.items _ c.loop-k.k c.loop-k.sum half
    (λ low. stands nodes.items c.loop-k.k c.loop-k.sum c.index.result.now (omega (arith, half.high, half.count)) c.index.ensures
    (sym c.ne.ensures ∙ c.if-ne.false))

pub invariant_of-self-in-loop-k : goal.invariant_of-self-in-loop-k
invariant_of-self-in-loop-k c = written_whole _ _ _ _ _ c.loop-k.invariant (λ low. absurd (let none = c.loop-k-test.false in omega arith))

pub returns-after-loop-k : goal.returns-after-loop-k
returns-after-loop-k c = written_leaves _ _ _ _ _ c.loop-k.invariant (λ low. absurd (let none = c.loop-k-test.false in omega arith))
