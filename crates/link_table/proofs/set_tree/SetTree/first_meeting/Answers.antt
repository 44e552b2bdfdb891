use Rattle.std.proofs.Common.{◌≡◌, ℕ, ◌+◌, ◌-◌, ◌<◌, List, get_or, length, sym, ◌∙◌, subst, arith}
use Rattle.std.proofs.lemmas.Bool.{true≢false}
use Rattle.std.proofs.lemmas.List.{get_or_read}
use Rattle.affinity_mask.specs.ProcSet.{empty, Meets}
use Rattle.link_table.specs.SetTree.{IsTree, IsMetByNone, IsFirstMeeting}
use Rattle.link_table.proofs.Trees.{IsOnTheWay, IsLevel-positive, way_begins, way_left, way_right, way_ends, none_meets}
use Rattle.link_table.proofs.set_tree.SetTree.first_meeting.Goals as goal

-- the root is one of the places
root_there : (width : ℕ) (nodes : List ℕ) → IsTree width nodes → 1 < length nodes
root_there width nodes tree = let low = IsLevel-positive width tree.level in let count = tree.count in omega arith

pub index-requires : goal.index-requires
index-requires c = omega (arith, root_there c.self.inside.width c.self.inside.nodes.items c.self.invariant, c.self.inside.nodes.ok.0)

-- a test of the set at a place, and of what was read there
read : (X : ℕ) (nodes : List ℕ) (k item : ℕ) → k < length nodes → item ≡ get_or nodes k item → Meets X item → Meets X (get_or nodes k empty)
read X nodes k item fits at m = subst (λ n. Meets X n) (get_or_read nodes k item fits at empty) m

unread : (X : ℕ) (nodes : List ℕ) (k item : ℕ) → k < length nodes → item ≡ get_or nodes k item → Meets X (get_or nodes k empty)
    → Meets X item
unread X nodes k item fits at m = subst (λ n. Meets X n) (sym (get_or_read nodes k item fits at empty)) m

pub loop-k-init : goal.loop-k-init
loop-k-init c =
    let s = c.self.inside in
    let fits = root_there s.width s.nodes.items c.self.invariant in
    way_begins s.width s.nodes.items c.self.invariant c.args.other.now
    (read c.args.other.now s.nodes.items 1 c.index.result.now fits c.index.ensures (c.meets.ensures.0 c.if-not-meets.false))

pub returns-then-not-meets : goal.returns-then-not-meets
returns-then-not-meets c =
    let s = c.self.inside in
    let fits = root_there s.width s.nodes.items c.self.invariant in
    subst (λ (row : List ℕ). IsMetByNone row c.args.other.now) c.self.view_is
    (none_meets s.width s.nodes.items c.self.invariant c.args.other.now
    (λ m. true≢false (sym (c.meets.ensures.1 (unread c.args.other.now s.nodes.items 1 c.index.result.now fits c.index.ensures m))
    ∙ c.if-not-meets.true)))

pub returns : goal.returns
returns c =
    let s = c.self.inside in
    subst (λ (row : List ℕ). IsFirstMeeting row c.args.other.now (c.loop-k.k - s.width)) c.self.view_is
    (way_ends s.width s.nodes.items c.self.invariant c.args.other.now c.loop-k.k c.loop-k-test.false c.loop-k.invariant)

-- a place below is one of the places
left_there : (width : ℕ) (nodes : List ℕ) → IsTree width nodes → (k : ℕ) → k < width → k + k < length nodes
left_there width nodes tree k lt = let count = tree.count in omega arith

pub loop-k-preserved-then-meets : goal.loop-k-preserved-then-meets
loop-k-preserved-then-meets c =
    let s = c.self.inside in
    let k = c.loop-k.k in
    let fits = left_there s.width s.nodes.items c.self.invariant k c.loop-k-test.true in
    way_left s.width s.nodes.items c.self.invariant c.args.other.now k c.loop-k-test.true
    (read c.args.other.now s.nodes.items (k + k) c.index-in-loop-k.result.now fits c.index-in-loop-k.ensures
    (c.meets-in-loop-k.ensures.0 c.if-meets.true)) c.loop-k.invariant

pub loop-k-preserved : goal.loop-k-preserved
loop-k-preserved c =
    let s = c.self.inside in
    let k = c.loop-k.k in
    let fits = left_there s.width s.nodes.items c.self.invariant k c.loop-k-test.true in
    let right : k + k + 1 ≡ k + (k + 1) = omega arith in
    subst (λ (n : ℕ). IsOnTheWay s.width s.nodes.items c.args.other.now n) right
    (way_right s.width s.nodes.items c.self.invariant c.args.other.now k c.loop-k-test.true
    (λ m. true≢false (sym (c.meets-in-loop-k.ensures.1
    (unread c.args.other.now s.nodes.items (k + k) c.index-in-loop-k.result.now fits c.index-in-loop-k.ensures m)) ∙ c.if-meets.false))
    c.loop-k.invariant)
