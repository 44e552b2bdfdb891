-- A tree of unions: which leaves stand below a place, that the set at a place has all of theirs, and what a write leaves.
use Rattle.std.proofs.Common.{Bool, true, false, ◌≡◌, ◌≢◌, ℕ, zero, suc, ◌+◌, ◌-◌, ◌*◌, ◌/◌, ◌^◌, ◌<◌, ◌≤◌, ◌||◌, List, length, get_or, set}
use Rattle.std.proofs.Common.{drop, refl, sym, ap, ◌∙◌, subst, inl, inr, ◌⊎◌, arith, length-set, get_or-set_same, get_or-set_other}
use Rattle.std.proofs.Common.{replicate, le_antisymm}
use Rattle.std.proofs.lemmas.Bool.{cases_eq, cases_lt, or_left, or_right, or_cases, true≢false}
use Rattle.std.proofs.lemmas.List.{get_or-drop, get_or-replicate, get_or_past, set-get_or, length-drop, length-replicate, drop-set-add}
use Rattle.std.proofs.lemmas.List.{drop-set-lt}
use Rattle.std.specs.Int.Bits.{bit_xor, xor_zero_r}
use Rattle.std.proofs.lemmas.Nat.{xor_block}
use Rattle.affinity_mask.specs.ProcSet.{has, empty, Within, Meets}
use Rattle.affinity_mask.proofs.Sets.{has-zero}
use Rattle.link_table.specs.SetTree.{first_below, IsTreeLevel, IsWidthFor, IsUnion, IsTree, IsMetByNone, IsFirstMeeting}

-- ---- the places below a place
pub first_below-least : (d k : ℕ) → k ≤ first_below d k
unfolding first_below
first_below-least zero k = omega arith
first_below-least (suc d) k = let below = first_below-least d (k + k) in omega arith

first_below-rises : (d a b : ℕ) → a ≤ b → first_below d a ≤ first_below d b
unfolding first_below
first_below-rises zero a b le = le
first_below-rises (suc d) a b le = first_below-rises d (a + a) (b + b) (omega arith)

first_below-twice : (d k : ℕ) → first_below d (k + k) ≡ first_below d k + first_below d k
unfolding first_below
first_below-twice zero k = refl
first_below-twice (suc d) k = first_below-twice d (k + k)

-- the leaves of half of the tree below, and of the whole
first_below-next : (d k : ℕ) → first_below (suc d) (k + 1) ≡ first_below d (k + k + 1 + 1)
unfolding first_below
first_below-next d k = let e : k + 1 + (k + 1) ≡ k + k + 1 + 1 = omega arith in ap (first_below d) e

first_below-down : (d k : ℕ) → first_below (suc d) k ≡ first_below d (k + k)
unfolding first_below
first_below-down d k = refl

first_below-none : (k : ℕ) → first_below zero k ≡ k
unfolding first_below
first_below-none k = refl

-- a level of twice as many
pub IsLevel-twice : (width : ℕ) → IsTreeLevel width → IsTreeLevel (width + width)
unfolding first_below
IsLevel-twice width level = (suc (level.0), rw (level.1) (sym (first_below-twice (level.0) 1)))

pub IsLevel-one : IsTreeLevel 1
unfolding first_below
IsLevel-one = (0, refl)

pub IsLevel-positive : (width : ℕ) → IsTreeLevel width → 0 < width
IsLevel-positive width level = let above = first_below-least (level.0) 1 in let e = level.1 in omega arith

-- of two levels the one with more leaves has twice as many or more
level_above : (a b : ℕ) → first_below a 1 < first_below b 1 → first_below a 1 + first_below a 1 ≤ first_below b 1
level_above zero zero less = absurd (omega arith)
level_above zero (suc b) less = let none = first_below-none 1 in let down = first_below-down b 1 in let twice = first_below-twice b 1 in
    let low = first_below-least b 1 in omega arith
level_above (suc a) zero less = absurd (let none = first_below-none 1 in let low = first_below-least (suc a) 1 in omega arith)
level_above (suc a) (suc b) less =
    let down_a = first_below-down a 1 in
    let twice_a = first_below-twice a 1 in
    let down_b = first_below-down b 1 in
    let twice_b = first_below-twice b 1 in
    let above = level_above a b (omega arith) in
    omega arith

pub level_past : (width other : ℕ) → IsTreeLevel width → IsTreeLevel other → width < other → width + width ≤ other
level_past width other level other_level less =
    let a = level.1 in let b = other_level.1 in let above = level_above (level.0) (other_level.0) (omega arith) in omega arith

-- so many leaves have one width alone
pub IsWidthFor-unique : (count a b : ℕ) → IsWidthFor count a → IsWidthFor count b → a ≡ b
IsWidthFor-unique count a b first second = le_antisymm (first.least b second.level second.room) (second.least a first.level first.room)

-- ---- the set at a place has what the leaves below have
module _ (width : ℕ) (nodes : List ℕ) (unions : (k : ℕ) → 0 < k → k < width → IsUnion nodes k) where
  left_within : (k : ℕ) → 0 < k → k < width → Within (get_or nodes (k + k) empty) (get_or nodes k empty)
  left_within k low high p h = unions k low high p ∙ or_left _ _ h

  right_within : (k : ℕ) → 0 < k → k < width → Within (get_or nodes (k + k + 1) empty) (get_or nodes k empty)
  right_within k low high p h = unions k low high p ∙ or_right (has (get_or nodes (k + k) empty) p) _ h

  pub leaf_within : (d k j : ℕ) → 0 < k → first_below d k ≤ j → j < first_below d (k + 1) → first_below d (k + 1) ≤ width + width
      → Within (get_or nodes j empty) (get_or nodes k empty)
  leaf_within zero k j low from to most =
      let a = first_below-none k in let b = first_below-none (k + 1) in
      let same : j ≡ k = omega arith in
      λ p h. ap (λ n. has (get_or nodes n empty) p) (sym same) ∙ h
  leaf_within (suc d) k j low from to most =
      let next = first_below-next d k in
      let down = first_below-down d k in
      let deep = first_below-least d (k + k + 1 + 1) in
      let high : k < width = omega arith in
      elim (cases_lt j (first_below d (k + k + 1))) [
        | inl lt ↦
            let middle = first_below-rises d (k + k + 1) (k + k + 1 + 1) (omega arith) in
            λ p h. left_within k low high p (leaf_within d (k + k) j (omega arith) (omega arith) lt (omega arith) p h)
        | inr ge ↦ λ p h. right_within k low high p (leaf_within d (k + k + 1) j (omega arith) ge (omega arith) (omega arith) p h)
      ]

-- ---- the way down to the first leaf that meets X
pub record IsOnTheWay (width : ℕ) (nodes : List ℕ) (X k : ℕ) : Type 0 where
  pub levels : ℕ
  pub positive : 0 < k
  pub from : width ≤ first_below levels k
  pub to : first_below levels (k + 1) ≤ width + width
  pub meets : Meets X (get_or nodes k empty)
  pub before : (j : ℕ) → width ≤ j → j < first_below levels k → Meets X (get_or nodes j empty) → ⊥

module _ (width : ℕ) (nodes : List ℕ) (tree : IsTree width nodes) (X : ℕ) where
  pub way_begins : Meets X (get_or nodes 1 empty) → IsOnTheWay width nodes X 1
  way_begins meets = record {
    levels = tree.level.0;
    positive = omega arith;
    from = let e = tree.level.1 in omega arith;
    to = let e = tree.level.1 in let twice = first_below-twice (tree.level.0) 1 in omega arith;
    meets = meets;
    before = λ j low high m. absurd (let e = tree.level.1 in omega arith);
  }

  -- where not even the root meets X, no leaf does
  pub root_meets_not : (Meets X (get_or nodes 1 empty) → ⊥) → (j : ℕ) → width ≤ j → j < width + width → Meets X (get_or nodes j empty) → ⊥
  root_meets_not not j low high m =
      let e = tree.level.1 in
      let twice = first_below-twice (tree.level.0) 1 in
      not (m.0, m.1, leaf_within width nodes tree.unions (tree.level.0) 1 j (omega arith) (omega arith) (omega arith) (omega arith) m.0 m.2)

  -- one level down: to the left half, where that meets X, else to the right one
  pub way_left : (k : ℕ) → k < width → Meets X (get_or nodes (k + k) empty) → IsOnTheWay width nodes X k → IsOnTheWay width nodes X (k + k)
  way_left k high meets way = go way.levels way.from way.to way.before
    where
      go : (d : ℕ) → width ≤ first_below d k → first_below d (k + 1) ≤ width + width
          → ((j : ℕ) → width ≤ j → j < first_below d k → Meets X (get_or nodes j empty) → ⊥) → IsOnTheWay width nodes X (k + k)
      go zero from to before = absurd (let none = first_below-none k in omega arith)
      go (suc d) from to before = record {
        levels = d;
        positive = let low = way.positive in omega arith;
        from = let down = first_below-down d k in omega arith;
        to = let next = first_below-next d k in let rises = first_below-rises d (k + k + 1) (k + k + 1 + 1) (omega arith) in omega arith;
        meets = meets;
        before = λ j low lt m. before j low (let down = first_below-down d k in omega arith) m;
      }

  pub way_right : (k : ℕ) → k < width → (Meets X (get_or nodes (k + k) empty) → ⊥) → IsOnTheWay width nodes X k
      → IsOnTheWay width nodes X (k + k + 1)
  way_right k high not way = go way.levels way.from way.to way.before
    where
      there : Meets X (get_or nodes (k + k + 1) empty)
      there =
          let p = way.meets.0 in
          elim (or_cases (has (get_or nodes (k + k) empty) p) (has (get_or nodes (k + k + 1) empty) p)
          (sym (tree.unions k way.positive high p) ∙ way.meets.2)) [
            | inl left ↦ absurd (not (p, way.meets.1, left))
            | inr right ↦ (p, way.meets.1, right)
          ]

      go : (d : ℕ) → width ≤ first_below d k → first_below d (k + 1) ≤ width + width
          → ((j : ℕ) → width ≤ j → j < first_below d k → Meets X (get_or nodes j empty) → ⊥) → IsOnTheWay width nodes X (k + k + 1)
      go zero from to before = absurd (let none = first_below-none k in omega arith)
      go (suc d) from to before = record {
        levels = d;
        positive = omega arith;
        from = let down = first_below-down d k in let rises = first_below-rises d (k + k) (k + k + 1) (omega arith) in omega arith;
        to = let next = first_below-next d k in omega arith;
        meets = there;
        before = λ j low lt m. elim (cases_lt j (first_below d (k + k))) [
          | inl less ↦ before j low (let down = first_below-down d k in omega arith) m
          | inr ge ↦ not (
            m.0,
            m.1,
            leaf_within width nodes tree.unions d (k + k) j (let low = way.positive in omega arith) ge lt
                (let next = first_below-next d k in let rises = first_below-rises d (k + k + 1) (k + k + 1 + 1) (omega arith) in
                omega arith) m.0 m.2,
          )
        ];
      }

  -- the way ends at a leaf, which is the first that meets X
  pub way_ends : (k : ℕ) → width ≤ k → IsOnTheWay width nodes X k → IsFirstMeeting (drop width nodes) X (k - width)
  way_ends k low way = go way.levels way.to way.before
    where
      go : (d : ℕ) → first_below d (k + 1) ≤ width + width
          → ((j : ℕ) → width ≤ j → j < first_below d k → Meets X (get_or nodes j empty) → ⊥)
          → IsFirstMeeting (drop width nodes) X (k - width)
      go zero to before =
          let none = first_below-none k in
          let next = first_below-none (k + 1) in
          let count = tree.count in
          let rest = length-drop width nodes in
          let here : width + (k - width) ≡ k = omega arith in
          record {
            there = omega arith;
            meets =
                subst (λ n. Meets X n) (sym (get_or-drop width nodes (k - width) empty ∙ ap (λ n. get_or nodes n empty) here)) way.meets;
            first = λ r lt m. before (width + r) (omega arith) (omega arith) (subst (λ n. Meets X n) (get_or-drop width nodes r empty) m);
          }
      go (suc d) to before = absurd (let next = first_below-next d k in let deep = first_below-least d (k + k + 1 + 1) in omega arith)

  pub none_meets : (Meets X (get_or nodes 1 empty) → ⊥) → IsMetByNone (drop width nodes) X
  none_meets not r m = elim (cases_lt r width) [
    | inl lt ↦ root_meets_not not (width + r) (omega arith) (omega arith) (subst (λ n. Meets X n) (get_or-drop width nodes r empty) m)
    | inr ge ↦ absurd (past r ge m)
  ]
    where
      past : (r : ℕ) → width ≤ r → Meets X (get_or (drop width nodes) r empty) → ⊥
      past r ge m =
          let rest = length-drop width nodes in
          let count = tree.count in
          true≢false (sym (m.2) ∙ ap (λ n. has n (m.0)) (get_or_past (drop width nodes) r empty (omega arith)) ∙ has-zero (m.0))

-- ---- a write, and the unions above it made anew from the leaf up
-- the set at place k is still to become this one, and all other unions stand
pub record IsHalfWritten (width : ℕ) (nodes row : List ℕ) (k sum : ℕ) : Type 0 where
  pub level : IsTreeLevel width
  pub count : length nodes ≡ width + width
  pub leaves : drop width (set nodes k sum) ≡ row
  pub high : k < width + width
  pub others : (j : ℕ) → 0 < j → j < width → j ≢ k → IsUnion nodes j
  pub union : 0 < k → k < width → (p : ℕ) → has sum p ≡ (has (get_or nodes (k + k) empty) p || has (get_or nodes (k + k + 1) empty) p)

-- another set at a place that is none of these three
union_elsewhere : (nodes : List ℕ) (j k item : ℕ) → j ≢ k → j + j ≢ k → j + j + 1 ≢ k → IsUnion nodes j → IsUnion (set nodes k item) j
union_elsewhere nodes j k item here left right union = λ p.
    rw (
      get_or-set_other nodes k j item empty here,
      get_or-set_other nodes k (j + j) item empty left,
      get_or-set_other nodes k (j + j + 1)
          item empty right,
    ) (union p)

pub written_begins : (width : ℕ) (nodes : List ℕ) → IsTree width nodes → (r item : ℕ) → r < length (drop width nodes)
    → IsHalfWritten width nodes (set (drop width nodes) r item) (width + r) item
written_begins width nodes tree r item fits =
    let count = tree.count in
    let rest = length-drop width nodes in
    record {
      level = tree.level;
      count = tree.count;
      leaves = drop-set-add width nodes r item;
      high = omega arith;
      others = λ j from to ne. tree.unions j from to;
      union = λ from to. absurd (omega arith);
    }

-- the place beside one is the other of the two that stand below a place
xor_one-even : (h : ℕ) → bit_xor (h + h) 1 ≡ h + h + 1
xor_one-even h =
    let two : h + h ≡ h * 2 ^ 1 + 0 = omega arith in
    let back : h * 2 ^ 1 + 1 ≡ h + h + 1 = omega arith in
    ap (λ n. bit_xor n 1) two ∙ xor_block 1 h 0 0 1 (omega arith) (omega arith) ∙ ap (λ n. n * 2 ^ 1 + 1) (xor_zero_r h) ∙ back

xor_one-odd : (h : ℕ) → bit_xor (h + h + 1) 1 ≡ h + h
xor_one-odd h =
    let two : h + h + 1 ≡ h * 2 ^ 1 + 1 = omega arith in
    let back : h * 2 ^ 1 + 0 ≡ h + h = omega arith in
    ap (λ n. bit_xor n 1) two ∙ xor_block 1 h 0 1 1 (omega arith) (omega arith) ∙ ap (λ n. n * 2 ^ 1 + 0) (xor_zero_r h) ∙ back

either_way : (x y : Bool) → (x || y) ≡ (y || x)
either_way true true = refl
either_way true false = refl
either_way false true = refl
either_way false false = refl

halves : (k : ℕ) → (k / 2 + k / 2 ≡ k) ⊎ (k / 2 + k / 2 + 1 ≡ k)
halves k = elim (cases_eq (k / 2 + k / 2) k) [
  | inl e ↦ inl e
  | inr ne ↦ inr (omega arith)
]

beside_even : (h k : ℕ) → h + h ≡ k → bit_xor k 1 ≡ h + h + 1
beside_even h k e = ap (λ n. bit_xor n 1) (sym e) ∙ xor_one-even h

beside_odd : (h k : ℕ) → h + h + 1 ≡ k → bit_xor k 1 ≡ h + h
beside_odd h k e = ap (λ n. bit_xor n 1) (sym e) ∙ xor_one-odd h

pub beside_within : (k width : ℕ) → k < width + width → bit_xor k 1 < width + width
beside_within k width high = elim (halves k) [
  | inl e ↦ let beside = beside_even (k / 2) k e in omega arith
  | inr e ↦ let beside = beside_odd (k / 2) k e in omega arith
]

module _ (width : ℕ) (nodes row : List ℕ) (k sum : ℕ) (half : IsHalfWritten width nodes row k sum) where
  -- the place had that set already, or is above the root
  pub written_whole : (0 < k → sum ≡ get_or nodes k empty) → IsTree width nodes
  written_whole same = record {
    level = half.level;
    count = half.count;
    unions = λ j from to. elim (cases_eq j k) [
      | inl e ↦ rw e (λ p. ap (λ n. has n p) (sym (same (omega arith))) ∙ half.union (omega arith) (omega arith) p)
      | inr ne ↦ half.others j from to ne
    ];
  }

  pub written_leaves : (0 < k → sum ≡ get_or nodes k empty) → drop width nodes ≡ row
  written_leaves same =
      let some = IsLevel-positive width half.level in
      elim (cases_lt 0 k) [
        | inl low ↦ ap (drop width) (sym (ap (set nodes k) (same low) ∙ set-get_or nodes k empty)) ∙ half.leaves
        | inr none ↦ sym (drop-set-lt width nodes k sum (omega arith)) ∙ half.leaves
      ]

  module _ (low : 0 < k) (above : ℕ) (is_sum : (p : ℕ)
      → has above p ≡ (has sum p || has (get_or (set nodes k sum) (bit_xor k 1) empty) p)) where
    abbrev after : List ℕ
    after = set nodes k sum

    here : get_or after k empty ≡ sum
    here = let high = half.high in let count = half.count in get_or-set_same nodes k sum empty (omega arith)

    sum_of_both : (p : ℕ) → has above p ≡ (has (get_or after (k / 2 + k / 2) empty) p || has (get_or after (k / 2 + k / 2 + 1) empty) p)
    sum_of_both p = is_sum p ∙ elim (halves k) [
      | inl e ↦
          ap (λ n. has n p || has (get_or after (bit_xor k 1) empty) p) (sym (ap (λ n. get_or after n empty) e ∙ here))
          ∙ ap (λ n. has (get_or after (k / 2 + k / 2) empty) p || has (get_or after n empty) p) (beside_even (k / 2) k e)
      | inr e ↦
          either_way (has sum p) (has (get_or after (bit_xor k 1) empty) p)
          ∙ ap (λ n. has (get_or after n empty) p || has sum p) (beside_odd (k / 2) k e)
          ∙ ap (λ n. has (get_or after (k / 2 + k / 2) empty) p || has n p) (sym (ap (λ n. get_or after n empty) e ∙ here))
    ]

    pub written_more : IsHalfWritten width (set nodes k sum) row (k / 2) above
    written_more =
        let high = half.high in
        let count = half.count in
        record {
          level = half.level;
          count = length-set nodes k sum ∙ half.count;
          leaves = drop-set-lt width (set nodes k sum) (k / 2) above (omega arith) ∙ half.leaves;
          high = omega arith;
          others = λ j from to ne. elim (cases_eq j k) [
            | inl e ↦ rw e (λ p.
                ap (λ n. has n p) here ∙ half.union low (omega arith) p
                ∙ rw (
                  get_or-set_other nodes k (k + k) sum empty (λ f. omega arith),
                  get_or-set_other nodes k (k + k + 1) sum empty
                      (λ f. omega arith),
                ) refl)
            | inr apart ↦ union_elsewhere nodes j k sum apart (λ f. ne (omega arith)) (λ f. ne (omega arith)) (half.others j from to apart)
          ];
          union = λ from to p. sum_of_both p;
        }

-- ---- a row of empty sets
pub IsTree-empty : (width n : ℕ) (nodes : List ℕ) → IsTreeLevel width → n ≡ width + width → nodes ≡ replicate n empty → IsTree width nodes
IsTree-empty width n nodes level all is = rw is record {
  level = level;
  count = length-replicate n empty ∙ all;
  unions = λ k from to p.
      rw (
        get_or-replicate n k empty empty (omega arith),
        get_or-replicate n (k + k) empty empty (omega arith),
        get_or-replicate n (k + k + 1) empty empty (omega arith),
        has-zero p,
      ) refl;
}

pub empty_row : (width n r : ℕ) → get_or (drop width (replicate n empty)) r empty ≡ empty
empty_row width n r = get_or-drop width (replicate n empty) r empty ∙ elim (cases_lt (width + r) n) [
  | inl lt ↦ get_or-replicate n (width + r) empty empty lt
  | inr ge ↦ get_or_past (replicate n empty) (width + r) empty (let l = length-replicate n empty in omega arith)
]
