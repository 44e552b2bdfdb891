-- Each waiting task is kept out by a node: after an arrival, and after a departure.
use Rattle.std.proofs.Common.{◌≡◌, ◌≢◌, ℕ, ◌<◌, ◌≤◌, Bool, true, false, List, length, set, get_or, refl, sym, ap, ◌∙◌, inl, inr, ◌⊎◌}
use Rattle.std.proofs.Common.{IsTrue, arith, length-set, get_or-set_same, get_or-set_other}
use Rattle.std.proofs.lemmas.Bool.{cases_Bool, cases_eq, true≢false}
use Rattle.affinity_mask.specs.ProcSet.{has, members, Within, Meets}
use Rattle.affinity_mask.proofs.Sets.{empty_from_none}
use Rattle.strong_apa.proofs.Counts.{search_below}
use Rattle.nested_masks.specs.Laminar.{IsTight, IsNode, mask_at}
use Rattle.nested_masks.specs.Counting.{Joins}
use Rattle.nested_masks.specs.NestedData.{NestedData, IsCounted, KeepsOut, Waits, ready_of, linked_of, mask_in, priority_in, IsUrgenter}
use Rattle.nested_masks.specs.LaminarStep.{with_waiting, with_linked, with_unlinked, IsInNoTight, IsLeastTight, IsLeastUrgentIn}
use Rattle.nested_masks.specs.LaminarStep.{AllUrgenterIn}
use Rattle.nested_masks.proofs.Withins.{within_decided, within_trans, nests}
use Rattle.nested_masks.proofs.Held.{held, held-more, held-else, held-same}
use Rattle.nested_masks.proofs.Changes.{with_flags, joins_set, joins_unset, unset_smaller, in_masks, in_linked, absent_unlinked}
use Rattle.nested_masks.proofs.Changes.{linked_number}

-- each waiting task is kept out by some node
abbrev pub AllKeptOut : NestedData → Type 0
AllKeptOut n = (w : ℕ) → Waits n w → (node : ℕ) × KeepsOut n node w

module _ (n : NestedData) (ready linked : List Bool) where
  -- a node keeps w out as before where it holds as many tasks, and those that it did not hold before are more urgent too
  pub keeps_on : (node w : ℕ) → KeepsOut n node w → held n.masks (linked_of (with_flags n ready linked)) node
      ≡ held n.masks (linked_of n) node
      → ((u : ℕ) → linked_of (with_flags n ready linked) u ≡ true → Within (mask_in n u) node → (linked_of n u ≡ true) ⊎ IsUrgenter n u w)
      → KeepsOut (with_flags n ready linked) node w
  keeps_on node w keeps same others = record {
    tight = record { node = keeps.tight.node; full = same ∙ keeps.tight.full };
    contains = keeps.contains;
    more_urgent = λ u h within. elim (others u h within) [
      | inl before ↦ keeps.more_urgent u before within
      | inr urgent ↦ urgent
    ];
  }

  -- the linked tasks stay
  pub keeps_same : (node w : ℕ) → KeepsOut n node w → ((u : ℕ) → linked_of (with_flags n ready linked) u ≡ linked_of n u)
      → KeepsOut (with_flags n ready linked) node w
  keeps_same node w keeps same = keeps_on node w keeps (held-same n.masks _ _ same node) (λ u h within. inl (sym (same u) ∙ h))

  -- a task joins that the node does not hold
  pub keeps_joined : (t node w : ℕ) → Joins (linked_of n) t (linked_of (with_flags n ready linked)) → (Within (mask_in n t) node → ⊥)
      → KeepsOut n node w → KeepsOut (with_flags n ready linked) node w
  keeps_joined t node w joins outside keeps =
      keeps_on node w keeps (held-else n.masks _ t _ joins node outside) (λ u h within. elim (cases_eq u t) [
        | inl e ↦ absurd (outside (rw (← e) within))
        | inr ne ↦ inl (sym (joins.others u ne) ∙ h)
      ])

  -- a task is linked no longer that the node did not hold
  pub keeps_left : (t node w : ℕ) → Joins (linked_of (with_flags n ready linked)) t (linked_of n) → (Within (mask_in n t) node → ⊥)
      → KeepsOut n node w → KeepsOut (with_flags n ready linked) node w
  keeps_left t node w joins outside keeps =
      keeps_on node w keeps (sym (held-else n.masks _ t _ joins node outside)) (λ u h within. elim (cases_eq u t) [
        | inl e ↦ absurd (outside (rw (← e) within))
        | inr ne ↦ inl (joins.others u ne ∙ h)
      ])

-- a mask is not empty
module _ (n : NestedData) (ok : IsCounted n) where
  pub some_member : (t : ℕ) → t < length n.priorities → (p : ℕ) × IsTrue (has (mask_in n t) p)
  some_member t number = elim (search_below (λ p. IsTrue (has (mask_in n t) p)) 64 (λ p lt. decided p)) [
    | inl found ↦ (found.0, found.2)
    | inr none ↦ absurd ((ok.state.masks t number).some (empty_from_none (mask_in n t) (λ p. nowhere none p)))
  ]
    where
      decided : (p : ℕ) → IsTrue (has (mask_in n t) p) ⊎ (IsTrue (has (mask_in n t) p) → ⊥)
      decided p = elim (cases_Bool (has (mask_in n t) p)) [
        | inl h ↦ inl h
        | inr h ↦ inr (λ member. true≢false (sym member ∙ h))
      ]

      nowhere : ((p : ℕ) → p < 64 → IsTrue (has (mask_in n t) p) → ⊥) → (p : ℕ) → has (mask_in n t) p ≡ false
      nowhere none p = elim (cases_Bool (has (mask_in n t) p)) [
        | inl h ↦
            let below = (ok.state.masks t number).below p h in
            let few = ok.state.processors in
            absurd (none p (omega arith) h)
        | inr h ↦ h
      ]

  -- of two nodes that contain the mask of one task, one lies within the other
  pub nodes_nest : (t X Y : ℕ) → t < length n.priorities → IsNode n.masks X → IsNode n.masks Y → Within (mask_in n t) X
      → Within (mask_in n t) Y → Within X Y ⊎ Within Y X
  nodes_nest t X Y number one other in_X in_Y =
      let member = some_member t number in
      let meet : Meets (mask_at n.masks one.0) (mask_at n.masks other.0) = (
        member.0,
        rw one.2 (in_X member.0 member.1),
        rw other.2 (in_Y member.0 member.1),
      ) in
      let nest = nests n.masks ok.laminar one.0 other.0 one.1 other.1 meet in
      rw (one.2, other.2) at nest

  -- a node is tight, or not
  pub tight_decided : (X : ℕ) → IsNode n.masks X → IsTight n.masks (linked_of n) X ⊎ (IsTight n.masks (linked_of n) X → ⊥)
  tight_decided X node = elim (cases_eq (held n.masks (linked_of n) X) (length (members X))) [
    | inl full ↦ inl record { node = node; full = full }
    | inr not_full ↦ inr (λ tight. not_full tight.full)
  ]

  -- a tight node contains a set, or none does
  pub in_tight_decided : (X : ℕ) → ((node : ℕ) × IsTight n.masks (linked_of n) node × Within X node) ⊎ IsInNoTight n X
  in_tight_decided X =
      elim (search_below (λ t. IsTight n.masks (linked_of n) (mask_at n.masks t) × Within X (mask_at n.masks t)) (length n.masks) decided) [
        | inl found ↦ inl (mask_at n.masks found.0, found.2.0, found.2.1)
        | inr none ↦ inr (λ node tight within. none tight.node.0 tight.node.1 (rw tight.node.2 (tight), rw tight.node.2 within))
      ]
    where
      decided : (t : ℕ) → t < length n.masks → (IsTight n.masks (linked_of n) (mask_at n.masks t) × Within X (mask_at n.masks t))
          ⊎ (IsTight n.masks (linked_of n) (mask_at n.masks t) × Within X (mask_at n.masks t) → ⊥)
      decided t lt = elim (tight_decided (mask_at n.masks t) (t, lt, refl)) [
        | inl tight ↦ elim (within_decided X (mask_at n.masks t)) [
          | inl within ↦ inl (tight, within)
          | inr outside ↦ inr (λ both. outside both.1)
        ]
        | inr loose ↦ inr (λ both. loose both.0)
      ]

  module _ (t : ℕ) (number : t < length n.priorities) (absent : ready_of n t ≡ false) where
    not_linked : linked_of n t ≡ false
    not_linked = absent_unlinked n ok t absent

    -- another task that waits after t became ready had waited before
    waited : (w : ℕ) → w ≢ t → get_or (set n.ready t true) w false ≡ true → linked_of n w ≡ false → Waits n w
    waited w ne ready unlinked = record { ready = sym (get_or-set_other n.ready t w true false ne) ∙ ready; not_linked = unlinked }

    -- ---- t enters
    joins_entering : Joins (linked_of n) t (linked_of (with_linked (with_waiting n t) t))
    joins_entering = joins_set n.linked t (in_linked n ok t number) not_linked

    pub kept-entering : IsInNoTight n (mask_in n t) → AllKeptOut n → AllKeptOut (with_linked (with_waiting n t) t)
    kept-entering free kept w waits = elim (cases_eq w t) [
      | inl e ↦ absurd (true≢false (sym joins_entering.after ∙ ap (linked_of (with_linked (with_waiting n t) t)) (sym e)
          ∙ waits.not_linked))
      | inr ne ↦
          let before = kept w (waited w ne waits.ready (sym (joins_entering.others w ne) ∙ waits.not_linked)) in (
            before.0,
            keeps_joined n (set n.ready t true) (set n.linked t true) t before.0 w joins_entering
                (λ within. free before.0 before.1.tight within) before.1,
          )
    ]

    -- ---- t waits
    pub kept-staying_out : (node : ℕ) → IsLeastTight n (mask_in n t) node → AllUrgenterIn n node t → AllKeptOut n
        → AllKeptOut (with_waiting n t)
    kept-staying_out node smallest urgent kept w waits = elim (cases_eq w t) [
      | inl e ↦ (node, record { tight = smallest.tight; contains = rw e smallest.contains; more_urgent = rw e urgent })
      | inr ne ↦
          let before = kept w (waited w ne waits.ready waits.not_linked) in
          (before.0, keeps_same n (set n.ready t true) n.linked before.0 w before.1 (λ u. refl))
    ]

    -- ---- t takes the place of the least urgent task of the smallest tight node
    module _ (node out : ℕ) (smallest : IsLeastTight n (mask_in n t) node) (out_there : IsLeastUrgentIn n node out)
        (urgent : IsUrgenter n t out) where
      abbrev pub between : NestedData
      between = with_unlinked (with_waiting n t) out

      abbrev pub displaced : NestedData
      displaced = with_linked between t

      pub out_number : out < length n.priorities
      out_number = linked_number n ok out out_there.linked

      out_other : t ≢ out
      out_other e = true≢false (sym (ap (linked_of n) e ∙ out_there.linked) ∙ not_linked)

      joins_out : Joins (linked_of between) out (linked_of n)
      joins_out = joins_unset n.linked out out_there.linked

      pub t_unlinked : linked_of between t ≡ false
      t_unlinked = get_or-set_other n.linked out t false false out_other ∙ not_linked

      joins_t : Joins (linked_of between) t (linked_of displaced)
      joins_t = record {
        before = t_unlinked;
        after = get_or-set_same (set n.linked out false) t true false t_in;
        others = λ u ne. get_or-set_other (set n.linked out false) t u true false ne;
      }
        where
          t_in : t < length (set n.linked out false)
          t_in = rw (length-set n.linked out false) (in_linked n ok t number)

      -- once the least urgent task is out, no tight node contains the mask of t
      pub free-between : IsInNoTight between (mask_in n t)
      free-between X tight within =
          let bound = ok.fits X tight.node in
          elim (within_decided (mask_in n out) X) [
            | inl out_in ↦ let more =
                held-more n.masks _ out _ joins_out X (in_masks n ok out out_number) out_in in let full = tight.full in omega arith
            | inr out_outside ↦
                let same = held-else n.masks _ out _ joins_out X out_outside in
                let was_tight : IsTight n.masks (linked_of n) X = record { node = tight.node; full = same ∙ tight.full } in
                out_outside (within_trans (mask_in n out) node X out_there.within (smallest.least X was_tight within))
          ]

      -- a linked task was linked before, or is t
      linked_then : (u : ℕ) → linked_of displaced u ≡ true → (u ≡ t) ⊎ ((u ≢ out) × (linked_of n u ≡ true))
      linked_then u h = elim (cases_eq u t) [
        | inl e ↦ inl e
        | inr ne ↦ inr (unset_smaller n.linked out u (sym (joins_t.others u ne) ∙ h))
      ]

      -- the smallest tight node stays tight, with t in place of the one displaced
      held_both : (X : ℕ) → Within (mask_in n t) X → Within (mask_in n out) X → held n.masks (linked_of displaced) X
          ≡ held n.masks (linked_of n) X
      held_both X t_in out_in =
          held-more n.masks _ t _ joins_t X (in_masks n ok t number) t_in
          ∙ sym (held-more n.masks _ out _ joins_out X (in_masks n ok out out_number) out_in)

      -- whoever is less urgent than the one displaced is kept out by the smallest tight node, where it contains the mask
      pub node_keeps : (w : ℕ) → Within (mask_in n w) node → priority_in n out ≤ priority_in n w → KeepsOut displaced node w
      node_keeps w within later = record {
        tight = record { node = smallest.tight.node; full = held_both node smallest.contains out_there.within ∙ smallest.tight.full };
        contains = within;
        more_urgent = λ u h u_in. elim (linked_then u h) [
          | inl e ↦ rw e (let le = later in let lt = urgent in omega arith)
          | inr other ↦ before_out u other.0 other.1 u_in w later
        ];
      }
        where
          before_out : (u : ℕ) → u ≢ out → linked_of n u ≡ true → Within (mask_in n u) node → (w : ℕ) → priority_in n out ≤ priority_in n w
              → priority_in n u < priority_in n w
          before_out u ne h u_in w later = elim (cases_eq (priority_in n u) (priority_in n out)) [
            | inl same ↦ absurd (ne (ok.state.distinct u out (linked_number n ok u h) out_number same))
            | inr differ ↦ let le = out_there.least_urgent u h u_in in omega arith
          ]

      pub kept-displacing : AllKeptOut n → AllKeptOut displaced
      kept-displacing kept w waits = elim (cases_eq w out) [
        | inl e ↦ (node, node_keeps w (rw e out_there.within) (rw e (omega arith)))
        | inr ne ↦ kept_other ne
      ]
        where
          w_not_t : w ≢ t
          w_not_t e = true≢false (sym joins_t.after ∙ ap (linked_of displaced) (sym e) ∙ waits.not_linked)

          kept_other : w ≢ out → (X : ℕ) × KeepsOut displaced X w
          kept_other ne =
              let unlinked = sym (get_or-set_other n.linked out w false false ne) ∙ sym (joins_t.others w w_not_t) ∙ waits.not_linked in
              let before = kept w (waited w w_not_t waits.ready unlinked) in
              choose before.0 before.1
            where
              choose : (X : ℕ) → KeepsOut n X w → (Y : ℕ) × KeepsOut displaced Y w
              choose X keeps = elim (within_decided (mask_in n t) X) [
                | inl t_in ↦
                    let out_in : Within (mask_in n out) X = within_trans (mask_in n out) node X out_there.within
                    (smallest.least X keeps.tight t_in) in (
                      X,
                      keeps_on n (set n.ready t true) (set (set n.linked out false) t true) X w keeps (held_both X t_in out_in)
                          (λ u h u_in. elim (linked_then u h) [
                            | inl e ↦ inr (rw e (let lt = urgent in let le = keeps.more_urgent out out_there.linked out_in in omega arith))
                            | inr other ↦ inl other.1
                          ]),
                    )
                | inr t_outside ↦ elim (within_decided (mask_in n out) X) [
                  | inl out_in ↦
                      let nest : Within X node = elim (nodes_nest out X node out_number keeps.tight.node smallest.tight.node out_in
                      out_there.within) [
                        | inl within ↦ within
                        | inr around ↦ absurd (t_outside (within_trans (mask_in n t) node X smallest.contains around))
                      ] in (
                        node,
                        node_keeps w (within_trans (mask_in n w) X node keeps.contains nest)
                            (let lt = keeps.more_urgent out out_there.linked out_in in omega arith),
                      )
                  | inr out_outside ↦ (
                    X,
                    keeps_on n (set n.ready t true) (set (set n.linked out false) t true) X w keeps
                        (held-else n.masks _ t _ joins_t X t_outside ∙ sym (held-else n.masks _ out _ joins_out X out_outside))
                        (λ u h u_in. elim (linked_then u h) [
                          | inl e ↦ absurd (t_outside (rw (← e) u_in))
                          | inr other ↦ inl other.1
                        ]),
                  )
                ]
              ]
