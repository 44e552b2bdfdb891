-- A shift along a chain in which no processor stands twice.
use Rattle.std.proofs.Common.{◌≡◌, ◌≢◌, ℕ, zero, suc, ◌<◌, List, [], ◌∷◌, ◌++◌, length, get_or, set, map, take, Option, Some, None, refl}
use Rattle.std.proofs.Common.{sym, ap, ◌∙◌, inl, inr, ◌⊎◌, IsTrue, arith, eq-eqb, ne_eqb, length-set, get_or-set_same, get_or-set_other}
use Rattle.std.specs.Prelude.{slice_get}
use Rattle.std.specs.List.{range_with_len}
use Rattle.std.proofs.lemmas.Bool.{cases_eq, cases_lt}
use Rattle.std.proofs.lemmas.Option.{same_Some, get_or_from_slice_get}
use Rattle.std.proofs.lemmas.List.{get_or_past}
use Rattle.std.proofs.lemmas.List.FromFn.{fill_by_all, get_or-map-range_with_len, length-map-range_with_len}
use Rattle.affinity_mask.specs.ProcSet.{has}
use Rattle.strong_apa.specs.State.{State, task_count, IsState, IsWaiting, effective_mask, task_on}
use Rattle.strong_apa.specs.Chain.{IsWalk, IsChainOf, IsSimple, occupant_after_shift, state_after_shift, task_put_out}
use Rattle.strong_apa.proofs.Linked.{not_on, linked_number}
use Rattle.strong_apa.proofs.Masks.{effective_mask_below}
use Rattle.strong_apa.proofs.Simple.{Avoids, Avoids-none, Avoids-last}

-- at the first processor of the chain, and at another one
pub occupant-first : (s : State) (guest : Option ℕ) (x : ℕ) (rest : List ℕ) → occupant_after_shift s guest (x ∷ rest) x ≡ guest
occupant-first s guest x rest = rw (eq-eqb x x refl) refl

pub occupant-later : (s : State) (guest : Option ℕ) (x : ℕ) (rest : List ℕ) (p : ℕ) → p ≢ x → occupant_after_shift s guest (x ∷ rest) p
    ≡ occupant_after_shift s (task_on s x) rest p
occupant-later s guest x rest p ne = rw (ne_eqb p x ne) refl

-- whoever is on p then is the guest, or was on a processor outside V
pub occupant_from : (s : State) (V : ℕ → Type 0) (guest : Option ℕ) (chain : List ℕ) (p u : ℕ) → Avoids V chain → (V p → ⊥)
    → occupant_after_shift s guest chain p ≡ Some u → (guest ≡ Some u) ⊎ ((y : ℕ) × (V y → ⊥) × (task_on s y ≡ Some u))
occupant_from s V guest [] p u avoids out e = inr (p, out, e)
occupant_from s V guest (x ∷ rest) p u avoids out e =
    go (cases_eq p x) (occupant_from s (λ q. (q ≡ x) ⊎ V q) (task_on s x) rest p u avoids.1)
  where
    go : (p ≡ x) ⊎ (p ≡ x → ⊥) → (((p ≡ x) ⊎ V p → ⊥) → occupant_after_shift s (task_on s x) rest p ≡ Some u
        → (task_on s x ≡ Some u) ⊎ ((y : ℕ) × ((y ≡ x) ⊎ V y → ⊥) × (task_on s y ≡ Some u)))
        → (guest ≡ Some u) ⊎ ((y : ℕ) × (V y → ⊥) × (task_on s y ≡ Some u))
    go (inl same) later = inl (sym (occupant-first s guest x rest) ∙ rw same at e)
    go (inr ne) later = elim (later (λ c. elim c [ inl h ↦ ne h | inr h ↦ out h ]) (sym (occupant-later s guest x rest p ne) ∙ e)) [
      | inl here ↦ inr (x, avoids.0, here)
      | inr there ↦ inr (there.0, (λ v. there.1 (inr v)), there.2)
    ]

-- no task is on two processors then
pub occupant_once : (s : State) → ((p q t : ℕ) → task_on s p ≡ Some t → task_on s q ≡ Some t → p ≡ q)
    → (V : ℕ → Type 0) (guest : Option ℕ) (chain : List ℕ) → Avoids V chain
    → ((w y : ℕ) → guest ≡ Some w → (V y → ⊥) → task_on s y ≡ Some w → ⊥)
    → (p q u : ℕ) → (V p → ⊥) → (V q → ⊥) → occupant_after_shift s guest chain p ≡ Some u → occupant_after_shift s guest chain q ≡ Some u
    → p ≡ q
occupant_once s once V guest [] avoids none p q u np nq e f = once p q u e f
occupant_once s once V guest (x ∷ rest) avoids none p q u np nq e f =
    go (cases_eq p x) (cases_eq q x) (occupant_once s once (λ r. (r ≡ x) ⊎ V r) (task_on s x) rest avoids.1
    (λ w y a b c. b (inl (once y x w c a))) p q u)
  where
    clash : (r : ℕ) → (V r → ⊥) → r ≢ x → guest ≡ Some u → occupant_after_shift s guest (x ∷ rest) r ≡ Some u → ⊥
    clash r nr ne w g = elim (occupant_from s (λ y. (y ≡ x) ⊎ V y) (task_on s x) rest r u avoids.1
        (λ c. elim c [ inl h ↦ ne h | inr h ↦ nr h ]) (sym (occupant-later s guest x rest r ne) ∙ g)) [
          | inl here ↦ none u x w avoids.0 here
          | inr there ↦ none u there.0 w (λ v. there.1 (inr v)) there.2
        ]

    go : (p ≡ x) ⊎ (p ≡ x → ⊥) → (q ≡ x) ⊎ (q ≡ x → ⊥)
        → (((p ≡ x) ⊎ V p → ⊥) → ((q ≡ x) ⊎ V q → ⊥) → occupant_after_shift s (task_on s x) rest p ≡ Some u
        → occupant_after_shift s (task_on s x) rest q ≡ Some u → p ≡ q) → p ≡ q
    go (inl a) (inl b) later = a ∙ sym b
    go (inl a) (inr b) later = absurd (clash q nq b (sym (occupant-first s guest x rest) ∙ rw a at e) f)
    go (inr a) (inl b) later = absurd (clash p np a (sym (occupant-first s guest x rest) ∙ rw b at f) e)
    go (inr a) (inr b) later = later (λ c. elim c [ inl h ↦ a h | inr h ↦ np h ]) (λ c. elim c [ inl h ↦ b h | inr h ↦ nq h ])
        (sym (occupant-later s guest x rest p a) ∙ e) (sym (occupant-later s guest x rest q b) ∙ f)

-- whoever is on p then has p in the mask
pub occupant_allowed : (s : State) → IsState s → (w : ℕ) (chain : List ℕ) (end : ℕ) → IsChainOf s w chain end → (p u : ℕ)
    → occupant_after_shift s (Some w) chain p ≡ Some u → IsTrue (has (effective_mask s u) p)
occupant_allowed s ok w [] end c p u e = absurd c
occupant_allowed s ok w (x ∷ []) end c p u e = elim (cases_eq p x) [
  | inl same ↦ rw (← same_Some w u (sym (occupant-first s (Some w) x []) ∙ rw same at e), same) c.0
  | inr ne ↦ ok.allowed p u (sym (occupant-later s (Some w) x [] p ne) ∙ e)
]
occupant_allowed s ok w (x ∷ r ∷ rest) end c p u e = go (cases_eq p x) (occupant_allowed s ok (c.1.0.0) (r ∷ rest) end (c.1.0.2, c.1.1) p u)
  where
    go : (p ≡ x) ⊎ (p ≡ x → ⊥) → (occupant_after_shift s (Some (c.1.0.0)) (r ∷ rest) p ≡ Some u → IsTrue (has (effective_mask s u) p))
        → IsTrue (has (effective_mask s u) p)
    go (inl same) later = rw (← same_Some w u (sym (occupant-first s (Some w) x (r ∷ rest)) ∙ rw same at e), same) c.0
    go (inr ne) later = later (ap (λ (guest : Option ℕ). occupant_after_shift s guest (r ∷ rest) p) (sym c.1.0.1)
        ∙ sym (occupant-later s (Some w) x (r ∷ rest) p ne) ∙ e)

-- who is on p in the new table
pub task_on-state_after_shift : (s : State) (t : ℕ) (chain : List ℕ) (p u : ℕ) → task_on (state_after_shift s t chain) p ≡ Some u
    → occupant_after_shift s (Some t) chain p ≡ Some u
task_on-state_after_shift s t chain p u e = elim (cases_lt p s.processors) [
  | inl lt ↦ sym (get_or-map-range_with_len (occupant_after_shift s (Some t) chain) 0 s.processors p p None lt (omega arith)) ∙ e
  | inr ge ↦ absurd (let past = get_or_past (map (occupant_after_shift s (Some t) chain) (range_with_len 0 s.processors)) p None
      (rw (length-map-range_with_len (occupant_after_shift s (Some t) chain) 0 s.processors) ge) in cc)
]

-- a shift of a waiting task along a simple chain of it keeps a state
pub IsState-state_after_shift : (s : State) → IsState s → (t : ℕ) (chain : List ℕ) (end : ℕ) → IsWaiting s t → IsChainOf s t chain end
    → IsSimple chain → IsState (state_after_shift s t chain)
IsState-state_after_shift s ok t chain end waits is_chain simple = record {
  processors = ok.processors;
  count = ok.count;
  masks_count = ok.masks_count;
  ready_count = ok.ready_count;
  on_count = length-map-range_with_len (occupant_after_shift s (Some t) chain) 0 s.processors;
  online = ok.online;
  masks = ok.masks;
  distinct = ok.distinct;
  allowed = λ p u e. occupant_allowed s ok t chain end is_chain p u (task_on-state_after_shift s t chain p u e);
  once = λ p q u e f. occupant_once s ok.once (λ y. ⊥) (Some t) chain (Avoids-none chain simple)
      (λ w y a b c. not_on s y t waits.not_linked (c ∙ sym a)) p q u (λ v. v) (λ v. v) (task_on-state_after_shift s t chain p u e)
      (task_on-state_after_shift s t chain q u f);
  linked_ready = λ p u e. elim (occupant_from s (λ y. ⊥) (Some t) chain p u (Avoids-none chain simple) (λ v. v)
      (task_on-state_after_shift s t chain p u e)) [
        | inl it ↦ rw (← same_Some t u it) waits.ready
        | inr there ↦ ok.linked_ready there.0 u there.2
      ];
}

-- the processors of a chain are processors
walk_below : (s : State) → IsState s → (p : ℕ) (rest : List ℕ) (end : ℕ) → IsWalk s p rest end → (i : ℕ) → i < length rest
    → get_or rest i 0 < s.processors
walk_below s ok p [] end w i lt = absurd (omega arith)
walk_below s ok p (r ∷ rest) end w zero lt = effective_mask_below s ok w.0.0 r w.0.2
walk_below s ok p (r ∷ rest) end w (suc i) lt = walk_below s ok r rest end w.1 i (omega arith)

pub chain_below : (s : State) → IsState s → (t : ℕ) (chain : List ℕ) (end : ℕ) → IsChainOf s t chain end → (i : ℕ) → i < length chain
    → get_or chain i 0 < s.processors
chain_below s ok t [] end c i lt = absurd c
chain_below s ok t (x ∷ rest) end c zero lt = effective_mask_below s ok t x c.0
chain_below s ok t (x ∷ rest) end c (suc i) lt = walk_below s ok x rest end c.1 i (omega arith)

-- a shift displaces the occupant of the processor on which the chain ends
walk_end : (s : State) (p : ℕ) (rest : List ℕ) (q : ℕ) → IsWalk s p rest q → task_put_out s (p ∷ rest) ≡ task_on s q
walk_end s p [] q w = ap (task_on s) w
walk_end s p (r ∷ rest) q w = walk_end s r rest q w.1

pub task_put_out-end : (s : State) (t : ℕ) (chain : List ℕ) (q : ℕ) → IsChainOf s t chain q → task_put_out s chain ≡ task_on s q
task_put_out-end s t [] q c = absurd c
task_put_out-end s t (p ∷ rest) q c = walk_end s p rest q c.1

-- ---- the loop of `shift`, which hands a guest on along the chain
-- who is handed on after the chain
abbrev pub handed_on : State → Option ℕ → List ℕ → Option ℕ
handed_on s guest [] = guest
handed_on s guest (q ∷ rest) = handed_on s (task_on s q) rest

handed_on-push : (s : State) (guest : Option ℕ) (chain : List ℕ) (x : ℕ) → handed_on s guest (chain ++ x ∷ []) ≡ task_on s x
handed_on-push s guest [] x = refl
handed_on-push s guest (y ∷ rest) x = handed_on-push s (task_on s y) rest x

pub handed_on-end : (s : State) (t : ℕ) (chain : List ℕ) (q : ℕ) → IsChainOf s t chain q → handed_on s (Some t) chain ≡ task_put_out s chain
handed_on-end s t [] q c = absurd c
handed_on-end s t (p ∷ []) q c = refl
handed_on-end s t (p ∷ r ∷ rest) q c = handed_on-end s c.1.0.0 (r ∷ rest) q (c.1.0.2, c.1.1)

-- one more processor of the chain: there, where it has not come to yet, and elsewhere
not_yet : (s : State) (V : ℕ → Type 0) (guest : Option ℕ) (chain : List ℕ) (x : ℕ) → Avoids V (chain ++ x ∷ [])
    → occupant_after_shift s guest chain x ≡ task_on s x
not_yet s V guest [] x a = refl
not_yet s V guest (y ∷ rest) x a =
    let ne : x ≢ y = λ e. Avoids-last (λ p. (p ≡ y) ⊎ V p) rest x a.1 (inl e) in
    occupant-later s guest y rest x ne ∙ not_yet s (λ p. (p ≡ y) ⊎ V p) (task_on s y) rest x a.1

more_there : (s : State) (V : ℕ → Type 0) (guest : Option ℕ) (chain : List ℕ) (x : ℕ) → Avoids V (chain ++ x ∷ [])
    → occupant_after_shift s guest (chain ++ x ∷ []) x ≡ handed_on s guest chain
more_there s V guest [] x a = occupant-first s guest x []
more_there s V guest (y ∷ rest) x a =
    let ne : x ≢ y = λ e. Avoids-last (λ p. (p ≡ y) ⊎ V p) rest x a.1 (inl e) in
    occupant-later s guest y (rest ++ x ∷ []) x ne ∙ more_there s (λ p. (p ≡ y) ⊎ V p) (task_on s y) rest x a.1

more_elsewhere : (s : State) (guest : Option ℕ) (chain : List ℕ) (x p : ℕ) → p ≢ x → occupant_after_shift s guest (chain ++ x ∷ []) p
    ≡ occupant_after_shift s guest chain p
more_elsewhere s guest [] x p ne = occupant-later s guest x [] p ne
more_elsewhere s guest (y ∷ rest) x p ne = elim (cases_eq p y) [
  | inl e ↦ rw e (occupant-first s guest y (rest ++ x ∷ []) ∙ sym (occupant-first s guest y rest))
  | inr other ↦ occupant-later s guest y (rest ++ x ∷ []) p other ∙ more_elsewhere s (task_on s y) rest x p ne
      ∙ sym (occupant-later s guest y rest p other)
]

-- the table after this much of the chain
abbrev pub table_after : State → ℕ → List ℕ → List (Option ℕ)
table_after s t chain = map (occupant_after_shift s (Some t) chain) (range_with_len 0 s.processors)

pub length-table_after : (s : State) (t : ℕ) (chain : List ℕ) → length (table_after s t chain) ≡ s.processors
length-table_after s t chain = length-map-range_with_len (occupant_after_shift s (Some t) chain) 0 s.processors

pub table_after-nothing : (s : State) (t : ℕ) → length s.on ≡ s.processors → s.on ≡ table_after s t []
table_after-nothing s t n = fill_by_all (occupant_after_shift s (Some t) []) s.on s.processors None n (λ k lt. refl)

-- one write of the loop
pub table_after-push : (s : State) (t : ℕ) (chain : List ℕ) (x : ℕ) → Avoids (λ p. ⊥) (chain ++ x ∷ []) → x < s.processors
    → set (table_after s t chain) x (handed_on s (Some t) chain) ≡ table_after s t (chain ++ x ∷ [])
table_after-push s t chain x simple fits =
    let old = table_after s t chain in
    let guest = handed_on s (Some t) chain in
    let n : length old ≡ s.processors = length-table_after s t chain in
    let within : x < length old = omega arith in
    fill_by_all (occupant_after_shift s (Some t) (chain ++ x ∷ [])) (set old x guest) s.processors None (length-set old x guest ∙ n)
    (λ k lt. elim (cases_eq k x) [
      | inl e ↦ rw e (get_or-set_same old x guest None within ∙ sym (more_there s (λ p. ⊥) (Some t) chain x simple))
      | inr ne ↦ get_or-set_other old x k guest None ne ∙ get_or-map-range_with_len (occupant_after_shift s (Some t) chain)
          0 s.processors k k None lt (omega arith) ∙ sym (more_elsewhere s (Some t) chain x k ne)
    ])

-- one read of the loop
pub handed_on-read : (s : State) (t : ℕ) (chain : List ℕ) (x : ℕ) (places : List (Option ℕ)) (occupant : Option ℕ)
    → Avoids (λ p. ⊥) (chain ++ x ∷ []) → x < s.processors → places ≡ table_after s t chain → occupant ≡ get_or places x None
    → occupant ≡ handed_on s (Some t) (chain ++ x ∷ [])
handed_on-read s t chain x places occupant simple fits e read =
    read ∙ ap (λ (on : List (Option ℕ)). get_or on x None) e
    ∙ get_or-map-range_with_len (occupant_after_shift s (Some t) chain) 0 s.processors x x None fits (omega arith)
    ∙ not_yet s (λ p. ⊥) (Some t) chain x simple ∙ sym (handed_on-push s (Some t) chain x)

-- whoever is handed on was on one of the processors
pub handed_on-from : (s : State) (V : ℕ → Type 0) (x : ℕ) (rest : List ℕ) (w : ℕ) → (V x → ⊥) → Avoids (λ p. (p ≡ x) ⊎ V p) rest
    → handed_on s (task_on s x) rest ≡ Some w → (y : ℕ) × (V y → ⊥) × (task_on s y ≡ Some w)
handed_on-from s V x [] w out avoids h = (x, out, h)
handed_on-from s V x (y ∷ rest) w out avoids h =
    let there = handed_on-from s (λ p. (p ≡ x) ⊎ V p) y rest w avoids.0 avoids.1 h in
    (there.0, (λ v. there.1 (inr v)), there.2)

handed_on-nowhere : (s : State) → ((p q t : ℕ) → task_on s p ≡ Some t → task_on s q ≡ Some t → p ≡ q)
    → (V : ℕ → Type 0) (guest : Option ℕ) (chain : List ℕ) → Avoids V chain
    → ((w y : ℕ) → guest ≡ Some w → (V y → ⊥) → task_on s y ≡ Some w → ⊥)
    → (p w : ℕ) → (V p → ⊥) → handed_on s guest chain ≡ Some w → occupant_after_shift s guest chain p ≡ Some w → ⊥
handed_on-nowhere s once V guest [] avoids alone p w out h e = alone w p h out e
handed_on-nowhere s once V guest (x ∷ rest) avoids alone p w out h e =
    go (cases_eq p x) (handed_on-nowhere s once (λ r. (r ≡ x) ⊎ V r) (task_on s x) rest avoids.1
    (λ u y on apart there. apart (inl (once y x u there on))) p w)
  where
    go : (p ≡ x) ⊎ (p ≡ x → ⊥) → (((p ≡ x) ⊎ V p → ⊥) → handed_on s (task_on s x) rest ≡ Some w
        → occupant_after_shift s (task_on s x) rest p ≡ Some w → ⊥) → ⊥
    go (inl same) later =
        let there = handed_on-from s V x rest w avoids.0 avoids.1 h in
        alone w there.0 (sym (occupant-first s guest x rest) ∙ ap (occupant_after_shift s guest (x ∷ rest)) (sym same) ∙ e) there.1 there.2
    go (inr ne) later = later (λ c. elim c [ inl a ↦ ne a | inr v ↦ out v ]) h (sym (occupant-later s guest x rest p ne) ∙ e)

-- whoever is handed on is on no processor then
pub handed_on-apart : (s : State) → IsState s → (t : ℕ) → IsWaiting s t → (chain : List ℕ) → Avoids (λ p. ⊥) chain → (p w : ℕ)
    → handed_on s (Some t) chain ≡ Some w → task_on (state_after_shift s t chain) p ≡ Some w → ⊥
handed_on-apart s ok t waits chain avoids p w h e =
    handed_on-nowhere s ok.once (λ y. ⊥) (Some t) chain avoids (λ u y it out there. not_on s y t waits.not_linked (there ∙ sym it)) p w
    (λ v. v) h (task_on-state_after_shift s t chain p w e)

-- and is a task of the set
pub handed_on-number : (s : State) → IsState s → (t : ℕ) → t < task_count s → (chain : List ℕ) → Avoids (λ p. ⊥) chain → (w : ℕ)
    → handed_on s (Some t) chain ≡ Some w → w < task_count s
handed_on-number s ok t number [] avoids w h = rw (← same_Some t w h) number
handed_on-number s ok t number (x ∷ rest) avoids w h =
    let there = handed_on-from s (λ p. ⊥) x rest w avoids.0 avoids.1 h in
    linked_number s there.0 w ok there.2

-- the processor of a turn is one of the table's
pub place_in_table : (s : State) → IsState s → (t : ℕ) (chain : List ℕ) (end : ℕ) → IsChainOf s t chain end
    → (i x : ℕ) (places : List (Option ℕ)) → i < length chain → slice_get chain i ≡ Some x → places ≡ table_after s t (take i chain)
    → x < length places
place_in_table s ok t chain end is_chain i x places fits at e =
    let below = chain_below s ok t chain end is_chain i fits in
    rw (e, length-table_after) (rw (get_or_from_slice_get chain i x 0 at) at below)
