-- Contexts that catch up with the links, processor by processor.
use Rattle.std.proofs.Common.{◌≡◌, ◌≢◌, ℕ, ◌<◌, Bool, true, false, not, cond, ◌&&◌, ◌⊎◌, List, [], ◌∷◌, ◌++◌, length, get_or, set, Option}
use Rattle.std.proofs.Common.{Some, None, refl, sym, ap, ◌∙◌, inl, inr, arith, if◌then◌else◌, length-set, get_or-set_same, get_or-set_other}
use Rattle.std.proofs.Common.{nat_eq, eq-eqb, eqb-true}
use Rattle.std.specs.Option.{option_eq}
use Rattle.std.proofs.lemmas.Bool.{cases_Bool, cases_eq, and_parts, false_from_ne_true, false≢true, not-true, true≢false}
use Rattle.std.proofs.lemmas.List.Elements.{Contains-append_cases}
use Rattle.std.proofs.lemmas.List.Sums.{fold-append}
use Rattle.std.proofs.lemmas.Option.{same_Some}
use Rattle.task_set.specs.Context.{context_after_take}
use Rattle.task_set.specs.declared.context.Context.{Context}
use Rattle.strong_apa.specs.State.{State, IsState, is_linked, is_task, task_on}
use Rattle.strong_apa.proofs.Linked.{is_task-same, is_task-true, not_on, occupied_number, place_in, task_on-linked}
use Rattle.reach_certificate.specs.CaughtUp.{HaveCaughtUp, taken_among}
use Rattle.reach_certificate.specs.Contexts.{ContextsData, context_after_takes, EachBecomes}
use Rattle.reach_certificate.proofs.Alone.{contains_one, passes_nowhere, passes_alone}

-- ---- what becomes of each context
pub EachBecomes-then : (first second whole : ℕ → Context → Context) → ((t : ℕ) (c : Context) → second t (first t c) ≡ whole t c)
    → (old mid new : List Context) → EachBecomes first old mid → EachBecomes second mid new → EachBecomes whole old new
EachBecomes-then first second whole same old mid new one other = record {
  count = other.count ∙ one.count;
  each = λ t d fits. other.each t d (rw one.count fits) ∙ ap (second t) (one.each t d fits) ∙ same t (get_or old t d);
}

pub EachBecomes-same : (first second : ℕ → Context → Context) → ((t : ℕ) (c : Context) → first t c ≡ second t c) → (old new : List Context)
    → EachBecomes first old new → EachBecomes second old new
EachBecomes-same first second same old new becomes = record {
  count = becomes.count;
  each = λ t d fits. becomes.each t d fits ∙ same t (get_or old t d);
}

-- ---- two occupants
pub same_occupant : (a b : Option ℕ) → option_eq nat_eq a b ≡ true → a ≡ b
same_occupant None None e = refl
same_occupant None (Some u) e = absurd (false≢true e)
same_occupant (Some t) None e = absurd (false≢true e)
same_occupant (Some t) (Some u) e = ap (λ (n : ℕ). Some n) (eqb-true t u e)

pub other_occupant : (a b : Option ℕ) → option_eq nat_eq a b ≡ false → a ≢ b
other_occupant None None e same = true≢false e
other_occupant None (Some u) e same = cc
other_occupant (Some t) None e same = cc
other_occupant (Some t) (Some u) e same = true≢false (sym (eq-eqb t u (same_Some t u same)) ∙ e)

-- ---- who is held anew
-- nobody where nothing changes
itself_not_new : (b : Bool) → (b && not b) ≡ false
itself_not_new true = refl
itself_not_new false = refl

pub taken_nowhere : (held : List (Option ℕ)) (t : ℕ) → taken_among held held t ≡ []
taken_nowhere held t = passes_nowhere _ (length held) (λ q. itself_not_new (is_task t (get_or held q None)))

module _ (s : State) (ok : IsState s) where
  -- each occupant is the one before or the one that is linked
  abbrev Either : List (Option ℕ) → List (Option ℕ) → Type 0
  Either first second = (p : ℕ) → (get_or second p None ≡ get_or first p None) ⊎ (get_or second p None ≡ task_on s p)

  abbrev is_new : List (Option ℕ) → List (Option ℕ) → ℕ → ℕ → Bool
  is_new first second t p = is_task t (get_or second p None) && not (is_task t (get_or first p None))

  -- whoever is held anew is linked there
  new_linked : (first second : List (Option ℕ)) → Either first second → (t p : ℕ) → is_new first second t p ≡ true → task_on s p ≡ Some t
  new_linked first second either t p h =
      let parts = and_parts (is_task t (get_or second p None)) (not (is_task t (get_or first p None))) h in
      elim (either p) [
        | inl stays ↦ absurd (true≢false (sym parts.0 ∙ ap (is_task t) stays ∙ not-true (is_task t (get_or first p None)) parts.1))
        | inr now ↦ sym now ∙ is_task-true t (get_or second p None) parts.0
      ]

  -- whoever is linked where it is held stays held
  stays_held : (first second : List (Option ℕ)) → Either first second → (t p : ℕ) → task_on s p ≡ Some t → is_task t (get_or first p None)
      ≡ true → is_task t (get_or second p None) ≡ true
  stays_held first second either t p on held = elim (either p) [
    | inl stays ↦ ap (is_task t) stays ∙ held
    | inr now ↦ ap (is_task t) (now ∙ on) ∙ is_task-same t
  ]

  either_then : (first second third : List (Option ℕ)) → Either first second → Either second third → Either first third
  either_then first second third one other p = elim (other p) [
    | inr now ↦ inr now
    | inl stays ↦ elim (one p) [
      | inl before ↦ inl (stays ∙ before)
      | inr now ↦ inr (stays ∙ now)
    ]
  ]

  taken_alone : (first second : List (Option ℕ)) → Either first second → length first ≡ s.processors → (t p : ℕ) → task_on s p ≡ Some t
      → taken_among first second t ≡ cond (is_new first second t p) (p ∷ []) []
  taken_alone first second either count t p on =
      passes_alone (is_new first second t) (length first) p (let below = occupied_number s p t ok on in omega arith)
      (λ q h. ok.once q p t (new_linked first second either t q h) on)

  taken_unlinked : (first second : List (Option ℕ)) → Either first second → (t : ℕ) → is_linked s t ≡ false
      → taken_among first second t ≡ []
  taken_unlinked first second either t free =
      passes_nowhere (is_new first second t) (length first)
      (λ q. false_from_ne_true (is_new first second t q) (λ h. not_on s q t free (new_linked first second either t q h)))

  once_in_all : (a b c : Bool) (x : ℕ) → (a ≡ true → b ≡ true) → (b ≡ true → c ≡ true)
      → cond (b && not a) (x ∷ []) [] ++ cond (c && not b) (x ∷ []) [] ≡ cond (c && not a) (x ∷ []) []
  once_in_all true true true x ab bc = refl
  once_in_all true true false x ab bc = absurd (false≢true (bc refl))
  once_in_all true false c x ab bc = absurd (false≢true (ab refl))
  once_in_all false true true x ab bc = refl
  once_in_all false true false x ab bc = absurd (false≢true (bc refl))
  once_in_all false false true x ab bc = refl
  once_in_all false false false x ab bc = refl

  taken_then : (first second third : List (Option ℕ)) → Either first second → Either second third → length first ≡ s.processors
      → length second ≡ s.processors → (t : ℕ) → taken_among first second t ++ taken_among second third t ≡ taken_among first third t
  taken_then first second third one other count same t = elim (cases_Bool (is_linked s t)) [
    | inr free ↦ rw (
      taken_unlinked first second one t free,
      taken_unlinked second third other t free,
      taken_unlinked first third (either_then first second third one other) t free,
    ) refl
    | inl linked ↦
        let p = place_in t s.on in
        let on = task_on-linked s t linked in
        rw (
          taken_alone first second one count t p on,
          taken_alone second third other same t p on,
          taken_alone first third (either_then first second third one other) count t p on,
        )
        (once_in_all (is_task t (get_or first p None)) (is_task t (get_or second p None)) (is_task t (get_or third p None)) p
        (stays_held first second one t p on) (stays_held second third other t p on))
  ]

  -- ---- some processors, and then others
  pub caught_up-then : (xs ys : List ℕ) (a b c : ContextsData) → length a.held ≡ s.processors → HaveCaughtUp s xs a b
      → HaveCaughtUp s ys b c → HaveCaughtUp s (xs ++ ys) a c
  caught_up-then xs ys a b c count one other = record {
    count = other.count ∙ one.count;
    there = λ p contains. elim (Contains-append_cases xs ys p contains) [
      | inr now ↦ other.there p now
      | inl before ↦ elim (other.either p) [
        | inl stays ↦ stays ∙ one.there p before
        | inr linked ↦ linked
      ]
    ];
    either = either_then a.held b.held c.held one.either other.either;
    each = EachBecomes-then _ _ _ (λ t x.
        sym (fold-append context_after_take x (taken_among a.held b.held t) (taken_among b.held c.held t))
        ∙ ap (context_after_takes x) (taken_then a.held b.held c.held one.either other.either count (one.count ∙ count) t))
        a.each b.each c.each one.each other.each;
  }

-- ---- no processor, and one
pub caught_up-none : (s : State) (a : ContextsData) → HaveCaughtUp s [] a a
caught_up-none s a = record {
  count = refl;
  there = λ p contains. absurd (let lt = contains.1 in omega arith);
  either = λ p. inl refl;
  each = record { count = refl; each = λ t d fits. sym (ap (context_after_takes (get_or a.each t d)) (taken_nowhere a.held t)) };
}

-- the occupant that is held is linked
pub caught_up-still : (s : State) (p : ℕ) (a : ContextsData) → get_or a.held p None ≡ task_on s p → HaveCaughtUp s (p ∷ []) a a
caught_up-still s p a still = record {
  count = refl;
  there = λ q contains. rw (contains_one p q contains) still;
  either = λ q. inl refl;
  each = record { count = refl; each = λ t d fits. sym (ap (context_after_takes (get_or a.each t d)) (taken_nowhere a.held t)) };
}

-- another one is linked
module _ (s : State) (p : ℕ) (linked : Option ℕ) (a b : ContextsData) (below : p < length a.held) (on : linked ≡ task_on s p)
    (differs : linked ≢ get_or a.held p None) (writes : b.held ≡ set a.held p linked) where
  here : get_or b.held p None ≡ linked
  here = ap (λ (xs : List (Option ℕ)). get_or xs p None) writes ∙ get_or-set_same a.held p linked None below

  elsewhere : (q : ℕ) → q ≢ p → get_or b.held q None ≡ get_or a.held q None
  elsewhere q other = ap (λ (xs : List (Option ℕ)). get_or xs q None) writes ∙ get_or-set_other a.held p q linked None other

  abbrev came : ℕ → ℕ → Bool
  came t q = is_task t (get_or b.held q None) && not (is_task t (get_or a.held q None))

  came_alone : (t q : ℕ) → came t q ≡ true → q ≡ p
  came_alone t q h = elim (cases_eq q p) [
    | inl same ↦ same
    | inr other ↦ absurd (true≢false (sym h ∙ ap (λ (o : Option ℕ). is_task t o && not (is_task t (get_or a.held q None)))
        (elsewhere q other) ∙ itself_not_new (is_task t (get_or a.held q None))))
  ]

  came_here : (t : ℕ) → came t p ≡ is_task t linked
  came_here t = ap (λ (o : Option ℕ). is_task t o && not (is_task t (get_or a.held p None))) here ∙ anew (is_task t linked) refl
    where
      anew : (b : Bool) → is_task t linked ≡ b → (b && not (is_task t (get_or a.held p None))) ≡ b
      anew false is = refl
      anew true is = ap not (false_from_ne_true (is_task t (get_or a.held p None))
          (λ h. differs (is_task-true t linked is ∙ sym (is_task-true t (get_or a.held p None) h))))

  taken_here : (t : ℕ) → taken_among a.held b.held t ≡ cond (is_task t linked) (p ∷ []) []
  taken_here t = passes_alone (came t) (length a.held) p below (came_alone t) ∙ ap (λ v. cond v (p ∷ []) []) (came_here t)

  takes_here : (t : ℕ) (c : Context) → (if is_task t linked then context_after_take c p else c)
      ≡ context_after_takes c (taken_among a.held b.held t)
  takes_here t c = whether (is_task t linked) ∙ sym (ap (context_after_takes c) (taken_here t))
    where
      whether : (v : Bool) → (if v then context_after_take c p else c) ≡ context_after_takes c (cond v (p ∷ []) [])
      whether true = refl
      whether false = refl

  pub caught_up-one : EachBecomes (λ t c. if is_task t linked then context_after_take c p else c) a.each b.each
      → HaveCaughtUp s (p ∷ []) a b
  caught_up-one takes = record {
    count = ap length writes ∙ length-set a.held p linked;
    there = λ q contains. rw (contains_one p q contains) (here ∙ on);
    either = λ q. elim (cases_eq q p) [
      | inl same ↦ inr (rw same (here ∙ on))
      | inr other ↦ inl (elsewhere q other)
    ];
    each = EachBecomes-same _ _ takes_here a.each b.each takes;
  }
