-- Making passes and notes, and joining them, keeps the rule of the turn word.
use Rattle.std.proofs.Common.{◌≡◌, ℕ, ◌+◌, ◌<◌, ◌≤◌, ◌||◌, eqb, cond, max, Bool, true, false, ◌⊎◌, List, [], ◌∷◌, ◌++◌, length, set, sym}
use Rattle.std.proofs.Common.{refl, ap, ◌∙◌, subst, inl, inr, ⊎_elim, arith, None}
use mathlib.Core.Option.{some}
use mathlib.Core.List.{IsPrefix}
use lib.ListN.{get_elem?}
use Rattle.atomic_table.specs.Table.{Splits, Joins}
use Rattle.atomic_table.proofs.Lists.{at_set, at_snoc, set_else}
use Rattle.strong_apa.specs.declared.reply.Entry.{Entry}
use Rattle.event_history.specs.declared.view.PassView.{PassView}
use Rattle.event_history.specs.Places.{own_places}
use Rattle.event_history.specs.Turn.{Setting, turns, turn_count, Holds, own_pass, unmade_pass, ended_pass, passes_of, AllSaw, AllMine, Fits}
use Rattle.event_history.specs.Turn.{TurnRule, TurnSeat, fresh, made_one, newcomer, note, longer, informed, taken_in, spent_pass}
use Rattle.task_set.proofs.Sums.{total-set, total-append}
use Rattle.event_history.proofs.Prefixes.{prefix_refl, prefix_both, prefix_whole, longer_either}
use Rattle.event_history.proofs.Keeps.{St, with_views, all_further, mine_append, unmade_before, unmade_next}

-- a list that is the whole is the longer of two beginnings
whole_longer : (xs ys zs : List Entry) → IsPrefix xs zs → IsPrefix ys zs → ((xs ≡ zs) ⊎ (ys ≡ zs)) → longer xs ys ≡ zs
whole_longer xs ys zs p q is = longer_either xs ys (λ l. l ≡ zs)
    (λ le. ⊎_elim (λ (e : xs ≡ zs). e) (λ (e : ys ≡ zs). prefix_whole xs zs p (omega (arith, ap length e))) is)
    (λ lt. ⊎_elim (λ (e : xs ≡ zs). prefix_whole ys zs q (omega (arith, ap length e))) (λ (e : ys ≡ zs). e) is)

or_cases : (a b : Bool) → (a || b) ≡ true → (a ≡ true) ⊎ (b ≡ true)
or_cases true b h = inl refl
or_cases false b h = inr h

zero_one : ◌≡◌ {A = ℕ} 0 1 → ⊥
zero_one is = cc is

not_unmade : (x : ℕ) → ¬ (unmade_pass x 0 ≡ 1)
not_unmade x is = zero_one is

one_limit : (b : Bool) → cond b 1 0 ≤ 1
one_limit true = omega arith
one_limit false = omega arith

unmade_limit : (x made : ℕ) → unmade_pass x made ≤ 1
unmade_limit x made = one_limit _

pass_count : (x : ℕ) (v : PassView) → v.is_pass ≡ true → own_pass x v ≡ cond (eqb v.caller x) 1 0
pass_count x v is = ap (λ (b : Bool). cond b (cond (eqb v.caller x) 1 0) 0) is

module _ (of : Setting) (callers : ℕ) where
  pub spent_fits : (history : List Entry) (closed : Bool) → Fits callers history closed spent_pass
  spent_fits history closed = record {
    seen = (history, refl);
    known = omega arith;
    close = λ saw. absurd (cc saw);
    held = tt;
    holder = λ _. refl;
    olds = tt;
    mine = λ p. absurd (cc p);
    unmade = λ x is. absurd (not_unmade x is);
    ended = tt;
  }

  -- a seat is cut off, whose view fits
  cut_off : (id : ℕ) (v l r : PassView) (s : St) → (k : TurnRule of callers s) → get_elem? s.views id ≡ some v → turns l + turns r ≡ turns v
      → ((x : ℕ) → passes_of x l + passes_of x r ≤ passes_of x v)
      → Fits callers k.history k.closed l → Fits callers k.history k.closed r
      → TurnRule of callers (with_views s (set s.views id l ++ r ∷ []))
  cut_off id v l r s k at turn by left right = record {
    history = k.history;
    closed = k.closed;
    legal = k.legal;
    one_word = k.one_word;
    one_slot = k.one_slot;
    count = k.count;
    holders = omega (arith, total-append turns (set s.views id l) (r ∷ []), total-set turns s.views id v l at, k.holders);
    home = k.home;
    fits = λ j x e. ⊎_elim (λ d. ⊎_elim (λ b. subst (Fits callers k.history k.closed) b.1 left) (λ b. k.fits j x b.1)
        (at_set s.views id j l x d))
        (λ (d : r ≡ x). subst (Fits callers k.history k.closed) d right) (at_snoc (set s.views id l) r x j e);
    apart = λ x. omega (
      arith,
      total-append (passes_of x) (set s.views id l) (r ∷ []),
      total-set (passes_of x) s.views id v l at,
      by x,
      k.apart x,
    );
    few = k.few;
  }

  pub notes_lem : (id : ℕ) (v : PassView) → Splits (TurnRule of callers) id v v (note v)
  notes_lem id v s k at =
      let f = k.fits id v at in
      cut_off id v v (note v) s k at (omega arith) (λ x. omega arith) f
      record {
        seen = f.seen;
        known = f.known;
        close = f.close;
        held = tt;
        holder = λ _. refl;
        olds = tt;
        mine = λ p. absurd (cc p);
        unmade = λ x is. absurd (not_unmade x is);
        ended = tt;
      }

  -- the next pass is made
  pub makes_lem : (id : ℕ) (v : PassView) → 0 < v.made → v.made < callers → Splits (TurnRule of callers) id v (made_one v) (newcomer v)
  makes_lem id v any more s k at =
      let f = k.fits id v at in
      let here : unmade_pass v.made v.made ≡ 1 = unmade_before v.made v.made any (omega arith) in
      cut_off id v (made_one v) (newcomer v) s k at (omega arith) (λ x. let e = unmade_next x v.made any in omega arith)
      record {
        seen = f.seen;
        known = f.known;
        close = f.close;
        held = f.held;
        holder = f.holder;
        olds = f.olds;
        mine = f.mine;
        unmade = λ x is. f.unmade x (let e = unmade_next x v.made any in let b = one_limit (eqb v.made x) in
            let h = unmade_limit x v.made in omega arith);
        ended = f.ended;
      }
      record {
        seen = (k.history, refl);
        known = omega arith;
        close = λ saw. absurd (cc saw);
        held = tt;
        holder = λ _. refl;
        olds = tt;
        mine = λ p. (sym (f.unmade v.made here), more);
        unmade = λ x is. absurd (not_unmade x is);
        ended = tt;
      }

  -- a view is taken in, and its seat is spent
  take_in : (id other : ℕ) (v w b : PassView) (s : St) → (k : TurnRule of callers s) → get_elem? s.views id ≡ some v → ¬ (other ≡ id)
      → get_elem? (set s.views id b) other ≡ some w
      → turns b ≡ turns v → turns w ≡ 0 → ((x : ℕ) → passes_of x b ≤ passes_of x v + passes_of x w)
      → (Fits callers k.history k.closed v → Fits callers k.history k.closed w → Fits callers k.history k.closed b)
      → TurnRule of callers (with_views s (set (set s.views id b) other spent_pass))
  take_in id other v w b s k at apart there same nobody by joined =
      let vs : List PassView = set s.views id b in
      let there' : get_elem? s.views other ≡ some w = sym (set_else s.views id other b apart) ∙ there in
      let fit = joined (k.fits id v at) (k.fits other w there') in
      record {
        history = k.history;
        closed = k.closed;
        legal = k.legal;
        one_word = k.one_word;
        one_slot = k.one_slot;
        count = k.count;
        holders = omega (arith, total-set turns vs other w spent_pass there, total-set turns s.views id v b at, k.holders);
        home = k.home;
        fits = λ j x e. ⊎_elim (λ d. subst (Fits callers k.history k.closed) d.1 (spent_fits k.history k.closed))
            (λ d. ⊎_elim (λ d. subst (Fits callers k.history k.closed) d.1 fit) (λ d. k.fits j x d.1) (at_set s.views id j b x d.1))
            (at_set vs other j spent_pass x e);
        apart = λ x. omega (
          arith,
          total-set (passes_of x) vs other w spent_pass there,
          total-set (passes_of x) s.views id v b at,
          by x,
          k.apart x,
        );
        few = k.few;
      }

  -- what two views saw together
  saw_both : (history : List Entry) (closed : Bool) (v w b : PassView) → Fits callers history closed v → Fits callers history closed w
      → b.seen ≡ longer v.seen w.seen → b.known ≡ max v.known w.known → b.saw_close ≡ (v.saw_close || w.saw_close) → b.held ≡ v.held
      → b.olds ≡ (v.seen, v.saw_close) ∷ (w.seen, w.saw_close) ∷ v.olds
      → b.is_pass ≡ v.is_pass → b.caller ≡ v.caller → b.mine ≡ v.mine → b.made ≡ v.made → AllMine callers history b.ended
      → Fits callers history closed b
  saw_both history closed v w b f g seen known close held olds pass caller mine made ended =
      let p : IsPrefix v.seen (longer v.seen w.seen) = longer_either v.seen w.seen (λ l. IsPrefix v.seen l) (λ _. prefix_refl v.seen)
      (λ lt. prefix_both v.seen w.seen history f.seen g.seen (omega arith)) in
      let q : IsPrefix w.seen (longer v.seen w.seen) = longer_either v.seen w.seen (λ l. IsPrefix w.seen l)
      (λ le. prefix_both w.seen v.seen history g.seen f.seen le) (λ _. prefix_refl w.seen) in
      let all : AllSaw history closed (longer v.seen w.seen) ((v.seen, v.saw_close) ∷ (w.seen, w.saw_close) ∷ v.olds) = (
        p,
        f.close,
        (q, g.close, all_further history closed v.olds v.seen (longer v.seen w.seen) p f.olds),
      ) in
      record {
        seen = subst (λ (l : List Entry). IsPrefix l history) (sym seen)
            (longer_either v.seen w.seen (λ l. IsPrefix l history) (λ _. f.seen) (λ _. g.seen));
        known = omega (arith, known, f.known, g.known);
        close = λ saw. ⊎_elim (λ (y : v.saw_close ≡ true). (
          seen ∙ whole_longer v.seen w.seen history f.seen g.seen (inl (f.close y).0),
          (f.close y).1,
        ))
            (λ (y : w.saw_close ≡ true). (seen ∙ whole_longer v.seen w.seen history f.seen g.seen (inr (g.close y).0), (g.close y).1))
            (or_cases v.saw_close w.saw_close (sym close ∙ saw));
        held = subst (Holds history closed) (sym held) f.held;
        holder = λ p. held ∙ f.holder (sym pass ∙ p);
        olds = subst (λ l. AllSaw history closed l b.olds) (sym seen) (subst (AllSaw history closed (longer v.seen w.seen)) (sym olds) all);
        mine = λ p. let m = f.mine (sym pass ∙ p) in
            (mine ∙ m.0 ∙ ap (λ x. own_places x history) (sym caller), subst (λ x. x < callers) (sym caller) m.1);
        unmade = λ x is. f.unmade x (subst (λ n. unmade_pass x n ≡ 1) made is);
        ended = ended;
      }

  -- a note is learnt
  pub informs_lem : (id other : ℕ) (v w : PassView) → w.held ≡ None → Joins (TurnRule of callers) id v other w (informed v w) spent_pass
  informs_lem id other v w holds s k at apart there =
      take_in id other v w (informed v w) s k at apart there refl (ap turn_count holds) (λ x. omega arith)
      (λ f g. saw_both k.history k.closed v w (informed v w) f g refl refl refl refl refl refl refl refl refl f.ended)

  -- a pass is taken in
  pub takes_in_lem : (id other : ℕ) (v w : PassView) → w.is_pass ≡ true → w.held ≡ None
      → Joins (TurnRule of callers) id v other w (taken_in v w) spent_pass
  takes_in_lem id other v w is_pass holds s k at apart there =
      take_in id other v w (taken_in v w) s k at apart there refl (ap turn_count holds)
      (λ x. omega (arith, total-append (ended_pass x) v.ended ((w.caller, w.mine) ∷ w.ended), pass_count x w is_pass))
      (λ f g. saw_both k.history k.closed v w (taken_in v w) f g refl refl refl refl refl refl refl refl refl
      (mine_append callers k.history v.ended ((w.caller, w.mine) ∷ w.ended) f.ended ((g.mine is_pass).0, (g.mine is_pass).1, g.ended)))

  pub makes_at_lem : (id caller : ℕ) (m : TurnSeat) → m ≡ (fresh 0 caller, []) → 1 ≤ caller → caller < callers
      → Splits (TurnRule of callers) id m.0 (made_one m.0) (newcomer m.0)
  makes_at_lem id caller m is any more = subst (λ (x : TurnSeat). Splits (TurnRule of callers) id x.0 (made_one x.0) (newcomer x.0))
      (sym is) (makes_lem id (fresh 0 caller) any more)
