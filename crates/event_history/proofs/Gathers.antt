-- Passes that are taken in, and what the last of them tells.
use Rattle.std.proofs.Common.{◌≡◌, ℕ, suc, ◌+◌, ◌<◌, ◌≤◌, ◌≢◌, cond, Bool, true, false, List, [], ◌∷◌, ◌++◌, length, get_or, append_assoc}
use Rattle.std.proofs.Common.{append-nil, sym, refl, ap, ◌∙◌, subst, inl, inr, ⊎_elim, arith, eq-eqb, Option, Some, None}
use Rattle.std.specs.List.{remove}
use mathlib.Core.Logic.{dite}
use mathlib.Core.Option.{some, some-injective}
use mathlib.Core.List.{IsPrefix}
use native.Mathlib.Decide.{ℕ_discrete}
use lib.ListN.{get_elem?}
use Rattle.atomic_table.specs.Table.{Final, Seen}
use Rattle.atomic_table.specs.Seated.{TableId}
use Rattle.order_queues.specs.Ends.{EyeData}
use Rattle.strong_apa.specs.declared.reply.Entry.{Entry}
use Rattle.strong_apa.specs.History.{IsLegal}
use Rattle.event_history.specs.declared.view.PassView.{PassView}
use Rattle.event_history.specs.Boards.{BoardData, PassData, AreFrom}
use Rattle.event_history.specs.Holdings.{HeldData}
use Rattle.event_history.specs.Places.{own_places, CallersBelow}
use Rattle.event_history.specs.Closing.{Tells, AllTell}
use Rattle.event_history.specs.Gathering.{Has, IsIn, AllIn, AllOf, Gathered}
use Rattle.event_history.specs.PassStates.{pass_data_of}
use Rattle.event_history.specs.Turn.{Setting, IsOver, turns, turn_count, ended_pass, passes_of, AllSaw, AllMine, Fits, TurnRule, taken_in}
use Rattle.task_set.specs.Sum.{total}
use Rattle.task_set.proofs.Sums.{terms_le}
use Rattle.event_history.proofs.Passes.{first_removed}
use Rattle.event_history.proofs.Prefixes.{prefix_trans}
use Rattle.event_history.proofs.Keeps.{St, by_same}

module _ {A : Type 0} where
  has_first : (x : A) (l m : List A) → Has x l → Has x (l ++ m)
  has_first x [] m h = absurd h
  has_first x (y ∷ ys) m h = ⊎_elim (λ (e : x ≡ y). inl e) (λ (d : Has x ys). inr (has_first x ys m d)) h

  has_last : (x : A) (l m : List A) → Has x m → Has x (l ++ m)
  has_last x [] m h = h
  has_last x (y ∷ ys) m h = inr (has_last x ys m h)

pub in_itself : (id : TableId) (eyes : List EyeData) (v : PassView) → IsIn (pass_data_of id eyes v) v
in_itself id eyes v = record { saw = inl (refl, refl); own = inl (refl, refl) }

pub in_other : (id : TableId) (eyes : List EyeData) (v w : PassView) → IsIn (pass_data_of id eyes w) (taken_in v w)
in_other id eyes v w =
    record { saw = inr (inr (inl refl)); own = inr (has_last (w.caller, w.mine) v.ended ((w.caller, w.mine) ∷ w.ended) (inl refl)) }

pub in_more : (p : PassData) (v w : PassView) → IsIn p v → IsIn p (taken_in v w)
in_more p v w h = record {
  saw = ⊎_elim (λ (e : (v.seen ≡ p.seen) × (v.saw_close ≡ p.saw_close)). inr (inl (λ i. (sym e.0 i, sym e.1 i))))
      (λ (d : Has (p.seen, p.saw_close) v.olds). inr (inr (inr d))) h.saw;
  own = ⊎_elim (λ (e : (v.caller ≡ p.caller) × (v.mine ≡ p.mine)). inl e)
      (λ (d : Has (p.caller, p.mine) v.ended). inr (has_first (p.caller, p.mine) v.ended ((w.caller, w.mine) ∷ w.ended) d)) h.own;
}

all_in_more : (l : List PassData) (v w : PassView) → AllIn l v → AllIn l (taken_in v w)
all_in_more [] v w h = tt
all_in_more (p ∷ ps) v w h = (in_more p v w h.0, all_in_more ps v w h.1)

-- one pass more, from the end
pub gathered_more : (all left left' : List PassData) (p : PassData) (v w x : PassView) → Gathered all left v → left ≡ left' ++ p ∷ []
    → x ≡ taken_in v w → IsIn p (taken_in v w) → Gathered all left' x
gathered_more all left left' p v w x g is now known = record {
  done = p ∷ g.done;
  parts = g.parts ∙ ap (λ (l : List PassData). l ++ g.done) is ∙ append_assoc left' (p ∷ []) g.done;
  known = subst (AllIn (p ∷ g.done)) (sym now) (known, all_in_more g.done v w g.known);
}

pub gathered_none : (all : List PassData) (v : PassView) → Gathered all all v
gathered_none all v = record { done = []; parts = sym (append-nil all); known = tt }

pub gathered_all : (all : List PassData) (v : PassView) → Gathered all [] v → AllIn all v
gathered_all all v g = subst (λ (l : List PassData). AllIn l v) (sym g.parts) g.known

pub of_snoc : (id : TableId) (l : List PassData) (p : PassData) → AllOf id (l ++ p ∷ []) → AllOf id l × (p.board ≡ id)
of_snoc id [] p h = (tt, h.0)
of_snoc id (x ∷ xs) p h = let r = of_snoc id xs p h.1 in ((h.0, r.0), r.1)

pub of_board : (board : BoardData) (n : ℕ) (l : List PassData) → AreFrom board n l → AllOf board.id l
of_board board n [] h = tt
of_board board n (p ∷ ps) h = (h.0, of_board board (n + 1) ps h.3)

-- a view that knows of a caller's pass stands for it
total_has : (x : ℕ) (m : List ℕ) (l : List (ℕ × List ℕ)) → Has (x, m) l → 1 ≤ total (ended_pass x) l
total_has x m [] h = absurd h
total_has x m (e ∷ es) h = ⊎_elim (λ (same : (x, m) ≡ e). let one : ended_pass x e
    ≡ 1 = ap (λ (b : Bool). cond b 1 0) (eq-eqb e.0 x (ap (λ (y : ℕ × List ℕ). y.0) (sym same))) in omega arith)
    (λ (d : Has (x, m) es). let r = total_has x m es d in omega arith) h

known_caller : (p : PassData) (v : PassView) → v.is_pass ≡ true → IsIn p v → 1 ≤ passes_of p.caller v
known_caller p v is h = ⊎_elim (λ (e : (v.caller ≡ p.caller) × (v.mine ≡ p.mine)). let one = by_same p.caller v is e.0 in omega arith)
    (λ (d : Has (p.caller, p.mine) v.ended). let r = total_has p.caller p.mine v.ended d in omega arith) h.own

pub covers : (board : BoardData) (n : ℕ) (l : List PassData) (v : PassView) → v.is_pass ≡ true → AreFrom board n l → AllIn l v → (x : ℕ)
    → n ≤ x → x < n + length l → 1 ≤ passes_of x v
covers board n [] v is from all x low high = absurd (omega arith)
covers board n (p ∷ ps) v is from all x low high = dite (ℕ_discrete x n)
    (λ e. subst (λ y. 1 ≤ passes_of y v) (from.1 ∙ sym e) (known_caller p v is all.0))
    (λ ne. covers board (n + 1) ps v is from.3 all.1 x (omega arith) (omega arith))

-- what is known of the history is so of what was taken in
saw_has : (history : List Entry) (closed : Bool) (seen : List Entry) (olds : List (List Entry × Bool)) (xs : List Entry) (b : Bool)
    → AllSaw history closed seen olds → Has (xs, b) olds → IsPrefix xs seen × (b ≡ true → (xs ≡ history) × (closed ≡ true))
saw_has history closed seen [] xs b all h = absurd h
saw_has history closed seen (o ∷ os) xs b all h =
    ⊎_elim (λ (e : (xs, b) ≡ o). subst (λ (y : List Entry × Bool). IsPrefix y.0 seen × (y.1 ≡ true → (y.0 ≡ history) × (closed ≡ true)))
    (sym e) (all.0, all.1)) (λ (d : Has (xs, b) os). saw_has history closed seen os xs b all.2 d) h

mine_has : (callers : ℕ) (history : List Entry) (l : List (ℕ × List ℕ)) (x : ℕ) (m : List ℕ) → AllMine callers history l → Has (x, m) l
    → m ≡ own_places x history
mine_has callers history [] x m all h = absurd h
mine_has callers history (e ∷ es) x m all h =
    ⊎_elim (λ (same : (x, m) ≡ e). subst (λ (y : ℕ × List ℕ). y.1 ≡ own_places y.0 history) (sym same) all.0)
    (λ (d : Has (x, m) es). mine_has callers history es x m all.2 d) h

tells : (callers : ℕ) (history : List Entry) (closed : Bool) (v : PassView) (p : PassData) → Fits callers history closed v
    → v.is_pass ≡ true → IsIn p v → Tells history closed p
tells callers history closed v p f is h = record {
  seen = ⊎_elim (λ (e : (v.seen ≡ p.seen) × (v.saw_close ≡ p.saw_close)). subst (λ (l : List Entry). IsPrefix l history) e.0 f.seen)
      (λ (d : Has (p.seen, p.saw_close) v.olds). prefix_trans p.seen v.seen history
      (saw_has history closed v.seen v.olds p.seen p.saw_close f.olds d).0 f.seen) h.saw;
  close = ⊎_elim (λ (e : (v.seen ≡ p.seen) × (v.saw_close ≡ p.saw_close)). λ saw. let c = f.close (e.1 ∙ saw) in (sym e.0 ∙ c.0, c.1))
      (λ (d : Has (p.seen, p.saw_close) v.olds). (saw_has history closed v.seen v.olds p.seen p.saw_close f.olds d).1) h.saw;
  mine = ⊎_elim (λ (e : (v.caller ≡ p.caller) × (v.mine ≡ p.mine)). sym e.1 ∙ (f.mine is).0 ∙ ap (λ x. own_places x history) e.0)
      (λ (d : Has (p.caller, p.mine) v.ended). mine_has callers history v.ended p.caller p.mine f.ended d) h.own;
}

pub all_tell : (callers : ℕ) (history : List Entry) (closed : Bool) (v : PassView) (l : List PassData) → Fits callers history closed v
    → v.is_pass ≡ true → AllIn l v → AllTell history closed l
all_tell callers history closed v [] f is all = tt
all_tell callers history closed v (p ∷ ps) f is all =
    (tells callers history closed v p f is all.0, all_tell callers history closed v ps f is all.1)

-- nobody has the turn, where one pass stands for all callers and has it not
none_total : (l : List PassView) → ((j : ℕ) (u : PassView) → get_elem? l j ≡ some u → turns u ≡ 0) → total turns l ≡ 0
none_total [] h = refl
none_total (u ∷ us) h = omega (arith, h 0 u refl, none_total us (λ j w e. h (suc j) w e))

quiet : (of : Setting) (callers id : ℕ) (v : PassView) (s : St) → TurnRule of callers s → get_elem? s.views id ≡ some v → v.held ≡ None
    → ((x : ℕ) → x < callers → 1 ≤ passes_of x v)
    → (j : ℕ) (u : PassView) → get_elem? s.views j ≡ some u → turns u ≡ 0
quiet of callers id v s k at free all j u e = dite (ℕ_discrete j id)
    (λ same. let is : u ≡ v = some-injective u v (sym e ∙ ap (get_elem? s.views) same ∙ at) in ap turns is ∙ ap turn_count free)
    (λ ne. by_pass u.is_pass refl ne)
  where
    by_pass : (b : Bool) → u.is_pass ≡ b → j ≢ id → turns u ≡ 0
    by_pass false is ne = ap turn_count ((k.fits j u e).holder is)
    by_pass true is ne =
        let low = ((k.fits j u e).mine is).1 in
        let one = by_same u.caller u is refl in
        let other = all u.caller low in
        absurd (omega (arith, one, other, terms_le (passes_of u.caller) s.views id j v u ne at e, k.apart u.caller))

-- what a table leaves, whose last seat stands for all callers
pub record Ends (of : Setting) (callers : ℕ) (v : PassView) (xs : List (Option HeldData)) : Type 0 where
  pub held : HeldData
  pub at_home : get_elem? xs 0 ≡ some (Some held)
  pub over : IsOver of held
  pub fits : Fits callers held.core.history held.core.closed v
  pub few : CallersBelow callers held.core.history

pub ends_lem : (of : Setting) (callers id : ℕ) (v : PassView) (ws : List ℕ) (xs : List (Option HeldData))
    → Final (Seen (TurnRule of callers) id v) ws xs → v.held ≡ None → ((x : ℕ) → x < callers → 1 ≤ passes_of x v) → Ends of callers v xs
ends_lem of callers id v ws xs final free all =
    let s = final.0 in
    let k = final.1.0 in
    let at = final.1.1 in
    let none : total turns s.views ≡ 0 = none_total s.views (quiet of callers id v s k at free all) in
    let home = k.home (sym k.holders ∙ none) in
    let held : HeldData = home.0 in
    record {
      held = held;
      at_home = final.4 0 (Some held) home.1;
      over = record { start = home.4; queues = home.5; legal = subst (IsLegal of.set) (sym home.2) k.legal };
      fits = subst (λ (h : List Entry). Fits callers h held.core.closed v) (sym home.2)
          (subst (λ (b : Bool). Fits callers k.history b v) (sym home.3) (k.fits id v at));
      few = subst (CallersBelow callers) (sym home.2) k.few;
    }

pub ends_with : (of : Setting) (callers : ℕ) (v : PassView) (xs : List (Option HeldData)) (r : Option HeldData) → (e : Ends of callers v xs)
    → get_elem? xs 0 ≡ some r → r ≡ Some e.held
ends_with of callers v xs r e at = some-injective r (Some e.held) (sym at ∙ e.at_home)

pub ends_same : (of : Setting) (callers : ℕ) (v : PassView) (xs : List (Option HeldData)) (held : HeldData) → (e : Ends of callers v xs)
    → get_elem? xs 0 ≡ some (Some held) → e.held ≡ held
ends_same of callers v xs held e at = let same : Some e.held ≡ Some held = sym (ends_with of callers v xs (Some held) e at) in cc same

-- all passes are known, where the first was of the view w and took in the others
pub all_taken : (board : BoardData) (l m : List PassData) (p : PassData) (id : TableId) (eyes : List EyeData) (w v : PassView)
    → length l ≡ board.callers → 1 ≤ board.callers → p ≡ get_or l 0 p → m ≡ remove l 0
    → pass_data_of id eyes w ≡ p → ((pass : PassData) → IsIn pass w → IsIn pass v) → AllIn m v → AllIn l v
all_taken board l m p id eyes w v count some_pass is rest same kept all =
    subst (λ (k : List PassData). AllIn k v) (sym (first_removed l m p is rest (omega arith)))
    (kept p (subst (λ (q : PassData). IsIn q w) same (in_itself id eyes w)), all)
