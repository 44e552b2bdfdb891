-- Each step keeps the rule of the turn word.
use Rattle.std.proofs.Common.{◌≡◌, ℕ, ◌+◌, ◌-◌, ◌*◌, ◌%◌, ◌<◌, ◌≤◌, ◌&&◌, not, eqb, cond, Bool, true, false, ◌≢◌, List, [], ◌∷◌, ◌++◌}
use Rattle.std.proofs.Common.{length, length-append, get_or, set, sym, refl, ap, ◌∙◌, subst, ⊎_elim, arith, length-set, get_or-set_same}
use Rattle.std.proofs.Common.{eq-eqb, ne_eqb, lt-ltb, le-ltb, Option, Some, None, MatchBool}
use mathlib.Core.Logic.{dite}
use mathlib.Core.Option.{some, none}
use mathlib.Core.List.{IsPrefix}
use native.Mathlib.Decide.{ℕ_discrete, dec_le}
use lib.ListN.{get_elem?}
use lib.Seq.{set-get_or}
use prog.Atomic.{either}
use Rattle.atomic_table.specs.Table.{State, step, Act, keeps, takes, gives, Valid, carried_after, stepped, Allows, rest}
use Rattle.atomic_table.proofs.Lists.{at_set, set_here}
use Rattle.task_set.specs.TaskSet.{SetData}
use Rattle.strong_apa.specs.declared.reply.Entry.{Entry}
use Rattle.strong_apa.specs.State.{start_of}
use Rattle.strong_apa.specs.History.{IsLegal, IsLegalFrom}
use Rattle.sched_core.specs.CoreData.{CoreData, IsCore}
use Rattle.event_history.specs.declared.view.PassView.{PassView}
use Rattle.event_history.specs.Holdings.{HeldData, queues_of}
use Rattle.event_history.specs.Places.{own_places, CallersBelow}
use Rattle.event_history.specs.Turn.{Setting, turns, turn_count, Holds, own_pass, unmade_pass, ended_pass, passes_of, AllBegin, AllSaw}
use Rattle.event_history.specs.Turn.{AllMine, Fits, TurnRule, TurnSeat, IsOver, GoesOn, loaded, found_another, with_turn, loads_play}
use Rattle.event_history.specs.Turn.{turn_play, posts_play, leaves_play, after_post, after_leave, IsFree, MayRecord, MayLeave}
use Rattle.task_set.specs.Sum.{total}
use Rattle.task_set.proofs.Sums.{total-set, term_le, terms_le}
use Rattle.event_history.proofs.Prefixes.{prefix_refl, prefix_trans, prefix_length, places_here, places_else}

abbrev pub St : Type 0
St = State (Option HeldData) PassView

abbrev pub with_views : St → List PassView → St
with_views s vs = record s { views = vs }

tested : (n old : ℕ) (P : Bool → Type 0) → (n ≡ old → P true) → (n ≢ old → P false) → P (eqb n old)
tested n old P hit miss =
    dite (ℕ_discrete n old) (λ e. subst P (sym (eq-eqb n old e)) (hit e)) (λ ne. subst P (sym (ne_eqb n old ne)) (miss ne))

-- the lists that were compared begin what was seen
all_begin : (history : List Entry) (closed : Bool) (seen : List Entry) (olds : List (List Entry × Bool)) → AllSaw history closed seen olds
    → AllBegin olds seen
all_begin history closed seen [] h = tt
all_begin history closed seen (o ∷ os) h = (h.0, all_begin history closed seen os h.2)

-- they begin what begins with it
pub all_further : (history : List Entry) (closed : Bool) (olds : List (List Entry × Bool)) (xs ys : List Entry) → IsPrefix xs ys
    → AllSaw history closed xs olds → AllSaw history closed ys olds
all_further history closed [] xs ys p h = tt
all_further history closed (o ∷ os) xs ys p h = (prefix_trans o.0 xs ys h.0 p, h.1, all_further history closed os xs ys p h.2)

-- those that are the closed history stay it, since it does not grow
all_saw_after : (history h' : List Entry) (closed closed' : Bool) (seen : List Entry) (olds : List (List Entry × Bool))
    → (closed ≡ true → (h' ≡ history) × (closed' ≡ true)) → AllSaw history closed seen olds → AllSaw h' closed' seen olds
all_saw_after history h' closed closed' seen [] close h = tt
all_saw_after history h' closed closed' seen (o ∷ os) close h =
    (h.0, (λ saw. let e = h.1 saw in let t = close e.1 in (e.0 ∙ sym t.0, t.1)), all_saw_after history h' closed closed' seen os close h.2)

callers_snoc : (n : ℕ) (l : List Entry) (e : Entry) → CallersBelow n l → e.caller < n → CallersBelow n (l ++ e ∷ [])
callers_snoc n [] e h is = (is, tt)
callers_snoc n (x ∷ xs) e h is = (h.0, callers_snoc n xs e h.1 is)

none_held : (hist : List Entry) (closed : Bool) (h : Option (List Entry × Bool)) → turn_count h ≡ 0 → Holds hist closed h
none_held hist closed None is = tt
none_held hist closed (Some h) is = absurd (omega arith)

abbrev one_if : Bool → ℕ
one_if b = cond b 1 0

pub by_same : (x : ℕ) (v : PassView) → v.is_pass ≡ true → v.caller ≡ x → own_pass x v ≡ 1
by_same x v is same = ap (λ (b : Bool). cond b (cond (eqb v.caller x) 1 0) 0) is ∙ ap (λ (b : Bool). cond b 1 0) (eq-eqb v.caller x same)

by_itself : (v : PassView) → v.is_pass ≡ true → own_pass v.caller v ≡ 1
by_itself v is = by_same v.caller v is refl

-- what ended passes have stands, where none of them is the caller p
all_mine_kept : (callers p : ℕ) (hist h' : List Entry) (l : List (ℕ × List ℕ)) → total (ended_pass p) l ≡ 0
    → ((x : ℕ) → x ≢ p → own_places x h' ≡ own_places x hist) → AllMine callers hist l → AllMine callers h' l
all_mine_kept callers p hist h' [] not same h = tt
all_mine_kept callers p hist h' (e ∷ es) not same h =
    let other : e.0 ≢ p = λ is. let one : ended_pass p e ≡ 1 = ap one_if (eq-eqb e.0 p is) in absurd (omega arith) in
    (h.0 ∙ sym (same e.0 other), h.1, all_mine_kept callers p hist h' es (omega arith) same h.2)

pub mine_append : (callers : ℕ) (hist : List Entry) (l m : List (ℕ × List ℕ)) → AllMine callers hist l → AllMine callers hist m
    → AllMine callers hist (l ++ m)
mine_append callers hist [] m a b = b
mine_append callers hist (x ∷ xs) m a b = (a.0, a.1, mine_append callers hist xs m a.2 b)

same_head : (a b : ℕ × Option HeldData) → a ∷ [] ≡ b ∷ [] → a ≡ b
same_head a b e = cc e

pub one_held : (a b : HeldData) → ◌≡◌ {A = List (ℕ × Option HeldData)} ((0, Some a) ∷ []) ((0, Some b) ∷ []) → a ≡ b
one_held a b e =
    let head : ◌≡◌ {A = ℕ × Option HeldData} (0, Some a) (0, Some b) = same_head (0, Some a) (0, Some b) e in
    let one : Some a ≡ Some b = ap (λ (y : ℕ × Option HeldData). y.1) head in cc one

pub legal_over : (of : SetData) (core : CoreData) → IsCore core → core.start ≡ start_of of → IsLegal of core.history
legal_over of core valid start = subst (λ s. IsLegalFrom s core.history) start valid.legal

pub is_over : (of : Setting) (held : HeldData) → IsCore held.core → held.core.start ≡ start_of of.set → queues_of held.senders ≡ of.queues
    → IsOver of held
is_over of held valid start queues = record { start = start; queues = queues; legal = legal_over of.set held.core valid start }

pub put_back_is : (m m' : TurnSeat) (held : HeldData) → m.1 ≡ (0, None) ∷ [] → m' ≡ (m.0, (0, Some held) ∷ rest m.1)
    → m' ≡ (m.0, (0, Some held) ∷ [])
put_back_is m m' held slot put = put ∙ ap (λ l. (m.0, (0, Some held) ∷ rest l)) slot

-- of a pass that is still to be made, once one more was made
pub unmade_before : (x made : ℕ) → 0 < made → made ≤ x → unmade_pass x made ≡ 1
unmade_before x made any above = (λ i. cond (lt-ltb 0 made any i && not (le-ltb x made above i)) 1 0)

unmade_not : (x made : ℕ) → x < made → unmade_pass x made ≡ 0
unmade_not x made below = let any : 0 < made = omega arith in (λ i. cond (lt-ltb 0 made any i && not (lt-ltb x made below i)) 1 0)

pub unmade_next : (x made : ℕ) → 0 < made → unmade_pass x (made + 1) + one_if (eqb made x) ≡ unmade_pass x made
unmade_next x made any = dite (dec_le made x)
    (λ above. dite (ℕ_discrete made x)
    (λ e. omega (arith, unmade_not x (made + 1) (omega arith), ap one_if (eq-eqb made x e), unmade_before x made any above))
    (λ ne. omega (
      arith,
      unmade_before x (made + 1) (omega arith) (omega arith),
      ap one_if (ne_eqb made x ne),
      unmade_before x made any above,
    )))
    (λ below. let lt : x < made = omega arith in let ne : made ≢ x = λ e. absurd (omega arith) in
    omega (arith, unmade_not x (made + 1) (omega arith), ap one_if (ne_eqb made x ne), unmade_not x made lt))

module _ (of : Setting) (callers : ℕ) where
  abbrev Kept : St → Type 0
  Kept s = TurnRule of callers s

  -- a step that changes one view alone
  shown : (id : ℕ) (v w : PassView) (s : St) → (k : Kept s) → get_elem? s.views id ≡ some v → turns w ≡ turns v
      → ((x : ℕ) → passes_of x w ≤ passes_of x v) → Fits callers k.history k.closed w
      → Kept (with_views s (set s.views id w))
  shown id v w s k at turn by fit = record {
    history = k.history;
    closed = k.closed;
    legal = k.legal;
    one_word = k.one_word;
    one_slot = k.one_slot;
    count = k.count;
    holders = omega (arith, total-set turns s.views id v w at, k.holders);
    home = k.home;
    fits = λ j u e. ⊎_elim (λ d. subst (Fits callers k.history k.closed) d.1 fit) (λ d. k.fits j u d.1) (at_set s.views id j w u e);
    apart = λ x. omega (arith, total-set (passes_of x) s.views id v w at, by x, k.apart x);
    few = k.few;
  }

  unworded : (id : ℕ) (w : PassView) (s : St) → Kept (with_views s (set s.views id w))
      → Kept (record { words = set s.words 0 (get_or s.words 0 0); homes = s.homes; views = set s.views id w })
  unworded id w s k = subst (λ ws. Kept (record { words = ws; homes = s.homes; views = set s.views id w })) (sym (set-get_or s.words 0 0)) k

  pub loads_lem : (slots id : ℕ) (m : TurnSeat) → Allows (TurnRule of callers) slots id m 0 (λ n. n) (loads_play (step slots 0 0 0 none) m)
  loads_lem slots id m s k wide at small =
      let v : PassView = m.0 in
      let n : ℕ = get_or s.words 0 0 in
      let w : PassView = loaded v n in
      let f = k.fits id v at in
      let fit : Fits callers k.history k.closed w = record {
        seen = f.seen;
        known = omega (arith, f.known, k.count);
        close = f.close;
        held = f.held;
        holder = f.holder;
        olds = tt;
        mine = f.mine;
        unmade = f.unmade;
        ended = f.ended;
      } in (
        w,
        keeps,
        tt,
        unworded id w s (shown id v w s k at refl (λ x. omega arith) fit),
        (refl, all_begin k.history k.closed v.seen v.olds f.olds, omega (arith, f.known, k.count)),
      )

  abbrev Taking : ℕ → TurnSeat → St → ℕ → Bool → Type 0
  Taking id m s old b = let n : ℕ = get_or s.words 0 0 in (w : PassView) × (a : Act (Option HeldData)) × Valid s.homes m.1 a
      × Kept (stepped s 0 (either b (old + 1) n) id m.1 w a)
      × MatchBool b
      ((held : HeldData) × ◌≡◌ {A = TurnSeat} (w, carried_after m.1 a) (with_turn m.0 n held.core, (0, Some held) ∷ [])
      × GoesOn of m.0 n held)
      (◌≡◌ {A = TurnSeat} (w, carried_after m.1 a) (found_another m.0 n, m.1))

  taken : (id old : ℕ) (m : TurnSeat) → IsFree m → old % 2 ≡ 0 → (s : St) (k : Kept s) → get_elem? s.views id ≡ some m.0
      → get_or s.words 0 0 ≡ old → Taking id m s old true
  taken id old m free even s k at hit =
      let v : PassView = m.0 in
      let n : ℕ = get_or s.words 0 0 in
      let even' : n % 2 ≡ 0 = omega arith in
      let home = k.home even' in
      let held : HeldData = home.0 in
      let core : CoreData = held.core in
      let w : PassView = with_turn v n core in
      let f = k.fits id v at in
      let near : 0 < length s.words = omega (arith, k.one_word) in
      let count = k.count in
      let items : core.history ≡ k.history = home.2 in
      let shut : core.closed ≡ k.closed = home.3 in
      let nobody : turns v ≡ 0 = ap turn_count free.held in
      let word : get_or (set s.words 0 (old + 1)) 0 0 ≡ old + 1 = get_or-set_same s.words 0 (old + 1) 0 near in
      let fit : Fits callers k.history k.closed w = record {
        seen = f.seen;
        known = f.known;
        close = f.close;
        held = (items, shut);
        holder = λ p. absurd (cc (sym free.pass ∙ p));
        olds = f.olds;
        mine = f.mine;
        unmade = f.unmade;
        ended = f.ended;
      } in (
        w,
        takes 0 (Some held),
        home.1,
        record {
          history = k.history;
          closed = k.closed;
          legal = k.legal;
          one_word = length-set s.words 0 (old + 1) ∙ k.one_word;
          one_slot = length-set s.homes 0 none ∙ k.one_slot;
          count = omega arith;
          holders = omega (arith, total-set turns s.views id v w at, k.holders);
          home = λ e. absurd (omega arith);
          fits = λ j u e. ⊎_elim (λ d. subst (Fits callers k.history k.closed) d.1 fit) (λ d. k.fits j u d.1) (at_set s.views id j w u e);
          apart = λ x. omega (arith, total-set (passes_of x) s.views id v w at, k.apart x);
          few = k.few;
        },
        (
          held,
          (λ i. (w, (0, Some held) ∷ free.slots i)),
          record {
            start = home.4;
            queues = home.5;
            count = omega (arith, ap length items);
            begins = subst (IsPrefix v.seen) (sym items) f.seen;
            known = omega (arith, ap length items, f.known);
            close = λ saw. shut ∙ (f.close saw).1;
          },
        ),
      )

  missed : (id old : ℕ) (m : TurnSeat) (s : St) (k : Kept s) → get_elem? s.views id ≡ some m.0 → Taking id m s old false
  missed id old m s k at =
      let v : PassView = m.0 in
      let w : PassView = found_another v (get_or s.words 0 0) in
      let f = k.fits id v at in
      let fit : Fits callers k.history k.closed w = record {
        seen = f.seen;
        known = f.known;
        close = f.close;
        held = f.held;
        holder = f.holder;
        olds = f.olds;
        mine = f.mine;
        unmade = f.unmade;
        ended = f.ended;
      } in
      (w, keeps, tt, unworded id w s (shown id v w s k at refl (λ x. omega arith) fit), refl)

  pub takes_lem : (slots id old : ℕ) (m : TurnSeat) → IsFree m → old % 2 ≡ 0
      → Allows (TurnRule of callers) slots id m 0 (λ n. either (eqb n old) (old + 1) n) (turn_play of (step slots 0 old (old + 1) none) m)
  takes_lem slots id old m free even s k wide at small =
      tested (get_or s.words 0 0) old (Taking id m s old) (λ hit. taken id old m free even s k at hit) (λ miss. missed id old m s k at)

  pub takes_of_lem : (named : Setting) (slots id old : ℕ) (m : TurnSeat) → named ≡ of → IsFree m → old % 2 ≡ 0
      → Allows (TurnRule of callers) slots id m 0 (λ n. either (eqb n old) (old + 1) n)
      (turn_play named (step slots 0 old (old + 1) none) m)
  takes_of_lem named slots id old m same free even = subst
      (λ x. Allows (TurnRule of callers) slots id m 0 (λ n. either (eqb n old) (old + 1) n)
      (turn_play x (step slots 0 old (old + 1) none) m)) (sym same) (takes_lem slots id old m free even)

  -- how the others stand once the pass id has ended its turn, with the history that it leaves
  turn_ended : (id : ℕ) (v w : PassView) (h' : List Entry) (closed' : Bool) (held : HeldData) (word : ℕ) (s : St) → (k : Kept s)
      → get_elem? s.views id ≡ some v
      → turns v ≡ 1 → turns w ≡ 0 → ((x : ℕ) → passes_of x w ≡ passes_of x v)
      → held.core.history ≡ h' → held.core.closed ≡ closed' → IsOver of held → word ≡ 2 * length h'
      → IsPrefix k.history h' → CallersBelow callers h'
      → (k.closed ≡ true → (h' ≡ k.history) × (closed' ≡ true))
      → v.is_pass ≡ true → ((x : ℕ) → x ≢ v.caller → own_places x h' ≡ own_places x k.history)
      → Fits callers h' closed' w
      → Kept (record { words = set s.words 0 word; homes = set s.homes 0 (some (Some held)); views = set s.views id w })
  turn_ended id v w h' closed' held word s k at one none_now by items shut over is longer_hist few close pass others fit =
      let n : ℕ = get_or s.words 0 0 in
      let near : 0 < length s.words = omega (arith, k.one_word) in
      let near' : 0 < length s.homes = omega (arith, k.one_slot) in
      let word_is : get_or (set s.words 0 word) 0 0 ≡ word = get_or-set_same s.words 0 word 0 near in
      record {
        history = h';
        closed = closed';
        legal = subst (IsLegal of.set) items over.legal;
        one_word = length-set s.words 0 word ∙ k.one_word;
        one_slot = length-set s.homes 0 (some (Some held)) ∙ k.one_slot;
        count = omega arith;
        holders = omega (arith, total-set turns s.views id v w at, k.holders, term_le turns s.views id v at);
        home = λ e. (held, set_here s.homes 0 (some (Some held)) near', items, shut, over.start, over.queues);
        fits = λ j u e. ⊎_elim (λ d. subst (Fits callers h' closed') d.1 fit)
            (λ d. let f = k.fits j u d.1 in let two = terms_le (passes_of v.caller) s.views id j v u d.0 at d.1 in
            let limit = k.apart v.caller in let first = by_itself v pass in record {
              seen = prefix_trans u.seen k.history h' f.seen longer_hist;
              known = omega (arith, f.known, prefix_length k.history h' longer_hist);
              close = λ saw. let c = f.close saw in let t = close c.1 in (c.0 ∙ sym t.0, t.1);
              held = none_held h' closed' u.held (omega (arith, k.holders, terms_le turns s.views id j v u d.0 at d.1));
              holder = f.holder;
              olds = all_saw_after k.history h' k.closed closed' u.seen u.olds close f.olds;
              mine = λ p. ((f.mine p).0 ∙ sym (others u.caller (λ same. absurd (omega (arith, by_same v.caller u p same)))), (f.mine p).1);
              unmade = λ x is. others x (λ same. let here : unmade_pass v.caller u.made
                  ≡ 1 = subst (λ y. unmade_pass y u.made ≡ 1) same is in absurd (omega arith)) ∙ f.unmade x is;
              ended = all_mine_kept callers v.caller k.history h' u.ended (omega arith) others f.ended;
            })
            (at_set s.views id j w u e);
        apart = λ x. omega (arith, total-set (passes_of x) s.views id v w at, by x, k.apart x);
        few = few;
      }

  posted : (slots id : ℕ) (v : PassView) (h : List Entry) (e : Entry) (got : HeldData) → v.held ≡ Some (h, false) → v.is_pass ≡ true
      → got.core.history ≡ h ++ e ∷ [] → got.core.closed ≡ false → e.caller ≡ v.caller → IsOver of got
      → Allows (TurnRule of callers) slots id (v, (0, Some got) ∷ []) 0 (λ _. 2 * length h + 2)
      (λ _. posts_play (step slots 0 (2 * length h + 2) 0 none) (v, (0, Some got) ∷ []) (2 * length h + 2))
  posted slots id v h e got holds pass items is_open by over s k wide at small =
      let core : CoreData = got.core in
      let h' : List Entry = h ++ e ∷ [] in
      let f = k.fits id v at in
      let held : Holds k.history k.closed (Some (h, false)) = subst (Holds k.history k.closed) holds f.held in
      let hist : h ≡ k.history = held.0 in
      let not_closed : k.closed ≡ false = sym held.1 in
      let lens : length h' ≡ length h + 1 = length-append h (e ∷ []) in
      let grows : IsPrefix k.history h' = subst (λ (l : List Entry). IsPrefix l h') hist (e ∷ [], refl) in
      let never : k.closed ≡ true → (h' ≡ k.history) × (false ≡ true) = λ yes. let no : false ≡ true = sym not_closed
      ∙ yes in absurd (cc no) in
      let m = f.mine pass in
      let w : PassView = after_post v core in
      let mine_is : w.mine ≡ own_places v.caller h' = (λ i. (m.0 ∙ ap (own_places v.caller) (sym hist)) i
      ++ (let z : length core.history - 1 ≡ 0 + length h = omega (arith, ap length items) in z) i ∷ [])
      ∙ sym (places_here v.caller 0 h e by) in
      let others : (x : ℕ) → x ≢ v.caller → own_places x h' ≡ own_places x k.history = λ x ne. places_else x 0 h e
      (λ same. ne (sym same ∙ by)) ∙ ap (own_places x) hist in
      let first = by_itself v pass in
      let limit = k.apart v.caller in
      let own = term_le (passes_of v.caller) s.views id v at in
      let alone : total (ended_pass v.caller) v.ended ≡ 0 = omega arith in
      let fit : Fits callers h' false w = record {
        seen = subst (λ (l : List Entry). IsPrefix l h') (sym items) (prefix_refl h');
        known = omega (arith, ap length items);
        close = λ saw. let no : false ≡ true = sym not_closed ∙ (f.close saw).1 in absurd (cc no);
        held = tt;
        holder = λ _. refl;
        olds = tt;
        mine = λ p. (mine_is, m.1);
        unmade = λ x is. others x (λ same. let here : unmade_pass v.caller v.made ≡ 1 = subst (λ y. unmade_pass y v.made ≡ 1) same is in
            absurd (omega arith)) ∙ f.unmade x is;
        ended = all_mine_kept callers v.caller k.history h' v.ended alone others f.ended;
      } in (
        w,
        gives,
        tt,
        turn_ended id v w h' false got (2 * length h + 2) s k at (ap turn_count holds) refl (λ x. refl) items is_open over (omega arith)
            grows
            (callers_snoc callers h e (subst (CallersBelow callers) (sym hist) k.few) (omega (arith, m.1)))
            never
            pass
            others
            fit,
        λ other is. ap (λ (c : HeldData). (after_post v c.core, [])) (one_held got other is),
      )

  left : (slots id : ℕ) (v : PassView) (h : List Entry) (was : Bool) (got : HeldData) → v.held ≡ Some (h, was) → v.is_pass ≡ true
      → got.core.history ≡ h → (was ≡ true → got.core.closed ≡ true) → IsOver of got
      → Allows (TurnRule of callers) slots id (v, (0, Some got) ∷ []) 0 (λ _. 2 * length h)
      (λ _. leaves_play (step slots 0 (2 * length h) 0 none) (v, (0, Some got) ∷ []) (2 * length h))
  left slots id v h was got holds pass items stays over s k wide at small =
      let core : CoreData = got.core in
      let f = k.fits id v at in
      let held : Holds k.history k.closed (Some (h, was)) = subst (Holds k.history k.closed) holds f.held in
      let hist : h ≡ k.history = held.0 in
      let m = f.mine pass in
      let w : PassView = after_leave v core in
      let fit : Fits callers h core.closed w = record {
        seen = subst (λ (l : List Entry). IsPrefix l h) (sym items) (prefix_refl h);
        known = omega (arith, ap length items, ap length hist, f.known);
        close = λ saw. (items, saw);
        held = tt;
        holder = λ _. refl;
        olds = tt;
        mine = λ p. (m.0 ∙ ap (own_places v.caller) (sym hist), m.1);
        unmade = λ x is. ap (own_places x) hist ∙ f.unmade x is;
        ended = subst (λ l. AllMine callers l v.ended) (sym hist) f.ended;
      } in (
        w,
        gives,
        tt,
        turn_ended id v w h core.closed got (2 * length h) s k at (ap turn_count holds) refl (λ x. refl) items refl over refl
            (subst (λ (l : List Entry). IsPrefix l h) hist (prefix_refl h))
            (subst (CallersBelow callers) (sym hist) k.few)
            (λ yes. (hist, stays (held.1 ∙ yes)))
            pass
            (λ x ne. ap (own_places x) hist)
            fit,
        λ other is. ap (λ (c : HeldData). (after_leave v c.core, [])) (one_held got other is),
      )

  pub records_lem : (slots id word : ℕ) (m m' : TurnSeat) (held : HeldData) → MayRecord of m held → IsCore held.core
      → m' ≡ (m.0, (0, Some held) ∷ rest m.1) → word ≡ 2 * length held.core.history
      → Allows (TurnRule of callers) slots id m' 0 (λ _. word) (λ _. posts_play (step slots 0 word 0 none) m' word)
  records_lem slots id word m m' held may valid put is =
      let now = put_back_is m m' held may.slot put in
      let at : word ≡ 2 * length may.before + 2 = omega (arith, ap length may.items, length-append may.before (may.entry ∷ [])) in
      let P : ℕ → TurnSeat → Type 0 = λ n x. Allows (TurnRule of callers) slots id x 0 (λ _. n)
      (λ _. posts_play (step slots 0 n 0 none) x n) in
      subst (P word) (sym now) (subst (λ n. P n (m.0, (0, Some held) ∷ [])) (sym at)
      (posted slots id m.0 may.before may.entry held may.had may.pass may.items may.is_open may.by
      (is_over of held valid may.start may.queues)))

  pub leaving_lem : (slots id word : ℕ) (m m' : TurnSeat) (held : HeldData) → MayLeave of m held → IsCore held.core
      → m' ≡ (m.0, (0, Some held) ∷ rest m.1) → word ≡ 2 * length held.core.history
      → Allows (TurnRule of callers) slots id m' 0 (λ _. word) (λ _. leaves_play (step slots 0 word 0 none) m' word)
  leaving_lem slots id word m m' held may valid put is =
      let now = put_back_is m m' held may.slot put in
      let P : ℕ → TurnSeat → Type 0 = λ n x. Allows (TurnRule of callers) slots id x 0 (λ _. n)
      (λ _. leaves_play (step slots 0 n 0 none) x n) in
      subst (P word) (sym now) (subst (λ n. P n (m.0, (0, Some held) ∷ [])) (sym is)
      (left slots id m.0 held.core.history may.was held may.had may.pass refl may.stays (is_over of held valid may.start may.queues)))
