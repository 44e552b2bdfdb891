-- Each step keeps the rule.
use Rattle.std.proofs.Common.{◌≡◌, ℕ, zero, suc, ◌+◌, ◌*◌, ◌/◌, ◌%◌, ◌^◌, ◌<◌, eqb, cond, Bool, true, false, ◌≢◌, List, [], ◌∷◌, ◌++◌}
use Rattle.std.proofs.Common.{length, length-append, get_or, set, sym, refl, ap, ◌∙◌, subst, ⊎_elim, arith, length-set, get_or-set_other}
use Rattle.std.proofs.Common.{get_or-set_same, eq-eqb, ne_eqb, Option, Some, None, IsSome, IfSome, MatchBool}
use mathlib.Core.Logic.{dite}
use mathlib.Core.Option.{some, none, some-injective, some-ne-none}
use native.Mathlib.Decide.{ℕ_discrete}
use lib.ListN.{get_elem?}
use lib.Seq.{set-get_or}
use prog.Atomic.{either}
use Rattle.std.proofs.Math.Nat.{mod-add-mod, add-zero}
use Rattle.atomic_table.specs.Table.{State, step, Act, keeps, takes, gives, Valid, carried_after, stepped, Allows, Splits, Joins, Seen}
use Rattle.atomic_table.specs.Table.{rest}
use Rattle.atomic_table.proofs.Lists.{at_set, at_snoc, set_here, set_else}
use Rattle.task_set.specs.declared.context.Context.{Context}
use Rattle.context_slots.specs.declared.view.OpenStint.{OpenStint}
use Rattle.task_set.specs.Orders.{Stint}
use Rattle.context_slots.specs.declared.view.HandView.{HandView}
use Rattle.context_slots.specs.Contexts.{context_after_stints}
use Rattle.context_slots.specs.HandOver.{of_task, is_under_way, IsNumbered, IsHomeAfter, IsRun, IdleIsEmpty, HandOverRule}
use Rattle.task_set.specs.Sum.{total}
use Rattle.context_slots.specs.Hands.{begun, with_run, closed, IsInStint}
use Rattle.context_slots.specs.HandSteps.{SeatState, looked_at_turn, holding, looks_play, takes_play, runs_play, releases_play}
use Rattle.context_slots.specs.HandSteps.{HoldsNothing, TookHeld, dealt, next_hand, joined, spent_hand}
use Rattle.context_slots.specs.Homes.{Came}
use Rattle.task_set.specs.Context.{fresh_context, context_after_take, context_after_run, context_after_runs, context_after_stint}
use Rattle.task_set.proofs.Sums.{total-set, total-append, term_le, terms_le}

abbrev St : Type 0
St = State (Option Context) HandView

tested : (n old : ℕ) (P : Bool → Type 0) → (n ≡ old → P true) → (n ≢ old → P false) → P (eqb n old)
tested n old P hit miss =
    dite (ℕ_discrete n old) (λ e. subst P (sym (eq-eqb n old e)) (hit e)) (λ ne. subst P (sym (ne_eqb n old ne)) (miss ne))

abbrev one_if : Bool → ℕ
one_if b = cond b 1 0

runs_none : (x : ℕ) (v : HandView) → v.holds ≡ None → is_under_way x v.holds ≡ 0
runs_none x v e = ap (is_under_way x) e

-- what is said of the entry at x of a list that changed at t
pub at_either : {A : Type 0} (l : List A) (t x : ℕ) (a d : A) (P : A → ℕ → Type 0) → t < length l → P a t → (x ≢ t → P (get_or l x d) x)
    → P (get_or (set l t a) x d) x
at_either l t x a d P near here else = dite (ℕ_discrete x t)
    (λ e. subst (λ y. P (get_or (set l t a) y d) y) (sym e) (subst (λ b. P b t) (sym (get_or-set_same l t a d near)) here))
    (λ ne. subst (λ b. P b x) (sym (get_or-set_other l t x a d ne)) (else ne))

abbrev Taking : ℕ → ℕ → ℕ → SeatState → St → ℕ → Bool → Type 0
Taking processors id t m s number b = (w : HandView) × (a : Act (Option Context)) × Valid s.homes m.1 a
    × HandOverRule processors (stepped s t (either b (2 * number + 1) (get_or s.words t 0)) id m.1 w a)
    × MatchBool b ((base : Context) × IsHomeAfter base t ((2 * number) / 2)
    × ◌≡◌ {A = SeatState} (w, carried_after m.1 a)
    (holding (looked_at_turn m.0 t (get_or s.words t 0)) (Some (begun t ((2 * number) / 2) base)), (t, Some base) ∷ []))
    (◌≡◌ {A = SeatState} (w, carried_after m.1 a) (looked_at_turn m.0 t (get_or s.words t 0), m.1))

taken : (processors id t number : ℕ) (m : SeatState) → HoldsNothing m → 0 < m.0.parts → (s : St) → (k : HandOverRule processors s)
    → t < length s.homes → get_elem? s.views id ≡ some m.0 → get_or s.words t 0 ≡ 2 * number → Taking processors id t m s number true
taken processors id t number m free part s k near at hit =
    let n : ℕ = get_or s.words t 0 in
    let base : Context = context_after_stints (fresh_context t) (k.log t) in
    let held : OpenStint = begun t ((2 * number) / 2) base in
    let w : HandView = holding (looked_at_turn m.0 t n) (Some held) in
    let n' : ℕ = 2 * number + 1 in
    let even : n % 2 ≡ 0 = omega arith in
    let near' : t < length s.words = omega (arith, k.wide) in
    let count = k.counted t near in
    let none_before = free.0 in (
      w,
      takes t (Some base),
      k.home t near even,
      record {
        log = k.log;
        whole = omega (arith, total-set (λ (v : HandView). v.parts) s.views id m.0 w at, k.whole);
        idle = λ j u e. ⊎_elim (λ d. λ p. absurd (omega (arith, ap (λ (v : HandView). v.parts) d.1))) (λ d. k.idle j u d.1)
            (at_set s.views id j w u e);
        balanced = λ x h. omega (arith, total-set (λ (v : HandView). total (of_task x h) v.ended) s.views id m.0 w at, k.balanced x h);
        numbered = k.numbered;
        wide = omega (arith, length-set s.words t n', length-set s.homes t none, k.wide);
        counted = λ x h. let h' : x < length s.homes = omega (arith, length-set s.homes t none) in
            at_either s.words t x n' 0 (λ a y. a / 2 ≡ length (k.log y)) near' (omega arith) (λ _. k.counted x h');
        holders = λ x h. let h' : x < length s.homes = omega (arith, length-set s.homes t none) in
            let moved = total-set (λ (v : HandView). is_under_way x v.holds) s.views id m.0 w at in
            let old = runs_none x m.0 none_before in
            at_either s.words t x n' 0 (λ a y. y ≡ x → total (λ (v : HandView). is_under_way x v.holds) (set s.views id w) ≡ a % 2) near'
            (λ (e : t ≡ x). omega (arith, k.holders x h', ap one_if (eq-eqb t x e), ap (λ y. get_or s.words y 0) e))
            (λ ne _. omega (arith, k.holders x h', ap one_if (ne_eqb t x (λ e. ne (sym e)))))
            refl;
        home = λ x h. let h' : x < length s.homes = omega (arith, length-set s.homes t none) in
            at_either s.words t x n' 0 (λ a y. a % 2 ≡ 0 → get_elem? (set s.homes t none) y
            ≡ some (some (Some (context_after_stints (fresh_context y) (k.log y))))) near'
            (λ e. absurd (omega arith))
            (λ ne e. set_else s.homes t x none ne ∙ k.home x h' e);
        out = λ j u e. ⊎_elim
            (λ d. subst (λ (v : HandView). IsRun k.log (length (set s.homes t none)) v.holds) d.1
            (omega (arith, length-set s.homes t none), omega arith, refl))
            (λ d. subst (λ y. IsRun k.log y u.holds) (sym (length-set s.homes t none)) (k.out j u d.1))
            (at_set s.views id j w u e);
      },
      (
        base,
        record { log = k.log t; numbered = k.numbered t; count = omega (arith, count); context = refl },
        λ i. (w, (t, Some base) ∷ free.1 i),
      ),
    )

missed : (processors id t number : ℕ) (m : SeatState) → (s : St) → (k : HandOverRule processors s) → t < length s.homes
    → get_elem? s.views id ≡ some m.0 → Taking processors id t m s number false
missed processors id t number m s k near at =
    let n : ℕ = get_or s.words t 0 in
    let w : HandView = looked_at_turn m.0 t n in
    let same : set s.words t n ≡ s.words = set-get_or s.words t 0 in (
      w,
      keeps,
      tt,
      subst (λ ws. HandOverRule processors (record { words = ws; homes = s.homes; views = set s.views id w })) (sym same) record {
        log = k.log;
        whole = omega (arith, total-set (λ (v : HandView). v.parts) s.views id m.0 w at, k.whole);
        idle = λ j u e. ⊎_elim (λ d. subst IdleIsEmpty d.1 (k.idle id m.0 at)) (λ d. k.idle j u d.1) (at_set s.views id j w u e);
        balanced = λ x h. omega (arith, total-set (λ (v : HandView). total (of_task x h) v.ended) s.views id m.0 w at, k.balanced x h);
        numbered = k.numbered;
        wide = k.wide;
        counted = k.counted;
        holders = λ x h. omega (arith, total-set (λ (v : HandView). is_under_way x v.holds) s.views id m.0 w at, k.holders x h);
        home = k.home;
        out = λ j u e. ⊎_elim (λ d. subst (λ (v : HandView). IsRun k.log (length s.homes) v.holds) d.1 (k.out id m.0 at))
            (λ d. k.out j u d.1) (at_set s.views id j w u e);
      },
      refl,
    )

-- a load tells the word
pub turns_lem : (processors slots id t : ℕ) (m : SeatState)
    → Allows (HandOverRule processors) slots id m t (λ n. n) (looks_play (step slots t 0 0 none) m)
turns_lem processors slots id t m s k wide at small =
    let n : ℕ = get_or s.words t 0 in
    let w : HandView = looked_at_turn m.0 t n in
    let same : set s.words t n ≡ s.words = set-get_or s.words t 0 in (
      w,
      keeps,
      tt,
      subst (λ ws. HandOverRule processors (record { words = ws; homes = s.homes; views = set s.views id w })) (sym same) record {
        log = k.log;
        whole = omega (arith, total-set (λ (v : HandView). v.parts) s.views id m.0 w at, k.whole);
        idle = λ j u e. ⊎_elim (λ d. subst IdleIsEmpty d.1 (k.idle id m.0 at)) (λ d. k.idle j u d.1) (at_set s.views id j w u e);
        balanced = λ x h. omega (arith, total-set (λ (v : HandView). total (of_task x h) v.ended) s.views id m.0 w at, k.balanced x h);
        numbered = k.numbered;
        wide = k.wide;
        counted = k.counted;
        holders = λ x h. omega (arith, total-set (λ (v : HandView). is_under_way x v.holds) s.views id m.0 w at, k.holders x h);
        home = k.home;
        out = λ j u e. ⊎_elim (λ d. subst (λ (v : HandView). IsRun k.log (length s.homes) v.holds) d.1 (k.out id m.0 at))
            (λ d. k.out j u d.1) (at_set s.views id j w u e);
      },
      refl,
    )

pub takes_lem : (processors slots id t number : ℕ) (m : SeatState) → HoldsNothing m → 0 < m.0.parts → t < slots
    → Allows (HandOverRule processors) slots id m t (λ n. either (eqb n (2 * number)) (2 * number + 1) n)
    (takes_play (step slots t (2 * number) (2 * number + 1) none) m)
takes_lem processors slots id t number m free part near s k wide at small =
    let near' : t < length s.homes = omega arith in
    tested (get_or s.words t 0) (2 * number) (Taking processors id t m s number)
    (λ hit. taken processors id t number m free part s k near' at hit)
    (λ miss. missed processors id t number m s k near' at)

pub won : (A B : Type 0) (n old : ℕ) → n ≡ old → MatchBool (eqb n old) A B → A
won A B n old e h = subst (λ b. MatchBool b A B) (eq-eqb n old e) h

-- runs keep the task and the stints
runs_keep : (c : Context) (p : ℕ) (units : List ℕ) → ((context_after_runs c p units).task ≡ c.task)
    × ((context_after_runs c p units).stints ≡ c.stints)
runs_keep c p [] = (refl, refl)
runs_keep c p (u ∷ units) = runs_keep (context_after_run c p u) p units

-- the task of a context after stints, and how many they are
after_stints : (c : Context) (n : ℕ) (log : List Stint) → c.stints ≡ n % 2 ^ 64 → ((context_after_stints c log).task ≡ c.task)
    × ((context_after_stints c log).stints ≡ (n + length log) % 2 ^ 64)
after_stints c n [] e = (refl, e ∙ ap (λ (k : ℕ). k % 2 ^ 64) (sym (add-zero n)))
after_stints c n (x ∷ xs) e =
    let keep = runs_keep (context_after_take c x.processor) x.processor x.units in
    let more : (c.stints + 1) % 2 ^ 64 ≡ (n + 1) % 2 ^ 64 = ap (λ (k : ℕ). (k + 1) % 2 ^ 64) e ∙ mod-add-mod n (2 ^ 64) 1 in
    let later = after_stints (context_after_stint c x) (n + 1) xs (keep.1 ∙ more) in
    (later.0 ∙ keep.0, later.1 ∙ ap (λ (k : ℕ). k % 2 ^ 64) (let e : n + 1 + length xs ≡ n + suc (length xs) = omega arith in e))

in_stint : (base : Context) (t number p : ℕ) → IsHomeAfter base t number → number < 2 ^ 32
    → IsInStint (context_after_take base p) t number p
in_stint base t number p home small =
    let at = after_stints (fresh_context t) 0 home.log refl in
    let count : 0 + length home.log ≡ number = (let e = home.count in omega arith) in
    let before : base.stints ≡ number % 2 ^ 64 = ap (λ (c : Context). c.stints) home.context ∙ at.1 ∙ ap (λ (k : ℕ). k % 2 ^ 64) count in
    let whole : (number + 1) % 2 ^ 64 ≡ number + 1 = omega arith in
    record {
      task = ap (λ (c : Context). c.task) home.context ∙ at.0;
      stints = ap (λ (k : ℕ). (k + 1) % 2 ^ 64) before ∙ mod-add-mod number (2 ^ 64) 1 ∙ whole;
      last = refl;
    }

pub settled : (m0 : HandView) (t number n p : ℕ) (base : Context) (m1 m2 : SeatState) (r : Option Context) (ctx after : Context)
    → IsHomeAfter base t ((2 * number) / 2) → number < 2 ^ 32 → n ≡ 2 * number
    → m1 ≡ (holding (looked_at_turn m0 t n) (Some (begun t ((2 * number) / 2) base)), (t, Some base) ∷ [])
    → m1.1 ≡ (t, r) ∷ rest m1.1 → m2 ≡ (m1.0, (t, None) ∷ rest m1.1) → r ≡ Some ctx → after ≡ context_after_take ctx p → p ≡ m0.number
    → TookHeld m2 t number after × ((b : Context) × IsHomeAfter b t number
    × (m2.0 ≡ holding (looked_at_turn m0 t (2 * number)) (Some (begun t number b)))) × IsInStint after t number p
settled m0 t number n p base m1 m2 r ctx after home small hit took_it held put got did is =
    let half : (2 * number) / 2 ≡ number = omega arith in
    let w1 : m1.0 ≡ holding (looked_at_turn m0 t (2 * number)) (Some (begun t number base)) = ap (λ (m : SeatState). m.0) took_it
    ∙ (λ i. holding (looked_at_turn m0 t (hit i)) (Some (begun t (half i) base))) in
    let w2 : m2.0 ≡ holding (looked_at_turn m0 t (2 * number)) (Some (begun t number base)) = ap (λ (m : SeatState). m.0) put ∙ w1 in
    let c1 : m1.1 ≡ (t, Some base) ∷ [] = ap (λ (m : SeatState). m.1) took_it in
    let pair : (t, Some base) ∷ [] ≡ (t, r) ∷ rest m1.1 = sym c1 ∙ held in
    let none_left : rest m1.1 ≡ [] = ap rest c1 in
    let slots : m2.1 ≡ (t, None) ∷ [] = ap (λ (m : SeatState). m.1) put ∙ ap (λ l. (t, None) ∷ l) none_left in
    let head : (t, r) ≡ (t, Some base) = cc in
    let found : r ≡ Some base = ap (λ (y : ℕ × Option Context). y.1) head in
    let same : ctx ≡ base = cc in
    let at_home : IsHomeAfter base t number = subst (IsHomeAfter base t) half home in (
      (
        begun t number base,
        ap (λ (v : HandView). v.holds) w2,
        refl,
        refl,
        slots,
        did ∙ (λ i. context_after_take (same i) (is i))
            ∙ ap (λ (q : ℕ). context_after_take base q) (sym (ap (λ (v : HandView). v.number) w2)),
      ),
      (base, at_home, w2),
      subst (λ (c : Context). IsInStint c t number p) (sym (did ∙ ap (λ (c : Context). context_after_take c p) same))
          (in_stint base t number p at_home small),
    )

-- the log, with the stint e at the end of its task's
abbrev longer : (ℕ → List Stint) → Stint → ℕ → List Stint
longer log e x = cond (eqb e.task x) (log x ++ e ∷ []) (log x)

weighs : (b : Bool) (h : Stint → ℕ) (l : List Stint) (e : Stint) → total h (cond b (l ++ e ∷ []) l) ≡ total h l + cond b (h e) 0
weighs true h l e = omega (arith, total-append h l (e ∷ []))
weighs false h l e = omega arith

lasts : (b : Bool) (l : List Stint) (e : Stint) → length (cond b (l ++ e ∷ []) l) ≡ length l + cond b 1 0
lasts true l e = omega (arith, length-append l (e ∷ []))
lasts false l e = omega arith

numbered_snoc : (t n : ℕ) (l : List Stint) (e : Stint) → IsNumbered t n l → e.task ≡ t → e.number ≡ n + length l
    → IsNumbered t n (l ++ e ∷ [])
numbered_snoc t n [] e h is same = (is, omega arith, tt)
numbered_snoc t n (x ∷ xs) e h is same = (h.0, h.1, numbered_snoc t (n + 1) xs e h.2 is (omega arith))

after_snoc : (c : Context) (l : List Stint) (e : Stint) → context_after_stints c (l ++ e ∷ [])
    ≡ context_after_stint (context_after_stints c l) e
after_snoc c [] e = refl
after_snoc c (x ∷ xs) e = after_snoc (context_after_stint c x) xs e

longer_here : (log : ℕ → List Stint) (e : Stint) (x : ℕ) → e.task ≡ x → longer log e x ≡ log x ++ e ∷ []
longer_here log e x is = ap (λ (b : Bool). cond b (log x ++ e ∷ []) (log x)) (eq-eqb e.task x is)

longer_else : (log : ℕ → List Stint) (e : Stint) (x : ℕ) → e.task ≢ x → longer log e x ≡ log x
longer_else log e x ne = ap (λ (b : Bool). cond b (log x ++ e ∷ []) (log x)) (ne_eqb e.task x ne)

-- a run of another task is as it was
still_run : (log : ℕ → List Stint) (e : Stint) (slots : ℕ) (held : Option OpenStint) → is_under_way e.task held ≡ 0 → IsRun log slots held
    → IsRun (longer log e) slots held
still_run log e slots None not run = tt
still_run log e slots (Some st) not run =
    let ne : e.task ≢ st.task = λ same. absurd (omega (arith, ap one_if (eq-eqb st.task e.task (sym same)))) in
    subst (λ (l : List Stint). (st.task < slots) × (st.number ≡ length l) × (st.base ≡ context_after_stints (fresh_context st.task) l))
    (sym (longer_else log e st.task ne)) run

abbrev releasing : HandView → Option OpenStint → SeatState
releasing v None = (v, [])
releasing v (Some held) = (
  record {
    number = v.number;
    parts = v.parts;
    holds = None;
    ended = v.ended ++ closed v.number held
        ∷ [];
    looks = v.looks;
    made = v.made;
  },
  [],
)

released : (processors slots id number : ℕ) (v : HandView) (held : OpenStint) (ctx : Context) → v.holds ≡ Some held → held.number ≡ number
    → ctx ≡ context_after_runs (context_after_take held.base v.number) v.number held.units → 0 < v.parts → held.task < slots
    → Allows (HandOverRule processors) slots id (v, (held.task, Some ctx) ∷ []) held.task (λ _. 2 * number + 2)
    (λ _. releases_play (step slots held.task (2 * number + 2) 0 none) (v, (held.task, Some ctx) ∷ []) (2 * number + 2))
released processors slots id number v held ctx holds is_number is_ctx part near' s k wide at small =
    let t : ℕ = held.task in
    let n : ℕ = get_or s.words t 0 in
    let n' : ℕ = 2 * number + 2 in
    let near : t < length s.homes = omega arith in
    let near_word : t < length s.words = omega (arith, k.wide) in
    let e : Stint = closed v.number held in
    let log' : ℕ → List Stint = longer k.log e in
    let w : HandView = record {
      number = v.number;
      parts = v.parts;
      holds = None;
      ended = v.ended ++ e ∷ [];
      looks = v.looks;
      made = v.made;
    } in
    let run : IsRun k.log (length s.homes) (Some held) = subst (λ h. IsRun k.log (length s.homes) h) holds (k.out id v at) in
    let one : is_under_way t v.holds ≡ 1 = ap (is_under_way t) holds ∙ ap one_if (eq-eqb t t refl) in
    let odd : n % 2 ≡ 1 = omega (arith, k.holders t near, term_le (λ (u : HandView). is_under_way t u.holds) s.views id v at) in
    let count = k.counted t near in
    let many = run.1 in
    let ctx_is : ctx ≡ context_after_stints (fresh_context t) (log' t) = is_ctx
    ∙ ap (λ b. context_after_runs (context_after_take b v.number) v.number held.units) run.2
    ∙ sym (after_snoc (fresh_context t) (k.log t) e) ∙ ap (context_after_stints (fresh_context t)) (sym (longer_here k.log e t refl)) in (
      w,
      gives,
      tt,
      record {
        log = log';
        whole = omega (arith, total-set (λ (u : HandView). u.parts) s.views id v w at, k.whole);
        idle = λ j u d. ⊎_elim (λ d. λ p. absurd (omega (arith, ap (λ (u : HandView). u.parts) d.1))) (λ d. k.idle j u d.1)
            (at_set s.views id j w u d);
        balanced = λ x h. omega (
          arith,
          total-set (λ (u : HandView). total (of_task x h) u.ended) s.views id v w at,
          total-append (of_task x h) v.ended (e ∷ []),
          weighs (eqb e.task x) h (k.log x) e,
          k.balanced x h,
        );
        numbered = λ x. dite (ℕ_discrete e.task x)
            (λ is. subst (IsNumbered x 0) (sym (longer_here k.log e x is))
            (numbered_snoc x 0 (k.log x) e (k.numbered x) is (omega (arith, ap (λ y. length (k.log y)) is))))
            (λ ne. subst (IsNumbered x 0) (sym (longer_else k.log e x ne)) (k.numbered x));
        wide = omega (arith, length-set s.words t n', length-set s.homes t (some (Some ctx)), k.wide);
        counted = λ x h. let h' : x < length s.homes = omega (arith, length-set s.homes t (some (Some ctx))) in
            at_either s.words t x n' 0 (λ a y. a / 2 ≡ length (log' y)) near_word
            (omega (arith, lasts (eqb t t) (k.log t) e, ap one_if (eq-eqb t t refl)))
            (λ ne. omega (arith, k.counted x h', lasts (eqb t x) (k.log x) e, ap one_if (ne_eqb t x (λ y. ne (sym y)))));
        holders = λ x h. let h' : x < length s.homes = omega (arith, length-set s.homes t (some (Some ctx))) in
            let moved = total-set (λ (u : HandView). is_under_way x u.holds) s.views id v w at in
            let before : is_under_way x v.holds ≡ one_if (eqb t x) = ap (is_under_way x) holds in
            at_either s.words t x n' 0 (λ a y. y ≡ x → total (λ (u : HandView). is_under_way x u.holds) (set s.views id w) ≡ a % 2)
            near_word
            (λ (e : t ≡ x). omega (arith, k.holders x h', ap one_if (eq-eqb t x e), ap (λ y. get_or s.words y 0) e))
            (λ ne _. omega (arith, k.holders x h', ap one_if (ne_eqb t x (λ e. ne (sym e)))))
            refl;
        home = λ x h. let h' : x < length s.homes = omega (arith, length-set s.homes t (some (Some ctx))) in
            at_either s.words t x n' 0 (λ a y. a % 2 ≡ 0 → get_elem? (set s.homes t (some (Some ctx))) y
            ≡ some (some (Some (context_after_stints (fresh_context y) (log' y))))) near_word
            (λ e. set_here s.homes t (some (Some ctx)) near ∙ ap (λ c. some (some (Some c))) ctx_is)
            (λ ne z. set_else s.homes t x (some (Some ctx)) ne ∙ k.home x h' z
            ∙ ap (λ l. some (some (Some (context_after_stints (fresh_context x) l)))) (sym (longer_else k.log e x (λ y. ne (sym y)))));
        out = λ j u d. ⊎_elim
            (λ d. subst (λ (u : HandView). IsRun log' (length (set s.homes t (some (Some ctx)))) u.holds) d.1 tt)
            (λ d. subst (λ y. IsRun log' y u.holds) (sym (length-set s.homes t (some (Some ctx))))
            (still_run k.log e (length s.homes) u.holds
            (omega (arith, k.holders t near, terms_le (λ (u : HandView). is_under_way t u.holds) s.views id j v u d.0 at d.1))
            (k.out j u d.1)))
            (at_set s.views id j w u d);
      },
      λ other is. ap (λ (o : Option OpenStint). releasing v o) (sym holds ∙ is),
    )

pub releases_lem : (processors slots id t number : ℕ) (m : SeatState) (held : OpenStint) (ctx : Context) → m.0.holds ≡ Some held
    → held.task ≡ t → held.number ≡ number
    → m.1 ≡ (t, Some ctx) ∷ [] → ctx ≡ context_after_runs (context_after_take held.base m.0.number) m.0.number held.units → 0 < m.0.parts
    → t < slots
    → Allows (HandOverRule processors) slots id m t (λ _. 2 * number + 2)
    (λ _. releases_play (step slots t (2 * number + 2) 0 none) m (2 * number + 2))
releases_lem processors slots id t number m held ctx holds is_task is_number slot is_ctx part near =
    let P : ℕ → List (ℕ × Option Context) → Type 0 = λ x l. Allows (HandOverRule processors) slots id (m.0, l) x (λ _. 2 * number + 2)
    (λ _. releases_play (step slots x (2 * number + 2) 0 none) (m.0, l) (2 * number + 2)) in
    let slot' : m.1 ≡ (held.task, Some ctx) ∷ [] = slot ∙ ap (λ x. (x, Some ctx) ∷ []) (sym is_task) in
    subst (λ l. P t l) (sym slot') (subst (λ x. P x ((held.task, Some ctx) ∷ [])) is_task
    (released processors slots id number m.0 held ctx holds is_number is_ctx part (omega arith)))

-- a run: one load, at which the units join the stint
runs_same : (x : ℕ) (v : HandView) (held : OpenStint) (u : ℕ) → v.holds ≡ Some held → is_under_way x (Some (with_run held u))
    ≡ is_under_way x v.holds
runs_same x v held u e = sym (ap (is_under_way x) e)

some_one : {a b : OpenStint} → Some a ≡ Some b → a ≡ b
some_one e = cc

abbrev run_sat : SeatState → ℕ → OpenStint → SeatState
run_sat m u x = (holding m.0 (Some (with_run x u)), m.1)

noted_at : (processors id t u : ℕ) (m : SeatState) (h : Option OpenStint) → m.0.holds ≡ h → IsSome h → 0 < m.0.parts → (s : St)
    → HandOverRule processors s → get_elem? s.views id ≡ some m.0
    → (w : HandView) × (a : Act (Option Context)) × Valid s.homes m.1 a
    × HandOverRule processors (stepped s t (get_or s.words t 0) id m.1 w a)
    × ((held : OpenStint) → m.0.holds ≡ Some held
    → ◌≡◌ {A = SeatState} (w, carried_after m.1 a) (holding m.0 (Some (with_run held u)), m.1))
noted_at processors id t u m None is has part s k at = absurd (cc)
noted_at processors id t u m (Some held) is has part s k at =
    let w : HandView = holding m.0 (Some (with_run held u)) in
    let same : set s.words t (get_or s.words t 0) ≡ s.words = set-get_or s.words t 0 in (
      w,
      keeps,
      tt,
      subst (λ ws. HandOverRule processors (record { words = ws; homes = s.homes; views = set s.views id w })) (sym same) record {
        log = k.log;
        whole = omega (arith, total-set (λ (v : HandView). v.parts) s.views id m.0 w at, k.whole);
        idle = λ j u e. ⊎_elim (λ d. λ p. absurd (omega (arith, ap (λ (v : HandView). v.parts) d.1))) (λ d. k.idle j u d.1)
            (at_set s.views id j w u e);
        balanced = λ x h. omega (arith, total-set (λ (v : HandView). total (of_task x h) v.ended) s.views id m.0 w at, k.balanced x h);
        numbered = k.numbered;
        wide = k.wide;
        counted = k.counted;
        holders = λ x h. omega (
          arith,
          total-set (λ (v : HandView). is_under_way x v.holds) s.views id m.0 w at,
          k.holders x h,
          ap (is_under_way x) is,
        );
        home = k.home;
        out = λ j u e. ⊎_elim (λ d. subst (λ (v : HandView). IsRun k.log (length s.homes) v.holds) d.1
            (subst (IsRun k.log (length s.homes)) is (k.out id m.0 at))) (λ d. k.out j u d.1) (at_set s.views id j w u e);
      },
      λ other e. let same : held ≡ other = some_one (sym is ∙ e) in ap (λ (x : OpenStint). run_sat m u x) same,
    )

pub noted_lem : (processors slots id t u : ℕ) (m : SeatState) → IsSome m.0.holds → 0 < m.0.parts → t < slots
    → Allows (HandOverRule processors) slots id m t (λ n. n) (runs_play u (step slots t 0 0 none) m)
noted_lem processors slots id t u m has part near s k wide at small =
    noted_at processors id t u m m.0.holds refl has part s k at

-- the units of a run stand at the end of the stint's
ran_snoc : (p : ℕ) (c : Context) (us : List ℕ) (u : ℕ) → context_after_runs c p (us ++ u ∷ [])
    ≡ context_after_run (context_after_runs c p us) p u
ran_snoc p c [] u = refl
ran_snoc p c (x ∷ xs) u = ran_snoc p (context_after_run c p x) xs u

pub took_still : (m m' : SeatState) (task number u p : ℕ) (ctx after : Context) → TookHeld m task number ctx → p ≡ m.0.number
    → after ≡ context_after_run ctx p u
    → IfSome m.0.holds (λ st. ◌≡◌ {A = SeatState} m' (holding m.0 (Some (with_run st u)), m.1)) → TookHeld m' task number after
took_still m m' task number u p ctx after h is did told =
    let now : m' ≡ (holding m.0 (Some (with_run h.0 u)), m.1) = subst
    (λ o. IfSome o (λ st. ◌≡◌ {A = SeatState} m' (holding m.0 (Some (with_run st u)), m.1))) h.1 told in
    let q : ℕ = m.0.number in
    let same_number : m'.0.number ≡ q = ap (λ (x : SeatState). x.0.number) now in (
      with_run h.0 u,
      ap (λ (x : SeatState). x.0.holds) now,
      h.2,
      h.3,
      ap (λ (x : SeatState). x.1) now ∙ h.4,
      did ∙ (λ i. context_after_run (h.5 i) (is i) u) ∙ sym (ran_snoc q (context_after_take h.0.base q) h.0.units u)
          ∙ ap (λ n. context_after_runs (context_after_take h.0.base n) n (h.0.units ++ u ∷ [])) (sym same_number),
    )

number_at : (m m' : SeatState) (u : ℕ) (h : Option OpenStint) → m.0.holds ≡ h → IsSome h
    → ((held : OpenStint) → m.0.holds ≡ Some held → ◌≡◌ {A = SeatState} m' (holding m.0 (Some (with_run held u)), m.1))
    → m'.0.number ≡ m.0.number
number_at m m' u None is has told = absurd (cc)
number_at m m' u (Some held) is has told = ap (λ (x : SeatState). x.0.number) (told held is)

-- what a run leaves of the hand's number
pub number_kept : (m m' : SeatState) (u : ℕ) → IsSome m.0.holds
    → ((held : OpenStint) → m.0.holds ≡ Some held → ◌≡◌ {A = SeatState} m' (holding m.0 (Some (with_run held u)), m.1))
    → m'.0.number ≡ m.0.number
number_kept m m' u has told = number_at m m' u m.0.holds refl has told

abbrev with_views : St → List HandView → St
with_views s vs = record { words = s.words; homes = s.homes; views = vs }

pub splits_lem : (processors id : ℕ) (v : HandView) → 1 < v.parts → Splits (HandOverRule processors) id v (dealt v) (next_hand v)
splits_lem processors id v many s k at =
    let w : HandView = dealt v in
    let u : HandView = next_hand v in
    let vs : List HandView = set s.views id w in
    record {
      log = k.log;
      whole = omega (
        arith,
        total-append (λ (x : HandView). x.parts) vs (u ∷ []),
        total-set (λ (x : HandView). x.parts) s.views id v w at,
        k.whole,
      );
      idle = λ j x e. ⊎_elim
          (λ e. ⊎_elim (λ d. λ p. absurd (omega (arith, ap (λ (y : HandView). y.parts) d.1))) (λ d. k.idle j x d.1)
          (at_set s.views id j w x e))
          (λ (d : u ≡ x). λ p. absurd (omega (arith, ap (λ (y : HandView). y.parts) d)))
          (at_snoc vs u x j e);
      balanced = λ x h. omega (
        arith,
        total-append (λ (y : HandView). total (of_task x h) y.ended) vs (u ∷ []),
        total-set (λ (y : HandView). total (of_task x h) y.ended) s.views id v w at,
        k.balanced x h,
      );
      numbered = k.numbered;
      wide = k.wide;
      counted = k.counted;
      holders = λ x h. omega (
        arith,
        total-append (λ (y : HandView). is_under_way x y.holds) vs (u ∷ []),
        total-set (λ (y : HandView). is_under_way x y.holds) s.views id v w at,
        k.holders x h,
      );
      home = k.home;
      out = λ j x e. ⊎_elim
          (λ e. ⊎_elim (λ d. subst (λ (y : HandView). IsRun k.log (length s.homes) y.holds) d.1 (k.out id v at)) (λ d. k.out j x d.1)
          (at_set s.views id j w x e))
          (λ (d : u ≡ x). subst (λ (y : HandView). IsRun k.log (length s.homes) y.holds) d tt)
          (at_snoc vs u x j e);
    }

pub joins_lem : (processors id other : ℕ) (v w : HandView) → 0 < v.parts → w.holds ≡ None
    → Joins (HandOverRule processors) id v other w (joined v w) spent_hand
joins_lem processors id other v w some_part free s k at apart there =
    let b : HandView = joined v w in
    let vs : List HandView = set s.views id b in
    record {
      log = k.log;
      whole = omega (
        arith,
        total-set (λ (x : HandView). x.parts) vs other w spent_hand there,
        total-set (λ (x : HandView). x.parts)
            s.views id v b at,
        k.whole,
      );
      idle = λ j x e. ⊎_elim
          (λ d. subst IdleIsEmpty d.1 (λ _. (refl, refl)))
          (λ e. ⊎_elim (λ d. λ p. absurd (omega (arith, ap (λ (y : HandView). y.parts) d.1))) (λ d. k.idle j x d.1)
          (at_set s.views id j b x e.1))
          (at_set vs other j spent_hand x e);
      balanced = λ x h. omega (
        arith,
        total-set (λ (y : HandView). total (of_task x h) y.ended) vs other w spent_hand there,
        total-set (λ (y : HandView). total (of_task x h) y.ended) s.views id v b at,
        total-append (of_task x h) v.ended w.ended,
        k.balanced x h,
      );
      numbered = k.numbered;
      wide = k.wide;
      counted = k.counted;
      holders = λ x h. omega (
        arith,
        total-set (λ (y : HandView). is_under_way x y.holds) vs other w spent_hand there,
        total-set (λ (y : HandView). is_under_way x y.holds) s.views id v b at,
        runs_none x w free,
        k.holders x h,
      );
      home = k.home;
      out = λ j x e. ⊎_elim
          (λ d. subst (λ (y : HandView). IsRun k.log (length s.homes) y.holds) d.1 tt)
          (λ e. ⊎_elim (λ d. subst (λ (y : HandView). IsRun k.log (length s.homes) y.holds) d.1 (k.out id v at)) (λ d. k.out j x d.1)
          (at_set s.views id j b x e.1))
          (at_set vs other j spent_hand x e);
    }

-- where every other part is 0, f of the whole is f of the one
rests : (f : HandView → ℕ) (l : List HandView) → total (λ (v : HandView). v.parts) l ≡ 0
    → ((j : ℕ) (v : HandView) → get_elem? l j ≡ some v → v.parts ≡ 0 → f v ≡ 0) → total f l ≡ 0
rests f [] none_left zero_at = refl
rests f (x ∷ xs) none_left zero_at =
    omega (arith, zero_at zero x refl (omega arith), rests f xs (omega arith) (λ j v e p. zero_at (suc j) v e p))

only_one : (f : HandView → ℕ) (l : List HandView) (i : ℕ) (v : HandView) → get_elem? l i ≡ some v → total (λ (u : HandView). u.parts) l
    ≡ v.parts → ((j : ℕ) (u : HandView) → get_elem? l j ≡ some u → u.parts ≡ 0 → f u ≡ 0) → total f l ≡ f v
only_one f [] i v at whole zero_at = absurd (some-ne-none v (sym at))
only_one f (x ∷ xs) zero v at whole zero_at = let same : x ≡ v = some-injective x v at in
    omega (
      arith,
      ap f same,
      ap (λ (u : HandView). u.parts) same,
      rests f xs (omega (arith, ap (λ (u : HandView). u.parts) same))
          (λ j u e p. zero_at (suc j) u e p),
    )
only_one f (x ∷ xs) (suc i) v at whole zero_at =
    let part = term_le (λ (u : HandView). u.parts) xs i v at in
    omega (arith, zero_at zero x refl (omega arith), only_one f xs i v at (omega arith) (λ j u e p. zero_at (suc j) u e p))

-- once one hand has every part and holds nothing, each context is at home, after all that the hand ended
pub all_home : (processors id : ℕ) (v : HandView) (s : St) → Seen (HandOverRule processors) id v s → v.parts ≡ processors → v.holds ≡ None
    → (t : ℕ) → t < length s.homes → (c : Context) × Came v.ended t c × (get_elem? s.homes t ≡ some (some (Some c)))
all_home processors id v s seen whole free t near =
    let k = seen.0 in
    let at = seen.1 in
    let parts : total (λ (u : HandView). u.parts) s.views ≡ v.parts = k.whole ∙ sym whole in
    let nobody : total (λ (u : HandView). is_under_way t u.holds) s.views ≡ 0 = only_one (λ (u : HandView). is_under_way t u.holds)
    s.views id v at parts (λ j u e p. ap (is_under_way t) (k.idle j u e p).1) ∙ ap (is_under_way t) free in
    let even = k.holders t near in (
      context_after_stints (fresh_context t) (k.log t),
      (
        k.log t,
        k.numbered t,
        (λ h. sym (only_one (λ (u : HandView). total (of_task t h) u.ended) s.views id v at parts
            (λ j u e p. ap (total (of_task t h)) (k.idle j u e p).0)) ∙ k.balanced t h),
        refl,
      ),
      k.home t near (omega arith),
    )
