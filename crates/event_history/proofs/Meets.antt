-- What two passes learn of one another.
use Rattle.std.proofs.Common.{◌≡◌, ℕ, ◌/◌, ◌≤◌, ◌||◌, ◌⊎◌, Bool, true, false, List, [], ◌∷◌, length, sym, refl, ap, ◌∙◌, subst, arith, inl}
use Rattle.std.proofs.Common.{inr, ⊎_elim}
use mathlib.Core.List.{IsPrefix}
use Rattle.atomic_table.specs.Table.{Joins}
use Rattle.atomic_table.specs.Seated.{TableId}
use Rattle.event_history.specs.declared.view.PassView.{PassView}
use Rattle.order_queues.specs.Ends.{EyeData}
use Rattle.event_history.specs.Boards.{PassData}
use Rattle.event_history.specs.Meeting.{Told, Met}
use Rattle.event_history.specs.PassStates.{pass_data_of}
use Rattle.event_history.specs.Turn.{Setting, TurnRule, TurnSeat, IsFree, AllBegin, note, informed, loaded, longer, spent_pass}
use Rattle.event_history.proofs.Joins.{informs_lem}
use Rattle.event_history.proofs.Prefixes.{prefix_length, prefix_whole, longer_either}

pub tells_lem : (of : Setting) (callers id other : ℕ) (v u : PassView) (told : TurnSeat) → told ≡ (note u, [])
    → Joins (TurnRule of callers) id v other told.0 (informed v told.0) spent_pass
tells_lem of callers id other v u told is = informs_lem of callers id other v told.0 (ap (λ (x : TurnSeat). x.0.held) is)

-- the pass after the note was joined, and after the load
pub told_lem : (id : TableId) (ef em : List EyeData) (from m m1 m2 : TurnSeat) (told : TurnSeat) (n : ℕ) → IsFree m
    → told ≡ (note from.0, []) → m1 ≡ (informed m.0 told.0, m.1) → m2 ≡ (loaded m1.0 n, m1.1) → AllBegin m1.0.olds m1.0.seen
    → m1.0.known ≤ n / 2
    → IsFree m2 × Told (pass_data_of id ef from.0) (pass_data_of id em m.0) (pass_data_of id em m2.0) × (m2.0.known ≡ n / 2)
told_lem id ef em from m m1 m2 told n free t j l begins low =
    let b : m1.0 ≡ informed m.0 (note from.0) = ap (λ (x : TurnSeat). x.0) j ∙ ap (λ (x : TurnSeat). informed m.0 x.0) t in
    let all : m2.0 ≡ loaded (informed m.0 (note from.0)) n = ap (λ (x : TurnSeat). x.0) l ∙ ap (λ (x : PassView). loaded x n) b in
    let slots : m2.1 ≡ [] = ap (λ (x : TurnSeat). x.1) l ∙ ap (λ (x : TurnSeat). x.1) j ∙ free.slots in
    let both : AllBegin (informed m.0 (note from.0)).olds (informed m.0 (note from.0)).seen = subst
    (λ (x : PassView). AllBegin x.olds x.seen) b begins in
    let high : (informed m.0 (note from.0)).known ≤ n / 2 = subst (λ (x : PassView). x.known ≤ n / 2) b low in
    let seen : m2.0.seen ≡ longer m.0.seen from.0.seen = ap (λ (x : PassView). x.seen) all in
    let known : m2.0.known ≡ n / 2 = ap (λ (x : PassView). x.known) all ∙ omega (arith, high) in
    let k = ap (λ (x : PassView). x.known) all in (
      record {
        pass = ap (λ (x : PassView). x.is_pass) all ∙ free.pass;
        held = ap (λ (x : PassView). x.held) all ∙ free.held;
        olds = ap (λ (x : PassView). x.olds) all;
        ended = ap (λ (x : PassView). x.ended) all ∙ free.ended;
        slots = slots;
      },
      record {
        board = refl;
        caller = ap (λ (x : PassView). x.caller) all;
        mine = ap (λ (x : PassView). x.mine) all;
        knew = omega (arith, k);
        learnt = omega (arith, k);
        close = ap (λ (x : PassView). x.saw_close) all;
        looks = (n, ap (λ (x : PassView). x.looks) all);
        seen = subst (IsPrefix m.0.seen) (sym seen) both.0;
        shown = subst (IsPrefix from.0.seen) (sym seen) both.1.0;
        either = longer_either m.0.seen from.0.seen (λ l. (m2.0.seen ≡ l) → (m2.0.seen ≡ m.0.seen) ⊎ (m2.0.seen ≡ from.0.seen)) (λ _. inl)
            (λ _. inr) seen;
      },
      known,
    )

or_again : (a b : Bool) → (a || (b || a)) ≡ (a || b)
or_again true b = refl
or_again false true = refl
or_again false false = refl

or_swap : (a b : Bool) → (b || a) ≡ (a || b)
or_swap true true = refl
or_swap true false = refl
or_swap false true = refl
or_swap false false = refl

or_first : (a b : Bool) → a ≡ true → (a || b) ≡ true
or_first true b is = refl
or_first false b is = absurd (cc is)

-- two passes that told one another
pub met_lem : (one other one1 other1 : PassData) → Told one other other1 → Told other1 one one1 → Met one other one1 other1
met_lem one other one1 other1 first second =
    let same : one1.seen ≡ other1.seen = ⊎_elim
    (λ (e : one1.seen ≡ one.seen). sym (prefix_whole other1.seen one1.seen second.shown
    (omega (arith, ap length e, prefix_length one.seen other1.seen first.shown))))
    (λ (e : one1.seen ≡ other1.seen). e) second.either in
    let other_close : other1.saw_close ≡ (one.saw_close || other.saw_close) = first.close ∙ or_swap one.saw_close other.saw_close in
    let one_close : one1.saw_close ≡ (one.saw_close || other.saw_close) = second.close ∙ ap (λ b. one.saw_close || b) first.close
    ∙ or_again one.saw_close other.saw_close in
    record {
      grown = (
        record {
          board = second.board;
          caller = second.caller;
          seen = second.seen;
          known = second.knew;
          close = λ saw. second.close
              ∙ or_first one.saw_close other1.saw_close saw;
          looks = (second.looks.0 ∷ [], second.looks.1);
        },
        record {
          board = first.board;
          caller = first.caller;
          seen = first.seen;
          known = first.knew;
          close = λ saw. first.close
              ∙ or_first other.saw_close one.saw_close saw;
          looks = (first.looks.0 ∷ [], first.looks.1);
        },
      );
      mine = (second.mine, first.mine);
      same = same;
      either = ⊎_elim (λ (e : other1.seen ≡ other.seen). inr (same ∙ e)) (λ (e : other1.seen ≡ one.seen). inl (same ∙ e)) first.either;
      known = (omega (arith, second.knew, second.learnt, first.knew, first.learnt), omega (arith, first.knew, first.learnt));
      close = (one_close, other_close);
    }
