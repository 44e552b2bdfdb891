-- Each step of a count keeps its rule.
use Rattle.std.proofs.Common.{◌≡◌, ℕ, ◌<◌, ◌≤◌, cond, Bool, true, false, List, [], ◌∷◌, ◌++◌, length, get_or, set, sym, refl, ap, ◌∙◌}
use Rattle.std.proofs.Common.{subst, ⊎_elim, arith, length-set, get_or-set_same}
use mathlib.Core.Option.{some, none}
use lib.ListN.{get_elem?}
use lib.Seq.{set-get_or}
use Rattle.atomic_table.specs.Table.{State, step, keeps, Allows, Splits, Joins}
use Rattle.atomic_table.proofs.Lists.{at_set, at_snoc, set_else, set_again}
use Rattle.order_queues.specs.declared.count.CountView.{CountView}
use Rattle.order_queues.specs.Count.{writers, writer_view, reader_view, informed_view, spent_view, Knows, CountRule, Seated, Stored, Looked}
use Rattle.task_set.proofs.Sums.{total-set, total-append, terms_le}

abbrev St : Type 0
St = State (Unit {0}) CountView

abbrev pub writer_if : Bool → ℕ
writer_if b = cond b 1 0

no_writer : (n : ℕ) (v : CountView) → writers v ≡ 0 → v.known ≤ n → v.number ≤ n → Knows n v
no_writer n v not_one known number = ((λ is. let one : writers v ≡ 1 = ap writer_if is in absurd (omega arith)), known, number)

pub store_keeps : (slots id : ℕ) (m : Seated) (n word : ℕ) → m.0 ≡ writer_view n → n ≤ word
    → Allows CountRule slots id m 0 (λ _. word) (λ _. Stored (step slots 0 word 0 none) m word)
store_keeps slots id m n word is next s k wide at small =
    let w : CountView = writer_view word in
    let near : 0 < length s.words = omega (arith, k.one_word) in
    let new_word : get_or (set s.words 0 word) 0 0 ≡ word = get_or-set_same s.words 0 word 0 near in
    let mine = k.knows id m.0 at in
    let counts : m.0.writes ≡ true = ap (λ (v : CountView). v.writes) is in
    let number : m.0.number ≡ n = ap (λ (v : CountView). v.number) is in
    let old_word : m.0.number ≡ get_or s.words 0 0 = mine.0 counts in
    let one : writers m.0 ≡ 1 = ap writer_if counts in (
      w,
      keeps,
      tt,
      record {
        one_word = length-set s.words 0 word ∙ k.one_word;
        one_writer = omega (arith, total-set writers s.views id m.0 w at, k.one_writer);
        knows = λ j u e. ⊎_elim
            (λ d. subst (Knows (get_or (set s.words 0 word) 0 0)) d.1 ((λ _. sym new_word), omega arith, omega arith))
            (λ d. let o = k.knows j u d.1 in no_writer (get_or (set s.words 0 word) 0 0) u
            (omega (arith, k.one_writer, terms_le writers s.views id j m.0 u d.0 at d.1)) (omega (arith, o.1)) (omega (arith, o.2)))
            (at_set s.views id j w u e);
      },
      refl,
    )

pub look_keeps : (slots id : ℕ) (m : Seated) → m.0.writes ≡ false
    → Allows CountRule slots id m 0 (λ n. n) (Looked (step slots 0 0 0 none) m)
look_keeps slots id m not s k wide at small =
    let n : ℕ = get_or s.words 0 0 in
    let w : CountView = reader_view n (m.0.looks ++ n ∷ []) in
    let mine = k.knows id m.0 at in
    let zero_is : writers m.0 ≡ 0 = ap writer_if not in (
      w,
      keeps,
      tt,
      subst (λ ws. CountRule (record { words = ws; homes = s.homes; views = set s.views id w })) (sym (set-get_or s.words 0 0)) record {
        one_word = k.one_word;
        one_writer = omega (arith, total-set writers s.views id m.0 w at, k.one_writer);
        knows = λ j u e. ⊎_elim (λ d. subst (Knows n) d.1 (no_writer n w refl (omega arith) (omega arith))) (λ d. k.knows j u d.1)
            (at_set s.views id j w u e);
      },
      (refl, mine.1),
    )

pub split_keeps : (id : ℕ) (v r : CountView) → writers r ≡ 0 → r.known ≡ 0 → r.number ≤ v.number → Splits CountRule id v v r
split_keeps id v r not_one known number s k at =
    let mine = k.knows id v at in
    subst (λ (l : List CountView). CountRule (record { words = s.words; homes = s.homes; views = l ++ r ∷ [] }))
    (sym (set_again s.views id v at)) record {
      one_word = k.one_word;
      one_writer = omega (arith, total-append writers s.views (r ∷ []), k.one_writer);
      knows = λ j u e. ⊎_elim (λ d. k.knows j u d)
          (λ (d : r ≡ u). subst (Knows (get_or s.words 0 0)) d
          (no_writer (get_or s.words 0 0) r not_one (omega arith) (omega (arith, mine.2)))) (at_snoc s.views r u j e);
    }

pub join_keeps : (id other : ℕ) (v w : CountView) → writers v ≡ 0 → writers w ≡ 0
    → Joins CountRule id v other w (informed_view v w) spent_view
join_keeps id other v w none_v none_w s k at apart there =
    let b : CountView = informed_view v w in
    let n : ℕ = get_or s.words 0 0 in
    let vs : List CountView = set s.views id b in
    let there' : get_elem? s.views other ≡ some w = sym (set_else s.views id other b apart) ∙ there in
    let f = k.knows id v at in
    let g = k.knows other w there' in
    record {
      one_word = k.one_word;
      one_writer = omega (arith, total-set writers vs other w spent_view there, total-set writers s.views id v b at, k.one_writer);
      knows = λ j x e. ⊎_elim (λ d. subst (Knows n) d.1 (no_writer n spent_view refl (omega arith) (omega arith)))
          (λ d. ⊎_elim (λ d. subst (Knows n) d.1 (no_writer n b refl (omega (arith, f.1, g.2)) (omega arith))) (λ d. k.knows j x d.1)
          (at_set s.views id j b x d.1)) (at_set vs other j spent_view x e);
    }
