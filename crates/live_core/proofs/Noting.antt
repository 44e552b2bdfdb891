-- The holders of a table are noted one after another.
use Rattle.std.proofs.Common.{◌≡◌, ◌≢◌, ℕ, ◌+◌, ◌<◌, ◌≤◌, false, List, length, set, Option, Some, None, refl, sym, ◌∙◌, inl, inr, arith}
use Rattle.std.proofs.Common.{length-set, get_or-set_same, get_or-set_other}
use Rattle.std.proofs.lemmas.Bool.{cases_eq}
use Rattle.std.proofs.lemmas.Option.{same_Some}
use Rattle.strong_apa.specs.State.{State, IsState, task_on, task_count, is_linked}
use Rattle.strong_apa.proofs.Linked.{linked_number, occupied_number, not_on}
use Rattle.live_core.specs.Seen.{seen_at}

-- the holders of the processors below p are noted
pub record IsNotedBelow (table : State) (p : ℕ) (old seen : List (Option ℕ)) : Type 0 where
  pub count : length seen ≡ task_count table
  pub moved : (q u : ℕ) → q < p → task_on table q ≡ Some u → seen_at seen u ≡ Some q
  pub others : (u : ℕ) → ((q : ℕ) → q < p → task_on table q ≢ Some u) → seen_at seen u ≡ seen_at old u

pub noted_first : (table : State) (old : List (Option ℕ)) → length old ≡ task_count table → IsNotedBelow table 0 old old
noted_first table old count = record {
  count = count;
  moved = λ q u lt on. absurd (omega arith);
  others = λ u nowhere. refl;
}

pub noted_none : (table : State) (p : ℕ) (old seen : List (Option ℕ)) → task_on table p ≡ None → IsNotedBelow table p old seen
    → IsNotedBelow table (p + 1) old seen
noted_none table p old seen none noted = record {
  count = noted.count;
  moved = λ q u lt on. elim (cases_eq q p) [
    | inl same ↦ absurd (let h : ◌≡◌ {A = Option ℕ} None (Some u) = sym none ∙ rw same at on in cc)
    | inr other ↦ noted.moved q u (omega arith) on
  ];
  others = λ u nowhere. noted.others u (λ q lt. nowhere q (omega arith));
}

pub noted_more : (table : State) → IsState table → (p u : ℕ) (old seen : List (Option ℕ)) → task_on table p ≡ Some u
    → IsNotedBelow table p old seen → IsNotedBelow table (p + 1) old (set seen u (Some p))
noted_more table ok p u old seen on noted = record {
  count = length-set seen u (Some p) ∙ noted.count;
  moved = λ q v lt there. elim (cases_eq q p) [
    | inl same ↦
        let it : v ≡ u = same_Some v u (sym there ∙ rw same on) in
        rw (it, same) (get_or-set_same seen u (Some p) None (rw noted.count (linked_number table p u ok on)))
    | inr other ↦ get_or-set_other seen u v (Some p) None (λ it. other (ok.once q p u (rw it at there) on))
        ∙ noted.moved q v (omega arith) there
  ];
  others = λ v nowhere.
      get_or-set_other seen u v (Some p) None (λ it. nowhere p (omega arith) (rw it on))
      ∙ noted.others v (λ q lt. nowhere q (omega arith));
}

pub noted_moved : (table : State) → IsState table → (old seen : List (Option ℕ)) (p : ℕ) → table.processors ≤ p
    → IsNotedBelow table p old seen → (q u : ℕ) → task_on table q ≡ Some u → seen_at seen u ≡ Some q
noted_moved table ok old seen p all noted q u on = let lt = occupied_number table q u ok on in noted.moved q u (omega arith) on

pub noted_others : (table : State) (old seen : List (Option ℕ)) (p : ℕ) → IsNotedBelow table p old seen → (u : ℕ)
    → is_linked table u ≡ false → seen_at seen u ≡ seen_at old u
noted_others table old seen p noted u nowhere = noted.others u (λ q lt. not_on table q u nowhere)
