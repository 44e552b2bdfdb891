-- Who is lost and what helps, as contracts of the scheduler say it.
use Rattle.std.proofs.Common.{◌≡◌, ℕ, zero, suc, ◌<◌, Bool, true, false, List, [], ◌∷◌, length, get_or, Option, Some, None, refl, sym, ap}
use Rattle.std.proofs.Common.{◌∙◌, subst, inl, inr, arith}
use Rattle.std.specs.Prelude.{MatchOption, IfNone, ◌↔◌, if◌then◌else◌}
use Rattle.std.proofs.lemmas.Bool.{cases_Bool, false≢true}
use Rattle.std.proofs.lemmas.Option.{same_Some}
use Rattle.strong_apa.specs.declared.reply.Reply.{Reply}
use Rattle.strong_apa.specs.State.{State, HasSameTasks, task_on}
use Rattle.live_core.specs.Live.{LiveData}
use Rattle.live_core.specs.Lost.{FindsLost, HelpsLost, HelpsTask, AreHoldersAfter, settled_data, state_held}
use Rattle.live_core.specs.Seen.{SeenData, IsTable, RunsOn, IsLost, IsNobodyLost, IsMostUrgentLost, AreAllApart, RunsJustLinked, EndsWithin}
use Rattle.live_core.specs.Seen.{Helps}
use Rattle.live_core.specs.declared.moves.Move.{Move}

-- who is in use has a number
pub in_use_number : (in_use : List Bool) (t : ℕ) → get_or in_use t false ≡ true → t < length in_use
in_use_number [] t e = absurd (false≢true e)
in_use_number (b ∷ rest) zero e = omega arith
in_use_number (b ∷ rest) (suc t) e = let lt = in_use_number rest t e in omega arith

abbrev pub holders_of : SeenData → Option (List (Option ℕ))
holders_of d = if d.is_settled then Some d.table.on else None

-- a settled table is known by its holders
pub settled_is : (s : State) (d : SeenData) → IsTable s d.seen d.table → d.is_settled ≡ true → d ≡ settled_data s d.seen d.table.on
settled_is s d table settled =
    let one : ◌≡◌ {A = SeenData} d (record { seen = d.seen; table = state_held s d.table.on; is_settled = d.is_settled }) = ap
    (λ (x : State). record { seen = d.seen; table = x; is_settled = d.is_settled }) table.same in
    one ∙ ap (λ (b : Bool). record { seen = d.seen; table = state_held s d.table.on; is_settled = b }) settled

pub held_is : (d : SeenData) (on : List (Option ℕ)) → holders_of d ≡ Some on → (d.is_settled ≡ true) × (d.table.on ≡ on)
held_is d on e = elim (cases_Bool d.is_settled) [
  | inl settled ↦ (settled, same_Some d.table.on on (sym (ap (λ (b : Bool). if b then Some d.table.on else None) settled) ∙ e))
  | inr not ↦ absurd (none (sym (ap (λ (b : Bool). if b then Some d.table.on else None) not) ∙ e))
]
  where
    none : ◌≡◌ {A = Option (List (Option ℕ))} None (Some on) → ⊥
    none e = cc

holders_after : (s : State) (d now : SeenData) → IsTable s now.seen now.table → now.seen ≡ d.seen → (d.is_settled ≡ true → now ≡ d)
    → (d.is_settled ≡ false → (q t : ℕ) → (task_on now.table q ≡ Some t) ↔ RunsOn s now.seen t q)
    → AreHoldersAfter (holders_of d) s d.seen now.table.on
holders_after s d now table seen same runs = elim (cases_Bool d.is_settled) [
  | inl settled ↦ rw settled (ap (λ (x : SeenData). x.table.on) (same settled))
  | inr not ↦ rw not (subst (λ (l : List (Option ℕ)). (q t : ℕ) → (task_on now.table q ≡ Some t) ↔ RunsOn s l t q) seen (runs not))
]

module _ (s : State) (last : Reply) (moves : List Move) (in_use : List Bool) (d now : SeenData) (table : IsTable s now.seen now.table)
    (seen : now.seen ≡ d.seen) (settled : now.is_settled ≡ true) where
  pub finds : (d.is_settled ≡ true → now ≡ d) → (d.is_settled ≡ false → (q t : ℕ) → (task_on now.table q ≡ Some t) ↔ RunsOn s now.seen t q)
      → (found : Option ℕ) → MatchOption found (IsNobodyLost s now.table) (IsMostUrgentLost s now.table)
      → MatchOption found (AreAllApart s now.seen) (λ t. AreAllApart s now.seen → ⊥)
      → EndsWithin s.processors s now → IfNone found (RunsJustLinked s now.seen)
      → FindsLost (record { links = s; last = last; moves = moves; in_use = in_use; seen = d.seen; holders = holders_of d }) found
      (record { links = s; last = last; moves = moves; in_use = in_use; seen = now.seen; holders = holders_of now })
  finds same runs found first apart soon just = record {
    on = now.table.on;
    holders = record {
      table = subst (λ (l : List (Option ℕ)). IsTable s l (state_held s now.table.on)) seen
          (subst (λ (x : State). IsTable s now.seen x) table.same table);
      which = holders_after s d now table seen same runs;
    };
    rest = rw (seen, settled) refl;
    first = subst (λ (x : State). MatchOption found (IsNobodyLost s x) (IsMostUrgentLost s x)) table.same first;
    apart = subst (λ (l : List (Option ℕ)). MatchOption found (AreAllApart s l) (λ t. AreAllApart s l → ⊥)) seen apart;
    just_linked = subst (λ (l : List (Option ℕ)). IfNone found (RunsJustLinked s l)) seen just;
    soon = subst (λ (l : List (Option ℕ)). EndsWithin s.processors s (settled_data s l now.table.on)) seen
        (subst (λ (x : SeenData). EndsWithin s.processors s x) (settled_is s now table settled) soon);
  }

pub table_has_same : (s : State) (d : SeenData) → IsTable s d.seen d.table → HasSameTasks d.table s
table_has_same s d table = record {
  processors = sym (ap (λ (x : State). x.processors) table.same);
  priorities = sym (ap (λ (x : State). x.priorities) table.same);
}

-- ---- help
pub lost_there : (s : State) (d : SeenData) (t : ℕ) → IsTable s d.seen d.table → (on : List (Option ℕ)) → holders_of d ≡ Some on
    → IsLost s (state_held s on) t → IsLost s d.table t
lost_there s d t table on held lost =
    let same : d.table ≡ state_held s on = table.same ∙ ap (λ (l : List (Option ℕ)). state_held s l) (held_is d on held).1 in
    subst (λ (x : State). IsLost s x t) (sym same) lost

module _ (s : State) (last : Reply) (moves : List Move) (in_use : List Bool) (d now : SeenData) (t : ℕ) (table : IsTable s d.seen d.table)
    (chain : List ℕ) (after : List Move)
    (helps : Helps s t d chain after now) (settled : now.is_settled ≡ d.is_settled) where
  pub helps_task : (on : List (Option ℕ)) → holders_of d ≡ Some on
      → HelpsTask (record { links = s; last = last; moves = moves; in_use = in_use; seen = d.seen; holders = holders_of d }) on t
      (record { links = s; last = last; moves = after; in_use = in_use; seen = now.seen; holders = holders_of now })
  helps_task on held =
      let is = held_is d on held in
      let there : now.is_settled ≡ true = settled ∙ is.0 in
      let old : d ≡ settled_data s d.seen on = settled_is s d table is.0 ∙ ap (λ (l : List (Option ℕ)). settled_data s d.seen l) is.1 in
      record {
        chain = chain;
        on_then = now.table.on;
        helps = subst (λ (x : SeenData). Helps s t x chain after (settled_data s now.seen now.table.on)) old
            (subst (λ (x : SeenData). Helps s t d chain after x) (settled_is s now helps.table there) helps);
        rest = rw there refl;
      }

finds_again : (old mid : LiveData) (found : Option ℕ) (f : FindsLost old found mid)
    → FindsLost old found (record old { holders = Some f.on })
finds_again old mid found f = record {
  on = f.on;
  holders = f.holders;
  rest = refl;
  first = f.first;
  apart = f.apart;
  just_linked = f.just_linked;
  soon = f.soon;
}

pub helped : (old mid new : LiveData) (t : ℕ) → FindsLost old (Some t) mid
    → ((on : List (Option ℕ)) → mid.holders ≡ Some on → HelpsTask mid on t new) → HelpsLost old (Some t) new
helped old mid new t f task =
    let h = subst (λ (x : LiveData). HelpsTask x f.on t new) f.rest (task f.on (ap (λ (x : LiveData). x.holders) f.rest)) in
    record {
      on = f.on;
      finds = finds_again old mid (Some t) f;
      helps = record { chain = h.chain; on_then = h.on_then; helps = h.helps; rest = h.rest };
    }

pub nobody_helped : (old mid new : LiveData) → FindsLost old None mid → new ≡ record mid { moves = [] } → HelpsLost old None new
nobody_helped old mid new f same = record {
  on = f.on;
  finds = finds_again old mid None f;
  helps = same ∙ ap (λ (x : LiveData). record x { moves = [] }) f.rest;
}

-- the holders are known once it is found who is lost
pub holders_known : (old mid : LiveData) (found : Option ℕ) (f : FindsLost old found mid) → mid.holders ≡ Some f.on
holders_known old mid found f = ap (λ (x : LiveData). x.holders) f.rest

-- what is found is lost, by holders that are known then
pub found_is_lost : (old mid : LiveData) (t : ℕ) → FindsLost old (Some t) mid → (on : List (Option ℕ)) × (mid.holders ≡ Some on)
    × IsLost mid.links (state_held mid.links on) t
found_is_lost old mid t f = rw f.rest (f.on, refl, f.first.lost)
