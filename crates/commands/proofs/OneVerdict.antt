-- A schedule is valid, or wrong in one line with one defect, and never both.
use Rattle.strong_apa.specs.Dispatch.{contexts_of}
use Rattle.std.proofs.Common.{◌≡◌, ℕ, zero, suc, ◌+◌, ◌<◌, List, [], ◌∷◌, length, take, Some, refl, sym, ap, ◌∙◌, subst, inl, inr, arith}
use Rattle.std.specs.Prelude.{slice_get}
use Rattle.std.proofs.lemmas.Bool.{cases_lt}
use Rattle.std.proofs.lemmas.Option.{same_Some}
use Rattle.task_set.specs.declared.context.Context.{Context}
use Rattle.strong_apa.specs.declared.reply.Entry.{Entry}
use Rattle.strong_apa.specs.State.{State, IsState, start_of}
use Rattle.strong_apa.specs.History.{effect_of, state_after, state_at, IsBestThroughout}
use Rattle.strong_apa.proofs.Start.{IsState-start}
use Rattle.reach_certificate.specs.Defect.{IsDefect, number_of}
use Rattle.strong_apa.specs.Passing.{Passes, IsPassing, IsPassingFrom}
use Rattle.reach_certificate.specs.declared.defect.Defect.{Defect}
use Rattle.reach_certificate.proofs.Defects.{passing_has_no_defect, defect_is_unique}
use Rattle.strong_apa.specs.Improving.{HasNoImprovingChainThroughout}
use Rattle.strong_apa.proofs.Improved.{passing_has_no_improving_chain}
use Rattle.strong_apa.proofs.Kept.{IsState-passed, IsPassingFrom-take, passing_is_best}
use Rattle.schedule_text.specs.Schedule.{ScheduleData, IsSchedule}
use Rattle.commands.specs.Valid.{IsValid, HasDefectAt, HasWrongContextAt, IsInvalid}

-- the entry at a place of a prefix that passes
passing_at : (s : State) (history : List Entry) (n m : ℕ) (entry : Entry) → n < m → IsPassingFrom s (take m history)
    → slice_get history n ≡ Some entry → Passes (state_after s (take n history)) entry.event entry.reply
passing_at s [] n m entry lt passing there = absurd (cc)
passing_at s (first ∷ rest) n zero entry lt passing there = absurd (omega arith)
passing_at s (first ∷ rest) zero (suc m) entry lt passing there =
    subst (λ (e : Entry). Passes s e.event e.reply) (same_Some first entry there) passing.0
passing_at s (first ∷ rest) (suc n) (suc m) entry lt passing there =
    passing_at (effect_of s first) rest n m entry (omega arith) passing.1 there

-- the element at a place before the cut
before_cut : (xs : List Context) (n m : ℕ) → n < m → slice_get (take m xs) n ≡ slice_get xs n
before_cut [] n zero lt = refl
before_cut [] n (suc m) lt = refl
before_cut (x ∷ xs) n zero lt = absurd (omega arith)
before_cut (x ∷ xs) zero (suc m) lt = refl
before_cut (x ∷ xs) (suc n) (suc m) lt = before_cut xs n m (omega arith)

module _ (schedule : ScheduleData) (ok : IsSchedule schedule) where
  state_ok : (n : ℕ) → IsPassing schedule.set (take n schedule.entries) → IsState (state_at schedule.set schedule.entries n)
  state_ok n passing = IsState-passed (start_of schedule.set) (take n schedule.entries) (IsState-start schedule.set ok.tasks.valid) passing

  -- no entry with a defect stands in a prefix that passes
  no_defect_within : (n m : ℕ) (which : Defect) → n < m → IsPassing schedule.set (take m schedule.entries) → HasDefectAt schedule n which
      → ⊥
  no_defect_within n m which lt passing bad =
      passing_has_no_defect (state_at schedule.set schedule.entries n) bad.entry.event bad.entry.reply which (state_ok n bad.before)
      (passing_at (start_of schedule.set) schedule.entries n m bad.entry lt passing bad.there) bad.defect

  no_defect_at_all : (n : ℕ) (which : Defect) → IsPassing schedule.set schedule.entries → HasDefectAt schedule n which → ⊥
  no_defect_at_all n which passing bad =
      no_defect_within n (n + 1) which (omega arith) (IsPassingFrom-take (start_of schedule.set) schedule.entries (n + 1) passing) bad

  defect_once : (n m : ℕ) (one other : Defect) → HasDefectAt schedule n one → HasDefectAt schedule m other → (n ≡ m) × (one ≡ other)
  defect_once n m one other first second = elim (cases_lt n m) [
    | inl lt ↦ absurd (no_defect_within n m one lt second.before first)
    | inr le ↦ elim (cases_lt m n) [
      | inl lt ↦ absurd (no_defect_within m n other lt first.before second)
      | inr ge ↦
          let same : n ≡ m = omega arith in
          let entries : first.entry ≡ second.entry = same_Some first.entry second.entry
          (sym first.there ∙ ap (slice_get schedule.entries) same ∙ second.there) in
          let moved : IsDefect (state_at schedule.set schedule.entries n) first.entry other = subst
          (λ (e : Entry). IsDefect (state_at schedule.set schedule.entries n) e other) (sym entries)
          (subst (λ (k : ℕ). IsDefect (state_at schedule.set schedule.entries k) second.entry other) (sym same) second.defect) in (
            same,
            defect_is_unique (state_at schedule.set schedule.entries n) first.entry.event first.entry.reply one other
                (state_ok n first.before) first.defect moved,
          )
    ]
  ]

  -- no context that differs stands before another one
  no_difference_before : (t u : ℕ) → t < u → HasWrongContextAt schedule t → HasWrongContextAt schedule u → ⊥
  no_difference_before t u lt first second =
      first.differs (sym (before_cut schedule.contexts t u lt) ∙ ap (λ (xs : List Context). slice_get xs t) second.before
      ∙ before_cut (contexts_of schedule.set schedule.entries) t u lt)

  pub invalid_once : (number other defect another : ℕ) → IsInvalid schedule number defect → IsInvalid schedule other another
      → (number ≡ other) × (defect ≡ another)
  invalid_once number other defect another (inl one) (inl two) =
      let same = defect_once one.n two.n one.which two.which one.first two.first in (
        one.place ∙ ap (λ (k : ℕ). length schedule.set.tasks + 4 + k) same.0 ∙ sym two.place,
        one.numbered ∙ ap number_of same.1
            ∙ sym two.numbered,
      )
  invalid_once number other defect another (inl one) (inr two) = absurd (no_defect_at_all one.n one.which two.first.passing one.first)
  invalid_once number other defect another (inr one) (inl two) = absurd (no_defect_at_all two.n two.which one.first.passing two.first)
  invalid_once number other defect another (inr one) (inr two) = elim (cases_lt one.t two.t) [
    | inl lt ↦ absurd (no_difference_before one.t two.t lt one.first two.first)
    | inr le ↦ elim (cases_lt two.t one.t) [
      | inl lt ↦ absurd (no_difference_before two.t one.t lt two.first one.first)
      | inr ge ↦
          let same : one.t ≡ two.t = omega arith in (
            one.place ∙ ap (λ (k : ℕ). length schedule.set.tasks + 5 + length schedule.entries + k) same ∙ sym two.place,
            one.numbered
                ∙ sym two.numbered,
          )
    ]
  ]

  pub valid_is_not_invalid : (number defect : ℕ) → IsValid schedule → IsInvalid schedule number defect → ⊥
  valid_is_not_invalid number defect valid (inl one) = no_defect_at_all one.n one.which valid.passing one.first
  valid_is_not_invalid number defect valid (inr one) = one.first.differs (ap (λ (xs : List Context). slice_get xs one.t) valid.contexts)

pub valid_is_best : (schedule : ScheduleData) → IsSchedule schedule → IsValid schedule → IsBestThroughout schedule.set schedule.entries
valid_is_best schedule ok valid = passing_is_best schedule.set ok.tasks.valid schedule.entries valid.passing

pub valid_has_no_improving_chain : (schedule : ScheduleData) → IsSchedule schedule → IsValid schedule
    → HasNoImprovingChainThroughout schedule.set schedule.entries
valid_has_no_improving_chain schedule ok valid = passing_has_no_improving_chain schedule.set ok.tasks.valid schedule.entries valid.passing
