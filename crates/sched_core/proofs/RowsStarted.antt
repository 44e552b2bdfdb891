-- The rows of orders and the numbers of takes before any event.
use Rattle.std.proofs.Common.{◌≡◌, ℕ, zero, suc, ◌<◌, List, [], length, get_or, replicate, refl, sym, ap, ◌∙◌}
use Rattle.std.proofs.lemmas.List.{length-replicate}
use Rattle.task_set.specs.TaskSet.{SetData}
use Rattle.strong_apa.specs.State.{State, start_of, task_on}
use Rattle.strong_apa.specs.declared.reply.Entry.{Entry}
use Rattle.strong_apa.specs.Dispatch.{orders_of, processors_of}
use Rattle.strong_apa.proofs.Start.{none_on}
use Rattle.sched_core.specs.CoreRows.{RowData, row_at, empty_row, RowsOnlyGrew}

row_made : (n p : ℕ) → row_at (replicate n empty_row) p ≡ empty_row
row_made zero p = refl
row_made (suc n) zero = refl
row_made (suc n) (suc p) = row_made n p

pub no_take : (n t : ℕ) → ◌≡◌ {A = ℕ} (get_or (replicate n 0) t 0) 0
no_take zero t = refl
no_take (suc n) zero = refl
no_take (suc n) (suc t) = no_take n t

module _ (n : ℕ) (made rows : List RowData) (is_made : made ≡ replicate n empty_row) (grew : RowsOnlyGrew made rows) where
  made_count : length made ≡ n
  made_count = ap length is_made ∙ length-replicate n empty_row

  pub rows_counted : length rows ≡ n
  rows_counted = grew.count ∙ made_count

  at_made : (p : ℕ) → row_at made p ≡ empty_row
  at_made p = ap (λ (xs : List RowData). row_at xs p) is_made ∙ row_made n p

  pub rows_say_nothing : (s : State) (history : List Entry) → history ≡ [] → (p : ℕ) → p < n
      → (row_at rows p).orders ≡ orders_of s history p
  rows_say_nothing s history none p lt = (grew.each p (rw made_count lt)).orders ∙ ap (λ (row : RowData). row.orders) (at_made p)
      ∙ sym (ap (λ (h : List Entry). orders_of s h p) none)

  pub nobody_is_held : (set : SetData) (links : State) → links ≡ start_of set → (p : ℕ) → p < n → (row_at rows p).held ≡ task_on links p
  nobody_is_held set links is_start p lt = (grew.each p (rw made_count lt)).held ∙ ap (λ (row : RowData). row.held) (at_made p)
      ∙ sym (ap (λ (s : State). task_on s p) is_start ∙ none_on set.processors p)

pub never_taken : (s : State) (history : List Entry) (takes : List ℕ) (n t : ℕ) → history ≡ [] → takes ≡ replicate n 0
    → get_or takes t 0 ≡ length (processors_of s history t)
never_taken s history takes n t none are =
    ap (λ (xs : List ℕ). get_or xs t 0) are ∙ no_take n t ∙ sym (ap (λ (h : List Entry). length (processors_of s h t)) none)
