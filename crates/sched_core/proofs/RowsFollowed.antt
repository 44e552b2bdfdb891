-- The rows of all processors after an event: those of the processors that it touches changed to their occupants, and the
-- others hold them already.
use Rattle.std.proofs.Common.{◌≡◌, ℕ, ◌+◌, ◌<◌, List, [], ◌++◌, length, get_or, filter, Option, refl, sym, ap, ◌∙◌, subst, inl, inr, arith}
use Rattle.std.proofs.Common.{append-nil}
use Rattle.std.specs.Prelude.{Contains}
use Rattle.std.specs.List.{range_with_len}
use Rattle.task_set.specs.declared.event.Event.{Event}
use Rattle.task_set.specs.declared.event.Event.TheVariants.{Tick, Offline}
use Rattle.strong_apa.specs.declared.reply.Reply.{Reply}
use Rattle.strong_apa.specs.Reply.{chain_of}
use Rattle.strong_apa.specs.State.{State, task_on}
use Rattle.strong_apa.specs.Dispatch.{change_orders, tick_orders}
use Rattle.strong_apa.specs.Touched.{touched}
use Rattle.history_laws.proofs.OrderLists.{change_orders-same}
use Rattle.sched_core.specs.CoreRows.{RowData, row_at, RowFollows, RowsFollow, RowsRun, RowsChange, HoldOutside, NumbersBecome, came}
use Rattle.sched_core.specs.CoreRows.{came_below}
use Rattle.sched_core.proofs.RowLoops.{filtered_count-none, filtered_count-same}
use Rattle.sched_core.proofs.RowsChanged.{came-same, nothing_in}

-- ---- a tick
-- where the chain is empty, each row holds its occupant
pub all_hold : (chain : List ℕ) (rows : List RowData) (links : State) → chain ≡ [] → HoldOutside chain rows links → (p : ℕ)
    → p < length rows → (row_at rows p).held ≡ task_on links p
all_hold chain rows links none outside p fits = outside p fits (λ there. nothing_in p (subst (λ (xs : List ℕ). Contains xs p) none there))

module _ (old new : List RowData) (links : State) (units : ℕ) (held : (p : ℕ) → p < length old → (row_at old p).held ≡ task_on links p)
    (ran : RowsRun old units new) where
  pub rows_follow-tick : (takes : ℕ → ℕ) (event : Event) → event ≡ Tick units → RowsFollow old takes links event new
  rows_follow-tick takes event is_tick = record {
    count = ran.count;
    each = λ p fits.
        let run = ran.each p fits in
        let none : change_orders takes (row_at old p).held (task_on links p) ≡ [] = ap (change_orders takes (row_at old p).held)
        (sym (held p fits)) ∙ change_orders-same takes (row_at old p).held in
        record {
          orders = run.orders ∙ rw (is_tick, none, append-nil (row_at old p).orders) refl;
          held = run.held ∙ held p fits;
          room = let room = run.room in omega (arith, room);
        };
  }

  pub numbers_stay : (takes : List ℕ) → length old ≡ links.processors
      → NumbersBecome (λ t n. n + length (came_below old links links.processors t)) takes takes
  numbers_stay takes count = record {
    count = refl;
    each = λ t d fits.
        let none = filtered_count-none (λ p. came t (row_at old p).held (task_on links p)) links.processors
        (λ p below. ap (came t (row_at old p).held) (sym (held p (rw count below))) ∙ came-same t (row_at old p).held) in
        omega (arith, none);
  }

-- ---- any other event
-- but where a processor goes off line, the processors of the reply's chains are touched alone
pub touched_by_chains : (event : Event) (reply : Reply) → ((p : ℕ) → event ≡ Offline p → ⊥) → touched event reply ≡ chain_of reply
touched_by_chains (Offline p) reply other = absurd (other p refl)
touched_by_chains event reply other = refl

no_tick_orders : (event : Event) → ((units : ℕ) → event ≡ Tick units → ⊥) → (held : Option ℕ) → tick_orders event held ≡ []
no_tick_orders (Tick units) other held = absurd (other units refl)
no_tick_orders event other held = refl

module _ (chain : List ℕ) (links : State) (old : List RowData) (takes : List ℕ) (new : List RowData) (counted : List ℕ)
    (outside : HoldOutside chain old links) (changed : RowsChange chain links old takes new counted) where
  pub rows_follow-change : (event : Event) → ((units : ℕ) → event ≡ Tick units → ⊥) → RowsFollow old (λ t. get_or takes t 0) links event new
  rows_follow-change event other = record { count = changed.count; each = each }
    where
      number : ℕ → ℕ
      number t = get_or takes t 0

      each : (p : ℕ) → p < length old → RowFollows (row_at old p) number (task_on links p) event (row_at new p)
      each p fits = elim (changed.each p) [
        | inl there ↦ record {
          orders = there.1.orders ∙ rw (no_tick_orders event other (row_at old p).held)
              (sym (append-nil ((row_at old p).orders ++ change_orders number (row_at old p).held (task_on links p))));
          held = there.1.held;
          room = there.1.room;
        }
        | inr same ↦
            let held = outside p fits same.0 in
            let none : change_orders number (row_at old p).held (task_on links p) ≡ [] = ap (change_orders number (row_at old p).held)
            (sym held) ∙ change_orders-same number (row_at old p).held in
            record {
              orders = ap (λ (r : RowData). r.orders) same.1 ∙ rw (no_tick_orders event other (row_at old p).held, none)
                  (sym (append-nil (row_at old p).orders) ∙ sym (append-nil ((row_at old p).orders ++ [])));
              held = ap (λ (r : RowData). r.held) same.1 ∙ held;
              room = rw same.1 (omega arith);
            }
      ]

  held_now : (p : ℕ) → p < length old → (row_at new p).held ≡ task_on links p
  held_now p fits = elim (changed.each p) [
    | inl there ↦ there.1.held
    | inr same ↦ ap (λ (r : RowData). r.held) same.1 ∙ outside p fits same.0
  ]

  pub numbers_follow : length old ≡ links.processors
      → NumbersBecome (λ t n. n + length (came_below old links links.processors t)) takes counted
  numbers_follow count = record {
    count = changed.takes_more.count;
    each = λ t d fits.
        changed.takes_more.each t d fits
        ∙ ap (λ (k : ℕ). get_or takes t d + k)
        (filtered_count-same (λ p. came t (row_at old p).held (row_at new p).held) (λ p. came t (row_at old p).held (task_on links p))
        (length old) (λ p below. ap (came t (row_at old p).held) (held_now p below))
        ∙ ap (λ (n : ℕ). length (filter (λ p. came t (row_at old p).held (task_on links p)) (range_with_len 0 n))) count);
  }
