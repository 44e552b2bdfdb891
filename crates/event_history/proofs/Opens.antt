-- A new turn word keeps its rule.
use Rattle.std.proofs.Common.{rules, ◌≡◌, ℕ, ◌≤◌, List, [], ◌∷◌, refl, false}
use lib.ListN.{get_elem?}
use mathlib.Core.Option.{some}
use Rattle.atomic_table.specs.Table.{opening}
use Rattle.task_set.specs.Sum.{total}
use Rattle.order_queues.specs.Ends.{SenderData}
use Rattle.event_history.specs.declared.view.PassView.{PassView}
use Rattle.event_history.specs.Holdings.{new_core, new_slots, queues_of}
use Rattle.event_history.specs.Turn.{Setting, TurnRule, Fits, fresh, passes_of}

-- the first pass fits a history without entries
first_fits : (callers : ℕ) → 1 ≤ callers → (j : ℕ) (v : PassView) → get_elem? (fresh 0 1 ∷ []) j ≡ some v → Fits callers [] false v
first_fits callers least j v at = search rules

-- the first pass is the one of the first caller
first_alone : (x : ℕ) → total (passes_of x) (fresh 0 1 ∷ []) ≤ 1
first_alone x = search rules

pub opens_lem : (of : Setting) (callers : ℕ) (senders : List SenderData) → 1 ≤ callers → queues_of senders ≡ of.queues
    → TurnRule of callers (opening (0 ∷ []) (new_slots of.set senders) (fresh 0 1))
opens_lem of callers senders least queues = record {
  history = [];
  closed = false;
  legal = tt;
  one_word = refl;
  one_slot = refl;
  count = refl;
  holders = refl;
  home = λ even. (record { core = new_core of.set; senders = senders }, refl, refl, refl, refl, queues);
  fits = first_fits callers least;
  apart = first_alone;
  few = tt;
}
