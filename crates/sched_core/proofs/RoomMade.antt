-- What a core keeps where room was made in it, and what its answers then say.
use Rattle.std.proofs.Common.{◌≡◌, ◌≢◌, ℕ, ◌+◌, ◌*◌, ◌<◌, ◌≤◌, false, true, List, [], ◌∷◌, ◌++◌, length, Vec, Global, Ok, Err}
use Rattle.std.proofs.Common.{if◌then◌else◌, refl, sym, ap, ◌∙◌, subst, arith}
use Rattle.std.specs.Vec.{vec_len, vec_capacity}
use Rattle.task_set.specs.declared.event.Event.{Event}
use Rattle.strong_apa.specs.declared.reply.Entry.{Entry}
use Rattle.strong_apa.specs.State.{State}
use Rattle.strong_apa.specs.Step.{SchedulerStep}
use Rattle.strong_apa.specs.History.{IsLegalFrom, state_after}
use Rattle.strong_apa.specs.Dispatch.{orders_of, closed_orders_of, processors_of}
use Rattle.strong_apa.specs.Justification.{HasJustification}
use Rattle.sched_core.specs.CoreData.{CoreData, Applied, AppliedOrRefused, OnlyMadeRoom, entry_of, max_entries}
use Rattle.sched_core.specs.CoreRows.{RowData, RowsOnlyGrew, row_at}
use Rattle.sched_core.specs.CoreView.{IsKept, state_before}
use Rattle.sched_core.specs.declared.fault.CoreFault.TheVariants.{Closed, Full, OutOfMemory}
use Rattle.sched_core.specs.declared.scheduler.Core.TheInside.{Inside}

-- rows that only grew keep what they kept
pub kept_grown : (old : Inside) (rows : Vec RowData Global) (history : Vec Entry Global) (spare : ℕ) → IsKept old
    → RowsOnlyGrew old.rows.items rows.items → history.items ≡ old.history.items
    → (old.closed ≡ false → (p : ℕ) → p < length old.rows.items → 2 * spare + 2 ≤ (row_at rows.items p).room)
    → vec_len history + spare ≤ vec_capacity history
    → IsKept (record old { rows = rows; history = history; spare = spare })
kept_grown old rows history spare kept grew same room fits =
    let start = state_before old.links old.first_masks.items in
    let inside : (p : ℕ) → p < old.links.processors → p < length old.rows.items = λ p low. omega (arith, kept.rows_count, low) in
    record {
      core = record {
        start = kept.core.start;
        nobody = kept.core.nobody;
        state = kept.core.state;
        legal = subst (IsLegalFrom start) (sym same) kept.core.legal;
        links = kept.core.links ∙ ap (state_after start) (sym same);
        certificates = kept.core.certificates;
        processors = kept.core.processors;
        tasks = kept.core.tasks;
        fits = omega (arith, ap length same, kept.core.fits);
      };
      rows_count = grew.count ∙ kept.rows_count;
      takes_count = kept.takes_count;
      orders = λ p low. (grew.each p (inside p low)).orders ∙ kept.orders p low
          ∙ ap (λ (h : List Entry). if old.closed then closed_orders_of start h p else orders_of start h p) (sym same);
      takes = λ t low. kept.takes t low ∙ ap (λ (h : List Entry). length (processors_of start h t)) (sym same);
      rows_open = λ still p low. record {
        held = (grew.each p (inside p low)).held ∙ (kept.rows_open still p low).held;
        room = room still p (inside p low);
      };
      room = fits;
    }

-- the room that was there is there
pub room_stays : (old : Inside) (rows : List RowData) → IsKept old → RowsOnlyGrew old.rows.items rows → old.closed ≡ false → (p : ℕ)
    → p < length old.rows.items → 2 * old.spare + 2 ≤ (row_at rows p).room
room_stays old rows kept grew still p low =
    let before = (kept.rows_open still p (omega (arith, kept.rows_count, low))).room in
    let more = (grew.each p low).room in
    omega (arith, before, more)

stays : (core : CoreData) → OnlyMadeRoom core core
stays core = record { start = refl; history = refl; links = refl; closed = refl; spare = omega arith }

module _ (old : CoreData) (caller : ℕ) (event : Event) where
  pub answers_closed : old.closed ≡ true → AppliedOrRefused old caller event (Err Closed) old
  answers_closed is = record {
    applied = tt;
    closed = (λ e. is, λ t. refl);
    full = (λ e. absurd (cc e), λ both. absurd (cc (is, both.0)));
    memory = λ some e. absurd (cc e);
    refused = stays old;
  }

  pub answers_full : old.closed ≡ false → length old.history ≡ max_entries → AppliedOrRefused old caller event (Err Full) old
  answers_full still many = record {
    applied = tt;
    closed = (λ e. absurd (cc e), λ is. absurd (cc (is, still)));
    full = (λ e. (still, many), λ both. refl);
    memory = λ some e. absurd (cc e);
    refused = stays old;
  }

  pub answers_memory : (new : CoreData) → old.closed ≡ false → length old.history ≢ max_entries → OnlyMadeRoom old new → (1 ≤ old.spare → ⊥)
      → AppliedOrRefused old caller event (Err OutOfMemory) new
  answers_memory new still few made none = record {
    applied = tt;
    closed = (λ e. absurd (cc e), λ is. absurd (cc (is, still)));
    full = (λ e. absurd (cc e), λ both. absurd (few both.1));
    memory = λ some e. none some;
    refused = made;
  }

  pub answers_applied : (made new : CoreData) (place : ℕ) → old.closed ≡ false → length old.history ≢ max_entries
      → place ≡ length old.history → OnlyMadeRoom old made → Applied made caller event (length made.history) new
      → AppliedOrRefused old caller event (Ok place) new
  answers_applied made new place still few at room applied = record {
    applied = record {
      reply = applied.reply;
      at_place = at;
      history = applied.history ∙ ap (λ (h : List Entry). h ++ entry_of caller event applied.reply ∷ []) room.history;
      step = subst (λ (s : State). SchedulerStep s event applied.reply new.links) room.links applied.step;
      justified = subst (λ (s : State). HasJustification s new.links event applied.reply) room.links applied.justified;
      start = applied.start ∙ room.start;
      closed = applied.closed ∙ room.closed;
      spare = (let more = room.spare in let less = applied.spare in omega arith);
    };
    closed = (λ e. absurd (cc e), λ is. absurd (cc (is, still)));
    full = (λ e. absurd (cc e), λ both. absurd (few both.1));
    memory = λ some e. absurd (cc e);
    refused = tt;
  }
