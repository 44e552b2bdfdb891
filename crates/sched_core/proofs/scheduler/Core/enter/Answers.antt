use Rattle.std.proofs.Common.{◌≡◌, ℕ, ◌-◌, ◌<◌, ◌≤◌, List, length, get_or, false, refl, sym, ap, ◌∙◌, subst, arith}
use Rattle.std.specs.Prelude.{All}
use Rattle.strong_apa.specs.declared.reply.Entry.{Entry}
use Rattle.strong_apa.specs.State.{State, IsState, task_count}
use Rattle.strong_apa.specs.History.{effect_of}
use Rattle.strong_apa.specs.Dispatch.{orders_of, processors_of}
use Rattle.strong_apa.proofs.Linked.{linked_number}
use Rattle.strong_apa.proofs.Steps.{reply_gives_new_state, step_keeps_state}
use Rattle.strong_apa.proofs.Kept.{step_has_justification}
use Rattle.sched_core.specs.CoreData.{CoreData, IsCore, Applied, entry_of, max_entries}
use Rattle.sched_core.specs.CoreView.{core_view, state_before, IsKeptFrom}
use Rattle.strong_apa.specs.Touched.{touched}
use Rattle.sched_core.specs.CoreRows.{row_at, RowsFollow}
use Rattle.sched_core.proofs.StepTouches.{step_stays_outside, tick_has_no_chain}
use Rattle.sched_core.proofs.CoreEntered.{before_step, takes_bound, read_last, core_entered, core_orders-open, orders_entered}
use Rattle.sched_core.proofs.CoreEntered.{takes_entered}
use Rattle.strong_apa.proofs.SameTasks.{same_tasks-step}
use Rattle.sched_core.proofs.scheduler.Core.enter.Goals as goal

pub follow_links-requires-clause-can : goal.follow_links-requires-clause-can
follow_links-requires-clause-can c =
    let entry = entry_of c.args.caller c.args.event c.reply_to-reply.result in
    let lent = read_last c.self.inside.history.items c.push_reserved.new.self.items entry c.index.result.now c.len-place.result
    c.push_reserved.ensures.items (sym c.self.inside.history.ok.0 ∙ sym c.len-place.ensures) c.index.ensures in
    let inside = c.self.inside in
    let kept = c.self.invariant in
    let reply = c.reply_to-reply.result in
    let new = c.reply_to-reply.new.links in
    let step = c.reply_to-reply.ensures in
    let same = same_tasks-step inside.links c.args.event reply new step in
    let open_before : inside.closed ≡ false = ap (λ (core : CoreData). core.closed) c.self.view_is ∙ c.requires.not_closed in
    let state : IsState new = step_keeps_state inside.links c.args.event reply new kept.core.state step in
    rw lent record {
      state = state;
      below = subst (λ (n : ℕ). All (λ p. p < n) (touched c.args.event reply)) (sym same.processors)
          (step_stays_outside inside.links c.args.event reply new kept.core.state step).below;
      one_each = kept.rows_count ∙ sym same.processors;
      number_each = kept.takes_count ∙ sym (ap length same.priorities);
      each = λ p fits other. record {
        room = let room = (kept.rows_open open_before p (subst (λ (n : ℕ). p < n) same.processors fits)).room in omega (arith, room);
        small = λ t on.
            let number : t < task_count inside.links = subst (λ (k : ℕ). t < k) (ap length same.priorities)
            (linked_number new p t state on) in
            let bound = takes_bound (state_before inside.links inside.first_masks.items)
            inside.history.items t kept.core.start.processors in
            omega (arith, kept.takes t number, bound, kept.core.fits);
      };
    }

pub follow_links-requires-clause-outside : goal.follow_links-requires-clause-outside
follow_links-requires-clause-outside c =
    let entry = entry_of c.args.caller c.args.event c.reply_to-reply.result in
    let lent = read_last c.self.inside.history.items c.push_reserved.new.self.items entry c.index.result.now c.len-place.result
    c.push_reserved.ensures.items (sym c.self.inside.history.ok.0 ∙ sym c.len-place.ensures) c.index.ensures in
    rw lent λ p fits free.
    let inside = c.self.inside in
    let kept = c.self.invariant in
    let reply = c.reply_to-reply.result in
    let open_before : inside.closed ≡ false = ap (λ (core : CoreData). core.closed) c.self.view_is ∙ c.requires.not_closed in
    let below : p < inside.links.processors = subst (λ (n : ℕ). p < n) kept.rows_count fits in
    (kept.rows_open open_before p below).held
    ∙ sym ((step_stays_outside inside.links c.args.event reply c.reply_to-reply.new.links kept.core.state c.reply_to-reply.ensures).same p
    free)

pub follow_links-requires-clause-room : goal.follow_links-requires-clause-room
follow_links-requires-clause-room c = λ p fits.
    let inside = c.self.inside in
    let kept = c.self.invariant in
    let open_before : inside.closed ≡ false = ap (λ (core : CoreData). core.closed) c.self.view_is ∙ c.requires.not_closed in
    let room = (kept.rows_open open_before p (subst (λ (n : ℕ). p < n) kept.rows_count fits)).room in
    omega (arith, room)

pub follow_links-requires-clause-tick : goal.follow_links-requires-clause-tick
follow_links-requires-clause-tick c =
    let entry = entry_of c.args.caller c.args.event c.reply_to-reply.result in
    let lent = read_last c.self.inside.history.items c.push_reserved.new.self.items entry c.index.result.now c.len-place.result
    c.push_reserved.ensures.items (sym c.self.inside.history.ok.0 ∙ sym c.len-place.ensures) c.index.ensures in
    rw lent (tick_has_no_chain c.self.inside.links c.args.event c.reply_to-reply.result c.reply_to-reply.new.links c.reply_to-reply.ensures)

pub invariant_of-self : goal.invariant_of-self
invariant_of-self c =
    let inside = c.self.inside in
    let kept = c.self.invariant in
    let new = c.reply_to-reply.new.links in
    let step = c.reply_to-reply.ensures in
    let entry = entry_of c.args.caller c.args.event c.reply_to-reply.result in
    let lent = read_last c.self.inside.history.items c.push_reserved.new.self.items entry c.index.result.now c.len-place.result
    c.push_reserved.ensures.items (sym c.self.inside.history.ok.0 ∙ sym c.len-place.ensures) c.index.ensures in
    let begin = state_before inside.links inside.first_masks.items in
    let history = inside.history.items in
    let items = c.push_reserved.ensures.items in
    let rows = subst (λ (e : Entry). RowsFollow inside.rows.items (λ t. get_or inside.takes.items t 0)
    new e.event c.follow_links.new.rows.items) lent c.follow_links.ensures.rows in
    let now : new ≡ effect_of inside.links entry = reply_gives_new_state inside.links c.args.event c.reply_to-reply.result new step in
    let same = same_tasks-step inside.links c.args.event c.reply_to-reply.result new step in
    let open_before : inside.closed ≡ false = ap (λ (core : CoreData). core.closed) c.self.view_is ∙ c.requires.not_closed in
    let space : length history < max_entries = subst (λ (core : CoreData). length core.history < max_entries) (sym c.self.view_is)
    c.requires.not_full in
    let some_spare : 1 ≤ inside.spare = subst (λ (core : CoreData). 1 ≤ core.spare) (sym c.self.view_is) c.requires.room in
    let state : IsState new = step_keeps_state inside.links c.args.event c.reply_to-reply.result new kept.core.state step in
    let at_p : (p : ℕ) → p < new.processors → p < inside.links.processors = λ p fits. subst (λ (k : ℕ). p < k) same.processors fits in
    let at_t : (t : ℕ) → t < task_count new → t < task_count inside.links = λ t fits. subst (λ (k : ℕ). t < k) (ap length same.priorities)
    fits in
    let in_rows : (p : ℕ) → p < inside.links.processors
    → p < length inside.rows.items = λ p fits. subst (λ (k : ℕ). p < k) (sym kept.rows_count) fits in
    let stays : state_before new inside.first_masks.items
    ≡ begin = before_step inside.links c.args.event c.reply_to-reply.result new inside.first_masks.items step in
    subst (λ (s : State). IsKeptFrom s (record inside {
      history = c.push_reserved.new.self;
      links = new;
      rows = c.follow_links.new.rows;
      takes = c.follow_links.new.takes;
      spare = inside.spare - 1;
    })) (sym stays)
    record {
      core = subst (λ (h : List Entry). IsCore (record {
        start = begin;
        history = h;
        links = new;
        closed = inside.closed;
        spare = inside.spare - 1;
      })) (sym items)
          (core_entered (core_view inside) entry new (inside.spare - 1) kept.core step space);
      rows_count = rows.count ∙ kept.rows_count ∙ sym same.processors;
      takes_count = c.follow_links.ensures.takes.count ∙ kept.takes_count ∙ sym (ap length same.priorities);
      orders = λ p fits.
          let below = at_p p fits in
          orders_entered begin history entry inside.links new p (λ t. get_or inside.takes.items t 0) (row_at inside.rows.items p)
          (row_at c.follow_links.new.rows.items p) kept.core.links now
          (λ t on. kept.takes t (at_t t (linked_number new p t state on)))
          (kept.orders p below ∙ core_orders-open (core_view inside) p open_before)
          (kept.rows_open open_before p below).held (rows.each p (in_rows p below))
          ∙ ap (λ (h : List Entry). orders_of begin h p) (sym items)
          ∙ sym (core_orders-open (record {
            start = begin;
            history = c.push_reserved.new.self.items;
            links = new;
            closed = inside.closed;
            spare = inside.spare - 1;
          }) p open_before);
      takes = λ t fits.
          let below = at_t t fits in
          takes_entered begin history entry inside.links new t inside.rows.items inside.takes.items c.follow_links.new.takes.items
          kept.core.links now (subst (λ (k : ℕ). t < k) (sym kept.takes_count) below)
          (kept.takes t below) (λ p fits. (kept.rows_open open_before p (at_p p fits)).held) same.processors c.follow_links.ensures.takes
          ∙ ap (λ (h : List Entry). length (processors_of begin h t)) (sym items);
      rows_open = λ still p fits.
          let below = at_p p fits in
          let follows = rows.each p (in_rows p below) in
          record {
            held = follows.held;
            room = omega (arith, follows.room, (kept.rows_open open_before p below).room, some_spare);
          };
      room = omega (arith, c.push_reserved.ensures.len, c.push_reserved.ensures.capacity, kept.room, some_spare);
    }

pub returns-clause-valid : goal.returns-clause-valid
returns-clause-valid c = (invariant_of-self c).core

pub returns-clause-applied : goal.returns-clause-applied
returns-clause-applied c =
    let inside = c.self.inside in
    let kept = c.self.invariant in
    let reply = c.reply_to-reply.result in
    let new = c.reply_to-reply.new.links in
    let step = c.reply_to-reply.ensures in
    let some_spare : 1 ≤ inside.spare = subst (λ (core : CoreData). 1 ≤ core.spare) (sym c.self.view_is) c.requires.room in
    let entered : CoreData = record {
      start = state_before new inside.first_masks.items;
      history = c.push_reserved.new.self.items;
      links = new;
      closed = inside.closed;
      spare = inside.spare - 1;
    } in
    subst (λ (core : CoreData). Applied core c.args.caller c.args.event (length core.history) entered) c.self.view_is record {
      reply = reply;
      at_place = refl;
      history = c.push_reserved.ensures.items;
      step = step;
      justified = step_has_justification inside.links c.args.event reply new kept.core.state kept.core.certificates step;
      start = before_step inside.links c.args.event reply new inside.first_masks.items step;
      closed = refl;
      spare = omega arith;
    }
