use Rattle.std.proofs.Common.{◌≡◌, ◌∙◌, ℕ, ◌<◌, ◌++◌, ◌∷◌, [], Bool, true, false, length, Err, length-append, refl, sym, ap, arith}
use Rattle.std.proofs.lemmas.Result.{err_from_is_err_and}
use Rattle.task_set.specs.declared.event.Event.{Event}
use Rattle.strong_apa.specs.declared.reply.Entry.{Entry}
use Rattle.sched_core.specs.CoreData.{CoreData, IsCore, AppliedOrRefused, entry_of}
use Rattle.sched_core.specs.declared.fault.CoreFault.{CoreFault}
use Rattle.sched_core.specs.declared.fault.CoreFault.TheVariants.{Closed, Full, OutOfMemory}
use Rattle.sched_core.proofs.CoreEntered.{read_last}
use Rattle.event_history.specs.Entering.{IsNoEntry}
use Rattle.event_history.proofs.entering.enter.Goals as goal

not_true : (b : Bool) → (b ≡ true → ⊥) → b ≡ false
not_true true never = absurd (never refl)
not_true false never = refl

-- a core that refused an event has no entry more, for the reason that it said
no_entry : (old : CoreData) (caller : ℕ) (event : Event) (fault : CoreFault) (new : CoreData) → IsCore old
    → AppliedOrRefused old caller event (Err fault) new → IsNoEntry old new fault
no_entry old caller event Closed new valid answer = (answer.refused, answer.closed.0 refl)
no_entry old caller event Full new valid answer = (answer.refused, answer.full.0 refl)
no_entry old caller event OutOfMemory new valid answer =
    let still : old.closed ≡ false = not_true old.closed (λ is. absurd (cc (answer.closed.1 is))) in
    (answer.refused, (still, below_all (λ many. absurd (cc (answer.full.1 (still, many))))))
  where
    below_all : (length old.history ≡ 20000 → ⊥) → length old.history < 20000
    below_all few = omega (arith, few, valid.fits)

pub returns-in_err-apply-clause-refused : goal.returns-in_err-apply-clause-refused
returns-in_err-apply-clause-refused g c =
    let p = err_from_is_err_and c.from_residual.result c.from_residual.ensures.1 in
    rw (p.1, p.2) (no_entry c.args.core.now c.args.caller c.args.event c.in_err-apply.field-0.0 c.apply.new.self
    c.history-place.ensures.valid c.in_err-apply.ensures.answer)

pub returns-clause-entered : goal.returns-clause-entered
returns-clause-entered g c =
    let old = c.args.core.now in
    let answer = c.in_ok-apply.ensures.answer in
    let applied = answer.applied in
    let still : old.closed ≡ false = not_true old.closed (λ is. absurd (cc (answer.closed.1 is))) in
    let read = read_last old.history c.history.result.now (entry_of c.args.caller c.args.event applied.reply) c.index-history-place.result
    (length c.history-place.result.now)
    (c.history.ensures.value ∙ applied.history) (sym (ap length c.history-place.ensures.value)) c.index-history-place.is in
    let place : length c.history-place.result.now ≡ length old.history = ap length c.history-place.ensures.value in
    let many = ap length applied.history ∙ length-append old.history (entry_of c.args.caller c.args.event applied.reply ∷ []) in
    record {
      receipt = record { place = length c.history-place.result.now; reply = c.index-history-place.result.reply };
      is = c.of.ensures ∙ ap (λ (e : Entry). g.T.Taken.of_receipt (record { place = length c.history-place.result.now; reply = e.reply }))
          (sym c.index-history-place.is);
      holds = record {
        at_place = place;
        fits = omega (arith, place, many, c.history.ensures.valid.fits);
        history = applied.history ∙ ap (λ (e : Entry). old.history ++ entry_of c.args.caller c.args.event e.reply ∷ []) (sym read);
        start = applied.start;
        was_open = still;
        is_open = applied.closed ∙ still;
      };
    }
