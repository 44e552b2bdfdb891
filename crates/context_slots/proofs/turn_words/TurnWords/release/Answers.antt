use Rattle.std.proofs.Common.{rules, arith, ap, sym, ◌++◌, ◌∙◌, ◌∷◌, [], Some, None}
use Rattle.atomic_table.specs.Table.{rest}
use Rattle.context_slots.specs.declared.view.HandView.{HandView}
use Rattle.task_set.specs.Context.{context_after_take, context_after_runs}
use Rattle.context_slots.specs.Hands.{closed}
use Rattle.context_slots.specs.HandSteps.{SeatState}
use Rattle.context_slots.proofs.Keeps.{releases_lem}
use Rattle.context_slots.proofs.turn_words.TurnWords.release.Goals as goal

pub exchange-empty-requires : goal.exchange-empty-requires
exchange-empty-requires c =
    let h = c.requires.hand.1 in
    let e = h.4 ∙ ap (λ x. (x, None) ∷ []) h.2 in
    (c.requires.hand.0, (None, e ∙ ap (λ l. (c.args.held.task, None) ∷ rest l) (sym e)))

pub store-requires : goal.store-requires
store-requires c =
    let h = c.requires.hand.1 in
    let put = c.exchange-empty.ensures.3 in
    let view = ap (λ (m : SeatState). m.0) put in (
      search rules,
      search rules,
      releases_lem _ _ _ _ _ c.exchange-empty.new.seat.me h.0 c.args.held.context (ap (λ (v : HandView). v.holds) view ∙ h.1) h.2 h.3
          (ap (λ (m : SeatState). m.1) put ∙ ap (λ l. (c.args.held.task, Some c.args.held.context) ∷ rest l) h.4)
          (h.5 ∙ ap (λ q. context_after_runs (context_after_take h.0.base q) q h.0.units) (sym (ap (λ (v : HandView). v.number) view)))
          (omega (arith, c.requires.hand.2, ap (λ (v : HandView). v.parts) view)) (omega arith),
    )

pub invariant_of-hand : goal.invariant_of-hand
invariant_of-hand c =
    let h = c.requires.hand.1 in
    let view = ap (λ (m : SeatState). m.0) c.exchange-empty.ensures.3 in
    let done = c.store.ensures.2 h.0 (ap (λ (v : HandView). v.holds) view ∙ h.1) in
    record {
      numbered = c.args.hand.now.numbered ∙ sym (ap (λ (v : HandView). v.number) view)
          ∙ sym (ap (λ (m : SeatState). m.0.number) done);
      small = c.args.hand.now.small;
    }

pub returns-clause-free : goal.returns-clause-free
returns-clause-free c =
    let h = c.requires.hand.1 in
    let view = ap (λ (m : SeatState). m.0) c.exchange-empty.ensures.3 in
    let done = c.store.ensures.2 h.0 (ap (λ (v : HandView). v.holds) view ∙ h.1) in
    (ap (λ (m : SeatState). m.0.holds) done, ap (λ (m : SeatState). m.1) done)

pub returns-clause-ended : goal.returns-clause-ended
returns-clause-ended c =
    let h = c.requires.hand.1 in
    let view = ap (λ (m : SeatState). m.0) c.exchange-empty.ensures.3 in
    let done = c.store.ensures.2 h.0 (ap (λ (v : HandView). v.holds) view ∙ h.1) in
    rw h.1 (ap (λ (m : SeatState). m.0.ended) done ∙ ap (λ (v : HandView). v.ended ++ closed v.number h.0 ∷ []) view)

pub returns-clause-looks : goal.returns-clause-looks
returns-clause-looks c =
    let h = c.requires.hand.1 in
    let view = ap (λ (m : SeatState). m.0) c.exchange-empty.ensures.3 in
    let done = c.store.ensures.2 h.0 (ap (λ (v : HandView). v.holds) view ∙ h.1) in (
      ap (λ (m : SeatState). m.0.looks) done ∙ ap (λ (v : HandView). v.looks) view,
      ap (λ (m : SeatState). m.0.parts) done
          ∙ ap (λ (v : HandView). v.parts) view,
    )
