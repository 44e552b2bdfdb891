use Rattle.std.proofs.Common.{◌≡◌, ℕ, ◌+◌, Some, None, Option, sym, ap, ◌∙◌, subst, arith}
use Rattle.std.proofs.lemmas.Bool.{true≢false}
use Rattle.std.proofs.lemmas.Option.{same_Some}
use Rattle.std.specs.Prelude.{IsTrue}
use Rattle.affinity_mask.specs.ProcSet.{has}
use Rattle.strong_apa.specs.State.{State, task_on, effective_mask}
use Rattle.strong_apa.proofs.Linked.{linked_number, is_linked-from_on}
use Rattle.live_core.specs.Seen.{seen_at}
use Rattle.live_core.proofs.Settling.{IsFilledBelow, filled_first, filled_same, filled_more, not_yet, table_whole, fresh_whole}
use Rattle.live_core.proofs.seen.fill.Goals as goal
use Rattle.live_core.proofs.seen.fill.Goals.{in-Some+in-Some-seen+then-may_run_on, in-Some+in-Some-seen+else-may_run_on}
use Rattle.live_core.proofs.seen.fill.Goals.{in-Some+in_default-seen, in_default}

pub loop-p-init : goal.loop-p-init
loop-p-init c = filled_first c.args.links.now c.args.table.now c.args.seen.now c.requires.same c.requires.nobody

pub bounds : goal.bounds
bounds c =
    let number = linked_number c.args.links.now c.loop-p.p c.in-Some.t c.in-Some.ensures.valid (sym c.in-Some.ensures.value) in
    let count = c.requires.count in
    omega arith

pub may_run_on-requires : goal.may_run_on-requires
may_run_on-requires c = linked_number c.args.links.now c.loop-p.p c.in-Some.t c.in-Some.ensures.valid (sym c.in-Some.ensures.value)

pub take_place-requires-clause-waits : goal.take_place-requires-clause-waits
take_place-requires-clause-waits c = not_yet c.args.links.now c.loop-p.table c.args.seen.now c.loop-p.p c.in-Some.t c.in-Some.ensures.valid
    (sym c.in-Some.ensures.value) c.loop-p.invariant

pub loop-p-preserved : goal.loop-p-preserved
loop-p-preserved c =
    let s = c.args.links.now in
    let seen = c.args.seen.now in
    let p = c.loop-p.p in
    elim c.match-on.branch [
      | in-Some+in-Some-seen+then-may_run_on w ↦ subst (λ (table : State). IsFilledBelow s seen table (p + 1)) (sym w.table-is)
          (let on : task_on s p ≡ Some w.in-Some.t = sym c.on.ensures.value ∙ w.in-Some.is in
          filled_more s c.loop-p.table w.take_place.new.table seen p w.in-Some.t w.in-Some-seen.q on
          (record {
            linked = is_linked-from_on s p w.in-Some.t on;
            there = w.in-Some-seen.is;
            allowed = w.may_run_on.ensures.0 w.if-may_run_on.true;
          })
          w.take_place.ensures.same w.take_place.ensures.taken c.loop-p.invariant)
      | in-Some+in-Some-seen+else-may_run_on w ↦ subst (λ (table : State). IsFilledBelow s seen table (p + 1)) (sym w.table-is)
          (filled_same s c.loop-p.table seen p (λ t q on claims.
          let same_t : t ≡ w.in-Some.t = same_Some t w.in-Some.t (sym on ∙ sym c.on.ensures.value ∙ w.in-Some.is) in
          let same_q : q ≡ w.in-Some-seen.q = same_Some q w.in-Some-seen.q
          (sym claims.there ∙ ap (seen_at seen) same_t ∙ w.in-Some-seen.is) in
          true≢false (sym (w.may_run_on.ensures.1 (subst (λ (v : ℕ). IsTrue (has (effective_mask s v) w.in-Some-seen.q)) same_t
          (subst (λ (x : ℕ). IsTrue (has (effective_mask s t) x)) same_q claims.allowed))) ∙ w.if-may_run_on.false)) c.loop-p.invariant)
      | in-Some+in_default-seen w ↦ subst (λ (table : State). IsFilledBelow s seen table (p + 1)) (sym w.table-is)
          (filled_same s c.loop-p.table seen p (λ t q on claims.
          let same_t : t ≡ w.in-Some.t = same_Some t w.in-Some.t (sym on ∙ sym c.on.ensures.value ∙ w.in-Some.is) in
          w.in_default-seen.not-Some q (ap (seen_at seen) (sym same_t) ∙ claims.there)) c.loop-p.invariant)
      | in_default w ↦ subst (λ (table : State). IsFilledBelow s seen table (p + 1)) (sym w.table-is)
          (filled_same s c.loop-p.table seen p (λ t q on claims. let h : ◌≡◌ {A = Option ℕ} None (Some t) = sym w.in_default.is
          ∙ c.on.ensures.value ∙ on in cc) c.loop-p.invariant)
    ]

pub returns : goal.returns
returns c =
    let n = c.processors-p-end.ensures.value in
    let m = c.loop-p-test.false in
    record {
      table = table_whole c.args.links.now c.loop-p.table c.args.seen.now c.loop-p.p c.processors-p-end.ensures.valid (omega arith)
          c.loop-p.invariant c.processors-valid.ensures.valid;
      fresh = fresh_whole c.args.links.now c.loop-p.table c.args.seen.now c.loop-p.p c.processors-p-end.ensures.valid (omega arith)
          c.loop-p.invariant;
    }
