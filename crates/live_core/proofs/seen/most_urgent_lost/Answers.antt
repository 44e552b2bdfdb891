use Rattle.std.proofs.Common.{◌≡◌, ℕ, Some, false, sym, ap, ◌∙◌, subst, arith, Option, ◌+◌, None}
use Rattle.std.proofs.lemmas.Bool.{true≢false}
use Rattle.std.proofs.lemmas.Option.{same_Some}
use Rattle.strong_apa.specs.State.{task_count, is_linked}
use Rattle.strong_apa.proofs.Linked.{linked_number, place_in, task_on-linked}
use Rattle.live_core.proofs.Losing.{IsFirstBelow, first_none, first_same, first_more, first_whole}
use Rattle.live_core.proofs.seen.most_urgent_lost.Goals as goal
use Rattle.live_core.proofs.seen.most_urgent_lost.Goals.{in-Some+then-is_none, in-Some+else-is_none, in_default}

pub loop-p-init : goal.loop-p-init
loop-p-init c = first_none c.args.links.now c.args.table.now

pub loop-p-preserved : goal.loop-p-preserved
loop-p-preserved c =
    let s = c.args.links.now in
    let table = c.args.table.now in
    let p = c.loop-p.p in
    elim c.match-on.branch [
      | in-Some+then-is_none w ↦ subst (λ (found : Option ℕ). IsFirstBelow s table (p + 1) found) (sym w.found-is)
          (first_more s table p w.in-Some.t c.loop-p.found w.first_of.result (sym c.on.ensures.value ∙ w.in-Some.is)
          (w.of.ensures.none.0 w.if-is_none.ensures) w.first_of.ensures.which w.first_of.ensures.urgent w.first_of.ensures.before
          c.loop-p.invariant)
      | in-Some+else-is_none w ↦ subst (λ (found : Option ℕ). IsFirstBelow s table (p + 1) found) (sym w.found-is)
          (first_same s table p c.loop-p.found
          (λ u on lost.
          let same = same_Some u w.in-Some.t (sym on ∙ sym c.on.ensures.value ∙ w.in-Some.is) in
          true≢false (sym w.if-is_none.ensures ∙ w.of.ensures.none.1 (subst (λ (v : ℕ). is_linked table v ≡ false) same lost.nowhere)))
          c.loop-p.invariant)
      | in_default w ↦ subst (λ (found : Option ℕ). IsFirstBelow s table (p + 1) found) (sym w.found-is)
          (first_same s table p c.loop-p.found (λ u on lost. let h : ◌≡◌ {A = Option ℕ} None (Some u) = sym w.in_default.is
          ∙ c.on.ensures.value ∙ on in cc) c.loop-p.invariant)
    ]

pub returns : goal.returns
returns c = first_whole c.args.links.now c.args.table.now c.processors-p-end.ensures.valid c.loop-p.p
    (let n = c.processors-p-end.ensures.value in let m = c.loop-p-test.false in omega arith) c.loop-p.found c.loop-p.invariant

pub of-requires : goal.of-requires
of-requires c = rw (ap task_count c.requires)
    (linked_number c.args.links.now c.loop-p.p c.in-Some.t c.in-Some.ensures.valid (sym c.in-Some.ensures.value))

pub first_of-requires-clause-number : goal.first_of-requires-clause-number
first_of-requires-clause-number c =
    linked_number c.args.links.now c.loop-p.p c.in-Some.t c.in-Some.ensures.valid (sym c.in-Some.ensures.value)

pub first_of-requires-clause-found : goal.first_of-requires-clause-found
first_of-requires-clause-found c = λ u e.
    let lost = c.loop-p.invariant.lost u e in
    let on = task_on-linked c.args.links.now u lost.linked in
    linked_number c.args.links.now (place_in u c.args.links.now.on) u c.in-Some.ensures.valid on
