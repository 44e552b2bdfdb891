use Rattle.std.proofs.Common.{◌≡◌, ◌-◌, ◌<◌, ℕ, List, ◌++◌, ◌∷◌, [], reverse, sym, ap, ◌∙◌, subst, arith}
use Rattle.std.proofs.lemmas.List.{reverse-append}
use Rattle.affinity_mask.specs.ProcSet.{has}
use Rattle.strong_apa.proofs.Linked.{linked_number}
use Rattle.reach_certificate.specs.Search.{IsWay}
use Rattle.reach_certificate.proofs.Searches.{size_of, IsWay-idle, IsWay-more, way_room, IsFull-seen, added_falls}
use Rattle.reach_certificate.proofs.search.+find_way.Goals as goal

pub returns-in_default : goal.returns-in_default
returns-in_default t c =
    subst (IsWay c.args.links.now c.args.t c.args.visited)
    (sym (ap reverse (c.push.ensures ∙ ap (λ (xs : List ℕ). xs ++ c.loop-p.p ∷ []) c.new-back.ensures)))
    (IsWay-idle c.args.links.now c.on.ensures.valid c.args.t c.args.visited c.loop-p.seen c.loop-p.p c.loop-p.invariant (omega arith)
    (ap (λ (X : ℕ). has X c.loop-p.p) (sym c.effective.ensures.value) ∙ sym c.has.ensures ∙ c.if-not-has.false)
    (sym c.has-else-not-has.ensures ∙ c.if-has.false) (sym c.in_default.ensures.value))

pub find_way-requires : goal.find_way-requires
find_way-requires t c = (
  (let falls = added_falls c.args.links.now c.on.ensures.valid c.args.t c.args.visited c.loop-p.seen c.loop-p.p c.loop-p.invariant
      (omega arith)
      (ap (λ (X : ℕ). has X c.loop-p.p) (sym c.effective.ensures.value) ∙ sym c.has.ensures ∙ c.if-not-has.false)
      (sym c.has-else-not-has.ensures ∙ c.if-has.false) c.in-Some.u (sym c.in-Some.ensures.value) c.with-seen.result c.with-seen.ensures in
      let e : 64 - size_of c.args.visited ≡ t = c.decreases in subst (λ (n : ℕ). 64 - size_of c.with-seen.result < n) e falls),
  linked_number c.args.links.now c.loop-p.p c.in-Some.u c.on.ensures.valid (sym c.in-Some.ensures.value),
)

pub push-requires-in-Way-clause-room : goal.push-requires-in-Way-clause-room
push-requires-in-Way-clause-room t c =
    way_room c.args.links.now c.on.ensures.valid c.args.t c.args.visited c.loop-p.seen c.loop-p.p c.loop-p.invariant (omega arith)
    (ap (λ (X : ℕ). has X c.loop-p.p) (sym c.effective.ensures.value) ∙ sym c.has.ensures ∙ c.if-not-has.false)
    (sym c.has-else-not-has.ensures ∙ c.if-has.false) c.in-Some.u (sym c.in-Some.ensures.value)
    c.with-seen.result c.with-seen.ensures c.in-Way.back c.in-Way.ensures

pub returns-in-Way : goal.returns-in-Way
returns-in-Way t c =
    subst (IsWay c.args.links.now c.args.t c.args.visited)
    (sym (ap reverse c.push-in-Way.ensures ∙ reverse-append c.in-Way.back (c.loop-p.p ∷ [])))
    (IsWay-more c.args.links.now c.on.ensures.valid c.args.t c.args.visited c.loop-p.seen c.loop-p.p c.loop-p.invariant (omega arith)
    (ap (λ (X : ℕ). has X c.loop-p.p) (sym c.effective.ensures.value) ∙ sym c.has.ensures ∙ c.if-not-has.false)
    (sym c.has-else-not-has.ensures ∙ c.if-has.false) c.in-Some.u (sym c.in-Some.ensures.value) c.with-seen.result c.with-seen.ensures
    (reverse c.in-Way.back) c.in-Way.ensures)

pub returns : goal.returns
returns t c = IsFull-seen c.args.links.now c.processors-p-end.ensures.valid c.args.t c.args.visited c.loop-p.seen c.loop-p.p
    c.loop-p.invariant (omega arith)
