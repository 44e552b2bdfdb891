use Rattle.std.proofs.Common.{◌≡◌, ◌∙◌, ℕ, ◌+◌, ◌<◌, eqb, List, [], ◌∷◌, ◌++◌, length, get_or, Option, Vec, Global, if◌then◌else◌, sym, ap}
use Rattle.std.proofs.Common.{subst, arith, append-nil}
use Rattle.std.proofs.lemmas.List.{get_or_default}
use Rattle.task_set.specs.declared.order.Order.TheVariants.{Take}
use Rattle.strong_apa.specs.Dispatch.{take_of}
use Rattle.std.specs.Option.{option_eq}
use Rattle.sched_core.specs.CoreRows.{RowData, NumbersBecome, came}
use Rattle.sched_core.proofs.RowChanging.{apart, row_changes, numbers_count, numbers_stay}
use Rattle.sched_core.proofs.order_row.OrderRow.change.Goals as goal
use Rattle.sched_core.proofs.order_row.OrderRow.change.Goals.{in-Some, in_default}

pub release-requires : goal.release-requires
release-requires c =
    let other = apart c.args.self.now.held c.args.occupant
    (c.if-eq.ensures ∙ ap (λ (r : RowData). option_eq eqb c.args.occupant r.held) c.self.view_is) in
    omega (arith, (c.requires.can other).room)

pub index-number-requires : goal.index-number-requires
index-number-requires c = c.requires.known c.in-Some.task c.in-Some.is

pub push-requires : goal.push-requires
push-requires c =
    let other = apart c.args.self.now.held c.args.occupant
    (c.if-eq.ensures ∙ ap (λ (r : RowData). option_eq eqb c.args.occupant r.held) c.self.view_is) in
    omega (arith, (c.requires.can other).room, c.release.ensures.room)

pub overflow_add-number : goal.overflow_add-number
overflow_add-number c =
    let other = apart c.args.self.now.held c.args.occupant
    (c.if-eq.ensures ∙ ap (λ (r : RowData). option_eq eqb c.args.occupant r.held) c.self.view_is) in
    let low : c.in-Some.task < length c.args.takes.now.items = omega (
      arith,
      c.requires.known c.in-Some.task c.in-Some.is,
      c.args.takes.now.ok.0,
    ) in
    let number : c.index-number.result.now ≡ get_or c.args.takes.now.items c.in-Some.task 0 = c.index-number.ensures
    ∙ get_or_default c.args.takes.now.items c.in-Some.task c.index-number.result.now 0 low in
    omega (arith, number, (c.requires.can other).small c.in-Some.task c.in-Some.is)

pub returns-clause-row : goal.returns-clause-row
returns-clause-row c =
    let other = apart c.args.self.now.held c.args.occupant
    (c.if-eq.ensures ∙ ap (λ (r : RowData). option_eq eqb c.args.occupant r.held) c.self.view_is) in
    let takes : List ℕ = c.args.takes.now.items in
    let freed : RowData = c.release.new.self in
    elim c.match-occupant.branch [
      | in-Some w ↦
          let task = w.in-Some.task in
          let low : task < length takes = omega (arith, c.requires.known task w.in-Some.is, c.args.takes.now.ok.0) in
          let number : w.index-number.result.now ≡ get_or takes task 0 = w.index-number.ensures
          ∙ get_or_default takes task w.index-number.result.now 0 low in
          let row = c.self-2.view_is ∙ w.self-is ∙ w.push.ensures in
          row_changes c.args.self.now freed _ (λ t. get_or takes t 0) c.args.occupant other c.release.ensures
          (ap (λ (r : RowData). r.orders) row ∙ (λ k. freed.orders ++ Take task (number k) ∷ [])
          ∙ ap (λ (o : Option ℕ). freed.orders ++ take_of (λ t. get_or takes t 0) o) (sym w.in-Some.is))
          (w.occupant-is ∙ sym w.in-Some.is)
          (omega (arith, ap (λ (r : RowData). r.room) row))
      | in_default w ↦
          let row = c.self-2.view_is ∙ w.self-is in
          row_changes c.args.self.now freed _ (λ t. get_or takes t 0) c.args.occupant other c.release.ensures
          (ap (λ (r : RowData). r.orders) row ∙ sym (append-nil freed.orders)
          ∙ ap (λ (o : Option ℕ). freed.orders ++ take_of (λ t. get_or takes t 0) o) (sym w.in_default.is))
          w.occupant-is
          (omega (arith, ap (λ (r : RowData). r.room) row))
    ]

pub returns-clause-takes : goal.returns-clause-takes
returns-clause-takes c =
    let other = apart c.args.self.now.held c.args.occupant
    (c.if-eq.ensures ∙ ap (λ (r : RowData). option_eq eqb c.args.occupant r.held) c.self.view_is) in
    let takes : List ℕ = c.args.takes.now.items in
    let After : List ℕ → Type 0 = NumbersBecome (λ t n. if came t c.args.self.now.held c.args.occupant then n + 1 else n) takes in
    elim c.match-occupant.branch [
      | in-Some w ↦
          let task = w.in-Some.task in
          let low : task < length takes = omega (arith, c.requires.known task w.in-Some.is, c.args.takes.now.ok.0) in
          let number : w.index-number.result.now ≡ get_or takes task 0 = w.index-number.ensures
          ∙ get_or_default takes task w.index-number.result.now 0 low in
          subst After (sym (ap (λ (v : Vec ℕ Global). v.items) w.takes-is))
          (numbers_count c.args.self.now.held c.args.occupant takes task w.index-number.result.now other w.in-Some.is low number)
      | in_default w ↦
          subst After (sym (ap (λ (v : Vec ℕ Global). v.items) w.takes-is))
          (numbers_stay c.args.self.now.held c.args.occupant takes w.in_default.is)
    ]
