use Rattle.std.proofs.Common.{◌≡◌, ◌∙◌, ◌<◌, false, length, inl, inr, refl, sym, ap, subst, arith, get_or-set_same}
use Rattle.strong_apa.specs.State.{State, task_on, task_count, is_ready, state_with_offline}
use Rattle.strong_apa.specs.Step.{Comes}
use Rattle.strong_apa.proofs.Leaving.{task_on-left}
use Rattle.strong_apa.proofs.Linked.{linked_number, is_linked-from_on}
use Rattle.task_shift.proofs.processor_change.offline.Goals as goal

pub set_online-requires-clause-nobody : goal.set_online-requires-clause-nobody
set_online-requires-clause-nobody c = sym c.on.ensures.value ∙ c.in_default.is

pub returns-in_default-clause-step : goal.returns-in_default-clause-step
returns-in_default-clause-step c =
    inr (inl record {
      idle = (sym c.is_online.ensures.value ∙ c.if-not-is_online.false, sym c.on.ensures.value ∙ c.in_default.is);
      answer = refl;
      off = c.set_online.ensures.online;
    })

pub leave-requires-clause-number : goal.leave-requires-clause-number
leave-requires-clause-number c =
    linked_number c.args.links.now c.args.p c.in-Some.task c.on.ensures.valid (sym c.on.ensures.value ∙ c.in-Some.is)

pub leave-requires-clause-linked : goal.leave-requires-clause-linked
leave-requires-clause-linked c = is_linked-from_on c.args.links.now c.args.p c.in-Some.task (sym c.on.ensures.value ∙ c.in-Some.is)

pub set_online-requires-2-clause-nobody : goal.set_online-requires-2-clause-nobody
set_online-requires-2-clause-nobody c =
    ap (λ (s : State). task_on s c.args.p) c.leave.ensures.left ∙ task_on-left c.args.links.now c.in-Some.task c.args.p
    (sym c.on.ensures.value ∙ c.in-Some.is)

pub come-came-requires-clause-number : goal.come-came-requires-clause-number
come-came-requires-clause-number c =
    let s = c.args.links.now in
    let number = linked_number s c.args.p c.in-Some.task c.on.ensures.valid (sym c.on.ensures.value ∙ c.in-Some.is) in
    let same : task_count c.set_online-2.new.self ≡ task_count s = ap task_count c.set_online-2.ensures.online
    ∙ ap task_count c.leave.ensures.left in
    omega (arith, number, same)

pub come-came-requires-clause-absent : goal.come-came-requires-clause-absent
come-came-requires-clause-absent c =
    let s = c.args.links.now in
    let task = c.in-Some.task in
    let number = linked_number s c.args.p task c.on.ensures.valid (sym c.on.ensures.value ∙ c.in-Some.is) in
    let low : task < length s.ready = omega (arith, number, c.on.ensures.valid.ready_count) in
    ap (λ (x : State). is_ready x task) c.set_online-2.ensures.online ∙ ap (λ (x : State). is_ready x task) c.leave.ensures.left
    ∙ get_or-set_same s.ready task false false low

pub returns-clause-step : goal.returns-clause-step
returns-clause-step c =
    let off = c.set_online-2.ensures.online ∙ ap (λ (x : State). state_with_offline x c.args.p) c.leave.ensures.left in
    inr (inr record {
      moved = record { task = c.in-Some.task; came = c.come-came.result };
      occupied = sym c.on.ensures.value ∙ c.in-Some.is;
      answer = refl;
      comes = subst (λ (x : State). Comes x c.in-Some.task c.come-came.result c.come-came.new.links) off c.come-came.ensures.comes;
    })
