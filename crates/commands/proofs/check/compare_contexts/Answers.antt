use Rattle.std.proofs.Common.{◌≡◌, ℕ, ◌<◌, List, length, get_or, None, Some, refl, sym, ap, ◌∙◌, subst, arith, le_antisymm}
use Rattle.std.specs.Prelude.{slice_get}
use Rattle.std.proofs.lemmas.Bool.{true≢false}
use Rattle.std.proofs.lemmas.Option.{slice_get-get_or}
use Rattle.task_set.specs.declared.context.Context.{Context}
use Rattle.commands.proofs.Compared.{all_same, bad_context, context_fits, context_task, same_more}
use Rattle.commands.proofs.Following.{followed_count}
use Rattle.commands.proofs.check.compare_contexts.Goals as goal

-- what would be read where nothing stands
nothing : Context
nothing = record { task = 0; units = 0; stints = 0; moves = 0; last = None; trail = 0 }

pub context-requires : goal.context-requires
unfolding nothing
context-requires c =
    let n = c.loop-context.context-index in
    let schedule = c.args.schedule.now in
    let valid = c.contexts-context-items.ensures.valid in
    let fits : n < length schedule.contexts = rw c.contexts-context-items.ensures.value at c.loop-context-test.true in
    let there = slice_get-get_or schedule.contexts n nothing fits in
    rw (c.contexts-context-items.ensures.value, followed_count schedule (length schedule.entries) c.args.checker.now c.requires)
    (let task = context_task schedule n (get_or schedule.contexts n nothing) valid there in let below = context_fits schedule n
    (get_or schedule.contexts n nothing) valid there in subst (λ (t : ℕ). t < length schedule.set.tasks) (sym task) below)

pub returns-then-not-is_same-clause-refused : goal.returns-then-not-is_same-clause-refused
unfolding nothing
returns-then-not-is_same-clause-refused c =
    let n = c.loop-context.context-index in
    let schedule = c.args.schedule.now in
    let fits : n < length schedule.contexts = rw c.contexts-context-items.ensures.value at c.loop-context-test.true in
    let context : Context = get_or schedule.contexts n nothing in
    let here : slice_get schedule.contexts n ≡ Some context = slice_get-get_or schedule.contexts n nothing fits in
    let task : context.task ≡ n = context_task schedule n context c.contexts-context-items.ensures.valid here in
    let read : get_or c.contexts-context-items.result.now n nothing ≡ context = ap (λ (xs : List Context). get_or xs n nothing)
    c.contexts-context-items.ensures.value in
    let there : slice_get c.args.checker.now.contexts n
    ≡ Some c.context.result.now = subst (λ (t : ℕ). slice_get c.args.checker.now.contexts t ≡ Some c.context.result.now)
    (ap (λ (x : Context). x.task) read ∙ task) c.context.ensures.value in
    let differ : c.context.result.now ≡ context
    → ⊥ = λ same. true≢false (sym (c.is_same.ensures.1 (same ∙ sym read)) ∙ c.if-not-is_same.true) in (
      c.loop-context.line,
      5,
      refl,
      bad_context schedule n c.loop-context.line 5 c.args.checker.now context c.context.result.now c.requires here there differ
          c.loop-context.invariant.same c.loop-context.invariant.line refl,
    )

pub loop-context-preserved : goal.loop-context-preserved
unfolding nothing
loop-context-preserved c =
    let n = c.loop-context.context-index in
    let schedule = c.args.schedule.now in
    let fits : n < length schedule.contexts = rw c.contexts-context-items.ensures.value at c.loop-context-test.true in
    let context : Context = get_or schedule.contexts n nothing in
    let here : slice_get schedule.contexts n ≡ Some context = slice_get-get_or schedule.contexts n nothing fits in
    let task : context.task ≡ n = context_task schedule n context c.contexts-context-items.ensures.valid here in
    let read : get_or c.contexts-context-items.result.now n nothing ≡ context = ap (λ (xs : List Context). get_or xs n nothing)
    c.contexts-context-items.ensures.value in
    let there : slice_get c.args.checker.now.contexts n
    ≡ Some c.context.result.now = subst (λ (t : ℕ). slice_get c.args.checker.now.contexts t ≡ Some c.context.result.now)
    (ap (λ (x : Context). x.task) read ∙ task) c.context.ensures.value in
    record {
      same = same_more schedule.contexts c.args.checker.now.contexts n context c.context.result.now here there
          (sym (c.is_same.ensures.0 c.if-not-is_same.false ∙ read)) c.loop-context.invariant.same;
      line = let line = c.loop-context.invariant.line in omega arith;
    }

pub returns-clause-valid : goal.returns-clause-valid
returns-clause-valid c =
    let schedule = c.args.schedule.now in
    let n = c.loop-context.context-index in
    let at_end : n ≡ length schedule.contexts = le_antisymm
    (rw c.contexts-context-items.ensures.value at c.loop-context.auto.context-index-end)
    (rw c.contexts-context-items.ensures.value at c.loop-context-test.false) in
    all_same schedule c.args.checker.now n c.contexts-context-items.ensures.valid c.requires at_end c.loop-context.invariant.same
