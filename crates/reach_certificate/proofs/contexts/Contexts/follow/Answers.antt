use Rattle.std.proofs.Common.{ℕ, List, subst, sym, ap, arith}
use Rattle.std.proofs.lemmas.List.{with_items_is}
use Rattle.reach_certificate.specs.CaughtUp.{HaveCaughtUp}
use Rattle.task_set.specs.declared.context.Context.{Context}
use Rattle.task_set.specs.declared.event.Event.TheVariants.{Tick}
use Rattle.strong_apa.specs.Dispatch.{places_of, tick_runs}
use Rattle.reach_certificate.specs.Contexts.{ContextsData, context_after_all_runs, EachBecomes, HaveFollowed}
use Rattle.reach_certificate.proofs.Following.{followed_tick, followed_other, followed_offline, touches_chains}
use Rattle.reach_certificate.proofs.contexts.Contexts.follow.Goals as goal

pub returns-in-Tick : goal.returns-in-Tick
returns-in-Tick c = λ old ok passes effect held.
    let inside = c.self.inside in
    let units = c.in-Tick.units in
    let runs : (List Context → Type 0) =
    λ each. EachBecomes (λ t context. context_after_all_runs context (tick_runs (Tick units) (places_of c.args.links.now t)))
    each c.run_linked.new.contexts in
    let ran : runs inside.each.items = subst runs c.deref_mut.ensures.value c.run_linked.ensures in
    let kept = with_items_is inside.each c.run_linked.new.contexts (omega (arith, ran.count, inside.each.ok.0)) in
    subst (λ (each : List Context). HaveFollowed old c.args.links.now c.args.entry.now.event c.args.self.now
    (record { each = each; held = inside.held.items })) (sym kept)
    (followed_tick old ok c.args.entry.now passes c.args.links.now effect c.args.self.now
    (record { each = c.run_linked.new.contexts; held = inside.held.items }) held units c.in-Tick.is
    (ap (λ (a : ContextsData). a.held) c.self.view_is)
    (subst (λ (a : ContextsData). runs a.each) c.self.view_is ran))

pub returns-in-Offline : goal.returns-in-Offline
returns-in-Offline c = λ old ok passes effect held.
    followed_offline old ok c.args.entry.now passes c.args.links.now effect c.args.self.now c.catch_up.new.self held c.in-Offline.p
    c.in-Offline.is c.catch_up_at.new.self c.requires.processors c.catch_up_at.ensures c.catch_up.ensures

pub returns-in_default : goal.returns-in_default
returns-in_default c = λ old ok passes effect held.
    followed_other old ok c.args.entry.now passes c.args.links.now effect c.args.self.now c.catch_up-in_default.new.self held
    c.in_default.not-Tick
    (subst (λ (places : List ℕ). HaveCaughtUp c.args.links.now places c.args.self.now c.catch_up-in_default.new.self)
    (sym (touches_chains c.args.entry.now.event c.args.entry.now.reply c.in_default.not-Offline)) c.catch_up-in_default.ensures)
