use Rattle.std.proofs.Common.{sym, subst}
use Rattle.std.proofs.lemmas.Grind.{merely}
use Rattle.strong_apa.specs.State.{State}
use Rattle.job_release.specs.WeakHistory.{WeakHistoryData, state_now}
use Rattle.job_release.specs.WeakRuns.{IsNeededIn}
use Rattle.job_release.proofs.Entered.{entered, stored_are, continued}
use Rattle.job_release.proofs.weak_history.WeakHistory.enter.Goals as goal

pub invariant_of-self-inside : goal.invariant_of-self-inside
invariant_of-self-inside c =
    let e = c.apply_kept.ensures in
    let need : IsNeededIn c.self.inside.weak c.args.event =
    subst (λ (s : State). IsNeededIn s c.args.event) (sym c.self.invariant.now)
    (subst (λ (history : WeakHistoryData). IsNeededIn (state_now history) c.args.event) (sym c.self.view_is) c.requires.needed) in
    let done = entered c.apply_kept.result c.args.event c.self.inside.weak c.apply_kept.new.weak c.self.inside.events.items
    c.apply_kept.new.events.items c.self.inside.states_so_far.0
    (c.self.invariant.runs, c.self.invariant.now) c.requires.of_jobs need e.step e.follows e.stable e.listed e.same e.same_events in
    ((done.states, merely done.are), tt)

pub invariant_of-self : goal.invariant_of-self
invariant_of-self c =
    let e = c.apply_kept.ensures in
    let need : IsNeededIn c.self.inside.weak c.args.event =
    subst (λ (s : State). IsNeededIn s c.args.event) (sym c.self.invariant.now)
    (subst (λ (history : WeakHistoryData). IsNeededIn (state_now history) c.args.event) (sym c.self.view_is) c.requires.needed) in
    let done = entered c.apply_kept.result c.args.event c.self.inside.weak c.apply_kept.new.weak c.self.inside.events.items
    c.apply_kept.new.events.items c.self.inside.states_so_far.0
    (c.self.invariant.runs, c.self.invariant.now) c.requires.of_jobs need e.step e.follows e.stable e.listed e.same e.same_events in
    let are = stored_are c.apply_kept.new.weak c.apply_kept.new.events.items c.self-1.given.0 done.states done.are in
    record { runs = are.0; now = are.1 }

pub returns-clause-continues : goal.returns-clause-continues
returns-clause-continues c =
    let e = c.apply_kept.ensures in
    let need : IsNeededIn c.self.inside.weak c.args.event =
    subst (λ (s : State). IsNeededIn s c.args.event) (sym c.self.invariant.now)
    (subst (λ (history : WeakHistoryData). IsNeededIn (state_now history) c.args.event) (sym c.self.view_is) c.requires.needed) in
    let done = entered c.apply_kept.result c.args.event c.self.inside.weak c.apply_kept.new.weak c.self.inside.events.items
    c.apply_kept.new.events.items c.self.inside.states_so_far.0
    (c.self.invariant.runs, c.self.invariant.now) c.requires.of_jobs need e.step e.follows e.stable e.listed e.same e.same_events in
    continued c.apply_kept.result c.args.event c.args.self.now c.self.inside.weak c.self.inside.events.items c.self.inside.states_so_far.0
    (sym c.self.view_is) c.self.invariant.now
    c.apply_kept.new.weak c.apply_kept.new.events.items c.self-1.given.0 done e.step e.listed

pub returns-clause-valid : goal.returns-clause-valid
returns-clause-valid c =
    let e = c.apply_kept.ensures in
    let need : IsNeededIn c.self.inside.weak c.args.event =
    subst (λ (s : State). IsNeededIn s c.args.event) (sym c.self.invariant.now)
    (subst (λ (history : WeakHistoryData). IsNeededIn (state_now history) c.args.event) (sym c.self.view_is) c.requires.needed) in
    let done = entered c.apply_kept.result c.args.event c.self.inside.weak c.apply_kept.new.weak c.self.inside.events.items
    c.apply_kept.new.events.items c.self.inside.states_so_far.0
    (c.self.invariant.runs, c.self.invariant.now) c.requires.of_jobs need e.step e.follows e.stable e.listed e.same e.same_events in
    (stored_are c.apply_kept.new.weak c.apply_kept.new.events.items c.self-1.given.0 done.states done.are).0
