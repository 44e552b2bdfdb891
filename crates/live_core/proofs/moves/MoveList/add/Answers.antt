use Rattle.std.proofs.Common.{refl, sym, subst, arith}
use Rattle.task_set.specs.declared.event.Event.{Event}
use Rattle.live_core.specs.MoveData.{AreMovesFor}
use Rattle.live_core.proofs.Replaying.{DoesMore-nothing, DoesMore-fewer}
use Rattle.live_core.proofs.StepPasses.{Passes-same, arrival_leads, departure_leads, tick_leads, mask_leads, offline_leads, online_leads}
use Rattle.live_core.proofs.moves.MoveList.add.Goals as goal

pub pass_on-requires-clause-can : goal.pass_on-requires-clause-can
pass_on-requires-clause-can c = (
  c.requires.can.0,
  Passes-same _ _ _ _ _ _ _ refl refl c.coming_chain.ensures.value
      (arrival_leads _ _ _ _ c.requires.can.1 c.in-Arrive.t c.in-Arrive.is),
)

pub fill-requires-clause-can : goal.fill-requires-clause-can
fill-requires-clause-can c = (c.requires.can.0, departure_leads _ _ _ _ c.requires.can.1 _ c.in-Depart.is)

pub remask-requires-clause-can : goal.remask-requires-clause-can
remask-requires-clause-can c = (c.requires.can.0, mask_leads _ _ _ _ c.requires.can.1 c.in-Affinity.task _ c.in-Affinity.is)

pub go_offline-requires-clause-can : goal.go_offline-requires-clause-can
go_offline-requires-clause-can c = (c.requires.can.0, offline_leads _ _ _ _ c.requires.can.1 c.in-Offline.p c.in-Offline.is)

pub fill-requires-in-Online-clause-can : goal.fill-requires-in-Online-clause-can
fill-requires-in-Online-clause-can c = (c.requires.can.0, online_leads _ _ _ _ c.requires.can.1 _ c.in-Online.is)

pub returns-in-Arrive-clause-more : goal.returns-in-Arrive-clause-more
returns-in-Arrive-clause-more c = DoesMore-fewer 65 130 _ _ (omega arith) c.pass_on.ensures.more

pub returns-in-Arrive-clause-occupants : goal.returns-in-Arrive-clause-occupants
returns-in-Arrive-clause-occupants c = λ after leads.
    c.pass_on.ensures.occupants after (Passes-same _ _ _ _ _ _ _ refl refl c.coming_chain.ensures.value
    (arrival_leads _ _ _ _ leads c.in-Arrive.t c.in-Arrive.is))

pub returns-in-Depart-clause-more : goal.returns-in-Depart-clause-more
returns-in-Depart-clause-more c = DoesMore-fewer 65 130 _ _ (omega arith) c.fill.ensures.more

pub returns-in-Depart-clause-occupants : goal.returns-in-Depart-clause-occupants
returns-in-Depart-clause-occupants c = λ after leads. c.fill.ensures.occupants after (departure_leads _ _ _ _ leads _ c.in-Depart.is)

pub returns-in-Affinity-clause-occupants : goal.returns-in-Affinity-clause-occupants
returns-in-Affinity-clause-occupants c = λ after leads. c.remask.ensures.occupants after
    (mask_leads _ _ _ _ leads c.in-Affinity.task _ c.in-Affinity.is)

pub returns-in-Offline-clause-occupants : goal.returns-in-Offline-clause-occupants
returns-in-Offline-clause-occupants c = λ after leads. c.go_offline.ensures.occupants after
    (offline_leads _ _ _ _ leads c.in-Offline.p c.in-Offline.is)

pub returns-in-Online-clause-more : goal.returns-in-Online-clause-more
returns-in-Online-clause-more c = DoesMore-fewer 65 130 _ _ (omega arith) c.fill-in-Online.ensures.more

pub returns-in-Online-clause-occupants : goal.returns-in-Online-clause-occupants
returns-in-Online-clause-occupants c = λ after leads. c.fill-in-Online.ensures.occupants after (online_leads _ _ _ _ leads _ c.in-Online.is)

pub returns-in-Tick-clause-more : goal.returns-in-Tick-clause-more
returns-in-Tick-clause-more c = DoesMore-fewer 0 130 c.args.self.now c.args.self.now (omega arith) (DoesMore-nothing c.args.self.now)

pub returns-in-Tick-clause-occupants : goal.returns-in-Tick-clause-occupants
returns-in-Tick-clause-occupants c = λ after leads. tick_leads _ _ _ _ leads _ c.in-Tick.is

pub returns-in-Affinity-clause-exact : goal.returns-in-Affinity-clause-exact
returns-in-Affinity-clause-exact c = subst (λ (event : Event). AreMovesFor c.args.self.now.occupants event c.args.reply.now
    c.remask.new.self.moves) (sym c.in-Affinity.is) c.remask.ensures.exact
