use Rattle.std.proofs.Common.{ℕ, List, Option, refl, sym, ap, subst, ◌∙◌}
use Rattle.strong_apa.proofs.SameTasks.{same_count, same_tasks-step}
use Rattle.strong_apa.proofs.Steps.{step_keeps_state}
use Rattle.strong_apa.proofs.Best.{linked_is_best, linked_is_largest}
use Rattle.strong_apa.proofs.Improved.{no_improving_chain}
use Rattle.strong_apa.proofs.Kept.{step_keeps_certificates}
use Rattle.strong_apa.proofs.Ranked.{linked_is_as_urgent}
use Rattle.live_core.specs.Live.{LiveData}
use Rattle.live_core.specs.LiveView.{live_view}
use Rattle.live_core.specs.Moves.{MovesLead}
use Rattle.live_core.specs.MoveData.{AreMovesFor, EventLeadsTo}
use Rattle.live_core.specs.Needed.{AreNeeded}
use Rattle.live_core.specs.Slots.{IsEventInUse}
use Rattle.live_core.proofs.Counted.{needed}
use Rattle.live_core.specs.Seen.{SeenData}
use Rattle.live_core.proofs.ComingAndGoing.{free_absent_after_step}
use Rattle.live_core.proofs.Unsettled.{not_settled, same_then, same_of}
use Rattle.live_core.proofs.live.LiveCore.apply.Goals as goal

pub follow-requires : goal.follow-requires
follow-requires c =
    let reply = c.reply_to-self-inside in (
      reply.new.links.on,
      record {
        old = c.self.inside.links;
        new = reply.new.links;
        state = c.self.invariant.state;
        before = sym c.self.invariant.occupants;
        step = reply.ensures;
        links = refl;
      },
    )

pub returns-clause-valid : goal.returns-clause-valid
returns-clause-valid c =
    let reply = c.reply_to-self-inside in
    step_keeps_state c.self.inside.links c.args.event reply.result reply.new.links c.self.invariant.state reply.ensures

pub returns-clause-certified : goal.returns-clause-certified
returns-clause-certified c =
    let reply = c.reply_to-self-inside in
    step_keeps_certificates c.self.inside.links c.args.event reply.result reply.new.links c.self.invariant.state
    c.self.invariant.certificates reply.ensures

pub invariant_of-self : goal.invariant_of-self
invariant_of-self c =
    let reply = c.reply_to-self-inside in
    record {
      state = returns-clause-valid c;
      certificates = returns-clause-certified c;
      occupants = c.follow.ensures.occupants reply.new.links.on record {
        old = c.self.inside.links;
        new = reply.new.links;
        state = c.self.invariant.state;
        before = sym c.self.invariant.occupants;
        step = reply.ensures;
        links = refl;
      };
      few = c.follow.ensures.few;
      slots = c.self.invariant.slots ∙ sym (same_count c.self.inside.links reply.new.links
          (same_tasks-step c.self.inside.links c.args.event reply.result reply.new.links reply.ensures));
      free_absent =
          free_absent_after_step (live_view c.self.inside) c.args.event reply.result reply.new.links c.self.invariant.state
          (subst (λ (d : LiveData). IsEventInUse d c.args.event) (sym c.self.view_is) c.requires.in_use)
          reply.ensures c.self.invariant.free_absent;
      tasks =
          same_of c.self.inside.seen.table c.unsettle.new.self.table reply.new.links (ap (λ (d : SeenData). d.table) c.unsettle.ensures)
          (same_then c.self.inside.seen.table c.self.inside.links reply.new.links c.self.invariant.tasks
          (same_tasks-step c.self.inside.links c.args.event reply.result reply.new.links reply.ensures));
      settled = not_settled reply.new.links c.unsettle.new.self (ap (λ (d : SeenData). d.is_settled) c.unsettle.ensures);
    }

pub returns-clause-moves : goal.returns-clause-moves
returns-clause-moves c =
    let reply = c.reply_to-self-inside in
    let same = c.follow.ensures.occupants reply.new.links.on record {
      old = c.self.inside.links;
      new = reply.new.links;
      state = c.self.invariant.state;
      before = sym c.self.invariant.occupants;
      step = reply.ensures;
      links = refl;
    } in
    subst (λ (d : LiveData). MovesLead d.links.on c.follow.new.self.moves reply.new.links.on) c.self.view_is
    (subst (λ (on : List (Option ℕ)). MovesLead on c.follow.new.self.moves reply.new.links.on) c.self.invariant.occupants
    (subst (λ (on : List (Option ℕ)). MovesLead c.self.inside.moves.occupants c.follow.new.self.moves on) same c.follow.ensures.moves))

pub returns-clause-needed : goal.returns-clause-needed
returns-clause-needed c =
    let reply = c.reply_to-self-inside in
    let on = c.self.inside.links.on in
    let leads : EventLeadsTo on c.args.event reply.result reply.new.links.on = record {
      old = c.self.inside.links;
      new = reply.new.links;
      state = c.self.invariant.state;
      before = refl;
      step = reply.ensures;
      links = refl;
    } in
    let same = c.follow.ensures.occupants reply.new.links.on record {
      old = c.self.inside.links;
      new = reply.new.links;
      state = c.self.invariant.state;
      before = sym c.self.invariant.occupants;
      step = reply.ensures;
      links = refl;
    } in
    let exact = subst (λ (o : List (Option ℕ)). AreMovesFor o c.args.event reply.result c.follow.new.self.moves)
    c.self.invariant.occupants c.follow.ensures.exact in
    let replays : MovesLead on c.follow.new.self.moves reply.new.links.on =
    subst (λ (o : List (Option ℕ)). MovesLead o c.follow.new.self.moves reply.new.links.on) c.self.invariant.occupants
    (subst (λ (o : List (Option ℕ)). MovesLead c.self.inside.moves.occupants c.follow.new.self.moves o) same c.follow.ensures.moves) in
    subst (λ (d : LiveData). AreNeeded c.args.event reply.result d.links.on reply.new.links.on c.follow.new.self.moves) c.self.view_is
    (needed on c.args.event reply.result reply.new.links.on c.follow.new.self.moves leads exact replays)

pub returns-clause-unimprovable : goal.returns-clause-unimprovable
returns-clause-unimprovable c = no_improving_chain c.reply_to-self-inside.new.links (returns-clause-certified c)

pub returns-clause-best : goal.returns-clause-best
returns-clause-best c = linked_is_best c.reply_to-self-inside.new.links (returns-clause-valid c) (returns-clause-certified c)

pub returns-clause-largest : goal.returns-clause-largest
returns-clause-largest c = linked_is_largest c.reply_to-self-inside.new.links (returns-clause-valid c) (returns-clause-certified c)

pub returns-clause-rank_by_rank : goal.returns-clause-rank_by_rank
returns-clause-rank_by_rank c = linked_is_as_urgent c.reply_to-self-inside.new.links (returns-clause-valid c) (returns-clause-certified c)
