use Rattle.std.proofs.Common.{◌≡◌, ◌≤◌, length, sym, ap, ◌∙◌, subst, List, Option, Some, ℕ}
use Rattle.std.proofs.lemmas.List.{with_items_is}
use Rattle.strong_apa.specs.State.{State, task_count}
use Rattle.live_core.specs.Seen.{SeenData, seen_at, IsTable, IsLost, Helps}
use Rattle.live_core.proofs.SeenTables.{lost_number, lost_waits}
use Rattle.strong_apa.specs.Chain.{state_after_shift}
use Rattle.live_core.specs.Moves.{MovesLead}
use Rattle.live_core.specs.MoveData.{MoveData, PassesOn, passing_moves}
use Rattle.live_core.proofs.Counted.{passing-length, passing-moves_once}
use Rattle.live_core.proofs.Helping.{helps, chain_passes}
use Rattle.live_core.proofs.seen.SeenPlacement.help.Goals as goal

pub shift-requires-clause-number : goal.shift-requires-clause-number
shift-requires-clause-number c =
    let table = subst (λ (d : SeenData). IsTable c.args.links.now d.seen d.table) (sym c.self.view_is) c.requires.table in
    let lost = subst (λ (d : SeenData). IsLost c.args.links.now d.table c.args.t) (sym c.self.view_is) c.requires.lost in
    lost_number c.args.links.now c.self.inside.table c.self.inside.seen.items c.args.t c.processors-valid.ensures.valid table lost

pub shift-requires-clause-waits : goal.shift-requires-clause-waits
shift-requires-clause-waits c =
    let table = subst (λ (d : SeenData). IsTable c.args.links.now d.seen d.table) (sym c.self.view_is) c.requires.table in
    let lost = subst (λ (d : SeenData). IsLost c.args.links.now d.table c.args.t) (sym c.self.view_is) c.requires.lost in
    lost_waits c.args.links.now c.self.inside.table c.self.inside.seen.items c.args.t c.processors-valid.ensures.valid table lost

pub begin_at-requires : goal.begin_at-requires
begin_at-requires c =
    let table = subst (λ (d : SeenData). IsTable c.args.links.now d.seen d.table) (sym c.self.view_is) c.requires.table in
    c.requires.processors ∙ sym (ap (λ (x : State). x.processors) table.same)

pub let_in-requires-clause-can : goal.let_in-requires-clause-can
let_in-requires-clause-can c =
    let a = c.self.inside.table in
    let chain = c.chain_of_lost-chain.result in
    let table = subst (λ (d : SeenData). IsTable c.args.links.now d.seen d.table) (sym c.self.view_is) c.requires.table in
    let lost = subst (λ (d : SeenData). IsLost c.args.links.now d.table c.args.t) (sym c.self.view_is) c.requires.lost in
    let waits = lost_waits c.args.links.now a c.self.inside.seen.items c.args.t c.processors-valid.ensures.valid table lost in
    let fits = subst (λ (xs : List ℕ). length xs ≤ 64) c.processors.ensures.value c.processors.ensures.fits in
    let passes = chain_passes a c.args.t chain table.state waits c.chain_of_lost-chain.ensures.least c.chain_of_lost-chain.ensures.simple
    fits in
    ((state_after_shift a c.args.t chain).on, rw (c.begin_at.ensures, c.processors.ensures.value) passes)

pub invariant_of-self : goal.invariant_of-self
invariant_of-self c =
    rw (with_items_is c.self.inside.seen c.note_holders.new.seen (c.note_holders.ensures.count ∙ c.deref_mut.ensures.len))
    (c.note_holders.ensures.count ∙ ap (λ (l : List (Option ℕ)). length l) c.deref_mut.ensures.value ∙ c.self.invariant
    ∙ sym (ap task_count c.shift.ensures.links))

pub returns : goal.returns
returns c =
    let s = c.args.links.now in
    let old : SeenData = record { seen = c.self.inside.seen.items; table = c.self.inside.table; is_settled = c.self.inside.is_settled } in
    let new : SeenData = record { seen = c.note_holders.new.seen; table = c.shift.new.self; is_settled = c.self.inside.is_settled } in
    let moves = c.let_in.new.self.moves in
    let a = c.self.inside.table in
    let chain = c.chain_of_lost-chain.result in
    let table = subst (λ (d : SeenData). IsTable c.args.links.now d.seen d.table) (sym c.self.view_is) c.requires.table in
    let lost = subst (λ (d : SeenData). IsLost c.args.links.now d.table c.args.t) (sym c.self.view_is) c.requires.lost in
    let waits = lost_waits c.args.links.now a c.self.inside.seen.items c.args.t c.processors-valid.ensures.valid table lost in
    let fits = subst (λ (xs : List ℕ). length xs ≤ 64) c.processors.ensures.value c.processors.ensures.fits in
    let passes = chain_passes a c.args.t chain table.state waits c.chain_of_lost-chain.ensures.least c.chain_of_lost-chain.ensures.simple
    fits in
    let there : (state_after_shift a c.args.t chain).on ≡ c.shift.new.self.on = sym (ap (λ (x : State). x.on) c.shift.ensures.links) in
    let reached = c.let_in.ensures.occupants (state_after_shift a c.args.t chain).on
    (rw (c.begin_at.ensures, c.processors.ensures.value) passes) ∙ there in
    let replays = subst (λ (on : List (Option ℕ)). MovesLead on moves c.shift.new.self.on)
    (ap (λ (d : MoveData). d.occupants) c.begin_at.ensures)
    (subst (λ (on : List (Option ℕ)). MovesLead c.begin_at.new.self.occupants moves on) reached c.let_in.ensures.moves) in
    let exact : moves ≡ passing_moves a.on (Some c.args.t) chain =
    c.let_in.ensures.exact ∙ ap (λ (d : MoveData). passing_moves d.occupants (Some c.args.t) c.processors.result.now) c.begin_at.ensures
    ∙ ap (λ (xs : List ℕ). passing_moves a.on (Some c.args.t) xs) c.processors.ensures.value in
    let then = subst (λ (on : List (Option ℕ)). PassesOn a.on (Some c.args.t) chain on) there passes in
    record {
      helps = rw (with_items_is c.self.inside.seen c.note_holders.new.seen (c.note_holders.ensures.count ∙ c.deref_mut.ensures.len))
          (subst (λ (d : SeenData). Helps s c.args.t d chain moves new) c.self.view_is
          (helps s c.args.t old chain moves new table lost waits c.chain_of_lost-chain.ensures.least c.chain_of_lost-chain.ensures.simple
          c.shift.ensures.links c.shift.ensures.valid c.note_holders.ensures.moved
          (λ u nowhere. c.note_holders.ensures.others u nowhere ∙ ap (λ (l : List (Option ℕ)). seen_at l u) c.deref_mut.ensures.value)
          c.processors-valid.ensures.valid replays
          (rw exact (passing-length a.on (Some c.args.t) chain))
          (passing-moves_once a.on (Some c.args.t) chain c.shift.new.self.on moves table.state.once then exact replays)));
      settled = ap (λ (d : SeenData). d.is_settled) c.self.view_is;
      few = c.let_in.ensures.few;
      occupants = ap (λ (l : List (Option ℕ)). length l) reached ∙ c.shift.ensures.valid.on_count
          ∙ ap (λ (x : State). x.processors) c.shift.ensures.links ∙ ap (λ (x : State). x.processors) table.same;
    }
