use Rattle.std.proofs.Common.{ℕ, ◌-◌, ◌<◌, List, Option, Some, length, get_or, refl, sym, ap, ◌∙◌, arith, eqb-true}
use Rattle.live_core.specs.Moves.{occupant_at}
use Rattle.live_core.specs.MoveData.{DoesMore, occupant_passed}
use Rattle.live_core.proofs.Replaying.{DoesMore-then, DoesMore-length}
use Rattle.live_core.proofs.PassingOn.{CanPassOn-without_last, passes_to, passes_nothing, turned, guest_arrives, first_is_free, nowhere_yet}
use Rattle.live_core.proofs.moves.MoveList.pass_on.Goals as goal

pub returns-then-is_empty-clause-occupants : goal.returns-then-is_empty-clause-occupants
returns-then-is_empty-clause-occupants c = λ after passes.
    passes_nothing c.args.self.now.occupants c.args.guest c.args.chain.now after passes
    (eqb-true (length c.args.chain.now) 0 (sym c.is_empty.ensures ∙ c.if-is_empty.true))

pub advance-requires-clause-can : goal.advance-requires-clause-can
advance-requires-clause-can c =
    let chain = c.args.chain.now in
    let some : 0 < length chain = grind arith in
    rw c.stop.ensures.occupants (CanPassOn-without_last c.args.self.now.occupants (get_or chain (length chain - 1) 0)
    chain c.requires.can.1.can refl)

pub start-requires-clause-to : goal.start-requires-clause-to
start-requires-clause-to c =
    let some : 0 < length c.args.chain.now = grind arith in
    let stopped = DoesMore-length 1 c.args.self.now c.stop.new.self c.stop.ensures.more in
    let same = DoesMore-length _ c.stop.new.self c.advance.new.self c.advance.ensures.more in
    rw (same, stopped) (c.requires.can.1.can.below 0 some)

pub start-requires-clause-nobody : goal.start-requires-clause-nobody
start-requires-clause-nobody c =
    let some : 0 < length c.args.chain.now = grind arith in
    first_is_free c.args.self.now.occupants c.stop.new.self.occupants c.advance.new.self.occupants c.args.chain.now some
    c.requires.can.1.can c.stop.ensures.occupants c.advance.ensures.occupants

pub start-requires-clause-nowhere : goal.start-requires-clause-nowhere
start-requires-clause-nowhere c =
    let some : 0 < length c.args.chain.now = grind arith in
    nowhere_yet c.args.self.now.occupants c.stop.new.self.occupants c.advance.new.self.occupants c.args.chain.now some c.requires.can.1.can
    c.stop.ensures.occupants c.advance.ensures.occupants
    c.in-Some.task (c.requires.can.1.nowhere some c.in-Some.task c.in-Some.is)

pub returns-in-Some-clause-more : goal.returns-in-Some-clause-more
returns-in-Some-clause-more c =
    let n = length c.args.chain.now in
    let fits = c.requires.can.1.fits in
    let some : 0 < length c.args.chain.now = grind arith in
    let both : DoesMore 64 c.args.self.now c.advance.new.self = DoesMore-then 1 (n - 1)
    64 c.args.self.now c.stop.new.self c.advance.new.self c.stop.ensures.more c.advance.ensures.more (omega arith) in
    DoesMore-then 64 1 65 c.args.self.now c.advance.new.self c.start.new.self both c.start.ensures.more (omega arith)

pub returns-in-Some-clause-occupants : goal.returns-in-Some-clause-occupants
returns-in-Some-clause-occupants c = λ after passes.
    let chain = c.args.chain.now in
    let on = c.args.self.now.occupants in
    let some : 0 < length c.args.chain.now = grind arith in
    let stopped = DoesMore-length 1 c.args.self.now c.stop.new.self c.stop.ensures.more in
    let same = DoesMore-length _ c.stop.new.self c.advance.new.self c.advance.ensures.more in
    let started = DoesMore-length 1 c.advance.new.self c.start.new.self c.start.ensures.more in
    passes_to on c.args.guest chain after c.start.new.self.occupants passes (started ∙ same ∙ stopped) (λ p.
    ap (λ (o : List (Option ℕ)). occupant_at o p) c.start.ensures.occupants
    ∙ guest_arrives on c.stop.new.self.occupants c.advance.new.self.occupants chain some passes.can c.stop.ensures.occupants
    c.advance.ensures.occupants (same ∙ stopped) (Some c.in-Some.task) p
    ∙ ap (λ (guest : Option ℕ). occupant_passed on guest chain p) (sym c.in-Some.is))

pub returns-in_default-clause-more : goal.returns-in_default-clause-more
returns-in_default-clause-more c =
    let n = length c.args.chain.now in
    let fits = c.requires.can.1.fits in
    let some : 0 < length c.args.chain.now = grind arith in
    DoesMore-then 1 (n - 1) 65 c.args.self.now c.stop.new.self c.advance.new.self c.stop.ensures.more c.advance.ensures.more (omega arith)

pub returns-in_default-clause-occupants : goal.returns-in_default-clause-occupants
returns-in_default-clause-occupants c = λ after passes.
    let chain = c.args.chain.now in
    let on = c.args.self.now.occupants in
    let some : 0 < length c.args.chain.now = grind arith in
    let stopped = DoesMore-length 1 c.args.self.now c.stop.new.self c.stop.ensures.more in
    let same = DoesMore-length _ c.stop.new.self c.advance.new.self c.advance.ensures.more in
    passes_to on c.args.guest chain after c.advance.new.self.occupants passes (same ∙ stopped) (λ p.
    turned on c.stop.new.self.occupants c.advance.new.self.occupants chain some passes.can c.stop.ensures.occupants
    c.advance.ensures.occupants p
    ∙ ap (λ (guest : Option ℕ). occupant_passed on guest chain p) (sym c.in_default.is))
