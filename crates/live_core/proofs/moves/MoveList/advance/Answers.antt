use Rattle.std.proofs.Common.{◌≡◌, ℕ, ◌+◌, ◌-◌, List, Option, ◌++◌, length, get_or, drop, ap, ◌∙◌, arith, append_assoc}
use Rattle.live_core.specs.Moves.{occupant_at}
use Rattle.live_core.specs.MoveData.{shifts_along, shift_of}
use Rattle.live_core.specs.declared.moves.Move.{Move}
use Rattle.live_core.proofs.Replaying.{DoesMore-then, DoesMore-length}
use Rattle.live_core.proofs.PassingOn.{advance_turn}
use Rattle.live_core.proofs.moves.MoveList.advance.Goals as goal

pub shift-requires-clause-from : goal.shift-requires-clause-from
shift-requires-clause-from c =
    let same = DoesMore-length _ c.args.self.now c.loop-i.self c.loop-i.invariant.more in
    rw same (c.requires.can.below (length c.args.chain.now - c.loop-i.i - 1) (omega arith))

pub shift-requires-clause-to : goal.shift-requires-clause-to
shift-requires-clause-to c =
    let same = DoesMore-length _ c.args.self.now c.loop-i.self c.loop-i.invariant.more in
    rw same (c.requires.can.below (length c.args.chain.now - c.loop-i.i) (omega arith))

pub shift-requires-clause-somebody : goal.shift-requires-clause-somebody
shift-requires-clause-somebody c =
    let chain = c.args.chain.now in
    let same = DoesMore-length _ c.args.self.now c.loop-i.self c.loop-i.invariant.more in
    (advance_turn c.args.self.now.occupants c.loop-i.self.occupants chain (length chain - c.loop-i.i - 1) (length chain - c.loop-i.i)
    (omega arith) c.requires.can (omega arith) same c.loop-i.invariant.passed).somebody

pub shift-requires-clause-nobody : goal.shift-requires-clause-nobody
shift-requires-clause-nobody c =
    let chain = c.args.chain.now in
    let same = DoesMore-length _ c.args.self.now c.loop-i.self c.loop-i.invariant.more in
    (advance_turn c.args.self.now.occupants c.loop-i.self.occupants chain (length chain - c.loop-i.i - 1) (length chain - c.loop-i.i)
    (omega arith) c.requires.can (omega arith) same c.loop-i.invariant.passed).nobody

pub loop-i-preserved : goal.loop-i-preserved
loop-i-preserved c =
    let chain = c.args.chain.now in
    let i = c.loop-i.i in
    let same = DoesMore-length _ c.args.self.now c.loop-i.self c.loop-i.invariant.more in
    let turn = advance_turn c.args.self.now.occupants c.loop-i.self.occupants chain (length chain - i - 1) (length chain - i) (omega arith)
    c.requires.can (omega arith) same c.loop-i.invariant.passed in
    let e : length chain - (i + 1) ≡ length chain - i - 1 = omega arith in
    record {
      added =
          c.shift.ensures.added ∙ ap (λ (moves : List Move). moves
          ++ shift_of (occupant_at c.loop-i.self.occupants (get_or chain (length chain - i - 1) 0))
          (get_or chain (length chain - i - 1) 0) (get_or chain (length chain - i) 0)) c.loop-i.invariant.added
          ∙ append_assoc c.args.self.now.moves (shifts_along c.args.self.now.occupants (drop (length chain - i) chain)) _
          ∙ ap (λ (moves : List Move). c.args.self.now.moves ++ moves) (rw e turn.listed);
      more = DoesMore-then (i - 1) 1 (i + 1 - 1) c.args.self.now c.loop-i.self c.shift.new.self c.loop-i.invariant.more c.shift.ensures.more
          (omega arith);
      passed = λ p. ap (λ (on : List (Option ℕ)). occupant_at on p) c.shift.ensures.occupants ∙ rw e (turn.after p);
    }
