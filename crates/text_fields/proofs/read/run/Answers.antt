use Rattle.std.proofs.Common.{◌≡◌, ◌≢◌, [], ap, inl, inr, arith, rules}
use Rattle.std.proofs.lemmas.List.{nil_from_length}
use Rattle.text_fields.specs.Lines.{lines_of}
use Rattle.text_fields.specs.Machine.{Leads, Fails, IsText, Refuses}
use Rattle.text_fields.proofs.LinesRead.{first_of_lines, rest_is_shorter}
use Rattle.text_fields.proofs.PlainLines.{plain_first}
use Rattle.text_fields.proofs.TextLaws as lawful
use Rattle.text_fields.proofs.LineRule.{lines_machine}
use Rattle.text_fields.proofs.read.run.Goals as goal

pub after_line-requires-clause-plain : goal.after_line-requires-clause-plain
after_line-requires-clause-plain g c =
    λ known. (plain_first c.loop-rest.rest.now _ _ c.first_line.ensures (c.loop-rest.invariant.plain known)).0

pub returns-in-Err-clause-refused : goal.returns-in-Err-clause-refused
returns-in-Err-clause-refused g c = elim c.in-Err.ensures.refused [
  | inl none ↦ inl none
  | inr fault ↦ inr (c.loop-rest.invariant.answers (Refuses c.loop-rest.line c.in-Err.kind)
      (lawful.refused_at (lines_machine g.M.LineMachine.LONGEST_LINE g.M.LineMachine.HAS_COMMENTS g.M.LineMachine.kind_of c.requires.lawful)
      lines_of
      c.loop-rest.line _ _ _ _ c.in-Err.kind (first_of_lines c.loop-rest.rest.now _ _ (search rules) c.first_line.ensures) fault))
]

pub loop-rest-preserved : goal.loop-rest-preserved
loop-rest-preserved g c =
    let some : c.loop-rest.rest.now ≢ [] = search rules in
    let bound = c.loop-rest.invariant.bound in
    let shorter = rest_is_shorter c.loop-rest.rest.now _ _ some c.first_line.ensures in
    let machine = (lines_machine g.M.LineMachine.LONGEST_LINE g.M.LineMachine.HAS_COMMENTS g.M.LineMachine.kind_of c.requires.lawful) in
    record {
      answers = λ answer later. c.loop-rest.invariant.answers answer
          (lawful.led_on machine lines_of
          c.loop-rest.line _ _ _ _ _ answer (first_of_lines c.loop-rest.rest.now _ _ some c.first_line.ensures) c.in-Ok.ensures.read later);
      valid = machine.keeps (g.M.LineMachine.progress c.loop-rest.machine) _ _ c.loop-rest.invariant.valid c.in-Ok.ensures.read;
      plain = λ known. (plain_first c.loop-rest.rest.now _ _ c.first_line.ensures (c.loop-rest.invariant.plain known)).1;
      bound = omega (arith, bound, shorter);
    }

pub returns-in-Ok-at_end-clause-read : goal.returns-in-Ok-at_end-clause-read
returns-in-Ok-at_end-clause-read g c =
    let none : c.loop-rest.rest.now ≡ [] = nil_from_length c.loop-rest.rest.now (search rules) in
    c.loop-rest.invariant.answers (IsText c.in-Ok-at_end.value)
    (lawful.ended_at (lines_machine g.M.LineMachine.LONGEST_LINE g.M.LineMachine.HAS_COMMENTS g.M.LineMachine.kind_of c.requires.lawful)
    lines_of
    c.loop-rest.line _ (lines_of c.loop-rest.rest.now) (Leads c.in-Ok-at_end.value) (ap lines_of none) c.in-Ok-at_end.ensures)

pub returns-clause-refused : goal.returns-clause-refused
returns-clause-refused g c =
    let none : c.loop-rest.rest.now ≡ [] = nil_from_length c.loop-rest.rest.now (search rules) in
    elim c.in-Err-at_end.ensures [
      | inl memory ↦ inl memory
      | inr fault ↦ inr (c.loop-rest.invariant.answers (Refuses c.loop-rest.line c.in-Err-at_end.kind)
          (lawful.ended_at (lines_machine g.M.LineMachine.LONGEST_LINE g.M.LineMachine.HAS_COMMENTS g.M.LineMachine.kind_of
          c.requires.lawful) lines_of
          c.loop-rest.line _ (lines_of c.loop-rest.rest.now) (Fails c.in-Err-at_end.kind) (ap lines_of none) fault))
    ]
