use Rattle.std.proofs.Common.{◌≡◌, ◌≢◌, [], ap, inl, inr, arith, rules}
use Rattle.std.proofs.lemmas.List.{nil_from_length}
use Rattle.text_fields.specs.Lines.{lines_of}
use Rattle.text_fields.specs.Machine.{Leads, Fails, IsText, Refuses}
use Rattle.kernel_trace.specs.SurveyView.{look_of}
use Rattle.kernel_trace.proofs.LinesRead.{first_of_lines, rest_is_shorter}
use Rattle.text_fields.proofs.TextLaws as lawful
use Rattle.kernel_trace.specs.Reading.{progress_of}
use Rattle.kernel_trace.proofs.Decided.{trace_machine}
use Rattle.kernel_trace.proofs.read.run.Goals as goal

pub returns-in-Err-clause-refused : goal.returns-in-Err-clause-refused
returns-in-Err-clause-refused c = elim c.in-Err.ensures.refused [
  | inl none ↦ inl none
  | inr fault ↦ inr (c.loop-rest.invariant.answers (Refuses c.loop-rest.line c.in-Err.kind)
      (lawful.refused_at (trace_machine (look_of c.args.look)) lines_of
      c.loop-rest.line _ _ _ _ c.in-Err.kind (first_of_lines c.loop-rest.rest.now _ _ (search rules) c.first_line.ensures) fault))
]

pub loop-rest-preserved : goal.loop-rest-preserved
loop-rest-preserved c =
    let some : c.loop-rest.rest.now ≢ [] = search rules in
    let bound = c.loop-rest.invariant.bound in
    let shorter = rest_is_shorter c.loop-rest.rest.now _ _ some c.first_line.ensures in
    record {
      answers = λ answer later. c.loop-rest.invariant.answers answer
          (lawful.led_on (trace_machine (look_of c.args.look)) lines_of
          c.loop-rest.line _ _ _ _ _ answer (first_of_lines c.loop-rest.rest.now _ _ some c.first_line.ensures) c.in-Ok.ensures.read later);
      valid = (let machine = trace_machine (look_of c.args.look) in machine.keeps (progress_of c.loop-rest.stage)
          _ _ c.loop-rest.invariant.valid c.in-Ok.ensures.read);
      bound = omega (arith, bound, shorter);
    }

pub returns-in-Ok-at_end-clause-input : goal.returns-in-Ok-at_end-clause-input
returns-in-Ok-at_end-clause-input c =
    let none : c.loop-rest.rest.now ≡ [] = nil_from_length c.loop-rest.rest.now (search rules) in
    c.loop-rest.invariant.answers (IsText c.in-Ok-at_end.input)
    (lawful.ended_at (trace_machine (look_of c.args.look)) lines_of
    c.loop-rest.line _ (lines_of c.loop-rest.rest.now) (Leads c.in-Ok-at_end.input) (ap lines_of none) c.in-Ok-at_end.ensures)

pub returns-clause-refused : goal.returns-clause-refused
returns-clause-refused c =
    let none : c.loop-rest.rest.now ≡ [] = nil_from_length c.loop-rest.rest.now (search rules) in
    elim c.in-Err-at_end.ensures [
      | inl memory ↦ inl memory
      | inr fault ↦ inr (c.loop-rest.invariant.answers (Refuses c.loop-rest.line c.in-Err-at_end.kind)
          (lawful.ended_at (trace_machine (look_of c.args.look)) lines_of
          c.loop-rest.line _ (lines_of c.loop-rest.rest.now) (Fails c.in-Err-at_end.kind) (ap lines_of none) fault))
    ]
