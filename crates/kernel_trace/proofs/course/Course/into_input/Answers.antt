use Rattle.std.proofs.Common.{◌≤◌, List, length, sym, ap, ◌∙◌, subst}
use Rattle.std.specs.Prelude.{All}
use Rattle.trace_reader.specs.Input.{InputData, IsPostedOf, AreOfVersion}
use Rattle.trace_reader.specs.declared.posted.Posted.{Posted}
use Rattle.kernel_trace.specs.Reading.{course_of}
use Rattle.kernel_trace.proofs.Courses.{written_is, written_posted, written_first}
use Rattle.kernel_trace.proofs.course.Course.into_input.Goals as goal

pub new-requires-clause-few : goal.new-requires-clause-few
new-requires-clause-few c =
    let same = written_is (course_of c.args.self) c.passed-passed.result c.push_ticks.new.events.items c.requires.few
    c.passed-passed.ensures c.in_ok-push_ticks.ensures in
    subst (λ (items : List Posted). length items ≤ 20000) (sym same) c.requires.few

pub new-requires-clause-events : goal.new-requires-clause-events
new-requires-clause-events c =
    let same = written_is (course_of c.args.self) c.passed-passed.result c.push_ticks.new.events.items c.requires.few
    c.passed-passed.ensures c.in_ok-push_ticks.ensures in
    subst (All (IsPostedOf c.args.self.set)) (sym same) (written_posted (course_of c.args.self) c.requires.valid)

pub new-requires-clause-of_version : goal.new-requires-clause-of_version
new-requires-clause-of_version c =
    let same = written_is (course_of c.args.self) c.passed-passed.result c.push_ticks.new.events.items c.requires.few
    c.passed-passed.ensures c.in_ok-push_ticks.ensures in
    subst (AreOfVersion 1) (sym same) (written_first (course_of c.args.self) c.requires.valid)

pub returns : goal.returns
returns c =
    let same = written_is (course_of c.args.self) c.passed-passed.result c.push_ticks.new.events.items c.requires.few
    c.passed-passed.ensures c.in_ok-push_ticks.ensures in
    let with_events : List Posted → InputData = λ items. record { version = 1; set = c.args.self.set; events = items } in
    c.new.ensures ∙ ap with_events same
