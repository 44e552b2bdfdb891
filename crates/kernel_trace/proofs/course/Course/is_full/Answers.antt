use Rattle.std.proofs.Common.{◌≡◌, ◌≤◌, ◌%◌, length, sym, ap, ◌∙◌, arith, rules}
use Rattle.kernel_trace.specs.Course.{passed}
use Rattle.kernel_trace.specs.Reading.{course_of}
use Rattle.kernel_trace.proofs.Courses.{part, part_zero, part_some, full_is}
use Rattle.kernel_trace.proofs.course.Course.is_full.Goals as goal
use Rattle.kernel_trace.proofs.course.Course.is_full.Goals.{then-passed-eq0, else-passed-eq0}

pub returns-else-len-gt-MAX_EVENTS : goal.returns-else-len-gt-MAX_EVENTS
returns-else-len-gt-MAX_EVENTS c =
    let count : c.len-else-len-gt-MAX_EVENTS.result ≡ length c.args.self.now.events.items = search rules in
    let few : c.len-else-len-gt-MAX_EVENTS.result ≤ 20000 = search (rules, arith) in
    let more : c.if-passed-eq0.part ≡ part (c.passed-passed.result % 1000000) = elim c.if-passed-eq0.branch [
      | then-passed-eq0 w ↦ w.part-is ∙ sym (ap part w.if-passed-eq0.true ∙ part_zero)
      | else-passed-eq0 w ↦ w.part-is ∙ sym (part_some (c.passed-passed.result % 1000000) w.if-passed-eq0.false)
    ] in
    full_is c.args.self.now.events.items c.len-else-len-gt-MAX_EVENTS.result (passed (course_of c.args.self.now))
    c.passed-passed.result c.if-passed-eq0.part count few c.passed-passed.ensures more
