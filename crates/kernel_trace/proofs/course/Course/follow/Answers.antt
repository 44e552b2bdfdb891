use Rattle.kernel_trace.specs.Reading.{course_of}
use Rattle.kernel_trace.proofs.Courses.{not_full}
use Rattle.kernel_trace.proofs.course.Course.follow.Goals as goal

pub take_all-requires-clause-short : goal.take_all-requires-clause-short
take_all-requires-clause-short c = not_full (course_of c.args.self.now) c.is_full.result c.is_full.ensures c.if-is_full.false
