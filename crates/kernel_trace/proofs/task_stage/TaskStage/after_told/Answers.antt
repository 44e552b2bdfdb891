use Rattle.std.proofs.Common.{◌≡◌, ◌⊎◌, IfErr, sym, ◌∙◌, subst}
use Rattle.std.specs.Prelude.{OnOk}
use Rattle.text_fields.specs.Machine.{Leads, Fails}
use Rattle.kernel_trace.specs.Passage.{FollowingOutcome}
use Rattle.kernel_trace.specs.PassageView.{following_of}
use Rattle.kernel_trace.specs.Reading.{course_of, IsOutOfMemory}
use Rattle.kernel_trace.specs.StampView.{time_of}
use Rattle.kernel_trace.proofs.Followed.{told_used}
use Rattle.kernel_trace.proofs.task_stage.TaskStage.after_told.Goals as goal

pub returns-then-pass_to-clause-read : goal.returns-then-pass_to-clause-read
returns-then-pass_to-clause-read c =
    let same = told_used (following_of c.args.self.now) (course_of c.args.self.now.stage.course) (course_of c.pass_to.new.self)
    (time_of c.args.stamp)
    c.args.change c.args.told c.in-Some.told c.in-Some.is (sym c.is_backward.ensures ∙ c.if-is_backward.false)
    (sym c.pass_to.ensures.used ∙ c.if-pass_to.true) c.pass_to.ensures.course in
    subst (λ (o : FollowingOutcome). OnOk c.follow.result (o ≡ Leads (following_of c.follow.new.self))) (sym same) c.follow.ensures.read

pub returns-then-pass_to-clause-refused : goal.returns-then-pass_to-clause-refused
returns-then-pass_to-clause-refused c =
    let same = told_used (following_of c.args.self.now) (course_of c.args.self.now.stage.course) (course_of c.pass_to.new.self)
    (time_of c.args.stamp)
    c.args.change c.args.told c.in-Some.told c.in-Some.is (sym c.is_backward.ensures ∙ c.if-is_backward.false)
    (sym c.pass_to.ensures.used ∙ c.if-pass_to.true) c.pass_to.ensures.course in
    subst (λ (o : FollowingOutcome). IfErr c.follow.result (λ kind. IsOutOfMemory kind ⊎ (o ≡ Fails kind))) (sym same)
    c.follow.ensures.refused
