use Rattle.std.proofs.Common.{inl, inr, subst, ◌+◌}
use Rattle.schedule_text.specs.declared.stage.Reached.TheVariants.{End}
use Rattle.schedule_text.specs.Reading.{progress_of, progress_after}
use Rattle.schedule_text.proofs.SoFar.{IsReadTo, leads_whole, read_more, read_short, read_fault, end_answer}
use Rattle.schedule_text.proofs.read.read_lines.Goals as goal

pub returns-in_default : goal.returns-in_default
returns-in_default c = (
  tt,
  inr (read_short c.args.bytes.now c.loop-text.rest.now c.loop-text.line c.loop-text.stage c.loop-text.invariant
      c.in_default.ensures),
)

pub loop-text-preserved : goal.loop-text-preserved
loop-text-preserved c =
    read_more c.args.bytes.now c.loop-text.rest.now _ _ c.loop-text.line (progress_of c.loop-text.stage) _
    c.loop-text.invariant c.in-Some.ensures
    (rw c.in-Ok-Expected.field-0-is at c.in-Ok-Expected.ensures.read)

pub returns-in-Ok-End : goal.returns-in-Ok-End
returns-in-Ok-End c =
    let so_far =
    read_more c.args.bytes.now c.loop-text.rest.now _ _ c.loop-text.line (progress_of c.loop-text.stage)
    (progress_after End c.after_line.new.self) c.loop-text.invariant c.in-Some.ensures
    (rw c.in-Ok-End.field-0-is at c.in-Ok-End.ensures.read) in
    end_answer c.args.bytes.now c.in-Some.after.now (c.loop-text.line + 1) c.into_schedule.result
    (subst (IsReadTo c.args.bytes.now c.in-Some.after.now (c.loop-text.line + 1)) c.into_schedule.ensures so_far)
    c.at_end.result c.at_end.ensures.read c.at_end.ensures.refused

pub into_schedule-requires : goal.into_schedule-requires
into_schedule-requires c =
    leads_whole (progress_of c.loop-text.stage) c.in-Some.text.now c.after_line.new.self c.loop-text.invariant.prefix
    (rw c.in-Ok-End.field-0-is at c.in-Ok-End.ensures.read)

pub returns-in-Err : goal.returns-in-Err
returns-in-Err c = (
  tt,
  elim (rw c.in-Err.kind-is at c.in-Err.ensures.refused) [
    | inl none ↦ inl none
    | inr fault ↦ inr (read_fault c.args.bytes.now c.loop-text.rest.now _ _ c.loop-text.line
        (progress_of c.loop-text.stage) c.in-Err.kind c.loop-text.invariant c.in-Some.ensures fault)
  ],
)
