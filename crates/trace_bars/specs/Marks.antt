-- What a picture shows of a thread, by what holds of it at a moment.
use Rattle.std.specs.Prelude.{Option, None, Some, option_map, if◌then◌else◌}
use Rattle.std.specs.Option.{is_some}
use Rattle.trace_losses.specs.declared.seen.Seen.{Seen}
use Rattle.trace_bars.specs.declared.mark.Kind.{Kind}
use Rattle.trace_bars.specs.declared.mark.Kind.TheVariants.{Trace, Strong, Rows}
use Rattle.trace_bars.specs.declared.mark.Mark.{Mark}
use Rattle.trace_bars.specs.declared.mark.Mark.TheVariants.{Runs, Linked, Ran, Lost, Waits}
use Rattle.trace_bars.specs.declared.sight.Sight.{Sight}

-- the same sight, without the processors: the best set are the tasks that are linked
abbrev pub seen_by : Sight → Seen
seen_by sight = record { ready = sight.ready; best = is_some sight.linked; runs = is_some sight.on }

-- in the row of a thread: it ran; it was in the best set and ran nowhere; or it was ready and
-- neither
abbrev pub row_mark : Seen → Option Mark
row_mark seen = if seen.runs then Some Ran else if seen.best then Some Lost else if seen.ready
    then Some Waits else None

-- in the lanes the processor, in a row what became of it
abbrev pub mark_of : Kind → Sight → Option Mark
mark_of Trace sight = option_map Runs sight.on
mark_of Strong sight = option_map Linked sight.linked
mark_of Rows sight = row_mark (seen_by sight)
