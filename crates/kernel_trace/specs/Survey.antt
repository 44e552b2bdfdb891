-- What is said of a whole text of a trace, before its lines are read one by one: which word is that
-- of a wakeup, and where the recorder overwrote its oldest lines, from when on those of all
-- processors are there.
use Rattle.std.specs.Prelude.{ℕ, ◌++◌, Bool, true, false, not, ◌&&◌, ◌==◌, nat_eq, nat_le, List, []}
use Rattle.std.specs.Prelude.{◌∷◌, codes, Option, None, Some, is_some, fold, if◌then◌else◌}
use Rattle.std.specs.List.{list_any, before_first, after_first}
use Rattle.std.specs.Str.{bytes_eq}
use Rattle.text_fields.specs.Lines.{fields_of}
use Rattle.kernel_trace.specs.Course.{WindowData}
use Rattle.kernel_trace.specs.Processor.{processor_of}
use Rattle.kernel_trace.specs.TraceLine.{TraceEvent, bare_word, event_in}

-- whether `sched_waking` is the word of a wakeup; and from when on the lines of all processors are
-- there, in nanoseconds
pub record SurveyData : Type 0 where
  pub waking : Bool
  pub whole : Option ℕ

-- ---- the word of a wakeup
-- the field is `sched_wakeup:`, with or without `sched:` before it
unfoldable pub is_plain_wakeup : List ℕ → Bool
is_plain_wakeup field = bytes_eq (bare_word field) (codes "sched_wakeup:")

-- some field of the line is
abbrev pub has_wakeup : List ℕ → Bool
has_wakeup line = list_any is_plain_wakeup (fields_of line)

-- no field of any line is: the recorder wrote `sched_waking` in its place
abbrev pub hears_waking : List (List ℕ) → Bool
hears_waking lines = not (list_any has_wakeup lines)

-- ---- what was overwritten
-- the byte is a slash
abbrev pub is_slash : ℕ → Bool
is_slash byte = byte == 47

-- what stands before the first slash of a field
abbrev pub before_slash : List ℕ → List ℕ
before_slash field = before_first is_slash field

-- what stands behind it
abbrev pub behind_slash : List ℕ → List ℕ
behind_slash field = after_first is_slash field

-- the two differ
abbrev pub differ_at_slash : List ℕ → Bool
differ_at_slash field = not (bytes_eq (before_slash field) (behind_slash field))

-- the head of ftrace says that more lines were written than are left
abbrev pub tells_of_overwriting : List (List ℕ) → Bool
tells_of_overwriting (mark ∷ word ∷ counts ∷ rest) =
    bytes_eq mark (codes "#") && bytes_eq word (codes "entries-in-buffer/entries-written:")
    && differ_at_slash counts
tells_of_overwriting fields = false

-- some line before the first one of the scheduler says so
abbrev pub begins_overwritten : Bool → List (List ℕ) → Bool
begins_overwritten waking [] = false
begins_overwritten waking (line ∷ rest) =
    if tells_of_overwriting (fields_of line)
    then true
    else (if is_some (event_in waking (fields_of line)) then false
    else begins_overwritten waking rest)

-- the processors that some lines named, and the time of the last line that named a new one
pub record SightingData : Type 0 where
  pub processors : List ℕ
  pub time : Option ℕ

-- one line more, at this event and on this processor
abbrev pub sighted : SightingData → Option TraceEvent → Option ℕ → SightingData
sighted s None processor = s
sighted s (Some event) None = s
sighted s (Some event) (Some processor) =
    if list_any (nat_eq processor) s.processors
    then s
    else record { processors = s.processors ++ processor ∷ []; time = Some event.time }

abbrev pub sighted_line : Bool → SightingData → List ℕ → SightingData
sighted_line waking s line =
    sighted s (event_in waking (fields_of line)) (processor_of waking (fields_of line))

-- no line yet
abbrev pub nothing_sighted : SightingData
nothing_sighted = record { processors = []; time = None }

-- from when on each processor that some line of the scheduler names has had one
abbrev pub whole_from : Bool → List (List ℕ) → Option ℕ
whole_from waking lines = (fold (sighted_line waking) nothing_sighted lines).time

-- ---- both
abbrev pub survey_with : Bool → List (List ℕ) → SurveyData
survey_with waking lines =
    record {
      waking = waking;
      whole = (if begins_overwritten waking lines
          then whole_from waking lines else None);
    }

-- what is said of all lines of a text
abbrev pub survey_of : List (List ℕ) → SurveyData
survey_of lines = survey_with (hears_waking lines) lines

-- the window begins where the lines of all processors are there
abbrev pub begins_whole : Option WindowData → Option ℕ → Bool
begins_whole None whole = false
begins_whole (Some window) None = false
begins_whole (Some window) (Some time) = nat_le time window.from

-- the head of ftrace says that lines were overwritten, and the window does not begin where those of
-- all processors are there
abbrev pub is_gap : SurveyData → Option WindowData → List (List ℕ) → Bool
is_gap look window fields = tells_of_overwriting fields && not (begins_whole window look.whole)
