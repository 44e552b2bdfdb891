-- The text of a comparison: a header, the number of events, a line for each event, and the end. The
-- line of an event has the numbers of tasks that the weak and the strong scheduler have linked
-- after it, and the name of the most urgent task that just one of them has linked, or `-` where
-- there is none.
use Rattle.std.specs.Prelude.{◌≡◌, ℕ, List, ◌++◌, codes, length, map, Option, Some, None}
use Rattle.std.specs.List.{flat_map}
use Rattle.affinity_mask.specs.Number.{canonical_number}
use Rattle.task_set.specs.TaskSet.{SetData}
use Rattle.text_fields.specs.EventText.{name_of}
use Rattle.text_fields.specs.LineText.{line}
use Rattle.trace_reader.specs.declared.posted.Posted.{Posted}
use Rattle.weak_apa.specs.Compared.{IsFoundOf}
use Rattle.weak_apa.specs.declared.comparison.Comparison.{Comparison}

-- the name of a task, or a dash
abbrev pub name_or_dash : SetData → Option ℕ → List ℕ
name_or_dash set None = codes "-"
name_or_dash set (Some t) = name_of set t

-- the line of an event
unfoldable pub comparison_line : SetData → Comparison → List ℕ
comparison_line set found = line
    (canonical_number found.weak ++ codes " " ++ canonical_number found.strong ++ codes " "
    ++ name_or_dash set found.first)

-- the lines before those of the events
abbrev pub weak_heading : ℕ → List ℕ
weak_heading count = line (codes "weak 1") ++ line (codes "entries " ++ canonical_number count)

-- the whole text
abbrev pub weak_text : SetData → List Comparison → List ℕ
weak_text set found =
    weak_heading (length found) ++ flat_map (comparison_line set) found ++ line (codes "end")

-- the text of the comparison of these events
pub record IsWeakTextOf (set : SetData) (events : List Posted) (text : List ℕ) : Type 0 where
  pub found : List Comparison
  pub is_found : IsFoundOf set (map (λ (posted : Posted). posted.event) events) found
  pub is_text : text ≡ weak_text set found
