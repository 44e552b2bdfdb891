-- A part of a trace, and its bars.
use Rattle.std.specs.Prelude.{◌≡◌, ℕ, min, max, List, vec_len}
use Rattle.task_set.specs.TaskSet.{SetData}
use Rattle.trace_passages.specs.declared.passage.Passage.{Passage}
use Rattle.trace_bars.specs.Bars.{AreBars, Shows}
use Rattle.trace_bars.specs.Sights.{Recording}
use Rattle.trace_bars.specs.Tracks.{IsLayerAt}
use Rattle.trace_bars.specs.declared.bars.Bars.{Bars}
use Rattle.trace_bars.specs.declared.bars.Layers.{Layers}
use Rattle.trace_bars.specs.declared.bars.Part.{Part}
use Rattle.trace_bars.specs.declared.layer.Layer.{Layer}
use Rattle.trace_bars.specs.declared.mark.Kind.{Kind}
use Rattle.trace_bars.specs.declared.mark.Kind.TheVariants.{Trace, Strong, Rows}

abbrev pub trace_of : SetData → ℕ → List Passage → Recording
trace_of set threads passages = record { tasks = set; threads = threads; passages = passages }

-- the bars of a part: of the lanes of the trace who runs on which processor, of those of strong
-- scheduling whom it links to which one, and of the rows what became of each thread
pub record AreBarsOf (trace : Recording) (part : Part) (bars : Bars) : Type 0 where
  pub of_trace : AreBars (Shows trace Trace) trace.threads part.from part.to bars.trace.items
  pub of_strong : AreBars (Shows trace Strong) trace.threads part.from part.to bars.strong.items
  pub of_rows : AreBars (Shows trace Rows) trace.threads part.from part.to bars.rows.items

-- ---- Private: contracts of this crate's own functions
-- the moment of a part that is nearest to a moment
abbrev pub clipped : Part → ℕ → ℕ
clipped part moment = max part.from (min part.to moment)

-- a layer of the moments of a part up to now
abbrev pub IsLayer : Recording → Kind → Part → ℕ → Layer → Type 0
IsLayer trace kind part now layer =
    IsLayerAt (Shows trace kind) part.from part.to now layer.tracks.items layer.bars.items

pub record AreLayersAt (trace : Recording) (part : Part) (now : ℕ) (layers : Layers) : Type 0 where
  pub of_trace : IsLayer trace Trace part now layers.trace
  pub of_strong : IsLayer trace Strong part now layers.strong
  pub of_rows : IsLayer trace Rows part now layers.rows

-- each layer has a track for each of so many threads
pub record HasTracks (threads : ℕ) (layers : Layers) : Type 0 where
  pub of_trace : vec_len layers.trace.tracks ≡ threads
  pub of_strong : vec_len layers.strong.tracks ≡ threads
  pub of_rows : vec_len layers.rows.tracks ≡ threads
