-- Laws of the texts of traces. They rest on nothing but the definitions that they name.
use Rattle.std.specs.Prelude.{◌≡◌, ℕ, ◌<◌, ◌≤◌, ◌⊎◌, true, false, List, [], ◌∷◌, length, All}
use Rattle.std.specs.Prelude.{Contains}
use Rattle.trace_reader.specs.Input.{InputData}
use Rattle.kernel_trace.specs.Passage.{TaskTraceData, IsTaskTraceText, IsTaskTraceRefused}
use Rattle.kernel_trace.specs.Passages.{UsedLine, unlisted_of}
use Rattle.kernel_trace.specs.TraceText.{IsTraceText, IsTraceRefused}
use Rattle.kernel_trace.specs.Unlisted.{is_among, is_unlisted}
use Rattle.kernel_trace.specs.declared.change.Change.{Change}
use Rattle.kernel_trace.specs.declared.change.Change.TheVariants.{Wakeup, Switch}
use Rattle.kernel_trace.specs.declared.change.Thread.{Thread}
use Rattle.kernel_trace.specs.declared.fault.TraceKind.{TraceKind}

-- ---- read as an input
-- a text is that of at most one input
abbrev pub TextHasOneInput : Type 0
TextHasOneInput =
    (bytes : List ℕ) (input other : InputData) → IsTraceText bytes input → IsTraceText bytes other
    → input ≡ other

-- a text is refused with at most one line and one kind
abbrev pub TextHasOneFault : Type 0
TextHasOneFault =
    (bytes : List ℕ) (line number : ℕ) (kind other : TraceKind)
    → IsTraceRefused bytes line kind → IsTraceRefused bytes number other
    → (line ≡ number) × (kind ≡ other)

-- no text is both that of an input and refused
abbrev pub InputHasNoFault : Type 0
InputHasNoFault =
    (bytes : List ℕ) (input : InputData) (line : ℕ) (kind : TraceKind)
    → IsTraceText bytes input → IsTraceRefused bytes line kind → ⊥

-- each text is that of an input or is refused
abbrev pub AcceptedOrRefused : Type 0
AcceptedOrRefused =
    (bytes : List ℕ)
    → ((input : InputData) × IsTraceText bytes input)
    ⊎ ((line : ℕ) × (kind : TraceKind) × IsTraceRefused bytes line kind)

-- ---- read as what its lines say of tasks
-- a text is that of at most one trace
abbrev pub TextHasOneTrace : Type 0
TextHasOneTrace =
    (bytes : List ℕ) (trace other : TaskTraceData) → IsTaskTraceText bytes trace
    → IsTaskTraceText bytes other → trace ≡ other

-- a text is refused with at most one line and one kind
abbrev pub TraceTextHasOneFault : Type 0
TraceTextHasOneFault =
    (bytes : List ℕ) (line number : ℕ) (kind other : TraceKind)
    → IsTaskTraceRefused bytes line kind → IsTaskTraceRefused bytes number other
    → (line ≡ number) × (kind ≡ other)

-- no text is both that of a trace and refused
abbrev pub TraceHasNoFault : Type 0
TraceHasNoFault =
    (bytes : List ℕ) (trace : TaskTraceData) (line : ℕ) (kind : TraceKind)
    → IsTaskTraceText bytes trace → IsTaskTraceRefused bytes line kind → ⊥

-- each text is that of a trace or is refused
abbrev pub TraceAcceptedOrRefused : Type 0
TraceAcceptedOrRefused =
    (bytes : List ℕ)
    → ((trace : TaskTraceData) × IsTaskTraceText bytes trace)
    ⊎ ((line : ℕ) × (kind : TraceKind) × IsTaskTraceRefused bytes line kind)

-- ---- threads that are told apart
-- a line is a switch from or to the thread
abbrev pub IsSwitchOf : Change → Thread → Type 0
IsSwitchOf (Wakeup id) thread = ⊥
IsSwitchOf (Switch from stays to) thread = (thread ≡ from) ⊎ (thread ≡ to)

-- one of the lines is a switch of a thread with this id, which is no task and of real time there
pub record IsNamedBy (ids : List ℕ) (used : List UsedLine) (id : ℕ) : Type 0 where
  pub line : UsedLine
  pub thread : Thread
  pub among : Contains used line
  pub switch : IsSwitchOf line.said thread
  pub unlisted : is_unlisted ids thread ≡ true
  pub same : thread.id ≡ id

-- no id stands among those after it
abbrev pub EachOnce : List ℕ → Type 0
EachOnce [] = Unit {0}
EachOnce (id ∷ rest) = (is_among id rest ≡ false) × EachOnce rest

-- these are at most 1,024, each once, and lines name each of them; they are all that lines name
-- where there are fewer
pub record AreToldApart (ids : List ℕ) (used : List UsedLine) (unlisted : List ℕ) : Type 0 where
  pub few : length unlisted ≤ 1024
  pub once : EachOnce unlisted
  pub named : All (IsNamedBy ids used) unlisted
  pub complete : length unlisted < 1024 → (id : ℕ) → IsNamedBy ids used id
      → is_among id unlisted ≡ true

-- the threads that some used lines tell apart are so
abbrev pub UnlistedAreToldApart : Type 0
UnlistedAreToldApart =
    (ids : List ℕ) (used : List UsedLine) → AreToldApart ids used (unlisted_of ids used)
