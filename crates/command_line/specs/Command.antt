-- The commands: the words that they are, what they read, what they make of it, and what they
-- refuse, each with one answer.
use Rattle.std.specs.Prelude.{◌≡◌, ◌⊎◌, ℕ, ◌≤◌, List, [], ◌∷◌, codes, Option}
use Rattle.text_fields.specs.Number.{IsNumberWithin}
use Rattle.commands.specs.Reading.{text_limit, trace_limit, ReadsAll, IsReported}
use Rattle.commands.specs.Refusal.{IsAccepted, IsAnsweredInput, RefusesInput}
use Rattle.commands.specs.declared.status.Status.{Status}
use Rattle.commands.specs.Valid.{IsValidText}
use Rattle.commands.specs.Check.{IsCheckOf, RefusesCheck}
use Rattle.commands.specs.Chrome.{IsChromeOf}
use Rattle.commands.specs.Weak.{IsWeakOf}
use Rattle.commands.specs.NestedRun.{IsNestedOf, AcceptsNested, RefusesNested}
use Rattle.commands.specs.JobsRun.{IsJobsOf, AcceptsJobs, RefusesJobs}
use Rattle.commands.specs.WeakJobs.{IsWeakJobsOf}
use Rattle.commands.specs.JobsSchedule.{IsJobsScheduleOf}
use Rattle.commands.specs.Import.{IsImportOf, AcceptsTrace, RefusesTrace}
use Rattle.commands.specs.ImportJobs.{IsImportedJobsOf, AcceptsJobTrace, RefusesJobTrace}
use Rattle.commands.specs.Draw.{IsDrawingOf}
use Rattle.commands.specs.Lost.{IsLossOf, AcceptsTaskTrace, RefusesTaskTrace}
use Rattle.commands.specs.Show.{IsShowOf}
use Rattle.commands.specs.Generating.{IsMakeOf}
use Rattle.commands.specs.Sizes.{AreWithin}
use Rattle.commands.specs.declared.sizes.Sizes.{Sizes}
use Rattle.schedule_picture.specs.declared.axis.Axis.{Axis}
use Rattle.schedule_picture.specs.declared.axis.Axis.TheVariants.{Time, Steps}
use Rattle.schedule_picture.specs.declared.window.Window.{Window}
use Rattle.command_line.specs.Large.{IsLargeOf}
use Rattle.command_line.specs.Run.{IsRunOf}
use Rattle.command_line.specs.Watch.{IsWatchOf}
use Rattle.command_line.specs.declared.words.Command.{Command}
use Rattle.command_line.specs.declared.words.Command.TheVariants.{Run, Check, Weak, Nested, Jobs}
use Rattle.command_line.specs.declared.words.Command.TheVariants.{WeakJobs, RunJobs, Watch, Import}
use Rattle.command_line.specs.declared.words.Command.TheVariants.{ImportJobs, Draw, Chrome, Lost}
use Rattle.command_line.specs.declared.words.Command.TheVariants.{Show, Make, Large}

-- ---- words
-- a number, and then how many processors, tasks and events there are; leading zeros are no fault
pub record AreSizes (number processors tasks events : List ℕ) (sizes : Sizes) : Type 0 where
  pub is_number : IsNumberWithin 0 18446744073709551615 number sizes.number
  pub are_processors : IsNumberWithin 1 64 processors sizes.processors
  pub are_tasks : IsNumberWithin 1 1024 tasks sizes.tasks
  pub are_events : IsNumberWithin 0 20000 events sizes.events

-- a word, and the four numbers
pub record IsSized (first : List ℕ) (words : List (List ℕ)) (sizes : Sizes) : Type 0 where
  pub number : List ℕ
  pub processors : List ℕ
  pub tasks : List ℕ
  pub events : List ℕ
  pub each_word : words ≡ first ∷ number ∷ processors ∷ tasks ∷ events ∷ []
  pub sized : AreSizes number processors tasks events sizes

-- the word `watch`, and how many observers there are, from 1 to 8; leading zeros are no fault
pub record IsWatch (words : List (List ℕ)) (observers : ℕ) : Type 0 where
  pub number : List ℕ
  pub each_word : words ≡ codes "watch" ∷ number ∷ []
  pub is_number : IsNumberWithin 1 8 number observers

-- the word `chrome` alone, for a trace that begins at 0
pub record IsChromeAlone (words : List (List ℕ)) (start : ℕ) : Type 0 where
  pub each_word : words ≡ codes "chrome" ∷ []
  pub from_zero : start ≡ 0

-- the word `chrome`, and the moment at which the trace begins, a number below 2^53; leading zeros
-- are no fault
pub record IsChromeAt (words : List (List ℕ)) (start : ℕ) : Type 0 where
  pub number : List ℕ
  pub each_word : words ≡ codes "chrome" ∷ number ∷ []
  pub is_number : IsNumberWithin 0 9007199254740991 number start

-- two numbers, of which the second is no less; leading zeros are no fault
pub record IsWindow (from to : List ℕ) (window : Window) : Type 0 where
  pub is_from : IsNumberWithin 0 18446744073709551615 from window.from
  pub is_to : IsNumberWithin window.from 18446744073709551615 to window.to

-- a word alone, which is about the whole
pub record IsOfWhole (first : List ℕ) (words : List (List ℕ)) (window : Window) : Type 0 where
  pub each_word : words ≡ first ∷ []
  pub from_start : window.from ≡ 0
  pub to_end : window.to ≡ 18446744073709551615

-- a word, and the window from one number to another
pub record IsOfPart (first : List ℕ) (words : List (List ℕ)) (window : Window) : Type 0 where
  pub from : List ℕ
  pub to : List ℕ
  pub each_word : words ≡ first ∷ from ∷ to ∷ []
  pub is_window : IsWindow from to window

-- the word for a picture over time, and for one by entries
abbrev pub word_of : Axis → List ℕ
word_of Time = codes "draw"
word_of Steps = codes "steps"

-- the words mean the command
abbrev pub IsCommand : List (List ℕ) → Command → Type 0
IsCommand words Run = words ≡ codes "run" ∷ []
IsCommand words Check = words ≡ codes "check" ∷ []
IsCommand words Weak = words ≡ codes "weak" ∷ []
IsCommand words Nested = words ≡ codes "nested" ∷ []
IsCommand words Jobs = words ≡ codes "jobs" ∷ []
IsCommand words WeakJobs = words ≡ codes "weakjobs" ∷ []
IsCommand words RunJobs = words ≡ codes "runjobs" ∷ []
IsCommand words (Watch observers) = IsWatch words observers
IsCommand words Import = words ≡ codes "import" ∷ []
IsCommand words ImportJobs = words ≡ codes "importjobs" ∷ []
IsCommand words (Draw axis window) =
    IsOfWhole (word_of axis) words window ⊎ IsOfPart (word_of axis) words window
IsCommand words (Chrome start) = IsChromeAlone words start ⊎ IsChromeAt words start
IsCommand words Lost = words ≡ codes "lost" ∷ []
IsCommand words (Show window) =
    IsOfWhole (codes "show") words window ⊎ IsOfPart (codes "show") words window
IsCommand words (Make sizes) = IsSized (codes "make") words sizes
IsCommand words (Large sizes) = IsSized (codes "large") words sizes

-- the numbers of a command, where it has some, are within their bounds
abbrev pub IsBounded : Command → Type 0
IsBounded Run = Unit {0}
IsBounded Check = Unit {0}
IsBounded Weak = Unit {0}
IsBounded Nested = Unit {0}
IsBounded Jobs = Unit {0}
IsBounded WeakJobs = Unit {0}
IsBounded RunJobs = Unit {0}
IsBounded (Watch observers) = (1 ≤ observers) × (observers ≤ 8)
IsBounded Import = Unit {0}
IsBounded ImportJobs = Unit {0}
IsBounded (Draw axis window) = Unit {0}
IsBounded (Chrome start) = start ≤ 9007199254740991
IsBounded Lost = Unit {0}
IsBounded (Show window) = Unit {0}
IsBounded (Make sizes) = AreWithin sizes
IsBounded (Large sizes) = AreWithin sizes

-- ---- what is read
-- the most bytes that a command reads: `import`, `importjobs`, `lost` and `show` read
-- long traces
abbrev pub byte_limit : Command → ℕ
byte_limit Run = text_limit
byte_limit Check = text_limit
byte_limit Weak = text_limit
byte_limit Nested = text_limit
byte_limit Jobs = text_limit
byte_limit WeakJobs = text_limit
byte_limit RunJobs = text_limit
byte_limit (Watch observers) = text_limit
byte_limit Import = trace_limit
byte_limit ImportJobs = trace_limit
byte_limit (Draw axis window) = text_limit
byte_limit (Chrome start) = text_limit
byte_limit Lost = trace_limit
byte_limit (Show window) = trace_limit
byte_limit (Make sizes) = text_limit
byte_limit (Large sizes) = text_limit

-- the command reads nothing: `make` and `large`
abbrev pub ReadsNothing : Command → Type 0
ReadsNothing Run = ⊥
ReadsNothing Check = ⊥
ReadsNothing Weak = ⊥
ReadsNothing Nested = ⊥
ReadsNothing Jobs = ⊥
ReadsNothing WeakJobs = ⊥
ReadsNothing RunJobs = ⊥
ReadsNothing (Watch observers) = ⊥
ReadsNothing Import = ⊥
ReadsNothing ImportJobs = ⊥
ReadsNothing (Draw axis window) = ⊥
ReadsNothing (Chrome start) = ⊥
ReadsNothing Lost = ⊥
ReadsNothing (Show window) = ⊥
ReadsNothing (Make sizes) = Unit {0}
ReadsNothing (Large sizes) = Unit {0}

-- what a command reads of a source: nothing, or all that was left of it within its limit
pub record Reads (command : Command) (old new : Option (List ℕ)) (read : List ℕ) : Type 0 where
  pub none : ReadsNothing command → (new ≡ old) × (read ≡ [])
  pub all : (ReadsNothing command → ⊥) → ReadsAll (byte_limit command) old new read

-- what a command is to read of a source with this left
pub record IsToRead (command : Command) (left : Option (List ℕ)) (read : List ℕ) : Type 0 where
  pub none : ReadsNothing command → read ≡ []
  pub all : (ReadsNothing command → ⊥) → IsReported (byte_limit command) left read

-- ---- what is made
-- what a command writes for the bytes that it read
unfoldable pub Makes : Command → List ℕ → List ℕ → Type 0
Makes Run read put = IsRunOf read put
Makes Check read put = IsCheckOf read put
Makes Weak read put = IsWeakOf read put
Makes Nested read put = IsNestedOf read put
Makes Jobs read put = IsJobsOf read put
Makes WeakJobs read put = IsWeakJobsOf read put
Makes RunJobs read put = IsJobsScheduleOf read put
Makes (Watch observers) read put = IsWatchOf observers read put
Makes Import read put = IsImportOf read put
Makes ImportJobs read put = IsImportedJobsOf read put
Makes (Draw axis window) read put = IsDrawingOf axis window read put
Makes (Chrome start) read put = IsChromeOf start read put
Makes Lost read put = IsLossOf read put
Makes (Show window) read put = IsShowOf window read put
Makes (Make sizes) read put = IsMakeOf sizes put
Makes (Large sizes) read put = IsLargeOf sizes put

-- the bytes that a command accepts: a text of the kind that it reads; or none
unfoldable pub Accepts : Command → List ℕ → Type 0
Accepts Run bytes = IsAccepted bytes
Accepts Check bytes = IsValidText bytes
Accepts Weak bytes = IsAccepted bytes
Accepts Nested bytes = AcceptsNested bytes
Accepts Jobs bytes = AcceptsJobs bytes
Accepts WeakJobs bytes = AcceptsJobs bytes
Accepts RunJobs bytes = AcceptsJobs bytes
Accepts (Watch observers) bytes = IsAccepted bytes
Accepts Import bytes = AcceptsTrace bytes
Accepts ImportJobs bytes = AcceptsJobTrace bytes
Accepts (Draw axis window) bytes = IsValidText bytes
Accepts (Chrome start) bytes = IsValidText bytes
Accepts Lost bytes = AcceptsTaskTrace bytes
Accepts (Show window) bytes = AcceptsTaskTrace bytes
Accepts (Make sizes) bytes = bytes ≡ []
Accepts (Large sizes) bytes = bytes ≡ []

-- the bytes that a command refuses, each with its answer
unfoldable pub Refuses : Command → List ℕ → Status → Type 0
Refuses Run bytes status = IsAnsweredInput (RefusesInput bytes) status
Refuses Check bytes status = RefusesCheck bytes status
Refuses Weak bytes status = IsAnsweredInput (RefusesInput bytes) status
Refuses Nested bytes status = RefusesNested bytes status
Refuses Jobs bytes status = RefusesJobs bytes status
Refuses WeakJobs bytes status = RefusesJobs bytes status
Refuses RunJobs bytes status = RefusesJobs bytes status
Refuses (Watch observers) bytes status = IsAnsweredInput (RefusesInput bytes) status
Refuses Import bytes status = RefusesTrace bytes status
Refuses ImportJobs bytes status = RefusesJobTrace bytes status
Refuses (Draw axis window) bytes status = RefusesCheck bytes status
Refuses (Chrome start) bytes status = RefusesCheck bytes status
Refuses Lost bytes status = RefusesTaskTrace bytes status
Refuses (Show window) bytes status = RefusesTaskTrace bytes status
Refuses (Make sizes) bytes status = ⊥
Refuses (Large sizes) bytes status = ⊥

-- the words mean a command, which read what it is to read, and makes this of it
pub record ReadsAndMakes (words : List (List ℕ)) (old new : Option (List ℕ))
    (put : List ℕ) : Type 0 where
  pub command : Command
  pub spoken : IsCommand words command
  pub read : List ℕ
  pub reads : Reads command old new read
  pub made : Makes command read put

-- the words mean a command, which read what it is to read, and refuses it with this answer
pub record ReadsRefused (words : List (List ℕ)) (old new : Option (List ℕ))
    (status : Status) : Type 0 where
  pub command : Command
  pub spoken : IsCommand words command
  pub read : List ℕ
  pub reads : Reads command old new read
  pub refused : Refuses command read status
