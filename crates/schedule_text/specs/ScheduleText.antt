-- The schedule text. There is one text for a version of the format, a task set, a history and the
-- contexts of its tasks: a header, the tasks, a line for each entry with its reply, and a line for
-- each context. It can be written where what each entry is about is of the set.
use Rattle.std.specs.Prelude.{ℕ, ◌<◌, List, [], ◌∷◌, ◌++◌, codes, length, map, All, Option, None}
use Rattle.std.specs.Prelude.{Some, if◌then◌else◌, ◌==◌}
use Rattle.std.specs.List.{flat_map, join_with_byte}
use Rattle.affinity_mask.specs.ProcSet.{empty}
use Rattle.affinity_mask.specs.Number.{canonical_number}
use Rattle.affinity_mask.specs.ListText.{canonical_list}
use Rattle.task_set.specs.TaskSet.{SetData}
use Rattle.task_set.specs.Event.{IsOfVersion}
use Rattle.task_set.specs.declared.context.Context.{Context}
use Rattle.strong_apa.specs.declared.reply.Came.{Came}
use Rattle.strong_apa.specs.declared.reply.Came.TheVariants as came
use Rattle.strong_apa.specs.declared.reply.Gone.{Gone}
use Rattle.strong_apa.specs.declared.reply.Moved.{Moved}
use Rattle.strong_apa.specs.declared.reply.Reply.{Reply}
use Rattle.strong_apa.specs.declared.reply.Reply.TheVariants.{Placed, Displaced, Waits, Freed, Left}
use Rattle.strong_apa.specs.declared.reply.Reply.TheVariants.{Ticked, AlreadyReady, NotReady}
use Rattle.strong_apa.specs.declared.reply.Reply.TheVariants.{Masked, Remasked, AlreadyOff}
use Rattle.strong_apa.specs.declared.reply.Reply.TheVariants.{AlreadyOn, Off, On}
use Rattle.strong_apa.specs.declared.reply.Entry.{Entry}
use Rattle.strong_apa.specs.Reply.{tasks_named, IsReplyOfVersion}
use Rattle.text_fields.specs.LineText.{line, processors_line, task_line}
use Rattle.text_fields.specs.EventText.{name_of, event_text, IsAboutSet}

-- the processors of a chain in order, joined by '>'; '-' where there is none
abbrev pub chain_text : List ℕ → List ℕ
chain_text [] = codes "-"
chain_text (p ∷ rest) = join_with_byte 62 (map canonical_number (p ∷ rest))

-- the canonical list of a set of processors; '-' where it is empty
abbrev pub set_text : ℕ → List ℕ
set_text X = if X == empty then codes "-" else canonical_list X

-- the name of a task; '-' for nobody
abbrev pub somebody_text : SetData → Option ℕ → List ℕ
somebody_text set None = codes "-"
somebody_text set (Some t) = name_of set t

-- a number; '-' where there is none
abbrev pub number_text : Option ℕ → List ℕ
number_text None = codes "-"
number_text (Some n) = canonical_number n

-- ---- the fields of a line

-- the result of an arrival, with the chain or the set of processors that justifies it
abbrev pub came_fields : SetData → Came → List (List ℕ)
came_fields set (came.Placed chain) = codes "placed" ∷ chain_text chain ∷ []
came_fields set (came.Displaced chain out reach) =
    codes "displaced" ∷ chain_text chain ∷ codes "out" ∷ name_of set out ∷ codes "reach"
    ∷ set_text reach ∷ []
came_fields set (came.Waits reach) = codes "waits" ∷ set_text reach ∷ []

-- who came in at a processor that became idle, with the set that justifies it
abbrev pub gone_fields : SetData → Gone → List (List ℕ)
gone_fields set gone =
    chain_text gone.chain ∷ codes "enters" ∷ somebody_text set gone.entered ∷ codes "back"
    ∷ set_text gone.back ∷ []

-- what a task left: a processor, with who came in there; or nothing, as it had waited
abbrev pub left_fields : SetData → Option Gone → List (List ℕ)
left_fields set None = codes "left" ∷ []
left_fields set (Some gone) = codes "freed" ∷ gone_fields set gone

-- the task that was on a processor, and what it came to; '-' for nobody
abbrev pub moved_fields : SetData → Option Moved → List (List ℕ)
moved_fields set None = codes "-" ∷ []
moved_fields set (Some moved) =
    name_of set moved.task ∷ codes "then" ∷ came_fields set moved.came

-- a reply
abbrev pub reply_fields : SetData → Reply → List (List ℕ)
reply_fields set (Placed chain) = came_fields set (came.Placed chain)
reply_fields set (Displaced chain out reach) = came_fields set (came.Displaced chain out reach)
reply_fields set (Waits reach) = came_fields set (came.Waits reach)
reply_fields set (Freed entered chain back) =
    codes "freed" ∷ gone_fields set (record { entered = entered; chain = chain; back = back })
reply_fields set Left = codes "left" ∷ []
reply_fields set Ticked = codes "ticked" ∷ []
reply_fields set AlreadyReady = codes "already" ∷ []
reply_fields set NotReady = codes "absent" ∷ []
reply_fields set Masked = codes "masked" ∷ []
reply_fields set (Remasked gone result) =
    codes "remasked" ∷ (left_fields set gone ++ codes "then" ∷ came_fields set result)
reply_fields set AlreadyOff = codes "already_off" ∷ []
reply_fields set AlreadyOn = codes "already_on" ∷ []
reply_fields set (Off moved) = codes "off" ∷ moved_fields set moved
reply_fields set (On parts) = codes "on" ∷ gone_fields set parts

-- what a task has run: its units of time, stints, moves between processors, last processor and
-- trail
abbrev pub context_fields : SetData → Context → List (List ℕ)
context_fields set context =
    name_of set context.task ∷ codes "units" ∷ canonical_number context.units ∷ codes "stints"
    ∷ canonical_number context.stints ∷ codes "moves" ∷ canonical_number context.moves
    ∷ codes "last" ∷ number_text context.last ∷ codes "trail"
    ∷ canonical_number context.trail ∷ []

-- ---- the text

-- fields with one space between them
abbrev pub spaced : List (List ℕ) → List ℕ
spaced fields = join_with_byte 32 fields

-- the result of an arrival
unfoldable pub came_text : SetData → Came → List ℕ
came_text set result = spaced (came_fields set result)

-- who came in at a processor that became idle
unfoldable pub gone_text : SetData → Gone → List ℕ
gone_text set gone = spaced (gone_fields set gone)

-- a reply
unfoldable pub reply_text : SetData → Reply → List ℕ
reply_text set reply = spaced (reply_fields set reply)

-- an entry of the history: the stream that posted it, the event and the reply
unfoldable pub entry_line : SetData → Entry → List ℕ
entry_line set entry =
    line (canonical_number entry.caller ++ codes " " ++ event_text set entry.event ++ codes " "
    ++ reply_text set entry.reply)

-- a context
unfoldable pub context_line : SetData → Context → List ℕ
context_line set context = line (spaced (context_fields set context))

-- the header: the version
abbrev pub header : ℕ → List ℕ
header version = codes "schedule " ++ canonical_number version

-- the whole text, in a version
unfoldable pub schedule_text : ℕ → SetData → List Entry → List Context → List ℕ
schedule_text version set entries contexts =
    line (header version) ++ processors_line set ++ flat_map task_line set.tasks
    ++ line (codes "history " ++ canonical_number (length entries))
    ++ flat_map (entry_line set) entries
    ++ line (codes "contexts " ++ canonical_number (length contexts))
    ++ flat_map (context_line set) contexts
    ++ line (codes "end")

-- each number is that of a task of the set
abbrev pub AreTasksOf : SetData → List ℕ → Type 0
AreTasksOf set tasks = All (λ t. t < length set.tasks) tasks

-- the tasks that a reply names are of the set
abbrev pub IsReplyOf : SetData → Reply → Type 0
IsReplyOf set reply = AreTasksOf set (tasks_named reply)

-- what an entry is about, in its event and in its reply, is of the set
pub record IsEntryOf (set : SetData) (entry : Entry) : Type 0 where
  pub event : IsAboutSet set entry.event
  pub reply : IsReplyOf set entry.reply

-- a version has the event and the reply of an entry
pub record IsEntryOfVersion (version : ℕ) (entry : Entry) : Type 0 where
  pub event : IsOfVersion version entry.event
  pub reply : IsReplyOfVersion version entry.reply
