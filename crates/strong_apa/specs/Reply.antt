-- What a reply is made of: the result of an arrival, or who came in at a processor that became
-- idle; and what it carries, whatever it means: its chains, its sets of processors, and the tasks
-- that it names.
use Rattle.std.specs.Prelude.{◌≡◌, ℕ, List, [], ◌∷◌, ◌++◌, Option, Some, None}
use Rattle.std.specs.List.{cons_option}
use Rattle.strong_apa.specs.declared.reply.Came.{Came}
use Rattle.strong_apa.specs.declared.reply.Came.TheVariants as came
use Rattle.strong_apa.specs.declared.reply.Gone.{Gone}
use Rattle.strong_apa.specs.declared.reply.Reply.{Reply}
use Rattle.strong_apa.specs.declared.reply.Reply.TheVariants.{Placed, Displaced, Waits, Freed, Left}
use Rattle.strong_apa.specs.declared.reply.Reply.TheVariants.{Ticked, AlreadyReady, NotReady}
use Rattle.strong_apa.specs.declared.reply.Reply.TheVariants.{Masked, Remasked, AlreadyOff}
use Rattle.strong_apa.specs.declared.reply.Reply.TheVariants.{AlreadyOn, Off, On}

-- the reply that says the result of an arrival
abbrev pub reply_of_came : Came → Reply
reply_of_came (came.Placed chain) = Placed chain
reply_of_came (came.Displaced chain out reach) = Displaced chain out reach
reply_of_came (came.Waits reach) = Waits reach

-- the reply that says who came in
abbrev pub reply_of_gone : Gone → Reply
reply_of_gone gone = Freed gone.entered gone.chain gone.back

-- the result of an arrival, where a reply is that alone
abbrev pub came_of : Reply → Option Came
came_of (Placed chain) = Some (came.Placed chain)
came_of (Displaced chain out reach) = Some (came.Displaced chain out reach)
came_of (Waits reach) = Some (came.Waits reach)
came_of _ = None

-- who came in, where a reply is that alone
abbrev pub gone_of : Reply → Option Gone
gone_of (Freed entered chain back) = Some record { entered = entered; chain = chain; back = back }
gone_of _ = None

-- ---- what an arrival carries
-- its chains
abbrev pub came_chains : Came → List (List ℕ)
came_chains (came.Placed chain) = chain ∷ []
came_chains (came.Displaced chain out reach) = chain ∷ []
came_chains (came.Waits reach) = []

-- its chain, which is empty where the task waits
abbrev pub came_chain : Came → List ℕ
came_chain (came.Placed chain) = chain
came_chain (came.Displaced chain out reach) = chain
came_chain (came.Waits reach) = []

-- its sets of processors
abbrev pub came_sets : Came → List ℕ
came_sets (came.Placed chain) = []
came_sets (came.Displaced chain out reach) = reach ∷ []
came_sets (came.Waits reach) = reach ∷ []

-- the tasks that it names
abbrev pub came_tasks : Came → List ℕ
came_tasks (came.Placed chain) = []
came_tasks (came.Displaced chain out reach) = out ∷ []
came_tasks (came.Waits reach) = []

-- ---- what a reply carries
-- its chains
abbrev pub chains_of : Reply → List (List ℕ)
chains_of (Placed chain) = chain ∷ []
chains_of (Displaced chain out reach) = chain ∷ []
chains_of (Freed entered chain back) = chain ∷ []
chains_of (Remasked None came) = came_chains came
chains_of (Remasked (Some gone) came) = gone.chain ∷ came_chains came
chains_of (Off (Some moved)) = came_chains moved.came
chains_of (On parts) = parts.chain ∷ []
chains_of _ = []

-- the chain along which a processor was filled that became idle; it is empty where none was
abbrev pub filling_chain : Reply → List ℕ
filling_chain (Freed entered chain back) = chain
filling_chain (Remasked (Some gone) came) = gone.chain
filling_chain (On parts) = parts.chain
filling_chain _ = []

-- the chain along which a task came; it is empty where none did
abbrev pub coming_chain : Reply → List ℕ
coming_chain (Placed chain) = chain
coming_chain (Displaced chain out reach) = chain
coming_chain (Remasked _ came) = came_chain came
coming_chain (Off (Some moved)) = came_chain moved.came
coming_chain _ = []

-- the processors along which occupants change, in the order of the shifts
abbrev pub chain_of : Reply → List ℕ
chain_of reply = filling_chain reply ++ coming_chain reply

-- its sets of processors
abbrev pub sets_of : Reply → List ℕ
sets_of (Displaced chain out reach) = reach ∷ []
sets_of (Waits reach) = reach ∷ []
sets_of (Freed entered chain back) = back ∷ []
sets_of (Remasked None came) = came_sets came
sets_of (Remasked (Some gone) came) = gone.back ∷ came_sets came
sets_of (Off (Some moved)) = came_sets moved.came
sets_of (On parts) = parts.back ∷ []
sets_of _ = []

-- the tasks that it names
abbrev pub tasks_named : Reply → List ℕ
tasks_named (Displaced chain out reach) = out ∷ []
tasks_named (Freed entered chain back) = cons_option entered []
tasks_named (Remasked None came) = came_tasks came
tasks_named (Remasked (Some gone) came) = cons_option gone.entered (came_tasks came)
tasks_named (Off (Some moved)) = moved.task ∷ came_tasks moved.came
tasks_named (On parts) = cons_option parts.entered []
tasks_named _ = []

-- the version of the formats has such a reply: the first one has those to arrivals, departures and
-- ticks alone
abbrev pub IsReplyOfVersion : ℕ → Reply → Type 0
IsReplyOfVersion version Masked = version ≡ 2
IsReplyOfVersion version (Remasked _ came) = version ≡ 2
IsReplyOfVersion version AlreadyOff = version ≡ 2
IsReplyOfVersion version AlreadyOn = version ≡ 2
IsReplyOfVersion version (Off moved) = version ≡ 2
IsReplyOfVersion version (On parts) = version ≡ 2
IsReplyOfVersion version (Placed chain) = Unit {0}
IsReplyOfVersion version (Displaced chain out reach) = Unit {0}
IsReplyOfVersion version (Waits reach) = Unit {0}
IsReplyOfVersion version (Freed entered chain back) = Unit {0}
IsReplyOfVersion version Left = Unit {0}
IsReplyOfVersion version Ticked = Unit {0}
IsReplyOfVersion version AlreadyReady = Unit {0}
IsReplyOfVersion version NotReady = Unit {0}
