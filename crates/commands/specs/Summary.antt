-- A schedule in numbers, and the six lines that report it.
use Rattle.std.specs.Prelude.{ℕ, ◌%◌, ◌^◌, Bool, true, false, List, ◌++◌, length, codes, count_by}
use Rattle.std.specs.Prelude.{sum_by}
use Rattle.affinity_mask.specs.Number.{canonical_number}
use Rattle.task_set.specs.declared.context.Context.{Context}
use Rattle.strong_apa.specs.declared.reply.Entry.{Entry}
use Rattle.strong_apa.specs.declared.reply.Reply.{Reply}
use Rattle.strong_apa.specs.declared.reply.Reply.TheVariants.{Displaced, Waits}
use Rattle.text_fields.specs.LineText.{line}
use Rattle.commands.specs.declared.sizes.Sizes.{Sizes}

-- the reply put a running task back among the waiting ones
abbrev pub displaces : Reply → Bool
displaces (Displaced chain out reach) = true
displaces _ = false

-- the task that arrived waits
abbrev pub makes_wait : Reply → Bool
makes_wait (Waits reach) = true
makes_wait _ = false

-- how many entries have a reply that passes a test
abbrev pub replies_of : (Reply → Bool) → List Entry → ℕ
replies_of test history = count_by (λ (entry : Entry). test entry.reply) history

-- the moves of all tasks, which may exceed 2^64
abbrev pub sum_of_moves : List Context → ℕ
sum_of_moves contexts = sum_by (λ (context : Context). context.moves) contexts

-- the sum of all trails, modulo 2^64
abbrev pub trails_of : List Context → ℕ
trails_of contexts = sum_by (λ (context : Context). context.trail) contexts % 2 ^ 64

-- the four numbers of an input, in canonical form
abbrev pub sizes_text : Sizes → List ℕ
sizes_text sizes = canonical_number sizes.number ++ codes " " ++ canonical_number sizes.processors
    ++ codes " " ++ canonical_number sizes.tasks ++ codes " " ++ canonical_number sizes.events

-- the six lines
abbrev pub summary_text : Sizes → List Entry → List Context → List ℕ
summary_text sizes history contexts =
    line (codes "large " ++ sizes_text sizes)
    ++ line (codes "entries " ++ canonical_number (length history))
    ++ line (codes "displaced " ++ canonical_number (replies_of displaces history))
    ++ line (codes "waits " ++ canonical_number (replies_of makes_wait history))
    ++ line (codes "moves " ++ canonical_number (sum_of_moves contexts))
    ++ line (codes "trails " ++ canonical_number (trails_of contexts))
