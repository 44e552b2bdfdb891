-- What a line says of who runs where: the threads that it names, and the same line the other way
-- round.
use Rattle.std.specs.Prelude.{ℕ, ◌<◌}
use Rattle.std.specs.Option.{ForSome}
use Rattle.trace_passages.specs.declared.turn.Turn.{Turn}
use Rattle.trace_passages.specs.declared.turn.Turn.TheVariants.{Switch, Woken}

-- the threads of a line are among so many
abbrev pub AreThreads : ℕ → Turn → Type 0
AreThreads threads (Woken task) = task < threads
AreThreads threads (Switch processor from to) =
    ForSome from (λ t. t < threads) × ForSome to (λ t. t < threads)

-- the switch the other way round
abbrev pub turned : Turn → Turn
turned (Woken task) = Woken task
turned (Switch processor from to) = Switch processor to from
