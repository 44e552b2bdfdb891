use Rattle.std.proofs.Common.{◌≡◌, ◌+◌, ◌++◌, length, take, drop, arith, rules}
use Rattle.std.proofs.lemmas.Grind.{common_steps}
use Rattle.shift_io.proofs.mem_sink.MemSinkSink.put.Goals as goal
use Rattle.shift_io.proofs.mem_sink.MemSinkSink.put.Goals.{After-self-2-1}

-- the bytes that were put stand after the others
appended : (c : After-self-2-1) → take (c.self.inside.filled + c.min-count.result)
    (take c.self.inside.room.len (c.overwrite.new.room ++ drop (length c.overwrite.new.room) c.self.inside.room.items))
    ≡ c.args.self.now.bytes ++ take c.min-count.result c.args.from.now
appended c = grind (arith, common_steps)

pub returns-clause-bytes : goal.returns-clause-bytes
returns-clause-bytes c = record { bound = omega arith; some = search rules; empty = search rules; bytes = appended c }

pub returns-clause-after : goal.returns-clause-after
returns-clause-after c = λ some. let bytes = appended c in (grind arith, grind (arith, common_steps))

pub returns-clause-fails : goal.returns-clause-fails
returns-clause-fails c = (λ never. search rules, λ some. search rules)
