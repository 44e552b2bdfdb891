use Rattle.std.proofs.Common.{◌≡◌, ◌+◌, ◌-◌, length, take, drop, min, arith}
use Rattle.std.proofs.lemmas.Grind.{common_steps}
use Rattle.shift_io.proofs.Bytes.{takes_prefix}
use Rattle.shift_io.proofs.sound_source.SoundSourceSource.take.Goals as goal

pub returns-clause-bytes : goal.returns-clause-bytes
returns-clause-bytes c =
    let left : take (length c.deref.result.now - c.self.inside.taken) (drop c.self.inside.taken c.deref.result.now)
    ≡ c.args.self.now.left = grind (arith, common_steps) in
    let count : c.min-count.result ≡ min (length c.args.self.now.left) (length c.args.into.now) = rw left at c.min-count.ensures in
    let copied : c.copy_from_slice.new.self ≡ take c.min-count.result c.args.self.now.left = grind (arith, common_steps) in
    let rest : drop (c.self.inside.taken + c.min-count.result) c.self.inside.bytes.items
    ≡ drop c.min-count.result c.args.self.now.left = grind (arith, common_steps) in
    rw (copied, rest) (takes_prefix c.args.self.now.left c.args.into.now c.min-count.result count)
