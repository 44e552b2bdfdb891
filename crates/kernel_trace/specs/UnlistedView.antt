-- What contracts see of the threads that are told apart: their ids, in the order in which they are
-- named. They are never too many.
use Rattle.std.specs.Prelude.{ℕ, ◌≤◌, List, length}
use Rattle.kernel_trace.specs.declared.unlisted.Unlisted.TheInside.{Inside}

-- the ids
abbrev pub unlisted_view : Inside → List ℕ
unlisted_view u = u.ids.keys

-- there are at most 1,024
abbrev pub AreFew : Inside → Type 0
AreFew u = length u.ids.keys ≤ 1024
