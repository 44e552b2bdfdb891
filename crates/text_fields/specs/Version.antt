-- Versions of both formats. In the first one masks stay and all processors are on line; in the
-- second one masks change, and processors go off line and come back.
use Rattle.std.specs.Prelude.{ℕ, ◌≤◌}

-- the formats have this version
abbrev pub IsVersion : ℕ → Type 0
IsVersion version = (1 ≤ version) × (version ≤ 2)
