-- Fields as the code has them: slices, of which contracts see the bytes.
use Rattle.std.specs.Prelude.{ℕ, List, map}
use Rattle.std.specs.Borrow.{Bor}

-- the bytes of some fields
abbrev pub texts : List (Bor (List ℕ)) → List (List ℕ)
texts fields = map (λ (field : Bor (List ℕ)). field.now) fields
