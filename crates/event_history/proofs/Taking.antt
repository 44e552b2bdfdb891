-- What holds of a receipt holds of what a caller takes of it.
use Rattle.std.proofs.Common.{Result, Ok, Err, MatchResult, sym, subst}
use Rattle.event_history.specs.declared.fault.Receipt.{Receipt}
use Rattle.event_history.specs.Entering.{IsTaken}

pub taken : {A E : Type 0} (of : Receipt → A) (P : Receipt → Type 0) (R : A → Type 0) (Q : E → Type 0)
    → ((receipt : Receipt) → P receipt → R (of receipt))
    → (r : Result A E) → MatchResult r (IsTaken of P) Q → MatchResult r R Q
taken of P R Q so (Ok x) told = subst R (sym told.is) (so told.receipt told.holds)
taken of P R Q so (Err e) none = none
