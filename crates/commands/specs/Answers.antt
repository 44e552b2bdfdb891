-- What a call that makes a text of bytes answers: the text, or the status that says why there is
-- none.
use Rattle.std.specs.Prelude.{◌≡◌, ◌⊎◌, ℕ, List, Vec, Result, IfOk, IfErr, MatchResult}
use Rattle.std.specs.declared.alloc.Global.{Global}
use Rattle.commands.specs.declared.status.Status.{Status}
use Rattle.commands.specs.declared.status.Status.TheVariants.{OutOfMemory}

-- a text that comes is one that is to be made of the bytes; a status that comes refuses them, or
-- says out of memory; what is accepted is not refused; and what is refused is answered by its
-- status, or by out of memory
pub record Answers (Makes : List ℕ → Type 0) (Accepts : Type 0) (Refuses : Status → Type 0)
    (result : Result (Vec ℕ Global) Status) : Type 0 where
  pub makes : IfOk result (λ (text : Vec ℕ Global). Makes text.items)
  pub refused : IfErr result (λ (status : Status). Refuses status ⊎ (status ≡ OutOfMemory))
  pub accepts : Accepts → IfErr result (λ (status : Status). status ≡ OutOfMemory)
  pub refuses : (expected : Status) → Refuses expected
      → MatchResult result (λ (text : Vec ℕ Global). ⊥)
      (λ (status : Status). (status ≡ expected) ⊎ (status ≡ OutOfMemory))
