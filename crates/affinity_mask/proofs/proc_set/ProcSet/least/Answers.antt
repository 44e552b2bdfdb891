use Rattle.std.proofs.Common.{◌≡◌, ℕ, zero, suc, Bool, false, ◌<◌, ◌^◌, ◌↔◌, IsTrue, refl, sym, ◌∙◌, arith}
use Rattle.std.proofs.lemmas.Bool.{true≢false}
use Rattle.affinity_mask.specs.ProcSet.{empty}
use Rattle.affinity_mask.proofs.Words.{trailing-least}
use Rattle.affinity_mask.proofs.proc_set.ProcSet.least.Goals as goal

-- a set that the test calls not empty is a positive number
some_from_test : (X : ℕ) (b : Bool) → (IsTrue b ↔ (X ≡ empty)) → b ≡ false → 0 < X
some_from_test zero b test is_false = absurd (true≢false (sym (test.1 refl) ∙ is_false))
some_from_test (suc X) b test is_false = omega arith

pub returns-else-is_empty-clause-least : goal.returns-else-is_empty-clause-least
returns-else-is_empty-clause-least c =
    let fits : c.self.inside.bits < 2 ^ 64 = omega arith in
    let some : 0 < c.self.inside.bits = rw c.self.view_is (some_from_test _ _ c.is_empty.ensures c.if-is_empty.false) in
    rw (← c.self.view_is) (trailing-least _ some fits)
