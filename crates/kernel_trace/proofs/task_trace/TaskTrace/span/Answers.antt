use Rattle.std.proofs.Common.{◌≡◌, ℕ, suc, ◌-◌, List, [], ◌∷◌, length, slice_get, Some, sym, ap, subst, arith}
use Rattle.kernel_trace.specs.Passage.{span_of}
use Rattle.trace_passages.specs.declared.passage.Passage.{Passage}
use Rattle.kernel_trace.proofs.task_trace.TaskTrace.span.Goals as goal

-- the last passage is the one at the last place
last_moment : (passages : List Passage) (last : Passage) → slice_get passages (length passages - 1) ≡ Some last
    → last.moment ≡ span_of passages
last_moment [] last e = cc
last_moment (one ∷ []) last e = let same : last ≡ one = cc in ap (λ (p : Passage). p.moment) same
last_moment (one ∷ two ∷ rest) last e =
    let there : length (one ∷ two ∷ rest) - 1 ≡ suc (length rest) = omega arith in
    let place : length (two ∷ rest) - 1 ≡ length rest = omega arith in
    let found : slice_get (two ∷ rest) (length rest) ≡ Some last = subst (λ (n : ℕ). slice_get (one ∷ two ∷ rest) n ≡ Some last) there e in
    last_moment (two ∷ rest) last (subst (λ (n : ℕ). slice_get (two ∷ rest) n ≡ Some last) (sym place) found)

pub returns-in-Some : goal.returns-in-Some
returns-in-Some c =
    let value = c.in-Some.ensures.value in
    let same = c.deref.ensures.value in
    let view = c.self.view_is in
    last_moment c.args.self.now.passages c.in-Some.passage.now (sym (grind arith))
