-- How long a trace is, said in two ways.
use Rattle.std.proofs.Common.{◌≡◌, ℕ, suc, ◌-◌, List, [], ◌∷◌, length, refl, sym, ap, ◌∙◌, arith}
use Rattle.kernel_trace.specs.Passage as kernel
use Rattle.trace_passages.specs.Passages.{span_of, moment_at}
use Rattle.trace_passages.specs.declared.passage.Passage.{Passage}

pub same_span : (passages : List Passage) → kernel.span_of passages ≡ span_of passages
same_span [] = refl
same_span (one ∷ []) = refl
same_span (one ∷ two ∷ rest) =
    let there : length (one ∷ two ∷ rest) - 1 ≡ suc (length rest) = omega arith in
    let place : length (two ∷ rest) - 1 ≡ length rest = omega arith in
    same_span (two ∷ rest) ∙ ap (moment_at (two ∷ rest)) place ∙ sym (ap (moment_at (one ∷ two ∷ rest)) there)
