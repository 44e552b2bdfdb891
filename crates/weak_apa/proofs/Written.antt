-- What the writers appended, piece by piece.
use Rattle.std.proofs.Common.{◌≡◌, ℕ, List, [], ◌∷◌, ◌++◌, append_assoc}
use Rattle.std.specs.Prelude.{codes}
use Rattle.affinity_mask.specs.Number.{canonical_number}
use Rattle.task_set.specs.TaskSet.{SetData}
use Rattle.weak_apa.specs.WeakText.{comparison_line, name_or_dash}
use Rattle.weak_apa.specs.declared.comparison.Comparison.{Comparison}

pieces : (old a b c d e f : List ℕ) → old ++ a ++ b ++ c ++ d ++ e ++ f ≡ old ++ (a ++ b ++ c ++ d ++ e ++ f)
pieces old a b c d e f = simp append_assoc

pub line_written : (set : SetData) (found : Comparison) (weak strong : ℕ) (t0 t1 t2 t3 t4 t5 t6 : List ℕ) → weak ≡ found.weak
    → strong ≡ found.strong → t1 ≡ t0 ++ canonical_number weak → t2 ≡ t1 ++ 32 ∷ []
    → t3 ≡ t2 ++ canonical_number strong → t4 ≡ t3 ++ 32 ∷ [] → t5 ≡ t4 ++ name_or_dash set found.first → t6 ≡ t5 ++ 10 ∷ []
    → t6 ≡ t0 ++ comparison_line set found
unfolding comparison_line
line_written set found weak strong t0 t1 t2 t3 t4 t5 t6 w s e1 e2 e3 e4 e5 e6 =
    rw (e6, e5, e4, e3, e2, e1, w, s)
    (pieces t0 (canonical_number found.weak) (codes " ") (canonical_number found.strong) (codes " ") (name_or_dash set found.first)
    (10 ∷ []))
