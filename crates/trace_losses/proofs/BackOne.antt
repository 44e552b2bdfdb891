-- Who runs before the last passages.
use Rattle.std.proofs.Common.{◌≡◌, ℕ, ◌+◌, ◌-◌, ◌<◌, Bool, false, List, ◌∷◌, length, map, drop, get_or, Option, Some, None, refl, sym, ap}
use Rattle.std.proofs.Common.{◌∙◌, subst, arith, eq-eqb, IsTrue, Vec}
use Rattle.std.specs.Prelude.{◌↔◌}
use Rattle.std.specs.Option.{is_some}
use Rattle.std.specs.declared.alloc.Global.{Global}
use Rattle.std.proofs.lemmas.Bool.{false≢true}
use Rattle.std.proofs.lemmas.List.{drop_more, get_or-map, length-map}
use Rattle.std.proofs.lemmas.Option.{slice_get-get_or, slice_get_read}
use Rattle.trace_losses.specs.Passages.{turns_of}
use Rattle.trace_losses.specs.Runs.{is_some_of, runs, IsArmed}
use Rattle.trace_passages.specs.declared.passage.Passage.{Passage}

-- a task runs somewhere where it is said on which processor it runs
pub on_some : (on : Option ℕ) (F : ℕ → Bool) → ((p : ℕ) → is_some_of on p ≡ F p) → IsTrue (is_some on) ↔ ((p : ℕ) × IsTrue (F p))
on_some None F same = (λ e. absurd (false≢true e), λ (p, runs). absurd (false≢true (same p ∙ runs)))
on_some (Some q) F same = (λ e. (q, sym (same q) ∙ eq-eqb q q refl), λ found. refl)

-- one passage back
pub one_back : (passages : List Passage) (i : ℕ) (d : Passage) → i < length passages
    → drop (length passages - (i + 1)) passages ≡ get_or passages (length passages - 1 - i) d ∷ drop (length passages - i) passages
one_back passages i d below =
    let k : ℕ = length passages - 1 - i in
    let here : length passages - (i + 1) ≡ k = omega arith in
    let next : k + 1 ≡ length passages - i = omega (arith, below) in
    ap (λ (n : ℕ). drop n passages) here ∙ drop_more passages k d (omega (arith, below))
    ∙ ap (λ (n : ℕ). get_or passages k d ∷ drop n passages) next

pub back_one : (base : ℕ → ℕ → Bool) (passages : List Passage) (i : ℕ) (d : Passage) (on : List (Option ℕ)) → i < length passages
    → IsArmed base (turns_of (get_or passages (length passages - 1 - i) d ∷ drop (length passages - i) passages)) on
    → IsArmed base (turns_of (drop (length passages - (i + 1)) passages)) on
back_one base passages i d on below armed =
    subst (λ (after : List Passage). IsArmed base (turns_of after) on) (sym (one_back passages i d below)) armed
