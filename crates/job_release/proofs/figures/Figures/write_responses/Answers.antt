use Rattle.std.proofs.Common.{◌≡◌, ℕ, List, ◌++◌, length, sym, ap, ◌∙◌, append_assoc, arith}
use Rattle.std.proofs.lemmas.Bool.Decides.{nat_tests}
use Rattle.job_release.proofs.Counted.{no_responses, some_responses}
use Rattle.job_release.proofs.figures.Figures.write_responses.Goals as goal

pub returns-then-self-eq0 : goal.returns-then-self-eq0
returns-then-self-eq0 c = λ list late is.
    let none : length list ≡ 0 = sym is.finished
    ∙ (let zero : c.args.self.now.finished ≡ 0 = grind (arith, nat_tests, c.if-self-eq0.true) in zero) in
    c.in_ok-extend_from_slice.ensures.items ∙ ap (λ (end : List ℕ). c.args.text.now.items ++ end) (sym (no_responses list none))

pub returns : goal.returns
returns c = λ list late is.
    let finished = is.finished in
    let some : length list ≡ 0 → ⊥ = λ none. grind (arith, nat_tests, c.if-self-eq0.false) in
    rw (
      c.in_ok-write_number-2.ensures,
      c.in_ok-push.ensures.items,
      c.in_ok-write_number.ensures,
      is.worst,
      is.total,
      is.finished,
      some_responses list some,
    ) (simp append_assoc)
