use Rattle.std.proofs.Common.{ℕ, List, get_or, sym, ap, ◌∙◌}
use Rattle.std.proofs.lemmas.Bool.{true≢false}
use Rattle.text_fields.proofs.Words.{same_with, whole_word}
use Rattle.text_fields.proofs.word.is_word.Goals as goal

pub returns-then-field-word-2 : goal.returns-then-field-word-2
returns-then-field-word-2 c = (
  λ yes. absurd (true≢false (sym yes)),
  λ equal. absurd (c.if-field-word-2.true
      (ap (λ (bytes : List ℕ). get_or bytes 0 0) (equal ∙ sym c.as_bytes-word.ensures.value))),
)

pub loop-i-preserved : goal.loop-i-preserved
loop-i-preserved c =
    same_with c.args.field.now c.as_bytes-word.result.now c.loop-i.i c.loop-i.same c.loop-i-test.true
    c.if-field-word.false c.loop-i.invariant

pub returns : goal.returns
returns c =
    rw c.as_bytes-word.ensures.value
    at (whole_word c.args.field.now c.as_bytes-word.result.now c.loop-i.i c.loop-i.same c.loop-i-test.false
    c.if-field-word.false c.loop-i.invariant)
