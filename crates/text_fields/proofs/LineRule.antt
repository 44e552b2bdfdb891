-- The rule of lines makes a machine of lines of a machine of fields.
use Rattle.std.proofs.Common.{◌≡◌, ℕ, ◌≤◌, ◌⊎◌, Bool, List, length, true, refl, sym, ◌∙◌, subst, inl, inr, arith}
use Rattle.std.proofs.lemmas.Bool.{cases_Bool, cases_eq, cases_lt, true≢false}
use Rattle.text_fields.proofs.LineDecisions.{all_decided}
use Rattle.text_fields.specs.Lines.{fields_of, is_skipped_line, IsPlain}
use Rattle.text_fields.specs.LineRule.{IsLineOutcome}
use Rattle.text_fields.specs.Machine.{Outcome, Leads, Fails, IsMachine}
use Rattle.text_fields.specs.declared.kind.LineKind.{LineKind}
use Rattle.text_fields.specs.declared.kind.LineKind.TheVariants.{BadByte, LongLine}

plain_decided : (byte : ℕ) → IsPlain byte ⊎ (IsPlain byte → ⊥)
plain_decided byte = elim (cases_eq byte 9) [
  | inl tab ↦ inl (inl tab)
  | inr other ↦ elim (cases_lt byte 32) [
    | inl low ↦ inr (λ plain. elim plain [ inl tab ↦ other tab | inr printed ↦ (let from : 32 ≤ byte = printed.0 in omega arith) ])
    | inr from ↦ elim (cases_lt 126 byte) [
      | inl high ↦ inr (λ plain. elim plain [ inl tab ↦ other tab | inr printed ↦ (let to : byte ≤ 126 = printed.1 in omega arith) ])
      | inr to ↦ inl (inr (from, to))
    ]
  ]
]

module _ {P V K : Type 0} (longest : ℕ) (has_comments : Bool) (kind_of : LineKind → K) {begins : P} {IsValid : P → Type 0}
    {Says : P → List (List ℕ) → Outcome P K → Type 0} {Ends : P → Outcome V K → Type 0} (machine : IsMachine begins IsValid Says Ends) where
  abbrev Comes : P → List ℕ → Outcome P K → Type 0
  Comes = IsLineOutcome longest has_comments kind_of Says

  line_once : (p : P) (line : List ℕ) (outcome other : Outcome P K) → IsValid p → Comes p line outcome → Comes p line other
      → outcome ≡ other
  line_once p line outcome other valid (inl one) (inl two) = one.1 ∙ sym two.1
  line_once p line outcome other valid (inl one) (inr (inl two)) = absurd (one.0 two.0)
  line_once p line outcome other valid (inl one) (inr (inr (inl two))) = absurd (one.0 two.0.0)
  line_once p line outcome other valid (inl one) (inr (inr (inr two))) = absurd (one.0 two.0.0)
  line_once p line outcome other valid (inr (inl one)) (inl two) = absurd (two.0 one.0)
  line_once p line outcome other valid (inr (inl one)) (inr (inl two)) = one.2 ∙ sym two.2
  line_once p line outcome other valid (inr (inl one)) (inr (inr (inl two))) = absurd (omega (arith, one.1, two.0.1))
  line_once p line outcome other valid (inr (inl one)) (inr (inr (inr two))) = absurd (omega (arith, one.1, two.0.1))
  line_once p line outcome other valid (inr (inr (inl one))) (inl two) = absurd (two.0 one.0.0)
  line_once p line outcome other valid (inr (inr (inl one))) (inr (inl two)) = absurd (omega (arith, two.1, one.0.1))
  line_once p line outcome other valid (inr (inr (inl one))) (inr (inr (inl two))) = one.2 ∙ sym two.2
  line_once p line outcome other valid (inr (inr (inl one))) (inr (inr (inr two))) = absurd (true≢false (sym one.1 ∙ two.1))
  line_once p line outcome other valid (inr (inr (inr one))) (inl two) = absurd (two.0 one.0.0)
  line_once p line outcome other valid (inr (inr (inr one))) (inr (inl two)) = absurd (omega (arith, two.1, one.0.1))
  line_once p line outcome other valid (inr (inr (inr one))) (inr (inr (inl two))) = absurd (true≢false (sym two.1 ∙ one.1))
  line_once p line outcome other valid (inr (inr (inr one))) (inr (inr (inr two))) =
      machine.one_outcome p (fields_of line) outcome other valid one.2 two.2

  line_comes : (p : P) (line : List ℕ) → IsValid p → (outcome : Outcome P K) × Comes p line outcome
  line_comes p line valid = elim (all_decided IsPlain plain_decided line) [
    | inr bad ↦ (Fails (kind_of BadByte), inl (bad, refl))
    | inl plain ↦ elim (cases_lt longest (length line)) [
      | inl long ↦ (Fails (kind_of LongLine), inr (inl (plain, long, refl)))
      | inr short ↦ elim (cases_Bool (is_skipped_line has_comments (fields_of line))) [
        | inl skipped ↦ (Leads p, inr (inr (inl ((plain, short), skipped, refl))))
        | inr kept ↦ (let said = machine.some_outcome p (fields_of line) valid in (said.0, inr (inr (inr ((plain, short), kept, said.1)))))
      ]
    ]
  ]

  fails_not_leads : {A : Type 0} (next : P) (kind : K) → ◌≡◌ {A = Outcome P K} (Leads next) (Fails kind) → A
  fails_not_leads next kind e = cc

  same_next : (one two : P) → ◌≡◌ {A = Outcome P K} (Leads one) (Leads two) → one ≡ two
  same_next one two e = cc

  line_keeps : (p : P) (line : List ℕ) (next : P) → IsValid p → Comes p line (Leads next) → IsValid next
  line_keeps p line next valid (inl bad) = fails_not_leads next _ bad.1
  line_keeps p line next valid (inr (inl long)) = fails_not_leads next _ long.2
  line_keeps p line next valid (inr (inr (inl skipped))) = subst IsValid (sym (same_next next p skipped.2)) valid
  line_keeps p line next valid (inr (inr (inr said))) = machine.keeps p (fields_of line) next valid said.2

  pub lines_machine : IsMachine begins IsValid Comes Ends
  lines_machine = record {
    starts = machine.starts;
    keeps = line_keeps;
    one_outcome = line_once;
    some_outcome = line_comes;
    one_end = machine.one_end;
    some_end = machine.some_end;
  }
