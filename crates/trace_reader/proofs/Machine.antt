-- The stages of the reader are a machine: a line comes to one outcome, and so does the end.
use Rattle.std.proofs.Common.{◌≡◌, [], ◌∷◌, ◌++◌, refl, sym, ◌∙◌}
use Rattle.text_fields.specs.Machine.{Outcome, Leads, Fails, IsMachine}
use Rattle.trace_reader.specs.declared.fault.InputKind.{InputKind}
use Rattle.trace_reader.specs.declared.fault.InputKind.TheVariants.{NoEnd}
use Rattle.trace_reader.specs.Input.{InputData}
use Rattle.trace_reader.specs.Progress.{Progress, HeaderExpected, ProcessorsExpected, Listed, Ended}
use Rattle.trace_reader.specs.Reading.{IsExpected, IsEndOutcome}
use Rattle.trace_reader.proofs.Expected.{expects_more}
use Rattle.trace_reader.proofs.Decided.{fields_decided}
use Rattle.trace_reader.specs.LineOutcome.{IsFieldsOutcome}

end_once : (p : Progress) (outcome other : Outcome InputData InputKind) → IsEndOutcome p outcome → IsEndOutcome p other → outcome ≡ other
end_once HeaderExpected outcome other one two = one ∙ sym two
end_once (ProcessorsExpected version) outcome other one two = one ∙ sym two
end_once (Listed version set events) outcome other one two = one ∙ sym two
end_once (Ended version set events) outcome other one two = one ∙ sym two

end_comes : (p : Progress) → (outcome : Outcome InputData InputKind) × IsEndOutcome p outcome
end_comes HeaderExpected = (Fails NoEnd, refl)
end_comes (ProcessorsExpected version) = (Fails NoEnd, refl)
end_comes (Listed version set events) = (Fails NoEnd, refl)
end_comes (Ended version set events) = (Leads (record { version = version; set = set; events = events }), refl)

pub input_machine : IsMachine HeaderExpected IsExpected IsFieldsOutcome IsEndOutcome
input_machine = record {
  starts = ([], refl);
  keeps = λ p fields next valid says. (valid.0 ++ fields ∷ [], expects_more valid.0 fields p next valid.1 says);
  one_outcome = λ p fields outcome other valid. let decided = fields_decided p fields valid in decided.one outcome other;
  some_outcome = λ p fields valid. let decided = fields_decided p fields valid in decided.some;
  one_end = λ p outcome other valid. end_once p outcome other;
  some_end = λ p valid. end_comes p;
}
