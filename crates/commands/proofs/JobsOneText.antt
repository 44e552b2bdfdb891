-- What is read is the text of one input, and its jobs have one text.
use Rattle.std.proofs.Common.{sym, ap, ◌∙◌, subst}
use Rattle.job_release.specs.JobInput.{JobInputData}
use Rattle.job_release.proofs.Decided.{text_has_one_input, text_is_of_valid_input}
use Rattle.job_release.specs.Driven.{RunsJobs}
use Rattle.job_release.specs.JobsText.{jobs_text}
use Rattle.job_release.proofs.OneRun.{input_has_one_text}
use Rattle.commands.specs.JobsLaws.{JobsTextIsUnique}

pub jobs_text_is_unique : JobsTextIsUnique
jobs_text_is_unique read put other one two =
    let same = text_has_one_input read two.input one.input two.is_text one.is_text in
    let runs : RunsJobs one.input two.history = (let P : JobInputData
    → Type 0 = λ input. RunsJobs input two.history in subst P same two.runs) in
    one.text ∙ input_has_one_text one.input one.history two.history (text_is_of_valid_input read one.input one.is_text) one.runs runs
    ∙ sym (ap (λ (input : JobInputData). jobs_text input two.history) same) ∙ sym two.text
