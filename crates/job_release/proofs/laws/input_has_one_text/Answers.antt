use Rattle.job_release.proofs.OneRun.{input_has_one_service, input_has_one_text}
use Rattle.job_release.proofs.laws.input_has_one_text.Goals as goal

pub returns-clause-service : goal.returns-clause-service
returns-clause-service c = input_has_one_service

pub returns-clause-text : goal.returns-clause-text
returns-clause-text c = input_has_one_text
