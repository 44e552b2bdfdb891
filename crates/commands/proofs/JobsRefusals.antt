-- Why there is no text: the bytes are refused, or memory was.
use Rattle.std.proofs.Common.{◌≡◌, ℕ, ◌⊎◌, List, Option, None, Some, Err, refl, ap, inl, inr}
use Rattle.job_release.specs.JobFault.{kind_number}
use Rattle.job_release.specs.JobInput.{JobInputData}
use Rattle.job_release.specs.JobText.{IsJobText, IsJobRefused}
use Rattle.job_release.specs.declared.fault.JobFault.{JobFault}
use Rattle.job_release.specs.declared.fault.JobKind.{JobKind}
use Rattle.job_release.specs.declared.fault.JobKind.TheVariants as kind
use Rattle.commands.specs.Answers.{Answers}
use Rattle.commands.specs.Status.{status_of_number}
use Rattle.commands.specs.declared.status.Status.{Status}
use Rattle.commands.specs.declared.status.Status.TheVariants.{OutOfMemory}
use Rattle.commands.specs.JobsRun.{AcceptsJobs, RefusesJobs, status_of_jobs_fault}

-- a fault that says out of memory
memory_of_fault : (fault : JobFault) → fault.kind ≡ kind.OutOfMemory → status_of_jobs_fault fault ≡ OutOfMemory
memory_of_fault fault memory = ap (λ (k : JobKind). status_of_number fault.line (kind_number k)) memory

refused_number : (bytes : List ℕ) (line : ℕ) (cause : JobKind) (number : Option ℕ) → kind_number cause ≡ number
    → IsJobRefused bytes line cause → RefusesJobs bytes (status_of_number line number) ⊎ (status_of_number line number ≡ OutOfMemory)
refused_number bytes line cause None none refused = inr refl
refused_number bytes line cause (Some k) some refused =
    inl record { number = line; kind = k; answer = refl; cause = record { cause = cause; refused = refused; number = some } }

refusal_of_fault : (bytes : List ℕ) (fault : JobFault) → (fault.kind ≡ kind.OutOfMemory) ⊎ IsJobRefused bytes fault.line fault.kind
    → RefusesJobs bytes (status_of_jobs_fault fault) ⊎ (status_of_jobs_fault fault ≡ OutOfMemory)
refusal_of_fault bytes fault (inl memory) = inr (memory_of_fault fault memory)
refusal_of_fault bytes fault (inr refused) = refused_number bytes fault.line fault.kind (kind_number fault.kind) refl refused

status_of_refused : (bytes : List ℕ) (expected : Status) (fault : JobFault) (why : RefusesJobs bytes expected)
    → (fault.kind ≡ kind.OutOfMemory) ⊎ ((fault.line ≡ why.number) × (fault.kind ≡ why.cause.cause))
    → (status_of_jobs_fault fault ≡ expected) ⊎ (status_of_jobs_fault fault ≡ OutOfMemory)
status_of_refused bytes expected fault why (inl memory) = inr (memory_of_fault fault memory)
status_of_refused bytes expected fault why (inr found) = inl (rw (found.0, found.1, why.cause.number, why.answer) refl)

-- the fault of a text, as `read_jobs` has it
pub answers_fault : {Makes : List ℕ → Type 0} (bytes : List ℕ) (fault : JobFault)
    → ((input : JobInputData) → IsJobText bytes input → fault.kind ≡ kind.OutOfMemory)
    → (fault.kind ≡ kind.OutOfMemory) ⊎ IsJobRefused bytes fault.line fault.kind
    → ((line : ℕ) (cause : JobKind) → IsJobRefused bytes line cause → (fault.kind ≡ kind.OutOfMemory)
    ⊎ ((fault.line ≡ line) × (fault.kind ≡ cause)))
    → Answers Makes (AcceptsJobs bytes) (RefusesJobs bytes) (Err (status_of_jobs_fault fault))
answers_fault bytes fault accepts refused refuses = record {
  makes = tt;
  refused = refusal_of_fault bytes fault refused;
  accepts = λ accepted. memory_of_fault fault (accepts accepted.0 accepted.1);
  refuses = λ expected why. status_of_refused bytes expected fault why (refuses why.number why.cause.cause why.cause.refused);
}
