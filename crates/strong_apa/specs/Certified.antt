-- Certificates of whole states. A state has certificates where each of its waiting tasks has a set
-- of processors that certifies it; sets listed by task certify a state where each waiting task is
-- certified by the set at its number. What the other tasks' sets are does not matter.
use Rattle.std.specs.Prelude.{ℕ, ◌≤◌, List, length, slice_index}
use Rattle.task_set.specs.TaskSet.{SetData}
use Rattle.strong_apa.specs.declared.reply.Entry.{Entry}
use Rattle.strong_apa.specs.State.{State, IsState, IsWaiting}
use Rattle.strong_apa.specs.History.{state_at}
use Rattle.strong_apa.specs.Certificate.{IsCertificate}

-- each waiting task has a certificate
abbrev pub HasCertificates : State → Type 0
HasCertificates s = (w : ℕ) → IsWaiting s w → (set : ℕ) × IsCertificate s w set

-- each waiting task is certified by the set at its number
abbrev pub IsCertifiedBy : State → List ℕ → Type 0
IsCertifiedBy s sets = (w : ℕ) → IsWaiting s w → IsCertificate s w (slice_index sets w)

-- after every entry the links are a placement of ready tasks, and each waiting task has a
-- certificate
abbrev pub IsCertifiedThroughout : SetData → List Entry → Type 0
IsCertifiedThroughout set history = (n : ℕ) → n ≤ length history → IsState (state_at set history n)
    × HasCertificates (state_at set history n)
