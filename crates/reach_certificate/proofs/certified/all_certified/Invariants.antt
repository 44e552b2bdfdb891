use Rattle.std.proofs.Common.{ℕ, ◌<◌, get_or}
use Rattle.strong_apa.specs.State.{IsWaiting}
use Rattle.strong_apa.specs.Certificate.{IsCertificate}
use Rattle.reach_certificate.proofs.certified.all_certified.Given as goal

abbrev pub invariant-loop-t : goal.invariant-loop-t
invariant-loop-t l = (w : ℕ) → w < l.t → IsWaiting l.links w → IsCertificate l.links w (get_or l.sets w 0)
