-- In every core the linked tasks are the best set: each waiting task has a certificate.
use Rattle.strong_apa.specs.Certified.{HasCertificates}
use Rattle.strong_apa.specs.CertificateLaws.{LinkedIsBest, LinkedIsLargest, LinkedIsAsUrgent}
use Rattle.strong_apa.proofs.Best.{linked_is_best, linked_is_largest}
use Rattle.strong_apa.proofs.Ranked.{linked_is_as_urgent}
use Rattle.sched_core.specs.CoreData.{CoreData, IsCore}
use Rattle.strong_apa.specs.Improving.{HasNoImprovingChain}
use Rattle.strong_apa.proofs.Improved.{no_improving_chain}

pub core_certified : (core : CoreData) → IsCore core → HasCertificates core.links
core_certified core kept = kept.certificates

pub core_unimprovable : (core : CoreData) → IsCore core → HasNoImprovingChain core.links
core_unimprovable core kept = no_improving_chain core.links kept.certificates

pub core_best : (core : CoreData) → IsCore core → LinkedIsBest core.links
core_best core kept = linked_is_best core.links kept.state kept.certificates

pub core_largest : (core : CoreData) → IsCore core → LinkedIsLargest core.links
core_largest core kept = linked_is_largest core.links kept.state kept.certificates

pub core_as_urgent : (core : CoreData) → IsCore core → LinkedIsAsUrgent core.links
core_as_urgent core kept = linked_is_as_urgent core.links kept.state kept.certificates
