use Rattle.reach_certificate.proofs.ContextsFollow.{contexts-follow}
use Rattle.reach_certificate.proofs.laws.contexts_follow.Goals as goal

pub returns : goal.returns
returns c = contexts-follow
