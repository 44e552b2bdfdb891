-- The linked tasks keep up with each choice at every tick, and so do their sums.
use Rattle.std.proofs.Common.{ℕ, suc, ◌≤◌, List, [], ◌∷◌, take, arith}
use Rattle.std.proofs.Math.Nat.{mul-le-mul_left}
use Rattle.strong_apa.specs.declared.reply.Entry.{Entry}
use Rattle.strong_apa.specs.State.{State, IsState, start_of, is_linked}
use Rattle.strong_apa.specs.History.{state_after, effect_of}
use Rattle.strong_apa.specs.Placement.{TaskTest}
use Rattle.strong_apa.specs.Certified.{HasCertificates}
use Rattle.strong_apa.specs.CertificateLaws.{HoldsThroughout}
use Rattle.strong_apa.proofs.Fullness.{linked_keeps_up}
use Rattle.strong_apa.proofs.Kept.{legal_is_certified}
use Rattle.job_release.specs.Moments.{units_of}
use Rattle.scheduling_laws.specs.UrgentWork.{IsChoice, urgent_work, LinkedDoesMostWork}

linked_does_most : (bound : ℕ) (s : State) (history : List Entry) (chosen : ℕ → TaskTest)
    → HoldsThroughout (λ s. IsState s × HasCertificates s) s history → IsChoice s history chosen
    → urgent_work s history chosen bound ≤ urgent_work s history (λ n. is_linked (state_after s (take n history))) bound
linked_does_most bound s [] chosen holds choice = omega arith
linked_does_most bound s (entry ∷ rest) chosen holds choice =
    let here = holds 0 (omega arith) in
    let first = choice 0 (omega arith) in
    let more = mul-le-mul_left (units_of entry.event) (linked_keeps_up s here.0 here.1 (chosen 0) first.0 first.1 bound) in
    let later = linked_does_most bound (effect_of s entry) rest (λ n. chosen (suc n)) (λ n within. holds (suc n) (omega arith))
    (λ n below. choice (suc n) (omega arith)) in
    omega arith

pub linked_does_most_work : LinkedDoesMostWork
linked_does_most_work set history chosen bound valid legal choice =
    linked_does_most bound (start_of set) history chosen (λ n within. legal_is_certified set valid history legal n within) choice
