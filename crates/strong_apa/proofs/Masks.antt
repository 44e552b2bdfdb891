-- The processors of an effective mask are on line, and so they are processors of the machine.
use Rattle.std.proofs.Common.{ℕ, ◌<◌, sym, ◌∙◌, IsTrue}
use Rattle.std.proofs.lemmas.Bool.{and_parts, ltb-true}
use Rattle.affinity_mask.specs.ProcSet.{has}
use Rattle.affinity_mask.proofs.Sets.{has-all_below, has-intersection}
use Rattle.strong_apa.specs.State.{State, IsState, mask_of, effective_mask}

-- a processor on line is one of the processors
pub online_below : (s : State) → IsState s → (p : ℕ) → IsTrue (has s.online p) → p < s.processors
online_below s ok p h = ltb-true p s.processors (sym (has-all_below s.processors p) ∙ ok.online p h)

-- a processor of an effective mask is on line
pub effective_mask_online : (s : State) (t p : ℕ) → IsTrue (has (effective_mask s t) p) → IsTrue (has s.online p)
effective_mask_online s t p h = (and_parts (has (mask_of s t) p) (has s.online p) (sym (has-intersection (mask_of s t) s.online p) ∙ h)).1

-- a processor of an effective mask is one of the processors
pub effective_mask_below : (s : State) → IsState s → (t p : ℕ) → IsTrue (has (effective_mask s t) p) → p < s.processors
effective_mask_below s ok t p h = online_below s ok p (effective_mask_online s t p h)
