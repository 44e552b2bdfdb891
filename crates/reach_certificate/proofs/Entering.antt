-- The chain along which a task comes in where a processor has become idle.
use Rattle.std.proofs.Common.{◌≡◌, ℕ, ◌<◌, reverse, Option, Some, sym, ap, subst}
use Rattle.strong_apa.specs.declared.reply.Gone.{Gone}
use Rattle.strong_apa.specs.State.{State, IsState, IsWaiting, task_count}
use Rattle.strong_apa.specs.Chain.{IsChainOf, IsSimple, state_after_shift}
use Rattle.strong_apa.specs.History.{state_after_entering, state_after_gone}
use Rattle.strong_apa.proofs.Paths.{IsChainOf-reverse}
use Rattle.strong_apa.proofs.Simple.{IsSimple-reverse}
use Rattle.strong_apa.proofs.Unique.{ready_number}
use Rattle.strong_apa.specs.Passing.{EnteringPasses, GonePasses}

module _ (s : State) (p : ℕ) (gone : Gone) (w : ℕ) (passes : GonePasses s p gone) (some : gone.entered ≡ Some w) where
  entry : EnteringPasses s p (Some w) gone.chain gone.back
  entry = subst (λ (e : Option ℕ). EnteringPasses s p e gone.chain gone.back) some passes.enters

  pub entering_waits : IsWaiting s w
  entering_waits = entry.0.waits

  pub entering_number : IsState s → w < task_count s
  entering_number ok = ready_number s ok w entry.0.waits.ready

  pub entering_chain : (q : ℕ) × IsChainOf s w (reverse gone.chain) q
  entering_chain = let end = entry.1 in (p, IsChainOf-reverse s p w gone.chain end.0 end.1 end.2)

  pub entering_simple : IsSimple (reverse gone.chain)
  entering_simple = IsSimple-reverse gone.chain entry.2

  pub entered_state : state_after_shift s w (reverse gone.chain) ≡ state_after_gone s gone
  entered_state = sym (ap (λ (e : Option ℕ). state_after_entering s e gone.chain) some)
