use Rattle.std.proofs.Common.{◌≡◌, ℕ, ◌<◌, ◌≤◌, false, refl, sym, ap, subst, inl, arith}
use Rattle.strong_apa.specs.State.{State, IsState, task_count, is_linked}
use Rattle.strong_apa.proofs.Linked.{linked_number, not_linked-from_on}
use Rattle.apa_c.specs.declared.table.ApaStage.{ApaStage}
use Rattle.apa_c.specs.Calls.{IsPlaceAt, running_of}
use Rattle.apa_c.proofs.table.of.Goals as goal

-- no number past the tasks is linked
past : (s : State) (t : ℕ) → IsState s → task_count s ≤ t → is_linked s t ≡ false
past s t ok le = not_linked-from_on s t (λ p on. let lt : t < task_count s = linked_number s p t ok on in omega arith)

pub returns-then-t-len : goal.returns-then-t-len
returns-then-t-len c =
    let live = c.in-Running.live in
    let count : task_count live.links ≤ c.args.t = (let e = ap task_count c.links.ensures.value in omega arith) in (
      refl,
      subst (λ (stage : ApaStage). IsPlaceAt (running_of stage) c.args.t 4294967295) (sym c.in-Running.is)
          (inl (refl, past live.links c.args.t c.links.ensures.valid count)),
    )
