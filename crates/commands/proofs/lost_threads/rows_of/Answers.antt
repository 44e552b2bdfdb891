use Rattle.std.proofs.Common.{◌≡◌, ℕ, ◌+◌, ◌<◌, List, [], ◌∷◌, ◌++◌, length, take, drop, get_or, sym, ap, ◌∙◌, arith}
use Rattle.std.proofs.lemmas.List.{get_or-drop, length-drop}
use Rattle.kernel_trace.specs.declared.loss_text.ThreadRow.{ThreadRow}
use Rattle.commands.specs.LostThreads.{thread_rows}
use Rattle.commands.proofs.LostThreads.{rows_more}
use Rattle.commands.proofs.lost_threads.rows_of.Goals as goal

pub loop-place-preserved : goal.loop-place-preserved
loop-place-preserved c =
    let ids : List ℕ = c.args.trace.now.unlisted in
    let beside : List ℕ = c.args.beside.now in
    let tasks : ℕ = length c.args.trace.now.set.tasks in
    let counts : List ℕ = drop tasks beside in
    let place : ℕ = c.loop-place.place in
    let made : ℕ → ℕ → ThreadRow = λ (id ran : ℕ). record { id = id; ran = ran } in
    let end = c.loop-place.invariant.1 in
    let test = c.loop-place-test.true in
    let long = length-drop tasks beside in
    let wide = c.requires in
    let below : place < length ids = omega (arith, end, test) in
    let within : place < length counts = omega (arith, below, long, wide) in
    let first : c.len-tasks.result ≡ tasks = rw c.set.ensures at c.len-tasks.ensures.value in
    let ran : get_or beside (c.len-tasks.result + place) 0 ≡ get_or counts place 0 =
    ap (λ (n : ℕ). get_or beside (n + place) 0) first ∙ sym (get_or-drop tasks beside place 0) in (
      c.in_ok-push.ensures.items
          ∙ ap (λ (rows : List ThreadRow). rows ++ made c.unlisted_id.result (get_or beside (c.len-tasks.result + place) 0) ∷ [])
          c.loop-place.invariant.0
          ∙ ap (λ (id : ℕ). thread_rows (take place ids) (take place counts) ++ made id (get_or beside (c.len-tasks.result + place) 0) ∷ [])
          c.unlisted_id.ensures
          ∙ ap (λ (n : ℕ). thread_rows (take place ids) (take place counts) ++ made (get_or ids place 0) n ∷ []) ran
          ∙ sym (rows_more place ids counts below within),
      end,
    )
