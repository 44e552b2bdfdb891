use Rattle.std.proofs.Common.{rules, ◌≡◌, ℕ, List, [], false, replicate, sym, ap, ap₂, ◌∙◌, subst, length}
use Rattle.std.proofs.lemmas.List.{length-map, length-replicate}
use Rattle.task_set.specs.TaskSet.{TaskData, SetData, masks}
use Rattle.strong_apa.specs.declared.reply.Entry.{Entry}
use Rattle.strong_apa.specs.State.{State, IsState, task_count, start_of}
use Rattle.strong_apa.proofs.Start.{IsState-start}
use Rattle.strong_apa.specs.Certified.{HasCertificates}
use Rattle.strong_apa.proofs.Kept.{HasCertificates-start}
use Rattle.history_laws.specs.Start.{NobodyIsReady}
use Rattle.history_laws.proofs.Starts.{nobody_ready}
use Rattle.sched_core.specs.CoreView.{IsKeptFrom, state_before}
use Rattle.sched_core.proofs.CoreEntered.{core_started}
use Rattle.sched_core.proofs.RowsStarted.{rows_counted, rows_say_nothing, nobody_is_held, never_taken}
use Rattle.sched_core.proofs.scheduler.Core.new.Goals as goal

-- the state in which the core began is that of its links
start_kept : (set : SetData) (links : State) (first : List ℕ) → links ≡ start_of set → first ≡ masks set → state_before links first ≡ links
start_kept set links first is are =
    ap₂ state_before is are ∙ ap (λ (n : ℕ). record (start_of set) { ready = replicate n false })
    (length-map set.tasks (λ (x : TaskData). x.priority)) ∙ sym is

pub invariant_of-result : goal.invariant_of-result
invariant_of-result c =
    let same = start_kept c.args.set.now c.in_ok-links.links c.in_ok-first_masks.first_masks.items c.in_ok-links.ensures
    c.in_ok-first_masks.ensures in
    let links = c.in_ok-links.links in
    let none = c.new-2.ensures.items in
    let count = c.processors.result in
    let set = c.args.set.now in
    let processors : count ≡ links.processors = c.processors.ensures.value ∙ sym (ap (λ (s : State). s.processors) c.in_ok-links.ensures) in
    let tasks : c.len.result ≡ task_count links = c.len.ensures.value
    ∙ sym (ap task_count c.in_ok-links.ensures ∙ length-map set.tasks (λ (x : TaskData). x.priority)) in
    let made = c.in_ok-rows.rows.items in
    let rows = c.reserve_rows.new.rows.items in
    subst (λ (s : State). IsKeptFrom s (record {
      first_masks = c.in_ok-first_masks.first_masks;
      history = c.new-2.result;
      links = links;
      closed = false;
      rows = c.reserve_rows.new.rows;
      takes = c.in_ok-takes.takes;
      spare = 0;
    })) (sym same)
    record {
      core = core_started links c.new-2.result.items
          (subst IsState (sym c.in_ok-links.ensures) (IsState-start set c.processors.ensures.valid))
          (subst NobodyIsReady (sym c.in_ok-links.ensures) (nobody_ready set))
          (subst HasCertificates (sym c.in_ok-links.ensures) (HasCertificates-start set)) none;
      rows_count = rows_counted count made rows c.in_ok-rows.ensures c.reserve_rows.ensures.grew ∙ processors;
      takes_count = ap length c.in_ok-takes.ensures ∙ length-replicate c.len.result 0 ∙ tasks;
      orders = λ p lt. rows_say_nothing count made rows c.in_ok-rows.ensures c.reserve_rows.ensures.grew links c.new-2.result.items none p
          (rw processors lt);
      takes = λ t lt. never_taken links c.new-2.result.items c.in_ok-takes.takes.items c.len.result t none c.in_ok-takes.ensures;
      rows_open = λ still p lt. record {
        held = nobody_is_held count made rows c.in_ok-rows.ensures c.reserve_rows.ensures.grew set links c.in_ok-links.ensures p
            (rw processors lt);
        room = c.in_ok-reserve_rows.ensures.ok p
            (rw (rows_counted count made rows c.in_ok-rows.ensures c.reserve_rows.ensures.grew, processors) lt);
      };
      room = search rules;
    }

pub returns : goal.returns
returns c =
    let links = c.in_ok-links.links in
    let first = c.in_ok-first_masks.first_masks.items in
    let same = start_kept c.args.set.now links first c.in_ok-links.ensures c.in_ok-first_masks.ensures in
    ap (λ (history : List Entry). record { start = state_before links first; history = history; links = links; closed = false; spare = 0 })
    c.new-2.ensures.items
    ∙ ap₂ (λ (start now : State). record { start = start; history = []; links = now; closed = false; spare = 0 })
    (same ∙ c.in_ok-links.ensures) c.in_ok-links.ensures
