-- A checker that follows an entry which passes is a checker again.
use Rattle.std.proofs.Common.{◌≡◌, ℕ, ◌<◌, List, [], ◌∷◌, get_or, refl, sym, ap, ◌∙◌, subst, arith}
use Rattle.task_set.specs.Context.{context_after_take, context_after_run}
use Rattle.task_set.specs.declared.context.Context.{Context}
use Rattle.task_set.specs.declared.event.Event.{Event}
use Rattle.strong_apa.specs.declared.reply.Entry.{Entry}
use Rattle.strong_apa.specs.State.{State, IsState, HasSameTasks, task_count}
use Rattle.strong_apa.specs.Dispatch.{taken_between, places_of, tick_runs}
use Rattle.strong_apa.specs.History.{effect_of}
use Rattle.strong_apa.proofs.SameTasks.{same_tasks-effect, same_count}
use Rattle.strong_apa.specs.Certified.{HasCertificates}
use Rattle.reach_certificate.specs.Checker.{CheckerData, IsChecker}
use Rattle.reach_certificate.specs.Contexts.{context_after_takes, context_after_all_runs, context_after_entry, EachBecomes}
use Rattle.strong_apa.specs.CertificateLaws.{LinkedIsBest}
use Rattle.strong_apa.specs.Passing.{Passes}
use Rattle.strong_apa.proofs.Best.{linked_is_best}
use Rattle.strong_apa.proofs.KeptStates.{passing_keeps_state}
use Rattle.strong_apa.proofs.Passed.{passing_keeps_certificates}

-- ---- a context is always that of its task
takes_keep_task : (c : Context) (places : List ℕ) → (context_after_takes c places).task ≡ c.task
takes_keep_task c [] = refl
takes_keep_task c (p ∷ places) = takes_keep_task (context_after_take c p) places

runs_keep_task : (c : Context) (runs : List (ℕ × ℕ)) → (context_after_all_runs c runs).task ≡ c.task
runs_keep_task c [] = refl
runs_keep_task c (run ∷ runs) = runs_keep_task (context_after_run c run.0 run.1) runs

entry_keeps_task : (old new : State) (event : Event) (t : ℕ) (c : Context) → (context_after_entry old new event t c).task ≡ c.task
entry_keeps_task old new event t c =
    runs_keep_task (context_after_takes c (taken_between old new t)) (tick_runs event (places_of old t))
    ∙ takes_keep_task c (taken_between old new t)

-- ---- an entry that passes
module _ (old : CheckerData) (checker : IsChecker old) (entry : Entry) (passes : Passes old.links entry.event entry.reply) (links : State)
    (effect : links ≡ effect_of old.links entry) where
  pub same_as_before : HasSameTasks old.links links
  same_as_before = rw effect (same_tasks-effect old.links entry)

  -- links of the same tasks as before are of the same tasks as after
  pub saved_same : (saved : State) → HasSameTasks old.links saved → HasSameTasks links saved
  saved_same saved same = record {
    processors = same.processors ∙ sym same_as_before.processors;
    priorities = same.priorities ∙ sym same_as_before.priorities;
  }

  pub tasks_same : task_count links ≡ task_count old.links
  tasks_same = ap task_count effect ∙ same_count old.links (effect_of old.links entry) (same_tasks-effect old.links entry)

  certificates_kept : HasCertificates links
  certificates_kept = subst HasCertificates (sym effect)
      (passing_keeps_certificates old.links entry.event entry.reply checker.state checker.certificates passes)

  state_kept : IsState links
  state_kept = subst IsState (sym effect) (passing_keeps_state old.links entry.event entry.reply checker.state passes)

  pub best_kept : LinkedIsBest links
  best_kept = linked_is_best links state_kept certificates_kept

  pub checker_kept : (contexts : List Context) → EachBecomes (context_after_entry old.links links entry.event) old.contexts contexts
      → IsChecker (record { links = links; contexts = contexts })
  checker_kept contexts becomes = record {
    state = state_kept;
    certificates = certificates_kept;
    count = becomes.count ∙ checker.count ∙ sym tasks_same;
    tasks = λ t d lt.
        let same = tasks_same in
        let number : t < task_count old.links = omega arith in
        let count = checker.count in
        ap (λ (c : Context). c.task) (becomes.each t d (omega arith))
        ∙ entry_keeps_task old.links links entry.event t (get_or old.contexts t d)
        ∙ checker.tasks t d number;
  }
