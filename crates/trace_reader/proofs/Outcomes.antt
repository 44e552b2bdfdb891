-- What a line of a task or of an event comes to, by its parts.
use Rattle.std.proofs.Common.{◌≡◌, ℕ, List, [], codes, refl, sym, ◌∙◌, subst, inl, inr, arith}
use Rattle.affinity_mask.specs.Number.{IsNumber}
use Rattle.task_set.specs.TaskSet.{TaskData, SetData, with_task}
use Rattle.task_set.specs.Refusal.{CanAdd}
use Rattle.task_set.specs.Event.{IsOfVersion}
use Rattle.task_set.specs.declared.event.Event.{Event}
use Rattle.task_set.specs.declared.event.Event.TheVariants as event
use Rattle.text_fields.specs.Machine.{Leads, Fails}
use Rattle.text_fields.specs.Form.{Fields}
use Rattle.text_fields.proofs.Words.{clash, head_same}
use Rattle.trace_reader.specs.declared.posted.Posted.{Posted}
use Rattle.trace_reader.specs.declared.fault.InputKind.{InputKind}
use Rattle.trace_reader.specs.InputText.{IsTaskLine, IsOnStream, IsEventFields, IsEventLine, end_line}
use Rattle.trace_reader.specs.Progress.{Progress, Listed}
use Rattle.trace_reader.specs.LineOutcome.{NamedEvent, Arrive, Depart, Tick, Affinity, Offline, Online, NamedLine, named_line, IsForTask}
use Rattle.trace_reader.specs.LineOutcome.{LineOutcome, IsTaskOutcome, IsPlaced, IsLookedUp, IsEventOutcome, IsFieldsOutcome}
use Rattle.trace_reader.proofs.Rows.{IsNamed, to_rows, of_rows}

pub leads_same : (one other : Progress) → ◌≡◌ {A = LineOutcome} (Leads one) (Leads other) → one ≡ other
leads_same one other e = cc

pub leads_not_fails : {A : Type 0} (next : Progress) (kind : InputKind) → ◌≡◌ {A = LineOutcome} (Leads next) (Fails kind) → A
leads_not_fails next kind e = cc

-- ---- tasks
-- the line of a task is not the end
pub task_outcome : (version : ℕ) (set : SetData) (events : List Posted) (fields : Fields) → IsForTask events fields
    → (outcome : LineOutcome) → IsTaskOutcome version set fields outcome → IsFieldsOutcome (Listed version set events) fields outcome
task_outcome version set events fields task outcome says = inr (λ end. clash (sym end ∙ task.1.1) refl, inl (task, says))

pub task_leads : (version : ℕ) (set : SetData) (fields : Fields) (task : TaskData) → IsTaskLine fields task → CanAdd set task
    → IsFieldsOutcome (Listed version set []) fields (Leads (Listed version (with_task set task) []))
task_leads version set fields task (list, form, is_list) can =
    task_outcome version set [] fields (refl, (_, form.each_field)) _
    (inl (record { name = task.name; priority = task.priority; list = list }, form, inl (task.mask, is_list, inl (can, refl))))

-- ---- events
-- what stands on a stream begins with a number
task_is_no_number : IsNumber (codes "task") → ⊥
task_is_no_number number = let digit = number.1.0 in omega arith

end_is_no_number : IsNumber (codes "end") → ⊥
end_is_no_number number = let digit = number.1.0 in omega arith

module _ (version : ℕ) (set : SetData) (events : List Posted) (fields : Fields) where
  -- what is neither the end nor for a task is an event
  pub other_outcome : (fields ≡ end_line → ⊥) → (IsForTask events fields → ⊥) → (outcome : LineOutcome)
      → IsEventOutcome version set events fields outcome → IsFieldsOutcome (Listed version set events) fields outcome
  other_outcome not_end not_task outcome is = inr (not_end, inr (not_task, is))

  -- the line of an event is neither that of a task nor the end
  pub event_outcome : (posted : Posted) (outcome : LineOutcome) → IsEventLine version set fields posted
      → IsEventOutcome version set events fields outcome → IsFieldsOutcome (Listed version set events) fields outcome
  event_outcome posted outcome (rest, on, says, of_version) is = other_outcome not_end not_task outcome is
    where
      not_end : fields ≡ end_line → ⊥
      not_end end = end_is_no_number (subst IsNumber (head_same (sym on.1 ∙ end)) on.2.0.0)

      not_task : IsForTask events fields → ⊥
      not_task task = task_is_no_number (subst IsNumber (head_same (sym on.1 ∙ task.1.1)) on.2.0.0)

  -- what comes of the event of a line
  pub event_in : (posted : Posted) (outcome : LineOutcome) → IsEventLine version set fields posted
      → IsPlaced version set events posted.stream posted.event outcome → IsEventOutcome version set events fields outcome
  event_in posted outcome (rest, (text, e, is), says, of_version) = by posted.event says of_version
    where
      parts : (event : NamedEvent) → IsNamed version set.processors rest event
          → IsLookedUp set (IsPlaced version set events posted.stream) event outcome → IsEventOutcome version set events fields outcome
      parts event says looked =
          inl (
            named_line posted.stream event,
            (
              text,
              rest,
              posted.stream,
              event,
              e,
              is,
              to_rows version set.processors rest event says,
              refl,
            ),
            looked,
          )

      by : (e : Event) → IsEventFields set rest e → IsOfVersion version e → IsPlaced version set events posted.stream e outcome
          → IsEventOutcome version set events fields outcome
      by (event.Arrive t) (name, e, is) second next = parts (Arrive name) e (inl (t, is, next))
      by (event.Depart t) (name, e, is) second next = parts (Depart name) e (inl (t, is, next))
      by (event.Tick n) says second next = parts (Tick n) says next
      by (event.Affinity t mask) (name, list, e, is, is_list) second next =
          parts (Affinity name list) (second, e) (inl (mask, is_list, inl (t, is, next)))
      by (event.Offline p) says second next = parts (Offline p) (second, says) next
      by (event.Online p) says second next = parts (Online p) (second, says) next

  -- and the event of a line that leads on
  pub event_out : (next : Progress) → IsEventOutcome version set events fields (Leads next)
      → (posted : Posted) × IsEventLine version set fields posted × IsPlaced version set events posted.stream posted.event (Leads next)
  event_out next (inr (none, e)) = leads_not_fails next _ e
  event_out next (inl (line, (text, rest, stream, done, e, is, says, made), looked)) =
      by done (of_rows version set.processors rest done says)
      (subst (λ (l : NamedLine). IsLookedUp set (IsPlaced version set events l.stream) l.event (Leads next)) made looked)
    where
      IsFound : Type 0
      IsFound =
          (posted : Posted) × IsEventLine version set fields posted × IsPlaced version set events posted.stream posted.event (Leads next)

      on : IsOnStream fields stream rest
      on = (text, e, is)

      found : (e : Event) → IsEventFields set rest e → IsOfVersion version e → IsPlaced version set events stream e (Leads next) → IsFound
      found e says of_version more = (record { stream = stream; event = e }, (rest, on, says, of_version), more)

      by : (named : NamedEvent) → IsNamed version set.processors rest named
          → IsLookedUp set (IsPlaced version set events stream) named (Leads next) → IsFound
      by (Arrive name) e (inl (t, is, more)) = found (event.Arrive t) (name, e, is) tt more
      by (Depart name) e (inl (t, is, more)) = found (event.Depart t) (name, e, is) tt more
      by (Tick n) says more = found (event.Tick n) says tt more
      by (Affinity name list) (second, e) (inl (mask, is_list, inl (t, is, more))) =
          found (event.Affinity t mask) (name, list, e, is, is_list) second more
      by (Offline p) (second, says) more = found (event.Offline p) says second more
      by (Online p) (second, says) more = found (event.Online p) says second more
      by (Arrive name) e (inr (none, bad)) = leads_not_fails next _ bad
      by (Depart name) e (inr (none, bad)) = leads_not_fails next _ bad
      by (Affinity name list) e (inl (mask, is_list, inr (none, bad))) = leads_not_fails next _ bad
      by (Affinity name list) e (inr (fault, is_fault, bad)) = leads_not_fails next _ bad
