-- Tasks by their fields: what can be added, and why it is not.
use Rattle.std.proofs.Common.{◌≡◌, ◌≢◌, ℕ, ◌⊎◌, inl, inr, List, [], ◌∷◌, length, Bor, refl, sym, ap, ◌∙◌, subst, arith}
use Rattle.std.specs.Prelude.{codes}
use Rattle.std.proofs.lemmas.List.{length-map}
use Rattle.task_set.specs.TaskSet.{TaskData, SetData}
use Rattle.task_set.specs.Refusal.{new_task, IsRefusal}
use Rattle.task_set.specs.declared.fault.TaskFault.{TaskFault}
use Rattle.task_set.specs.declared.fault.TaskFault.TheVariants as task
use Rattle.schedule_text.specs.ScheduleFault.{kind_of_refusal}
use Rattle.schedule_text.specs.LineForms.{IsField}
use Rattle.schedule_text.specs.declared.fault.TextKind.{TextKind}
use Rattle.schedule_text.specs.declared.fault.TextKind.TheVariants.{BadLine}
use Rattle.schedule_text.specs.Reading.{IsOutOfMemory}
use Rattle.schedule_text.specs.Fields.{IsNumberField, IsListField}
use Rattle.schedule_text.specs.LineFields.{IsTaskFields, IsTaskFault}
use Rattle.text_fields.specs.Fields.{texts}
use Rattle.text_fields.proofs.Words.{head_same, tail_same}

four_same : {a b c d a' b' c' d' : List ℕ} → a ≡ a' → b ≡ b' → c ≡ c' → d ≡ d' → a ∷ b ∷ c ∷ d ∷ [] ≡ a' ∷ b'
    ∷ c' ∷ d' ∷ []
four_same one two three four = cc

pub task_form : (fields : List (List ℕ)) (word name number list given : List ℕ) (priority mask : ℕ) → fields
    ≡ word ∷ name ∷ number ∷ list ∷ [] → given ≡ name → word ≡ codes "task" → IsField name
    → IsNumberField 0 4294967295 number priority → IsListField list mask
    → IsTaskFields fields (new_task given priority mask)
task_form fields word name number list given priority mask four same is field n l = record {
  name = subst IsField (sym same) field;
  priority = (let high = n.range.1 in omega arith);
  some = l.some;
  processors = l.processors;
  each_field = four ∙ four_same is (sym same) n.is_text l.is_text;
}

-- fields of another count are those of no task
pub not_four : (set : SetData) (fields : List (Bor (List ℕ))) → length fields ≢ 4
    → IsOutOfMemory BadLine ⊎ IsTaskFault set (texts fields) BadLine
not_four set fields other =
    inr (inl (refl, λ added f. other (sym (length-map fields _) ∙ ap length f.each_field)))

-- what the first three of four fields say
pub record IsTaskStart (word name number : List ℕ) (priority : ℕ) : Type 0 where
  pub is_word : word ≡ codes "task"
  pub is_name : IsField name
  pub is_number : IsNumberField 0 4294967295 number priority

-- four fields that are not so begun are those of no task
pub not_begun : (set : SetData) (fields : List (List ℕ)) (word name number list : List ℕ)
    → fields ≡ word ∷ name ∷ number ∷ list ∷ [] → ((priority : ℕ) → IsTaskStart word name number priority → ⊥)
    → IsOutOfMemory BadLine ⊎ IsTaskFault set fields BadLine
not_begun set fields word name number list four none =
    inr (inl (
      refl,
      λ added f. let same = sym four ∙ f.each_field in
          none added.priority (record {
            is_word = head_same same;
            is_name = subst IsField (sym (head_same (tail_same same))) f.name;
            is_number = record {
              range = (omega arith, (let high = f.priority in omega arith));
              is_text = head_same (tail_same (tail_same same));
            };
          }),
    ))

-- the list of a task line
pub task_list : (fields : List (List ℕ)) (word name number list : List ℕ) (added : TaskData) → fields ≡ word
    ∷ name ∷ number ∷ list ∷ [] → IsTaskFields fields added → IsListField list added.mask
task_list fields word name number list added four f =
    record {
      some = f.some;
      processors = f.processors;
      is_text = head_same
          (tail_same (tail_same (tail_same (sym four ∙ f.each_field))));
    }

pub list_fault : (set : SetData) (fields : List (List ℕ)) (word name number list : List ℕ) (kind : TextKind)
    → fields ≡ word ∷ name ∷ number ∷ list ∷ [] → (kind ≡ BadLine) × ((X : ℕ) → IsListField list X → ⊥)
    → IsOutOfMemory kind ⊎ IsTaskFault set fields kind
list_fault set fields word name number list kind four bad =
    inr (inl (bad.0, λ added f. bad.1 added.mask (task_list fields word name number list added four f)))

-- a task that is not added
pub task_refused : (set : SetData) (fields : List (List ℕ)) (added : TaskData) (fault : TaskFault)
    → IsTaskFields fields added → (fault ≡ task.OutOfMemory) ⊎ IsRefusal set added fault
    → IsOutOfMemory (kind_of_refusal fault) ⊎ IsTaskFault set fields (kind_of_refusal fault)
task_refused set fields added task.OutOfMemory form why = inl refl
task_refused set fields added fault form (inl none) = absurd (cc)
task_refused set fields added fault form (inr why) = inr (inr (added, fault, refl, form, why))
