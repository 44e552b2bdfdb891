-- Lines that the reader refuses.
use Rattle.std.proofs.lemmas.Result.{IfErr-weaker}
use Rattle.std.proofs.Common.{Result, IfErr, ◌≡◌, ◌⊎◌, ℕ, List, [], ◌∷◌, codes, refl, sym, ap, ◌∙◌, subst, inl, inr}
use Rattle.affinity_mask.specs.ListText.{IsListText}
use Rattle.affinity_mask.specs.ListFault.{IsListFault}
use Rattle.affinity_mask.specs.declared.mask_fault.MaskFault.{MaskFault}
use Rattle.task_set.specs.TaskSet.{SetData}
use Rattle.task_set.specs.Refusal.{new_task, IsRefusal, IsNameOf, IsNewName}
use Rattle.task_set.specs.declared.fault.TaskFault.{TaskFault}
use Rattle.task_set.specs.declared.fault.TaskFault.TheVariants as task
use Rattle.task_set.specs.declared.event.Event.{Event}
use Rattle.text_fields.specs.declared.word.EventWord.TheVariants.{Arrive, Depart, Tick, Offline, Online}
use Rattle.text_fields.specs.EventWord.{IsNoEventWord}
use Rattle.text_fields.specs.Machine.{Fails}
use Rattle.text_fields.specs.Form.{Fields}
use Rattle.text_fields.proofs.NamedTasks.{name_not_new}
use Rattle.text_fields.proofs.Words.{head_same, tail_same}
use Rattle.trace_reader.specs.declared.posted.Posted.{Posted}
use Rattle.trace_reader.specs.declared.fault.InputKind.{InputKind}
use Rattle.trace_reader.specs.declared.fault.InputKind.TheVariants.{BadMask, UnknownTask}
use Rattle.trace_reader.specs.InputText.{IsTaskForm, IsOnStream}
use Rattle.trace_reader.specs.InputFault.{kind_of_refusal}
use Rattle.trace_reader.specs.LineOutcome.{NamedEvent, named_line, IsNamedEvent, LineOutcome, IsMaskOutcome, IsTaskOutcome, IsPlaced}
use Rattle.trace_reader.specs.LineOutcome.{IsLookedUp, IsEventOutcome}
use Rattle.trace_reader.specs.LineOutcome as named
use Rattle.trace_reader.specs.Reading.{IsFaultOf, IsNothing, IsPairForm, IsPairFault, IsChangeFault, IsEventFault}
use Rattle.trace_reader.proofs.Rows.{IsNamed, to_rows, of_rows}

-- the line of a task, by its parts
pub task_in : {version : ℕ} {set : SetData} {fields : Fields} {name list : List ℕ} {priority : ℕ} {outcome : LineOutcome}
    → IsTaskForm fields name priority list
    → IsMaskOutcome version set (record { name = name; priority = priority; list = list }) outcome
    → IsTaskOutcome version set fields outcome
task_in {name = name} {list = list} {priority = priority} form says =
    inl (record { name = name; priority = priority; list = list }, form, says)

-- a task that is not added
pub task_refused : {version : ℕ} {set : SetData} {fields : Fields} {name given list : List ℕ} {priority mask : ℕ} (fault : TaskFault)
    → IsTaskForm fields name priority list → given ≡ name → IsListText list mask
    → (fault ≡ task.OutOfMemory) ⊎ IsRefusal set (new_task given priority mask) fault
    → IsFaultOf (IsTaskOutcome version set fields) (kind_of_refusal fault)
task_refused task.OutOfMemory form same listed why = inl refl
task_refused fault form same listed (inl none) = absurd (cc)
task_refused {mask = mask} fault form same listed (inr why) = inr (task_in form (inl (mask, listed, inr (fault, rw (← same) why, refl))))

-- ---- the fields after a stream
new_fails : (set : SetData) (name : List ℕ) → IsNewName set name → (t : ℕ) → IsNameOf set t name → ⊥
new_fails set name new t is = name_not_new set t name name refl is new

-- a word of no event is that of no pair
pub no_word_no_pair : (version m : ℕ) (word value : List ℕ) → IsNoEventWord word → IsPairForm version m word value → ⊥
no_word_no_pair version m word value none (inl (inl is)) = none Arrive is
no_word_no_pair version m word value none (inl (inr is)) = none Depart is
no_word_no_pair version m word value none (inr (inl (is, units))) = none Tick is
no_word_no_pair version m word value none (inr (inr (second, (inl is, p)))) = none Offline is
no_word_no_pair version m word value none (inr (inr (second, (inr is, p)))) = none Online is

pair_form : (version m : ℕ) (word value : List ℕ) (event : NamedEvent) → IsNamed version m (word ∷ value ∷ []) event
    → IsPairForm version m word value
pair_form version m word value (named.Arrive name) e = inl (inl (head_same e))
pair_form version m word value (named.Depart name) e = inl (inr (head_same e))
pair_form version m word value (named.Tick n) (text, e, is) = let same : value ≡ text = cc in inr (inl (head_same e, (n, rw same is)))
pair_form version m word value (named.Affinity name list) (second, e) = absurd (cc)
pair_form version m word value (named.Offline p) (second, (text, e, is)) =
    let same : value ≡ text = cc in inr (inr (second, (inl (head_same e), (p, rw same is))))
pair_form version m word value (named.Online p) (second, (text, e, is)) =
    let same : value ≡ text = cc in inr (inr (second, (inr (head_same e), (p, rw same is))))

-- the fault of a word and a value
pub pair_refused : (version : ℕ) (set : SetData) (word value : List ℕ) (kind : InputKind)
    → IsPairFault version set word value kind → IsChangeFault version set (word ∷ value ∷ []) kind
pair_refused version set word value kind (inl (is_kind, none)) =
    inr (
      λ event says. none (pair_form version set.processors word value event (of_rows version set.processors _ event says)),
      ap Fails is_kind,
    )
pair_refused version set word value kind (inr (is_kind, is_word, new)) = by is_word
  where
    pair : List ℕ → Fields
    pair first = first ∷ value ∷ []

    looked : (event : NamedEvent) → IsNamed version set.processors (pair word) event → IsLookedUp set IsNothing event (Fails kind)
        → IsChangeFault version set (pair word) kind
    looked event says outcome = inl (event, to_rows version set.processors (pair word) event says, outcome)

    by : (word ≡ codes "arrive") ⊎ (word ≡ codes "depart") → IsChangeFault version set (pair word) kind
    by (inl is) = looked (named.Arrive value) (ap pair is) (inr (new_fails set value new, ap Fails is_kind))
    by (inr is) = looked (named.Depart value) (ap pair is) (inr (new_fails set value new, ap Fails is_kind))

module _ (set : SetData) (name list : List ℕ) where
  abbrev IsAffinityFault : InputKind → Type 0
  IsAffinityFault kind = IsChangeFault 2 set (codes "affinity" ∷ name ∷ list ∷ []) kind

  affinity : (outcome : LineOutcome) → IsLookedUp set IsNothing (named.Affinity name list) outcome
      → (event : NamedEvent) × IsNamedEvent 2 set.processors (codes "affinity" ∷ name ∷ list ∷ []) event
      × IsLookedUp set IsNothing event outcome
  affinity outcome looked = (named.Affinity name list, to_rows 2 set.processors _ (named.Affinity name list) (refl, refl), looked)

  -- a new mask whose list has a fault
  pub mask_refused : (fault : MaskFault) → IsListFault list fault → IsAffinityFault (BadMask fault)
  mask_refused fault bad = inl (affinity _ (inr (fault, bad, refl)))

  -- and one of a task that there is not
  pub unknown_refused : (mask : ℕ) → IsListText list mask → IsNewName set name → IsAffinityFault UnknownTask
  unknown_refused mask is_list new = inl (affinity _ (inl (mask, is_list, inr (new_fails set name new, refl))))

-- ---- the line of an event
-- the fault of the fields after a stream
pub change_refused : (version : ℕ) (set : SetData) (fields : Fields) (stream : ℕ) (rest : Fields) (kind : InputKind)
    → IsOnStream fields stream rest → IsChangeFault version set rest kind → IsEventFault version set fields kind
change_refused version set fields stream rest kind (text, e, is) (inl (event, says, looked)) =
    inl (named_line stream event, (text, rest, stream, event, e, is, says, refl), looked)
change_refused version set fields stream rest kind (text, e, is) (inr (none, is_kind)) =
    inr (
      λ line (text', rest', stream', event, e', is', says, made). none event
          (subst (λ (r : Fields). IsNamedEvent version set.processors r event) (tail_same (sym e' ∙ e)) says),
      is_kind,
    )

-- what is looked up in vain, whatever would come of an event
in_vain : (set : SetData) (Then : Event → LineOutcome → Type 0) (event : NamedEvent) (outcome : LineOutcome)
    → IsLookedUp set IsNothing event outcome
    → IsLookedUp set Then event outcome
in_vain set Then (named.Arrive name) outcome (inl (t, is, none)) = absurd none
in_vain set Then (named.Arrive name) outcome (inr fault) = inr fault
in_vain set Then (named.Depart name) outcome (inl (t, is, none)) = absurd none
in_vain set Then (named.Depart name) outcome (inr fault) = inr fault
in_vain set Then (named.Tick n) outcome none = absurd none
in_vain set Then (named.Affinity name list) outcome (inl (mask, is_list, inl (t, is, none))) = absurd none
in_vain set Then (named.Affinity name list) outcome (inl (mask, is_list, inr fault)) = inl (mask, is_list, inr fault)
in_vain set Then (named.Affinity name list) outcome (inr fault) = inr fault
in_vain set Then (named.Offline p) outcome none = absurd none
in_vain set Then (named.Online p) outcome none = absurd none

pub event_refused : (version : ℕ) (set : SetData) (events : List Posted) (fields : Fields) (kind : InputKind)
    → IsEventFault version set fields kind → IsEventOutcome version set events fields (Fails kind)
event_refused version set events fields kind (inl (line, is, looked)) =
    inl (line, is, in_vain set (IsPlaced version set events line.stream) line.event _ looked)
event_refused version set events fields kind (inr none) = inr none

-- ---- one fault for another
pub fault_through : {A : Type 0} {One Other : LineOutcome → Type 0} → ((outcome : LineOutcome) → One outcome → Other outcome)
    → (r : Result A InputKind) → IfErr r (IsFaultOf One) → IfErr r (IsFaultOf Other)
fault_through {One = One} {Other = Other} through r = IfErr-weaker r _ _ by
  where
    by : (kind : InputKind) → IsFaultOf One kind → IsFaultOf Other kind
    by kind (inl memory) = inl memory
    by kind (inr fault) = inr (through (Fails kind) fault)
