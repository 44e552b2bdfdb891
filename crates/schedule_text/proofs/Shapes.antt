-- The shapes of events: what an event says follows from its fields.
use Rattle.std.proofs.Common.{◌≡◌, ◌≢◌, ℕ, ◌<◌, List, [], ◌∷◌, length, refl, sym, ap, ◌∙◌, subst, arith}
use Rattle.std.specs.Prelude.{codes}
use Rattle.task_set.specs.TaskSet.{SetData, IsMask}
use Rattle.task_set.specs.Refusal.{IsNameOf}
use Rattle.task_set.specs.declared.event.Event.{Event}
use Rattle.task_set.specs.declared.event.Event.TheVariants.{Arrive, Depart, Tick, Affinity, Offline, Online}
use Rattle.text_fields.specs.EventText.{name_of}
use Rattle.schedule_text.specs.declared.fault.TextKind.{TextKind}
use Rattle.schedule_text.specs.Fields.{IsNumberField, IsProcessorField, IsMaskField}
use Rattle.schedule_text.specs.LineFields.{IsSaid, IsNameFault, IsEventFields, IsEventFault, IsNoFirstWord}
use Rattle.text_fields.proofs.Words.{head_same, tail_same, other_word}
use Rattle.text_fields.proofs.NamedTasks.{named_task}
use Rattle.schedule_text.proofs.Names.{IsNamed, name_fault, alone, alone_named, alone_has, alone_processors}

-- ---- a word and a value

-- what the fields of an event with one value say
pub data IsValuedSaid (version m : ℕ) (word value : List ℕ) (tasks : SetData) : Type 0 where
  arriving : word ≡ codes "arrive" → IsNamed tasks value → IsValuedSaid version m word value tasks
  departing : word ≡ codes "depart" → IsNamed tasks value → IsValuedSaid version m word value tasks
  ticking : word ≡ codes "tick" → (n : ℕ) → IsNumberField 1 1000000 value n → IsValuedSaid version m word value tasks
  leaving : version ≡ 2 → word ≡ codes "offline" → (p : ℕ) → IsProcessorField m value p
      → IsValuedSaid version m word value tasks
  returning : version ≡ 2 → word ≡ codes "online" → (p : ℕ) → IsProcessorField m value p
      → IsValuedSaid version m word value tasks

second : {a b : List ℕ} {x y : List ℕ} {xs ys : List (List ℕ)} → a ∷ x ∷ xs ≡ b ∷ y ∷ ys → x ≡ y
second e = head_same (tail_same e)

module _ (version m : ℕ) where
  valued_said : (word value : List ℕ) (tasks : SetData) (event : Event)
      → IsEventFields version m (word ∷ value ∷ []) tasks event → IsValuedSaid version m word value tasks
  valued_said word value tasks (Arrive t) f = arriving (head_same f.each_field) (t, f.about, second f.each_field)
  valued_said word value tasks (Depart t) f = departing (head_same f.each_field) (t, f.about, second f.each_field)
  valued_said word value tasks (Tick n) f =
      ticking (head_same f.each_field) n (record { range = f.units; is_text = second f.each_field })
  valued_said word value tasks (Affinity t mask) f = absurd (omega (arith, ap length f.each_field))
  valued_said word value tasks (Offline p) f =
      leaving f.of_version (head_same f.each_field) p
      (record { below = subst (λ (n : ℕ). p < n) f.processors f.about; is_text = second f.each_field })
  valued_said word value tasks (Online p) f =
      returning f.of_version (head_same f.each_field) p
      (record { below = subst (λ (n : ℕ). p < n) f.processors f.about; is_text = second f.each_field })

  arrival_named : (word value : List ℕ) → word ≡ codes "arrive" → (tasks : SetData) (event : Event)
      → IsEventFields version m (word ∷ value ∷ []) tasks event → IsNamed tasks value
  arrival_named word value is tasks event f = elim (valued_said word value tasks event f) [
    | arriving same named ↦ named
    | departing same named ↦ absurd (other_word (sym is ∙ same) refl)
    | ticking same n number ↦ absurd (other_word (sym is ∙ same) refl)
    | leaving two same p processor ↦ absurd (other_word (sym is ∙ same) refl)
    | returning two same p processor ↦ absurd (other_word (sym is ∙ same) refl)
  ]

  departure_named : (word value : List ℕ) → word ≡ codes "depart" → (tasks : SetData) (event : Event)
      → IsEventFields version m (word ∷ value ∷ []) tasks event → IsNamed tasks value
  departure_named word value is tasks event f = elim (valued_said word value tasks event f) [
    | arriving same named ↦ absurd (other_word (sym is ∙ same) refl)
    | departing same named ↦ named
    | ticking same n number ↦ absurd (other_word (sym is ∙ same) refl)
    | leaving two same p processor ↦ absurd (other_word (sym is ∙ same) refl)
    | returning two same p processor ↦ absurd (other_word (sym is ∙ same) refl)
  ]

  -- a tick without such a number is no event
  pub tick_none : (word value : List ℕ) → word ≡ codes "tick" → ((n : ℕ) → IsNumberField 1 1000000 value n → ⊥)
      → IsSaid (IsEventFields version m (word ∷ value ∷ [])) → ⊥
  tick_none word value is none (tasks, event, names, f) = elim (valued_said word value tasks event f) [
    | arriving same named ↦ other_word (sym is ∙ same) refl
    | departing same named ↦ other_word (sym is ∙ same) refl
    | ticking same n number ↦ none n number
    | leaving two same p processor ↦ other_word (sym is ∙ same) refl
    | returning two same p processor ↦ other_word (sym is ∙ same) refl
  ]

  -- the first version has no other event
  pub first_none : (word value : List ℕ) → version ≢ 2 → IsNoFirstWord word
      → IsSaid (IsEventFields version m (word ∷ value ∷ [])) → ⊥
  first_none word value other no_word (tasks, event, names, f) = elim (valued_said word value tasks event f) [
    | arriving same named ↦ no_word.0 same
    | departing same named ↦ no_word.1 same
    | ticking same n number ↦ no_word.2 same
    | leaving two same p processor ↦ other two
    | returning two same p processor ↦ other two
  ]

  -- another event is about a processor
  pub no_processor : (word value : List ℕ) → IsNoFirstWord word → ((p : ℕ) → IsProcessorField m value p → ⊥)
      → IsSaid (IsEventFields version m (word ∷ value ∷ [])) → ⊥
  no_processor word value no_word none (tasks, event, names, f) = elim (valued_said word value tasks event f) [
    | arriving same named ↦ no_word.0 same
    | departing same named ↦ no_word.1 same
    | ticking same n number ↦ no_word.2 same
    | leaving two same p processor ↦ none p processor
    | returning two same p processor ↦ none p processor
  ]

  -- and that goes off line or comes on line
  pub no_event : (word value : List ℕ) → IsNoFirstWord word → word ≢ codes "offline" → word ≢ codes "online"
      → IsSaid (IsEventFields version m (word ∷ value ∷ [])) → ⊥
  no_event word value no_word no_leaving no_return (tasks, event, names, f) =
      elim (valued_said word value tasks event f) [
        | arriving same named ↦ no_word.0 same
        | departing same named ↦ no_word.1 same
        | ticking same n number ↦ no_word.2 same
        | leaving two same p processor ↦ no_leaving same
        | returning two same p processor ↦ no_return same
      ]

  two_same : {a b x y : List ℕ} → a ≡ b → x ≡ y → a ∷ x ∷ [] ≡ b ∷ y ∷ []
  two_same one two = cc

  pub tick_read : (set : SetData) (word value : List ℕ) (n : ℕ) → set.processors ≡ m → word ≡ codes "tick"
      → IsNumberField 1 1000000 value n → IsEventFields version m (word ∷ value ∷ []) set (Tick n)
  tick_read set word value n on is f =
      record { processors = on; about = tt; of_version = tt; units = f.range; each_field = two_same is f.is_text }

  pub offline_read : (set : SetData) (word value : List ℕ) (p : ℕ) → set.processors ≡ m → version ≡ 2
      → word ≡ codes "offline" → IsProcessorField m value p
      → IsEventFields version m (word ∷ value ∷ []) set (Offline p)
  offline_read set word value p on two is f =
      record {
        processors = on;
        about = subst (λ (n : ℕ). p < n) (sym on) f.below;
        of_version = two;
        units = tt;
        each_field = two_same is f.is_text;
      }

  pub online_read : (set : SetData) (word value : List ℕ) (p : ℕ) → set.processors ≡ m → version ≡ 2
      → word ≡ codes "online" → IsProcessorField m value p
      → IsEventFields version m (word ∷ value ∷ []) set (Online p)
  online_read set word value p on two is f =
      record {
        processors = on;
        about = subst (λ (n : ℕ). p < n) (sym on) f.below;
        of_version = two;
        units = tt;
        each_field = two_same is f.is_text;
      }

  -- ---- a word, a name and a list

  affinity_said : (word name list : List ℕ) (tasks : SetData) (event : Event)
      → IsEventFields version m (word ∷ name ∷ list ∷ []) tasks event
      → (version ≡ 2) × (word ≡ codes "affinity") × IsNamed tasks name × ((mask : ℕ) × IsMaskField m list mask)
  affinity_said word name list tasks (Affinity t mask) f = (
    f.of_version,
    head_same f.each_field,
    (t, f.about.0, second f.each_field),
    (
      mask,
      record {
        valid = subst (λ (n : ℕ). IsMask n mask) f.processors f.about.1;
        is_text = second (tail_same f.each_field);
      },
    ),
  )
  affinity_said word name list tasks (Arrive t) f = absurd (omega (arith, ap length f.each_field))
  affinity_said word name list tasks (Depart t) f = absurd (omega (arith, ap length f.each_field))
  affinity_said word name list tasks (Tick n) f = absurd (omega (arith, ap length f.each_field))
  affinity_said word name list tasks (Offline p) f = absurd (omega (arith, ap length f.each_field))
  affinity_said word name list tasks (Online p) f = absurd (omega (arith, ap length f.each_field))

  -- three fields are those of an affinity event of the second version
  pub three_none : (word name list : List ℕ) → (version ≡ 2 → word ≡ codes "affinity" → ⊥)
      → IsSaid (IsEventFields version m (word ∷ name ∷ list ∷ [])) → ⊥
  three_none word name list other (tasks, event, names, f) =
      let said = affinity_said word name list tasks event f in other said.0 said.1

  pub mask_of_some : (word name list : List ℕ) → IsSaid (IsEventFields version m (word ∷ name ∷ list ∷ []))
      → (mask : ℕ) × IsMaskField m list mask
  mask_of_some word name list (tasks, event, names, f) = (affinity_said word name list tasks event f).3

  three_same : {a b x y u v : List ℕ} → a ≡ b → x ≡ y → u ≡ v → a ∷ x ∷ u ∷ [] ≡ b ∷ y ∷ v ∷ []
  three_same one two three = cc

  affinity_written : (set : SetData) (word name list : List ℕ) (t mask : ℕ) → set.processors ≡ m → version ≡ 2
      → word ≡ codes "affinity" → t < length set.tasks → name ≡ name_of set t → IsMaskField m list mask
      → IsEventFields version m (word ∷ name ∷ list ∷ []) set (Affinity t mask)
  affinity_written set word name list t mask on two is within called f =
      record {
        processors = on;
        about = (within, subst (λ (n : ℕ). IsMask n mask) (sym on) f.valid);
        of_version = two;
        units = tt;
        each_field = three_same is called f.is_text;
      }

  pub affinity_read : (set : SetData) (word name list : List ℕ) (t mask : ℕ) → set.processors ≡ m → version ≡ 2
      → word ≡ codes "affinity" → IsNameOf set t name → IsMaskField m list mask
      → IsEventFields version m (word ∷ name ∷ list ∷ []) set (Affinity t mask)
  affinity_read set word name list t mask on two is called f =
      let named = named_task set t name called in
      affinity_written set word name list t mask on two is named.0 named.1 f

  -- an event has two fields or three
  pub event_length : (fields : List (List ℕ)) → length fields ≢ 2 → length fields ≢ 3
      → IsSaid (IsEventFields version m fields) → ⊥
  event_length fields two three (tasks, Affinity t mask, names, f) = three (ap length f.each_field)
  event_length fields two three (tasks, Arrive t, names, f) = two (ap length f.each_field)
  event_length fields two three (tasks, Depart t, names, f) = two (ap length f.each_field)
  event_length fields two three (tasks, Tick n, names, f) = two (ap length f.each_field)
  event_length fields two three (tasks, Offline p, names, f) = two (ap length f.each_field)
  event_length fields two three (tasks, Online p, names, f) = two (ap length f.each_field)

-- ---- names

module _ (version : ℕ) (set : SetData) where
  pub arrival_read : (word value : List ℕ) (t : ℕ) → word ≡ codes "arrive" → IsNameOf set t value
      → IsEventFields version set.processors (word ∷ value ∷ []) set (Arrive t)
  arrival_read word value t is called =
      let named = named_task set t value called in
      record {
        processors = refl;
        about = named.0;
        of_version = tt;
        units = tt;
        each_field = two_same version set.processors is named.1;
      }

  pub departure_read : (word value : List ℕ) (t : ℕ) → word ≡ codes "depart" → IsNameOf set t value
      → IsEventFields version set.processors (word ∷ value ∷ []) set (Depart t)
  departure_read word value t is called =
      let named = named_task set t value called in
      record {
        processors = refl;
        about = named.0;
        of_version = tt;
        units = tt;
        each_field = two_same version set.processors is named.1;
      }

  -- a name of no task
  pub arrival_fault : (word value : List ℕ) (kind : TextKind) → word ≡ codes "arrive" → IsNameFault set value kind
      → IsEventFault version (word ∷ value ∷ []) set kind
  arrival_fault word value kind is fault =
      name_fault (IsEventFields version set.processors (word ∷ value ∷ [])) set value kind set.processors (Arrive 0)
      (arrival_named version set.processors word value is)
      (record {
        processors = alone_processors set.processors value;
        about = alone_has set.processors value;
        of_version = tt;
        units = tt;
        each_field = two_same version set.processors is (alone_named set.processors value);
      }) fault

  pub departure_fault : (word value : List ℕ) (kind : TextKind) → word ≡ codes "depart" → IsNameFault set value kind
      → IsEventFault version (word ∷ value ∷ []) set kind
  departure_fault word value kind is fault =
      name_fault (IsEventFields version set.processors (word ∷ value ∷ [])) set value kind set.processors (Depart 0)
      (departure_named version set.processors word value is)
      (record {
        processors = alone_processors set.processors value;
        about = alone_has set.processors value;
        of_version = tt;
        units = tt;
        each_field = two_same version set.processors is (alone_named set.processors value);
      }) fault

  pub affinity_fault : (word name list : List ℕ) (mask : ℕ) (kind : TextKind) → version ≡ 2 → word ≡ codes "affinity"
      → IsMaskField set.processors list mask → IsNameFault set name kind
      → IsEventFault version (word ∷ name ∷ list ∷ []) set kind
  affinity_fault word name list mask kind two is f fault =
      let m = set.processors in
      name_fault (IsEventFields version m (word ∷ name ∷ list ∷ [])) set name kind m (Affinity 0 mask)
      (λ tasks event g. (affinity_said version m word name list tasks event g).2)
      (affinity_written version m (alone m name) word name list 0 mask (alone_processors m name) two is
      (alone_has m name) (alone_named m name) f) fault
