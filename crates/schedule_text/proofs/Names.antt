-- Names of tasks as fields.
use Rattle.std.proofs.Common.{◌≡◌, ◌≢◌, ℕ, ◌<◌, inl, inr, List, [], ◌∷◌, length, get_or, refl, sym, ap, ◌∙◌, subst, arith}
use Rattle.std.specs.Prelude.{codes}
use Rattle.std.proofs.lemmas.Bool.{true≢false}
use Rattle.std.proofs.lemmas.List.Elements.{All-cons, All-weaker}
use Rattle.task_set.specs.Name.{IsName, begins_name}
use Rattle.task_set.specs.TaskSet.{TaskData, SetData, IsTaskSet}
use Rattle.text_fields.specs.EventText.{name_of}
use Rattle.text_fields.proofs.Names.{name_without}
use Rattle.text_fields.proofs.NamedTasks.{no_task, name_at, known_name}
use Rattle.schedule_text.specs.LineForms.{IsField, HasFields}
use Rattle.schedule_text.specs.LineFields.{IsNameFault, IsPartFault, IsSaidFault}
use Rattle.schedule_text.specs.declared.fault.TextKind.{TextKind}

name_some : (name : List ℕ) → IsName name → name ≢ []
name_some [] named e = named
name_some (x ∷ xs) named e = cc

-- a name is a field, and is not '-'
pub name_field : (name : List ℕ) → IsName name → IsField name
name_field name named =
    record {
      some = name_some name named;
      no_space = name_without name 32 refl named;
      no_tab = name_without name
          9 refl named;
    }

pub name_no_dash : (name : List ℕ) → IsName name → name ≢ codes "-"
name_no_dash [] named e = cc
name_no_dash (x ∷ xs) named e = let dash : x ≡ 45 = cc in true≢false (sym named.1 ∙ ap begins_name dash)

-- the names of a valid set are fields
pub set_fields : (set : SetData) → IsTaskSet set → HasFields set
set_fields set valid =
    All-weaker (λ (task : TaskData). IsName task.name) (λ (task : TaskData). IsField task.name)
    (λ task named. name_field task.name named) set.tasks valid.names

-- each name of a set of fields is one
pub name_of_field : (set : SetData) (t : ℕ) → HasFields set → t < length set.tasks → IsField (name_of set t)
name_of_field set t fields within = subst IsField (sym (name_at set t within)) (fields t no_task within)

-- no name of a valid set is '-'
pub name_of_no_dash : (set : SetData) (t : ℕ) → IsTaskSet set → t < length set.tasks → name_of set t ≢ codes "-"
name_of_no_dash set t valid within =
    subst (λ (name : List ℕ). name ≢ codes "-") (sym (name_at set t within))
    (name_no_dash (get_or set.tasks t no_task).name (valid.names t no_task within))

-- one task alone, of any name, on m processors
pub alone : ℕ → List ℕ → SetData
alone m name = record { processors = m; tasks = record { name = name; priority = 0; mask = 0 } ∷ [] }

pub alone_fields : (m : ℕ) (name : List ℕ) → IsField name → HasFields (alone m name)
unfolding alone
alone_fields m name field =
    All-cons (λ (task : TaskData). IsField task.name) (record { name = name; priority = 0; mask = 0 }) [] field
    (λ k d within. absurd (omega (arith, within)))

pub alone_named : (m : ℕ) (name : List ℕ) → name ≡ name_of (alone m name) 0
unfolding alone
alone_named m name = refl

pub alone_has : (m : ℕ) (name : List ℕ) → 0 < length (alone m name).tasks
unfolding alone
alone_has m name = omega arith

pub alone_processors : (m : ℕ) (name : List ℕ) → (alone m name).processors ≡ m
unfolding alone
alone_processors m name = refl

-- ---- faults of a name

-- the name is that of a task of the set
abbrev pub IsNamed : SetData → List ℕ → Type 0
IsNamed set name = (t : ℕ) × (t < length set.tasks) × (name ≡ name_of set t)

-- a name that is none of the set, as a part of a line
pub named_fault : (set : SetData) (name : List ℕ) (kind : TextKind) → IsNameFault set name kind
    → IsPartFault (IsField name) (IsNamed set name) kind
named_fault set name kind (inl bad) = inl bad
named_fault set name kind (inr unknown) = inr (
  unknown.0,
  unknown.1,
  λ task. known_name set task.0 name task.1 task.2 unknown.2,
)

-- what names a task is at fault where its name is: no tasks have such a name, or only the tasks of the set have none
pub name_fault : {X : Type 0} (Says : SetData → X → Type 0) (set : SetData) (name : List ℕ) (kind : TextKind) (m : ℕ) (x : X)
    → ((tasks : SetData) (y : X) → Says tasks y → IsNamed tasks name) → Says (alone m name) x
    → IsNameFault set name kind → IsSaidFault Says set kind
name_fault Says set name kind m x named said (inl bad) =
    inl (
      bad.0,
      λ some. let task = named some.0 some.1 some.3 in bad.1
          (subst IsField (sym task.2) (name_of_field some.0 task.0 some.2 task.1)),
    )
name_fault Says set name kind m x named said (inr unknown) = inr (
  unknown.0,
  (alone m name, x, alone_fields m name unknown.1, said),
  λ known. let task = named set known.0 known.1 in known_name set task.0 name task.1 task.2 unknown.2,
)
