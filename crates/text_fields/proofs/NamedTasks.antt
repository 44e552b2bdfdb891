-- Which task of a set has a name.
use Rattle.std.proofs.Common.{◌≡◌, ℕ, zero, suc, ◌<◌, List, [], ◌∷◌, length, map, get_or, Some, sym, ◌∙◌, subst, inl, inr, arith, refl}
use Rattle.std.specs.Prelude.{slice_get}
use Rattle.std.proofs.lemmas.Bool.{cases_order}
use Rattle.std.proofs.lemmas.List.{length-map, get_or-map}
use Rattle.std.proofs.lemmas.Option.{get_or_from_slice_get, slice_get-get_or}
use Rattle.task_set.specs.Name.{IsName}
use Rattle.task_set.specs.TaskSet.{TaskData, SetData, IsTaskSet, names}
use Rattle.task_set.specs.Refusal.{IsNameOf, IsNewName, new_task}
use Rattle.text_fields.specs.EventText.{name_of}

-- what stands for a task where there is none
pub no_task : TaskData
no_task = record { name = []; priority = 0; mask = 0 }

pub name_at : (set : SetData) (t : ℕ) → t < length set.tasks → name_of set t ≡ (get_or set.tasks t no_task).name
name_at set t within = get_or-map (λ (task : TaskData). task.name) set.tasks t no_task [] within

-- each task has its name
pub has_name : (set : SetData) (t : ℕ) → t < length set.tasks → IsNameOf set t (name_of set t)
has_name set t within =
    slice_get-get_or (names set) t []
    (omega (arith, within, length-map set.tasks (λ (task : TaskData). task.name)))

-- the names of a valid set are names
pub name_valid : (set : SetData) (t : ℕ) → IsTaskSet set → t < length set.tasks → IsName (name_of set t)
name_valid set t valid within = subst IsName (sym (name_at set t within)) (valid.names t no_task within)

image_within : {X A : Type 0} (f : X → A) (xs : List X) (i : ℕ) (v : A) → slice_get (map f xs) i ≡ Some v
    → i < length xs
image_within f [] i v e = cc
image_within f (x ∷ xs) zero v e = omega arith
image_within f (x ∷ xs) (suc i) v e = omega (arith, image_within f xs i v e)

-- the task with this number is one of the set, and has the name
pub named_task : (set : SetData) (t : ℕ) (name : List ℕ) → IsNameOf set t name
    → (t < length set.tasks) × (name ≡ name_of set t)
named_task set t name is_name = (
  image_within (λ (task : TaskData). task.name) set.tasks t name is_name,
  sym (get_or_from_slice_get (names set) t name [] is_name),
)

-- the name of a task is not new
pub known_name : (set : SetData) (t : ℕ) (name : List ℕ) → t < length set.tasks → name ≡ name_of set t
    → IsNewName set name → ⊥
known_name set t name within same new = new t no_task within (sym (same ∙ name_at set t within))

-- a name is of one task
pub same_task : (set : SetData) (t u : ℕ) → IsTaskSet set → t < length set.tasks → u < length set.tasks
    → name_of set t ≡ name_of set u → t ≡ u
same_task set t u valid here there same =
    let names = sym (name_at set t here) ∙ same ∙ name_at set u there in
    elim (cases_order t u) [
      | inl equal ↦ equal
      | inr (inl less) ↦ absurd ((valid.differ t u no_task less there).names names)
      | inr (inr more) ↦ absurd ((valid.differ u t no_task more here).names (sym names))
    ]

-- the same, of a name that both tasks have
pub same_name : (set : SetData) → IsTaskSet set → (t u : ℕ) (name other : List ℕ) → name ≡ other
    → IsNameOf set t name → IsNameOf set u other → t ≡ u
same_name set valid t u name other same one two =
    let here = named_task set t name one in
    let there = named_task set u other two in
    same_task set t u valid here.0 there.0 (sym here.1 ∙ same ∙ there.1)

pub name_not_new : (set : SetData) (t : ℕ) (name other : List ℕ) → name ≡ other → IsNameOf set t name
    → IsNewName set other → ⊥
name_not_new set t name other same is_name new =
    let here = named_task set t name is_name in
    known_name set t other here.0 (sym same ∙ here.1) new

-- two tasks with the same parts are one
pub same_parts : (task other : TaskData) → task.name ≡ other.name → task.priority ≡ other.priority
    → task.mask ≡ other.mask → task ≡ other
same_parts task other names priorities masks =
    let e : new_task task.name task.priority task.mask ≡ new_task other.name other.priority other.mask =
    rw (names, priorities, masks) refl in e
