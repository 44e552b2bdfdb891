-- The entries of the map, read as tasks.
use Rattle.std.proofs.Common.{◌≡◌, ◌≢◌, ℕ, zero, suc, false, List, [], ◌∷◌, ◌++◌, map, refl, sym, ap, ap₂, subst, ◌∙◌, if◌then◌else◌}
use Rattle.std.proofs.Common.{String, string_bytes, None, Some}
use Rattle.std.specs.Prelude.{All, slice_get, slice_index, position}
use Rattle.std.specs.Map.{keys_of, values_of}
use Rattle.indexmap.specs.IndexMap.{insert_entry}
use Rattle.std.specs.Str.{bytes_eq}
use Rattle.std.specs.String.{string_eq}
use Rattle.std.specs.declared.alloc.Global.{Global}
use Rattle.std.proofs.lemmas.Bool.{true≢false, false_from_ne_true}
use Rattle.std.proofs.lemmas.Option.{same_Some}
use Rattle.std.proofs.lemmas.Slice.Eq.{bytes_eq-Decides}
use Rattle.std.proofs.lemmas.List.Elements.{All-head, All-tail}
use Rattle.task_set.proofs.Lists.{All-image, position-None, position-Some}
use Rattle.task_set.specs.Refusal.{new_task, IsNewName}
use Rattle.task_set.specs.SetView.{task_of, set_view}
use Rattle.task_set.specs.TaskSet.{TaskData, SetData, with_task}
use Rattle.task_set.specs.declared.set.TaskSet.TheInside.{Inside}
use Rattle.task_set.specs.declared.set.Details.{Details}

abbrev pub Entries : Type 0
Entries = List (String Global × Details)

names-entries : (es : Entries) → map (λ (t : TaskData). t.name) (map task_of es) ≡ map string_bytes (keys_of es)
names-entries [] = refl
names-entries (e ∷ es) = ap (λ list. string_bytes e.0 ∷ list) (names-entries es)

-- the name, the priority and the mask at a number
pub name_read : (es : Entries) (t : ℕ) (e : String Global × Details) → slice_get es t ≡ Some e
    → slice_get (map (λ (x : TaskData). x.name) (map task_of es)) t ≡ Some (string_bytes e.0)
name_read [] t e at = cc
name_read (x ∷ es) zero e at = ap (λ (y : String Global × Details). Some (string_bytes y.0)) (same_Some _ _ at)
name_read (x ∷ es) (suc t) e at = name_read es t e at

pub priority_read : (es : Entries) (t : ℕ) (d : Details) → slice_get (values_of es) t ≡ Some d
    → d.priority ≡ slice_index (map (λ (x : TaskData). x.priority) (map task_of es)) t
priority_read [] t d e = cc
priority_read (x ∷ es) zero d e = sym (ap (λ (y : Details). y.priority) (same_Some _ _ e))
priority_read (x ∷ es) (suc t) d e = priority_read es t d e

pub mask_read : (es : Entries) (t : ℕ) (d : Details) → slice_get (values_of es) t ≡ Some d
    → d.mask ≡ slice_index (map (λ (x : TaskData). x.mask) (map task_of es)) t
mask_read [] t d e = cc
mask_read (x ∷ es) zero d e = sym (ap (λ (y : Details). y.mask) (same_Some _ _ e))
mask_read (x ∷ es) (suc t) d e = mask_read es t d e

-- a name that the map does not find is new, and one that it finds is that task's
pub name_absent : (es : Entries) (name : List ℕ) → position (λ k. bytes_eq name (string_bytes k)) (keys_of es) ≡ None
    → All (λ (t : TaskData). t.name ≢ name) (map task_of es)
name_absent es name e =
    All-image task_of (λ (x : String Global × Details). x.0) (λ (t : TaskData). t.name ≢ name) (λ k. bytes_eq name (string_bytes k) ≡ false)
    (λ x fails same. true≢false (sym ((bytes_eq-Decides name (string_bytes x.0)).1 (sym same)) ∙ fails)) es
    (position-None (λ k. bytes_eq name (string_bytes k)) (keys_of es) e)

pub name_found : (es : Entries) (name : List ℕ) (t : ℕ) → position (λ k. bytes_eq name (string_bytes k)) (keys_of es) ≡ Some t
    → slice_get (map (λ (x : TaskData). x.name) (map task_of es)) t ≡ Some name
name_found es name t e =
    ap (λ list. slice_get list t) (names-entries es)
    ∙ position-Some (λ k. bytes_eq name (string_bytes k)) string_bytes name
    (λ k passes. sym ((bytes_eq-Decides name (string_bytes k)).0 passes)) t (keys_of es) e

-- a task with a new name goes last
pub tasks-insert_entry : (es : Entries) (key : String Global) (d : Details) (name : List ℕ) → string_bytes key ≡ name
    → All (λ (t : TaskData). t.name ≢ name) (map task_of es)
    → map task_of (insert_entry string_eq es key d) ≡ map task_of es ++ new_task name d.priority d.mask ∷ []
tasks-insert_entry [] key d name text new = ap (λ name. new_task name d.priority d.mask ∷ []) text
tasks-insert_entry (e ∷ es) key d name text new =
    let other : bytes_eq (string_bytes key) (string_bytes e.0)
    ≡ false = false_from_ne_true _ (λ same. All-head (λ (t : TaskData). t.name ≢ name) (task_of e) (map task_of es) new
    (sym ((bytes_eq-Decides (string_bytes key) (string_bytes e.0)).0 same) ∙ text)) in
    ap (λ same. map task_of (if same then (e.0, d) ∷ es else e ∷ insert_entry string_eq es key d)) other
    ∙ ap (λ list. task_of e ∷ list) (tasks-insert_entry es key d name text
    (All-tail (λ (t : TaskData). t.name ≢ name) (task_of e) (map task_of es) new))

-- the view of the fields after an insertion
pub set_view-insert_entry : (old : Inside) (s : SetData) (key : String Global) (d : Details) (name : List ℕ) (es : Entries)
    → set_view old ≡ s → string_bytes key ≡ name → IsNewName s name → es ≡ insert_entry string_eq old.tasks.entries key d
    → record { processors = old.processors; tasks = map task_of es } ≡ with_task s (new_task name d.priority d.mask)
set_view-insert_entry old s key d name es view text new inserted =
    let tasks : map task_of old.tasks.entries ≡ s.tasks = ap (λ (x : SetData). x.tasks) view in
    ap₂ (λ (m : ℕ) (list : List TaskData). record { processors = m; tasks = list }) (ap (λ (x : SetData). x.processors) view)
    (ap (map task_of) inserted
    ∙ tasks-insert_entry old.tasks.entries key d name text (subst (All (λ (t : TaskData). t.name ≢ name)) (sym tasks) new)
    ∙ ap (λ list. list ++ new_task name d.priority d.mask ∷ []) tasks)
