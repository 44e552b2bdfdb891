-- A task can be added, or it is refused for one cause.
use Rattle.std.proofs.Common.{◌≡◌, ℕ, zero, suc, ◌+◌, ◌*◌, ◌^◌, ◌<◌, ◌≤◌, ◌⊎◌, IsTrue, List, [], ◌∷◌, ◌++◌, length, length-append, All}
use Rattle.std.proofs.Common.{refl, sym, ◌∙◌, subst, inl, inr, arith, pow-suc, ltb-true}
use Rattle.std.proofs.lemmas.List.{get_or_append_left, get_or_at}
use Rattle.std.proofs.lemmas.Bool.{cases_eq, cases_lt}
use Rattle.affinity_mask.specs.ProcSet.{has, empty}
use Rattle.affinity_mask.proofs.Sets.{within-all_below, has-all_below}
use Rattle.task_set.specs.Name.{IsName, begins_name, continues_name}
use Rattle.task_set.specs.TaskSet.{TaskData, SetData, IsTaskSet, IsMask, Differ}
use Rattle.task_set.specs.Refusal.{CanAdd, IsRefusal, IsNewName, IsNameOf, IsNewPriority, IsPriorityOf, IsLeastOutside}
use Rattle.task_set.specs.declared.fault.TaskFault.{TaskFault}
use Rattle.task_set.specs.declared.fault.TaskFault.TheVariants.{BadName, Many, SameName, SamePriority, EmptyMask, OutsideMask}
use Rattle.text_fields.proofs.LineDecisions.{all_decided}
use Rattle.text_fields.proofs.Decisions.{test_decided, bytes_decided, image_decided}

-- a name is of a task, or is new
pub name_decided : (set : SetData) (name : List ℕ) → ((t : ℕ) × IsNameOf set t name) ⊎ IsNewName set name
name_decided set name = image_decided (λ (task : TaskData). task.name) bytes_decided name set.tasks

priority_decided : (set : SetData) (priority : ℕ) → ((t : ℕ) × IsPriorityOf set t priority) ⊎ IsNewPriority set priority
priority_decided set priority = image_decided (λ (task : TaskData). task.priority) cases_eq priority set.tasks

-- some bytes are a name or not
is_name_decided : (text : List ℕ) → IsName text ⊎ (IsName text → ⊥)
is_name_decided [] = inr (λ name. name)
is_name_decided (first ∷ others) = elim (cases_lt 32 (length (first ∷ others))) [
  | inl long ↦ inr (λ name. let short : length (first ∷ others) ≤ 32 = name.0 in omega arith)
  | inr short ↦ elim (test_decided (begins_name first)) [
    | inl begins ↦ elim (all_decided (λ byte. IsTrue (continues_name byte))
        (λ byte. test_decided (continues_name byte)) others) [
          | inl continues ↦ inl (short, begins, continues)
          | inr fails ↦ inr (λ name. fails name.2)
        ]
    | inr fails ↦ inr (λ name. fails name.1)
  ]
]

-- ---- the processors of a mask
below_power : (n : ℕ) → n < 2 ^ n
below_power zero = omega arith
below_power (suc n) = let before = below_power n in let doubled : 2 ^ suc n ≡ 2 ^ n * 2 = pow-suc 2 n in omega arith

member_below : (X p : ℕ) → IsTrue (has X p) → p < X
member_below X p member = ltb-true p X (sym (has-all_below X p) ∙ within-all_below X X (below_power X) p member)

-- below n, each processor of a mask is below m, or there is a least one that is not
outside_below : (m X n : ℕ) → ((p : ℕ) → p < n → IsTrue (has X p) → p < m) ⊎ ((p : ℕ) × IsLeastOutside m X p)
outside_below m X zero = inl (λ p below member. absurd (omega arith))
outside_below m X (suc n) = elim (outside_below m X n) [
  | inr found ↦ inr found
  | inl inside ↦ elim (cases_lt n m) [
    | inl below ↦ inl (λ p lt member. elim (cases_lt p n)
        [ inl before ↦ inside p before member | inr after ↦ omega arith ])
    | inr outside ↦ elim (test_decided (has X n)) [
      | inl member ↦ inr (
        n,
        record {
          member = member;
          outside = outside;
          least = λ q other beyond. elim (cases_lt q n)
              [ inl before ↦ (let within = inside q before other in absurd (omega arith)) | inr after ↦ after ];
        },
      )
      | inr absent ↦ inl (λ p lt member. elim (cases_lt p n) [
        | inl before ↦ inside p before member
        | inr after ↦ (let same : p ≡ n = omega arith in absurd (absent
            (subst (λ (q : ℕ). IsTrue (has X q)) same member)))
      ])
    ]
  ]
]

-- a set of processors is a mask on m processors, or it is empty, or it has a least number outside
pub mask_decided : (m X : ℕ) → IsMask m X ⊎ ((X ≡ empty) ⊎ ((p : ℕ) × IsLeastOutside m X p))
mask_decided m X = elim (cases_eq X empty) [
  | inl none ↦ inr (inl none)
  | inr some ↦ elim (outside_below m X X) [
    | inl inside ↦ inl (record { some = some; below = λ p member. inside p (member_below X p member) member })
    | inr found ↦ inr (inr found)
  ]
]

-- a task can be added to a valid set, or is refused
pub can_add_decided : (set : SetData) (task : TaskData) → IsTaskSet set → CanAdd set task
    ⊎ ((fault : TaskFault) × IsRefusal set task fault)
can_add_decided set task valid = elim (is_name_decided task.name) [
  | inr bad ↦ inr (BadName, bad)
  | inl name ↦ elim (cases_lt (length set.tasks) 1024) [
    | inr full ↦ inr (Many, (name, let count = valid.count in omega arith))
    | inl room ↦ elim (name_decided set task.name) [
      | inl taken ↦ inr (SameName taken.0, (name, room, taken.1))
      | inr new_name ↦ elim (priority_decided set task.priority) [
        | inl taken ↦ inr (SamePriority taken.0, (name, room, new_name, taken.1))
        | inr new_priority ↦ elim (mask_decided set.processors task.mask) [
          | inl mask ↦ inl (record {
            name = name;
            room = room;
            new_name = new_name;
            new_priority = new_priority;
            mask = mask;
          })
          | inr (inl none) ↦ inr (EmptyMask, (name, room, new_name, new_priority, none))
          | inr (inr outside) ↦ inr (OutsideMask outside.0, (name, room, new_name, new_priority, outside.1))
        ]
      ]
    ]
  ]
]

-- ---- tasks of a valid set, one after another

-- a task of a valid set can be added to those before it
pub can_add_next : (m : ℕ) (before rest : List TaskData) (task : TaskData)
    → IsTaskSet (record { processors = m; tasks = before ++ task ∷ rest })
    → CanAdd (record { processors = m; tasks = before }) task
can_add_next m before rest task valid =
    let long : length (before ++ task ∷ rest) ≡ length before + (length rest + 1) =
    omega (arith, length-append before (task ∷ rest)) in
    let within : length before < length (before ++ task ∷ rest) = omega arith in
    let count = valid.count in
    let here = get_or_at before task rest task (length before) refl in
    let differs : All (λ (other : TaskData). Differ other task) before =
    λ k d below.
    rw (get_or_append_left before (task ∷ rest) d k below, get_or_at before task rest d (length before) refl)
    at (valid.differ k (length before) d below within) in
    record {
      name = rw here at (valid.names (length before) task within);
      room = omega arith;
      new_name = λ k d below. (differs k d below).names;
      new_priority = λ k d below. (differs k d below).priorities;
      mask = rw here at (valid.masks (length before) task within);
    }
