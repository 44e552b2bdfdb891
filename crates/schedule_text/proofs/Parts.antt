-- Parts of a line: what is known of each of two parts is known of both, and so is their fault.
use Rattle.std.proofs.Common.{◌≡◌, ◌⊎◌, inl, inr, Result, Ok, Err, IfOk, IfErr, MatchResult, refl, sym, ap, subst}
use Rattle.task_set.specs.TaskSet.{SetData}
use Rattle.schedule_text.specs.declared.fault.TextKind.{TextKind}
use Rattle.schedule_text.specs.declared.fault.TextKind.TheVariants.{BadLine, UnknownTask}
use Rattle.schedule_text.specs.LineFields.{IsPartFault, IsSaid, IsSaidFault, first_reported, both_of}

-- ---- two parts

-- what has a form and is known is made of two parts
pub record IsOfParts (FormA KnownA FormB KnownB Form Known : Type 0) : Type 0 where
  pub form : FormA → FormB → Form
  pub first_form : Form → FormA
  pub second_form : Form → FormB
  pub first_known : Known → KnownA
  pub second_known : Known → KnownB
  pub first_some : KnownA → FormA
  pub second_some : KnownB → FormB

module _ {FormA KnownA FormB KnownB Form Known : Type 0}
    (parts : IsOfParts FormA KnownA FormB KnownB Form Known) where
  -- the first part is of no form
  first_bad : (kind : TextKind) → (kind ≡ BadLine) × (FormA → ⊥) → IsPartFault Form Known kind
  first_bad kind (is, none) = inl (is, λ f. none (parts.first_form f))

  -- the first part has a form, and the second one a fault
  second_fault : (kind : TextKind) → FormA → IsPartFault FormB KnownB kind → IsPartFault Form Known kind
  second_fault kind first (inl bad) = inl (bad.0, λ f. bad.1 (parts.second_form f))
  second_fault kind first (inr unknown) =
      inr (unknown.0, parts.form first unknown.1, λ known. unknown.2 (parts.second_known known))

  -- the first part is unknown, and the second one has a form
  first_unknown : (kind : TextKind) → (kind ≡ UnknownTask) × FormA × (KnownA → ⊥) → FormB
      → IsPartFault Form Known kind
  first_unknown kind unknown second =
      inr (unknown.0, parts.form unknown.1 second, λ known. unknown.2 (parts.first_known known))

  -- both parts are decided, and so is the whole
  pub parts_decided : {X : Type 0} → (KnownA → KnownB → X) → KnownA ⊎ ((kind : TextKind) × IsPartFault FormA KnownA kind)
      → KnownB ⊎ ((kind : TextKind) × IsPartFault FormB KnownB kind)
      → X ⊎ ((kind : TextKind) × IsPartFault Form Known kind)
  parts_decided known (inl one) (inl other) = inl (known one other)
  parts_decided known (inl one) (inr fault) = inr (fault.0, second_fault fault.0 (parts.first_some one) fault.1)
  parts_decided known (inr (kind, inl bad)) other = inr (kind, first_bad kind bad)
  parts_decided known (inr (kind, inr unknown)) (inl other) =
      inr (kind, first_unknown kind unknown (parts.second_some other))
  parts_decided known (inr (kind, inr unknown)) (inr fault) =
      inr (fault.0, second_fault fault.0 unknown.1 fault.1)

  -- two faults, of which one is reported
  both_faults : (kind other : TextKind) → IsPartFault FormA KnownA kind → IsPartFault FormB KnownB other
      → IsPartFault Form Known (first_reported kind other)
  both_faults kind other (inl bad) second =
      first_bad (first_reported kind other) (ap (λ (first : TextKind). first_reported first other) bad.0, bad.1)
  both_faults kind other (inr unknown) second =
      subst (λ (reported : TextKind). IsPartFault Form Known reported)
      (sym (ap (λ (first : TextKind). first_reported first other) unknown.0)) (second_fault other unknown.1 second)

  -- what a reader answers of both parts that was answered of each of them
  module _ {A B : Type 0} (SaysA : A → Type 0) (SaysB : B → Type 0) (first : Result A TextKind) (second : Result B TextKind)
      (one : (a : A) → SaysA a → KnownA) (other : (b : B) → SaysB b → KnownB)
      (read : IfOk first SaysA) (refused : IfErr first (IsPartFault FormA KnownA))
      (read' : IfOk second SaysB) (refused' : IfErr second (IsPartFault FormB KnownB)) where
    pub fault_of_both : (kind : TextKind) → Err kind ≡ both_of first second
        → IsPartFault Form Known kind
    fault_of_both kind is =
        subst (λ (r : Result (A × B) TextKind). IfErr r (IsPartFault Form Known)) (sym is)
        (by first second read refused read' refused')
      where
        by : (first : Result A TextKind) (second : Result B TextKind) → IfOk first SaysA
            → IfErr first (IsPartFault FormA KnownA) → IfOk second SaysB
            → IfErr second (IsPartFault FormB KnownB)
            → IfErr (both_of first second) (IsPartFault Form Known)
        by (Ok a) (Ok b) p f q g = tt
        by (Ok a) (Err kind) p f q fault = second_fault kind (parts.first_some (one a p)) fault
        by (Err kind) (Ok b) p (inl bad) q g = first_bad kind bad
        by (Err kind) (Ok b) p (inr unknown) q g = first_unknown kind unknown (parts.second_some (other b q))
        by (Err kind) (Err kind') p f q g = both_faults kind kind' f g

-- the fault of the first part, with what the second one was, and that of the second part where the first one was read
pub fault_first : {A B : Type 0} (first : Result A TextKind) (second : Result B TextKind) (kind reported : TextKind)
    → first ≡ Err kind → MatchResult second (λ b. reported ≡ kind) (λ other. reported ≡ first_reported kind other)
    → Err reported ≡ both_of first second
fault_first first (Ok b) kind reported is same = rw (is, same) refl
fault_first first (Err other) kind reported is same = rw (is, same) refl

pub fault_second : {A B : Type 0} (first : Result A TextKind) (second : Result B TextKind) (a : A) (kind : TextKind)
    → first ≡ Ok a → second ≡ Err kind → Err kind ≡ both_of first second
fault_second first second a kind is other = rw (is, other) refl

-- both parts are known where both were read
pub read_of_both : {A B : Type 0} (SaysA : A → Type 0) (SaysB : B → Type 0) (first : Result A TextKind)
    (second : Result B TextKind) (a : A) (b : B) → Ok (a, b) ≡ both_of first second → IfOk first SaysA
    → IfOk second SaysB → SaysA a × SaysB b
read_of_both {A} {B} SaysA SaysB first second a b is read read' =
    subst (λ (r : Result (A × B) TextKind). IfOk r (λ p. SaysA p.0 × SaysB p.1)) (sym is) (by first second read read')
  where
    by : (first : Result A TextKind) (second : Result B TextKind) → IfOk first SaysA → IfOk second SaysB
        → IfOk (both_of first second) (λ p. SaysA p.0 × SaysB p.1)
    by (Ok a) (Ok b) p q = (p, q)
    by (Ok a) (Err kind) p q = tt
    by (Err kind) (Ok b) p q = tt
    by (Err kind) (Err other) p q = tt

-- ---- the same said in other words

-- what is said of tasks in one way is said of them in another way, and the other way round; so is its fault
pub same_fault : {X Y : Type 0} (SaysX : SetData → X → Type 0) (SaysY : SetData → Y → Type 0) (set : SetData)
    (kind : TextKind) → ((tasks : SetData) (x : X) → SaysX tasks x → (y : Y) × SaysY tasks y)
    → ((tasks : SetData) (y : Y) → SaysY tasks y → (x : X) × SaysX tasks x)
    → IsSaidFault SaysX set kind → IsSaidFault SaysY set kind
same_fault SaysX SaysY set kind to from (inl bad) =
    inl (bad.0, λ some. let x = from some.0 some.1 some.3 in bad.1 (some.0, x.0, some.2, x.1))
same_fault SaysX SaysY set kind to from (inr unknown) = inr (
  unknown.0,
  (let some = unknown.1 in let y = to some.0 some.1 some.3 in (some.0, y.0, some.2, y.1)),
  λ known. unknown.2 (from set known.0 known.1),
)

-- what the fields say of the set, or their fault
abbrev pub IsDecided : {X : Type 0} → (SetData → X → Type 0) → SetData → Type 0
IsDecided {X} Says set = ((x : X) × Says set x) ⊎ ((kind : TextKind) × IsSaidFault Says set kind)

pub same_decided : {X Y : Type 0} (SaysX : SetData → X → Type 0) (SaysY : SetData → Y → Type 0) (set : SetData)
    → ((tasks : SetData) (x : X) → SaysX tasks x → (y : Y) × SaysY tasks y)
    → ((tasks : SetData) (y : Y) → SaysY tasks y → (x : X) × SaysX tasks x)
    → IsDecided SaysX set → IsDecided SaysY set
same_decided SaysX SaysY set to from (inl known) = inl (to set known.0 known.1)
same_decided SaysX SaysY set to from (inr fault) = inr (fault.0, same_fault SaysX SaysY set fault.0 to from fault.1)

pub none_said : {X : Type 0} (Says : SetData → X → Type 0) (set : SetData) → (IsSaid Says → ⊥) → IsDecided Says set
none_said Says set none = inr (BadLine, inl (refl, none))

-- a part that says nothing, where what is said has it
pub part_fault : {A Form Known : Type 0} (Says : A → Type 0) (kind : TextKind)
    → (Form → (x : A) × Says x) → (kind ≡ BadLine) × ((x : A) → Says x → ⊥) → IsPartFault Form Known kind
part_fault Says kind found bad = inl (bad.0, λ some. bad.1 (found some).0 (found some).1)

-- a fault of one of two known ways is a fault
pub fault_alone : {A : Type 0} {Fault Other : TextKind → Type 0} (r : Result A TextKind)
    → ((kind : TextKind) → Fault kind → Other kind) → IfErr r Fault → IfErr r Other
fault_alone (Ok x) weaker refused = tt
fault_alone (Err kind) weaker refused = weaker kind refused
