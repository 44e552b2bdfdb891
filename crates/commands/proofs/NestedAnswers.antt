-- The answer to an input text: it is the one that the text has, since a text is of one input.
use Rattle.std.proofs.Common.{◌≡◌, ◌≢◌, ℕ, ◌⊎◌, List, Ok, Err, refl, sym, ap, inl, inr, arith}
use Rattle.std.specs.Prelude.{Vec}
use Rattle.std.specs.declared.alloc.Global.{Global}
use Rattle.task_set.specs.TaskSet.{SetData, masks}
use Rattle.text_fields.specs.Version.{IsVersion}
use Rattle.trace_reader.specs.declared.fault.InputFault.{InputFault}
use Rattle.trace_reader.specs.declared.fault.InputKind.{InputKind}
use Rattle.trace_reader.specs.declared.fault.InputKind.TheVariants as kind
use Rattle.trace_reader.specs.declared.posted.Posted.{Posted}
use Rattle.trace_reader.specs.InputFault.{IsInputRefused}
use Rattle.trace_reader.specs.InputText.{IsInputText}
use Rattle.nested_masks.specs.declared.fault.NestedFault.{NestedFault}
use Rattle.nested_masks.specs.declared.fault.NestedFault.TheVariants as fault
use Rattle.nested_masks.specs.Answers.{IsCrossingFault}
use Rattle.nested_masks.specs.Laminar.{IsLaminar}
use Rattle.nested_masks.specs.NestedText.{IsNestedText}
use Rattle.nested_masks.proofs.Started.{first_crossing_once, laminar_crosses_none}
use Rattle.commands.specs.Answers.{Answers}
use Rattle.commands.specs.Status.{status_of_fault}
use Rattle.commands.specs.declared.status.Status.{Status}
use Rattle.commands.specs.declared.status.Status.TheVariants.{Version, OutOfMemory}
use Rattle.commands.proofs.Refusals.{memory_of_fault, refusal_of_fault, status_of_refused}
use Rattle.commands.specs.NestedRun.{IsNestedOf, AcceptsNested, RefusesNested, status_of_nested}

-- ---- bytes that are no input text
read_refused : (bytes : List ℕ) (fault : InputFault) → (fault.kind ≡ kind.OutOfMemory) ⊎ IsInputRefused bytes fault.line fault.kind
    → RefusesNested bytes (status_of_fault fault) ⊎ (status_of_fault fault ≡ OutOfMemory)
read_refused bytes fault why = elim (refusal_of_fault bytes fault why) [
  | inl input ↦ inl (inl input)
  | inr memory ↦ inr memory
]

read_status : (bytes : List ℕ) (fault : InputFault) (expected : Status)
    → ((version : ℕ) (set : SetData) (events : List Posted) → IsInputText version bytes set events → fault.kind ≡ kind.OutOfMemory)
    → ((line : ℕ) (cause : InputKind) → IsInputRefused bytes line cause → (fault.kind ≡ kind.OutOfMemory)
    ⊎ ((fault.line ≡ line) × (fault.kind ≡ cause)))
    → RefusesNested bytes expected → (status_of_fault fault ≡ expected) ⊎ (status_of_fault fault ≡ OutOfMemory)
read_status bytes fault expected accepts refuses (inl why) =
    status_of_refused bytes expected fault why (refuses why.number why.cause.cause why.cause.refused)
read_status bytes fault expected accepts refuses (inr (inl second)) =
    inr (memory_of_fault fault (accepts 2 second.set second.events second.is_text))
read_status bytes fault expected accepts refuses (inr (inr crossing)) =
    inr (memory_of_fault fault (accepts 1 crossing.set crossing.events crossing.is_text))

pub answers_read : (bytes : List ℕ) (fault : InputFault)
    → ((version : ℕ) (set : SetData) (events : List Posted) → IsInputText version bytes set events → fault.kind ≡ kind.OutOfMemory)
    → (fault.kind ≡ kind.OutOfMemory) ⊎ IsInputRefused bytes fault.line fault.kind
    → ((line : ℕ) (cause : InputKind) → IsInputRefused bytes line cause → (fault.kind ≡ kind.OutOfMemory)
    ⊎ ((fault.line ≡ line) × (fault.kind ≡ cause)))
    → Answers (IsNestedOf bytes) (AcceptsNested bytes) (RefusesNested bytes) (Err (status_of_fault fault))
answers_read bytes fault accepts refused refuses = record {
  makes = tt;
  refused = read_refused bytes fault refused;
  accepts = λ accepted. memory_of_fault fault (accepts 1 accepted.0 accepted.1 accepted.2);
  refuses = λ expected why. read_status bytes fault expected accepts refuses why;
}

-- ---- an input text, which is of one input
module _ (bytes : List ℕ) (version : ℕ) (set : SetData) (events : List Posted) (valid : IsVersion version)
    (text : IsInputText version bytes set events)
    (only : (v : ℕ) (s : SetData) (es : List Posted) → IsInputText v bytes s es → (version ≡ v) × (set ≡ s) × (events ≡ es))
    (unrefused : (line : ℕ) (cause : InputKind) → IsInputRefused bytes line cause → ⊥) where
  -- it is of version 2
  module _ (other : version ≢ 1) where
    second : version ≡ 2
    second = let least = valid.0 in let most = valid.1 in omega arith

    version_status : (expected : Status) → RefusesNested bytes expected → (Version ≡ expected) ⊎ (Version ≡ OutOfMemory)
    version_status expected (inl why) = absurd (unrefused why.number why.cause.cause why.cause.refused)
    version_status expected (inr (inl why)) = inl (sym why.answer)
    version_status expected (inr (inr why)) = absurd (other (only 1 why.set why.events why.is_text).0)

    pub answers_version : Answers (IsNestedOf bytes) (AcceptsNested bytes) (RefusesNested bytes) (Err Version)
    answers_version = record {
      makes = tt;
      refused = inl (inr (inl record { set = set; events = events; answer = refl; is_text = rw (← second) text }));
      accepts = λ accepted. absurd (other (only 1 accepted.0 accepted.1 accepted.2).0);
      refuses = λ expected why. version_status expected why;
    }

  -- it is of version 1
  module _ (first : version ≡ 1) where
    first_text : IsInputText 1 bytes set events
    first_text = rw (← first) text

    not_second : (s : SetData) (es : List Posted) → IsInputText 2 bytes s es → ⊥
    not_second s es is_text = let two = (only 2 s es is_text).0 in omega arith

    -- its masks nest
    unrefused_laminar : IsLaminar (masks set) → (expected : Status) → RefusesNested bytes expected → ⊥
    unrefused_laminar laminar expected (inl why) = unrefused why.number why.cause.cause why.cause.refused
    unrefused_laminar laminar expected (inr (inl why)) = not_second why.set why.events why.is_text
    unrefused_laminar laminar expected (inr (inr why)) =
        laminar_crosses_none (masks set) why.one why.other laminar (rw (only 1 why.set why.events why.is_text).1 why.first)

    pub answers_text : (put : Vec ℕ Global) → IsLaminar (masks set) → IsNestedText set events put.items
        → Answers (IsNestedOf bytes) (AcceptsNested bytes) (RefusesNested bytes) (Ok put)
    answers_text put laminar written = record {
      makes = record { set = set; events = events; is_text = first_text; laminar = laminar; text = written };
      refused = tt;
      accepts = λ accepted. tt;
      refuses = λ expected why. unrefused_laminar laminar expected why;
    }

    -- the replay was refused
    fault_refused : (f : NestedFault) → (f ≡ fault.OutOfMemory) ⊎ IsCrossingFault set f → RefusesNested bytes (status_of_nested f)
        ⊎ (status_of_nested f ≡ OutOfMemory)
    fault_refused (fault.Crossing one other) (inl memory) = inr (ap status_of_nested memory)
    fault_refused (fault.Crossing one other) (inr crossing) = inl
        (inr (inr record { set = set; events = events; one = one; other = other; answer = refl; is_text = first_text; first = crossing }))
    fault_refused fault.OutOfMemory why = inr refl

    fault_accepted : (f : NestedFault) → (f ≡ fault.OutOfMemory) ⊎ IsCrossingFault set f → AcceptsNested bytes
        → status_of_nested f ≡ OutOfMemory
    fault_accepted (fault.Crossing one other) (inl memory) accepted = ap status_of_nested memory
    fault_accepted (fault.Crossing one other) (inr crossing) accepted =
        absurd (laminar_crosses_none (masks set) one other (rw (only 1 accepted.0 accepted.1 accepted.2).1 accepted.3) crossing)
    fault_accepted fault.OutOfMemory why accepted = refl

    fault_expected : (f : NestedFault) → (f ≡ fault.OutOfMemory) ⊎ IsCrossingFault set f → (expected : Status)
        → RefusesNested bytes expected → (status_of_nested f ≡ expected) ⊎ (status_of_nested f ≡ OutOfMemory)
    fault_expected (fault.Crossing one other) (inl memory) expected refusal = inr (ap status_of_nested memory)
    fault_expected (fault.Crossing one other) (inr crossing) expected (inl why) =
        absurd (unrefused why.number why.cause.cause why.cause.refused)
    fault_expected (fault.Crossing one other) (inr crossing) expected (inr (inl why)) = absurd (not_second why.set why.events why.is_text)
    fault_expected (fault.Crossing one other) (inr crossing) expected (inr (inr why)) =
        let same = first_crossing_once (masks set) one other why.one why.other crossing
        (rw (only 1 why.set why.events why.is_text).1 why.first) in
        inl (rw (same.0, same.1) (sym why.answer))
    fault_expected fault.OutOfMemory why expected refusal = inr refl

    pub answers_nested_fault : (f : NestedFault) → (f ≡ fault.OutOfMemory) ⊎ IsCrossingFault set f
        → Answers (IsNestedOf bytes) (AcceptsNested bytes) (RefusesNested bytes) (Err (status_of_nested f))
    answers_nested_fault f why = record {
      makes = tt;
      refused = fault_refused f why;
      accepts = λ accepted. fault_accepted f why accepted;
      refuses = λ expected refusal. fault_expected f why expected refusal;
    }
