-- What a reply says, by its first word. Here is the one walk over the replies: the lemmas about their texts follow from it.
use Rattle.std.proofs.Common.{◌≡◌, ◌≢◌, ℕ, ◌<◌, Bool, true, false, nat_eq, if◌then◌else◌, List, [], ◌∷◌, ◌++◌, ◌⊎◌, length, Option, Some}
use Rattle.std.proofs.Common.{None, inl, inr, refl, sym, ap, ◌∙◌, subst, arith, eqb-true}
use Rattle.std.specs.Prelude.{codes}
use Rattle.std.proofs.lemmas.Bool.{cases_Bool, cases_eq, true≢false}
use Rattle.task_set.specs.TaskSet.{SetData}
use Rattle.strong_apa.specs.declared.reply.Came.{Came}
use Rattle.strong_apa.specs.declared.reply.Came.TheVariants as came
use Rattle.strong_apa.specs.declared.reply.Gone.{Gone}
use Rattle.strong_apa.specs.declared.reply.Moved.{Moved}
use Rattle.strong_apa.specs.declared.reply.Reply.{Reply}
use Rattle.strong_apa.specs.declared.reply.Reply.TheVariants.{Placed, Displaced, Waits, Freed, Left, Ticked, AlreadyReady, NotReady, Masked}
use Rattle.strong_apa.specs.declared.reply.Reply.TheVariants.{Remasked, AlreadyOff, AlreadyOn, Off, On}
use Rattle.strong_apa.specs.Reply.{reply_of_came, reply_of_gone, came_tasks, came_chains, came_sets, IsReplyOfVersion}
use Rattle.text_fields.specs.EventText.{name_of}
use Rattle.text_fields.proofs.Words.{are_same, and_left, and_right}
use Rattle.schedule_text.specs.ScheduleText.{came_fields, gone_fields, left_fields, moved_fields, reply_fields, IsReplyOf}
use Rattle.schedule_text.specs.Schedule.{HasProcessors}
use Rattle.schedule_text.specs.LineFields.{IsCameFields, IsGoneFields, IsReplyFields}
use Rattle.schedule_text.proofs.ReplyParts.{no_task_named, no_processors, first_task, other_tasks, first_somebody, after_somebody}
use Rattle.schedule_text.proofs.ReplyParts.{first_processors, other_processors}

-- ---- words that are tested

-- words that pass it are one
same_word : (a b : List ℕ) → are_same a b ≡ true → a ≡ b
same_word [] [] e = refl
same_word [] (y ∷ ys) e = absurd (true≢false (sym e))
same_word (x ∷ xs) [] e = absurd (true≢false (sym e))
same_word (x ∷ xs) (y ∷ ys) e =
    let first = eqb-true x y (and_left (nat_eq x y) (are_same xs ys) e) in
    let rest = same_word xs ys (and_right (nat_eq x y) (are_same xs ys) e) in
    cc

-- words that differ fail the test
word_differs : (a b : List ℕ) → a ≢ b → are_same a b ≡ false
word_differs a b differs = elim (cases_Bool (are_same a b)) [
  | inl same ↦ absurd (differs (same_word a b same))
  | inr other ↦ other
]

-- ---- replies of one word

-- the first of some fields
abbrev pub first_field : List (List ℕ) → List ℕ
first_field [] = []
first_field (word ∷ rest) = word

-- the first word of a reply that names no task
abbrev pub word_of : Reply → List ℕ
word_of reply = first_field (reply_fields (record { processors = 0; tasks = [] }) reply)

-- the replies of one word
abbrev pub word_replies : List Reply
word_replies = Left ∷ Ticked ∷ AlreadyReady ∷ NotReady ∷ Masked ∷ AlreadyOff ∷ AlreadyOn ∷ []

-- the one of some replies that has this word
abbrev pub reply_named : List ℕ → List Reply → Option Reply
reply_named word [] = None
reply_named word (reply ∷ more) = if are_same word (word_of reply) then Some reply else reply_named word more

-- each of some replies is so
abbrev pub EachReply : (Reply → Type 0) → List Reply → Type 0
EachReply P [] = Unit {0}
EachReply P (reply ∷ more) = P reply × EachReply P more

pub some_same : {A : Type 0} {a b : A} → Some a ≡ Some b → a ≡ b
some_same e = cc

pub none_some : {A : Type 0} {a : A} → None ≡ Some a → ⊥
none_some e = cc

-- the reply of a word has this word, and is what each of them is
named_word : (P : Reply → Type 0) (word : List ℕ) (reply : Reply) (replies : List Reply)
    → reply_named word replies ≡ Some reply → EachReply P replies → (word ≡ word_of reply) × P reply
named_word P word reply [] is each = absurd (none_some is)
named_word P word reply (first ∷ more) is each =
    by (are_same word (word_of first)) refl is (λ later. named_word P word reply more later each.1)
  where
    by : (same : Bool) → are_same word (word_of first) ≡ same
        → (if same then Some first else reply_named word more) ≡ Some reply
        → (reply_named word more ≡ Some reply → (word ≡ word_of reply) × P reply) → (word ≡ word_of reply) × P reply
    by true e is later =
        subst (λ (r : Reply). (word ≡ word_of r) × P r) (some_same is) (same_word word (word_of first) e, each.0)
    by false e is later = later is

-- it names no task and no processor, and has one field
abbrev IsAlone : SetData → Reply → Type 0
IsAlone tasks reply =
    IsReplyOf tasks reply × HasProcessors reply × (word_of reply ∷ [] ≡ reply_fields tasks reply)

are_alone : (tasks : SetData) → EachReply (IsAlone tasks) word_replies
are_alone tasks = assumption (no_task_named tasks, no_processors, refl)

-- the word of a reply is that reply
pub word_read : (version : ℕ) (word : List ℕ) (tasks : SetData) (reply : Reply)
    → reply_named word word_replies ≡ Some reply → IsReplyOfVersion version reply
    → IsReplyFields version (word ∷ []) tasks reply
word_read version word tasks reply is of =
    let alone = named_word (IsAlone tasks) word reply word_replies is (are_alone tasks) in
    record {
      about = alone.1.0;
      of_version = of;
      processors = alone.1.1;
      each_field = ap (λ (first : List ℕ). first ∷ []) alone.0 ∙ alone.1.2;
    }

-- a version has a reply or not
pub version_decided : (version : ℕ) (reply : Reply) → IsReplyOfVersion version reply
    ⊎ (IsReplyOfVersion version reply → ⊥)
version_decided version Left = inl tt
version_decided version _ = first_of (search (cases_eq version 2), search (inl, tt))

-- ---- how a reply begins

-- with a word that stands before parts, or with another one
pub data Opening : Type 0 where
  freed_first : Opening
  on_first : Opening
  off_first : Opening
  remasked_first : Opening
  other_first : Opening

-- which of them it is
abbrev pub opening : List ℕ → Opening
opening word =
    if are_same word (codes "freed") then freed_first
    else if are_same word (codes "on") then on_first
    else if are_same word (codes "off") then off_first
    else if are_same word (codes "remasked") then remasked_first
    else other_first

-- the word is none of them
abbrev pub IsOtherWord : List ℕ → Type 0
IsOtherWord word =
    (word ≢ codes "freed") × (word ≢ codes "on") × (word ≢ codes "off") × (word ≢ codes "remasked")

pub other_opening : (word : List ℕ) → IsOtherWord word → opening word ≡ other_first
other_opening word none =
    rw (
      word_differs word (codes "freed") none.0,
      word_differs word (codes "on") none.1,
      word_differs word (codes "off") none.2,
      word_differs word (codes "remasked") none.3,
    ) refl

-- ---- what it says

-- who was on a processor, and what the task came to
abbrev pub IsMovedFields : List (List ℕ) → SetData → Option Moved → Type 0
IsMovedFields rest set None = rest ≡ codes "-" ∷ []
IsMovedFields rest set (Some moved) =
    (after : List (List ℕ)) × (moved.task < length set.tasks)
    × (rest ≡ name_of set moved.task ∷ codes "then" ∷ after) × IsCameFields after set moved.came

-- what a task left, and what it came to
abbrev pub IsReturnFields : List (List ℕ) → SetData → Option Gone → Came → Type 0
IsReturnFields rest set None arrival =
    (after : List (List ℕ)) × (rest ≡ codes "left" ∷ codes "then" ∷ after) × IsCameFields after set arrival
IsReturnFields rest set (Some gone) arrival =
    (part : List (List ℕ)) × (after : List (List ℕ)) × (rest ≡ codes "freed" ∷ (part ++ codes "then" ∷ after))
    × IsGoneFields part set gone × IsCameFields after set arrival

-- a reply that begins so, by its first word and the other fields
abbrev pub IsTold : Opening → ℕ → List ℕ → List (List ℕ) → SetData → Reply → Type 0
IsTold freed_first version word rest set reply =
    (gone : Gone) × (reply ≡ reply_of_gone gone) × IsGoneFields rest set gone
IsTold on_first version word rest set reply =
    (gone : Gone) × (version ≡ 2) × (reply ≡ On gone) × IsGoneFields rest set gone
IsTold off_first version word rest set reply =
    (moved : Option Moved) × (version ≡ 2) × (reply ≡ Off moved) × IsMovedFields rest set moved
IsTold remasked_first version word rest set reply =
    (gone : Option Gone) × (arrival : Came) × (version ≡ 2) × (reply ≡ Remasked gone arrival)
    × IsReturnFields rest set gone arrival
IsTold other_first version word [] set reply =
    (reply_named word word_replies ≡ Some reply) × IsReplyOfVersion version reply
IsTold other_first version word (next ∷ rest) set reply =
    (arrival : Came) × (reply ≡ reply_of_came arrival) × IsCameFields (word ∷ next ∷ rest) set arrival

-- a reply by all its fields
abbrev pub IsToldBy : ℕ → List (List ℕ) → SetData → Reply → Type 0
IsToldBy version [] set reply = ⊥
IsToldBy version (word ∷ rest) set reply = IsTold (opening word) version word rest set reply

-- the fields after `off`
moved_told : (set : SetData) (moved : Option Moved) → IsReplyOf set (Off moved) → HasProcessors (Off moved)
    → IsMovedFields (moved_fields set moved) set moved
moved_told set None about has = refl
moved_told set (Some moved) about has = (
  came_fields set moved.came,
  first_task set moved.task (came_tasks moved.came) about,
  refl,
  record {
    about = other_tasks set moved.task (came_tasks moved.came) about;
    processors = has;
    each_field = refl;
  },
)

-- the fields after `remasked`
return_told : (set : SetData) (gone : Option Gone) (arrival : Came) → IsReplyOf set (Remasked gone arrival)
    → HasProcessors (Remasked gone arrival)
    → IsReturnFields (left_fields set gone ++ codes "then" ∷ came_fields set arrival) set gone arrival
return_told set None arrival about has =
    (came_fields set arrival, refl, record { about = about; processors = has; each_field = refl })
return_told set (Some gone) arrival about has = (
  gone_fields set gone,
  came_fields set arrival,
  refl,
  record {
    about = first_somebody set gone.entered (came_tasks arrival) about;
    processors = first_processors gone.chain gone.back (came_chains arrival) (came_sets arrival) has;
    each_field = refl;
  },
  record {
    about = after_somebody set gone.entered (came_tasks arrival) about;
    processors = other_processors gone.chain gone.back (came_chains arrival) (came_sets arrival) has;
    each_field = refl;
  },
)

-- what each reply says
pub told : (version : ℕ) (set : SetData) (reply : Reply) → IsReplyOf set reply → IsReplyOfVersion version reply
    → HasProcessors reply → IsToldBy version (reply_fields set reply) set reply
told version set (Placed chain) about of has =
    (came.Placed chain, refl, record { about = about; processors = has; each_field = refl })
told version set (Displaced chain out reach) about of has =
    (came.Displaced chain out reach, refl, record { about = about; processors = has; each_field = refl })
told version set (Waits reach) about of has =
    (came.Waits reach, refl, record { about = about; processors = has; each_field = refl })
told version set (Freed entered chain back) about of has = (
  record { entered = entered; chain = chain; back = back },
  refl,
  record { about = about; processors = has; each_field = refl },
)
told version set (Remasked gone arrival) about of has =
    (gone, arrival, of, refl, return_told set gone arrival about has)
told version set (Off moved) about of has = (moved, of, refl, moved_told set moved about has)
told version set (On gone) about of has =
    (gone, of, refl, record { about = about; processors = has; each_field = refl })
told version set _ about of has = (refl, of)

-- and what the fields of one say
pub said : (version : ℕ) (fields : List (List ℕ)) (set : SetData) (reply : Reply)
    → IsReplyFields version fields set reply → IsToldBy version fields set reply
said version fields set reply f =
    subst (λ (fields : List (List ℕ)). IsToldBy version fields set reply) (sym f.each_field)
    (told version set reply f.about f.of_version f.processors)

-- a reply of one word has no parts
pub word_told : (version : ℕ) (word : List ℕ) (tasks : SetData) (reply : Reply)
    → IsReplyFields version (word ∷ []) tasks reply
    → (reply_named word word_replies ≡ Some reply) × IsReplyOfVersion version reply
word_told version word tasks reply f = by (opening word) (said version (word ∷ []) tasks reply f)
  where
    by : (first : Opening) → IsTold first version word [] tasks reply
        → (reply_named word word_replies ≡ Some reply) × IsReplyOfVersion version reply
    by freed_first (gone, is, g) = absurd (omega (arith, ap length g.each_field))
    by on_first (gone, two, is, g) = absurd (omega (arith, ap length g.each_field))
    by off_first (None, two, is, e) = absurd (omega (arith, ap length e))
    by off_first (Some moved, two, is, m) = absurd (omega (arith, ap length m.2))
    by remasked_first (None, arrival, two, is, m) = absurd (omega (arith, ap length m.1))
    by remasked_first (Some gone, arrival, two, is, m) = absurd (omega (arith, ap length m.2))
    by other_first t = t
