-- The shapes of replies: what a reply says follows from its first word and from its parts.
use Rattle.std.proofs.Common.{◌≡◌, ◌≢◌, ℕ, ◌<◌, List, [], ◌∷◌, ◌++◌, length, Option, Some, None, refl, sym, ap, ◌∙◌, subst, arith}
use Rattle.std.specs.Prelude.{codes}
use Rattle.task_set.specs.TaskSet.{SetData}
use Rattle.task_set.specs.Refusal.{IsNameOf}
use Rattle.strong_apa.specs.declared.reply.Came.{Came}
use Rattle.strong_apa.specs.declared.reply.Came.TheVariants as came
use Rattle.strong_apa.specs.declared.reply.Gone.{Gone}
use Rattle.strong_apa.specs.declared.reply.Moved.{Moved}
use Rattle.strong_apa.specs.declared.reply.Reply.{Reply}
use Rattle.strong_apa.specs.declared.reply.Reply.TheVariants.{Remasked, Off, On}
use Rattle.strong_apa.specs.Reply.{reply_of_came, reply_of_gone, came_tasks, came_chains, came_sets}
use Rattle.text_fields.specs.EventText.{name_of}
use Rattle.schedule_text.specs.ScheduleText.{gone_fields}
use Rattle.schedule_text.specs.LineForms.{IsField, HasFields}
use Rattle.schedule_text.specs.LineFields.{IsSaid, IsCameFields, IsGoneFields, IsGoneThen, IsReplyFields}
use Rattle.text_fields.proofs.Words.{head_same, tail_same, clash}
use Rattle.text_fields.proofs.NamedTasks.{named_task}
use Rattle.schedule_text.proofs.ReplyParts.{no_task_named, no_processors, task_and, somebody_and, processors_and}
use Rattle.schedule_text.proofs.Names.{IsNamed, alone, alone_fields, alone_named, alone_has, name_of_field}
use Rattle.schedule_text.proofs.FirstWords.{IsOtherWord, other_opening, Opening, other_first, IsMovedFields, IsReturnFields, IsTold}
use Rattle.schedule_text.proofs.FirstWords.{IsToldBy, said}
use Rattle.schedule_text.proofs.Joined.{joined, joined_fields, first_name, first_within, first_gone, second_came, later_came}
use Rattle.schedule_text.proofs.Parts.{IsOfParts}

-- ---- the result of an arrival

-- the result of an arrival is a reply of each version
pub came_to : (version : ℕ) (fields : List (List ℕ)) (tasks : SetData) (arrival : Came) → IsCameFields fields tasks arrival
    → IsReplyFields version fields tasks (reply_of_came arrival)
came_to version fields tasks (came.Placed chain) f =
    record { about = f.about; of_version = tt; processors = f.processors; each_field = f.each_field }
came_to version fields tasks _ f =
    record { about = f.about; of_version = tt; processors = f.processors; each_field = f.each_field }

-- a reply of more than a word that begins with no word of its own is the result of an arrival
came_alone : (version : ℕ) (word : List ℕ) (rest : List (List ℕ)) (tasks : SetData) (reply : Reply)
    → length (word ∷ rest) ≢ 1 → IsTold other_first version word rest tasks reply
    → (arrival : Came) × IsCameFields (word ∷ rest) tasks arrival
came_alone version word [] tasks reply some t = absurd (some refl)
came_alone version word (next ∷ rest) tasks reply some t = (t.0, t.2)

pub came_from : (version : ℕ) (fields : List (List ℕ)) (word : List ℕ) (rest : List (List ℕ)) → fields ≡ word ∷ rest
    → length fields ≢ 1 → IsOtherWord word → (tasks : SetData) (reply : Reply) → IsReplyFields version fields tasks reply
    → (arrival : Came) × IsCameFields fields tasks arrival
came_from version fields word rest is some other tasks reply f =
    subst (λ (fields : List (List ℕ)). (arrival : Came) × IsCameFields fields tasks arrival) (sym is)
    (came_alone version word rest tasks reply (λ one. some (ap length is ∙ one))
    (subst (λ (first : Opening). IsTold first version word rest tasks reply) (other_opening word other)
    (subst (λ (fields : List (List ℕ)). IsToldBy version fields tasks reply) is (said version fields tasks reply f))))

-- ---- who came in

pub freed_to : (version : ℕ) (rest : List (List ℕ)) (tasks : SetData) (gone : Gone) → IsGoneFields rest tasks gone
    → IsReplyFields version (codes "freed" ∷ rest) tasks (reply_of_gone gone)
freed_to version rest tasks gone f =
    record {
      about = f.about;
      of_version = tt;
      processors = f.processors;
      each_field = ap (λ (fields : List (List ℕ)). codes "freed" ∷ fields) f.each_field;
    }

pub freed_from : (version : ℕ) (rest : List (List ℕ)) (tasks : SetData) (reply : Reply)
    → IsReplyFields version (codes "freed" ∷ rest) tasks reply → (gone : Gone) × IsGoneFields rest tasks gone
freed_from version rest tasks reply f =
    let told = said version (codes "freed" ∷ rest) tasks reply f in (told.0, told.2)

pub on_to : (version : ℕ) → version ≡ 2 → (rest : List (List ℕ)) (tasks : SetData) (gone : Gone)
    → IsGoneFields rest tasks gone → IsReplyFields version (codes "on" ∷ rest) tasks (On gone)
on_to version two rest tasks gone f =
    record {
      about = f.about;
      of_version = two;
      processors = f.processors;
      each_field = ap (λ (fields : List (List ℕ)). codes "on" ∷ fields) f.each_field;
    }

pub on_from : (version : ℕ) (rest : List (List ℕ)) (tasks : SetData) (reply : Reply)
    → IsReplyFields version (codes "on" ∷ rest) tasks reply → (gone : Gone) × IsGoneFields rest tasks gone
on_from version rest tasks reply f =
    let told = said version (codes "on" ∷ rest) tasks reply f in (told.0, told.3)

pub on_none : (version : ℕ) (rest : List (List ℕ)) → version ≢ 2 → IsSaid (IsReplyFields version (codes "on" ∷ rest)) → ⊥
on_none version rest other (tasks, reply, names, f) = other (said version (codes "on" ∷ rest) tasks reply f).1

-- ---- a processor that is off line

-- nobody was on it
pub unmoved_read : (version : ℕ) → version ≡ 2 → (rest : List (List ℕ)) (tasks : SetData) → rest ≡ codes "-" ∷ []
    → IsReplyFields version (codes "off" ∷ rest) tasks (Off None)
unmoved_read version two rest tasks is =
    record {
      about = no_task_named tasks;
      of_version = two;
      processors = no_processors;
      each_field = ap (λ (fields : List (List ℕ)). codes "off" ∷ fields) is;
    }

moved_same : {a b c b' c' : List ℕ} {xs ys : List (List ℕ)} → b ≡ b' → c ≡ c' → xs ≡ ys → a ∷ b ∷ c ∷ xs ≡ a ∷ b' ∷ c' ∷ ys
moved_same one two three = cc

-- the task that was on it came elsewhere
abbrev pub moved_reply : ℕ → Came → Reply
moved_reply t arrival = Off (Some (record { task = t; came = arrival }))

pub moved_written : (version : ℕ) → version ≡ 2 → (name : List ℕ) (rest : List (List ℕ)) (tasks : SetData) (t : ℕ) (arrival : Came)
    → t < length tasks.tasks → name ≡ name_of tasks t → IsCameFields rest tasks arrival
    → IsReplyFields version (codes "off" ∷ name ∷ codes "then" ∷ rest) tasks
    (moved_reply t arrival)
moved_written version two name rest tasks t arrival within named f =
    record {
      about = task_and tasks t (came_tasks arrival) within f.about;
      of_version = two;
      processors = f.processors;
      each_field = moved_same named refl f.each_field;
    }

pub off_none : (version : ℕ) (rest : List (List ℕ)) → version ≢ 2 → IsSaid (IsReplyFields version (codes "off" ∷ rest)) → ⊥
off_none version rest other (tasks, reply, names, f) = other (said version (codes "off" ∷ rest) tasks reply f).1

-- after `off` stands '-' alone, or a name and `then`
pub off_other : (version : ℕ) (rest : List (List ℕ)) → rest ≢ codes "-" ∷ []
    → ((name : List ℕ) (after : List (List ℕ)) → rest ≡ name ∷ codes "then" ∷ after → ⊥)
    → IsSaid (IsReplyFields version (codes "off" ∷ rest)) → ⊥
off_other version rest no_dash no_then (tasks, reply, names, f) =
    let told = said version (codes "off" ∷ rest) tasks reply f in by told.0 told.3
  where
    by : (moved : Option Moved) → IsMovedFields rest tasks moved → ⊥
    by None is = no_dash is
    by (Some moved) (after, within, is, g) = no_then (name_of tasks moved.task) after is

-- the task that was on the processor, and what it came to
moved_back : (version : ℕ) (name : List ℕ) (after : List (List ℕ)) (tasks : SetData) (reply : Reply)
    → IsReplyFields version (codes "off" ∷ name ∷ codes "then" ∷ after) tasks reply
    → IsNamed tasks name × ((arrival : Came) × IsCameFields after tasks arrival)
moved_back version name after tasks reply f =
    let told = said version (codes "off" ∷ name ∷ codes "then" ∷ after) tasks reply f in by told.0 told.3
  where
    by : (moved : Option Moved) → IsMovedFields (name ∷ codes "then" ∷ after) tasks moved
        → IsNamed tasks name × ((arrival : Came) × IsCameFields after tasks arrival)
    by None is = absurd (omega (arith, ap length is))
    by (Some moved) (rest, within, is, g) = (
      (moved.task, within, head_same is),
      (
        moved.came,
        subst (λ (fields : List (List ℕ)). IsCameFields fields tasks moved.came) (sym (tail_same (tail_same is))) g,
      ),
    )

-- a known name is a field
pub named_field : (set : SetData) (name : List ℕ) → HasFields set → IsNamed set name → IsField name
named_field set name names named = subst IsField (sym named.2) (name_of_field set named.0 names named.1)

-- the parts of the reply that a processor is off line: a name, and the result of an arrival
pub moved_parts : (version : ℕ) (set : SetData) (name : List ℕ) (after : List (List ℕ)) → version ≡ 2 → HasFields set
    → IsOfParts (IsField name) (IsNamed set name) (IsSaid (IsCameFields after))
    ((arrival : Came) × IsCameFields after set arrival)
    (IsSaid (IsReplyFields version (codes "off" ∷ name ∷ codes "then" ∷ after)))
    ((reply : Reply) × IsReplyFields version (codes "off" ∷ name ∷ codes "then" ∷ after) set reply)
moved_parts version set name after two fields = record {
  form = λ field said. let one = alone 1 name in (
    joined one said.0,
    moved_reply 0 (later_came (length one.tasks) said.1),
    joined_fields one said.0 (alone_fields 1 name field) said.2,
    moved_written version two name after (joined one said.0) 0 (later_came (length one.tasks) said.1)
        (first_within one said.0 0 (alone_has 1 name))
        (alone_named 1 name ∙ sym (first_name one said.0 0 (alone_has 1 name)))
        (second_came one said.0 after said.1 said.3),
  );
  first_form = λ said. named_field said.0 name said.2 (moved_back version name after said.0 said.1 said.3).0;
  second_form = λ said. let back = (moved_back version name after said.0 said.1 said.3).1 in (
    said.0,
    back.0,
    said.2,
    back.1,
  );
  first_known = λ known. (moved_back version name after set known.0 known.1).0;
  second_known = λ known. (moved_back version name after set known.0 known.1).1;
  first_some = λ named. named_field set name fields named;
  second_some = λ known. (set, known.0, fields, known.1);
}

pub moved_read : (version : ℕ) (set : SetData) (name : List ℕ) (after : List (List ℕ)) (t : ℕ) (arrival : Came)
    → version ≡ 2 → IsNameOf set t name → IsCameFields after set arrival
    → IsReplyFields version (codes "off" ∷ name ∷ codes "then" ∷ after) set
    (moved_reply t arrival)
moved_read version set name after t arrival two called f =
    let named = named_task set t name called in
    moved_written version two name after set t arrival named.0 named.1 f

-- ---- a mask that was set

pub waiting_to : (version : ℕ) → version ≡ 2 → (after : List (List ℕ)) (tasks : SetData) (arrival : Came)
    → IsCameFields after tasks arrival
    → IsReplyFields version (codes "remasked" ∷ codes "left" ∷ codes "then" ∷ after) tasks (Remasked None arrival)
waiting_to version two after tasks arrival f =
    record {
      about = f.about;
      of_version = two;
      processors = f.processors;
      each_field = ap (λ (fields : List (List ℕ)). codes "remasked" ∷ codes "left" ∷ codes "then" ∷ fields) f.each_field;
    }

pub linked_to : (version : ℕ) → version ≡ 2 → (part after : List (List ℕ)) (tasks : SetData) (gone : Gone) (arrival : Came)
    → IsGoneFields part tasks gone → IsCameFields after tasks arrival
    → IsReplyFields version (codes "remasked" ∷ codes "freed" ∷ (part ++ codes "then" ∷ after)) tasks
    (Remasked (Some gone) arrival)
linked_to version two part after tasks gone arrival g f =
    record {
      about = somebody_and tasks gone.entered (came_tasks arrival) g.about f.about;
      of_version = two;
      processors = processors_and gone.chain gone.back (came_chains arrival) (came_sets arrival) g.processors f.processors;
      each_field =
          ap (λ (fields : List (List ℕ)). codes "remasked" ∷ codes "freed" ∷ (fields ++ codes "then" ∷ after)) g.each_field
          ∙ ap (λ (fields : List (List ℕ)). codes "remasked" ∷ codes "freed" ∷ (gone_fields tasks gone ++ codes "then" ∷ fields))
          f.each_field;
    }

pub remasked_none : (version : ℕ) (rest : List (List ℕ)) → version ≢ 2
    → IsSaid (IsReplyFields version (codes "remasked" ∷ rest)) → ⊥
remasked_none version rest other (tasks, reply, names, f) =
    other (said version (codes "remasked" ∷ rest) tasks reply f).2

-- after `remasked` stands `left` or `freed`
pub remasked_other : (version : ℕ) (rest : List (List ℕ)) → ((more : List (List ℕ)) → rest ≡ codes "left" ∷ more → ⊥)
    → ((more : List (List ℕ)) → rest ≡ codes "freed" ∷ more → ⊥)
    → IsSaid (IsReplyFields version (codes "remasked" ∷ rest)) → ⊥
remasked_other version rest no_left no_freed (tasks, reply, names, f) =
    let told = said version (codes "remasked" ∷ rest) tasks reply f in by told.0 told.1 told.4
  where
    by : (gone : Option Gone) (arrival : Came) → IsReturnFields rest tasks gone arrival → ⊥
    by None arrival (after, is, g) = no_left (codes "then" ∷ after) is
    by (Some gone) arrival (part, after, is, g, h) = no_freed (part ++ codes "then" ∷ after) is

-- and after `left` the word `then`
pub waiting_other : (version : ℕ) (rest : List (List ℕ)) → ((after : List (List ℕ)) → rest ≡ codes "then" ∷ after → ⊥)
    → IsSaid (IsReplyFields version (codes "remasked" ∷ codes "left" ∷ rest)) → ⊥
waiting_other version rest no_then (tasks, reply, names, f) =
    let told = said version (codes "remasked" ∷ codes "left" ∷ rest) tasks reply f in by told.0 told.1 told.4
  where
    by : (gone : Option Gone) (arrival : Came) → IsReturnFields (codes "left" ∷ rest) tasks gone arrival → ⊥
    by None arrival (after, is, g) = no_then after (tail_same is)
    by (Some gone) arrival (part, after, is, g, h) = clash is refl

pub waiting_from : (version : ℕ) (after : List (List ℕ)) (tasks : SetData) (reply : Reply)
    → IsReplyFields version (codes "remasked" ∷ codes "left" ∷ codes "then" ∷ after) tasks reply
    → (arrival : Came) × IsCameFields after tasks arrival
waiting_from version after tasks reply f =
    let told = said version (codes "remasked" ∷ codes "left" ∷ codes "then" ∷ after) tasks reply f in
    by told.0 told.1 told.4
  where
    by : (gone : Option Gone) (arrival : Came)
        → IsReturnFields (codes "left" ∷ codes "then" ∷ after) tasks gone arrival
        → (arrival : Came) × IsCameFields after tasks arrival
    by None arrival (rest, is, g) =
        (arrival, subst (λ (fields : List (List ℕ)). IsCameFields fields tasks arrival) (sym (tail_same (tail_same is))) g)
    by (Some gone) arrival (part, rest, is, g, h) = absurd (clash is refl)

-- two lists whose first parts have one length
pub parts_apart : {A : Type 0} (xs us ys vs : List A) → length xs ≡ length us → xs ++ ys ≡ us ++ vs → (xs ≡ us) × (ys ≡ vs)
parts_apart [] [] ys vs same e = (refl, e)
parts_apart [] (u ∷ us) ys vs same e = absurd (omega (arith, same))
parts_apart (x ∷ xs) [] ys vs same e = absurd (omega (arith, same))
parts_apart {A = A} (x ∷ xs) (u ∷ us) ys vs same e =
    let rest = parts_apart xs us ys vs (omega (arith, same)) (tail_same e) in (
      ap (λ (first : A). first ∷ xs) (head_same e) ∙ ap (λ (more : List A). u ∷ more) rest.0,
      rest.1,
    )

-- after `freed` stand five fields and `then`
pub linked_other : (version : ℕ) (rest : List (List ℕ))
    → ((part after : List (List ℕ)) → IsGoneThen rest part after → ⊥)
    → IsSaid (IsReplyFields version (codes "remasked" ∷ codes "freed" ∷ rest)) → ⊥
linked_other version rest none (tasks, reply, names, f) =
    let told = said version (codes "remasked" ∷ codes "freed" ∷ rest) tasks reply f in by told.0 told.1 told.4
  where
    by : (gone : Option Gone) (arrival : Came) → IsReturnFields (codes "freed" ∷ rest) tasks gone arrival → ⊥
    by None arrival (after, is, g) = clash is refl
    by (Some gone) arrival (part, after, is, g, h) =
        none part after (record { five = ap length g.each_field; each_field = tail_same is })

linked_back : (version : ℕ) (part after : List (List ℕ)) → length part ≡ 5 → (tasks : SetData) (reply : Reply)
    → IsReplyFields version (codes "remasked" ∷ codes "freed" ∷ (part ++ codes "then" ∷ after)) tasks reply
    → ((gone : Gone) × IsGoneFields part tasks gone) × ((arrival : Came) × IsCameFields after tasks arrival)
linked_back version part after five tasks reply f =
    let told = said version (codes "remasked" ∷ codes "freed" ∷ (part ++ codes "then" ∷ after)) tasks reply f in
    by told.0 told.1 told.4
  where
    by : (gone : Option Gone) (arrival : Came)
        → IsReturnFields (codes "freed" ∷ (part ++ codes "then" ∷ after)) tasks gone arrival
        → ((gone : Gone) × IsGoneFields part tasks gone) × ((arrival : Came) × IsCameFields after tasks arrival)
    by None arrival (rest, is, g) = absurd (clash is refl)
    by (Some gone) arrival (other, rest, is, g, h) =
        let apart = parts_apart part other (codes "then" ∷ after) (codes "then" ∷ rest)
        (five ∙ sym (ap length g.each_field)) (tail_same is) in (
          (gone, subst (λ (fields : List (List ℕ)). IsGoneFields fields tasks gone) (sym apart.0) g),
          (
            arrival,
            subst (λ (fields : List (List ℕ)). IsCameFields fields tasks arrival) (sym (tail_same apart.1)) h,
          ),
        )

-- the parts of the reply that the mask of a linked task was set: who came in, and the result of an arrival
pub linked_parts : (version : ℕ) (set : SetData) (part after : List (List ℕ)) → version ≡ 2 → length part ≡ 5
    → HasFields set
    → IsOfParts (IsSaid (IsGoneFields part)) ((gone : Gone) × IsGoneFields part set gone)
    (IsSaid (IsCameFields after)) ((arrival : Came) × IsCameFields after set arrival)
    (IsSaid (IsReplyFields version (codes "remasked" ∷ codes "freed" ∷ (part ++ codes "then" ∷ after))))
    ((reply : Reply)
    × IsReplyFields version (codes "remasked" ∷ codes "freed" ∷ (part ++ codes "then" ∷ after)) set reply)
linked_parts version set part after two five fields = record {
  form = λ one other. (
    joined one.0 other.0,
    Remasked (Some one.1) (later_came (length one.0.tasks) other.1),
    joined_fields one.0 other.0 one.2 other.2,
    linked_to version two part after (joined one.0 other.0) one.1 (later_came (length one.0.tasks) other.1)
        (first_gone one.0 other.0 part one.1 one.3) (second_came one.0 other.0 after other.1 other.3),
  );
  first_form = λ said. let back = (linked_back version part after five said.0 said.1 said.3).0 in (
    said.0,
    back.0,
    said.2,
    back.1,
  );
  second_form = λ said. let back = (linked_back version part after five said.0 said.1 said.3).1 in (
    said.0,
    back.0,
    said.2,
    back.1,
  );
  first_known = λ known. (linked_back version part after five set known.0 known.1).0;
  second_known = λ known. (linked_back version part after five set known.0 known.1).1;
  first_some = λ known. (set, known.0, fields, known.1);
  second_some = λ known. (set, known.0, fields, known.1);
}

pub linked_read : (version : ℕ) (set : SetData) (fields part after : List (List ℕ)) (gone : Gone) (arrival : Came)
    → version ≡ 2 → IsGoneThen fields part after → IsGoneFields part set gone → IsCameFields after set arrival
    → IsReplyFields version (codes "remasked" ∷ codes "freed" ∷ fields) set (Remasked (Some gone) arrival)
linked_read version set fields part after gone arrival two cut g f =
    subst (λ (rest : List (List ℕ)). IsReplyFields version (codes "remasked" ∷ codes "freed" ∷ rest) set
    (Remasked (Some gone) arrival)) (sym cut.each_field)
    (linked_to version two part after set gone arrival g f)
