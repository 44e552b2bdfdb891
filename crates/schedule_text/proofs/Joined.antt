-- Two sets of tasks, one after the other: what is said of either is said of both.
use Rattle.std.proofs.Common.{◌≡◌, ℕ, ◌+◌, ◌<◌, List, [], ◌++◌, length, get_or, Option, Some, None, sym, ap, ◌∙◌, arith, length-append}
use Rattle.std.proofs.lemmas.List.{map-append, length-map, get_or_append_left, get_or-append-add}
use Rattle.std.proofs.lemmas.List.Elements.{All-append}
use Rattle.task_set.specs.TaskSet.{TaskData, SetData, names}
use Rattle.strong_apa.specs.declared.reply.Came.{Came}
use Rattle.strong_apa.specs.declared.reply.Came.TheVariants as came
use Rattle.strong_apa.specs.declared.reply.Gone.{Gone}
use Rattle.text_fields.specs.EventText.{name_of}
use Rattle.schedule_text.specs.LineForms.{IsField, HasFields}
use Rattle.schedule_text.specs.LineFields.{IsCameFields, IsGoneFields}
use Rattle.schedule_text.proofs.ReplyParts.{task_named, the_task, no_task_named}

-- the tasks of both sets
abbrev pub joined : SetData → SetData → SetData
joined one other = record { processors = one.processors; tasks = one.tasks ++ other.tasks }

pub joined_fields : (one other : SetData) → HasFields one → HasFields other → HasFields (joined one other)
joined_fields one other names names' =
    All-append (λ (task : TaskData). IsField task.name) one.tasks other.tasks names names'

joined_names : (one other : SetData) → names (joined one other) ≡ names one ++ names other
joined_names one other = map-append (λ (task : TaskData). task.name) one.tasks other.tasks

-- the names of the first set stay
pub first_name : (one other : SetData) (t : ℕ) → t < length one.tasks → name_of (joined one other) t ≡ name_of one t
first_name one other t within =
    ap (λ (all : List (List ℕ)). get_or all t []) (joined_names one other)
    ∙ get_or_append_left (names one) (names other) [] t
    (omega (arith, within, length-map one.tasks (λ (task : TaskData). task.name)))

-- those of the second set come after them
pub second_name : (one other : SetData) (t : ℕ) → name_of (joined one other) (length one.tasks + t) ≡ name_of other t
second_name one other t =
    ap (λ (all : List (List ℕ)). get_or all (length one.tasks + t) []) (joined_names one other)
    ∙ ap (λ (n : ℕ). get_or (names one ++ names other) (n + t) [])
    (sym (length-map one.tasks (λ (task : TaskData). task.name)))
    ∙ get_or-append-add (names one) (names other) t []

pub first_within : (one other : SetData) (t : ℕ) → t < length one.tasks → t < length (joined one other).tasks
first_within one other t within = omega (arith, within, length-append one.tasks other.tasks)

second_within : (one other : SetData) (t : ℕ) → t < length other.tasks
    → length one.tasks + t < length (joined one other).tasks
second_within one other t within = omega (arith, within, length-append one.tasks other.tasks)

-- who came in, of the first set
pub first_gone : (one other : SetData) (fields : List (List ℕ)) (gone : Gone) → IsGoneFields fields one gone
    → IsGoneFields fields (joined one other) gone
first_gone one other fields gone f = by gone.entered gone.chain gone.back f
  where
    by : (entered : Option ℕ) (chain : List ℕ) (back : ℕ)
        → IsGoneFields fields one (record { entered = entered; chain = chain; back = back })
        → IsGoneFields fields (joined one other) (record { entered = entered; chain = chain; back = back })
    by None chain back f =
        record { about = no_task_named (joined one other); processors = f.processors; each_field = f.each_field }
    by (Some t) chain back f =
        let within = the_task one t f.about in
        record {
          about = task_named (joined one other) t (first_within one other t within);
          processors = f.processors;
          each_field = rw (first_name one other t within) f.each_field;
        }

-- the result of an arrival, with the numbers that its tasks have after so many others
abbrev pub later_came : ℕ → Came → Came
later_came n (came.Displaced chain out reach) = came.Displaced chain (n + out) reach
later_came n arrival = arrival

-- the result of an arrival of the second set
pub second_came : (one other : SetData) (fields : List (List ℕ)) (arrival : Came) → IsCameFields fields other arrival
    → IsCameFields fields (joined one other) (later_came (length one.tasks) arrival)
second_came one other fields (came.Displaced chain out reach) f =
    let within = the_task other out f.about in
    record {
      about = task_named (joined one other) (length one.tasks + out) (second_within one other out within);
      processors = f.processors;
      each_field = rw (second_name one other out) f.each_field;
    }
second_came one other fields _ f =
    record { about = no_task_named (joined one other); processors = f.processors; each_field = f.each_field }
