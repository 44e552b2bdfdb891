-- The text of a line and its fields: each gives the other.
use Rattle.std.proofs.Common.{◌≡◌, ℕ, ◌<◌, ◌≤◌, ◌^◌, true, List, [], ◌∷◌, ◌++◌, length, All, Contains, refl, sym, ap, ◌∙◌, arith}
use Rattle.std.proofs.Common.{append_assoc}
use Rattle.std.specs.Prelude.{codes}
use Rattle.std.proofs.lemmas.List.Elements.{All-weaker}
use Rattle.affinity_mask.specs.Number.{canonical_number}
use Rattle.affinity_mask.specs.ListText.{canonical_list}
use Rattle.task_set.specs.TaskSet.{TaskData, SetData, IsTaskSet}
use Rattle.task_set.specs.declared.context.Context.{Context}
use Rattle.task_set.specs.declared.event.Event.{Event}
use Rattle.task_set.specs.declared.event.Event.TheVariants.{Arrive, Depart, Tick, Affinity, Offline, Online}
use Rattle.strong_apa.specs.declared.reply.Entry.{Entry}
use Rattle.strong_apa.specs.declared.reply.Reply.{Reply}
use Rattle.text_fields.specs.LineText.{line, task_line, task_fields}
use Rattle.text_fields.specs.EventText.{name_of, event_text, event_fields}
use Rattle.schedule_text.specs.ScheduleText.{number_text, reply_fields, context_fields, spaced, reply_text, entry_line, context_line}
use Rattle.schedule_text.specs.Schedule.{IsScheduled, IsContextOf}
use Rattle.schedule_text.specs.Fields.{spaced_fields_of, IsNumberAfter}
use Rattle.schedule_text.specs.LineFields.{entry_fields, IsTaskFields, IsContextFields, IsEntryFields}
use Rattle.schedule_text.proofs.FieldLists.{spaced_apart}
use Rattle.schedule_text.proofs.Fields.{split_joined, joined_split}
use Rattle.schedule_text.proofs.Names.{set_fields}
use Rattle.schedule_text.proofs.Spaces.{EachByte, IsNoSpace, high_no_space, is_high, none_from_no_space, field_no_space, fields_no_space}
use Rattle.schedule_text.proofs.Spaces.{reply_some, task_bytes, entry_bytes, context_bytes, word_number_bytes}

pub fields_back : (text first : List ℕ) (more : List (List ℕ)) → text ≡ spaced (first ∷ more)
    → EachByte IsNoSpace (first ∷ more) → spaced_fields_of text ≡ first ∷ more
fields_back text first more is lacks =
    ap spaced_fields_of is ∙ split_joined 32 first more (All-weaker (λ (piece : List ℕ). All IsNoSpace piece)
    (λ (piece : List ℕ). Contains piece 32 → ⊥) none_from_no_space (first ∷ more) lacks)

pub text_back : (text : List ℕ) (fields : List (List ℕ)) → spaced_fields_of text ≡ fields → text ≡ spaced fields
text_back text fields cut = sym (joined_split 32 text) ∙ ap spaced cut

-- ---- the texts are their fields with spaces

four_spaced : (s w a b c : List ℕ) → w ++ s ++ a ++ s ++ b ++ s ++ c ≡ w ++ (s ++ (a ++ (s ++ (b ++ (s ++ c)))))
four_spaced s w a b c = simp append_assoc

pub task_spaced : (added : TaskData) → task_line added ≡ line (spaced (task_fields added))
unfolding task_line
task_spaced added =
    ap line (four_spaced (32 ∷ []) (codes "task") added.name (canonical_number added.priority)
    (canonical_list added.mask))

pair_spaced : (s w a b : List ℕ) → (w ++ s) ++ a ++ s ++ b ≡ w ++ (s ++ (a ++ (s ++ b)))
pair_spaced s w a b = simp append_assoc

pub event_spaced : (set : SetData) (event : Event) → event_text set event ≡ spaced (event_fields set event)
unfolding event_text
event_spaced set (Arrive t) = refl
event_spaced set (Depart t) = refl
event_spaced set (Tick n) = refl
event_spaced set (Affinity t mask) = pair_spaced (32 ∷ []) (codes "affinity") (name_of set t) (canonical_list mask)
event_spaced set (Offline p) = refl
event_spaced set (Online p) = refl

three_spaced : (s a b c : List ℕ) → a ++ s ++ b ++ s ++ c ≡ a ++ (s ++ (b ++ (s ++ c)))
three_spaced s a b c = simp append_assoc

-- an event has fields
event_some : (set : SetData) (event : Event) → (first : List ℕ) × (more : List (List ℕ))
    × (event_fields set event ≡ first ∷ more)
event_some set (Arrive t) = (_, _, refl)
event_some set _ = (_, _, refl)

-- a number, and two parts that have fields
parts_spaced : (number : List ℕ) (xs ys : List (List ℕ)) (first : List ℕ) (more : List (List ℕ))
    (second : List ℕ) (others : List (List ℕ)) → xs ≡ first ∷ more → ys ≡ second ∷ others → number ++ 32
    ∷ (spaced xs ++ 32 ∷ spaced ys) ≡ spaced (number ∷ (xs ++ ys))
parts_spaced number xs ys first more second others is are =
    rw (is, are) (ap (λ (rest : List ℕ). number ++ 32 ∷ rest) (sym (spaced_apart first more second others)))

reply_spaced : (set : SetData) (reply : Reply) → reply_text set reply ≡ spaced (reply_fields set reply)
unfolding reply_text
reply_spaced set reply = refl

pub entry_spaced : (set : SetData) (entry : Entry) → entry_line set entry ≡ line (spaced (entry_fields set entry))
unfolding entry_line
entry_spaced set entry =
    let number = canonical_number entry.caller in
    let some = event_some set entry.event in
    let some' = reply_some set entry.reply in
    ap line (three_spaced (32 ∷ []) number (event_text set entry.event) (reply_text set entry.reply)
    ∙ ap (λ (text : List ℕ). number ++ 32 ∷ (text ++ 32 ∷ reply_text set entry.reply)) (event_spaced set entry.event)
    ∙ ap (λ (text : List ℕ). number ++ 32 ∷ (spaced (event_fields set entry.event) ++ 32 ∷ text)) (reply_spaced set entry.reply)
    ∙ parts_spaced number (event_fields set entry.event) (reply_fields set entry.reply) some.0 some.1 some'.0 some'.1 some.2 some'.2)

pub context_spaced : (set : SetData) (context : Context) → context_line set context
    ≡ line (spaced (context_fields set context))
unfolding context_line
context_spaced set context = refl

-- ---- the fields of such a text, and the text of such fields

pub task_back : (added : TaskData) → IsTaskFields (task_fields added) added
    → spaced_fields_of (spaced (task_fields added)) ≡ task_fields added
task_back added f =
    fields_back (spaced (task_fields added)) (codes "task")
    (added.name ∷ canonical_number added.priority ∷ canonical_list added.mask ∷ []) refl
    (task_bytes IsNoSpace high_no_space added (field_no_space added.name f.name) f.priority f.some f.processors)

pub task_text : (text : List ℕ) (added : TaskData) → IsTaskFields (spaced_fields_of text) added → line text ≡ task_line added
task_text text added f = ap line (text_back text (task_fields added) f.each_field) ∙ sym (task_spaced added)

pub entry_back : (version : ℕ) (set : SetData) (entry : Entry) → IsTaskSet set → IsScheduled version set entry
    → spaced_fields_of (spaced (entry_fields set entry)) ≡ entry_fields set entry
entry_back version set entry valid s =
    fields_back (spaced (entry_fields set entry)) (canonical_number entry.caller)
    (event_fields set entry.event ++ reply_fields set entry.reply) refl
    (entry_bytes IsNoSpace high_no_space version set entry valid.processors.1 (fields_no_space set (set_fields set valid)) s)

pub entry_text : (version : ℕ) (set : SetData) (text : List ℕ) (entry : Entry)
    → IsEntryFields version (spaced_fields_of text) set entry → line text ≡ entry_line set entry
entry_text version set text entry f = ap line (text_back text (entry_fields set entry) f.each_field) ∙ sym (entry_spaced set entry)

-- the fields of a context after its name
abbrev context_tail : Context → List (List ℕ)
context_tail context =
    codes "units" ∷ canonical_number context.units ∷ codes "stints" ∷ canonical_number context.stints
    ∷ codes "moves" ∷ canonical_number context.moves ∷ codes "last" ∷ number_text context.last ∷ codes "trail"
    ∷ canonical_number context.trail ∷ []

pub context_back : (set : SetData) (t : ℕ) (context : Context) → IsTaskSet set → t < length set.tasks → IsContextOf t context
    → spaced_fields_of (spaced (context_fields set context)) ≡ context_fields set context
context_back set t context valid within of =
    fields_back (spaced (context_fields set context)) (name_of set context.task) (context_tail context) refl
    (context_bytes IsNoSpace high_no_space set t context (fields_no_space set (set_fields set valid)) within of)

pub context_text : (set : SetData) (t : ℕ) (text : List ℕ) (context : Context)
    → IsContextFields set t (spaced_fields_of text) context → line text ≡ context_line set context
context_text set t text context f =
    ap line (text_back text (context_fields set context) f.each_field) ∙ sym (context_spaced set context)

-- a number after a word
pub number_said : (word : List ℕ) (least most n : ℕ) → is_high word ≡ true → most < 2 ^ 64 → (least ≤ n) × (n ≤ most)
    → IsNumberAfter word least most (spaced_fields_of (word ++ 32 ∷ canonical_number n)) n
number_said word least most n high small (low, few) =
    record {
      range = (low, few);
      each_field = fields_back (word ++ 32 ∷ canonical_number n) word (canonical_number n ∷ []) refl
          (word_number_bytes IsNoSpace high_no_space word n high (omega (arith, few, small)));
    }

pub number_text_back : (word text : List ℕ) (n : ℕ) → spaced_fields_of text ≡ word ∷ canonical_number n ∷ []
    → text ≡ word ++ 32 ∷ canonical_number n
number_text_back word text n cut = text_back text (word ∷ canonical_number n ∷ []) cut
