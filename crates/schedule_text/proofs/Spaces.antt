-- What holds of each byte from ',' on holds of each byte of the fields of a line, where it holds of the names: so the
-- fields have no space and no line feed.
use Rattle.std.proofs.Common.{◌≡◌, ◌≢◌, ℕ, ◌<◌, ◌≤◌, ◌^◌, Bool, true, false, ◌&&◌, nat_eq, nat_le, IsTrue, leb-true, inl, inr, List, []}
use Rattle.std.proofs.Common.{◌∷◌, ◌++◌, length, map, All, Contains, Option, Some, None, IfSome, refl, sym, ◌∙◌, subst, arith, ne_eqb}
use Rattle.std.proofs.Common.{eq-eqb}
use Rattle.std.specs.Prelude.{codes}
use Rattle.std.specs.List.{join_with_byte}
use Rattle.std.specs.Str.Parse.{AllDigits}
use Rattle.std.proofs.lemmas.Bool.{cases_eq, true≢false}
use Rattle.std.proofs.lemmas.List.Elements.{All-nil, All-cons, All-head, All-tail, All-append, All-weaker, All-map, All-contains}
use Rattle.std.proofs.lemmas.List.Elements.{All-from_get_or}
use Rattle.std.proofs.lemmas.Bool.Decides.{nat_tests}
use Rattle.std.proofs.lemmas.Str.Parse.{digit_at}
use Rattle.std.proofs.lemmas.Fmt.{decimal_is_IsNumeral}
use Rattle.affinity_mask.specs.ProcSet.{empty}
use Rattle.affinity_mask.specs.Number.{canonical_number}
use Rattle.affinity_mask.specs.ListText.{comma, dash, Item, IsItem, IsWellFormed, IsListText, canonical_list}
use Rattle.affinity_mask.proofs.Items.{lacks_from_none}
use Rattle.affinity_mask.proofs.Runs.{canonical_list-IsListText}
use Rattle.task_set.specs.TaskSet.{TaskData, SetData, IsTaskSet}
use Rattle.task_set.specs.Name.{IsName, continues_name}
use Rattle.task_set.specs.declared.context.Context.{Context}
use Rattle.task_set.specs.declared.event.Event.{Event}
use Rattle.task_set.specs.declared.event.Event.TheVariants.{Arrive, Depart, Tick, Affinity, Offline, Online}
use Rattle.strong_apa.specs.declared.reply.Reply.{Reply}
use Rattle.strong_apa.specs.declared.reply.Reply.TheVariants.{Left}
use Rattle.strong_apa.specs.declared.reply.Came.{Came}
use Rattle.strong_apa.specs.declared.reply.Came.TheVariants as came
use Rattle.strong_apa.specs.declared.reply.Gone.{Gone}
use Rattle.strong_apa.specs.declared.reply.Moved.{Moved}
use Rattle.strong_apa.specs.declared.reply.Entry.{Entry}
use Rattle.strong_apa.specs.Reply.{IsReplyOfVersion}
use Rattle.text_fields.specs.EventText.{name_of, IsAboutSet, event_fields}
use Rattle.schedule_text.specs.ScheduleText.{chain_text, set_text, somebody_text, number_text, reply_fields, context_fields, IsReplyOf}
use Rattle.schedule_text.specs.LineFields.{entry_fields, IsCameFields, IsGoneFields}
use Rattle.schedule_text.specs.Schedule.{IsProcessorList, IsOfProcessors, HasProcessors, IsScheduled, IsContextOf}
use Rattle.task_set.specs.Event.{HasUnits}
use Rattle.schedule_text.specs.LineForms.{IsField, HasFields}
use Rattle.text_fields.specs.LineText.{task_fields}
use Rattle.text_fields.proofs.Names.{name_bytes}
use Rattle.text_fields.proofs.Words.{and_left, and_right}
use Rattle.text_fields.proofs.NamedTasks.{name_at, no_task}
use Rattle.schedule_text.proofs.Fields.{set_list, mask_processors}
use Rattle.schedule_text.proofs.ReplyParts.{the_task, the_somebody, the_chain, the_set}
use Rattle.schedule_text.proofs.FirstWords.{opening, Opening, freed_first, on_first, off_first, remasked_first, other_first, IsMovedFields}
use Rattle.schedule_text.proofs.FirstWords.{IsReturnFields, IsTold, IsToldBy, told}

-- the digits are such bytes
digits_from : (text : List ℕ) → AllDigits 10 text → All (λ (b : ℕ). 44 ≤ b) text
digits_from text digits =
    All-from_get_or (λ (b : ℕ). 44 ≤ b) text 0
    (λ i lt. let range = digit_at text i digits lt in omega (arith, range.0))

-- whether each byte of a word is one
abbrev pub is_high : List ℕ → Bool
is_high [] = true
is_high (byte ∷ rest) = nat_le 44 byte && is_high rest

-- names have such bytes alone
continues_high : (b : ℕ) → IsTrue (continues_name b) → 44 ≤ b
continues_high b h = grind (arith, nat_tests)

pub name_high : (name : List ℕ) → IsName name → All (λ (b : ℕ). 44 ≤ b) name
name_high name named =
    All-weaker (λ (b : ℕ). IsTrue (continues_name b)) (λ (b : ℕ). 44 ≤ b) continues_high name
    (name_bytes name named)

-- what holds of each byte of each field
abbrev pub EachByte : (ℕ → Type 0) → List (List ℕ) → Type 0
EachByte P fields = All (λ (field : List ℕ). All P field) fields

-- and of each name of a set
abbrev pub EachName : (ℕ → Type 0) → SetData → Type 0
EachName P set = All (λ (task : TaskData). All P task.name) set.tasks

-- it holds of each byte of these fields, said so that the fields are seen in the type
record HasBytes (P : ℕ → Type 0) (fields : List (List ℕ)) : Type 0 where
  all : EachByte P fields

-- a reply has fields, and the first one has such bytes
pub reply_some : (set : SetData) (reply : Reply) → (first : List ℕ) × (more : List (List ℕ))
    × (reply_fields set reply ≡ first ∷ more) × (is_high first ≡ true)
reply_some set Left = (_, _, refl, refl)
reply_some set _ = (_, _, refl, refl)

module _ (P : ℕ → Type 0) (high : (b : ℕ) → 44 ≤ b → P b) where
  raised : (text : List ℕ) → All (λ (b : ℕ). 44 ≤ b) text → All P text
  raised text from = All-weaker (λ (b : ℕ). 44 ≤ b) P high text from

  pub number_bytes : (n : ℕ) → n < 2 ^ 64 → All P (canonical_number n)
  number_bytes n small = raised (canonical_number n) (digits_from (canonical_number n) (decimal_is_IsNumeral n small).0.1)

  pub word_bytes : (word : List ℕ) → is_high word ≡ true → All P word
  word_bytes [] e = All-nil P
  word_bytes (byte ∷ rest) e =
      All-cons P byte rest (high byte (leb-true 44 byte (and_left (nat_le 44 byte) (is_high rest) e)))
      (word_bytes rest (and_right (nat_le 44 byte) (is_high rest) e))

  -- ---- joined texts

  pub joined_bytes : (byte : ℕ) (texts : List (List ℕ)) → P byte → EachByte P texts → All P (join_with_byte byte texts)
  joined_bytes byte [] here all = All-nil P
  joined_bytes byte (text ∷ []) here all = All-head (λ (t : List ℕ). All P t) text [] all
  joined_bytes byte (text ∷ next ∷ texts) here all =
      All-append P text (byte ∷ join_with_byte byte (next ∷ texts))
      (All-head (λ (t : List ℕ). All P t) text (next ∷ texts) all)
      (All-cons P byte (join_with_byte byte (next ∷ texts)) here
      (joined_bytes byte (next ∷ texts) here (All-tail (λ (t : List ℕ). All P t) text (next ∷ texts) all)))

  item_bytes : (text : List ℕ) (low top : ℕ) → IsItem text low top → All P text
  item_bytes text low top (inl number) = raised text (digits_from text number.0.1)
  item_bytes text low top (inr (a, b, joined, one, two, first, last)) =
      subst (λ (t : List ℕ). All P t) (sym joined)
      (All-append P a (dash ∷ b) (raised a (digits_from a one.1))
      (All-cons P dash b (high 45 (omega arith)) (raised b (digits_from b two.1))))

  list_bytes : (text : List ℕ) (X : ℕ) → IsListText text X → All P text
  list_bytes text X (first, more, list) =
      subst (λ (t : List ℕ). All P t) (sym list.joined)
      (joined_bytes comma (map (λ (item : Item). item.text) (first ∷ more)) (high 44 (omega arith))
      (All-map (λ (t : List ℕ). All P t) (λ (item : Item). item.text) (first ∷ more)
      (All-weaker IsWellFormed (λ (item : Item). All P item.text)
      (λ item valid. item_bytes item.text item.low item.high valid.form) (first ∷ more) list.well_formed)))

  mask_bytes : (X : ℕ) → X ≢ empty → IsOfProcessors X → All P (canonical_list X)
  mask_bytes X some processors = list_bytes (canonical_list X) X (canonical_list-IsListText X some processors)

  dash_bytes : All P (codes "-")
  dash_bytes = word_bytes (codes "-") refl

  set_bytes : (X : ℕ) → IsOfProcessors X → All P (set_text X)
  set_bytes X processors = elim (cases_eq X empty) [
    | inl none ↦ subst (λ (Y : ℕ). All P (set_text Y)) (sym none) dash_bytes
    | inr some ↦ subst (λ (t : List ℕ). All P t) (sym (set_list X some)) (mask_bytes X some processors)
  ]

  chain_bytes : (chain : List ℕ) → IsProcessorList chain → All P (chain_text chain)
  chain_bytes [] list = dash_bytes
  chain_bytes (p ∷ rest) list =
      joined_bytes 62 (map canonical_number (p ∷ rest)) (high 62 (omega arith))
      (All-map (λ (t : List ℕ). All P t) canonical_number (p ∷ rest)
      (All-weaker (λ (q : ℕ). q < 64) (λ (q : ℕ). All P (canonical_number q))
      (λ q small. number_bytes q (omega arith)) (p ∷ rest) list.1))

  -- ---- the fields of a line

  none : HasBytes P []
  none = record { all = All-nil (λ (t : List ℕ). All P t) }

  more : {field : List ℕ} {fields : List (List ℕ)} → All P field → HasBytes P fields → HasBytes P (field ∷ fields)
  more {field = field} {fields = fields} here rest =
      record { all = All-cons (λ (t : List ℕ). All P t) field fields here rest.all }

  -- a word, and then other fields
  worded : (word : List ℕ) {fields : List (List ℕ)} → is_high word ≡ true → HasBytes P fields → HasBytes P (word ∷ fields)
  worded word e rest = more (word_bytes word e) rest

  -- a number after a word
  numbered : (word : List ℕ) (n : ℕ) → is_high word ≡ true → n < 2 ^ 64 → HasBytes P (word ∷ canonical_number n ∷ [])
  numbered word n e small = worded word e (more (number_bytes n small) none)

  pub word_number_bytes : (word : List ℕ) (n : ℕ) → is_high word ≡ true → n < 2 ^ 64
      → EachByte P (word ∷ canonical_number n ∷ [])
  word_number_bytes word n e small = (numbered word n e small).all

  pub task_bytes : (added : TaskData) → All P added.name → added.priority < 2 ^ 32 → added.mask ≢ empty
      → IsOfProcessors added.mask → EachByte P (task_fields added)
  task_bytes added name priority some processors =
      let each : HasBytes P (task_fields added) =
      worded (codes "task") refl (more name (more (number_bytes added.priority (omega arith))
      (more (mask_bytes added.mask some processors) none))) in each.all

  called_bytes : (set : SetData) (t : ℕ) → EachName P set → t < length set.tasks → All P (name_of set t)
  called_bytes set t names within = subst (λ (t : List ℕ). All P t) (sym (name_at set t within)) (names t no_task within)

  event_each : (set : SetData) (event : Event) → set.processors ≤ 64 → EachName P set → IsAboutSet set event
      → HasUnits event → HasBytes P (event_fields set event)
  event_each set (Arrive t) few names about units =
      worded (codes "arrive") refl (more (called_bytes set t names about) none)
  event_each set (Depart t) few names about units =
      worded (codes "depart") refl (more (called_bytes set t names about) none)
  event_each set (Tick n) few names about units =
      (let most : n ≤ 1000000 = units.1 in numbered (codes "tick") n refl (omega arith))
  event_each set (Affinity t mask) few names about units =
      worded (codes "affinity") refl (more (called_bytes set t names about.0)
      (more (mask_bytes mask about.1.some (mask_processors set.processors mask few about.1)) none))
  event_each set (Offline p) few names about units = numbered (codes "offline") p refl (omega (arith, few, about))
  event_each set (Online p) few names about units = numbered (codes "online") p refl (omega (arith, few, about))

  pub event_bytes : (set : SetData) (event : Event) → set.processors ≤ 64 → EachName P set → IsAboutSet set event
      → HasUnits event → EachByte P (event_fields set event)
  event_bytes set event few names about units = (event_each set event few names about units).all

  somebody_bytes : (set : SetData) (entered : Option ℕ) → EachName P set
      → IfSome entered (λ t. t < length set.tasks) → All P (somebody_text set entered)
  somebody_bytes set None names about = dash_bytes
  somebody_bytes set (Some t) names about = called_bytes set t names about

  came_bytes : (fields : List (List ℕ)) (set : SetData) (arrival : Came) → EachName P set → IsCameFields fields set arrival
      → HasBytes P fields
  came_bytes fields set (came.Placed chain) names f =
      rw f.each_field (worded (codes "placed") refl (more (chain_bytes chain (the_chain chain [] f.processors)) none))
  came_bytes fields set (came.Displaced chain out reach) names f =
      rw f.each_field (worded (codes "displaced") refl
      (more (chain_bytes chain (the_chain chain (reach ∷ []) f.processors))
      (worded (codes "out") refl (more (called_bytes set out names (the_task set out f.about))
      (worded (codes "reach") refl (more (set_bytes reach (the_set (chain ∷ []) reach f.processors)) none))))))
  came_bytes fields set (came.Waits reach) names f =
      rw f.each_field (worded (codes "waits") refl (more (set_bytes reach (the_set [] reach f.processors)) none))

  gone_bytes : (fields : List (List ℕ)) (set : SetData) (gone : Gone) → EachName P set → IsGoneFields fields set gone
      → HasBytes P fields
  gone_bytes fields set gone names f =
      rw f.each_field (more (chain_bytes gone.chain (the_chain gone.chain (gone.back ∷ []) f.processors))
      (worded (codes "enters") refl (more (somebody_bytes set gone.entered names (the_somebody set gone.entered f.about))
      (worded (codes "back") refl
      (more (set_bytes gone.back (the_set (gone.chain ∷ []) gone.back f.processors)) none)))))

  -- the word `then`, and the result of an arrival
  then_bytes : (after : List (List ℕ)) (set : SetData) (arrival : Came) → EachName P set → IsCameFields after set arrival
      → HasBytes P (codes "then" ∷ after)
  then_bytes after set arrival names f = worded (codes "then") refl (came_bytes after set arrival names f)

  moved_bytes : (rest : List (List ℕ)) (set : SetData) (moved : Option Moved) → EachName P set
      → IsMovedFields rest set moved → HasBytes P rest
  moved_bytes rest set None names is = rw is (more dash_bytes none)
  moved_bytes rest set (Some moved) names (after, within, is, f) =
      rw is (more (called_bytes set moved.task names within) (then_bytes after set moved.came names f))

  return_bytes : (rest : List (List ℕ)) (set : SetData) (gone : Option Gone) (arrival : Came) → EachName P set
      → IsReturnFields rest set gone arrival → HasBytes P rest
  return_bytes rest set None arrival names (after, is, f) =
      rw is (worded (codes "left") refl (then_bytes after set arrival names f))
  return_bytes rest set (Some gone) arrival names (part, after, is, g, f) =
      rw is (worded (codes "freed") refl (record {
        all = All-append (λ (t : List ℕ). All P t) part (codes "then" ∷ after) (gone_bytes part set gone names g).all
            (then_bytes after set arrival names f).all;
      }))

  told_bytes : (first : Opening) (version : ℕ) (word : List ℕ) (rest : List (List ℕ)) (set : SetData) (reply : Reply)
      → All P word → EachName P set → IsTold first version word rest set reply → HasBytes P (word ∷ rest)
  told_bytes freed_first version word rest set reply here names t = more here (gone_bytes rest set t.0 names t.2)
  told_bytes on_first version word rest set reply here names t = more here (gone_bytes rest set t.0 names t.3)
  told_bytes off_first version word rest set reply here names t = more here (moved_bytes rest set t.0 names t.3)
  told_bytes remasked_first version word rest set reply here names t =
      more here (return_bytes rest set t.0 t.1 names t.4)
  told_bytes other_first version word [] set reply here names t = more here none
  told_bytes other_first version word (next ∷ rest) set reply here names t =
      came_bytes (word ∷ next ∷ rest) set t.0 names t.2

  pub reply_bytes : (version : ℕ) (set : SetData) (reply : Reply) → EachName P set → IsReplyOf set reply
      → IsReplyOfVersion version reply → HasProcessors reply → EachByte P (reply_fields set reply)
  reply_bytes version set reply names about of has =
      let some = reply_some set reply in
      let all = told_bytes (opening some.0) version some.0 some.1 set reply (word_bytes some.0 some.3) names
      (subst (λ (fields : List (List ℕ)). IsToldBy version fields set reply) some.2
      (told version set reply about of has)) in
      rw some.2 all.all

  pub entry_bytes : (version : ℕ) (set : SetData) (entry : Entry) → set.processors ≤ 64 → EachName P set
      → IsScheduled version set entry → EachByte P (entry_fields set entry)
  entry_bytes version set entry few names s =
      All-cons (λ (field : List ℕ). All P field) (canonical_number entry.caller)
      (event_fields set entry.event ++ reply_fields set entry.reply)
      (number_bytes entry.caller (let caller = s.caller in omega arith))
      (All-append (λ (field : List ℕ). All P field) (event_fields set entry.event) (reply_fields set entry.reply)
      (event_bytes set entry.event few names s.tasks.event s.units)
      (reply_bytes version set entry.reply names s.tasks.reply s.of_version.reply s.processors))

  last_bytes : (last : Option ℕ) → IfSome last (λ p. p < 64) → All P (number_text last)
  last_bytes None below = dash_bytes
  last_bytes (Some p) below = number_bytes p (omega (arith, below))

  pub context_bytes : (set : SetData) (t : ℕ) (context : Context) → EachName P set → t < length set.tasks
      → IsContextOf t context → EachByte P (context_fields set context)
  context_bytes set t context names within of =
      let each : HasBytes P (context_fields set context) =
      more (called_bytes set context.task names (let same = of.task in omega arith))
      (worded (codes "units") refl (more (number_bytes context.units of.units)
      (worded (codes "stints") refl (more (number_bytes context.stints of.stints)
      (worded (codes "moves") refl (more (number_bytes context.moves of.moves)
      (worded (codes "last") refl (more (last_bytes context.last of.last)
      (worded (codes "trail") refl (more (number_bytes context.trail of.trail) none)))))))))) in each.all

-- ---- no spaces, and no line feeds

-- the byte is no space
abbrev pub IsNoSpace : ℕ → Type 0
IsNoSpace byte = nat_eq byte 32 ≡ false

-- the byte is no line feed
abbrev pub IsNoFeed : ℕ → Type 0
IsNoFeed byte = nat_eq byte 10 ≡ false

pub high_no_space : (b : ℕ) → 44 ≤ b → IsNoSpace b
high_no_space b from = ne_eqb b 32 (omega arith)

pub high_no_feed : (b : ℕ) → 44 ≤ b → IsNoFeed b
high_no_feed b from = ne_eqb b 10 (omega arith)

pub none_from_no_space : (text : List ℕ) → All IsNoSpace text → Contains text 32 → ⊥
none_from_no_space text lacks here = true≢false (sym (eq-eqb 32 32 refl) ∙ All-contains IsNoSpace text 32 lacks here)

pub none_from_no_feed : (text : List ℕ) → All IsNoFeed text → Contains text 10 → ⊥
none_from_no_feed text lacks here = true≢false (sym (eq-eqb 10 10 refl) ∙ All-contains IsNoFeed text 10 lacks here)

pub field_no_space : (field : List ℕ) → IsField field → All IsNoSpace field
field_no_space field f = lacks_from_none 32 field f.no_space

pub fields_no_space : (set : SetData) → HasFields set → EachName IsNoSpace set
fields_no_space set names =
    All-weaker (λ (task : TaskData). IsField task.name) (λ (task : TaskData). All IsNoSpace task.name)
    (λ task field. field_no_space task.name field) set.tasks names

-- the names of a valid set have no line feed
pub names_no_feed : (set : SetData) → IsTaskSet set → EachName IsNoFeed set
names_no_feed set valid =
    All-weaker (λ (task : TaskData). IsName task.name) (λ (task : TaskData). All IsNoFeed task.name)
    (λ task named. All-weaker (λ (b : ℕ). 44 ≤ b) IsNoFeed high_no_feed task.name (name_high task.name named))
    set.tasks valid.names
