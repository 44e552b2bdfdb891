-- Entries by their fields: a stream, an event and a reply.
use Rattle.std.proofs.Common.{◌≡◌, ℕ, inl, inr, List, [], ◌∷◌, ◌++◌, length, Result, Ok, Err, OnOk, refl, sym, ap, ◌∙◌, subst, arith}
use Rattle.affinity_mask.specs.Number.{canonical_number}
use Rattle.task_set.specs.TaskSet.{SetData, IsTaskSet}
use Rattle.task_set.specs.declared.event.Event.{Event}
use Rattle.task_set.specs.declared.event.Event.TheVariants.{Arrive, Depart, Tick, Affinity, Offline, Online}
use Rattle.strong_apa.specs.declared.reply.Reply.{Reply}
use Rattle.strong_apa.specs.declared.reply.Entry.{Entry}
use Rattle.schedule_text.specs.ScheduleText.{reply_fields}
use Rattle.schedule_text.specs.Fields.{IsNumberField}
use Rattle.schedule_text.specs.LineFields.{IsSaid, IsEventFields, IsReplyFields, IsEntryFields, IsSomeEntry, IsEventSize, IsEventThen}
use Rattle.text_fields.specs.EventText.{event_fields}
use Rattle.text_fields.proofs.Words.{head_same, tail_same, other_word}
use Rattle.schedule_text.proofs.Names.{set_fields}
use Rattle.schedule_text.proofs.Parts.{IsOfParts}
use Rattle.schedule_text.proofs.Replies.{parts_apart}

-- ---- where an event ends

-- the first word says how many fields an event has
pub event_size : (tasks : SetData) (event : Event) → IsEventSize (event_fields tasks event)
event_size tasks (Affinity t mask) = inl (refl, refl)
event_size tasks (Arrive t) = inr (λ e. other_word e refl, refl)
event_size tasks (Depart t) = inr (λ e. other_word e refl, refl)
event_size tasks (Tick n) = inr (λ e. other_word e refl, refl)
event_size tasks (Offline p) = inr (λ e. other_word e refl, refl)
event_size tasks (Online p) = inr (λ e. other_word e refl, refl)

same_size : (a b : List ℕ) (xs us ys vs : List (List ℕ)) → IsEventSize (a ∷ xs) → IsEventSize (b ∷ us)
    → a ∷ (xs ++ ys) ≡ b ∷ (us ++ vs) → length (a ∷ xs) ≡ length (b ∷ us)
same_size a b xs us ys vs (inl one) (inl other) e = omega (arith, one.1, other.1)
same_size a b xs us ys vs (inl one) (inr other) e = absurd (other.0 (sym (head_same e) ∙ one.0))
same_size a b xs us ys vs (inr one) (inl other) e = absurd (one.0 (head_same e ∙ other.0))
same_size a b xs us ys vs (inr one) (inr other) e = omega (arith, one.1, other.1)

-- two events with other fields after them
pub events_apart : (xs us ys vs : List (List ℕ)) → IsEventSize xs → IsEventSize us → xs ++ ys ≡ us ++ vs
    → (xs ≡ us) × (ys ≡ vs)
events_apart [] us ys vs size size' e = absurd size
events_apart (a ∷ xs) [] ys vs size size' e = absurd size'
events_apart (a ∷ xs) (b ∷ us) ys vs size size' e =
    parts_apart (a ∷ xs) (b ∷ us) ys vs (same_size a b xs us ys vs size size' e) e

-- the fields of a line, cut in three
pub entry_cut : (fields : List (List ℕ)) (number : List ℕ) (rest event reply : List (List ℕ)) → fields ≡ number ∷ rest
    → IsEventThen rest event reply → fields ≡ number ∷ (event ++ reply)
entry_cut fields number rest event reply is cut =
    is ∙ ap (λ (more : List (List ℕ)). number ∷ more) cut.each_field

-- ---- the parts of an entry

-- the stream of an entry
pub some_stream : (version m : ℕ) (number : List ℕ) (rest : List (List ℕ)) → IsSomeEntry version m (number ∷ rest)
    → (stream : ℕ) × IsNumberField 0 15 number stream
some_stream version m number rest f =
    (let caller = f.caller in
    (f.stream, record { range = (omega arith, omega arith); is_text = head_same f.each_field }))

-- its event and its reply
pub some_event_then : (version m : ℕ) (number : List ℕ) (rest : List (List ℕ)) → IsSomeEntry version m (number ∷ rest)
    → (event : List (List ℕ)) × (reply : List (List ℕ)) × IsEventThen rest event reply
some_event_then version m number rest f =
    let e = f.is_event in (
      f.event,
      f.reply,
      record {
        size = subst IsEventSize (sym e.3.each_field) (event_size e.0 e.1);
        each_field = tail_same f.each_field;
      },
    )

module _ (version : ℕ) (set : SetData) (number : List ℕ) (event reply : List (List ℕ)) where
  pub entry_of_parts : (stream : ℕ) (e : Event) (r : Reply) → IsNumberField 0 15 number stream
      → IsEventFields version set.processors event set e → IsReplyFields version reply set r
      → IsEntryFields version (number ∷ (event ++ reply)) set (record { caller = stream; event = e; reply = r })
  entry_of_parts stream e r s f g = record {
    scheduled = record {
      caller = (let high = s.range.1 in omega arith);
      tasks = record { event = f.about; reply = g.about };
      of_version = record { event = f.of_version; reply = g.of_version };
      units = f.units;
      processors = g.processors;
    };
    each_field =
        ap (λ (first : List ℕ). first ∷ (event ++ reply)) s.is_text
        ∙ ap (λ (prefix : List (List ℕ)). canonical_number stream ∷ (prefix ++ reply)) f.each_field
        ∙ ap (λ (back : List (List ℕ)). canonical_number stream ∷ (event_fields set e ++ back)) g.each_field;
  }

  -- what an entry of these fields says of its event and of its reply
  known_parts : IsEventSize event → (entry : Entry) → IsEntryFields version (number ∷ (event ++ reply)) set entry
      → IsEventFields version set.processors event set entry.event × IsReplyFields version reply set entry.reply
  known_parts size entry f =
      let s = f.scheduled in
      let apart = events_apart event (event_fields set entry.event) reply (reply_fields set entry.reply) size
      (event_size set entry.event) (tail_same f.each_field) in (
        record {
          processors = refl;
          about = s.tasks.event;
          of_version = s.of_version.event;
          units = s.units;
          each_field = apart.0;
        },
        record {
          about = s.tasks.reply;
          of_version = s.of_version.reply;
          processors = s.processors;
          each_field = apart.1;
        },
      )

  some_parts : IsEventSize event → IsSomeEntry version set.processors (number ∷ (event ++ reply))
      → IsSaid (IsEventFields version set.processors event) × IsSaid (IsReplyFields version reply)
  some_parts size f =
      let e = f.is_event in
      let apart = events_apart event f.event reply f.reply size
      (subst IsEventSize (sym e.3.each_field) (event_size e.0 e.1)) (tail_same f.each_field) in (
        subst (λ (fields : List (List ℕ)). IsSaid (IsEventFields version set.processors fields)) (sym apart.0) f.is_event,
        subst (λ (fields : List (List ℕ)). IsSaid (IsReplyFields version fields)) (sym apart.1) f.is_reply,
      )

  -- an entry is made of an event and a reply
  pub entry_parts : (stream : ℕ) → IsTaskSet set → IsNumberField 0 15 number stream → IsEventSize event
      → IsOfParts (IsSaid (IsEventFields version set.processors event))
      ((e : Event) × IsEventFields version set.processors event set e) (IsSaid (IsReplyFields version reply))
      ((r : Reply) × IsReplyFields version reply set r)
      (IsSomeEntry version set.processors (number ∷ (event ++ reply)))
      ((entry : Entry) × IsEntryFields version (number ∷ (event ++ reply)) set entry)
  entry_parts stream valid s size = record {
    form = λ e r. record {
      stream = stream;
      event = event;
      reply = reply;
      caller = (let high = s.range.1 in omega arith);
      is_event = e;
      is_reply = r;
      each_field = ap (λ (first : List ℕ). first ∷ (event ++ reply)) s.is_text;
    };
    first_form = λ f. (some_parts size f).0;
    second_form = λ f. (some_parts size f).1;
    first_known = λ known. (known.0.event, (known_parts size known.0 known.1).0);
    second_known = λ known. (known.0.reply, (known_parts size known.0 known.1).1);
    first_some = λ known. (set, known.0, set_fields set valid, known.1);
    second_some = λ known. (set, known.0, set_fields set valid, known.1);
  }

-- ---- an entry that was listed

-- what is said of the reply that was listed
pub reply_listed : {U E : Type 0} (result : Result U E) (before after : List Entry) (caller : ℕ) (event : Event) (reply : Reply)
    (Says : Reply → Type 0) → OnOk result (after ≡ before ++ record { caller = caller; event = event; reply = reply } ∷ [])
    → Says reply
    → OnOk result ((r : Reply) × (after ≡ before ++ record { caller = caller; event = event; reply = r } ∷ []) × Says r)
reply_listed (Ok u) before after caller event reply Says listed says = (reply, listed, says)
reply_listed (Err kind) before after caller event reply Says listed says = tt

-- the entry of an event that was read and of a reply is that of the fields
pub entry_listed : {U E : Type 0} (version : ℕ) (set : SetData) (number : List ℕ) (event reply fields : List (List ℕ))
    (stream : ℕ) (e : Event) (before after : List Entry) (result : Result U E) → fields ≡ number ∷ (event ++ reply)
    → IsNumberField 0 15 number stream → IsEventFields version set.processors event set e
    → OnOk result ((r : Reply) × (after ≡ before ++ record { caller = stream; event = e; reply = r } ∷ [])
    × IsReplyFields version reply set r)
    → OnOk result ((entry : Entry) × (after ≡ before ++ entry ∷ []) × IsEntryFields version fields set entry)
entry_listed version set number event reply fields stream e before after (Ok u) cut s f (r, listed, g) = (
  record { caller = stream; event = e; reply = r },
  listed,
  subst (λ (all : List (List ℕ)). IsEntryFields version all set (record { caller = stream; event = e; reply = r })) (sym cut)
      (entry_of_parts version set number event reply stream e r s f g),
)
entry_listed version set number event reply fields stream e before after (Err kind) cut s f listed = tt
