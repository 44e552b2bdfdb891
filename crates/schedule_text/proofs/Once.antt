-- The fields of a line say one thing, and what they say has no fault.
use Rattle.std.proofs.Common.{◌≡◌, ℕ, ◌<◌, ◌≤◌, ◌^◌, inl, inr, List, [], ◌∷◌, length, Option, Some, None, IfSome, refl, sym, ap, ◌∙◌, subst}
use Rattle.std.proofs.Common.{arith}
use Rattle.std.specs.Prelude.{codes}
use Rattle.std.proofs.lemmas.Fmt.{decimal_injective}
use Rattle.affinity_mask.specs.Number.{canonical_number}
use Rattle.affinity_mask.specs.ListText.{canonical_list}
use Rattle.task_set.specs.TaskSet.{TaskData, SetData, IsTaskSet}
use Rattle.task_set.specs.declared.event.Event.{Event}
use Rattle.task_set.specs.declared.event.Event.TheVariants.{Arrive, Depart, Tick, Affinity, Offline, Online}
use Rattle.strong_apa.specs.declared.reply.Reply.{Reply}
use Rattle.strong_apa.specs.declared.reply.Reply.TheVariants.{Remasked, Off, On}
use Rattle.strong_apa.specs.declared.reply.Came.{Came}
use Rattle.strong_apa.specs.declared.reply.Came.TheVariants as came
use Rattle.strong_apa.specs.declared.reply.Gone.{Gone}
use Rattle.strong_apa.specs.declared.reply.Moved.{Moved}
use Rattle.strong_apa.specs.Reply.{reply_of_came, reply_of_gone}
use Rattle.strong_apa.specs.declared.reply.Entry.{Entry}
use Rattle.text_fields.specs.EventText.{IsAboutSet, event_fields}
use Rattle.schedule_text.specs.ScheduleText.{chain_text, set_text, somebody_text, reply_fields}
use Rattle.schedule_text.specs.Schedule.{IsProcessorList, IsOfProcessors}
use Rattle.task_set.specs.Event.{HasUnits}
use Rattle.schedule_text.specs.declared.fault.TextKind.{TextKind}
use Rattle.schedule_text.specs.Fields.{IsNumberAfter}
use Rattle.schedule_text.specs.LineFields.{IsTaskFields, IsCameFields, IsGoneFields, IsReplyFields, IsEntryFields, IsSomeEntry}
use Rattle.schedule_text.specs.LineFields.{IsEntryFault}
use Rattle.text_fields.proofs.Words.{head_same, tail_same, clash}
use Rattle.schedule_text.proofs.Names.{name_of_no_dash, set_fields}
use Rattle.text_fields.proofs.NamedTasks.{same_task, same_parts}
use Rattle.schedule_text.proofs.Fields.{list_once, set_once, mask_processors}
use Rattle.schedule_text.proofs.Chains.{chain_once}
use Rattle.schedule_text.proofs.ReplyParts.{the_task, the_somebody, the_chain, the_set}
use Rattle.schedule_text.proofs.FirstWords.{opening, Opening, freed_first, on_first, off_first, remasked_first, other_first, IsMovedFields}
use Rattle.schedule_text.proofs.FirstWords.{IsReturnFields, IsTold, IsToldBy, said, some_same}
use Rattle.schedule_text.proofs.Entries.{event_size, events_apart}
use Rattle.schedule_text.proofs.Replies.{parts_apart}

-- ---- events and replies

number_same : (m n : ℕ) → m < 2 ^ 64 → n < 2 ^ 64 → canonical_number m ≡ canonical_number n → m ≡ n
number_same m n small small' same = decimal_injective m n small small' same

second : {a b x y : List ℕ} {xs ys : List (List ℕ)} → a ∷ x ∷ xs ≡ b ∷ y ∷ ys → x ≡ y
second e = head_same (tail_same e)

affinity_same : {t u X Y : ℕ} → t ≡ u → X ≡ Y → Affinity t X ≡ Affinity u Y
affinity_same one two = cc

event_once : (set : SetData) (one other : Event) → IsTaskSet set → IsAboutSet set one → IsAboutSet set other
    → HasUnits one → HasUnits other → event_fields set one ≡ event_fields set other → one ≡ other
event_once set (Arrive t) (Arrive u) valid a b p q e = ap Arrive (same_task set t u valid a b (second e))
event_once set (Depart t) (Depart u) valid a b p q e = ap Depart (same_task set t u valid a b (second e))
event_once set (Tick m) (Tick n) valid a b p q e =
    (let few : m ≤ 1000000 = p.1 in let few' : n ≤ 1000000 = q.1 in ap Tick
    (number_same m n (omega arith) (omega arith) (second e)))
event_once set (Affinity t X) (Affinity u Y) valid a b p q e =
    let few = valid.processors.1 in
    affinity_same (same_task set t u valid a.0 b.0 (second e))
    (list_once (canonical_list X) X Y
    (record { some = a.1.some; processors = mask_processors set.processors X few a.1; is_text = refl })
    (record {
      some = b.1.some;
      processors = mask_processors set.processors Y few b.1;
      is_text = second (tail_same e);
    }))
event_once set (Offline m) (Offline n) valid a b p q e =
    (let few = valid.processors.1 in ap Offline (number_same m n (omega (arith, a)) (omega (arith, b)) (second e)))
event_once set (Online m) (Online n) valid a b p q e =
    (let few = valid.processors.1 in ap Online (number_same m n (omega (arith, a)) (omega (arith, b)) (second e)))
event_once set one other valid a b p q e = absurd (clash e refl)

somebody_once : (set : SetData) (one other : Option ℕ) → IsTaskSet set → IfSome one (λ t. t < length set.tasks)
    → IfSome other (λ t. t < length set.tasks) → somebody_text set one ≡ somebody_text set other → one ≡ other
somebody_once set None None valid a b e = refl
somebody_once set None (Some t) valid a b e = absurd (name_of_no_dash set t valid b (sym e))
somebody_once set (Some t) None valid a b e = absurd (name_of_no_dash set t valid a e)
somebody_once set (Some t) (Some u) valid a b e = ap Some (same_task set t u valid a b e)

chain_same : (one other : List ℕ) → IsProcessorList one → IsProcessorList other → chain_text one
    ≡ chain_text other → one ≡ other
chain_same one other list list' e =
    chain_once (chain_text one) one other (record { list = list; is_text = refl })
    (record { list = list'; is_text = e })

set_same : (X Y : ℕ) → IsOfProcessors X → IsOfProcessors Y → set_text X ≡ set_text Y → X ≡ Y
set_same X Y p q e =
    set_once (set_text X) X Y (record { processors = p; is_text = refl })
    (record { processors = q; is_text = e })

displaced_same : {c c' : List ℕ} {o o' r r' : ℕ} → c ≡ c' → o ≡ o' → r ≡ r'
    → came.Displaced c o r ≡ came.Displaced c' o' r'
displaced_same one two three = cc

came_once : (fields : List (List ℕ)) (set : SetData) (one other : Came) → IsTaskSet set → IsCameFields fields set one
    → IsCameFields fields set other → one ≡ other
came_once fields set (came.Placed c) (came.Placed c') valid f g =
    let e = sym f.each_field ∙ g.each_field in
    ap came.Placed (chain_same c c' (the_chain c [] f.processors) (the_chain c' [] g.processors) (second e))
came_once fields set (came.Displaced c o r) (came.Displaced c' o' r') valid f g =
    let e = sym f.each_field ∙ g.each_field in
    let third = tail_same (tail_same e) in
    let fifth = tail_same (tail_same third) in
    displaced_same
    (chain_same c c' (the_chain c (r ∷ []) f.processors) (the_chain c' (r' ∷ []) g.processors) (second e))
    (same_task set o o' valid (the_task set o f.about) (the_task set o' g.about) (second third))
    (set_same r r' (the_set (c ∷ []) r f.processors) (the_set (c' ∷ []) r' g.processors) (second fifth))
came_once fields set (came.Waits r) (came.Waits r') valid f g =
    let e = sym f.each_field ∙ g.each_field in
    ap came.Waits (set_same r r' (the_set [] r f.processors) (the_set [] r' g.processors) (second e))
came_once fields set one other valid f g = absurd (clash (sym f.each_field ∙ g.each_field) refl)

gone_same : {c c' : List ℕ} {o o' : Option ℕ} {r r' : ℕ} → o ≡ o' → c ≡ c' → r ≡ r'
    → ◌≡◌ {A = Gone} (record { entered = o; chain = c; back = r }) (record { entered = o'; chain = c'; back = r' })
gone_same one two three = rw (one, two, three) refl

gone_once : (fields : List (List ℕ)) (set : SetData) (one other : Gone) → IsTaskSet set → IsGoneFields fields set one
    → IsGoneFields fields set other → one ≡ other
gone_once fields set one other valid f g =
    let e = sym f.each_field ∙ g.each_field in
    let third = tail_same (tail_same e) in
    let fifth = tail_same (tail_same third) in
    gone_same
    (somebody_once set one.entered other.entered valid (the_somebody set one.entered f.about)
    (the_somebody set other.entered g.about) (head_same third))
    (chain_same one.chain other.chain (the_chain one.chain (one.back ∷ []) f.processors)
    (the_chain other.chain (other.back ∷ []) g.processors) (head_same e))
    (set_same one.back other.back (the_set (one.chain ∷ []) one.back f.processors)
    (the_set (other.chain ∷ []) other.back g.processors) (head_same fifth))

remasked_same : {g g' : Option Gone} {c c' : Came} → g ≡ g' → c ≡ c' → Remasked g c ≡ Remasked g' c'
remasked_same one two = cc

moved_same : {t t' : ℕ} {c c' : Came} → t ≡ t' → c ≡ c'
    → ◌≡◌ {A = Moved} (record { task = t; came = c }) (record { task = t'; came = c' })
moved_same one two = rw (one, two) refl

-- of other fields that are the same
came_at : {fields others : List (List ℕ)} (set : SetData) (arrival : Came) → fields ≡ others
    → IsCameFields others set arrival → IsCameFields fields set arrival
came_at set arrival is f = subst (λ (fields : List (List ℕ)). IsCameFields fields set arrival) (sym is) f

moved_once : (rest : List (List ℕ)) (set : SetData) (one other : Option Moved) → IsTaskSet set
    → IsMovedFields rest set one → IsMovedFields rest set other → one ≡ other
moved_once rest set None None valid e e' = refl
moved_once rest set None (Some n) valid e q = absurd (omega (arith, ap length (sym e ∙ q.2)))
moved_once rest set (Some m) None valid p e = absurd (omega (arith, ap length (sym e ∙ p.2)))
moved_once rest set (Some m) (Some n) valid (after, within, is, f) (after', within', is', g) =
    let e = sym is ∙ is' in
    ap Some (moved_same (same_task set m.task n.task valid within within' (head_same e))
    (came_once after set m.came n.came valid f (came_at set n.came (tail_same (tail_same e)) g)))

return_once : (rest : List (List ℕ)) (set : SetData) (one other : Option Gone) (c c' : Came) → IsTaskSet set
    → IsReturnFields rest set one c → IsReturnFields rest set other c' → Remasked one c ≡ Remasked other c'
return_once rest set None None c c' valid (after, is, f) (after', is', g) =
    remasked_same refl (came_once after set c c' valid f (came_at set c' (tail_same (tail_same (sym is ∙ is'))) g))
return_once rest set None (Some h) c c' valid p q = absurd (clash (sym p.1 ∙ q.2) refl)
return_once rest set (Some g) None c c' valid p q = absurd (clash (sym p.2 ∙ q.1) refl)
return_once rest set (Some g) (Some h) c c' valid p q =
    let apart = parts_apart p.0 q.0 (codes "then" ∷ p.1) (codes "then" ∷ q.1)
    (ap length p.3.each_field ∙ sym (ap length q.3.each_field)) (tail_same (sym p.2 ∙ q.2)) in
    remasked_same
    (ap Some (gone_once p.0 set g h valid p.3
    (subst (λ (fields : List (List ℕ)). IsGoneFields fields set h) (sym apart.0) q.3)))
    (came_once p.1 set c c' valid p.4 (came_at set c' (tail_same apart.1) q.4))

told_once : (first : Opening) (version : ℕ) (word : List ℕ) (rest : List (List ℕ)) (set : SetData) (one other : Reply)
    → IsTaskSet set → IsTold first version word rest set one → IsTold first version word rest set other → one ≡ other
told_once freed_first version word rest set one other valid t u =
    t.1 ∙ ap reply_of_gone (gone_once rest set t.0 u.0 valid t.2 u.2) ∙ sym u.1
told_once on_first version word rest set one other valid t u =
    t.2 ∙ ap On (gone_once rest set t.0 u.0 valid t.3 u.3) ∙ sym u.2
told_once off_first version word rest set one other valid t u =
    t.2 ∙ ap Off (moved_once rest set t.0 u.0 valid t.3 u.3) ∙ sym u.2
told_once remasked_first version word rest set one other valid t u =
    t.3 ∙ return_once rest set t.0 u.0 t.1 u.1 valid t.4 u.4 ∙ sym u.3
told_once other_first version word [] set one other valid t u = some_same (sym t.0 ∙ u.0)
told_once other_first version word (next ∷ rest) set one other valid t u =
    t.1 ∙ ap reply_of_came (came_once (word ∷ next ∷ rest) set t.0 u.0 valid t.2 u.2) ∙ sym u.1

reply_once : (version : ℕ) (fields : List (List ℕ)) (set : SetData) (one other : Reply) → IsTaskSet set
    → IsReplyFields version fields set one → IsReplyFields version fields set other → one ≡ other
reply_once version fields set one other valid f g =
    by fields (said version fields set one f) (said version fields set other g)
  where
    by : (fields : List (List ℕ)) → IsToldBy version fields set one → IsToldBy version fields set other → one ≡ other
    by [] t u = absurd t
    by (word ∷ rest) t u = told_once (opening word) version word rest set one other valid t u

-- ---- entries

entry_same : (one other : Entry) → one.caller ≡ other.caller → one.event ≡ other.event → one.reply ≡ other.reply
    → one ≡ other
entry_same one other e1 e2 e3 = by one.caller other.caller one.event other.event one.reply other.reply e1 e2 e3
  where
    by : (c c' : ℕ) (e e' : Event) (r r' : Reply) → c ≡ c' → e ≡ e' → r ≡ r'
        → ◌≡◌ {A = Entry} (record { caller = c; event = e; reply = r })
        (record { caller = c'; event = e'; reply = r' })
    by c c' e e' r r' e1 e2 e3 = rw (e1, e2, e3) refl

pub entry_once : (version : ℕ) (set : SetData) (fields : List (List ℕ)) (one other : Entry) → IsTaskSet set
    → IsEntryFields version fields set one → IsEntryFields version fields set other → one ≡ other
entry_once version set fields one other valid f g =
    let both = sym f.each_field ∙ g.each_field in
    let s = f.scheduled in
    let s' = g.scheduled in
    let c = s.caller in
    let c' = s'.caller in
    let apart = events_apart (event_fields set one.event) (event_fields set other.event) (reply_fields set one.reply)
    (reply_fields set other.reply) (event_size set one.event) (event_size set other.event) (tail_same both) in
    entry_same one other (number_same one.caller other.caller (omega arith) (omega arith) (head_same both))
    (event_once set one.event other.event valid s.tasks.event s'.tasks.event s.units s'.units apart.0)
    (reply_once version (reply_fields set one.reply) set one.reply other.reply valid
    (record {
      about = s.tasks.reply;
      of_version = s.of_version.reply;
      processors = s.processors;
      each_field = refl;
    })
    (record {
      about = s'.tasks.reply;
      of_version = s'.of_version.reply;
      processors = s'.processors;
      each_field = apart.1;
    }))

-- ---- tasks

pub task_once : (fields : List (List ℕ)) (one other : TaskData) → IsTaskFields fields one
    → IsTaskFields fields other → one ≡ other
task_once fields one other f g =
    let both = sym f.each_field ∙ g.each_field in
    let third = tail_same (tail_same both) in
    let p = f.priority in
    let p' = g.priority in
    same_parts one other (second both)
    (number_same one.priority other.priority (omega arith) (omega arith) (head_same third))
    (list_once (canonical_list one.mask) one.mask other.mask
    (record { some = f.some; processors = f.processors; is_text = refl })
    (record { some = g.some; processors = g.processors; is_text = second third }))

-- ---- numbers

pub number_after_once : (word : List ℕ) (least most : ℕ) (fields : List (List ℕ)) → most < 2 ^ 64 → (m n : ℕ)
    → IsNumberAfter word least most fields m → IsNumberAfter word least most fields n → m ≡ n
number_after_once word least most fields small m n f g =
    let few : m ≤ most = f.range.1 in
    let few' : n ≤ most = g.range.1 in
    number_same m n (omega (arith, few, small)) (omega (arith, few', small)) (second (sym f.each_field ∙ g.each_field))

-- ---- the faults of entries

-- an entry of a valid set has the form of an entry
known_form : (version : ℕ) (set : SetData) (fields : List (List ℕ)) (entry : Entry) → IsTaskSet set
    → IsEntryFields version fields set entry → IsSomeEntry version set.processors fields
known_form version set fields entry valid f =
    let s = f.scheduled in
    record {
      stream = entry.caller;
      event = event_fields set entry.event;
      reply = reply_fields set entry.reply;
      caller = s.caller;
      is_event = (
        set,
        entry.event,
        set_fields set valid,
        record {
          processors = refl;
          about = s.tasks.event;
          of_version = s.of_version.event;
          units = s.units;
          each_field = refl;
        },
      );
      is_reply = (
        set,
        entry.reply,
        set_fields set valid,
        record {
          about = s.tasks.reply;
          of_version = s.of_version.reply;
          processors = s.processors;
          each_field = refl;
        },
      );
      each_field = f.each_field;
    }

pub entry_no_fault : (version : ℕ) (set : SetData) (fields : List (List ℕ)) → IsTaskSet set → (entry : Entry)
    (kind : TextKind) → IsEntryFields version fields set entry → IsEntryFault version fields set kind → ⊥
entry_no_fault version set fields valid entry kind f (inl bad) = bad.1 (known_form version set fields entry valid f)
entry_no_fault version set fields valid entry kind f (inr unknown) = unknown.2 (entry, f)

pub entry_fault_once : (version : ℕ) (set : SetData) (fields : List (List ℕ)) (kind other : TextKind)
    → IsEntryFault version fields set kind → IsEntryFault version fields set other → kind ≡ other
entry_fault_once version set fields kind other (inl one) (inl two) = one.0 ∙ sym two.0
entry_fault_once version set fields kind other (inl one) (inr two) = absurd (one.1 two.1)
entry_fault_once version set fields kind other (inr one) (inl two) = absurd (two.1 one.1)
entry_fault_once version set fields kind other (inr one) (inr two) = one.0 ∙ sym two.0
