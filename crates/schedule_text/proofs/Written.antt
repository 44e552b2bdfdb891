-- What the writer appended, piece by piece.
use Rattle.std.proofs.Common.{◌≡◌, ℕ, zero, suc, ◌+◌, ◌<◌, ◌≤◌, List, [], ◌∷◌, ◌++◌, length, map, take, Option, Some, None, Result, Ok, Err}
use Rattle.std.proofs.Common.{OnOk, refl, sym, ap, ◌∙◌, append_assoc, arith}
use Rattle.std.specs.Prelude.{codes, slice_get}
use Rattle.std.specs.List.{flat_map, join_with_byte}
use Rattle.std.proofs.lemmas.List.{map-append, take_more}
use Rattle.std.proofs.lemmas.Option.{get_or_from_slice_get}
use Rattle.affinity_mask.specs.Number.{canonical_number}
use Rattle.task_set.specs.TaskSet.{SetData}
use Rattle.task_set.specs.declared.context.Context.{Context}
use Rattle.strong_apa.specs.declared.reply.Reply.TheVariants.{Remasked, Off}
use Rattle.strong_apa.specs.declared.reply.Came.{Came}
use Rattle.strong_apa.specs.declared.reply.Came.TheVariants as came
use Rattle.strong_apa.specs.declared.reply.Gone.{Gone}
use Rattle.strong_apa.specs.declared.reply.Moved.{Moved}
use Rattle.strong_apa.specs.declared.reply.Entry.{Entry}
use Rattle.text_fields.specs.LineText.{line, processors_line, task_line}
use Rattle.text_fields.specs.EventText.{name_of, event_text}
use Rattle.schedule_text.specs.ScheduleText.{chain_text, set_text, somebody_text, number_text, came_fields, gone_fields, spaced, came_text}
use Rattle.schedule_text.specs.ScheduleText.{gone_text, reply_text, entry_line, context_line, header, schedule_text}
use Rattle.schedule_text.proofs.FieldLists.{spaced_apart}

-- pieces that are appended one after another
pieces6 : (old a b c d e f : List ℕ) → old ++ a ++ b ++ c ++ d ++ e ++ f ≡ old ++ (a ++ (b ++ (c ++ (d ++ (e ++ f)))))
pieces6 old a b c d e f = simp append_assoc

-- ---- chains

-- one more text after others
joined-push : (x : List ℕ) (xs : List (List ℕ)) (y : List ℕ) → join_with_byte 62 (x ∷ xs ++ y ∷ [])
    ≡ join_with_byte 62 (x ∷ xs) ++ (62 ∷ y)
joined-push x [] y = refl
joined-push x (next ∷ xs) y =
    ap (λ (rest : List ℕ). x ++ (62 ∷ rest)) (joined-push next xs y)
    ∙ sym (append_assoc x (62 ∷ join_with_byte 62 (next ∷ xs)) (62 ∷ y))

-- the processors of a chain up to a place
abbrev pub links_text : List ℕ → ℕ → List ℕ
links_text chain n = join_with_byte 62 (map canonical_number (take n chain))

links_text-more : (chain : List ℕ) (i p : ℕ) → 1 ≤ i → i < length chain → slice_get chain i ≡ Some p
    → links_text chain (i + 1) ≡ links_text chain i ++ (62 ∷ canonical_number p)
links_text-more chain zero p some within at = absurd (omega (arith, some))
links_text-more [] (suc j) p some within at = absurd (omega (arith, within))
links_text-more (x ∷ rest) (suc j) p some within at =
    let more : take (suc j + 1) (x ∷ rest) ≡ x ∷ (take j rest ++ p ∷ []) =
    take_more (x ∷ rest) (suc j) p within
    ∙ ap (λ (q : ℕ). x ∷ (take j rest ++ q ∷ [])) (get_or_from_slice_get (x ∷ rest) (suc j) p p at) in
    ap (λ (ps : List ℕ). join_with_byte 62 (map canonical_number ps)) more
    ∙ ap (λ (texts : List (List ℕ)). join_with_byte 62 (canonical_number x ∷ texts))
    (map-append canonical_number (take j rest) (p ∷ []))
    ∙ joined-push (canonical_number x) (map canonical_number (take j rest)) (canonical_number p)

pub links_written : (chain : List ℕ) (i p : ℕ) (old now next : List ℕ) → 1 ≤ i → i < length chain
    → slice_get chain i ≡ Some p → now ≡ old ++ links_text chain i → next ≡ now
    ++ (codes ">" ++ canonical_number p) → next ≡ old ++ links_text chain (i + 1)
links_written chain i p old now next some within at before step =
    step ∙ ap (λ (text : List ℕ). text ++ (codes ">" ++ canonical_number p)) before
    ∙ append_assoc old (links_text chain i) (codes ">" ++ canonical_number p)
    ∙ ap (λ (text : List ℕ). old ++ text) (sym (links_text-more chain i p some within at))

-- ---- replies

pub displaced_written : {E : Type 0} (set : SetData) (chain : List ℕ) (out reach : ℕ)
    (t0 t1 t2 t3 t4 t5 t6 : List ℕ) (r : Result (Unit {0}) E) → t1 ≡ t0 ++ codes "displaced " → t2 ≡ t1
    ++ chain_text chain → t3 ≡ t2 ++ codes " out " → t4 ≡ t3 ++ name_of set out
    → t5 ≡ t4 ++ codes " reach " → OnOk r (t6 ≡ t5 ++ set_text reach)
    → OnOk r (t6 ≡ t0 ++ came_text set (came.Displaced chain out reach))
unfolding came_text
displaced_written set chain out reach t0 t1 t2 t3 t4 t5 t6 (Ok x) e1 e2 e3 e4 e5 e6 =
    rw (e6, e5, e4, e3, e2, e1)
    (pieces6 t0 (codes "displaced ") (chain_text chain) (codes " out ") (name_of set out) (codes " reach ")
    (set_text reach))
displaced_written set chain out reach t0 t1 t2 t3 t4 t5 t6 (Err x) e1 e2 e3 e4 e5 e6 = tt

pub gone_written : {E : Type 0} (set : SetData) (word : List ℕ) (entered : Option ℕ) (chain : List ℕ) (back : ℕ)
    (t0 t1 t2 t3 t4 t5 t6 : List ℕ) (r : Result (Unit {0}) E) → t1 ≡ t0 ++ word → t2 ≡ t1
    ++ chain_text chain → t3 ≡ t2 ++ codes " enters " → t4 ≡ t3 ++ somebody_text set entered
    → t5 ≡ t4 ++ codes " back " → OnOk r (t6 ≡ t5 ++ set_text back)
    → OnOk r (t6 ≡ t0 ++ (word ++ gone_text set (record { entered = entered; chain = chain; back = back })))
unfolding gone_text
gone_written set word entered chain back t0 t1 t2 t3 t4 t5 t6 (Ok x) e1 e2 e3 e4 e5 e6 =
    rw (e6, e5, e4, e3, e2, e1)
    (pieces6 t0 word (chain_text chain) (codes " enters ") (somebody_text set entered) (codes " back ")
    (set_text back))
gone_written set word entered chain back t0 t1 t2 t3 t4 t5 t6 (Err x) e1 e2 e3 e4 e5 e6 = tt

-- the word `then` before the result of an arrival
then_spaced : (set : SetData) (arrival : Came) → codes "then " ++ spaced (came_fields set arrival)
    ≡ spaced (codes "then" ∷ came_fields set arrival)
then_spaced set (came.Placed chain) = refl
then_spaced set _ = refl

-- and before it some other fields
before_then : (set : SetData) (old text first : List ℕ) (more : List (List ℕ)) (arrival : Came)
    → text ≡ old ++ spaced (first ∷ more) → text ++ (codes " then " ++ came_text set arrival)
    ≡ old ++ spaced ((first ∷ more) ++ codes "then" ∷ came_fields set arrival)
unfolding came_text
before_then set old text first more arrival is =
    ap (λ (before : List ℕ). before ++ (codes " then " ++ spaced (came_fields set arrival))) is
    ∙ append_assoc old (spaced (first ∷ more)) (codes " then " ++ spaced (came_fields set arrival))
    ∙ ap (λ (after : List ℕ). old ++ (spaced (first ∷ more) ++ 32 ∷ after)) (then_spaced set arrival)
    ∙ ap (λ (after : List ℕ). old ++ after) (sym (spaced_apart first more (codes "then") (came_fields set arrival)))

pub linked_written : {E : Type 0} (set : SetData) (given : Option Gone) (some : Gone) (arrival : Came) (t0 t1 t2 : List ℕ)
    (r : Result (Unit {0}) E) → given ≡ Some some → t1 ≡ t0 ++ (codes "remasked freed " ++ gone_text set some)
    → OnOk r (t2 ≡ t1 ++ (codes " then " ++ came_text set arrival))
    → OnOk r (t2 ≡ t0 ++ reply_text set (Remasked given arrival))
unfolding reply_text gone_text
linked_written set given some arrival t0 t1 t2 (Ok x) is e1 e2 =
    rw (is, e2) (before_then set t0 t1 (codes "remasked") (codes "freed" ∷ gone_fields set some) arrival e1)
linked_written set given some arrival t0 t1 t2 (Err x) is e1 e2 = tt

pub waiting_written : {E : Type 0} (set : SetData) (given : Option Gone) (arrival : Came) (t0 t1 : List ℕ)
    (r : Result (Unit {0}) E) → given ≡ None
    → OnOk r (t1 ≡ t0 ++ (codes "remasked left then " ++ came_text set arrival))
    → OnOk r (t1 ≡ t0 ++ reply_text set (Remasked given arrival))
unfolding reply_text came_text
waiting_written set given arrival t0 t1 (Ok x) is e1 =
    rw (is, e1) (ap (λ (text : List ℕ). t0 ++ (codes "remasked left " ++ text)) (then_spaced set arrival))
waiting_written set given arrival t0 t1 (Err x) is e1 = tt

pub moved_written : {E : Type 0} (set : SetData) (moved : Option Moved) (some : Moved) (t0 t1 t2 t3 : List ℕ)
    (r : Result (Unit {0}) E) → moved ≡ Some some → t1 ≡ t0 ++ codes "off " → t2 ≡ t1 ++ name_of set some.task
    → OnOk r (t3 ≡ t2 ++ (codes " then " ++ came_text set some.came))
    → OnOk r (t3 ≡ t0 ++ reply_text set (Off moved))
unfolding reply_text
moved_written set moved some t0 t1 t2 t3 (Ok x) is e1 e2 e3 =
    rw (is, e3) (before_then set t0 t2 (codes "off") (name_of set some.task ∷ []) some.came
    (e2 ∙ ap (λ (text : List ℕ). text ++ name_of set some.task) e1
    ∙ append_assoc t0 (codes "off ") (name_of set some.task)))
moved_written set moved some t0 t1 t2 t3 (Err x) is e1 e2 e3 = tt

pub unmoved_written : {E : Type 0} (set : SetData) (moved : Option Moved) (t0 t1 : List ℕ) (r : Result (Unit {0}) E)
    → moved ≡ None → OnOk r (t1 ≡ t0 ++ codes "off -") → OnOk r (t1 ≡ t0 ++ reply_text set (Off moved))
unfolding reply_text
unmoved_written set moved t0 t1 (Ok x) is e1 = rw (is, e1) refl
unmoved_written set moved t0 t1 (Err x) is e1 = tt

-- ---- lines

entry_pieces : (old a b c d e f : List ℕ) → old ++ a ++ b ++ c ++ d ++ e ++ f ≡ old ++ (a ++ b ++ c ++ d ++ e ++ f)
entry_pieces old a b c d e f = simp append_assoc

pub entry_written : (set : SetData) (entry : Entry) (t0 t1 t2 t3 t4 t5 t6 : List ℕ) → t1 ≡ t0
    ++ canonical_number entry.caller → t2 ≡ t1 ++ 32 ∷ [] → t3 ≡ t2 ++ event_text set entry.event → t4 ≡ t3
    ++ 32 ∷ []
    → t5 ≡ t4 ++ reply_text set entry.reply → t6 ≡ t5 ++ 10 ∷ [] → t6 ≡ t0 ++ entry_line set entry
unfolding entry_line
entry_written set entry t0 t1 t2 t3 t4 t5 t6 e1 e2 e3 e4 e5 e6 =
    rw (e6, e5, e4, e3, e2, e1)
    (entry_pieces t0 (canonical_number entry.caller) (codes " ") (event_text set entry.event) (codes " ")
    (reply_text set entry.reply) (10 ∷ []))

context_pieces : (old a b c d e f g h i j k l : List ℕ) → old ++ a ++ (b ++ c) ++ (d ++ e) ++ (f ++ g) ++ h ++ i
    ++ (j ++ k) ++ l ≡ old ++ ((a ++ (b ++ (c ++ (d ++ (e ++ (f ++ (g ++ (h ++ (i ++ (j ++ k)))))))))) ++ l)
context_pieces old a b c d e f g h i j k l = simp append_assoc

pub context_written : (set : SetData) (context : Context) (t0 t1 t2 t3 t4 t5 t6 t7 t8 : List ℕ) → t1 ≡ t0
    ++ name_of set context.task → t2 ≡ t1 ++ (codes " units " ++ canonical_number context.units) → t3 ≡ t2
    ++ (codes " stints " ++ canonical_number context.stints)
    → t4 ≡ t3 ++ (codes " moves " ++ canonical_number context.moves) → t5 ≡ t4 ++ codes " last " → t6 ≡ t5
    ++ number_text context.last → t7 ≡ t6 ++ (codes " trail " ++ canonical_number context.trail) → t8 ≡ t7 ++ 10
    ∷ [] → t8 ≡ t0 ++ context_line set context
unfolding context_line
context_written set context t0 t1 t2 t3 t4 t5 t6 t7 t8 e1 e2 e3 e4 e5 e6 e7 e8 =
    rw (e8, e7, e6, e5, e4, e3, e2, e1)
    (context_pieces t0 (name_of set context.task) (codes " units ") (canonical_number context.units)
    (codes " stints ") (canonical_number context.stints) (codes " moves ") (canonical_number context.moves)
    (codes " last ") (number_text context.last) (codes " trail ") (canonical_number context.trail) (10 ∷ []))

-- ---- the whole

pub schedule_written : (version : ℕ) (set : SetData) (entries : List Entry) (contexts : List Context)
    (t0 t1 t2 t3 t4 t5 t6 t7 t8 : List ℕ) → t0 ≡ [] → t1 ≡ t0 ++ line (header version) → t2 ≡ t1 ++ processors_line set
    → t3 ≡ t2 ++ flat_map task_line set.tasks → t4 ≡ t3 ++ line (codes "history " ++ canonical_number (length entries))
    → t5 ≡ t4 ++ flat_map (entry_line set) entries
    → t6 ≡ t5 ++ line (codes "contexts " ++ canonical_number (length contexts))
    → t7 ≡ t6 ++ flat_map (context_line set) contexts → t8 ≡ t7 ++ line (codes "end") → t8
    ≡ schedule_text version set entries contexts
unfolding schedule_text
schedule_written version set entries contexts t0 t1 t2 t3 t4 t5 t6 t7 t8 e0 e1 e2 e3 e4 e5 e6 e7 e8 =
    rw (e8, e7, e6, e5, e4, e3, e2, e1, e0) refl
