-- A merge of events on one stream has just one order: theirs.
use Rattle.std.proofs.Common.{◌≡◌, ℕ, ◌<◌, ◌==◌, true, List, [], ◌∷◌, map, filter, length, get_or, All, refl, sym, ap, ◌∙◌, subst, arith}
use Rattle.std.proofs.lemmas.List.{get_or-map, length-map}
use Rattle.std.proofs.lemmas.List.Elements.{All-head, All-tail}
use Rattle.strong_apa.specs.declared.reply.Entry.{Entry}
use Rattle.history_laws.specs.StepLaws.{caller_and_event}
use Rattle.trace_reader.specs.declared.posted.Posted.{Posted}
use Rattle.replay.specs.Merge.{posted_of, IsMerge}

-- a filter that all elements pass keeps them all
filter_passed : {X : Type 0} (number : X → ℕ) (stream : ℕ) (xs : List X) → All (λ x. number x ≡ stream) xs
    → filter (λ x. number x == stream) xs ≡ xs
filter_passed number stream [] all = refl
filter_passed number stream (x ∷ xs) all =
    let passes : (number x == stream) ≡ true = grind (arith, All-head (λ y. number y ≡ stream) x xs all) in
    rw passes (ap (λ rest. x ∷ rest) (filter_passed number stream xs (All-tail (λ y. number y ≡ stream) x xs all)))

-- each entry of a merge is of that stream
pub callers_same : (stream : ℕ) (events : List Posted) (history : List Entry) → All (λ (p : Posted). p.stream ≡ stream) events
    → IsMerge events history → All (λ (e : Entry). e.caller ≡ stream) history
callers_same stream events history one merge k d within =
    let found = merge.callers k d within in
    let fits : found.0 < length events = subst (λ (n : ℕ). found.0 < n) (length-map events (λ (p : Posted). p.stream)) found.1 in
    let of_caller : Posted = record { stream = (get_or history k d).caller; event = (get_or history k d).event } in
    sym found.2 ∙ get_or-map (λ (p : Posted). p.stream) events found.0 of_caller _ fits ∙ one found.0 of_caller fits

-- so its events are those events, in their order
pub events_same : (stream : ℕ) (events : List Posted) (history : List Entry) → All (λ (p : Posted). p.stream ≡ stream) events
    → IsMerge events history → map (λ (e : Entry). e.event) history ≡ map (λ (p : Posted). p.event) events
events_same stream events history one merge =
    ap (map (λ (e : Entry). e.event)) (sym (filter_passed (λ (e : Entry). e.caller) stream history
    (callers_same stream events history one merge)))
    ∙ merge.each_stream stream
    ∙ ap (map (λ (p : Posted). p.event)) (filter_passed (λ (p : Posted). p.stream) stream events one)

-- and two such histories are of the same callers and events
pub pairs_same : (stream : ℕ) (history other : List Entry) → All (λ (e : Entry). e.caller ≡ stream) history
    → All (λ (e : Entry). e.caller ≡ stream) other → map (λ (e : Entry). e.event) history ≡ map (λ (e : Entry). e.event) other
    → map caller_and_event history ≡ map caller_and_event other
pairs_same stream [] [] one two same = refl
pairs_same stream [] (e ∷ other) one two same = absurd (cc)
pairs_same stream (e ∷ history) [] one two same = absurd (cc)
pairs_same stream (e ∷ history) (f ∷ other) one two same =
    let here : e.event ≡ f.event = cc in
    let later : map (λ (e : Entry). e.event) history ≡ map (λ (e : Entry). e.event) other = cc in
    let rest = pairs_same stream history other (All-tail (λ (e : Entry). e.caller ≡ stream) e history one)
    (All-tail (λ (e : Entry). e.caller ≡ stream) f other two) later in
    let first : e.caller ≡ stream = All-head (λ (e : Entry). e.caller ≡ stream) e history one in
    let second : f.caller ≡ stream = All-head (λ (e : Entry). e.caller ≡ stream) f other two in
    rw (first, second, here, rest) refl

-- on one stream an event is its posted one
one_posted : (stream : ℕ) (entry : Entry) (posted : Posted) → entry.caller ≡ stream → posted.stream ≡ stream → entry.event ≡ posted.event
    → posted_of entry ≡ posted
one_posted stream entry posted one other events = λ k. record { stream = (one ∙ sym other) k; event = events k }

all_posted : (stream : ℕ) (history : List Entry) (events : List Posted) → All (λ (e : Entry). e.caller ≡ stream) history
    → All (λ (p : Posted). p.stream ≡ stream) events → map (λ (e : Entry). e.event) history ≡ map (λ (p : Posted). p.event) events
    → map posted_of history ≡ events
all_posted stream [] [] one two same = refl
all_posted stream [] (p ∷ events) one two same = absurd (cc)
all_posted stream (e ∷ history) [] one two same = absurd (cc)
all_posted stream (e ∷ history) (p ∷ events) one two same =
    let here : e.event ≡ p.event = cc in
    let later : map (λ (e : Entry). e.event) history ≡ map (λ (p : Posted). p.event) events = cc in
    let rest = all_posted stream history events (All-tail (λ (e : Entry). e.caller ≡ stream) e history one)
    (All-tail (λ (p : Posted). p.stream ≡ stream) p events two) later in
    let first = one_posted stream e p (All-head (λ (e : Entry). e.caller ≡ stream) e history one)
    (All-head (λ (p : Posted). p.stream ≡ stream) p events two) here in
    λ k. first k ∷ rest k

-- so a merge of events on one stream has them in their order
pub merge_in_order : (stream : ℕ) (events : List Posted) (history : List Entry) → All (λ (p : Posted). p.stream ≡ stream) events
    → IsMerge events history → map posted_of history ≡ events
merge_in_order stream events history one merge =
    all_posted stream history events (callers_same stream events history one merge) one (events_same stream events history one merge)
