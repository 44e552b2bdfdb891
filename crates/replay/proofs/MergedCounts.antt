-- A merge of events has as many entries as there are events, and what holds of each event holds of each entry's.
use Rattle.std.proofs.Common.{◌≡◌, ℕ, zero, suc, ◌+◌, ◌<◌, ◌≤◌, ◌==◌, Bool, true, false, cond, List, [], ◌∷◌, length, get_or, map, filter}
use Rattle.std.proofs.Common.{All, refl, sym, ap, ◌∙◌, subst, inl, inr, arith, eq-eqb, ne_eqb, eqb-true}
use Rattle.std.proofs.lemmas.Bool.{cases_eq, false≢true}
use Rattle.std.proofs.lemmas.List.{length-map}
use Rattle.std.proofs.lemmas.List.Elements.{All-nil, All-cons, All-head, All-tail, All-map, All-contains, All-weaker}
use Rattle.task_set.specs.TaskSet.{SetData}
use Rattle.task_set.specs.declared.event.Event.{Event}
use Rattle.strong_apa.specs.declared.reply.Entry.{Entry}
use Rattle.trace_reader.specs.declared.posted.Posted.{Posted}
use Rattle.text_fields.specs.EventText.{IsAboutSet}
use Rattle.trace_reader.specs.Input.{IsPostedOf}
use Rattle.event_history.specs.Merging.{events_of_caller}
use Rattle.replay.specs.Merge.{posted_of, events_of_stream, streams_of, IsMerge}

-- ---- a list by the numbers of its elements
-- the sum of a function over the numbers below n
abbrev sum_below : (ℕ → ℕ) → ℕ → ℕ
sum_below f zero = 0
sum_below f (suc n) = sum_below f n + f n

sum_below-none : (n : ℕ) → sum_below (λ s. 0) n ≡ 0
sum_below-none zero = refl
sum_below-none (suc n) = let rest = sum_below-none n in omega arith

sum_below-same : (f g : ℕ → ℕ) → ((s : ℕ) → f s ≡ g s) → (n : ℕ) → sum_below f n ≡ sum_below g n
sum_below-same f g same zero = refl
sum_below-same f g same (suc n) = let rest = sum_below-same f g same n in let here = same n in omega arith

-- a function that is larger by one at k alone: past k, and up to k
sum_below-more : (f g : ℕ → ℕ) (k : ℕ) → f k ≡ suc (g k) → ((s : ℕ) → (s ≡ k → ⊥) → f s ≡ g s) → (n : ℕ)
    → (k < n → sum_below f n ≡ suc (sum_below g n)) × (n ≤ k → sum_below f n ≡ sum_below g n)
sum_below-more f g k there elsewhere zero = ((λ lt. absurd (omega arith)), (λ le. refl))
sum_below-more f g k there elsewhere (suc n) = past_and_upto (sum_below-more f g k there elsewhere n)
  where
    past_and_upto : (k < n → sum_below f n ≡ suc (sum_below g n)) × (n ≤ k → sum_below f n ≡ sum_below g n)
        → (k < suc n → sum_below f n + f n ≡ suc (sum_below g n + g n)) × (suc n ≤ k → sum_below f n + f n ≡ sum_below g n + g n)
    past_and_upto rest = (
      (λ lt. elim (cases_eq n k) [
        | inl same ↦ (let before = rest.1 (omega arith) in let at : f n ≡ suc (g n) = rw same there in omega arith)
        | inr other ↦ (let before = rest.0 (omega arith) in let at = elsewhere n other in omega arith)
      ]),
      (λ le. let before = rest.1 (omega arith) in let at = elsewhere n (omega arith) in omega arith),
    )

-- the elements with this number
abbrev numbered : {X : Type 0} → (X → ℕ) → ℕ → List X → List X
numbered number s xs = filter (λ x. number x == s) xs

-- a list of which all numbers are below n is as long as its parts with the numbers below n
length_by_number : {X : Type 0} (number : X → ℕ) (n : ℕ) (xs : List X) → All (λ x. number x < n) xs
    → length xs ≡ sum_below (λ s. length (numbered number s xs)) n
length_by_number number n [] all = sym (sum_below-none n)
length_by_number number n (x ∷ xs) all =
    let rest = length_by_number number n xs (All-tail (λ y. number y < n) x xs all) in
    let more = sum_below-more (λ s. length (numbered number s (x ∷ xs))) (λ s. length (numbered number s xs)) (number x)
    (rw (eq-eqb (number x) (number x) refl) refl)
    (λ s other. rw (ne_eqb (number x) s (λ e. other (sym e))) refl) n in
    ap suc rest ∙ sym (more.0 (All-head (λ y. number y < n) x xs all))

-- ---- a merge
-- the callers are streams
callers_below : (n : ℕ) (events : List Posted) (history : List Entry) → All (λ (p : Posted). p.stream < n) events → IsMerge events history
    → All (λ (e : Entry). e.caller < n) history
callers_below n events history below merge = λ k d within. All-contains (λ (s : ℕ). s < n) (streams_of events) (get_or history k d).caller
    (All-map (λ (s : ℕ). s < n) (λ (p : Posted). p.stream) events below) (merge.callers k d within)

same_part : (events : List Posted) (history : List Entry) (s : ℕ) → IsMerge events history
    → length (numbered (λ (e : Entry). e.caller) s history) ≡ length (numbered (λ (p : Posted). p.stream) s events)
same_part events history s merge =
    sym (length-map (numbered (λ (e : Entry). e.caller) s history) (λ (e : Entry). e.event))
    ∙ ap (λ (es : List Event). length es) (merge.each_stream s)
    ∙ length-map (numbered (λ (p : Posted). p.stream) s events) (λ (p : Posted). p.event)

-- the history of a merge has an entry for each event
pub merge_length : (events : List Posted) (history : List Entry) → All (λ (p : Posted). p.stream < 16) events → IsMerge events history
    → length history ≡ length events
merge_length events history below merge =
    length_by_number (λ (e : Entry). e.caller) 16 history (callers_below 16 events history below merge)
    ∙ sum_below-same (λ s. length (numbered (λ (e : Entry). e.caller) s history))
    (λ s. length (numbered (λ (p : Posted). p.stream) s events)) (λ s. same_part events history s merge) 16
    ∙ sym (length_by_number (λ (p : Posted). p.stream) 16 events below)

-- P holds of an event on this stream
abbrev OnStream : (Posted → Type 0) → ℕ → Event → Type 0
OnStream P s event = P (record { stream = s; event = event })

-- what holds of each event holds of the events of a stream, on that stream
all_of_stream : (P : Posted → Type 0) (s : ℕ) (events : List Posted) → All P events → All (OnStream P s) (events_of_stream s events)
all_of_stream P s [] all = All-nil (OnStream P s)
all_of_stream P s (posted ∷ events) all = go (posted.stream == s) refl (all_of_stream P s events (All-tail P posted events all))
  where
    go : (b : Bool) → (posted.stream == s) ≡ b → All (OnStream P s) (events_of_stream s events)
        → All (OnStream P s) (map (λ (p : Posted). p.event)
        (cond b (posted ∷ numbered (λ (p : Posted). p.stream) s events) (numbered (λ (p : Posted). p.stream) s events)))
    go true e later = All-cons (OnStream P s) posted.event (events_of_stream s events)
        (subst (λ (n : ℕ). OnStream P n posted.event) (eqb-true posted.stream s e) (All-head P posted events all)) later
    go false e later = later

-- Q holds of the event of an entry of this caller
abbrev OfCaller : (Event → Type 0) → ℕ → Entry → Type 0
OfCaller Q s entry = entry.caller ≡ s → Q entry.event

-- what holds of the events of a caller holds of the event of each of its entries
all_of_caller : (Q : Event → Type 0) (s : ℕ) (history : List Entry) → All Q (events_of_caller s history) → All (OfCaller Q s) history
all_of_caller Q s [] all = All-nil (OfCaller Q s)
all_of_caller Q s (entry ∷ history) all = go (entry.caller == s) refl all (all_of_caller Q s history)
  where
    go : (b : Bool) → (entry.caller == s) ≡ b
        → All Q (map (λ (e : Entry). e.event) (cond b (entry ∷ numbered (λ (e : Entry). e.caller) s history)
        (numbered (λ (e : Entry). e.caller) s history)))
        → (All Q (events_of_caller s history) → All (OfCaller Q s) history) → All (OfCaller Q s) (entry ∷ history)
    go true e here later = All-cons (OfCaller Q s) entry history (λ same. All-head Q entry.event (events_of_caller s history) here)
        (later (All-tail Q entry.event (events_of_caller s history) here))
    go false e here later =
        All-cons (OfCaller Q s) entry history (λ same. absurd (false≢true (sym e ∙ eq-eqb entry.caller s same))) (later here)

-- what holds of each event, on its stream, holds of the event of each entry, on its caller
pub merge_posted : (P : Posted → Type 0) (events : List Posted) (history : List Entry) → All P events → IsMerge events history
    → All (λ (e : Entry). P (posted_of e)) history
merge_posted P events history all merge = λ k d within.
    let s = (get_or history k d).caller in
    all_of_caller (OnStream P s) s history (subst (λ (es : List Event). All (OnStream P s) es) (sym (merge.each_stream s))
    (all_of_stream P s events all)) k d within refl

-- each entry of a merge of an input's events is about the set
pub about_merged : (set : SetData) (events : List Posted) (history : List Entry) → All (IsPostedOf set) events → IsMerge events history
    → All (λ (entry : Entry). IsAboutSet set entry.event) history
about_merged set events history posted merge =
    All-weaker (λ (entry : Entry). IsPostedOf set (posted_of entry)) (λ (entry : Entry). IsAboutSet set entry.event)
    (λ entry at. at.event.0) history (merge_posted (IsPostedOf set) events history posted merge)
