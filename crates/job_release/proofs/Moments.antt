-- The states of single moments, as a history grows: an entry changes no moment before its own, and a tick changes none.
use Rattle.std.proofs.Common.{◌≡◌, ℕ, zero, suc, ◌+◌, ◌<◌, ◌≤◌, Bool, true, false, List, [], ◌∷◌, ◌++◌, length, nat_le, take, if◌then◌else◌}
use Rattle.std.proofs.Common.{refl, sym, ap, ◌∙◌, inl, inr, arith, append_assoc, append-nil}
use Rattle.std.proofs.lemmas.Bool.{cases_Bool, true≢false}
use Rattle.std.proofs.lemmas.Bool.Decides.{nat_tests}
use Rattle.std.proofs.lemmas.List.Sums.{sum_by-cons, sum_by_push}
use Rattle.task_set.specs.declared.event.Event.{Event}
use Rattle.task_set.specs.declared.event.Event.TheVariants.{Arrive, Depart, Tick, Affinity, Offline, Online}
use Rattle.strong_apa.specs.declared.reply.Reply.{Reply}
use Rattle.strong_apa.specs.declared.reply.Entry.{Entry}
use Rattle.strong_apa.specs.State.{State, is_linked}
use Rattle.strong_apa.specs.History.{state_after, state_after_reply, effect_of}
use Rattle.strong_apa.proofs.Counts.{count_below-agree, count_below-more, count_below-same, count_below-zero, count_below-bound}
use Rattle.job_release.specs.Moments.{is_tick, units_of, elapsed, change_by, changes_by, Timeline, state_of_moment, service_of}

abbrev units : Entry → ℕ
units entry = units_of entry.event

-- ---- one more entry
pub tick_changes_nothing : (s : State) (event : Event) (reply : Reply) → is_tick event ≡ true → state_after_reply s event reply ≡ s
tick_changes_nothing s (Tick units) reply tick = refl
tick_changes_nothing s (Arrive t) reply tick = absurd (true≢false (sym tick))
tick_changes_nothing s (Depart t) reply tick = absurd (true≢false (sym tick))
tick_changes_nothing s (Affinity t mask) reply tick = absurd (true≢false (sym tick))
tick_changes_nothing s (Offline p) reply tick = absurd (true≢false (sym tick))
tick_changes_nothing s (Online p) reply tick = absurd (true≢false (sym tick))

pub elapsed_push : (history : List Entry) (entry : Entry) → elapsed (history ++ entry ∷ []) ≡ elapsed history + units_of entry.event
elapsed_push history entry = sum_by_push units history entry

changes_push : (x m : ℕ) (history : List Entry) (entry : Entry) → changes_by x m (history ++ entry ∷ []) ≡ changes_by x m history
    ++ change_by x (m + elapsed history) entry
changes_push x m [] entry =
    let here : m + 0 ≡ m = omega arith in
    append-nil (change_by x m entry) ∙ ap (λ (k : ℕ). change_by x k entry) (sym here)
changes_push x m (first ∷ rest) entry =
    let later : m + units first + elapsed rest ≡ m + elapsed (first ∷ rest) = omega (arith, sum_by-cons units first rest) in
    ap (λ (more : List Entry). change_by x m first ++ more) (changes_push x (m + units first) rest entry)
    ∙ sym (append_assoc (change_by x m first) (changes_by x (m + units first) rest) _)
    ∙ ap (λ (k : ℕ). change_by x m first ++ changes_by x (m + units first) rest ++ change_by x k entry) later

pub change_of_tick : (x m : ℕ) (entry : Entry) → is_tick entry.event ≡ true → change_by x m entry ≡ []
change_of_tick x m entry tick = rw tick refl

change_after : (x m : ℕ) (entry : Entry) → x < m → change_by x m entry ≡ []
change_after x m entry later = by (is_tick entry.event)
  where
    not_by : nat_le m x ≡ false
    not_by = grind (arith, nat_tests)

    by : (tick : Bool) → (if tick then [] else (if nat_le m x then entry ∷ [] else [])) ≡ []
    by true = refl
    by false = rw not_by refl

state_without : (start : State) (history : List Entry) (entry : Entry) (x : ℕ) → change_by x (0 + elapsed history) entry ≡ []
    → state_of_moment start (history ++ entry ∷ []) x ≡ state_of_moment start history x
state_without start history entry x none =
    ap (state_after start) (changes_push x 0 history entry ∙ ap (λ (more : List Entry). changes_by x 0 history ++ more) none
    ∙ append-nil (changes_by x 0 history))

-- an entry changes no moment before its own
pub state_before : (start : State) (history : List Entry) (entry : Entry) (x : ℕ) → x < elapsed history
    → state_of_moment start (history ++ entry ∷ []) x ≡ state_of_moment start history x
state_before start history entry x before = state_without start history entry x (change_after x (0 + elapsed history) entry (omega arith))

-- a tick changes no moment
pub state_with_tick : (start : State) (history : List Entry) (entry : Entry) (x : ℕ) → is_tick entry.event ≡ true
    → state_of_moment start (history ++ entry ∷ []) x ≡ state_of_moment start history x
state_with_tick start history entry x tick = state_without start history entry x (change_of_tick x (0 + elapsed history) entry tick)

-- ---- from the last moment on, the state is that after the history
all_changes : (s : State) (x m : ℕ) (history : List Entry) → m + elapsed history ≤ x → state_after s (changes_by x m history)
    ≡ state_after s history
all_changes s x m [] within = refl
all_changes s x m (first ∷ rest) within =
    let sum = sum_by-cons units first rest in
    let later : m + units first + elapsed rest ≤ x = omega arith in
    elim (cases_Bool (is_tick first.event)) [
      | inl tick ↦ (
          let none = change_of_tick x m first tick in
          let still : effect_of s first ≡ s = tick_changes_nothing s first.event first.reply tick in
          ap (λ (now : List Entry). state_after s (now ++ changes_by x (m + units first) rest)) none
          ∙ all_changes s x (m + units first) rest later ∙ ap (λ (s' : State). state_after s' rest) (sym still))
      | inr change ↦ (
          let by : nat_le m x ≡ true = grind (arith, nat_tests) in
          let one : change_by x m first ≡ first ∷ [] = rw (change, by) refl in
          ap (λ (now : List Entry). state_after s (now ++ changes_by x (m + units first) rest)) one
          ∙ all_changes (effect_of s first) x (m + units first) rest later)
    ]

pub state_from : (start : State) (history : List Entry) (x : ℕ) → elapsed history ≤ x → state_of_moment start history x
    ≡ state_after start history
state_from start history x from = all_changes start x 0 history (omega arith)

-- ---- service
-- states that agree below a moment give the same service up to it
pub same_service : (one other : Timeline) (t x : ℕ) → ((y : ℕ) → y < x → one y ≡ other y) → service_of one t x ≡ service_of other t x
same_service one other t x agree = count_below-agree (λ y. is_linked (one y) t) (λ y. is_linked (other y) t) x
    (λ y below. ap (λ (s : State). is_linked s t) (agree y below))

pub no_service : (states : Timeline) (t : ℕ) → service_of states t 0 ≡ 0
no_service states t = count_below-zero (λ y. is_linked (states y) t)

-- a linked task gets one unit in each moment, and any other task gets none
pub service_while : (states : Timeline) (t m d : ℕ) (links : State) → ((y : ℕ) → m ≤ y → y < m + d → states y ≡ links)
    → service_of states t (m + d) ≡ service_of states t m + (if is_linked links t then d else 0)
service_while states t m zero links still = elim (cases_Bool (is_linked links t)) [
  | inl linked ↦ rw linked (let none : m + 0 ≡ m = omega arith in ap (service_of states t) none ∙ omega arith)
  | inr not_linked ↦ rw not_linked (let none : m + 0 ≡ m = omega arith in ap (service_of states t) none ∙ omega arith)
]
service_while states t m (suc d) links still =
    let before = service_while states t m d links (λ y from below. still y from (omega arith)) in
    let here : is_linked (states (m + d)) t ≡ is_linked links t = ap (λ (s : State). is_linked s t)
    (still (m + d) (omega arith) (omega arith)) in
    let next : m + suc d ≡ suc (m + d) = omega arith in
    elim (cases_Bool (is_linked links t)) [
      | inl linked ↦ (
          let one = count_below-more (λ y. is_linked (states y) t) (m + d) (here ∙ linked) in
          let so_far = rw linked at before in
          rw linked (ap (service_of states t) next ∙ one ∙ omega (arith, so_far)))
      | inr not_linked ↦ (
          let none = count_below-same (λ y. is_linked (states y) t) (m + d) (here ∙ not_linked) in
          let so_far = rw not_linked at before in
          rw not_linked (ap (service_of states t) next ∙ none ∙ so_far))
    ]

-- a task gets one unit at most in a moment
pub service_grows : (states : Timeline) (t x d : ℕ) → service_of states t (x + d) ≤ service_of states t x + d
service_grows states t x zero =
    let none : x + 0 ≡ x = omega arith in
    let same = ap (service_of states t) none in
    omega arith
service_grows states t x (suc d) =
    let before = service_grows states t x d in
    let next : x + suc d ≡ suc (x + d) = omega arith in
    let same = ap (service_of states t) next in
    elim (cases_Bool (is_linked (states (x + d)) t)) [
      | inl linked ↦ (let one = count_below-more (λ y. is_linked (states y) t) (x + d) linked in omega arith)
      | inr not_linked ↦ (let none = count_below-same (λ y. is_linked (states y) t) (x + d) not_linked in omega arith)
    ]

pub service_within : (states : Timeline) (t x : ℕ) → service_of states t x ≤ x
service_within states t x = count_below-bound (λ y. is_linked (states y) t) x

-- ---- the state of a moment is that after some of the entries
pub none_later : (x m : ℕ) (history : List Entry) → x < m → changes_by x m history ≡ []
none_later x m [] later = refl
none_later x m (first ∷ rest) later = rw (change_after x m first later) (none_later x (m + units first) rest (omega arith))

pub state_by_entries : (s : State) (history : List Entry) (x m : ℕ)
    → (n : ℕ) × (n ≤ length history) × (state_after s (changes_by x m history) ≡ state_after s (take n history))
state_by_entries s [] x m = (0, omega arith, refl)
state_by_entries s (first ∷ rest) x m = elim (cases_Bool (is_tick first.event)) [
  | inl tick ↦ (
      let later = state_by_entries s rest x (m + units first) in
      let none = change_of_tick x m first tick in
      let still : effect_of s first ≡ s = tick_changes_nothing s first.event first.reply tick in
      let fits = later.1 in (
        suc later.0,
        omega arith,
        ap (λ (now : List Entry). state_after s (now ++ changes_by x (m + units first) rest)) none ∙ later.2
            ∙ ap (λ (s' : State). state_after s' (take later.0 rest)) (sym still),
      ))
  | inr change ↦ elim (cases_Bool (nat_le m x)) [
    | inl by ↦ (
        let later = state_by_entries (effect_of s first) rest x (m + units first) in
        let one : change_by x m first ≡ first ∷ [] = rw (change, by) refl in
        let fits = later.1 in
        (suc later.0, omega arith, ap (λ (now : List Entry). state_after s (now ++ changes_by x (m + units first) rest)) one ∙ later.2))
    | inr not_by ↦ (
        let after : x < m = grind (arith, nat_tests) in
        (0, omega arith, ap (state_after s) (none_later x m (first ∷ rest) after)))
  ]
]
