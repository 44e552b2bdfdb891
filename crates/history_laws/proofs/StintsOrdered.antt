-- The stints in the orders of one processor: those that ended, and the one that is under way, entry by entry.
use Rattle.std.proofs.Common.{◌≡◌, ◌≢◌, ℕ, Bool, true, false, ◌==◌, List, [], ◌∷◌, ◌++◌, length, fold, Option, Some, None, refl, sym, ap}
use Rattle.std.proofs.Common.{◌∙◌, eq-eqb, ne_eqb, if◌then◌else◌}
use Rattle.std.specs.Prelude.{option_to_list}
use Rattle.std.specs.Option.{option_map}
use Rattle.std.proofs.lemmas.List.Sums.{fold-append}
use Rattle.task_set.specs.declared.event.Event.{Event}
use Rattle.task_set.specs.declared.event.Event.TheVariants.{Tick}
use Rattle.task_set.specs.declared.order.Order.{Order}
use Rattle.task_set.specs.declared.order.Order.TheVariants.{Release, Take}
use Rattle.task_set.specs.Orders.{held_after, Stint, stint_after, stints_from, stints_in, stint_under_way}
use Rattle.task_set.proofs.Stints.{stints_from-append, task_held-stint_under_way}
use Rattle.strong_apa.specs.declared.reply.Entry.{Entry}
use Rattle.strong_apa.specs.State.{State, task_on}
use Rattle.strong_apa.specs.History.{effect_of, state_after}
use Rattle.strong_apa.specs.Dispatch.{is_same_occupant, change_orders, tick_orders, orders_of, processors_of}
use Rattle.strong_apa.proofs.Histories.{orders_of-push, entry_orders}
use Rattle.history_laws.proofs.OrderLists.{held-orders_from, close_orders}
use Rattle.history_laws.proofs.StintsOfTask.{own}

-- ---- the stint under way
abbrev pub task_of : Option Stint → Option ℕ
task_of under_way = option_map (λ (s : Stint). s.task) under_way

-- the stint that is under way on p after a history
abbrev pub under_way_on : State → List Entry → ℕ → Option Stint
under_way_on start history p = stint_under_way p (orders_of start history p)

-- the stint under way is of the task that is linked
pub task_of-under_way : (start : State) → ((q : ℕ) → task_on start q ≡ None) → (history : List Entry) (p : ℕ)
    → task_of (under_way_on start history p) ≡ task_on (state_after start history) p
task_of-under_way start idle history p =
    sym (task_held-stint_under_way p (orders_of start history p))
    ∙ ap (λ held. fold held_after held (orders_of start history p)) (sym (idle p))
    ∙ held-orders_from start (λ t. 0) history p

-- a stint that begins: it has no units yet
abbrev pub begun : ℕ → (ℕ → ℕ) → ℕ → Stint
begun p takes t = record { task = t; number = takes t; processor = p; units = [] }

-- ---- the orders at a change of the occupant
change_stints : (p : ℕ) (takes : ℕ → ℕ) (under_way : Option Stint) (new : Option ℕ)
    → stints_from p under_way (change_orders takes (task_of under_way) new)
    ≡ (if is_same_occupant (task_of under_way) new then [] else option_to_list under_way)
change_stints p takes None None = refl
change_stints p takes None (Some b) = refl
change_stints p takes (Some stint) None = refl
change_stints p takes (Some stint) (Some b) = by (stint.task == b)
  where
    by : (same : Bool) → stints_from p (Some stint) (if same then [] else Release stint.task ∷ Take b (takes b) ∷ [])
        ≡ (if same then [] else stint ∷ [])
    by true = refl
    by false = refl

change_under_way : (p : ℕ) (takes : ℕ → ℕ) (under_way : Option Stint) (new : Option ℕ)
    → fold (stint_after p) under_way (change_orders takes (task_of under_way) new)
    ≡ (if is_same_occupant (task_of under_way) new then under_way else option_map (begun p takes) new)
change_under_way p takes None None = refl
change_under_way p takes None (Some b) = refl
change_under_way p takes (Some stint) None = refl
change_under_way p takes (Some stint) (Some b) = by (stint.task == b)
  where
    by : (same : Bool) → fold (stint_after p) (Some stint) (if same then [] else Release stint.task ∷ Take b (takes b) ∷ [])
        ≡ (if same then Some stint else Some (begun p takes b))
    by true = refl
    by false = refl

-- ---- the occupants, and the task t
same_occupant-leaves : (old new : Option ℕ) (t : ℕ) → old ≡ Some t → new ≢ Some t → is_same_occupant old new ≡ false
same_occupant-leaves None new t is other = cc
same_occupant-leaves (Some a) None t is other = refl
same_occupant-leaves (Some a) (Some b) t is other = ne_eqb a b (λ e. other (ap Some (sym e) ∙ is))

same_occupant-comes : (old new : Option ℕ) (t : ℕ) → new ≡ Some t → old ≢ Some t → is_same_occupant old new ≡ false
same_occupant-comes old None t is other = cc
same_occupant-comes None (Some b) t is other = refl
same_occupant-comes (Some a) (Some b) t is other = ne_eqb a b (λ e. other (ap Some e ∙ is))

-- a stint of another task is none of t's
pub own-other : (t : ℕ) (under_way : Option Stint) → task_of under_way ≢ Some t → own t (option_to_list under_way) ≡ []
own-other t None other = refl
own-other t (Some stint) other = rw (ne_eqb stint.task t (λ e. other (ap Some e))) refl

pub own-one : (t : ℕ) (stint : Stint) → stint.task ≡ t → own t (stint ∷ []) ≡ stint ∷ []
own-one t stint e = rw (eq-eqb stint.task t e) refl

-- ---- what an entry makes of one processor, where `under_way` is of its occupant `old`
module _ (p t : ℕ) (takes : ℕ → ℕ) (under_way : Option Stint) (old new : Option ℕ) (held : task_of under_way ≡ old) where
  -- t was not linked here: no stint of it ends
  pub ended-other : old ≢ Some t → own t (stints_from p under_way (change_orders takes old new)) ≡ []
  ended-other other = rw (← held) (ap (own t) (change_stints p takes under_way new) ∙ by (is_same_occupant (task_of under_way) new))
    where
      by : (same : Bool) → own t (if same then [] else option_to_list under_way) ≡ []
      by true = refl
      by false = own-other t under_way (λ e. other (sym held ∙ e))

  -- t stays: no stint ends here
  pub ended-stays : old ≡ Some t → new ≡ Some t → stints_from p under_way (change_orders takes old new) ≡ []
  ended-stays was is = rw (was, is, eq-eqb t t refl) refl

  -- and its stint goes on
  pub under_way-stays : old ≡ Some t → new ≡ Some t → fold (stint_after p) under_way (change_orders takes old new) ≡ under_way
  under_way-stays was is = rw (was, is, eq-eqb t t refl) refl

  -- t leaves: its stint ends
  pub ended-leaves : (stint : Stint) → under_way ≡ Some stint → stint.task ≡ t → old ≡ Some t → new ≢ Some t
      → own t (stints_from p under_way (change_orders takes old new)) ≡ stint ∷ []
  ended-leaves stint it task was leaves =
      let apart : is_same_occupant (task_of under_way) new ≡ false = same_occupant-leaves (task_of under_way) new t (held ∙ was) leaves in
      let all : own t (stints_from p under_way (change_orders takes (task_of under_way) new)) ≡ stint ∷ [] =
      ap (own t) (change_stints p takes under_way new ∙ ap (λ (same : Bool). if same then [] else option_to_list under_way) apart)
      ∙ ap (λ (w : Option Stint). own t (option_to_list w)) it
      ∙ own-one t stint task in
      rw (← held) all

  -- t comes: a stint begins
  pub under_way-comes : new ≡ Some t → old ≢ Some t → fold (stint_after p) under_way (change_orders takes old new) ≡ Some (begun p takes t)
  under_way-comes is comes =
      let apart : is_same_occupant (task_of under_way) new ≡ false = same_occupant-comes (task_of under_way) new t is
      (λ e. comes (sym held ∙ e)) in
      let all : fold (stint_after p) under_way (change_orders takes (task_of under_way) new) ≡ Some (begun p takes t) =
      change_under_way p takes under_way new
      ∙ ap (λ (same : Bool). if same then under_way else option_map (begun p takes) new) apart
      ∙ ap (option_map (begun p takes)) is in
      rw (← held) all

-- a tick ends no stint
pub ended-tick : (p : ℕ) (under_way : Option Stint) (event : Event) (occupant : Option ℕ)
    → stints_from p under_way (tick_orders event occupant) ≡ []
ended-tick p under_way (Tick units) None = refl
ended-tick p under_way (Tick units) (Some t) = refl
ended-tick p under_way event occupant = refl

-- the orders after the close end the stint that is under way
pub ended-close : (p : ℕ) (under_way : Option Stint) (occupant : Option ℕ) → task_of under_way ≡ occupant
    → stints_from p under_way (close_orders occupant) ≡ option_to_list under_way
ended-close p None occupant held = rw (← held) refl
ended-close p (Some stint) occupant held = rw (← held) refl

-- ---- one more entry
-- how often t was taken by a history
abbrev pub times_taken : State → List Entry → ℕ → ℕ
times_taken start history t = length (processors_of start history t)

-- the state after one entry more, and the orders of p by it
abbrev pub next_state : State → List Entry → Entry → State
next_state start history entry = effect_of (state_after start history) entry

abbrev pub next_orders : State → List Entry → Entry → ℕ → List Order
next_orders start history entry p = entry_orders (state_after start history) (times_taken start history) entry p

pub ended-push : (start : State) (history : List Entry) (entry : Entry) (p : ℕ) → stints_in p (orders_of start (history ++ entry ∷ []) p)
    ≡ stints_in p (orders_of start history p) ++ stints_from p (under_way_on start history p) (next_orders start history entry p)
ended-push start history entry p =
    ap (stints_in p) (orders_of-push start history entry p) ∙ stints_from-append p None (orders_of start history p) _

pub under_way-push : (start : State) (history : List Entry) (entry : Entry) (p : ℕ)
    → under_way_on start (history ++ entry ∷ []) p ≡ fold (stint_after p) (under_way_on start history p) (next_orders start history entry p)
under_way-push start history entry p =
    ap (stint_under_way p) (orders_of-push start history entry p) ∙ fold-append (stint_after p) None (orders_of start history p) _
