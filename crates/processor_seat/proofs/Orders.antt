-- The orders that a hand obeyed, and one order more.
use Rattle.std.proofs.Common.{◌≡◌, ◌≢◌, ℕ, true, false, true≢false, Option, None, Some, List, [], ◌∷◌, ◌++◌, map, fold, refl, sym, ap}
use Rattle.std.proofs.Common.{subst, ◌∙◌, append_assoc, append-nil}
use Rattle.std.specs.List.{flat_map}
use Rattle.std.proofs.lemmas.List.{map-append}
use Rattle.std.proofs.lemmas.Grind.{flat_map-append}
use Rattle.std.specs.Prelude.{All}
use Rattle.std.proofs.lemmas.List.Elements.{All-nil, All-cons, All-head, All-tail, All-append}
use Rattle.task_set.specs.declared.order.Order.{Order}
use Rattle.task_set.specs.declared.order.Order.TheVariants.{Take, Release, Run, Stop}
use Rattle.task_set.specs.Orders.{MayCome, held_after, IsObeyable, NamesTaskBelow, Stint, has_stop, stint_orders, stints_in}
use Rattle.task_set.proofs.Obeyable.{MayCome-next}
use Rattle.task_set.proofs.Stints.{stints_in-flat_map}
use Rattle.context_slots.specs.declared.view.OpenStint.{OpenStint}
use Rattle.context_slots.specs.Hands.{HandData, closed, held_with_run, held_closed}
use Rattle.processor_seat.specs.declared.answer.Obeyed.{Obeyed}
use Rattle.processor_seat.specs.declared.answer.Obeyed.TheVariants.{Done, NotTurn}
use Rattle.processor_seat.specs.Obeying.{orders_under_way, orders_obeyed, held_task, Obeys, ObeyAnswer}
use Rattle.processor_seat.specs.ProcessorParts.{AllOn}

held-runs : (t : ℕ) (units : List ℕ) (more : List Order) → fold held_after (Some t) (map Run units ++ more) ≡ fold held_after (Some t) more
held-runs t [] more = refl
held-runs t (u ∷ units) more = held-runs t units more

held-stints : (stints : List Stint) (more : List Order) → fold held_after None (flat_map stint_orders stints ++ more)
    ≡ fold held_after None more
held-stints [] more = refl
held-stints (stint ∷ stints) more =
    ap (fold held_after None) (append_assoc (stint_orders stint) (flat_map stint_orders stints) more)
    ∙ ap (fold held_after (Some stint.task)) (append_assoc (map Run stint.units) (Release stint.task ∷ [])
    (flat_map stint_orders stints ++ more))
    ∙ held-runs stint.task stint.units (Release stint.task ∷ flat_map stint_orders stints ++ more)
    ∙ held-stints stints more

held-under : (holds : Option OpenStint) → fold held_after None (orders_under_way holds) ≡ held_task holds
held-under None = refl
held-under (Some stint) =
    ap (fold held_after (Some stint.task)) (sym (append-nil (map Run stint.units))) ∙ held-runs stint.task stint.units []

-- after what the hand obeyed it holds what it holds
pub held-obeyed : (hand : HandData) → fold held_after None (orders_obeyed hand) ≡ held_task hand.holds
held-obeyed hand = held-stints hand.ended (orders_under_way hand.holds) ∙ held-under hand.holds

-- an order that makes an obeyable list may come
pub may_come : (hand : HandData) (order : Order) → IsObeyable (orders_obeyed hand ++ order ∷ []) → MayCome (held_task hand.holds) order
may_come hand order h = subst (λ (held : Option ℕ). MayCome held order) (held-obeyed hand) (MayCome-next None (orders_obeyed hand) order h)

free-stop : (holds : Option OpenStint) → MayCome (held_task holds) Stop → holds ≡ None
free-stop None h = refl
free-stop (Some stint) h = absurd h

-- where Stop may come, the hand holds nothing
pub free_at_stop : (hand : HandData) → IsObeyable (orders_obeyed hand ++ Stop ∷ []) → hand.holds ≡ None
free_at_stop hand h = free-stop hand.holds (may_come hand Stop h)

obeyed-take : (before : List Order) (holds : Option OpenStint) (t k : ℕ) → MayCome (held_task holds) (Take t k)
    → before ++ Take t k ∷ [] ≡ (before ++ orders_under_way holds) ++ Take t k ∷ []
obeyed-take before None t k may = ap (λ (l : List Order). l ++ Take t k ∷ []) (sym (append-nil before))
obeyed-take before (Some stint) t k may = absurd may

obeyed-run : (before : List Order) (holds : Option OpenStint) (u : ℕ) → MayCome (held_task holds) (Run u)
    → before ++ orders_under_way (held_with_run holds u) ≡ (before ++ orders_under_way holds) ++ Run u ∷ []
obeyed-run before None u may = absurd may
obeyed-run before (Some stint) u may =
    ap (λ (runs : List Order). before ++ Take stint.task stint.number ∷ runs) (map-append Run stint.units (u ∷ []))
    ∙ sym (append_assoc before (orders_under_way (Some stint)) (Run u ∷ []))

obeyed-release : (p : ℕ) (stints : List Stint) (holds : Option OpenStint) (t : ℕ) → MayCome (held_task holds) (Release t)
    → flat_map stint_orders (stints ++ held_closed p holds) ++ [] ≡ (flat_map stint_orders stints ++ orders_under_way holds) ++ Release t
    ∷ []
obeyed-release p stints None t may = absurd may
obeyed-release p stints (Some stint) t may =
    append-nil (flat_map stint_orders (stints ++ closed p stint ∷ []))
    ∙ flat_map-append stint_orders stints (closed p stint ∷ [])
    ∙ ap (λ (l : List Order). flat_map stint_orders stints ++ l) (append-nil (stint_orders (closed p stint)))
    ∙ ap (λ (task : ℕ). flat_map stint_orders stints ++ (orders_under_way (Some stint) ++ Release task ∷ [])) may
    ∙ sym (append_assoc (flat_map stint_orders stints) (orders_under_way (Some stint)) (Release t ∷ []))

-- what was obeyed, after one order more
pub obeyed_more : (order : Order) (old new : HandData) → MayCome (held_task old.holds) order → Obeys order old new
    → orders_obeyed new ≡ orders_obeyed old ++ order ∷ []
obeyed_more (Take t k) old new may h = ap orders_obeyed h.2 ∙ obeyed-take (flat_map stint_orders old.ended) old.holds t k may
obeyed_more (Run u) old new may h = ap orders_obeyed h ∙ obeyed-run (flat_map stint_orders old.ended) old.holds u may
obeyed_more (Release t) old new may h = ap orders_obeyed h ∙ obeyed-release old.number old.ended old.holds t may
obeyed_more Stop old new may h = absurd h

closed-on : (p : ℕ) (holds : Option OpenStint) → AllOn p (held_closed p holds)
closed-on p None = All-nil (λ (stint : Stint). stint.processor ≡ p)
closed-on p (Some stint) =
    All-cons (λ (stint : Stint). stint.processor ≡ p) (closed p stint) [] refl (All-nil (λ (stint : Stint). stint.processor ≡ p))

abbrev OnOwn : HandData → Type 0
OnOwn hand = AllOn hand.number hand.ended

-- the stints that it ended are its own, after one order more
pub on_more : (order : Order) (old new : HandData) → Obeys order old new → AllOn old.number old.ended → AllOn new.number new.ended
on_more (Take t k) old new h on = subst OnOwn (sym h.2) on
on_more (Run u) old new h on = subst OnOwn (sym h) on
on_more (Release t) old new h on = subst OnOwn (sym h)
    (All-append (λ (stint : Stint). stint.processor ≡ old.number) old.ended (held_closed old.number old.holds) on
    (closed-on old.number old.holds))
on_more Stop old new h on = absurd h

-- the hand stays the same processor's, and of the same slots
pub same_number : (order : Order) (old new : HandData) → Obeys order old new → new.number ≡ old.number
same_number (Take t k) old new h = ap (λ (d : HandData). d.number) h.2
same_number (Run u) old new h = ap (λ (d : HandData). d.number) h
same_number (Release t) old new h = ap (λ (d : HandData). d.number) h
same_number Stop old new h = absurd h

pub last_below : (n : ℕ) (front : List Order) (order : Order) → All (NamesTaskBelow n) (front ++ order ∷ []) → NamesTaskBelow n order
last_below n [] order h = All-head (NamesTaskBelow n) order [] h
last_below n (first ∷ front) order h = last_below n front order (All-tail (NamesTaskBelow n) first (front ++ order ∷ []) h)

pub stop_at_end : (front : List Order) → has_stop (front ++ Stop ∷ []) ≡ true
stop_at_end [] = refl
stop_at_end (Stop ∷ front) = refl
stop_at_end (Take t k ∷ front) = stop_at_end front
stop_at_end (Release t ∷ front) = stop_at_end front
stop_at_end (Run u ∷ front) = stop_at_end front

last-other : (order : Order) → order ≢ Stop → has_stop (order ∷ []) ≡ false
last-other Stop other = absurd (other refl)
last-other (Take t k) other = refl
last-other (Release t) other = refl
last-other (Run u) other = refl

pub no_stop_more : (front : List Order) (order : Order) → order ≢ Stop → has_stop (front ++ order ∷ []) ≡ has_stop front
no_stop_more [] order other = last-other order other
no_stop_more (Stop ∷ front) order other = refl
no_stop_more (Take t k ∷ front) order other = no_stop_more front order other
no_stop_more (Release t ∷ front) order other = no_stop_more front order other
no_stop_more (Run u ∷ front) order other = no_stop_more front order other

-- where Stop was not received, the last order is not Stop
pub not_stop : (received front : List Order) (order : Order) → received ≡ front ++ order ∷ [] → has_stop received ≡ false → order ≢ Stop
not_stop received front order is without e =
    true≢false (sym (stop_at_end front) ∙ ap (λ (o : Order). has_stop (front ++ o ∷ [])) (sym e) ∙ ap has_stop (sym is) ∙ without)

-- the orders of the stints on p have these stints
pub stints_read : (p : ℕ) (stints : List Stint) (more : List Order) → AllOn p stints → stints_in p more ≡ []
    → stints_in p (flat_map stint_orders stints ++ more) ≡ stints
stints_read p stints more on nothing =
    stints_in-flat_map p stints more on ∙ ap (λ (l : List Stint). stints ++ l) nothing ∙ append-nil stints

-- and so after any answer
pub answer_number : (order : Order) (old : HandData) (answer : Obeyed) (new : HandData) → ObeyAnswer order old answer new
    → new.number ≡ old.number
answer_number order old Done new h = same_number order old new h
answer_number order old (NotTurn task found) new h = ap (λ (d : HandData). d.number) h.3

pub answer_on : (order : Order) (old : HandData) (answer : Obeyed) (new : HandData) → ObeyAnswer order old answer new
    → AllOn old.number old.ended → AllOn new.number new.ended
answer_on order old Done new h on = on_more order old new h on
answer_on order old (NotTurn task found) new h on = subst OnOwn (sym h.3) on
