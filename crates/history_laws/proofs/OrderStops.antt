-- The Stop among the orders of a history: it comes at the close, and is the last.
use Rattle.std.proofs.Common.{◌≡◌, ◌≢◌, ℕ, ◌+◌, true, false, List, [], ◌∷◌, ◌++◌, length, Option, None, Some, refl, sym, ap, ◌∙◌, subst}
use Rattle.std.proofs.Common.{append-nil}
use Rattle.std.specs.Prelude.{All}
use Rattle.std.proofs.lemmas.List.Elements.{All-nil, All-head, All-tail, All-append}
use Rattle.task_set.specs.declared.order.Order.{Order}
use Rattle.task_set.specs.declared.order.Order.TheVariants.{Release, Take, Run, Stop}
use Rattle.task_set.specs.Orders.{IsObeyable, has_stop}
use Rattle.task_set.proofs.Obeyable.{IsObeyableFrom-front, MayCome-next, nothing_after_stop}
use Rattle.strong_apa.specs.declared.reply.Entry.{Entry}
use Rattle.strong_apa.specs.State.{State, task_on}
use Rattle.strong_apa.specs.History.{effect_of, state_after}
use Rattle.strong_apa.specs.Dispatch.{orders_from, orders_of, taken_between}
use Rattle.strong_apa.proofs.Histories.{entry_orders}
use Rattle.history_laws.specs.SentLaws.{AreSentOf, CloseAddsOrders, NoStopBeforeClose, StopComesAtClose, StopIsLastSent, SentIsObeyable}
use Rattle.history_laws.specs.SentLaws.{NextSentMayCome}
use Rattle.history_laws.proofs.OrderLists.{close_orders, closed_orders_of-split, orders_obeyable-from}
use Rattle.history_laws.proofs.OrderNames.{all-event}

-- ---- before the close
abbrev IsOther : Order → Type 0
IsOther order = order ≢ Stop

others-orders_from : (s : State) (takes : ℕ → ℕ) (history : List Entry) (p : ℕ) → All IsOther (orders_from s takes history p)
others-orders_from s takes [] p = All-nil IsOther
others-orders_from s takes (first ∷ rest) p =
    let next = effect_of s first in
    let takes' : ℕ → ℕ = λ t. takes t + length (taken_between s next t) in
    All-append IsOther (entry_orders s takes first p) (orders_from next takes' rest p)
    (all-event IsOther takes first.event (task_on s p) (task_on next p) (λ a e is. cc) (λ b e is. cc) (λ units is. cc))
    (others-orders_from next takes' rest p)

no_stop : (orders : List Order) → All IsOther orders → has_stop orders ≡ false
no_stop [] others = refl
no_stop (Stop ∷ rest) others = absurd (All-head IsOther Stop rest others refl)
no_stop (Take task number ∷ rest) others = no_stop rest (All-tail IsOther (Take task number) rest others)
no_stop (Release task ∷ rest) others = no_stop rest (All-tail IsOther (Release task) rest others)
no_stop (Run units ∷ rest) others = no_stop rest (All-tail IsOther (Run units) rest others)

pub no_stop_before_close : NoStopBeforeClose
no_stop_before_close s history p = let others = others-orders_from s (λ t. 0) history p in (others, no_stop (orders_of s history p) others)

-- ---- the close
stop_later : (orders more : List Order) → has_stop more ≡ true → has_stop (orders ++ more) ≡ true
stop_later [] more stops = stops
stop_later (Stop ∷ rest) more stops = refl
stop_later (Take task number ∷ rest) more stops = stop_later rest more stops
stop_later (Release task ∷ rest) more stops = stop_later rest more stops
stop_later (Run units ∷ rest) more stops = stop_later rest more stops

close_stops : (o : Option ℕ) → has_stop (close_orders o) ≡ true
close_stops None = refl
close_stops (Some t) = refl

pub stop_comes_at_close : StopComesAtClose
stop_comes_at_close s history p =
    let last = task_on (state_after s history) p in
    ap has_stop (closed_orders_of-split s history p) ∙ stop_later (orders_of s history p) (close_orders last) (close_stops last)

pub close_adds_orders : CloseAddsOrders
close_adds_orders s history p = (close_orders (task_on (state_after s history) p), sym (closed_orders_of-split s history p))

-- ---- what was sent
whole_obeyable : (start : State) (history : List Entry) (p : ℕ) (sent : List Order) (are : AreSentOf start history p sent)
    → IsObeyable (sent ++ are.begins.0)
whole_obeyable start history p sent are =
    subst IsObeyable (sym are.begins.1) (orders_obeyable-from start history p are.nobody are.legal).after_close

pub sent_is_obeyable : SentIsObeyable
sent_is_obeyable start history p sent are = IsObeyableFrom-front None sent are.begins.0 (whole_obeyable start history p sent are)

pub next_sent_may_come : NextSentMayCome
next_sent_may_come start history p sent next are = MayCome-next None sent next (sent_is_obeyable start history p (sent ++ next ∷ []) are)

pub stop_is_last_sent : StopIsLastSent
stop_is_last_sent start history p sent are stops =
    let none_left : are.begins.0 ≡ [] = nothing_after_stop None sent are.begins.0 (whole_obeyable start history p sent are) stops in
    sym (append-nil sent) ∙ ap (λ (more : List Order). sent ++ more) (sym none_left) ∙ are.begins.1
