-- The orders of the beginning of a history begin those of the whole.
use Rattle.std.proofs.Common.{ℕ, List, [], ◌∷◌, ◌++◌, sym, ap, ◌∙◌, subst, append_assoc, append-nil}
use mathlib.Core.List.{IsPrefix}
use Rattle.task_set.specs.declared.order.Order.{Order}
use Rattle.strong_apa.specs.declared.reply.Entry.{Entry}
use Rattle.strong_apa.specs.State.{State}
use Rattle.strong_apa.specs.Dispatch.{orders_of, closed_orders_of}
use Rattle.strong_apa.proofs.Histories.{orders_of-push}
use Rattle.history_laws.specs.OrderLaws.{OrdersOnlyGrow}
use Rattle.history_laws.proofs.OrderLists.{closed_orders_of-split}

trans : (xs ys zs : List Order) → IsPrefix xs ys → IsPrefix ys zs → IsPrefix xs zs
trans xs ys zs p q = (p.0 ++ q.0, sym (append_assoc xs p.0 q.0) ∙ ap (λ (l : List Order). l ++ q.0) p.1 ∙ q.1)

grows : (start : State) (front rest : List Entry) (p : ℕ) → IsPrefix (orders_of start front p) (orders_of start (front ++ rest) p)
grows start front [] p = subst (λ (h : List Entry). IsPrefix (orders_of start front p) (orders_of start h p)) (sym (append-nil front))
    ([], append-nil (orders_of start front p))
grows start front (e ∷ rest) p =
    let one : IsPrefix (orders_of start front p) (orders_of start (front ++ e ∷ []) p) = (_, sym (orders_of-push start front e p)) in
    let more : IsPrefix (orders_of start (front ++ e ∷ []) p) (orders_of start (front ++ e ∷ rest) p) = subst
    (λ (h : List Entry). IsPrefix (orders_of start (front ++ e ∷ []) p) (orders_of start h p)) (append_assoc front (e ∷ []) rest)
    (grows start (front ++ e ∷ []) rest p) in
    trans (orders_of start front p) (orders_of start (front ++ e ∷ []) p) (orders_of start (front ++ e ∷ rest) p) one more

pub orders_only_grow : OrdersOnlyGrow
orders_only_grow start front rest p =
    let open_ones = grows start front rest p in (
      open_ones,
      trans (orders_of start front p) (orders_of start (front ++ rest) p) (closed_orders_of start (front ++ rest) p) open_ones
          (_, sym (closed_orders_of-split start (front ++ rest) p)),
    )
