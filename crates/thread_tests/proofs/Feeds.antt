-- A list of orders that a test sent, with one order more at its end.
use Rattle.std.proofs.Common.{◌≡◌, ◌≢◌, ℕ, Bool, false, List, [], ◌∷◌, ◌++◌, sym, ap, ◌∙◌, subst, Option, None}
use Rattle.std.specs.Prelude.{All}
use Rattle.std.proofs.lemmas.List.Elements.{All-nil, All-cons, All-append}
use Rattle.std.proofs.lemmas.List.Sums.{fold-append}
use Rattle.task_set.specs.declared.order.Order.{Order}
use Rattle.task_set.specs.declared.order.Order.TheVariants.{Stop}
use Rattle.task_set.specs.Orders.{IsObeyable, MayCome, held_after, task_held}
use Rattle.task_set.proofs.Obeyable.{IsObeyableFrom-push}

abbrev IsOpen : Order → Type 0
IsOpen order = order ≢ Stop

-- an order that may come can be sent
pub may_follow : (sent : List Order) (held : Option ℕ) (x : Order) → IsObeyable sent → task_held sent ≡ held
    → All (λ order. order ≢ Stop) sent → MayCome held x → IsObeyable (sent ++ x ∷ [])
may_follow sent held x obeyable holds others may =
    IsObeyableFrom-push None sent x obeyable others (subst (λ h. MayCome h x) (sym holds) may)

-- what a feed knows after one order more
pub fed : (n tasks : ℕ) (sent new : List Order) (x : Order) (held after : Option ℕ) (stops : Bool) → tasks ≡ n → new ≡ sent ++ x ∷ []
    → IsObeyable (sent ++ x ∷ []) → task_held sent ≡ held → All (λ order. order ≢ Stop) sent → after ≡ held_after held x
    → (stops ≡ false → x ≢ Stop) → (tasks ≡ n) × IsObeyable new × (task_held new ≡ after)
    × (stops ≡ false → All (λ order. order ≢ Stop) new)
fed n tasks sent new x held after stops made grown obeys holds others is stop = (
  made,
  subst IsObeyable (sym grown) obeys,
  ap task_held grown ∙ fold-append held_after None sent (x ∷ []) ∙ ap (λ h. held_after h x) holds ∙ sym is,
  λ no. subst (All IsOpen) (sym grown) (All-append IsOpen sent (x ∷ []) others (All-cons IsOpen x [] (stop no) (All-nil IsOpen))),
)
