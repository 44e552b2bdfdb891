-- Orders in batches: what the parts of a list of orders are, and one batch or one order more.
use Rattle.std.proofs.Common.{◌≡◌, ℕ, true, false, List, [], ◌∷◌, ◌++◌, length, sym, ap, ◌∙◌, subst, append_assoc, append-nil, None, ◌+◌}
use Rattle.std.proofs.Common.{◌-◌, take, drop, take-add, take-append-drop, ◌≤◌, length-take, length-drop, length-append, length-take-le}
use Rattle.std.proofs.Common.{take_at, arith}
use Rattle.std.specs.Prelude.{All}
use Rattle.std.proofs.lemmas.List.{take_rest}
use Rattle.std.proofs.lemmas.List.Elements.{All-nil, All-cons, All-head, All-tail}
use Rattle.task_set.specs.declared.order.Order.{Order}
use Rattle.order_queues.specs.declared.batch.Batch.{Batch}
use Rattle.order_queues.specs.declared.lane.EndView.{EndView}
use Rattle.order_queues.specs.Batches.{Sendable, batch_orders, orders_in}
use Rattle.task_set.specs.Orders.{IsObeyable, NamesTaskBelow}
use Rattle.task_set.proofs.Obeyable.{IsObeyableFrom-front}
use Rattle.order_queues.specs.Queue.{end_view}

-- the orders of batches with one batch more
pub one_more : (batches : List Batch) (x : Batch) → orders_in (batches ++ x ∷ []) ≡ orders_in batches ++ batch_orders x
one_more [] x = append-nil (batch_orders x)
one_more (b ∷ bs) x = ap (λ l. batch_orders b ++ l) (one_more bs x) ∙ sym (append_assoc (batch_orders b) (orders_in bs) (batch_orders x))

pub All-first : (P : Order → Type 0) (xs ys : List Order) → All P (xs ++ ys) → All P xs
All-first P [] ys h = All-nil P
All-first P (x ∷ xs) ys h = All-cons P x xs (All-head P x (xs ++ ys) h) (All-first P xs ys (All-tail P x (xs ++ ys) h))

pub obeyed_first : (xs ys : List Order) → IsObeyable (xs ++ ys) → IsObeyable xs
obeyed_first xs ys h = IsObeyableFrom-front None xs ys h

-- a beginning of orders that may be sent may be sent
pub sendable_first : (n : ℕ) (xs ys : List Order) → Sendable n (xs ++ ys) → Sendable n xs
sendable_first n xs ys h = (obeyed_first xs ys h.0, All-first (NamesTaskBelow n) xs ys h.1)

-- one order more was given out of those that came out
pub one_given : (n : ℕ) (old new left left' : List Order) (x : Order) → n + length left ≡ length old → new ≡ (take n old ++ x ∷ []) ++ left'
    → (take (n + 1) new ≡ take n old ++ x ∷ []) × (new ≡ take (n + 1) new ++ left') × (n + 1 + length left' ≡ length new)
    × (length (take n old) ≡ n)
one_given n old new left left' x count is =
    let front : List Order = take n old ++ x ∷ [] in
    let short : length (take n old) ≡ n = length-take-le n old (omega (arith, count)) in
    let long : length front ≡ n + 1 = omega (arith, length-append (take n old) (x ∷ []), short) in
    let begins : take (n + 1) new ≡ front = ap (take (n + 1)) is ∙ take_at front left' (n + 1) long in
    (begins, is ∙ ap (λ l. l ++ left') (sym begins), omega (arith, ap length is, length-append front left', long), short)

-- the pass of a receiver after it popped
pub still_pops : (old new : EndView) → old ≡ end_view false true [] old.received old.tasks
    → new ≡ end_view old.pushes old.pops old.sent new.received old.tasks → new ≡ end_view false true [] new.received new.tasks
still_pops old new is same =
    same ∙ (λ i. end_view (is i).pushes (is i).pops (is i).sent new.received (sym (ap (λ (v : EndView). v.tasks) same) i))

All-last : (P : Order → Type 0) (xs ys : List Order) → All P (xs ++ ys) → All P ys
All-last P [] ys h = h
All-last P (x ∷ xs) ys h = All-last P xs ys (All-tail P x (xs ++ ys) h)

-- the first orders, and then a batch of those that follow
pub taken_more : (done : ℕ) (orders batch : List Order) → batch ≡ take (length batch) (drop done orders) → take (done + length batch) orders
    ≡ take done orders ++ batch
taken_more done orders batch is = take-add done (length batch) orders ∙ ap (λ l. take done orders ++ l) (sym is)

-- the orders: the first of them, a batch of those that follow, and the others
parts : (done : ℕ) (orders batch : List Order) → batch ≡ take (length batch) (drop done orders) → orders ≡ (take done orders ++ batch)
    ++ drop (done + length batch) orders
parts done orders batch is =
    sym (take-append-drop (done + length batch) orders) ∙ ap (λ l. l ++ drop (done + length batch) orders) (taken_more done orders batch is)

-- a batch of the slice that begins there
pub of_rest : (done : ℕ) (orders batch : List Order) → batch ≡ take (length batch) (take (length orders - done) (drop done orders))
    → batch ≡ take (length batch) (drop done orders)
of_rest done orders batch is = is ∙ ap (take (length batch)) (take_rest orders done)

batch_obeyable : (done : ℕ) (sent orders batch : List Order) → batch ≡ take (length batch) (drop done orders) → IsObeyable (sent ++ orders)
    → IsObeyable ((sent ++ take done orders) ++ batch)
batch_obeyable done sent orders batch is obeys =
    let front : List Order = take done orders ++ batch in
    let others : List Order = drop (done + length batch) orders in
    let cut : sent ++ orders ≡ (sent ++ front) ++ others = ap (λ l. sent ++ l) (parts done orders batch is)
    ∙ sym (append_assoc sent front others) in
    subst IsObeyable (sym (append_assoc sent (take done orders) batch)) (obeyed_first (sent ++ front) others (subst IsObeyable cut obeys))

batch_below : (n done : ℕ) (orders batch : List Order) → batch ≡ take (length batch) (drop done orders) → All (NamesTaskBelow n) orders
    → All (NamesTaskBelow n) batch
batch_below n done orders batch is below = All-last (NamesTaskBelow n) (take done orders) batch
    (All-first (NamesTaskBelow n) (take done orders ++ batch) (drop (done + length batch) orders)
    (subst (All (NamesTaskBelow n)) (parts done orders batch is) below))

-- after the first orders, a batch of those that follow may enter
pub next_obeyable : (v old : EndView) (done : ℕ) (orders batch : List Order)
    → old ≡ end_view v.pushes v.pops (v.sent ++ take done orders) v.received v.tasks → batch ≡ take (length batch) (drop done orders)
    → IsObeyable (v.sent ++ orders) → IsObeyable (old.sent ++ batch)
next_obeyable v old done orders batch before is obeys =
    subst (λ (w : EndView). IsObeyable (w.sent ++ batch)) (sym before) (batch_obeyable done v.sent orders batch is obeys)

pub next_below : (v old : EndView) (done : ℕ) (orders batch : List Order)
    → old ≡ end_view v.pushes v.pops (v.sent ++ take done orders) v.received v.tasks → batch ≡ take (length batch) (drop done orders)
    → All (NamesTaskBelow v.tasks) orders → All (NamesTaskBelow old.tasks) batch
next_below v old done orders batch before is below =
    subst (λ (w : EndView). All (NamesTaskBelow w.tasks) batch) (sym before) (batch_below v.tasks done orders batch is below)

-- a batch of those that follow is no longer than they are
pub batch_fits : (done : ℕ) (orders batch : List Order) → batch ≡ take (length batch) (drop done orders) → done ≤ length orders
    → done + length batch ≤ length orders
batch_fits done orders batch is low =
    omega (arith, ap length is, length-take (length batch) (drop done orders), length-drop done orders, low)

-- the pass of a sender after a batch more
pub one_entered : (v old new : EndView) (done count : ℕ) (orders batch : List Order)
    → old ≡ end_view v.pushes v.pops (v.sent ++ take done orders) v.received v.tasks
    → new ≡ end_view old.pushes old.pops (old.sent ++ batch) old.received old.tasks → batch ≡ take (length batch) (drop done orders)
    → count ≡ length batch → new ≡ end_view v.pushes v.pops (v.sent ++ take (done + count) orders) v.received v.tasks
one_entered v old new done count orders batch before entered is counted =
    let more : (v.sent ++ take done orders) ++ batch ≡ v.sent ++ take (done + count) orders = append_assoc v.sent (take done orders) batch
    ∙ ap (λ l. v.sent ++ l) (sym (taken_more done orders batch is)) ∙ ap (λ n. v.sent ++ take (done + n) orders) (sym counted) in
    entered ∙ (λ i. end_view (before i).pushes (before i).pops ((before i).sent ++ batch) (before i).received (before i).tasks)
    ∙ (λ i. end_view v.pushes v.pops (more i) v.received v.tasks)

pub first_obeyable : (m : ℕ) (sent orders first : List Order) → first ≡ take m orders → IsObeyable (sent ++ orders)
    → IsObeyable (sent ++ first)
first_obeyable m sent orders first is obeys =
    let cut : sent ++ orders ≡ (sent ++ first)
    ++ drop m orders = ap (λ l. sent ++ l) (sym (take-append-drop m orders) ∙ ap (λ l. l ++ drop m orders) (sym is))
    ∙ sym (append_assoc sent first (drop m orders)) in
    obeyed_first (sent ++ first) (drop m orders) (subst IsObeyable cut obeys)
