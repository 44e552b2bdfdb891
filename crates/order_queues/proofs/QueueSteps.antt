-- Each step of the queue keeps its rule.
use Rattle.std.proofs.Common.{◌≡◌, ◌≢◌, ℕ, zero, suc, true, false, true≢false, List, [], ◌∷◌, ◌++◌, length, set, sym, refl, ap, ◌∙◌, subst}
use Rattle.std.proofs.Common.{⊎_elim, append_assoc, append-nil, None}
use Rattle.std.specs.Prelude.{All}
use Rattle.std.proofs.lemmas.List.Elements.{All-nil, All-append}
use mathlib.Core.Option.{some, some-ne-none}
use lib.ListN.{get_elem?}
use Rattle.crossbeam_queue.specs.Fifo.{Pushes, Pops, Forks, Merges, Learns}
use Rattle.crossbeam_queue.proofs.Lists.{at_set, at_snoc}
use Rattle.task_set.specs.declared.order.Order.{Order}
use Rattle.order_queues.specs.declared.batch.Batch.{Batch}
use Rattle.order_queues.specs.declared.lane.EndView.{EndView}
use Rattle.order_queues.specs.Batches.{Sendable, batch_orders, orders_in}
use Rattle.task_set.specs.Orders.{IsObeyable, NamesTaskBelow, has_stop}
use Rattle.task_set.proofs.Obeyable.{nothing_after_stop}
use Rattle.order_queues.specs.Queue.{end_view, PushesAll, PopsAll, QueueRule}
use Rattle.order_queues.proofs.Batches.{All-first, obeyed_first, one_more}

-- what is at j after one more was appended, and was not before, is at the end
at_end : (l : List EndView) (a b : EndView) (j : ℕ) → get_elem? l j ≢ some b → get_elem? (l ++ a ∷ []) j ≡ some b → j ≡ length l
at_end [] a b zero n e = refl
at_end [] a b (suc j) n e = absurd (some-ne-none b (sym e))
at_end (x ∷ xs) a b zero n e = absurd (n e)
at_end (x ∷ xs) a b (suc j) n e = ap suc (at_end xs a b j n e)

abbrev Each : (ℕ → EndView → Type 0) → List EndView → Type 0
Each F views = (pass : ℕ) (v : EndView) → get_elem? views pass ≡ some v → F pass v

-- a fact of each view stays, where it holds of the new one at its place and of each other
each_set : (F : ℕ → EndView → Type 0) (views : List EndView) (pass : ℕ) (w : EndView) → F pass w
    → ((j : ℕ) (u : EndView) → j ≢ pass → get_elem? views j ≡ some u → F j u) → Each F (set views pass w)
each_set F views pass w mine others j u e =
    ⊎_elim (λ (x : (j ≡ pass) × (w ≡ u)). subst (λ (y : ℕ × EndView). F y.0 y.1) (λ i. (sym x.0 i, x.1 i)) mine)
    (λ (x : (j ≢ pass) × (get_elem? views j ≡ some u)). others j u x.0 x.1) (at_set views pass j w u e)

-- no other pass may push than the one that does
only_pusher : (pusher : ℕ) (sent sent' : List Order) (n n' pass j : ℕ) (u : EndView) → pass ≡ pusher → j ≢ pass
    → PushesAll pusher sent n j u → PushesAll pusher sent' n' j u
only_pusher pusher sent sent' n n' pass j u is other h = λ may. absurd (other ((h may).0 ∙ sym is))

-- no other pass may pop than the one that does
only_popper : (popper : ℕ) (received received' : List Order) (n n' pass j : ℕ) (u : EndView) → pass ≡ popper → j ≢ pass
    → PopsAll popper received n j u → PopsAll popper received' n' j u
only_popper popper received received' n n' pass j u is other h = λ may. absurd (other ((h may).0 ∙ sym is))

-- a new queue with its one pass
pub new_queue_keeps : QueueRule [] (end_view true true [] [] 0 ∷ [])
new_queue_keeps = record {
  pusher = 0;
  popper = 0;
  sent = [];
  received = [];
  tasks = 0;
  in_order = refl;
  push = each_set (PushesAll 0 [] 0) (end_view true true [] [] 0 ∷ []) 0 (end_view true true [] [] 0) (λ _. (refl, refl, refl))
      (λ j u other e. absurd (other (at_end [] _ u j (λ x. some-ne-none u (sym x)) e)));
  pop = each_set (PopsAll 0 [] 0) (end_view true true [] [] 0 ∷ []) 0 (end_view true true [] [] 0) (λ _. (refl, refl, refl))
      (λ j u other e. absurd (other (at_end [] _ u j (λ x. some-ne-none u (sym x)) e)));
  obeyable = tt;
  below = All-nil (NamesTaskBelow 0);
}

-- a batch enters
pub push_keeps : (k pass : ℕ) (v : EndView) (x : Batch) → v.pushes ≡ true → IsObeyable (v.sent ++ batch_orders x)
    → All (NamesTaskBelow v.tasks) (batch_orders x)
    → Pushes QueueRule k pass v x (λ w. w ≡ end_view v.pushes v.pops (v.sent ++ batch_orders x) v.received v.tasks)
push_keeps k pass v x may obeys below items views _ h at =
    let more : List Order = batch_orders x in
    let w : EndView = end_view v.pushes v.pops (v.sent ++ more) v.received v.tasks in
    let mine = h.push pass v at may in
    let sent = h.sent ++ more in (
      w,
      record {
        pusher = h.pusher;
        popper = h.popper;
        sent = sent;
        received = h.received;
        tasks = h.tasks;
        in_order = ap (λ l. l ++ more) h.in_order ∙ append_assoc h.received (orders_in items) more
            ∙ ap (λ l. h.received ++ l) (sym (one_more items x));
        push = each_set (PushesAll h.pusher sent h.tasks) views pass w (λ _. (mine.0, ap (λ l. l ++ more) mine.1, mine.2))
            (λ j u other e. only_pusher h.pusher h.sent sent h.tasks h.tasks pass j u mine.0 other (h.push j u e));
        pop = each_set (PopsAll h.popper h.received h.tasks) views pass w (h.pop pass v at) (λ j u other e. h.pop j u e);
        obeyable = subst (λ l. IsObeyable (l ++ more)) mine.1 obeys;
        below = All-append (NamesTaskBelow h.tasks) h.sent more h.below (subst (λ n. All (NamesTaskBelow n) more) mine.2 below);
      },
      refl,
    )

-- a batch comes out: what was received then is a beginning of what was sent
pub pop_keeps : (pass : ℕ) (v : EndView) → v.pops ≡ true
    → Pops QueueRule pass v (λ x w. (w ≡ end_view v.pushes v.pops v.sent (v.received ++ batch_orders x) v.tasks)
    × Sendable v.tasks w.received)
pop_keeps pass v may x items views h at =
    let more : List Order = batch_orders x in
    let w : EndView = end_view v.pushes v.pops v.sent (v.received ++ more) v.tasks in
    let mine = h.pop pass v at may in
    let received = h.received ++ more in
    let cut : h.sent ≡ received ++ orders_in items = h.in_order ∙ sym (append_assoc h.received more (orders_in items)) in (
      w,
      record {
        pusher = h.pusher;
        popper = h.popper;
        sent = h.sent;
        received = received;
        tasks = h.tasks;
        in_order = cut;
        push = each_set (PushesAll h.pusher h.sent h.tasks) views pass w (h.push pass v at) (λ j u other e. h.push j u e);
        pop = each_set (PopsAll h.popper received h.tasks) views pass w (λ _. (mine.0, ap (λ l. l ++ more) mine.1, mine.2))
            (λ j u other e. only_popper h.popper h.received received h.tasks h.tasks pass j u mine.0 other (h.pop j u e));
        obeyable = h.obeyable;
        below = h.below;
      },
      (
        refl,
        (
          subst (λ l. IsObeyable (l ++ more)) (sym mine.1) (obeyed_first received (orders_in items) (subst IsObeyable cut h.obeyable)),
          subst (λ n. All (NamesTaskBelow n) (v.received ++ more)) (sym mine.2)
              (subst (λ l. All (NamesTaskBelow h.tasks) (l ++ more)) (sym mine.1)
              (All-first (NamesTaskBelow h.tasks) received (orders_in items) (subst (All (NamesTaskBelow h.tasks)) cut h.below))),
        ),
      ),
    )

-- the two passes are made, and the queue is for n tasks from now on
pub two_ends_keep : (pass n : ℕ) (v : EndView) → v ≡ end_view true true [] [] 0
    → Forks QueueRule pass v (end_view true false v.sent [] n) (end_view false true [] v.received n)
two_ends_keep pass n v is items views h at =
    let l : EndView = end_view true false v.sent [] n in
    let r : EndView = end_view false true [] v.received n in
    let a = h.push pass v at (ap (λ (y : EndView). y.pushes) is) in
    let b = h.pop pass v at (ap (λ (y : EndView). y.pops) is) in
    let vs : List EndView = set views pass l in
    let nothing : h.sent ≡ [] = sym a.1 ∙ ap (λ (y : EndView). y.sent) is in
    let pushes : Each (PushesAll h.pusher h.sent n) vs = each_set (PushesAll h.pusher h.sent n) views pass l (λ _. (a.0, a.1, refl))
    (λ j u other e. only_pusher h.pusher h.sent h.sent h.tasks n pass j u a.0 other (h.push j u e)) in
    let pops : Each (λ j u. u.pops ≢ true) vs = each_set (λ j u. u.pops ≢ true) views pass l (λ p. true≢false (sym p))
    (λ j u other e p. other ((h.pop j u e p).0 ∙ sym b.0)) in record {
      pusher = h.pusher;
      popper = length vs;
      sent = h.sent;
      received = h.received;
      tasks = n;
      in_order = h.in_order;
      push = λ j u e. ⊎_elim (λ x. pushes j u x) (λ (d : r ≡ u) p. absurd (true≢false (sym (ap (λ (y : EndView). y.pushes) d ∙ p))))
          (at_snoc vs r u j e);
      pop = λ j u e. ⊎_elim (λ x p. absurd (pops j u x p))
          (λ (d : r ≡ u) p. (
            at_end vs r u j (λ x. pops j u x p) e,
            ap (λ (y : EndView). y.received) (sym d)
                ∙ b.1,
            ap (λ (y : EndView). y.tasks) (sym d),
          )) (at_snoc vs r u j e);
      obeyable = h.obeyable;
      below = subst (All (NamesTaskBelow n)) (sym nothing) (All-nil (NamesTaskBelow n));
    }

-- the two passes are one again
pub one_end_keeps : (pass : ℕ) (v : EndView) (other : ℕ) (u : EndView) → v.pushes ≡ true → u.pops ≡ true
    → Merges QueueRule pass v other u (end_view true true v.sent u.received v.tasks) (end_view false false [] [] 0)
one_end_keeps pass v other u a b items views h at two at' =
    let both : EndView = end_view true true v.sent u.received v.tasks in
    let none : EndView = end_view false false [] [] 0 in
    let mine = h.push pass v at a in
    let vs : List EndView = set views pass both in
    let was : get_elem? views other ≡ some u = ⊎_elim (λ x. absurd (two x.0)) (λ x. x.1) (at_set views pass other both u at') in
    let theirs = h.pop other u was b in
    let Now : ℕ → EndView → Type 0 = λ j y. j ≢ other → PopsAll pass h.received h.tasks j y in
    let now : Each Now vs = each_set Now views pass both (λ _ _. (refl, theirs.1, mine.2))
    (λ j y _ e apart p. absurd (apart ((h.pop j y e p).0 ∙ sym theirs.0))) in
    let pushes : Each (PushesAll h.pusher h.sent h.tasks) vs = each_set (PushesAll h.pusher h.sent h.tasks) views pass both (λ _. mine)
    (λ j y _ e. h.push j y e) in record {
      pusher = h.pusher;
      popper = pass;
      sent = h.sent;
      received = h.received;
      tasks = h.tasks;
      in_order = h.in_order;
      push = each_set (PushesAll h.pusher h.sent h.tasks) vs other none (λ p. absurd (true≢false (sym p))) (λ j y _ e. pushes j y e);
      pop = each_set (PopsAll pass h.received h.tasks) vs other none (λ p. absurd (true≢false (sym p))) (λ j y apart e. now j y e apart);
      obeyable = h.obeyable;
      below = h.below;
    }

-- a pass that does both knows the whole list
pub whole_list_known : (pass : ℕ) (v : EndView) → v.pushes ≡ true → v.pops ≡ true
    → Learns QueueRule pass v (λ items. (v.sent ≡ v.received ++ orders_in items) × IsObeyable v.sent)
whole_list_known pass v a b items views h at =
    let s = h.push pass v at a in
    (s.1 ∙ h.in_order ∙ ap (λ l. l ++ orders_in items) (sym (h.pop pass v at b).1), subst IsObeyable (sym s.1) h.obeyable)

-- what has Stop is all that was sent
pub whole_after_stop : (sent received items : List Order) → sent ≡ received ++ items → IsObeyable sent → has_stop received ≡ true
    → received ≡ sent
whole_after_stop sent received items is obeys stops =
    let none_left = nothing_after_stop None received items (subst IsObeyable is obeys) stops in
    sym (is ∙ ap (λ l. received ++ l) none_left ∙ append-nil received)
