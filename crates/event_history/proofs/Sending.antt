-- Orders are sent, processor by processor.
use Rattle.std.proofs.Common.{◌≡◌, ◌≢◌, ℕ, ◌+◌, ◌<◌, ◌≤◌, List, [], ◌∷◌, ◌++◌, length, set, sum, slice_get, Some, All, take, drop, sym}
use Rattle.std.proofs.Common.{refl, ap, ◌∙◌, subst, ⊎_elim, arith, append_assoc, append-nil, length-append, length-set, length-take-le}
use Rattle.std.proofs.Common.{take-append-drop}
use Rattle.std.proofs.Math.Seq.{drop-append_seam}
use Rattle.std.proofs.lemmas.List.Elements.{All-drop}
use mathlib.Core.Logic.{dite}
use mathlib.Core.List.{IsPrefix}
use native.Mathlib.Decide.{ℕ_discrete}
use Rattle.task_set.specs.declared.order.Order.{Order}
use Rattle.task_set.specs.Orders.{IsObeyable, NamesTaskBelow}
use Rattle.order_queues.specs.Ends.{SenderData, EyeData, Looks, queue_room}
use Rattle.sched_core.specs.CoreData.{CoreData, core_orders}
use Rattle.event_history.specs.Flushing.{EyeFlushed, AllFlushed, AllOwed}
use Rattle.event_history.specs.Holdings.{SentBegins}
use Rattle.event_history.proofs.Lists.{at_cases, at_low, same_at, set_same, set_other, sum_snoc}

-- what was sent, and then the orders that were not
whole : (l orders left : List Order) (i : ℕ) → IsPrefix l orders → i ≡ length l → left ≡ drop i orders → l ++ left ≡ orders
whole l orders left i p at is = ap (λ (x : List Order). l ++ x) (is ∙ (λ j. drop (at j) (sym p.1 j)) ∙ drop-append_seam l p.0) ∙ p.1

pub left_obeyable : (l orders left : List Order) (i : ℕ) → IsPrefix l orders → i ≡ length l → left ≡ drop i orders → IsObeyable orders
    → IsObeyable (l ++ left)
left_obeyable l orders left i p at is obeys = subst IsObeyable (sym (whole l orders left i p at is)) obeys

pub left_below : (n i : ℕ) (orders left : List Order) → left ≡ drop i orders → All (NamesTaskBelow n) orders → All (NamesTaskBelow n) left
left_below n i orders left is all = subst (All (NamesTaskBelow n)) (sym is) (All-drop (NamesTaskBelow n) i orders all)

-- the first of those that were not sent are sent
pub first_sent : (l m orders left : List Order) (i k : ℕ) → IsPrefix l orders → i ≡ length l → left ≡ drop i orders → m ≡ l ++ take k left
    → IsPrefix m orders
first_sent l m orders left i k p at is now = (
  drop k left,
  ap (λ (x : List Order). x ++ drop k left) now ∙ append_assoc l (take k left) (drop k left)
      ∙ ap (λ (x : List Order). l ++ x) (take-append-drop k left) ∙ whole l orders left i p at is,
)

pub sent_count : (l m left : List Order) (k : ℕ) → m ≡ l ++ take k left → k ≤ length left → length m ≡ length l + k
sent_count l m left k now few = omega (arith, ap length now, length-append l (take k left), length-take-le k left few)

-- an eye that looked once, when so many orders were sent
pub flushed_once : (old new : EyeData) (look orders sent owed : ℕ) → Looks old look new → sent + owed ≡ orders
    → (owed ≢ 0 → look + queue_room ≤ sent) → EyeFlushed old new orders owed
flushed_once old new look orders sent owed eye total full = record {
  grown = record { word = eye.word; known = omega (arith, eye.more, eye.known); looks = (look ∷ [], eye.looks) };
  by_look = λ some. record {
    sent = sent;
    total = total;
    gained = [];
    looks = eye.looks ∙ (λ i. sym (append-nil old.looks) i ++ sym eye.known i ∷ []);
    full = omega (arith, full some, eye.known);
  };
}

-- one sender sent more
pub begins_set : (core : CoreData) (l : List SenderData) (p : ℕ) (s : SenderData) → SentBegins core l → IsPrefix s.sent (core_orders core p)
    → SentBegins core (set l p s)
begins_set core l p s all new = λ k x at. dite (ℕ_discrete k p)
    (λ is. let at' : slice_get (set l p s) p ≡ Some x = ap (slice_get (set l p s)) (sym is) ∙ at in
    subst (λ n. IsPrefix x.sent (core_orders core n)) (sym is)
    (subst (λ (y : SenderData). IsPrefix y.sent (core_orders core p)) (set_same l p s x at') new))
    (λ ne. all k x (sym (set_other l p k s ne) ∙ at))

-- the first p processors were served, and the eyes at the others are as they were
pub record FlushedSoFar (orders : ℕ → ℕ) (old new : List EyeData) (senders : List SenderData) (p answer : ℕ) : Type 0 where
  pub owed : List ℕ
  pub count : length owed ≡ p
  pub total : answer ≡ sum owed
  pub each : AllFlushed orders old new owed
  pub rest : AllOwed orders senders owed
  pub others : (k : ℕ) → p ≤ k → slice_get new k ≡ slice_get old k
  pub long : length new ≡ length old

pub flushed_none : (orders : ℕ → ℕ) (old : List EyeData) (senders : List SenderData) → FlushedSoFar orders old old senders 0 0
flushed_none orders old senders = record {
  owed = [];
  count = refl;
  total = refl;
  each = λ p k e e' none a b. absurd (cc none);
  rest = λ p k s none a. absurd (cc none);
  others = λ k low. refl;
  long = refl;
}

-- one processor more was served
pub flushed_next : (orders : ℕ → ℕ) (old new : List EyeData) (senders : List SenderData) (p answer answer' left : ℕ) (e0 e1 : EyeData)
    (s1 : SenderData) → FlushedSoFar orders old new senders p answer → slice_get new p ≡ Some e0
    → EyeFlushed e0 e1 (orders p) left → length s1.sent + left ≡ orders p → answer' ≡ answer + left
    → FlushedSoFar orders old (set new p e1) (set senders p s1) (p + 1) answer'
flushed_next orders old new senders p answer answer' left e0 e1 s1 so at one all is = record {
  owed = so.owed ++ left ∷ [];
  count = omega (arith, length-append so.owed (left ∷ []), so.count);
  total = omega (arith, is, so.total, sum_snoc so.owed left);
  each = λ q k e e' a b d. ⊎_elim
      (λ was. let low : q < length so.owed = at_low so.owed q k was in let ne : q ≢ p = λ same. absurd (omega (arith, so.count)) in
      so.each q k e e' was b (sym (set_other new p q e1 ne) ∙ d))
      (λ now. let same : q ≡ p = now.0 ∙ so.count in
      let d' : slice_get (set new p e1) p ≡ Some e' = ap (slice_get (set new p e1)) (sym same) ∙ d in
      let b' : slice_get new p ≡ Some e = so.others p (omega arith) ∙ ap (slice_get old) (sym same) ∙ b in
      let old_eye : e0 ≡ e = same_at new p p e0 e at b' refl in
      subst (λ n. EyeFlushed e e' (orders n) k) (sym same)
      (subst (λ n. EyeFlushed e e' (orders p) n) now.1
      (subst (λ (y : EyeData). EyeFlushed y e' (orders p) left) old_eye
      (subst (λ (y : EyeData). EyeFlushed e0 y (orders p) left) (set_same new p e1 e' d') one))))
      (at_cases so.owed left q k a);
  rest = λ q k s a d. ⊎_elim
      (λ was. let low : q < length so.owed = at_low so.owed q k was in let ne : q ≢ p = λ same. absurd (omega (arith, so.count)) in
      so.rest q k s was (sym (set_other senders p q s1 ne) ∙ d))
      (λ now. let same : q ≡ p = now.0 ∙ so.count in
      let d' : slice_get (set senders p s1) p ≡ Some s = ap (slice_get (set senders p s1)) (sym same) ∙ d in
      subst (λ n. length s.sent + k ≡ orders n) (sym same)
      (subst (λ n. length s.sent + n ≡ orders p) now.1
      (subst (λ (y : SenderData). length y.sent + left ≡ orders p) (set_same senders p s1 s d') all)))
      (at_cases so.owed left q k a);
  others = λ k low. let ne : k ≢ p = λ same. absurd (omega arith) in set_other new p k e1 ne ∙ so.others k (omega arith);
  long = length-set new p e1 ∙ so.long;
}
