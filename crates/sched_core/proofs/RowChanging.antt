-- A row that releases whom it holds, and takes another.
use Rattle.std.proofs.Common.{◌≡◌, ◌≢◌, ℕ, ◌+◌, ◌<◌, ◌≤◌, Bool, true, false, ◌&&◌, not, eqb, eq-eqb, ne_eqb, List, [], ◌++◌, length, get_or}
use Rattle.std.proofs.Common.{set, Option, Some, None, if◌then◌else◌, inl, inr, refl, sym, ap, ◌∙◌, append_assoc, arith}
use Rattle.std.proofs.lemmas.Bool.{cases_eq}
use Rattle.std.proofs.lemmas.List.{length-set, get_or-set_same, get_or-set_other, get_or_default}
use Rattle.std.specs.Option.{option_eq}
use Rattle.task_set.specs.declared.order.Order.{Order}
use Rattle.strong_apa.specs.Dispatch.{is_same_occupant, release_of, take_of}
use Rattle.strong_apa.specs.State.{is_task}
use Rattle.sched_core.specs.CoreRows.{RowData, RowReleases, RowChanges, NumbersBecome, came}

-- the test found the occupant to be another
pub apart : (held occupant : Option ℕ) → false ≡ option_eq eqb occupant held → held ≢ occupant
apart None None e = absurd (cc e)
apart None (Some b) e = λ same. absurd (cc same)
apart (Some a) None e = λ same. absurd (cc same)
apart (Some a) (Some b) e = λ same.
    let one : b ≡ a = cc same in
    absurd (cc (e, eq-eqb b a one))

different : (held occupant : Option ℕ) → held ≢ occupant → is_same_occupant held occupant ≡ false
different None None other = absurd (other refl)
different None (Some b) other = refl
different (Some a) None other = refl
different (Some a) (Some b) other = ne_eqb a b (λ e. other (ap Some e))

-- whom it holds is released, and another occupant taken
pub row_changes : (old freed new : RowData) (takes : ℕ → ℕ) (occupant : Option ℕ) → old.held ≢ occupant → RowReleases old freed
    → new.orders ≡ freed.orders ++ take_of takes occupant → new.held ≡ occupant → freed.room ≤ new.room + 1
    → RowChanges old takes occupant new
row_changes old freed new takes occupant other released orders held room = record {
  orders = orders
      ∙ ap (λ (l : List Order). l ++ take_of takes occupant) released.orders
      ∙ append_assoc old.orders (release_of old.held) (take_of takes occupant)
      ∙ ap (λ (b : Bool). old.orders ++ (if b then [] else release_of old.held ++ take_of takes occupant))
      (sym (different old.held occupant other));
  held = held;
  room = omega (arith, released.room, room);
  kept = λ same. absurd (other same);
}

came_new : (held : Option ℕ) (t : ℕ) → held ≢ Some t → came t held (Some t) ≡ true
came_new None t other = ap (λ (b : Bool). b && true) (eq-eqb t t refl)
came_new (Some u) t other = (λ k. eq-eqb t t refl k && not (ne_eqb u t (λ e. other (ap Some e)) k))

came_other : (held : Option ℕ) (t u : ℕ) → t ≢ u → came t held (Some u) ≡ false
came_other held t u other = ap (λ (b : Bool). b && not (is_task t held)) (ne_eqb u t (λ e. other (sym e)))

-- the number of takes of the occupant counts on
pub numbers_count : (held occupant : Option ℕ) (takes : List ℕ) (task number : ℕ) → held ≢ occupant → occupant ≡ Some task
    → task < length takes → number ≡ get_or takes task 0
    → NumbersBecome (λ t n. if came t held occupant then n + 1 else n) takes (set takes task (number + 1))
numbers_count held occupant takes task number other is low at = record {
  count = length-set takes task (number + 1);
  each = λ t d inside. elim (cases_eq t task) [
    | inl same ↦
        let here : held ≢ Some t = λ e. other (e ∙ ap Some same ∙ sym is) in
        let comes : came t held occupant ≡ true = ap (came t held) (is ∙ ap Some (sym same)) ∙ came_new held t here in
        let value : get_or takes t d ≡ number = get_or_default takes t d 0 inside ∙ ap (λ k. get_or takes k 0) same ∙ sym at in
        ap (λ k. get_or (set takes k (number + 1)) t d) (sym same)
        ∙ get_or-set_same takes t (number + 1) d inside
        ∙ ap (λ n. n + 1) (sym value)
        ∙ ap (λ (b : Bool). if b then get_or takes t d + 1 else get_or takes t d) (sym comes)
    | inr apart ↦
        let stays : came t held occupant ≡ false = ap (came t held) is ∙ came_other held t task apart in
        get_or-set_other takes task t (number + 1) d apart
        ∙ ap (λ (b : Bool). if b then get_or takes t d + 1 else get_or takes t d) (sym stays)
  ];
}

-- nobody is taken
pub numbers_stay : (held occupant : Option ℕ) (takes : List ℕ) → occupant ≡ None
    → NumbersBecome (λ t n. if came t held occupant then n + 1 else n) takes takes
numbers_stay held occupant takes is = record {
  count = refl;
  each = λ t d inside. ap (λ (o : Option ℕ). if came t held o then get_or takes t d + 1 else get_or takes t d) (sym is);
}
