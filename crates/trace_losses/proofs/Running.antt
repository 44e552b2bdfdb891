-- Who runs before a switch, by who runs after it.
use Rattle.std.proofs.Common.{◌≡◌, ℕ, ◌<◌, ◌==◌, Bool, true, false, List, ◌∷◌, length, get_or, set, Option, None, Some, refl, sym, ap, ◌∙◌}
use Rattle.std.proofs.Common.{subst, inl, inr, arith, eq-eqb, ne_eqb, length-set}
use Rattle.std.specs.Prelude.{slice_get, ◌&&◌, ◌||◌, if◌then◌else◌}
use Rattle.std.proofs.lemmas.Bool.{cases_eq, eqb-true}
use Rattle.std.proofs.lemmas.List.{get_or-set_same, get_or-set_other}
use Rattle.std.proofs.lemmas.Option.{slice_get-get_or, slice_get_within}
use Rattle.trace_losses.specs.Runs.{is_some_of, runs, IsArmed, put_at, stopped, IsStopped}
use Rattle.trace_passages.specs.declared.turn.Turn.{Turn}
use Rattle.trace_passages.specs.declared.turn.Turn.TheVariants.{Switch}

-- ---- one task is put somewhere
pub put_length : (on : List (Option ℕ)) (task value : Option ℕ) → length (put_at on task value) ≡ length on
put_length on None value = refl
put_length on (Some m) value = length-set on m value

set_is : (on : List (Option ℕ)) (m : ℕ) (value : Option ℕ) (t : ℕ) → t < length on
    → slice_get (set on m value) t ≡ (if m == t then Some value else slice_get on t)
set_is on m value t below =
    let long : length (set on m value) ≡ length on = length-set on m value in
    let read = slice_get-get_or (set on m value) t None (omega (arith, long, below)) in
    elim (cases_eq m t) [
      | inl same ↦ (
          let within : m < length on = omega (arith, same, below) in
          let there : get_or (set on m value) t None ≡ value =
          ap (λ (n : ℕ). get_or (set on m value) n None) (sym same) ∙ get_or-set_same on m value None within in
          read ∙ ap Some there ∙ sym (ap (λ (b : Bool). if b then Some value else slice_get on t) (eq-eqb m t same)))
      | inr differs ↦
          read ∙ ap Some (get_or-set_other on m t value None (λ e. differs (sym e))) ∙ sym (slice_get-get_or on t None below)
          ∙ sym (ap (λ (b : Bool). if b then Some value else slice_get on t) (ne_eqb m t differs))
    ]

put_is : (on : List (Option ℕ)) (task value : Option ℕ) (t : ℕ) → t < length on
    → slice_get (put_at on task value) t ≡ (if is_some_of task t then Some value else slice_get on t)
put_is on None value t below = refl
put_is on (Some m) value t below = set_is on m value t below

-- ---- cases
pub some_true : (o : Option ℕ) (q : ℕ) → is_some_of o q ≡ true → o ≡ Some q
some_true None q e = cc
some_true (Some m) q e = ap Some (eqb-true m q e)

stopped_is : (o : Option ℕ) (q p : ℕ) (r : Bool) → is_some_of o p ≡ r → (s : Bool) → is_some_of o q ≡ s → (b : Bool) → (q == p) ≡ b
    → is_some_of (if s then None else o) p ≡ (if b then false else r)
stopped_is o q p r is true s true b = refl
stopped_is o q p r is true s false b = sym (ap (λ (on : Option ℕ). is_some_of on p) (some_true o q s) ∙ b) ∙ is
stopped_is o q p r is false s true b = ap (is_some_of o) (sym (eqb-true q p b)) ∙ s
stopped_is o q p r is false s false b = is

value_is : (o : Option ℕ) (q p : ℕ) (r : Bool) → is_some_of o p ≡ r → (f g b : Bool) → (q == p) ≡ b
    → is_some_of (if f then Some q else (if g then None else stopped o q)) p ≡ (if b || (f || g) then b && f else r)
value_is o q p r is true g true e = e
value_is o q p r is true g false e = e
value_is o q p r is false true true e = refl
value_is o q p r is false true false e = refl
value_is o q p r is false false true e = stopped_is o q p r is (is_some_of o q) refl true e
value_is o q p r is false false false e = stopped_is o q p r is (is_some_of o q) refl false e

same_value : (one other : Option ℕ) → ◌≡◌ {A = Option (Option ℕ)} (Some one) (Some other) → one ≡ other
same_value one other e = cc

chosen : (f g : Bool) (q : ℕ) (o : Option ℕ)
    → ◌≡◌ {A = Option (Option ℕ)} (if f then Some (Some q) else (if g then Some None else Some o))
    (Some (if f then Some q else (if g then None else o)))
chosen true g q o = refl
chosen false true q o = refl
chosen false false q o = refl

-- ---- a switch
pub switch_armed : (base : ℕ → ℕ → Bool) (after : List Turn) (old middle new : List (Option ℕ)) (q : ℕ) (from to : Option ℕ)
    → IsStopped old middle q (length old) → new ≡ put_at (put_at middle to None) from (Some q)
    → IsArmed base after old → IsArmed base (Switch q from to ∷ after) new
switch_armed base after old middle new q from to stops made armed t on p is =
    let between : List (Option ℕ) = put_at middle to None in
    let there : slice_get (put_at between from (Some q)) t ≡ Some on = subst (λ (all : List (Option ℕ)). slice_get all t ≡ Some on)
    made is in
    let within = slice_get_within (put_at between from (Some q)) t on there in
    let long = put_length between from (Some q) in
    let long_between : length between ≡ length middle = put_length middle to None in
    let same = stops.same in
    let in_between : t < length between = omega (arith, within, long) in
    let in_middle : t < length middle = omega (arith, in_between, long_between) in
    let below : t < length old = omega (arith, in_middle, same) in
    let o : Option ℕ = get_or old t None in
    let was : slice_get old t ≡ Some o = slice_get-get_or old t None below in
    let then_is : slice_get middle t ≡ Some (stopped o q) = stops.stops t o below was in
    let f : Bool = is_some_of from t in
    let g : Bool = is_some_of to t in
    let value : Option ℕ = if f then Some q else (if g then None else stopped o q) in
    let found : slice_get (put_at between from (Some q)) t ≡ Some value =
    put_is between from (Some q) t in_between
    ∙ ap (λ (x : Option (Option ℕ)). if f then Some (Some q) else x)
    (put_is middle to None t in_middle ∙ ap (λ (x : Option (Option ℕ)). if g then Some None else x) then_is)
    ∙ chosen f g q (stopped o q) in
    let on_is : on ≡ value = same_value on value (sym there ∙ found) in
    ap (λ (x : Option ℕ). is_some_of x p) on_is ∙ value_is o q p (runs base after t p) (armed t o p was) f g (q == p) refl
