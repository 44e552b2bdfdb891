-- A step back over a line, and on over it again.
use Rattle.std.proofs.Common.{◌≡◌, ℕ, ◌+◌, ◌<◌, ◌≤◌, ◌⊎◌, ◌==◌, Bool, true, false, List, length, get_or, set, Option, None, Some, refl, sym}
use Rattle.std.proofs.Common.{ap, ◌∙◌, subst, inl, inr, arith, eq-eqb, ne_eqb, length-set}
use Rattle.std.specs.Prelude.{slice_get, replicate, if◌then◌else◌}
use Rattle.std.specs.Option.{ForSome}
use Rattle.std.proofs.lemmas.Bool.{cases_eq, cases_lt, eqb-true, false≢true}
use Rattle.std.proofs.lemmas.List.{get_or-set_same, get_or-set_other, get_or_past, get_or-replicate, length-replicate, ext_get_or}
use Rattle.std.proofs.lemmas.Option.{slice_get-get_or, get_or_from_slice_get}
use Rattle.trace_losses.specs.Runs.{RunApart, IsArmed, IsHolder, IsStopped, is_some_of, put_at, restored, runs, stopped}
use Rattle.trace_losses.specs.Walk.{IsFormer, StepsBack, place_of}
use Rattle.trace_losses.specs.declared.former.Former.{Former}
use Rattle.trace_passages.specs.Turns.{AreThreads}
use Rattle.trace_passages.specs.declared.turn.Turn.{Turn}
use Rattle.trace_passages.specs.declared.turn.Turn.TheVariants.{Switch, Woken}
use Rattle.trace_losses.proofs.Running.{put_length, some_true}

-- ---- reading
set_read : (on : List (Option ℕ)) (m : ℕ) (value : Option ℕ) (t : ℕ) → t < length on
    → get_or (set on m value) t None ≡ (if m == t then value else get_or on t None)
set_read on m value t below = elim (cases_eq m t) [
  | inl same ↦
      ap (λ (n : ℕ). get_or (set on m value) n None) (sym same)
      ∙ get_or-set_same on m value None (omega (arith, same, below))
      ∙ sym (ap (λ (b : Bool). if b then value else get_or on t None) (eq-eqb m t same))
  | inr differs ↦
      get_or-set_other on m t value None (λ e. differs (sym e))
      ∙ sym (ap (λ (b : Bool). if b then value else get_or on t None) (ne_eqb m t differs))
]

put_read : (on : List (Option ℕ)) (thread value : Option ℕ) (t : ℕ) → t < length on
    → get_or (put_at on thread value) t None ≡ (if is_some_of thread t then value else get_or on t None)
put_read on None value t below = refl
put_read on (Some m) value t below = set_read on m value t below

stopped_read : (old middle : List (Option ℕ)) (q t : ℕ) → IsStopped old middle q (length old) → t < length old
    → get_or middle t None ≡ stopped (get_or old t None) q
stopped_read old middle q t stops below =
    get_or_from_slice_get middle t (stopped (get_or old t None) q) None
    (stops.stops t (get_or old t None) below (slice_get-get_or old t None below))

-- where a thread is after a step back over a switch
back_read : (old new : List (Option ℕ)) (q : ℕ) (from to : Option ℕ) (t : ℕ) → StepsBack (Switch q from to) old new → t < length old
    → get_or new t None ≡ (if is_some_of from t then Some q else (if is_some_of to t then None else stopped (get_or old t None) q))
back_read old new q from to t (middle, stops, made) below =
    let same = stops.same in
    let in_middle : t < length middle = omega (arith, same, below) in
    let long : length (put_at middle to None) ≡ length middle = put_length middle to None in
    ap (λ (all : List (Option ℕ)). get_or all t None) made
    ∙ put_read (put_at middle to None) from (Some q) t (omega (arith, long, in_middle))
    ∙ ap (λ (x : Option ℕ). if is_some_of from t then Some q else x)
    (put_read middle to None t in_middle
    ∙ ap (λ (x : Option ℕ). if is_some_of to t then None else x) (stopped_read old middle q t stops below))

pub back_length : (turn : Turn) (old new : List (Option ℕ)) → StepsBack turn old new → length new ≡ length old
back_length (Woken task) old new made = ap length made ∙ length-set old task None
back_length (Switch q from to) old new (middle, stops, made) =
    ap length made ∙ put_length (put_at middle to None) from (Some q) ∙ put_length middle to None ∙ stops.same

-- ---- no two threads on one processor
on_within : (on : List (Option ℕ)) (t p : ℕ) → is_some_of (get_or on t None) p ≡ true → t < length on
on_within on t p is = elim (cases_lt t (length on)) [
  | inl below ↦ below
  | inr beyond ↦ absurd (false≢true (sym (ap (λ (o : Option ℕ). is_some_of o p) (get_or_past on t None beyond)) ∙ is))
]

-- whoever has stopped is not there
stopped_off : (o : Option ℕ) (q p : ℕ) (b : Bool) → is_some_of o q ≡ b → is_some_of (if b then None else o) p ≡ true
    → (is_some_of o p ≡ true) × (p ≡ q → ⊥)
stopped_off o q p true is there = absurd (false≢true there)
stopped_off o q p false is there = (there, λ same. false≢true (sym is ∙ ap (is_some_of o) (sym same) ∙ there))

-- what is said of a thread that is on p after the step
is_there : (o : Option ℕ) (q p : ℕ) (f g : Bool) → is_some_of (if f then Some q else (if g then None else stopped o q)) p ≡ true
    → ((f ≡ true) × (q ≡ p)) ⊎ ((is_some_of o p ≡ true) × (p ≡ q → ⊥))
is_there o q p true g is = inl (refl, eqb-true q p is)
is_there o q p false true is = absurd (false≢true is)
is_there o q p false false is = inr (stopped_off o q p (is_some_of o q) refl is)

one_thread : (thread : Option ℕ) (t u : ℕ) → is_some_of thread t ≡ true → is_some_of thread u ≡ true → t ≡ u
one_thread None t u one other = absurd (false≢true one)
one_thread (Some m) t u one other = sym (eqb-true m t one) ∙ eqb-true m u other

pub apart_back : (turn : Turn) (old new : List (Option ℕ)) → StepsBack turn old new → RunApart old → RunApart new
apart_back (Woken task) old new made apart t u p one other =
    let was : (v : ℕ) → is_some_of (get_or new v None) p ≡ true → is_some_of (get_or old v None) p ≡ true = λ v is.
    (let long : length new ≡ length old = back_length (Woken task) old new made in
    let within = on_within new v p is in
    let read : get_or new v None ≡ (if task == v then None else get_or old v None) =
    ap (λ (all : List (Option ℕ)). get_or all v None) made ∙ set_read old task None v (omega (arith, long, within)) in
    woken_off (get_or old v None) p (task == v) (sym (ap (λ (o : Option ℕ). is_some_of o p) read) ∙ is)) in
    apart t u p (was t one) (was u other)
  where
    woken_off : (o : Option ℕ) (p : ℕ) (b : Bool) → is_some_of (if b then None else o) p ≡ true → is_some_of o p ≡ true
    woken_off o p true is = absurd (false≢true is)
    woken_off o p false is = is
apart_back (Switch q from to) old new steps apart t u p one other =
    let there : (v : ℕ) → is_some_of (get_or new v None) p ≡ true
    → ((is_some_of from v ≡ true) × (q ≡ p)) ⊎ ((is_some_of (get_or old v None) p ≡ true) × (p ≡ q → ⊥)) = λ v is.
    (let long : length new ≡ length old = back_length (Switch q from to) old new steps in
    let within = on_within new v p is in
    is_there (get_or old v None) q p (is_some_of from v) (is_some_of to v)
    (sym (ap (λ (o : Option ℕ). is_some_of o p) (back_read old new q from to v steps (omega (arith, long, within)))) ∙ is)) in
    elim (there t one) [
      | inl first ↦ elim (there u other) [
        | inl second ↦ one_thread from t u first.0 second.0
        | inr second ↦ absurd (second.1 (sym first.1))
      ]
      | inr first ↦ elim (there u other) [
        | inl second ↦ absurd (first.1 (sym second.1))
        | inr second ↦ apart t u p first.0 second.0
      ]
    ]

-- nobody is anywhere
pub apart_none : (on : List (Option ℕ)) (n : ℕ) → on ≡ replicate n None → RunApart on
apart_none on n none t u p one other =
    let within = on_within on t p one in
    let long : length on ≡ n = ap length none ∙ length-replicate n None in
    let there : get_or on t None ≡ None =
    ap (λ (all : List (Option ℕ)). get_or all t None) none ∙ get_or-replicate n t None None (omega (arith, within, long)) in
    absurd (false≢true (sym (ap (λ (o : Option ℕ). is_some_of o p) there) ∙ one))

-- ---- on again
place_there : (on : List (Option ℕ)) (thread : Option ℕ) (t : ℕ) → is_some_of thread t ≡ true → place_of on thread ≡ get_or on t None
place_there on None t is = absurd (false≢true is)
place_there on (Some m) t is = ap (λ (n : ℕ). get_or on n None) (eqb-true m t is)

-- who was on the processor
holder_there : (on : List (Option ℕ)) (q done : ℕ) (holder : Option ℕ) (t : ℕ) → IsHolder on q done holder → is_some_of holder t ≡ true
    → Some q ≡ get_or on t None
holder_there on q done None t holds is = absurd (false≢true is)
holder_there on q done (Some u) t holds is =
    sym (some_true (get_or on u None) q holds.1) ∙ ap (λ (n : ℕ). get_or on n None) (eqb-true u t is)

-- who was not on it stays where it is
holder_not : (on : List (Option ℕ)) (q : ℕ) (holder : Option ℕ) (t : ℕ) → RunApart on → IsHolder on q (length on) holder → t < length on
    → is_some_of holder t ≡ false → is_some_of (get_or on t None) q ≡ false
holder_not on q None t apart holds below is = holds t below
holder_not on q (Some u) t apart holds below is = other (is_some_of (get_or on t None) q) refl
  where
    other : (b : Bool) → is_some_of (get_or on t None) q ≡ b → b ≡ false
    other false there = refl
    other true there = absurd (false≢true (sym is ∙ eq-eqb u t (apart u t q holds.1 there)))

again : (o p to_was from_was : Option ℕ) (f g s : Bool) (value : Option ℕ) → (f ≡ true → from_was ≡ o) → (g ≡ true → to_was ≡ o)
    → (s ≡ true → p ≡ o) → (f ≡ false → g ≡ false → s ≡ false → value ≡ o)
    → (if f then from_was else (if g then to_was else (if s then p else value))) ≡ o
again o p to_was from_was true g s value from to held rest = from refl
again o p to_was from_was false true s value from to held rest = to refl
again o p to_was from_was false false true value from to held rest = held refl
again o p to_was from_was false false false value from to held rest = rest refl refl refl

rests : (o : Option ℕ) (q : ℕ) (f g : Bool) → f ≡ false → g ≡ false → is_some_of o q ≡ false
    → (if f then Some q else (if g then None else stopped o q)) ≡ o
rests o q true g no_from no_to none = absurd (false≢true (sym no_from))
rests o q false true no_from no_to none = absurd (false≢true (sym no_to))
rests o q false false no_from no_to none = ap (λ (b : Bool). if b then None else o) none

pub restored_back : (turn : Turn) (old new : List (Option ℕ)) (former : Former) → StepsBack turn old new → IsFormer turn old former
    → RunApart old → AreThreads (length old) turn → restored turn former new ≡ old
restored_back (Woken task) old new former made was apart within =
    let long : length new ≡ length old = back_length (Woken task) old new made in
    let all : length (set new task former.from) ≡ length old = length-set new task former.from ∙ long in
    ext_get_or None (set new task former.from) old all
    (λ t below.
    (let here : t < length old = omega (arith, below, all) in
    set_read new task former.from t (omega (arith, here, long))
    ∙ ap (λ (o : Option ℕ). if task == t then former.from else o)
    (ap (λ (list : List (Option ℕ)). get_or list t None) made ∙ set_read old task None t here)
    ∙ woken_again (get_or old t None) former.from (task == t)
    (λ same. was.1 ∙ ap (λ (n : ℕ). get_or old n None) (eqb-true task t same))))
  where
    woken_again : (o from_was : Option ℕ) (b : Bool) → (b ≡ true → from_was ≡ o)
        → (if b then from_was else (if b then None else o)) ≡ o
    woken_again o from_was true same = same refl
    woken_again o from_was false same = refl
restored_back (Switch q from to) old new former steps was apart within =
    let holder = former.stopped in
    let one : List (Option ℕ) = put_at new holder (Some q) in
    let two : List (Option ℕ) = put_at one to former.to in
    let three : List (Option ℕ) = put_at two from former.from in
    let long : length new ≡ length old = back_length (Switch q from to) old new steps in
    let long_one : length one ≡ length new = put_length new holder (Some q) in
    let long_two : length two ≡ length one = put_length one to former.to in
    let long_three : length three ≡ length two = put_length two from former.from in
    ext_get_or None three old (long_three ∙ long_two ∙ long_one ∙ long)
    (λ t below.
    (let here : t < length old = omega (arith, below, long_three, long_two, long_one, long) in
    let o : Option ℕ = get_or old t None in
    put_read two from former.from t (omega (arith, here, long, long_one, long_two))
    ∙ ap (λ (x : Option ℕ). if is_some_of from t then former.from else x)
    (put_read one to former.to t (omega (arith, here, long, long_one))
    ∙ ap (λ (x : Option ℕ). if is_some_of to t then former.to else x)
    (put_read new holder (Some q) t (omega (arith, here, long))
    ∙ ap (λ (x : Option ℕ). if is_some_of holder t then Some q else x) (back_read old new q from to t steps here)))
    ∙ again o (Some q) former.to former.from (is_some_of from t) (is_some_of to t) (is_some_of holder t)
    (if is_some_of from t then Some q else (if is_some_of to t then None else stopped o q))
    (λ is. was.1 ∙ place_there old from t is) (λ is. was.2 ∙ place_there old to t is)
    (λ is. holder_there old q (length old) holder t was.0 is)
    (λ no_from no_to none. rests o q (is_some_of from t) (is_some_of to t) no_from no_to
    (holder_not old q holder t apart was.0 here none))))

-- ---- one list
same_place : (one other : Option ℕ) → ((p : ℕ) → is_some_of one p ≡ is_some_of other p) → one ≡ other
same_place None None same = refl
same_place None (Some q) same = absurd (false≢true (same q ∙ eq-eqb q q refl))
same_place (Some q) other same = sym (some_true other q (sym (same q) ∙ eq-eqb q q refl))

pub one_armed : (base : ℕ → ℕ → Bool) (after : List Turn) (one other : List (Option ℕ)) → length one ≡ length other
    → IsArmed base after one → IsArmed base after other → one ≡ other
one_armed base after one other long first second =
    ext_get_or None one other long
    (λ t below.
    same_place (get_or one t None) (get_or other t None)
    (λ p.
    first t (get_or one t None) p (slice_get-get_or one t None below)
    ∙ sym (second t (get_or other t None) p (slice_get-get_or other t None (omega (arith, below, long))))))
