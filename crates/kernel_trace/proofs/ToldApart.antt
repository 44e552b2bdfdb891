-- The threads that used lines tell apart.
use Rattle.std.proofs.Common.{◌≡◌, ℕ, zero, suc, ◌<◌, ◌≤◌, Bool, true, false, ◌||◌, ◌&&◌, nat_lt, nat_eq, List, [], ◌∷◌, ◌++◌, length}
use Rattle.std.proofs.Common.{refl, sym, ap, ◌∙◌, subst, inl, inr, arith, length-append}
use Rattle.std.specs.Prelude.{All, Contains, fold, slice_index_or, if◌then◌else◌}
use Rattle.std.proofs.lemmas.Bool.{eq-eqb, ne_eqb, lt-ltb, true≢false}
use Rattle.std.proofs.lemmas.List.Elements.{All-nil, All-push}
use Rattle.std.proofs.lemmas.List.Folds.{list_any-append}
use Rattle.kernel_trace.specs.Laws.{IsSwitchOf, IsNamedBy, EachOnce, UnlistedAreToldApart}
use Rattle.kernel_trace.specs.Passages.{UsedLine, unlisted_of}
use Rattle.kernel_trace.specs.Unlisted.{is_among, is_unlisted, with_id, with_named, with_said}
use Rattle.kernel_trace.specs.declared.change.Change.{Change}
use Rattle.kernel_trace.specs.declared.change.Change.TheVariants.{Wakeup, Switch}
use Rattle.kernel_trace.specs.declared.change.Thread.{Thread}
use Rattle.kernel_trace.proofs.Settled.{named_keeps, lines_keep, unlisted_few}

-- ---- each once
or_true : (a b : Bool) → a ≡ true → (a || b) ≡ true
or_true a b is = ap (λ (c : Bool). c || b) is

not_either : (a b : Bool) → (a || b) ≡ false → (a ≡ false) × (b ≡ false)
not_either true b e = cc
not_either false b e = (refl, e)

differs : (one last : ℕ) → nat_eq last one ≡ false → nat_eq one last ≡ false
differs one last other = ne_eqb one last (λ same. absurd (true≢false (sym (eq-eqb last one (sym same)) ∙ other)))

once_push : (unlisted : List ℕ) (last : ℕ) → is_among last unlisted ≡ false → EachOnce unlisted → EachOnce (unlisted ++ last ∷ [])
once_push [] last new once = (refl, tt)
once_push (one ∷ rest) last new once =
    let parts = not_either (nat_eq last one) (is_among last rest) new in (
      list_any-append (nat_eq one) rest (last ∷ []) ∙ ap (λ (b : Bool). b || is_among one (last ∷ [])) once.0
          ∙ ap (λ (b : Bool). b || false) (differs one last parts.0),
      once_push rest last parts.1 once.1,
    )

once_more : (unlisted : List ℕ) (last : ℕ) → EachOnce unlisted → EachOnce (with_id unlisted last)
once_more unlisted last once = by (is_among last unlisted) refl
  where
    by : (b : Bool) → is_among last unlisted ≡ b → EachOnce (if b then unlisted else unlisted ++ last ∷ [])
    by true some = once
    by false new = once_push unlisted last new once

-- ---- each is named
module _ (ids : List ℕ) (all : List UsedLine) where
  named_more : (known : List ℕ) (line : UsedLine) (thread : Thread) → Contains all line → IsSwitchOf line.said thread
      → All (IsNamedBy ids all) known
      → All (IsNamedBy ids all) (with_named ids known thread)
  named_more known line thread among switch named = by (is_unlisted ids thread) refl (nat_lt (length known) 1024)
    where
      put : is_unlisted ids thread ≡ true → (b : Bool) → All (IsNamedBy ids all) (if b then known else known ++ thread.id ∷ [])
      put is true = named
      put is false =
          All-push (IsNamedBy ids all) known thread.id named
          (record { line = line; thread = thread; among = among; switch = switch; unlisted = is; same = refl })

      by : (a : Bool) → is_unlisted ids thread ≡ a → (b : Bool)
          → All (IsNamedBy ids all) (if a && b then with_id known thread.id else known)
      by true is true = put is (is_among thread.id known)
      by true is false = named
      by false isnt b = named

  said_more : (known : List ℕ) (line : UsedLine) (change : Change) → line.said ≡ change → Contains all line → All (IsNamedBy ids all) known
      → All (IsNamedBy ids all) (with_said ids known change)
  said_more known line (Wakeup id) is among named = named
  said_more known line (Switch from stays to) is among named =
      named_more (with_named ids known from) line to among (subst (λ (change : Change). IsSwitchOf change to) (sym is) (inr refl))
      (named_more known line from among (subst (λ (change : Change). IsSwitchOf change from) (sym is) (inl refl)) named)

  all_named : (known : List ℕ) (rest : List UsedLine) → ((line : UsedLine) → Contains rest line → Contains all line)
      → All (IsNamedBy ids all) known
      → All (IsNamedBy ids all) (fold (λ so_far (line : UsedLine). with_said ids so_far line.said) known rest)
  all_named known [] within named = named
  all_named known (line ∷ rest) within named =
      all_named (with_said ids known line.said) rest (λ other there. within other (suc there.0, (let below = there.1 in omega (arith, below)), there.2))
      (said_more known line line.said refl (within line (0, omega arith, refl)) named)

-- ---- all that are named
module _ (ids : List ℕ) where
  abbrev after : List ℕ → List UsedLine → List ℕ
  after known used = fold (λ so_far (line : UsedLine). with_said ids so_far line.said) known used

  still : (id last : ℕ) (known : List ℕ) → is_among id known ≡ true → is_among id (with_id known last) ≡ true
  still id last known is = by (is_among last known)
    where
      by : (b : Bool) → is_among id (if b then known else known ++ last ∷ []) ≡ true
      by true = is
      by false = list_any-append (nat_eq id) known (last ∷ []) ∙ or_true (is_among id known) (is_among id (last ∷ [])) is

  stays_among : (id : ℕ) (known : List ℕ) (used : List UsedLine) → is_among id known ≡ true → is_among id (after known used) ≡ true
  stays_among id known used is =
      lines_keep (λ unlisted. is_among id unlisted ≡ true) ids (λ unlisted thread holds new few. still id thread.id unlisted holds) known used
      is

  longer_id : (n last : ℕ) (known : List ℕ) → n ≤ length known → n ≤ length (with_id known last)
  longer_id n last known most = by (is_among last known)
    where
      by : (b : Bool) → n ≤ length (if b then known else known ++ last ∷ [])
      by true = most
      by false = let long = length-append known (last ∷ []) in omega (arith, most, long)

  grows : (n : ℕ) (known : List ℕ) (used : List UsedLine) → n ≤ length known → n ≤ length (after known used)
  grows n known used most =
      lines_keep (λ unlisted. n ≤ length unlisted) ids (λ unlisted thread holds new few. longer_id n thread.id unlisted holds) known used most

  longer_named : (n : ℕ) (known : List ℕ) (thread : Thread) → n ≤ length known → n ≤ length (with_named ids known thread)
  longer_named n known thread most =
      named_keeps (λ unlisted. n ≤ length unlisted) ids (λ unlisted other holds new few. longer_id n other.id unlisted holds) known thread most

  stays_named : (id : ℕ) (known : List ℕ) (thread : Thread) → is_among id known ≡ true → is_among id (with_named ids known thread) ≡ true
  stays_named id known thread is =
      named_keeps (λ unlisted. is_among id unlisted ≡ true) ids (λ unlisted other holds new few. still id other.id unlisted holds) known thread
      is

  put_in : (known : List ℕ) (id : ℕ) → is_among id (with_id known id) ≡ true
  put_in known id = by (is_among id known) refl
    where
      by : (b : Bool) → is_among id known ≡ b → is_among id (if b then known else known ++ id ∷ []) ≡ true
      by true is = is
      by false none =
          list_any-append (nat_eq id) known (id ∷ [])
          ∙ ap (λ (a : Bool). a || is_among id (id ∷ [])) none
          ∙ or_true (nat_eq id id) false (eq-eqb id id refl)

  put_named : (known : List ℕ) (thread : Thread) → is_unlisted ids thread ≡ true → length known < 1024
      → is_among thread.id (with_named ids known thread) ≡ true
  put_named known thread is few =
      ap (λ (b : Bool). is_among thread.id (if b && nat_lt (length known) 1024 then with_id known thread.id else known)) is
      ∙ ap (λ (b : Bool). is_among thread.id (if true && b then with_id known thread.id else known)) (lt-ltb (length known) 1024 few)
      ∙ put_in known thread.id

  put_said : (known : List ℕ) (change : Change) (thread : Thread) → IsSwitchOf change thread → is_unlisted ids thread ≡ true
      → length (with_said ids known change) < 1024
      → is_among thread.id (with_said ids known change) ≡ true
  put_said known (Wakeup id) thread switch is few = absurd switch
  put_said known (Switch from stays to) thread (inl same) is few =
      let first = longer_named (length known) known from (omega arith) in
      let second = longer_named (length known) (with_named ids known from) to first in
      stays_named thread.id (with_named ids known from) to
      (subst (λ (one : Thread). is_among thread.id (with_named ids known one) ≡ true) same
      (put_named known thread is (omega (arith, second, few))))
  put_said known (Switch from stays to) thread (inr same) is few =
      let before = with_named ids known from in
      let longer = longer_named (length before) before to (omega arith) in
      subst (λ (one : Thread). is_among thread.id (with_named ids before one) ≡ true) same
      (put_named before thread is (omega (arith, longer, few)))

  all_put : (known : List ℕ) (used : List UsedLine) (line : UsedLine) (thread : Thread) (k : ℕ) → k < length used
      → slice_index_or used k line ≡ line
      → IsSwitchOf line.said thread → is_unlisted ids thread ≡ true → length (after known used) < 1024
      → is_among thread.id (after known used) ≡ true
  all_put known [] line thread k below there switch is few = absurd (omega (arith, below))
  all_put known (first ∷ rest) line thread zero below there switch is few =
      let known_then = with_said ids known first.said in
      let longer = grows (length known_then) known_then rest (omega arith) in
      stays_among thread.id known_then rest
      (put_said known first.said thread (subst (λ (one : UsedLine). IsSwitchOf one.said thread) (sym there) switch) is
      (omega (arith, longer, few)))
  all_put known (first ∷ rest) line thread (suc k) below there switch is few =
      all_put (with_said ids known first.said) rest line thread k (omega (arith, below)) there switch is few

-- ---- the law
pub unlisted_are_told_apart : UnlistedAreToldApart
unlisted_are_told_apart ids used = record {
  few = unlisted_few ids used;
  once = lines_keep EachOnce ids (λ unlisted thread once is few. once_more unlisted thread.id once) [] used tt;
  named = all_named ids used [] used (λ line there. there) (All-nil (IsNamedBy ids used));
  complete = λ few id named.
      (let among = named.among in
      subst (λ (n : ℕ). is_among n (unlisted_of ids used) ≡ true) named.same
      (all_put ids [] used named.line named.thread among.0 among.1 among.2 named.switch named.unlisted few));
}
