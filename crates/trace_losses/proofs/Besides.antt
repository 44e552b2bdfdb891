-- Who ran beside a lost task, where some equal moments follow.
use Rattle.std.proofs.Common.{◌≡◌, ℕ, zero, suc, ◌+◌, ◌≤◌, Bool, true, false, List, [], ◌∷◌, ◌++◌, length, get_or, Some, refl, sym, ap, ◌∙◌}
use Rattle.std.proofs.Common.{subst, arith, append-nil, add-zero}
use Rattle.std.specs.Prelude.{replicate, slice_get, filter, count_by, if◌then◌else◌}
use Rattle.std.proofs.lemmas.List.Elements.{filter-append}
use Rattle.trace_losses.specs.Beside.{IsBeside, is_loss}
use Rattle.trace_losses.specs.Book.{nothing_seen, of_task}
use Rattle.trace_losses.specs.Tally.{more}
use Rattle.trace_losses.specs.Watch.{is_rival, AreMore}
use Rattle.trace_losses.specs.declared.seen.Seen.{Seen}
use Rattle.trace_losses.proofs.Books.{task_more}
use Rattle.trace_losses.proofs.Tallies.{count_more}
use Rattle.trace_losses.proofs.Watches.{came, none_counted}

filter_same : {A : Type 0} (p : A → Bool) (x : A) (units : ℕ) (b : Bool) → p x ≡ b
    → filter p (replicate units x) ≡ replicate (if b then units else 0) x
filter_same p x zero true is = refl
filter_same p x zero false is = refl
filter_same p x (suc units) true is = filter_cons p x (replicate units x) true is ∙ ap (λ rest. x ∷ rest) (filter_same p x units true is)
  where
    filter_cons : {A : Type 0} (p : A → Bool) (x : A) (xs : List A) (b : Bool) → p x ≡ b
        → filter p (x ∷ xs) ≡ (if b then x ∷ filter p xs else filter p xs)
    filter_cons p x xs b is = ap (λ (c : Bool). if c then x ∷ filter p xs else filter p xs) is
filter_same p x (suc units) false is = filter_cons p x (replicate units x) false is ∙ filter_same p x units false is
  where
    filter_cons : {A : Type 0} (p : A → Bool) (x : A) (xs : List A) (b : Bool) → p x ≡ b
        → filter p (x ∷ xs) ≡ (if b then x ∷ filter p xs else filter p xs)
    filter_cons p x xs b is = ap (λ (c : Bool). if c then x ∷ filter p xs else filter p xs) is

with_loss : (moments : List (List Seen)) (units : ℕ) (seen : List Seen) (b : Bool) → is_loss seen ≡ b
    → filter is_loss (moments ++ replicate units seen) ≡ filter is_loss moments ++ replicate (if b then units else 0) seen
with_loss moments units seen b is =
    filter-append is_loss moments (replicate units seen)
    ∙ ap (λ (rest : List (List Seen)). filter is_loss moments ++ rest) (filter_same is_loss seen units b is)

-- moments more
pub beside_more : (moments : List (List Seen)) (old new : List ℕ) (units some : ℕ) (seen : List Seen)
    → some ≡ (if is_loss seen then units else 0) → AreMore old new seen some (length old)
    → IsBeside moments old → IsBeside (moments ++ replicate units seen) new
beside_more moments old new units some seen is_some counted beside t count is =
    let found = came old new seen some (length old) counted refl t count is in
    let at : Seen = get_or seen t nothing_seen in
    let whole : of_task t (filter is_loss (moments ++ replicate units seen)) ≡ of_task t (filter is_loss moments) ++ replicate some at =
    ap (of_task t) (with_loss moments units seen (is_loss seen) refl)
    ∙ ap (λ (n : ℕ). of_task t (filter is_loss moments ++ replicate n seen)) (sym is_some)
    ∙ task_more t some (filter is_loss moments) seen in
    sym found.2
    ∙ count_more is_rival (of_task t (filter is_loss moments)) some found.0 at (beside t found.0 found.1)
    ∙ sym (ap (count_by is_rival) whole)

pub some_units : (units some : ℕ) (b : Bool) → some ≡ (if b then units else 0) → some ≤ units
some_units units some true is = omega (arith, is)
some_units units some false is = omega (arith, is)

-- before any moment
pub beside_none : (counts : List ℕ) (threads : ℕ) → counts ≡ replicate threads 0 → IsBeside [] counts
beside_none counts threads zeros t count is = none_counted counts threads zeros t count is
