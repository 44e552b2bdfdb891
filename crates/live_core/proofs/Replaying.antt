-- Lists of moves that are added to.
use Rattle.std.proofs.Common.{◌≡◌, ◌≢◌, ℕ, zero, suc, ◌⊎◌, inl, inr, ◌+◌, ◌≤◌, List, [], ◌∷◌, ◌++◌, length, set, Option, Some, None, refl}
use Rattle.std.proofs.Common.{sym, ap, ◌∙◌, arith, append_assoc, length-append, length-set}
use Rattle.std.proofs.lemmas.List.{append-nil}
use Rattle.live_core.specs.declared.moves.Move.{Move}
use Rattle.live_core.specs.declared.moves.Move.TheVariants.{Start, Shift, Stop}
use Rattle.live_core.specs.Moves.{MovesLead, CanMove, IsNowhere, occupant_at, occupants_after}
use Rattle.live_core.specs.MoveData.{MoveData, DoesMore, IsOnce}

pub Replays-append : (a : List (Option ℕ)) (xs : List Move) (b : List (Option ℕ)) (ys : List Move) (c : List (Option ℕ)) → MovesLead a xs b
    → MovesLead b ys c → MovesLead a (xs ++ ys) c
Replays-append a [] b ys c first then = rw first then
Replays-append a (move ∷ xs) b ys c first then = (first.0, Replays-append (occupants_after a move) xs b ys c first.1 then)

-- no processor comes or goes
length-occupants_after : (a : List (Option ℕ)) (move : Move) → length (occupants_after a move) ≡ length a
length-occupants_after a (Start t to) = length-set a to (Some t)
length-occupants_after a (Shift t from to) = length-set (set a from None) to (Some t) ∙ length-set a from None
length-occupants_after a (Stop t from) = length-set a from None

pub Replays-length : (a : List (Option ℕ)) (moves : List Move) (b : List (Option ℕ)) → MovesLead a moves b → length b ≡ length a
Replays-length a [] b replays = ap length (sym replays)
Replays-length a (move ∷ rest) b replays = Replays-length (occupants_after a move) rest b replays.1 ∙ length-occupants_after a move

-- nothing is done
pub DoesMore-nothing : (data' : MoveData) → DoesMore 0 data' data'
DoesMore-nothing data' = record { more = []; added = sym (append-nil data'.moves); few = omega arith; replays = refl }

pub DoesMore-then : (m n k : ℕ) (a b c : MoveData) → DoesMore m a b → DoesMore n b c → m + n ≤ k → DoesMore k a c
DoesMore-then m n k a b c first then fits = record {
  more = first.more ++ then.more;
  added = then.added ∙ ap (λ (moves : List Move). moves ++ then.more) first.added ∙ append_assoc a.moves first.more then.more;
  few = (let f = first.few in let g = then.few in omega (arith, length-append first.more then.more));
  replays = Replays-append a.occupants first.more b.occupants then.more c.occupants first.replays then.replays;
}

-- how many moves there are then, and how many processors
pub DoesMore-count : (n : ℕ) (a b : MoveData) → DoesMore n a b → length b.moves ≤ length a.moves + n
DoesMore-count n a b does = let few = does.few in let e : length b.moves ≡ length (a.moves ++ does.more) = ap length does.added in
    omega (arith, e, length-append a.moves does.more)

pub DoesMore-length : (n : ℕ) (a b : MoveData) → DoesMore n a b → length b.occupants ≡ length a.occupants
DoesMore-length n a b does = Replays-length a.occupants does.more b.occupants does.replays

pub DoesMore-fewer : (m n : ℕ) (a b : MoveData) → m ≤ n → DoesMore m a b → DoesMore n a b
DoesMore-fewer m n a b fits does =
    record { more = does.more; added = does.added; few = (let few = does.few in omega arith); replays = does.replays }

-- where there were no moves, the moves are those that were added
pub DoesMore-replays : (n : ℕ) (a b : MoveData) → a.moves ≡ [] → DoesMore n a b → MovesLead a.occupants b.moves b.occupants
    × (length b.moves ≤ n)
DoesMore-replays n a b none does =
    let e : b.moves ≡ does.more = does.added ∙ ap (λ (moves : List Move). moves ++ does.more) none in
    rw e (does.replays, does.few)

-- ---- no task is on two processors
-- whoever is on p then was put there, or was there
pub occupant-set : (on : List (Option ℕ)) (q p : ℕ) (o : Option ℕ) → ((occupant_at (set on q o) p ≡ o) × (p ≡ q))
    ⊎ (occupant_at (set on q o) p ≡ occupant_at on p)
occupant-set [] q p o = inr refl
occupant-set (x ∷ on) zero zero o = inl (refl, refl)
occupant-set (x ∷ on) zero (suc p) o = inr refl
occupant-set (x ∷ on) (suc q) zero o = inr refl
occupant-set (x ∷ on) (suc q) (suc p) o = elim (occupant-set on q p o) [
  | inl there ↦ inl (there.0, ap suc there.1)
  | inr same ↦ inr same
]

pub occupant-set_none : (on : List (Option ℕ)) (q : ℕ) → occupant_at (set on q None) q ≡ None
occupant-set_none [] q = refl
occupant-set_none (x ∷ on) zero = refl
occupant-set_none (x ∷ on) (suc q) = occupant-set_none on q

pub None≢Some : (t : ℕ) → None ≢ Some t
None≢Some t e = cc

-- whoever is there after a stop was there before
pub there_before : (on : List (Option ℕ)) (q p t : ℕ) → occupant_at (set on q None) p ≡ Some t → occupant_at on p ≡ Some t
there_before on q p t e = elim (occupant-set on q p None) [
  | inl there ↦ absurd (None≢Some t (sym there.0 ∙ e))
  | inr same ↦ sym same ∙ e
]

pub stopped_once : (on : List (Option ℕ)) (q : ℕ) → IsOnce on → IsOnce (set on q None)
stopped_once on q once x y t e f = once x y t (there_before on q x t e) (there_before on q y t f)

-- the task of a processor is on none after its stop
pub stopped_nowhere : (on : List (Option ℕ)) (q t : ℕ) → IsOnce on → occupant_at on q ≡ Some t → IsNowhere (set on q None) t
stopped_nowhere on q t once here p there =
    let same : p ≡ q = once p q t (there_before on q p t there) here in
    None≢Some t (sym (occupant-set_none on q) ∙ (rw same at there))

started_once : (on : List (Option ℕ)) (q t : ℕ) → IsOnce on → IsNowhere on t → IsOnce (set on q (Some t))
started_once on q t once nowhere x y u e f = go (occupant-set on q x (Some t)) (occupant-set on q y (Some t))
  where
    go : ((occupant_at (set on q (Some t)) x ≡ Some t) × (x ≡ q)) ⊎ (occupant_at (set on q (Some t)) x ≡ occupant_at on x)
        → ((occupant_at (set on q (Some t)) y ≡ Some t) × (y ≡ q)) ⊎ (occupant_at (set on q (Some t)) y ≡ occupant_at on y) → x ≡ y
    go (inl a) (inl b) = a.1 ∙ sym b.1
    go (inl a) (inr b) = absurd (nowhere y (sym b ∙ f ∙ sym e ∙ a.0))
    go (inr a) (inl b) = absurd (nowhere x (sym a ∙ e ∙ sym f ∙ b.0))
    go (inr a) (inr b) = once x y u (sym a ∙ e) (sym b ∙ f)

once_after : (on : List (Option ℕ)) (move : Move) → IsOnce on → CanMove on move → IsOnce (occupants_after on move)
once_after on (Start t to) once can = started_once on to t once can.2
once_after on (Shift t from to) once can =
    started_once (set on from None) to t (stopped_once on from once) (stopped_nowhere on from t once can.2)
once_after on (Stop t from) once can = stopped_once on from once

pub Replays-once : (a : List (Option ℕ)) (moves : List Move) (b : List (Option ℕ)) → MovesLead a moves b → IsOnce a → IsOnce b
Replays-once a [] b replays once = rw (← replays) once
Replays-once a (move ∷ rest) b replays once = Replays-once (occupants_after a move) rest b replays.1 (once_after a move once replays.0)
