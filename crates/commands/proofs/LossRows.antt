-- What is told of each task, by what it lost.
use Rattle.std.proofs.Common.{◌≡◌, ℕ, suc, ◌+◌, ◌<◌, ◌≤◌, ◌^◌, Bool, true, false, List, [], ◌∷◌, ◌++◌, length, take, get_or, Option, None}
use Rattle.std.proofs.Common.{Some, refl, ap, ◌∙◌, subst, arith}
use Rattle.std.specs.Prelude.{All, IfSome, slice_get, slice_index_or}
use Rattle.std.proofs.lemmas.List.{length-map, length-take-le, take_more}
use Rattle.std.proofs.lemmas.List.Elements.{All-nil, All-cons, All-head, All-tail, All-weaker}
use Rattle.kernel_trace.specs.declared.loss_text.LossRow.{LossRow}
use Rattle.task_set.specs.TaskSet.{SetData, priorities}
use Rattle.trace_losses.specs.Losses.{AreLosses}
use Rattle.trace_losses.specs.Watch.{IsMostOf}
use Rattle.trace_losses.specs.declared.loss.Loss.{Loss}
use Rattle.trace_passages.specs.declared.passage.Passage.{Passage}
use Rattle.commands.specs.Lost.{told_row, told_rows, AreNumbered}
use Rattle.commands.specs.LostChain.{no_loss}

-- the rival is one of so many tasks
abbrev HasRivalOf : ℕ → Loss → Type 0
HasRivalOf tasks loss = IfSome loss.rival (λ t. t < tasks)

rival_within : (counts priorities : List ℕ) (tasks : ℕ) (rival : Option ℕ) → IsMostOf counts priorities tasks rival
    → IfSome rival (λ t. t < tasks)
rival_within counts priorities tasks None most = tt
rival_within counts priorities tasks (Some u) most = most.within

each_holds : (P : Loss → Type 0) (losses : List Loss) → ((k : ℕ) (loss : Loss) → slice_get losses k ≡ Some loss → P loss) → All P losses
each_holds P [] each = All-nil P
each_holds P (loss ∷ rest) each = All-cons P loss rest (each 0 loss refl) (each_holds P rest (λ k other e. each (suc k) other e))

rivals_within : (set : SetData) (threads : ℕ) (passages : List Passage) (units : ℕ) (losses : List Loss) (beside : List ℕ)
    → AreLosses set threads passages units losses beside → All (HasRivalOf (length set.tasks)) losses
rivals_within set threads passages units losses beside are =
    let count : length (priorities set) ≡ length set.tasks = length-map set.tasks _ in
    let each = are.losses.each in
    each_holds (HasRivalOf (length set.tasks)) losses
    (λ k loss e. let rival = (each k loss e).rival in
    subst (λ (n : ℕ). HasRivalOf n loss) count (rival_within rival.counts (priorities set) (length (priorities set)) loss.rival rival.most))

pub numbered : (set : SetData) (threads : ℕ) (passages : List Passage) (units : ℕ) (losses : List Loss) (beside : List ℕ)
    → length set.tasks ≤ 1024
    → AreLosses set threads passages units losses beside → AreNumbered losses
numbered set threads passages units losses beside bound are =
    All-weaker (HasRivalOf (length set.tasks)) (HasRivalOf (2 ^ 32)) (λ loss within. narrow loss.rival within) losses
    (rivals_within set threads passages units losses beside are)
  where
    narrow : (rival : Option ℕ) → IfSome rival (λ t. t < length set.tasks) → IfSome rival (λ t. t < 2 ^ 32)
    narrow None within = tt
    narrow (Some u) within = omega (arith, bound, within)

-- ---- rows
-- a row has a rival of so many tasks
abbrev pub IsRowOf : ℕ → Option LossRow → Type 0
IsRowOf tasks row = IfSome row (λ (row : LossRow). IfSome row.rival (λ t. t < tasks))

told_within : (tasks : ℕ) (mentioned : Bool) (loss : Loss) → HasRivalOf tasks loss → IsRowOf tasks (told_row mentioned loss)
told_within tasks true loss within = within
told_within tasks false loss within = tt

all_within : (tasks : ℕ) (mentioned : List Bool) (t : ℕ) (losses : List Loss) → All (HasRivalOf tasks) losses
    → All (IsRowOf tasks) (told_rows mentioned t losses)
all_within tasks mentioned t [] within = All-nil (IsRowOf tasks)
all_within tasks mentioned t (loss ∷ rest) within =
    All-cons (IsRowOf tasks) (told_row (slice_index_or mentioned t false) loss) (told_rows mentioned (t + 1) rest)
    (told_within tasks (slice_index_or mentioned t false) loss (All-head (HasRivalOf tasks) loss rest within))
    (all_within tasks mentioned (t + 1) rest (All-tail (HasRivalOf tasks) loss rest within))

pub rows_within : (set : SetData) (threads : ℕ) (passages : List Passage) (units : ℕ) (losses : List Loss) (beside : List ℕ)
    (mentioned : List Bool) → AreLosses set threads passages units losses beside
    → All (IsRowOf (length set.tasks)) (told_rows mentioned 0 losses)
rows_within set threads passages units losses beside mentioned are =
    all_within (length set.tasks) mentioned 0 losses (rivals_within set threads passages units losses beside are)

-- a row for each loss
pub rows_length : (mentioned : List Bool) (t : ℕ) (losses : List Loss) → length (told_rows mentioned t losses) ≡ length losses
rows_length mentioned t [] = refl
rows_length mentioned t (loss ∷ rest) = let same = rows_length mentioned (t + 1) rest in omega (arith, same)

pub losses_length : (set : SetData) (threads : ℕ) (passages : List Passage) (units : ℕ) (losses : List Loss) (beside : List ℕ)
    → AreLosses set threads passages units losses beside → length losses ≡ length set.tasks
losses_length set threads passages units losses beside are = are.losses.tasks ∙ length-map set.tasks _

-- one row more
pub told_push : (mentioned : List Bool) (t n : ℕ) (losses : List Loss) (loss : Loss) → t + length losses ≡ n
    → told_rows mentioned t (losses ++ loss ∷ []) ≡ told_rows mentioned t losses ++ told_row (slice_index_or mentioned n false) loss ∷ []
told_push mentioned t n [] loss place =
    let same : t ≡ n = omega (arith, place) in
    ap (λ (k : ℕ). told_row (slice_index_or mentioned k false) loss ∷ []) same
told_push mentioned t n (first ∷ rest) loss place =
    let next : t + 1 + length rest ≡ n = omega (arith, place) in
    ap (λ (rows : List (Option LossRow)). told_row (slice_index_or mentioned t false) first ∷ rows)
    (told_push mentioned (t + 1) n rest loss next)

pub told_more : (mentioned : List Bool) (t : ℕ) (losses : List Loss) → t < length losses
    → told_rows mentioned 0 (take (t + 1) losses)
    ≡ told_rows mentioned 0 (take t losses) ++ told_row (slice_index_or mentioned t false) (get_or losses t no_loss) ∷ []
told_more mentioned t losses below =
    let long = length-take-le t losses (omega (arith, below)) in
    ap (told_rows mentioned 0) (take_more losses t no_loss below)
    ∙ told_push mentioned 0 t (take t losses) (get_or losses t no_loss) (omega (arith, long))
