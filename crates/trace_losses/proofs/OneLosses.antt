-- Passages have one span, one list of losses and one count of each kind.
use Rattle.std.proofs.Common.{◌≡◌, ℕ, ◌<◌, Bool, List, length, get_or, Option, None, Some, refl, sym, ap, ◌∙◌, subst, inl, inr, arith}
use Rattle.std.specs.Prelude.{count_by, filter, slice_get, slice_index}
use Rattle.std.proofs.lemmas.Bool.{cases_lt}
use Rattle.std.proofs.lemmas.List.{ext_get_or, length-map}
use Rattle.std.proofs.lemmas.Option.{slice_get-get_or}
use Rattle.task_set.specs.TaskSet.{TaskData, priorities}
use Rattle.strong_apa.proofs.Start.{IsState-start}
use Rattle.trace_losses.specs.Beside.{IsBeside, is_loss}
use Rattle.trace_losses.specs.Book.{of_task}
use Rattle.trace_losses.specs.Jumps.{IsJump}
use Rattle.trace_losses.specs.Laws.{LossesAreUnique, JumpsAreUnique}
use Rattle.trace_losses.specs.Losses.{IsLoss, IsRival, AreLossesOf}
use Rattle.trace_losses.specs.Moments.{IsLongest, IsOver, losses}
use Rattle.trace_losses.specs.Passages.{AreMoments}
use Rattle.trace_losses.specs.Watch.{IsMostOf, is_rival, during}
use Rattle.trace_losses.specs.declared.loss.Loss.{Loss}
use Rattle.trace_losses.specs.declared.seen.Seen.{Seen}
use Rattle.trace_losses.specs.declared.tally.Stretch.{Stretch}
use Rattle.trace_passages.specs.Passages.{span_of}
use Rattle.trace_losses.proofs.Counts.{one_count}
use Rattle.trace_losses.proofs.OneMoments.{one_moments}
use Rattle.trace_losses.proofs.ReadyTasks.{ready_within}

-- ---- counts
-- a list has one count for each place
one_list : (one other : List ℕ) (count : ℕ → ℕ) → length one ≡ length other
    → ((t n : ℕ) → slice_get one t ≡ Some n → n ≡ count t) → ((t n : ℕ) → slice_get other t ≡ Some n → n ≡ count t) → one ≡ other
one_list one other count same is also =
    ext_get_or 0 one other same
    (λ t below.
    (is t (get_or one t 0) (slice_get-get_or one t 0 below)
    ∙ sym (also t (get_or other t 0) (slice_get-get_or other t 0 (omega (arith, below, same))))))

-- ---- the longest stretch
same_stretch : (one other : Stretch) → one.first ≡ other.first → one.count ≡ other.count → one ≡ other
same_stretch one other first count =
    let made : ℕ → ℕ → Stretch = λ (f c : ℕ). record { first = f; count = c } in
    ap (λ (f : ℕ). made f one.count) first ∙ ap (made other.first) count

no_longer : (lost : List Bool) (one other : Stretch) → IsLongest lost one → IsLongest lost other → other.count ≡ 0 → one.count ≡ 0
no_longer lost one other is also none = elim (cases_lt 0 one.count) [
  | inr zero ↦ omega (arith, zero)
  | inl some ↦ elim (also.longest one.first one.count some is.each) [
    | inl less ↦ absurd (omega (arith, less, none))
    | inr same ↦ (let as_many = same.0 in omega (arith, as_many, none))
  ]
]

one_longest : (lost : List Bool) (one other : Stretch) → IsLongest lost one → IsLongest lost other → one ≡ other
one_longest lost one other is also = elim (cases_lt 0 other.count) [
  | inr zero ↦ (
      let none : other.count ≡ 0 = omega (arith, zero) in
      let empty = no_longer lost one other is also none in
      same_stretch one other (is.none empty ∙ sym (also.none none)) (empty ∙ sym none))
  | inl some ↦ elim (is.longest other.first other.count some also.each) [
    | inl less ↦ elim (also.longest one.first one.count (omega (arith, less)) is.each) [
      | inl more ↦ absurd (omega (arith, less, more))
      | inr same ↦ (let as_many = same.0 in absurd (omega (arith, as_many, less)))
    ]
    | inr same ↦ elim (also.longest one.first one.count (let as_many = same.0 in omega (arith, as_many, some)) is.each) [
      | inl more ↦ (let as_many = same.0 in absurd (omega (arith, as_many, more)))
      | inr back ↦ (
          let first = same.1 in
          let before = back.1 in
          same_stretch one other (omega (arith, first, before)) (sym same.0))
    ]
  ]
]

-- ---- the rival
module _ (counts numbers : List ℕ) (tasks : ℕ)
    (distinct : (t u : ℕ) → t < tasks → u < tasks → slice_index numbers t ≡ slice_index numbers u → t ≡ u) where
  one_most : (one other : Option ℕ) → IsMostOf counts numbers tasks one → IsMostOf counts numbers tasks other → one ≡ other
  one_most None None is also = refl
  one_most None (Some u) is also =
      let none = is u also.within in
      let some = also.some in
      absurd (omega (arith, none, some))
  one_most (Some u) None is also =
      let none = also u is.within in
      let some = is.some in
      absurd (omega (arith, none, some))
  one_most (Some u) (Some v) is also = elim (is.most v also.within) [
    | inl less ↦ elim (also.most u is.within) [
      | inl more ↦ absurd (omega (arith, less, more))
      | inr same ↦ (let as_many = same.0 in absurd (omega (arith, less, as_many)))
    ]
    | inr same ↦ elim (also.most u is.within) [
      | inl more ↦ (let as_many = same.0 in absurd (omega (arith, more, as_many)))
      | inr back ↦ (
          let above = same.1 in
          let below = back.1 in
          ap Some (distinct u v is.within also.within (omega (arith, above, below))))
    ]
  ]

module _ (numbers : List ℕ) (moments : List (List Seen))
    (distinct : (t u : ℕ) → t < length numbers → u < length numbers → slice_index numbers t ≡ slice_index numbers u → t ≡ u) where
  one_rival : (stretch : Stretch) (one other : Option ℕ) → IsRival numbers moments stretch one → IsRival numbers moments stretch other
      → one ≡ other
  one_rival stretch one other is also =
      let same : is.counts ≡ also.counts =
      one_list is.counts also.counts (λ t. count_by is_rival (of_task t (during stretch moments))) (is.tasks ∙ sym also.tasks)
      is.counted also.counted in
      one_most also.counts numbers (length numbers) distinct one other
      (subst (λ (counts : List ℕ). IsMostOf counts numbers (length numbers) one) same is.most) also.most

  one_loss : (t : ℕ) (one other : Loss) → IsLoss numbers moments t one → IsLoss numbers moments t other → one ≡ other
  one_loss t one other is also =
      let seen : List Seen = of_task t moments in
      let made : ℕ → ℕ → ℕ → ℕ → Stretch → Option ℕ → Loss =
      λ (a b c d : ℕ) (s : Stretch) (r : Option ℕ). record { ready = a; served = b; lost = c; over = d; longest = s; rival = r } in
      let over = one_count (IsOver (losses seen)) 0 (length (losses seen)) one.over other.over is.over also.over in
      let longest = one_longest (losses seen) one.longest other.longest is.longest also.longest in
      let rival =
      one_rival other.longest one.rival other.rival (subst (λ (s : Stretch). IsRival numbers moments s one.rival) longest is.rival)
      also.rival in
      ap (λ (a : ℕ). made a one.served one.lost one.over one.longest one.rival) (is.ready ∙ sym also.ready)
      ∙ ap (λ (b : ℕ). made other.ready b one.lost one.over one.longest one.rival) (is.served ∙ sym also.served)
      ∙ ap (λ (c : ℕ). made other.ready other.served c one.over one.longest one.rival) (is.lost ∙ sym also.lost)
      ∙ ap (λ (d : ℕ). made other.ready other.served other.lost d one.longest one.rival) over
      ∙ ap (λ (s : Stretch). made other.ready other.served other.lost other.over s one.rival) longest
      ∙ ap (made other.ready other.served other.lost other.over other.longest) rival

  one_losses : (one other : List Loss) → AreLossesOf numbers moments one → AreLossesOf numbers moments other → one ≡ other
  one_losses one other are also =
      let long = are.tasks in
      let wide = also.tasks in
      ext_get_or nothing one other (are.tasks ∙ sym also.tasks)
      (λ t below.
      one_loss t (get_or one t nothing) (get_or other t nothing)
      (are.each t (get_or one t nothing) (slice_get-get_or one t nothing below))
      (also.each t (get_or other t nothing) (slice_get-get_or other t nothing (omega (arith, below, long, wide)))))
    where
      nothing : Loss
      nothing = record { ready = 0; served = 0; lost = 0; over = 0; longest = record { first = 0; count = 0 }; rival = None }

-- ---- the laws
pub losses_are_unique : LossesAreUnique
losses_are_unique task_set threads passages units other found more beside besides valid of are also =
    let count = length-map task_set.tasks (λ (task : TaskData). task.priority) in
    let same : are.moments ≡ also.moments =
    one_moments task_set threads passages
    (λ n t ready. (let within = ready_within (length task_set.tasks) threads passages of n t ready in omega (arith, within, count)))
    (span_of passages) are.moments also.moments
    (subst (λ (n : ℕ). AreMoments task_set threads passages n are.moments) are.span are.are)
    (subst (λ (n : ℕ). AreMoments task_set threads passages n also.moments) also.span also.are) in (
      are.span ∙ sym also.span,
      one_losses (priorities task_set) also.moments (IsState-start task_set valid).distinct found more
          (subst (λ (moments : List (List Seen)). AreLossesOf (priorities task_set) moments found) same are.losses) also.losses,
      one_list beside besides (λ t. count_by is_rival (of_task t (filter is_loss also.moments))) (are.count ∙ sym also.count)
          (subst (λ (moments : List (List Seen)). IsBeside moments beside) same are.counted) also.counted,
    )

pub jumps_are_unique : JumpsAreUnique
jumps_are_unique passages jumps other is also = one_count (IsJump passages) 0 (length passages) jumps other is also
