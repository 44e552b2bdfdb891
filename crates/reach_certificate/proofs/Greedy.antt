-- The tasks of a list are admitted by urgency: the linked ones are the best set of those admitted so far.
use Rattle.std.proofs.Common.{◌≡◌, ◌≢◌, ℕ, zero, suc, ◌<◌, Bool, true, false, not, ◌||◌, List, [], ◌∷◌, ◌++◌, length, get_or, replicate}
use Rattle.std.proofs.Common.{nat_eq, None, refl, sym, ap, ◌∙◌, inl, inr, arith, eq-eqb, ne_eqb, eqb-true}
use Rattle.std.specs.Prelude.{All, AllPairs}
use Rattle.std.specs.List.{list_any}
use Rattle.std.proofs.Math.Bool.{or-false}
use Rattle.std.proofs.lemmas.Bool.{cases_Bool, cases_eq, true≢false, or_cases, or_left, or_right}
use Rattle.std.proofs.lemmas.List.{length-map}
use Rattle.std.proofs.lemmas.List.Folds.{list_any-append, list_any_at}
use Rattle.std.proofs.lemmas.List.Quantifiers.{all_pairs_push}
use Rattle.task_set.specs.TaskSet.{TaskData, SetData}
use Rattle.strong_apa.specs.State.{State, IsState, HasSameTasks, HasSameMasks, task_count, priority_of, is_ready, is_linked, is_task}
use Rattle.strong_apa.specs.State.{start_of, IsMoreUrgent}
use Rattle.strong_apa.specs.Placement.{IsSubset, IsBest}
use Rattle.strong_apa.proofs.Linked.{place_in, task_on-linked}
use Rattle.strong_apa.proofs.SameTasks.{same_count}
use Rattle.reach_certificate.specs.Admission.{is_among, IsMostUrgentAbsent, Admitted}
use Rattle.strong_apa.specs.Certified.{HasCertificates}
use Rattle.strong_apa.proofs.Best.{linked_is_best}
use Rattle.strong_apa.proofs.Counts.{count_below, count_below-one_more}
use Rattle.strong_apa.proofs.SameBest.{priority_of-same, IsBest-same}
use Rattle.strong_apa.proofs.Start.{none_ready}
use Rattle.strong_apa.proofs.Kept.{HasCertificates-start}
use Rattle.reach_certificate.proofs.MostUrgent.{among_place}
use Rattle.affinity_mask.proofs.Unions.{same_answer}

-- the listed tasks are admitted up to some priority, and the list `best` has the linked ones
pub record IsGreedy (set : SetData) (listed : List ℕ) (s : State) (best : List ℕ) : Type 0 where
  pub tasks : HasSameTasks (start_of set) s
  pub masks : HasSameMasks (start_of set) s
  pub within : (u : ℕ) → is_ready s u ≡ true → is_among listed u ≡ true
  pub ahead : (u v : ℕ) → is_ready s u ≡ true → is_among listed v ≡ true → is_ready s v ≡ false → IsMoreUrgent s u v
  pub linked : (u : ℕ) → is_among best u ≡ is_linked s u
  pub order : AllPairs (IsMoreUrgent s) best
  pub certificates : HasCertificates s

none_linked : (n u : ℕ) → list_any (is_task u) (replicate n None) ≡ false
none_linked zero u = refl
none_linked (suc n) u = none_linked n u

-- before anything was admitted
pub IsGreedy-start : (set : SetData) (listed : List ℕ) → IsGreedy set listed (start_of set) []
IsGreedy-start set listed = record {
  tasks = record { processors = refl; priorities = refl };
  masks = record { masks = refl; online = refl };
  within = λ u ready. absurd (true≢false (sym ready ∙ none_ready (length set.tasks) u));
  ahead = λ u v ready among absent. absurd (true≢false (sym ready ∙ none_ready (length set.tasks) u));
  linked = λ u. sym (none_linked set.processors u);
  order = λ i j d lt fits. absurd (omega arith);
  certificates = HasCertificates-start set;
}

module _ (set : SetData) (listed : List ℕ) (s : State) (ok : IsState s) (best : List ℕ) (greedy : IsGreedy set listed s best)
    (numbers : All (λ t. t < length set.tasks) listed) where
  listed_number : (t : ℕ) → is_among listed t ≡ true → t < task_count s
  listed_number t among =
      let place = among_place listed t among in
      let below : t < length set.tasks = rw place.2 at (numbers place.0 0 place.1) in
      rw (same_count (start_of set) s greedy.tasks, length-map set.tasks (λ (x : TaskData). x.priority)) below

  -- all listed tasks were admitted
  pub IsBest-greedy : IsSubset (is_among listed) (is_ready s) → IsBest (start_of set) (is_among listed) (is_among best)
  IsBest-greedy all =
      IsBest-same (start_of set) s greedy.tasks greedy.masks (is_ready s) (is_among listed) (is_linked s) (is_among best)
      (λ t. same_answer _ _ (greedy.within t) (all t)) (λ t. sym (greedy.linked t))
      (linked_is_best s ok greedy.certificates)

  pub order_at_start : AllPairs (IsMoreUrgent (start_of set)) best
  order_at_start = λ i j d lt fits. rw (
    ← priority_of-same (start_of set) s greedy.tasks (get_or best i d),
    ← priority_of-same (start_of set) s greedy.tasks (get_or best j d),
  ) (greedy.order i j d lt fits)

  module _ (t : ℕ) (next : IsMostUrgentAbsent s listed t) where
    -- what `admit` asks
    pub next_number : t < task_count s
    next_number = listed_number t next.among

    pub next_least_urgent : (u : ℕ) → is_ready s u ≡ true → IsMoreUrgent s u t
    next_least_urgent u ready = greedy.ahead u t ready next.among next.absent

    module _ (placed : Bool) (new : State) (admitted : Admitted s t placed new) where
      urgent_then : (u v : ℕ) → IsMoreUrgent s u v → IsMoreUrgent new u v
      urgent_then u v lt = rw (priority_of-same s new admitted.tasks u, priority_of-same s new admitted.tasks v) lt

      -- another task that is absent then was absent before
      absent_before : (v : ℕ) → is_ready new v ≡ false → (v ≢ t) × (is_ready s v ≡ false)
      absent_before v absent = (
        (λ e. true≢false (sym (admitted.ready v ∙ or_right (is_ready s v) _ (eq-eqb v t e)) ∙ absent)),
        elim (cases_Bool (is_ready s v)) [
          | inl ready ↦ absurd (true≢false (sym (admitted.ready v ∙ or_left (is_ready s v) _ ready) ∙ absent))
          | inr absent' ↦ absent'
        ],
      )

      tasks_then : HasSameTasks (start_of set) new
      tasks_then = record {
        processors = admitted.tasks.processors ∙ greedy.tasks.processors;
        priorities = admitted.tasks.priorities ∙ greedy.tasks.priorities;
      }

      masks_then : HasSameMasks (start_of set) new
      masks_then = record {
        masks = admitted.masks.masks ∙ greedy.masks.masks;
        online = admitted.masks.online ∙ greedy.masks.online;
      }

      within_then : (u : ℕ) → is_ready new u ≡ true → is_among listed u ≡ true
      within_then u ready = elim (or_cases (is_ready s u) _ (sym (admitted.ready u) ∙ ready)) [
        | inl before ↦ greedy.within u before
        | inr it ↦ rw (eqb-true u t it) next.among
      ]

      ahead_then : (u v : ℕ) → is_ready new u ≡ true → is_among listed v ≡ true → is_ready new v ≡ false → IsMoreUrgent new u v
      ahead_then u v ready among absent =
          let before = absent_before v absent in
          urgent_then u v (elim (or_cases (is_ready s u) _ (sym (admitted.ready u) ∙ ready)) [
            | inl was ↦ greedy.ahead u v was among before.1
            | inr it ↦ rw (eqb-true u t it) (
                let le = next.most_urgent v among before.1 in
                let differ : priority_of s t ≢ priority_of s v = λ e. before.0
                (sym (ok.distinct t v next_number (listed_number v among) e)) in
                omega arith)
          ])

      order_then : AllPairs (IsMoreUrgent new) best
      order_then = λ i j d lt fits. urgent_then (get_or best i d) (get_or best j d) (greedy.order i j d lt fits)

      -- a task of `best` is more urgent than t
      best_before : (k d : ℕ) → k < length best → IsMoreUrgent new (get_or best k d) t
      best_before k d fits =
          let u = get_or best k d in
          let is_linked' : is_linked s u ≡ true = sym (greedy.linked u) ∙ list_any_at (λ x. nat_eq x u) best k d fits (eq-eqb u u refl) in
          urgent_then u t (next_least_urgent u (ok.linked_ready (place_in u s.on) u (task_on-linked s u is_linked')))

      -- fewer tasks are absent then
      pub absent_falls : count_below (λ u. not (is_ready new u)) (task_count new) < count_below (λ u. not (is_ready s u)) (task_count s)
      absent_falls =
          let fewer = count_below-one_more (λ u. not (is_ready s u)) (λ u. not (is_ready new u)) t (task_count s) next_number
          (rw next.absent refl) (rw (admitted.ready t, or_right (is_ready s t) (nat_eq t t) (eq-eqb t t refl)) refl)
          (λ u lt ne. rw (admitted.ready u, ne_eqb u t ne) (ap not (sym (or-false (is_ready s u))))) in
          rw (same_count s new admitted.tasks) (omega arith)

    -- t was left out
    pub IsGreedy-left_out : (new : State) → Admitted s t false new → IsGreedy set listed new best
    IsGreedy-left_out new admitted = record {
      tasks = tasks_then false new admitted;
      masks = masks_then false new admitted;
      within = within_then false new admitted;
      ahead = ahead_then false new admitted;
      linked = λ u. greedy.linked u ∙ sym (admitted.linked u ∙ or-false (is_linked s u));
      order = order_then false new admitted;
      certificates = admitted.certificates;
    }

    -- t was linked
    pub IsGreedy-linked : (new : State) → Admitted s t true new → IsGreedy set listed new (best ++ t ∷ [])
    IsGreedy-linked new admitted = record {
      tasks = tasks_then true new admitted;
      masks = masks_then true new admitted;
      within = within_then true new admitted;
      ahead = ahead_then true new admitted;
      linked = λ u. list_any-append (λ x. nat_eq x u) best (t ∷ [])
          ∙ sym (admitted.linked u ∙ rw (← greedy.linked u) (ap (λ (b : Bool). is_among best u || b) (flipped u)));
      order = all_pairs_push (IsMoreUrgent new) best t (order_then true new admitted) (best_before true new admitted);
      certificates = admitted.certificates;
    }
      where
        flipped : (u : ℕ) → nat_eq u t ≡ (nat_eq t u || false)
        flipped u = elim (cases_eq u t) [
          | inl e ↦ eq-eqb u t e ∙ sym (or_left (nat_eq t u) false (eq-eqb t u (sym e)))
          | inr ne ↦ rw (ne_eqb u t ne, ne_eqb t u (λ e. ne (sym e))) refl
        ]
