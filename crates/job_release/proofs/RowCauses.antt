-- Whether the task of a row has a cause to depart or to arrive.
use Rattle.std.proofs.Common.{◌≡◌, ◌≢◌, ℕ, ◌+◌, ◌-◌, ◌<◌, ◌≤◌, Bool, List, refl, sym, ap, ◌∙◌, inl, inr, arith}
use Rattle.std.proofs.lemmas.Bool.{cases_lt, cases_eq}
use Rattle.job_release.specs.Jobs.{goal_of, demand}
use Rattle.job_release.specs.Driving.{IsRowAt, Mark, done_of, asked_by, HasWork, HasCost, Releases, grown, settled}
use Rattle.job_release.specs.EventCauses.{IsServedAt, IsAskedAt, earlier_demand}
use Rattle.job_release.specs.Moments.{Timeline, service_of}
use Rattle.job_release.specs.declared.input.Job.{Job}
use Rattle.job_release.specs.declared.row.JobRow.{JobRow}
use Rattle.job_release.proofs.Causes.{earlier_is}
use Rattle.job_release.proofs.Demands.{released_later, goal_more, asked_upto, demand_is}
use Rattle.job_release.proofs.Moments.{no_service}
use Rattle.job_release.proofs.RowChanges.{listed_then, not_yet, released_then}

module _ (states : Timeline) (horizon : ℕ) (flag : Bool) (moment t : ℕ) (row : JobRow) where
  abbrev done : ℕ
  done = done_of row

  abbrev jobs : List Job
  jobs = row.jobs.items

  earlier_here : (mark : Mark) → mark.upto ≡ moment → IsRowAt states horizon flag moment mark t row
      → earlier_demand jobs moment ≡ asked_by jobs row.released
  earlier_here mark upto at =
      earlier_is jobs row.released moment at.sizes.listed (λ k below. let due = at.due_before k below in omega arith)
      (λ k from within.
      let next = at.due_next (omega arith) in
      let order = released_later horizon jobs at.jobs row.released k from within in
      omega arith)

  -- ---- a departure
  module _ (old : IsRowAt states horizon flag moment (grown moment) t row) where
    pub not_served : (HasCost row → ⊥) → IsServedAt states t jobs moment → ⊥
    not_served none cause =
        let earlier = earlier_here (grown moment) refl old in
        let service = old.service in
        let meets = cause.0 in
        elim (cases_lt done row.released) [
          | inl work ↦ (
              let differs : row.service ≢ goal_of jobs done = λ e. none (work, e) in
              let high = old.high work in
              let upto = asked_upto jobs (done + 1) row.released (omega arith) in
              omega (arith, earlier, service, meets, high, upto, differs))
          | inr no_work ↦ (
              let few = old.sizes.few in
              let rested = old.rested refl (omega arith) in
              let less = cause.1 in
              omega (arith, service, meets, rested, less))
        ]

    module _ (has : HasCost row) where
      pub not_served_yet : done + 1 < row.released → IsServedAt states t jobs moment → ⊥
      not_served_yet more cause =
          let listed = old.sizes.listed in
          let earlier = earlier_here (grown moment) refl old in
          let service = old.service in
          let meets = cause.0 in
          let cost = has.1 in
          let grows = goal_more horizon jobs old.jobs (done + 1) (omega arith) in
          let upto = asked_upto jobs (done + 1 + 1) row.released (omega arith) in
          omega (arith, earlier, service, meets, cost, grows, upto)

      pub is_served : row.released ≤ done + 1 → IsServedAt states t jobs moment
      is_served last =
          let work = has.0 in
          let listed = old.sizes.listed in
          let all : done + 1 ≡ row.released = omega arith in
          let goal : goal_of jobs done ≡ earlier_demand jobs moment = ap (asked_by jobs) all ∙ sym (earlier_here (grown moment) refl old) in
          let cost = has.1 in (
            sym old.service ∙ cost ∙ goal,
            elim (cases_eq moment 0) [
              | inl start ↦ absurd (
                  let none = no_service states t in
                  let here = ap (service_of states t) start in
                  let service = old.service in
                  let grows = goal_more horizon jobs old.jobs done (omega arith) in
                  omega (arith, none, here, service, grows, cost))
              | inr later ↦ (let short = old.unfinished (moment - 1) (omega (arith, later)) (omega arith) in omega (arith, short, goal))
            ],
          )

  -- ---- an arrival
  module _ (old : IsRowAt states horizon flag moment (settled moment) t row) (new : JobRow) (begins : Releases moment row new) where
    demand_then : demand jobs moment ≡ asked_by jobs new.released
    demand_then =
        demand_is jobs new.released moment (listed_then states horizon flag moment t row old new begins flag)
        (λ k below. let due = released_then states horizon flag moment t row old new begins flag k below in omega arith)
        (λ k from within.
        let next = not_yet states horizon flag moment t row old new begins flag (omega arith) in
        let order = released_later horizon jobs old.jobs new.released k from within in
        omega arith)

    pub not_asked_with_work : HasWork row → IsAskedAt states t jobs moment → ⊥
    not_asked_with_work work cause =
        let earlier = earlier_here (settled moment) refl old in
        let service = old.service in
        let meets = cause.0 in
        let high = old.high work in
        let upto = asked_upto jobs (done + 1) row.released (omega arith) in
        omega (arith, earlier, service, meets, high, upto)

    pub not_asked : new.released ≡ row.released → IsAskedAt states t jobs moment → ⊥
    not_asked same cause =
        let earlier = earlier_here (settled moment) refl old in
        let more = cause.1 in
        let now = demand_then ∙ ap (asked_by jobs) same in
        omega (arith, earlier, more, now)

    pub is_asked : done ≡ row.released → row.released < new.released → IsAskedAt states t jobs moment
    is_asked idle more =
        let earlier = earlier_here (settled moment) refl old in
        let listed = listed_then states horizon flag moment t row old new begins flag in
        let grows = goal_more horizon jobs old.jobs row.released (omega arith) in
        let upto = asked_upto jobs (row.released + 1) new.released (omega arith) in
        let now = demand_then in (
          sym old.service ∙ old.idle idle ∙ old.sizes.asked ∙ ap (asked_by jobs) idle
              ∙ sym earlier,
          omega (arith, earlier, grows, upto, now),
        )
