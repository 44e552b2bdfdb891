-- A row at one moment: its job is finished, or its next ones are released.
use Rattle.std.proofs.Common.{◌≡◌, ◌≢◌, ℕ, ◌+◌, ◌-◌, ◌<◌, ◌≤◌, ◌↔◌, Bool, true, List, [], ◌∷◌, ◌++◌, length, get_or, sym, ap, ◌∙◌, subst}
use Rattle.std.proofs.Common.{inl, inr, arith, length-append}
use Rattle.std.proofs.lemmas.Bool.{cases_lt}
use Rattle.std.proofs.lemmas.List.{get_or_append_left, get_or_at}
use Rattle.job_release.specs.Jobs.{job_at, goal_of}
use Rattle.job_release.specs.Driving.{IsRowAt, done_of, HasWork, HasCost, Finishes, Releases, grown, settled, supplied}
use Rattle.job_release.specs.Moments.{Timeline, IsFinish}
use Rattle.job_release.specs.declared.input.Job.{Job}
use Rattle.job_release.specs.declared.row.JobRow.{JobRow}
use Rattle.job_release.proofs.Demands.{released_later, goal_more, goal_fits, asked_upto}
use Rattle.job_release.proofs.RowSteps.{is_short}

module _ (states : Timeline) (horizon : ℕ) (flag : Bool) (moment t : ℕ) (row : JobRow) where
  abbrev done : ℕ
  done = done_of row

  abbrev jobs : List Job
  jobs = row.jobs.items

  -- ---- no job has its cost
  pub row_not_settled : IsRowAt states horizon flag moment (grown moment) t row → (HasCost row → ⊥)
      → IsRowAt states horizon flag moment (settled moment) t row
  row_not_settled old none = record {
    sizes = old.sizes;
    jobs = old.jobs;
    count = old.count;
    past = old.past;
    past_service = old.past_service;
    past_linked = old.past_linked;
    service = old.service;
    finishes = old.finishes;
    unfinished = old.unfinished;
    due_before = old.due_before;
    due_next = old.due_next;
    low = old.low;
    high = λ work.
        let differs : row.service ≢ goal_of jobs done = λ e. none (work, e) in
        let high = old.high work in
        omega (arith, differs);
    idle = old.idle;
    rested = λ slack. absurd (omega arith);
    ready = old.ready;
    place = old.place;
    moves = old.moves;
  }

  -- ---- a job is finished
  module _ (old : IsRowAt states horizon flag moment (grown moment) t row) (has : HasCost row) (new : JobRow)
      (ends : Finishes moment row new) (flag' : Bool) where
    pub one_more : done_of new ≡ done + 1
    one_more = ap length ends.finishes ∙ length-append row.finishes.items (moment ∷ [])

    within : done < length jobs
    within = let work = has.0 in let listed = old.sizes.listed in omega arith

    own_finish : IsFinish states t (goal_of jobs done) moment moment
    own_finish = record {
      within = omega arith;
      got = (let P : ℕ → Type 0 = λ n. goal_of jobs done ≤ n in subst P (sym has.1 ∙ old.service) (omega arith));
      least = λ y below. old.unfinished y below within;
    }

    finish_at : (k d : ℕ) → k < done + 1 → IsFinish states t (goal_of jobs k) moment (get_or (row.finishes.items ++ moment ∷ []) k d)
    finish_at k d below = elim (cases_lt k done) [
      | inl before ↦ (
          let P : ℕ → Type 0 = λ x. IsFinish states t (goal_of jobs k) moment x in
          subst P (sym (get_or_append_left row.finishes.items (moment ∷ []) d k before)) (old.finishes k d before))
      | inr from ↦ (
          let last : k ≡ done = omega arith in
          let P : ℕ → Type 0 = λ x. IsFinish states t (goal_of jobs k) moment x in
          let Q : ℕ → Type 0 = λ j. IsFinish states t (goal_of jobs j) moment moment in
          subst P (sym (get_or_at row.finishes.items moment [] d k (sym last))) (subst Q (sym last) own_finish))
    ]

    pub row_settled : (flag' ≡ true) ↔ HasWork new → IsRowAt states horizon flag' moment (settled moment) t new
    row_settled ready =
        let has_cost = has.1 in
        let work = has.0 in
        let more = one_more in
        let listed = old.sizes.listed in
        let count = old.count in
        let asked = ends.asked in
        let service = ends.service in
        let ready_then : (flag' ≡ true) ↔ (done_of new < row.released) = rw ends.released at ready in
        let next : goal_of jobs done ≤ goal_of jobs (done + 1) = asked_upto jobs (done + 1) (done + 1 + 1) (omega arith) in
        rw (ends.jobs, ends.released) (record {
          sizes = record {
            few = omega (arith, more);
            listed = listed;
            asked = rw more (asked ∙ has_cost);
            fits = (let fits = goal_fits horizon jobs old.jobs (done + 1) (omega arith) in omega arith);
          };
          jobs = old.jobs;
          count = count;
          past = old.past;
          past_service = old.past_service;
          past_linked = old.past_linked;
          service = service ∙ old.service;
          finishes = λ k d below.
              let P : List ℕ → Type 0 = λ items. IsFinish states t (goal_of jobs k) moment (get_or items k d) in
              subst P (sym ends.finishes) (finish_at k d (omega (arith, more)));
          unfinished = λ x below inside. rw more (let before = old.unfinished x below within in omega (arith, next, before));
          due_before = old.due_before;
          due_next = old.due_next;
          low = omega arith;
          high = λ still. rw more (let grows = goal_more horizon jobs old.jobs (done + 1) (omega (arith, more)) in omega arith);
          idle = λ all. service ∙ sym asked;
          rested = λ slack. absurd (omega arith);
          ready = ready_then;
          place = ends.place ∙ old.place;
          moves = ends.moves ∙ old.moves;
        })

  -- ---- jobs are released
  module _ (old : IsRowAt states horizon flag moment (settled moment) t row) (new : JobRow) (begins : Releases moment row new)
      (flag' : Bool) where
    pub listed_then : new.released ≤ length jobs
    listed_then = elim (cases_lt row.released new.released) [
      | inl more ↦ (let last = begins.begin (new.released - 1) (omega arith) (omega arith) in let inside = last.0 in omega arith)
      | inr same ↦ (let listed = old.sizes.listed in omega arith)
    ]

    pub released_then : (k : ℕ) → k < new.released → (job_at jobs k).release < moment + 1
    released_then k below = elim (cases_lt k row.released) [
      | inl before ↦ (let due = old.due_before k before in omega arith)
      | inr from ↦ (let here = (begins.begin k from below).1 in omega arith)
    ]

    pub not_yet : new.released < length jobs → moment + 1 ≤ (job_at jobs new.released).release
    not_yet inside =
        let more = begins.more in
        let before = old.due_next (omega arith) in
        let order = released_later horizon jobs old.jobs row.released new.released more inside in
        let differs : (job_at jobs new.released).release ≢ moment = λ e. begins.all (inside, e) in
        omega (arith, differs)

    pub row_supplied : (flag' ≡ true) ↔ HasWork new → IsRowAt states horizon flag' moment (supplied moment) t new
    row_supplied ready =
        let few = old.sizes.few in
        let more = begins.more in
        let ready_then : (flag' ≡ true) ↔ (done < new.released) = rw begins.finishes at ready in
        rw (begins.jobs, begins.finishes) (record {
          sizes = record {
            few = omega arith;
            listed = listed_then;
            asked = begins.asked ∙ old.sizes.asked;
            fits = (let fits = old.sizes.fits in let same = begins.asked in omega arith);
          };
          jobs = old.jobs;
          count = old.count;
          past = old.past;
          past_service = old.past_service;
          past_linked = old.past_linked;
          service = begins.service ∙ old.service;
          finishes = old.finishes;
          unfinished = old.unfinished;
          due_before = released_then;
          due_next = not_yet;
          low = (let low = old.low in let asked = begins.asked in let service = begins.service in omega arith);
          high = λ work.
              let short = is_short states horizon flag moment t (settled moment) row old (omega arith)
              (let listed = listed_then in omega arith) in
              let service = begins.service in
              omega arith;
          idle = λ all. begins.service ∙ old.idle (omega arith) ∙ sym begins.asked;
          rested = λ slack. absurd (omega arith);
          ready = ready_then;
          place = begins.place ∙ old.place;
          moves = begins.moves ∙ old.moves;
        })
