use Rattle.std.proofs.Common.{◌≡◌, ℕ, ◌+◌, ◌-◌, ◌<◌, ◌≤◌, List, [], ◌∷◌, length, drop, get_or, Option, Vec, sym, ap, ◌∙◌, subst, arith}
use Rattle.std.specs.Prelude.{reverse}
use Rattle.std.specs.Option.{ForSome}
use Rattle.std.specs.declared.alloc.Global.{Global}
use Rattle.std.proofs.lemmas.List.{drop_all, length-replicate}
use Rattle.std.proofs.lemmas.Option.{slice_get-get_or}
use Rattle.trace_losses.specs.Ahead.{AreAhead, AreLonger}
use Rattle.trace_losses.specs.Jobs.{AreJobsOf, Change, changes_of, with_change}
use Rattle.trace_passages.specs.Passages.{ArePassages, moment_at, span_of}
use Rattle.trace_losses.specs.Passages.{turns_of}
use Rattle.trace_losses.specs.Walk.{held_at_end}
use Rattle.trace_passages.specs.Turns.{AreThreads}
use Rattle.trace_losses.specs.Runs.{IsArmed}
use Rattle.trace_losses.specs.declared.job.TraceJob.{TraceJob}
use Rattle.trace_passages.specs.declared.passage.Passage.{Passage}
use Rattle.trace_losses.proofs.Aheads.{ahead_at_end, ahead_passed, room_ahead}
use Rattle.trace_losses.proofs.Passed.{no_passage, moment_there, moments_in_order}
use Rattle.trace_losses.proofs.BackOne.{back_one, one_back}
use Rattle.trace_losses.proofs.job.jobs_back.Goals as goal

pub loop-i-init : goal.loop-i-init
loop-i-init c =
    let passages = c.args.passages.now in
    let none : drop (length passages - 0) passages ≡ [] = drop_all (length passages - 0) passages (omega arith) in
    let last : length passages - 0 - 1 ≡ length passages - 1 = omega arith in
    record {
      armed = subst (λ (after : List Passage). IsArmed (held_at_end passages) (turns_of after) c.in_ok-runners.runners.processors.items)
          (sym none)
          c.in_ok-runners.ensures.held;
      ran = c.in_ok-runners.ensures.threads;
      tasks =
          (let zeros : length c.in_ok-ahead.ahead.units.items ≡ c.args.threads =
          ap length c.in_ok-ahead.ensures.units ∙ length-replicate c.args.threads 0 in
          omega (arith, zeros));
      ahead =
          subst (λ (after : List Passage). AreAhead passages (changes_of after) (moment_at passages (length passages - 0 - 1))
          c.in_ok-ahead.ahead.units.items)
          (sym none)
          (subst (λ (n : ℕ). AreAhead passages [] (moment_at passages n) c.in_ok-ahead.ahead.units.items) (sym last)
          (ahead_at_end passages c.args.threads c.in_ok-ahead.ahead.units.items c.in_ok-ahead.ensures.units));
      jobs =
          subst (λ (after : List Passage). AreJobsOf passages (changes_of after) (reverse c.in_ok-ahead.ahead.jobs.items)) (sym none)
          (ap reverse c.in_ok-ahead.ensures.jobs);
    }

pub enter-requires : goal.enter-requires
enter-requires c = λ x is.
    (let passages = c.args.passages.now in
    let k : ℕ = length passages - 1 - c.loop-i.i in
    let there = slice_get-get_or passages k no_passage (omega arith) in
    let all = c.requires.1.all in
    let below = (c.requires.1.each k (get_or passages k no_passage) there).second x is in
    let count = c.loop-i.invariant.tasks in
    omega (arith, all, below, count))

pub enter-requires-in-loop-i : goal.enter-requires-in-loop-i
enter-requires-in-loop-i c = λ x is.
    (let passages = c.args.passages.now in
    let k : ℕ = length passages - 1 - c.loop-i.i in
    let there = slice_get-get_or passages k no_passage (omega arith) in
    let all = c.requires.1.all in
    let below = (c.requires.1.each k (get_or passages k no_passage) there).first x is in
    let count = c.loop-i.invariant.tasks in
    let same = c.in_ok-enter.ensures.tasks in
    omega (arith, all, below, count, same))

pub pass_back-requires : goal.pass_back-requires
pass_back-requires c =
    let passages = c.args.passages.now in
    let k : ℕ = length passages - 1 - c.loop-i.i in
    let there = slice_get-get_or passages k no_passage (omega arith) in
    subst (λ (n : ℕ). ForSome (get_or passages k no_passage).turn (AreThreads n)) (sym c.loop-i.invariant.ran)
    (c.requires.1.each k (get_or passages k no_passage) there).turn

pub since_last-requires-clause-order : goal.since_last-requires-clause-order
since_last-requires-clause-order c =
    let passages = c.args.passages.now in
    let k : ℕ = length passages - 1 - c.loop-i.i in
    moments_in_order c.requires.0 c.args.threads passages c.requires.1 (k - 1) k no_passage (omega arith) (omega arith)

-- the passage that is read is at the moment from which on all is known, and within the span
module _ (tasks threads : ℕ) (passages : List Passage) (are : ArePassages tasks threads passages) (i : ℕ)
    (below : i < length passages) where
  abbrev k : ℕ
  k = length passages - 1 - i

  abbrev here : Passage
  here = get_or passages k no_passage

  moment_here : moment_at passages (length passages - i - 1) ≡ here.moment
  moment_here =
      let place : length passages - i - 1 ≡ k = omega arith in
      ap (moment_at passages) place ∙ moment_there passages k (omega (arith, below))

  here_within : here.moment ≤ span_of passages
  here_within =
      let same = moment_there passages k (omega (arith, below)) in
      let order = moments_in_order tasks threads passages are k (length passages - 1) no_passage (omega (arith, below))
      (omega (arith, below)) in
      omega (arith, same, order)

  ahead_here : (units : List ℕ) → AreAhead passages (changes_of (drop (length passages - i) passages))
      (moment_at passages (length passages - i - 1)) units
      → AreAhead passages (changes_of (drop (length passages - i) passages)) here.moment units
  ahead_here units ahead =
      subst (λ (m : ℕ). AreAhead passages (changes_of (drop (length passages - i) passages)) m units) moment_here ahead

pub pass-requires-clause-room : goal.pass-requires-clause-room
pass-requires-clause-room c = λ t count is.
    (let passages = c.args.passages.now in
    let i = c.loop-i.i in
    let later : List Change = changes_of (drop (length passages - i) passages) in
    let passage : Passage = here c.requires.0 c.args.threads passages c.requires.1 i c.loop-i-test.true in
    let within = here_within c.requires.0 c.args.threads passages c.requires.1 i c.loop-i-test.true in
    let old = ahead_here c.requires.0 c.args.threads passages c.requires.1 i c.loop-i-test.true c.loop-i.ahead.units.items
    c.loop-i.invariant.ahead in
    let one = c.in_ok-enter.ensures.ahead passages later within old in
    let two = c.in_ok-enter-2.ensures.ahead passages (with_change passage.moment passage.second later) within one in
    let room =
    room_ahead passages (with_change passage.moment passage.first (with_change passage.moment passage.second later)) passage.moment
    c.enter-in-loop-i.new.self.units.items two t count is in
    let same = moment_there passages (length passages - 1 - i) (omega arith) in
    let since = c.since_last.ensures in
    let span = c.span_of-span.ensures in
    omega (arith, room, same, since, span))

pub loop-i-preserved : goal.loop-i-preserved
loop-i-preserved c =
    let passages = c.args.passages.now in
    let tasks = c.requires.0 in
    let threads = c.args.threads in
    let i = c.loop-i.i in
    let below : i < length passages = c.loop-i-test.true in
    let n : ℕ = length passages - (i + 1) in
    let place : length passages - 1 - i ≡ n = omega arith in
    let later : List Change = changes_of (drop (length passages - i) passages) in
    let passage : Passage = here tasks threads passages c.requires.1 i below in
    let within = here_within tasks threads passages c.requires.1 i below in
    let old = ahead_here tasks threads passages c.requires.1 i below c.loop-i.ahead.units.items c.loop-i.invariant.ahead in
    let one = c.in_ok-enter.ensures.ahead passages later within old in
    let two = c.in_ok-enter-2.ensures.ahead passages (with_change passage.moment passage.second later) within one in
    let jobs_one = c.in_ok-enter.ensures.jobs passages later old c.loop-i.invariant.jobs in
    let jobs_two = c.in_ok-enter-2.ensures.jobs passages (with_change passage.moment passage.second later) one jobs_one in
    let all : changes_of (passage ∷ drop (length passages - i) passages) ≡ changes_of (drop n passages) =
    ap changes_of (sym (one_back passages i no_passage below)) in
    let on : List (Option ℕ) = c.pass_back.new.self.processors.items in
    let units : List ℕ = c.enter-in-loop-i.new.self.units.items in
    let armed : IsArmed (held_at_end passages) (turns_of (drop n passages)) on =
    back_one (held_at_end passages) passages i no_passage on below
    (c.pass_back.ensures.armed (held_at_end passages) (drop (length passages - i) passages) c.loop-i.invariant.armed) in
    let same = moment_there passages (length passages - 1 - i) (omega arith) in
    let moment : passage.moment ≡ moment_at passages n = sym same ∙ ap (moment_at passages) place in
    let ahead : AreAhead passages (changes_of (drop n passages)) (moment_at passages n) units =
    subst (λ (m : ℕ). AreAhead passages (changes_of (drop n passages)) m units) moment
    (subst (λ (changes : List Change). AreAhead passages changes passage.moment units) all two) in
    let order = moments_in_order tasks threads passages c.requires.1 (n - 1) n no_passage (omega arith) (omega arith) in
    let since : c.since_last.result ≡ moment_at passages n - moment_at passages (n - 1) =
    subst (λ (m : ℕ). c.since_last.result ≡ moment_at passages m - moment_at passages (m - 1)) place c.since_last.ensures in
    let longer : AreLonger units c.pass.new.self.units.items on c.since_last.result (length on) =
    subst (λ (list : List (Option ℕ)). AreLonger units c.pass.new.self.units.items list c.since_last.result (length list))
    c.deref.ensures.value
    c.pass.ensures.units in
    let ran = c.pass_back.ensures.threads in
    let held = c.loop-i.invariant.ran in
    let count = c.loop-i.invariant.tasks in
    let first = c.in_ok-enter.ensures.tasks in
    let second = c.in_ok-enter-2.ensures.tasks in
    let long = longer.same in
    record {
      armed = armed;
      ran = omega (arith, ran, held);
      tasks = omega (arith, long, count, first, second);
      ahead =
          ahead_passed tasks threads passages c.requires.1 n (omega (arith, below)) (changes_of (drop n passages))
          on c.since_last.result armed
          (omega (arith, since, order)) units c.pass.new.self.units.items (omega (arith, ran, held, count, first, second)) longer ahead;
      jobs =
          subst (λ (list : Vec TraceJob Global). AreJobsOf passages (changes_of (drop n passages)) (reverse list.items))
          (sym c.pass.ensures.jobs)
          (subst (λ (changes : List Change). AreJobsOf passages changes (reverse c.enter-in-loop-i.new.self.jobs.items)) all jobs_two);
    }
