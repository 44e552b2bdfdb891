-- A number gives one input of each size.
use Rattle.std.proofs.Common.{◌≡◌, ℕ, zero, suc, ◌<◌, ◌≤◌, List, length, get_or, take, All, refl, sym, ap, ◌∙◌, arith}
use Rattle.std.proofs.lemmas.List.{same_lists, length-map, get_or-map}
use Rattle.std.proofs.lemmas.Option.{slice_get-get_or, get_or_from_slice_get}
use Rattle.std.proofs.Math.Seq.{take-suc, take-length}
use Rattle.affinity_mask.proofs.Sets.{same_set}
use Rattle.task_set.specs.TaskSet.{TaskData, SetData}
use Rattle.task_set.specs.declared.event.Event.{Event}
use Rattle.trace_reader.specs.declared.posted.Posted.{Posted}
use Rattle.trace_reader.specs.Generated.{IsGeneratedTask, AreGeneratedTasks, generated_event, AreGeneratedEvents, IsGeneratedInput}
use Rattle.trace_reader.specs.Generated.{events_of}
use Rattle.affinity_mask.proofs.Unions.{same_answer}

same_task : (number m i : ℕ) (task other : TaskData) → IsGeneratedTask number m i task → IsGeneratedTask number m i other → task ≡ other
same_task number m i task other one two =
    let names : task.name ≡ other.name = one.name ∙ sym two.name in
    let priorities : task.priority ≡ other.priority = one.priority ∙ sym two.priority in
    let masks : task.mask ≡ other.mask = same_set task.mask other.mask
    (λ p. same_answer _ _ (λ member. (two.mask p).1 ((one.mask p).0 member)) (λ member. (one.mask p).1 ((two.mask p).0 member))) in
    λ k. record { name = names k; priority = priorities k; mask = masks k }

same_tasks : (number m : ℕ) (tasks others : List TaskData) → length tasks ≡ length others → AreGeneratedTasks number m tasks
    → AreGeneratedTasks number m others → tasks ≡ others
same_tasks number m tasks others count one two = same_lists tasks others count (λ k d within.
    same_task number m k _ _ (one k (get_or tasks k d) (slice_get-get_or tasks k d within))
    (two k (get_or others k d) (slice_get-get_or others k d (omega (arith, count)))))

-- the first events are the same, and so is each that is generated after them
same_front : (number tasks : ℕ) (events others : List Event) → length events ≡ length others → AreGeneratedEvents number tasks events
    → AreGeneratedEvents number tasks others → (j : ℕ) → j ≤ length events → take j events ≡ take j others
same_front number tasks events others count one two zero within = refl
same_front number tasks events others count one two (suc j) within =
    let before = same_front number tasks events others count one two j (omega arith) in
    let d = generated_event number tasks (take j events) in
    let here : get_or events j d ≡ d = get_or_from_slice_get events j _ d (one j (omega arith)) in
    let there : get_or others j d ≡ generated_event number tasks (take j others) = get_or_from_slice_get others j _ d
    (two j (omega (arith, count))) in
    rw (take-suc events j d (omega arith), take-suc others j d (omega (arith, count)), here, there, before) refl

same_events : (number tasks : ℕ) (events others : List Event) → length events ≡ length others → AreGeneratedEvents number tasks events
    → AreGeneratedEvents number tasks others → events ≡ others
same_events number tasks events others count one two =
    sym (take-length events) ∙ same_front number tasks events others count one two (length events) (omega arith)
    ∙ ap (λ n. take n others) count ∙ take-length others

same_posted_one : (one other : Posted) → one.stream ≡ other.stream → one.event ≡ other.event → one ≡ other
same_posted_one one other streams events = λ k. record { stream = streams k; event = events k }

same_posted : (posted others : List Posted) → length posted ≡ length others → All (λ (one : Posted). one.stream ≡ 0) posted
    → All (λ (one : Posted). one.stream ≡ 0) others → events_of posted ≡ events_of others → posted ≡ others
same_posted posted others count one two events = same_lists posted others count (λ k d within.
    let within_others : k < length others = omega (arith, count) in
    let here : get_or (events_of posted) k d.event ≡ (get_or posted k d).event = get_or-map (λ (p : Posted). p.event)
    posted k d d.event within in
    let there : get_or (events_of others) k d.event ≡ (get_or others k d).event = get_or-map (λ (p : Posted). p.event)
    others k d d.event within_others in
    same_posted_one _ _ (one k d within ∙ sym (two k d within_others)) (sym here ∙ ap (λ (es : List Event). get_or es k d.event) events
    ∙ there))

same_sets : (set other : SetData) → set.processors ≡ other.processors → set.tasks ≡ other.tasks → set ≡ other
same_sets set other processors tasks = λ k. record { processors = processors k; tasks = tasks k }

pub one_input : (number processors tasks events : ℕ) (set other : SetData) (posted others : List Posted)
    → IsGeneratedInput number processors tasks events set posted
    → IsGeneratedInput number processors tasks events other others → (set ≡ other) × (posted ≡ others)
one_input number processors tasks events set other posted others one two =
    let counts : length posted ≡ length others = one.event_count ∙ sym two.event_count in
    let event_counts : length (events_of posted) ≡ length (events_of others) = length-map posted (λ (p : Posted). p.event) ∙ counts
    ∙ sym (length-map others (λ (p : Posted). p.event)) in (
      same_sets set other (one.processor_count ∙ sym two.processor_count)
          (same_tasks number processors set.tasks other.tasks (one.task_count ∙ sym two.task_count) one.each_task two.each_task),
      same_posted posted others counts one.one_stream two.one_stream
          (same_events number tasks (events_of posted) (events_of others) event_counts one.each_event two.each_event),
    )
