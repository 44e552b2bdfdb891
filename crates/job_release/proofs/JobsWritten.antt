-- The lines of jobs as they are written.
use Rattle.std.proofs.Common.{◌≡◌, ℕ, zero, suc, ◌+◌, ◌<◌, ◌≤◌, Bool, true, false, List, [], ◌∷◌, ◌++◌, length, codes, nat_le, get_or}
use Rattle.std.proofs.Common.{Option, Some, None, MatchOption, refl, sym, ap, ◌∙◌, inl, inr, arith, append_assoc, append-nil, map}
use Rattle.std.specs.List.{flat_map, range_with_len}
use Rattle.std.proofs.lemmas.Bool.{cases_lt}
use Rattle.std.proofs.lemmas.Bool.Decides.{nat_tests}
use Rattle.std.proofs.lemmas.Grind.{flat_map-append}
use Rattle.std.proofs.lemmas.List.FromFn.{map-range_with_len_more}
use Rattle.affinity_mask.specs.Number.{canonical_number}
use Rattle.strong_apa.specs.declared.reply.Entry.{Entry}
use Rattle.strong_apa.specs.State.{start_of}
use Rattle.job_release.specs.JobsText.{first_upto, finish_of, response_text, job_line, lines_of_task, heading_text, jobs_text}
use Rattle.job_release.specs.Jobs.{job_at}
use Rattle.job_release.specs.JobInput.{JobInputData}
use Rattle.job_release.specs.declared.input.Job.{Job}
use Rattle.job_release.specs.Moments.{Timeline, state_of_moment, service_of, IsFinish, IsUnfinished}

-- ---- the finish of a job
nothing_upto : (test : ℕ → Bool) (n : ℕ) → ((x : ℕ) → x ≤ n → test x ≡ false) → first_upto test n ≡ None
unfolding first_upto
nothing_upto test zero none = rw (none 0 (omega arith)) refl
nothing_upto test (suc n) none = rw (nothing_upto test n (λ x within. none x (omega arith)), none (suc n) (omega arith)) refl

found_upto : (test : ℕ → Bool) (n x : ℕ) → x ≤ n → test x ≡ true → ((y : ℕ) → y < x → test y ≡ false) → first_upto test n ≡ Some x
unfolding first_upto
found_upto test zero x within passes least =
    let zero_is : x ≡ 0 = omega arith in
    let here : test 0 ≡ true = rw zero_is at passes in
    rw here (ap (λ (n : ℕ). Some n) (sym zero_is))
found_upto test (suc n) x within passes least = elim (cases_lt n x) [
  | inl last ↦ (
      let end : x ≡ suc n = omega arith in
      let here : test (suc n) ≡ true = rw end at passes in
      rw (nothing_upto test n (λ y below. least y (omega arith)), here) (ap (λ (n : ℕ). Some n) (sym end)))
  | inr before ↦ rw (found_upto test n x before passes least) refl
]

reached : (goal service : ℕ) → goal ≤ service → nat_le goal service ≡ true
reached goal service from = grind (arith, nat_tests)

not_reached : (goal service : ℕ) → service < goal → nat_le goal service ≡ false
not_reached goal service below = grind (arith, nat_tests)

pub finish_is : (states : Timeline) (t goal horizon : ℕ) (finish : Option ℕ)
    → MatchOption finish (IsUnfinished states t goal horizon) (IsFinish states t goal horizon)
    → finish ≡ finish_of states t goal horizon
finish_is states t goal horizon None unfinished =
    sym (nothing_upto (λ x. nat_le goal (service_of states t x)) horizon
    (λ x within. not_reached goal (service_of states t x) (unfinished x within)))
finish_is states t goal horizon (Some x) found =
    sym (found_upto (λ x. nat_le goal (service_of states t x)) horizon x found.within (reached goal (service_of states t x) found.got)
    (λ y below. not_reached goal (service_of states t y) (found.least y below)))

-- ---- the line of a job
pieces : (old a b c d e f g h : List ℕ) → old ++ a ++ b ++ c ++ d ++ e ++ f ++ g ++ h ≡ old ++ (a ++ b ++ c ++ d ++ e ++ f ++ g ++ h)
pieces old a b c d e f g h = simp append_assoc

pub job_written : (name : List ℕ) (k release : ℕ) (finish : Option ℕ) (t0 t1 t2 t3 t4 t5 t6 t7 t8 : List ℕ) → t1 ≡ t0 ++ name
    → t2 ≡ t1 ++ 32 ∷ [] → t3 ≡ t2 ++ canonical_number k → t4 ≡ t3 ++ 32 ∷ []
    → t5 ≡ t4 ++ canonical_number release → t6 ≡ t5 ++ 32 ∷ [] → t7 ≡ t6 ++ response_text release finish → t8 ≡ t7 ++ 10 ∷ []
    → t8 ≡ t0 ++ job_line name k release finish
unfolding job_line
job_written name k release finish t0 t1 t2 t3 t4 t5 t6 t7 t8 e1 e2 e3 e4 e5 e6 e7 e8 =
    rw (e8, e7, e6, e5, e4, e3, e2, e1) (pieces t0 name (codes " ") (canonical_number k) (codes " ") (canonical_number release) (codes " ")
    (response_text release finish) (10 ∷ []))

-- a job as the writer reads it
pub job_read : (jobs read : List Job) (k : ℕ) (d : Job) → read ≡ jobs → k < length read
    → (get_or read k d).release ≡ (job_at jobs k).release
job_read jobs read k d same below =
    ap (λ (job : Job). job.release) (read_at read k d below) ∙ ap (λ (list : List Job). (job_at list k).release) same
  where
    read_at : (xs : List Job) (i : ℕ) (d : Job) → i < length xs → get_or xs i d ≡ job_at xs i
    read_at [] i d below = absurd (omega arith)
    read_at (x ∷ xs) zero d below = refl
    read_at (x ∷ xs) (suc i) d below = read_at xs i d (omega arith)

pub inside : (jobs read : List Job) (k : ℕ) → read ≡ jobs → k < length read → k < length jobs
inside jobs read k same below = let count = ap length same in omega arith

-- ---- one line more
range_more : (n : ℕ) → range_with_len 0 (n + 1) ≡ range_with_len 0 n ++ n ∷ []
range_more n =
    let same : (xs : List ℕ) → map (λ x. x) xs ≡ xs = map_self in
    sym (same (range_with_len 0 (n + 1))) ∙ map-range_with_len_more (λ (x : ℕ). x) 0 n n (omega arith)
    ∙ ap (λ (xs : List ℕ). xs ++ n ∷ []) (same (range_with_len 0 n))
  where
    map_self : (xs : List ℕ) → map (λ x. x) xs ≡ xs
    map_self [] = refl
    map_self (x ∷ xs) = ap (λ (rest : List ℕ). x ∷ rest) (map_self xs)

pub pieces_more : (f : ℕ → List ℕ) (n : ℕ) (old now next piece : List ℕ) → now ≡ old ++ flat_map f (range_with_len 0 n)
    → next ≡ now ++ piece → piece ≡ f n → next ≡ old ++ flat_map f (range_with_len 0 (n + 1))
pieces_more f n old now next piece before step is =
    let last : flat_map f (n ∷ []) ≡ f n = append-nil (f n) in
    let all : flat_map f (range_with_len 0 (n + 1)) ≡ flat_map f (range_with_len 0 n) ++ f n =
    ap (flat_map f) (range_more n) ∙ flat_map-append f (range_with_len 0 n) (n ∷ [])
    ∙ ap (λ (end : List ℕ). flat_map f (range_with_len 0 n) ++ end) last in
    step ∙ ap (λ (text : List ℕ). text ++ piece) before ∙ append_assoc old (flat_map f (range_with_len 0 n)) piece
    ∙ ap (λ (end : List ℕ). old ++ (flat_map f (range_with_len 0 n) ++ end)) is ∙ ap (λ (end : List ℕ). old ++ end) (sym all)

pub no_pieces : (f : ℕ → List ℕ) (old now : List ℕ) → now ≡ old → now ≡ old ++ flat_map f (range_with_len 0 0)
no_pieces f old now same = same ∙ sym (append-nil old)

-- ---- the text
heading_pieces : (old a b c d e : List ℕ) → old ++ a ++ b ++ (10 ∷ c) ++ d ++ e ≡ old ++ (a ++ (b ++ 10 ∷ []) ++ c ++ (d ++ e))
heading_pieces old a b c d e = simp append_assoc

pub heading_written : (input : JobInputData) (t0 t1 t2 t3 t4 t5 : List ℕ) → t1 ≡ t0 ++ codes "jobs "
    → t2 ≡ t1 ++ canonical_number input.version → t3 ≡ t2 ++ codes "\nhorizon "
    → t4 ≡ t3 ++ canonical_number input.horizon → t5 ≡ t4 ++ 10 ∷ [] → t5 ≡ t0 ++ heading_text input
heading_written input t0 t1 t2 t3 t4 t5 e1 e2 e3 e4 e5 =
    rw (e5, e4, e3, e2, e1) (heading_pieces t0 (codes "jobs ") (canonical_number input.version) (codes "horizon ")
    (canonical_number input.horizon) (10 ∷ []))

end_pieces : (a b c : List ℕ) → [] ++ a ++ b ++ c ≡ a ++ b ++ c
end_pieces a b c = refl

pub text_written : (input : JobInputData) (history : List Entry) (t0 t1 t2 t3 : List ℕ) → t0 ≡ [] → t1 ≡ t0 ++ heading_text input
    → t2 ≡ t1 ++ flat_map (lines_of_task input (state_of_moment (start_of input.set) history)) (range_with_len 0 (length input.set.tasks))
    → t3 ≡ t2 ++ codes "end\n" → t3 ≡ jobs_text input history
unfolding jobs_text
text_written input history t0 t1 t2 t3 e0 e1 e2 e3 =
    rw (e3, e2, e1, e0)
    (end_pieces (heading_text input) (flat_map (lines_of_task input (state_of_moment (start_of input.set) history))
    (range_with_len 0 (length input.set.tasks))) (codes "end\n"))
