-- The chain that was not taken at a moment.
use Rattle.std.proofs.Common.{◌≡◌, ℕ, ◌+◌, ◌-◌, ◌<◌, ◌≤◌, Bool, true, false, List, [], length, take, drop, get_or, set, Option, Some, None}
use Rattle.std.proofs.Common.{refl, sym}
use Rattle.std.proofs.Common.{ap, ◌∙◌, ◌++◌, ◌∷◌, subst, inl, inr, arith, IsTrue, length-set, append-nil}
use Rattle.std.specs.Prelude.{◌↔◌, ◌⊎◌, MatchOption, reverse}
use Rattle.std.proofs.lemmas.Bool.{cases_eq}
use Rattle.std.proofs.Math.ListN.{drop_of_length-le}
use Rattle.std.proofs.lemmas.List.{append_assoc, drop_more, get_or-set_same, get_or-set_other}
use Rattle.std.proofs.lemmas.Option.{slice_get-get_or}
use Rattle.task_set.specs.TaskSet.{SetData}
use Rattle.strong_apa.specs.State.{State, task_count, task_on}
use Rattle.live_core.specs.Live.{LiveData}
use Rattle.live_core.specs.Lost.{FindsChain, data_with_seen, state_held}
use Rattle.live_core.specs.Seen.{seen_at}
use Rattle.trace_passages.specs.Passages.{ArePassages, moment_at, span_of}
use Rattle.trace_passages.specs.declared.passage.Passage.{Passage}
use Rattle.trace_passages.specs.declared.turn.Turn.{Turn}
use Rattle.trace_losses.specs.ChainAt.{ArePlaces, AreChainSteps, AreNoSteps, AreStepsFor, IsChainAt, SeesAll, steps_of}
use Rattle.trace_losses.specs.declared.chains.ChainStep.{ChainStep}
use Rattle.trace_losses.specs.Passages.{IsCut, ready_after_passages, turns_of}
use Rattle.trace_losses.specs.Runs.{holds, is_some_of, runs, runs_between}
use Rattle.trace_losses.specs.Walk.{IsWalkAt}
use Rattle.trace_losses.proofs.Passed.{cut_at, moment_there, no_passage, turns_of_all}
use Rattle.trace_losses.proofs.SeenMoments.{count_of}

-- ---- each task is seen
-- the first so many tasks are seen on the processors of their threads
pub record SeesBelow (old : LiveData) (processors : List (Option ℕ)) (n : ℕ) (core : LiveData) : Type 0 where
  pub rest : core ≡ record old { seen = core.seen; holders = core.holders }
  pub holders : 0 < n → core.holders ≡ None
  pub count : length core.seen ≡ task_count old.links
  pub each : (t q : ℕ) → t < n → q < 64 → (seen_at core.seen t ≡ Some q) ↔ IsTrue (is_some_of (get_or processors t None) q)

pub sees_none : (old : LiveData) (processors : List (Option ℕ)) → length old.seen ≡ task_count old.links → SeesBelow old processors 0 old
sees_none old processors count = record {
  rest = refl;
  holders = λ some. absurd (omega arith);
  count = count;
  each = λ t q below few. absurd (omega arith);
}

module _ (old core : LiveData) (processors : List (Option ℕ)) (n : ℕ) (place : Option ℕ) (before : SeesBelow old processors n core)
    (below : n < task_count old.links)
    (is : (q : ℕ) → q < 64 → (place ≡ Some q) ↔ IsTrue (is_some_of (get_or processors n None) q)) where
  now_there : (t q : ℕ) → t < n + 1 → q < 64
      → (seen_at (set core.seen n place) t ≡ Some q) ↔ IsTrue (is_some_of (get_or processors t None) q)
  now_there t q early few = elim (cases_eq t n) [
    | inl same ↦
        let long = before.count in
        let there : seen_at (set core.seen n place) t ≡ place =
        ap (seen_at (set core.seen n place)) same ∙ get_or-set_same core.seen n place None (omega (arith, long, below)) in
        subst (λ (o : Option ℕ). (o ≡ Some q) ↔ IsTrue (is_some_of (get_or processors t None) q)) (sym there)
        (subst (λ (u : ℕ). (place ≡ Some q) ↔ IsTrue (is_some_of (get_or processors u None) q)) (sym same) (is q few))
    | inr other ↦
        subst (λ (o : Option ℕ). (o ≡ Some q) ↔ IsTrue (is_some_of (get_or processors t None) q))
        (sym (get_or-set_other core.seen n t place None other)) (before.each t q (omega (arith, early, other)) few)
  ]

  pub sees_more : SeesBelow old processors (n + 1) (data_with_seen core n place)
  sees_more = record {
    rest = ap (λ (d : LiveData). record d { seen = set core.seen n place; holders = None }) before.rest;
    holders = λ some. refl;
    count = length-set core.seen n place ∙ before.count;
    each = now_there;
  }

pub sees_all : (old core : LiveData) (processors : List (Option ℕ)) (n : ℕ) → SeesBelow old processors n core → n ≡ task_count old.links
    → 0 < task_count old.links → SeesAll old processors core
sees_all old core processors n sees all some = record {
  places = core.seen;
  count = sees.count;
  each = λ t q below few. sees.each t q (omega (arith, below, all)) few;
  rest = sees.rest ∙ ap (λ (on : Option (List (Option ℕ))). record old { seen = core.seen; holders = on })
      (sees.holders (omega (arith, some, all)));
}

-- ---- the steps
pub no_guest : (table : State) (chain : List ℕ) → steps_of table None chain ≡ []
no_guest table [] = refl
no_guest table (p ∷ rest) = refl

-- one more step, where the guest is known
pub step_more : (table : State) (chain : List ℕ) (whole steps new : List ChainStep) (guest next : Option ℕ) (t i : ℕ) → i < length chain
    → guest ≡ Some t → new ≡ steps ++ record { task = t; processor = get_or chain i 0 } ∷ [] → next ≡ task_on table (get_or chain i 0)
    → steps ++ steps_of table guest (drop i chain) ≡ whole → new ++ steps_of table next (drop (i + 1) chain) ≡ whole
step_more table chain whole steps new guest next t i below is made holder before =
    let one : ChainStep = record { task = t; processor = get_or chain i 0 } in
    ap (λ (list : List ChainStep). list ++ steps_of table next (drop (i + 1) chain)) made
    ∙ ap (λ (g : Option ℕ). (steps ++ one ∷ []) ++ steps_of table g (drop (i + 1) chain)) holder
    ∙ append_assoc steps (one ∷ []) (steps_of table (task_on table (get_or chain i 0)) (drop (i + 1) chain))
    ∙ ap (λ (rest : List ℕ). steps ++ steps_of table (Some t) rest) (sym (drop_more chain i 0 below))
    ∙ ap (λ (g : Option ℕ). steps ++ steps_of table g (drop i chain)) (sym is) ∙ before

-- no step follows where there is no guest
pub no_step_more : (table : State) (chain : List ℕ) (whole steps : List ChainStep) (guest : Option ℕ) (i : ℕ) → guest ≡ None
    → steps ++ steps_of table guest (drop i chain) ≡ whole → steps ++ steps_of table guest (drop (i + 1) chain) ≡ whole
no_step_more table chain whole steps guest i none before =
    ap (λ (g : Option ℕ). steps ++ steps_of table g (drop (i + 1) chain)) none
    ∙ ap (λ (list : List ChainStep). steps ++ list) (no_guest table (drop (i + 1) chain) ∙ sym (no_guest table (drop i chain)))
    ∙ ap (λ (g : Option ℕ). steps ++ steps_of table g (drop i chain)) (sym none) ∙ before

pub steps_end : (table : State) (chain : List ℕ) (whole steps : List ChainStep) (guest : Option ℕ) (i : ℕ) → length chain ≤ i
    → steps ++ steps_of table guest (drop i chain) ≡ whole → steps ≡ whole
steps_end table chain whole steps guest i end before =
    sym (append-nil steps) ∙ ap (λ (rest : List ℕ). steps ++ steps_of table guest rest) (sym (drop_of_length-le chain end)) ∙ before

module _ (task_set : SetData) (passages : List Passage) (threads n x t : ℕ) (core seen : LiveData) (processors : List (Option ℕ))
    (steps : List ChainStep) (all : length task_set.tasks < threads + 1) (cut : IsCut passages x n)
    (at : IsWalkAt task_set passages threads n core processors) (sees : SeesAll core processors seen)
    (told : AreStepsFor seen t steps) where
  abbrev earlier : List Passage
  earlier = reverse (take n passages)

  tasks : task_count core.links ≡ length task_set.tasks
  tasks = count_of task_set (ready_after_passages earlier) core.links at.placed

  on_there : (u q : ℕ) → u < length task_set.tasks
      → is_some_of (get_or processors u None) q ≡ runs_between (turns_of earlier) (turns_of (drop n passages)) u q
  on_there u q below =
      let count = at.count in
      at.armed u (get_or processors u None) q (slice_get-get_or processors u None (omega (arith, below, all, count)))
      ∙ ap (λ (turns : List Turn). runs (holds turns) (turns_of (drop n passages)) u q) (turns_of_all passages n)

  there : ArePlaces earlier (drop n passages) (length task_set.tasks) sees.places
  there = record {
    count = sees.count ∙ tasks;
    each = λ u q below few.
        subst (λ (b : Bool). (seen_at sees.places u ≡ Some q) ↔ IsTrue b) (on_there u q below)
        (sees.each u q (let count = tasks in omega (arith, below, count)) few);
  }

  abbrev sight : LiveData
  sight = record core { seen = sees.places; holders = None }

  steps_are : (found : Option (List ℕ)) (new : LiveData) (finds : FindsChain sight t found new)
      → MatchOption found (steps ≡ []) (λ chain. steps ≡ steps_of (state_held sight.links finds.on) (Some t) chain)
      → AreChainSteps core.links (state_held core.links finds.on) t steps
      ⊎ AreNoSteps core.links (state_held core.links finds.on) t steps
  steps_are (Some chain) new finds along = inl (chain, finds.chain.0, finds.chain.1, along)
  steps_are None new finds none = inr (finds.chain, none)

  pub chain_there : IsChainAt task_set passages x t steps
  chain_there =
      let one : AreStepsFor sight t steps = subst (λ (d : LiveData). AreStepsFor d t steps) sees.rest told in
      record {
        n = n;
        cut = cut;
        links = core.links;
        placed = at.placed;
        places = sees.places;
        are = there;
        on = one.finds.on;
        table = one.finds.holders.table;
        which = one.finds.holders.which;
        along = steps_are one.found one.new one.finds one.along;
      }

-- ---- the walk there
-- a passage that has come before the end is not the last one
pub not_last : (passages : List Passage) (i x : ℕ) → 0 < i → i ≤ length passages → (get_or passages (i - 1) no_passage).moment ≤ x
    → x < span_of passages → i < length passages
not_last passages i x some below come before = elim (cases_eq i (length passages)) [
  | inl last ↦
      let at = moment_there passages (i - 1) (omega arith) in
      let same : moment_at passages (i - 1) ≡ span_of passages = ap (λ (n : ℕ). moment_at passages (n - 1)) last in
      absurd (omega (arith, at, same, come, before))
  | inr other ↦ omega (arith, below, other)
]

-- the first passage has come at each moment
pub first_has_come : (tasks threads : ℕ) (passages : List Passage) → ArePassages tasks threads passages → (i x : ℕ) → 0 < i
    → i ≤ length passages → x < (get_or passages (i - 1) no_passage).moment → 1 < i
first_has_come tasks threads passages are i x some below before = elim (cases_eq i 1) [
  | inl one ↦
      let begin = are.begin (get_or passages 0 no_passage) (slice_get-get_or passages 0 no_passage (omega (arith, some, below))) in
      let here : x < (get_or passages 0 no_passage).moment = subst (λ (n : ℕ). x < (get_or passages (n - 1) no_passage).moment)
      one before in
      absurd (omega (arith, begin, here))
  | inr other ↦ omega (arith, some, other)
]

-- so the moment lies between the last passage that has come and the next one
pub cut_there : (tasks threads : ℕ) (passages : List Passage) → ArePassages tasks threads passages → (i x : ℕ) → 0 < i
    → i ≤ length passages
    → (1 < i → moment_at passages (i - 2) ≤ x) → x < (get_or passages (i - 1) no_passage).moment → IsCut passages x (i - 1)
cut_there tasks threads passages are i x some below come before =
    let more = first_has_come tasks threads passages are i x some below before in
    let at = moment_there passages (i - 1) (omega (arith, some, below)) in
    let last : i - 2 ≡ i - 1 - 1 = omega arith in
    cut_at tasks threads passages are (i - 1) x (omega (arith, more)) (omega (arith, some, below))
    (subst (λ (n : ℕ). moment_at passages n ≤ x) last (come more)) (omega (arith, at, before))
