-- How contexts follow the links, processor by processor.
use Rattle.std.proofs.Common.{◌≡◌, ℕ, ◌+◌, Bool, true, false, cond, List, [], ◌∷◌, ◌++◌, length, get_or, map, filter, Option, None, refl}
use Rattle.std.proofs.Common.{sym, ap, ◌∙◌, subst, inl, inr, if◌then◌else◌}
use Rattle.std.specs.List.{range_with_len, fold}
use Rattle.std.proofs.lemmas.List.{get_or_default, same_lists}
use Rattle.std.proofs.lemmas.List.Folds.{fold-map}
use Rattle.std.proofs.lemmas.List.Sums.{fold-append}
use Rattle.task_set.specs.Context.{context_after_run}
use Rattle.task_set.specs.declared.context.Context.{Context}
use Rattle.task_set.specs.declared.event.Event.{Event}
use Rattle.task_set.specs.declared.event.Event.TheVariants.{Arrive, Depart, Tick, Affinity, Offline, Online}
use Rattle.strong_apa.specs.declared.reply.Reply.{Reply}
use Rattle.strong_apa.specs.declared.reply.Entry.{Entry}
use Rattle.strong_apa.specs.Reply.{chain_of}
use Rattle.strong_apa.specs.State.{State, IsState, is_task, task_on}
use Rattle.strong_apa.specs.Dispatch.{taken_between, places_of, tick_runs}
use Rattle.strong_apa.specs.History.{effect_of, state_after_reply}
use Rattle.strong_apa.proofs.SameTasks.{same_tasks-effect}
use Rattle.strong_apa.specs.Passing.{Passes}
use Rattle.strong_apa.specs.Touched.{StaysOutside, touched}
use Rattle.strong_apa.proofs.KeptStates.{passing_keeps_state}
use Rattle.strong_apa.proofs.Touched.{passing_stays_outside, stands_or_stays}
use Rattle.reach_certificate.specs.CaughtUp.{HaveCaughtUp, taken_among}
use Rattle.reach_certificate.specs.Contexts.{ContextsData, context_after_takes, context_after_all_runs, context_after_entry, EachBecomes}
use Rattle.reach_certificate.specs.Contexts.{HaveFollowed}
use Rattle.reach_certificate.proofs.CatchingUp.{EachBecomes-then, caught_up-then, taken_nowhere}
use Rattle.strong_apa.proofs.Counts.{filter_more}

-- ---- one number more, where it passes a test
fold_pushed : (f : Context → ℕ → Context) (c : Context) (xs : List ℕ) (b : Bool) (x : ℕ) → fold f c (xs ++ cond b (x ∷ []) [])
    ≡ (if b then f (fold f c xs) x else fold f c xs)
fold_pushed f c xs b x = fold-append f c xs (cond b (x ∷ []) []) ∙ last b (fold f c xs)
  where
    last : (b : Bool) (y : Context) → fold f y (cond b (x ∷ []) []) ≡ (if b then f y x else y)
    last true y = refl
    last false y = refl

-- ---- runs, as far as the processors were gone over
-- the context of t after it ran on each processor below n on which it is
abbrev pub context_run_below : State → ℕ → ℕ → ℕ → Context → Context
context_run_below s units n t c = fold (λ x p. context_after_run x p units) c (filter (λ p. is_task t (task_on s p)) (range_with_len 0 n))

pub runs_more : (s : State) (units n : ℕ) (start contexts after : List Context)
    → EachBecomes (context_run_below s units n) start contexts
    → EachBecomes (λ t c. if is_task t (task_on s n) then context_after_run c n units else c) contexts after
    → EachBecomes (context_run_below s units (n + 1)) start after
runs_more s units n start contexts after so_far here = EachBecomes-then _ _ _ (λ t c. sym (one_more t c)) start contexts after so_far here
  where
    one_more : (t : ℕ) (c : Context) → context_run_below s units (n + 1) t c
        ≡ (if is_task t (task_on s n) then context_after_run (context_run_below s units n t c) n units else context_run_below s units n t c)
    one_more t c =
        ap (fold (λ x p. context_after_run x p units) c) (filter_more (λ p. is_task t (task_on s p)) n)
        ∙ fold_pushed (λ x p. context_after_run x p units) c (filter (λ p. is_task t (task_on s p)) (range_with_len 0 n))
        (is_task t (task_on s n)) n

-- a run on each processor of a list, as the list of the runs
runs_on_each : (c : Context) (places : List ℕ) (units : ℕ) → fold (λ x p. context_after_run x p units) c places
    ≡ context_after_all_runs c (map (λ p. (p, units)) places)
runs_on_each c places units = sym (fold-map (λ (x : Context) (run : ℕ × ℕ). context_after_run x run.0 run.1) (λ p. (p, units)) c places)

pub runs_whole : (s : State) (n units : ℕ) → n ≡ s.processors → (contexts after : List Context)
    → EachBecomes (context_run_below s units n) contexts after
    → EachBecomes (λ t c. context_after_all_runs c (tick_runs (Tick units) (places_of s t))) contexts after
runs_whole s n units whole contexts after runs = record {
  count = runs.count;
  each = λ t d fits. runs.each t d fits ∙ rw (← whole)
      (runs_on_each (get_or contexts t d) (filter (λ p. is_task t (task_on s p)) (range_with_len 0 n)) units);
}

-- ---- the whole entry
-- at a tick nothing changes
tick_still : (old : State) (event : Event) (reply : Reply) (units : ℕ) → event ≡ Tick units → Passes old event reply
    → state_after_reply old event reply ≡ old
tick_still old (Tick more) reply units is passes = ap (state_after_reply old (Tick more)) passes
tick_still old _ reply units is passes = absurd (cc)

-- another event than a tick runs nothing
no_runs : (event : Event) (places : List ℕ) → ((units : ℕ) → event ≡ Tick units → ⊥) → tick_runs event places ≡ []
no_runs (Tick units) places none = absurd (none units refl)
no_runs (Arrive t) places none = refl
no_runs (Depart t) places none = refl
no_runs (Affinity t mask) places none = refl
no_runs (Offline p) places none = refl
no_runs (Online p) places none = refl

-- another one than a processor that goes off line touches the chains alone
pub touches_chains : (event : Event) (reply : Reply) → ((p : ℕ) → event ≡ Offline p → ⊥) → touched event reply ≡ chain_of reply
touches_chains (Offline p) reply none = absurd (none p refl)
touches_chains (Arrive t) reply none = refl
touches_chains (Depart t) reply none = refl
touches_chains (Tick units) reply none = refl
touches_chains (Affinity t mask) reply none = refl
touches_chains (Online p) reply none = refl

module _ (old : State) (ok : IsState old) (entry : Entry) (passes : Passes old entry.event entry.reply) (new : State)
    (effect : new ≡ effect_of old entry) (before after : ContextsData) (held : before.held ≡ old.on) where
  new_ok : IsState new
  new_ok = rw effect (passing_keeps_state old entry.event entry.reply ok passes)

  same_processors : new.processors ≡ old.processors
  same_processors = ap (λ (s : State). s.processors) effect ∙ (same_tasks-effect old entry).processors

  taken_is : after.held ≡ new.on → (t : ℕ) → taken_among before.held after.held t ≡ taken_between old new t
  taken_is now t = rw (held, now, ok.on_count) refl

  pub followed_tick : (units : ℕ) → entry.event ≡ Tick units → after.held ≡ before.held
      → EachBecomes (λ t c. context_after_all_runs c (tick_runs (Tick units) (places_of new t))) before.each after.each
      → HaveFollowed old new entry.event before after
  followed_tick units is kept runs = record {
    each = record { count = runs.count; each = λ t d fits. runs.each t d fits ∙ whole t (get_or before.each t d) };
    held = now;
  }
    where
      still : new ≡ old
      still = effect ∙ tick_still old entry.event entry.reply units is passes

      now : after.held ≡ new.on
      now = kept ∙ held ∙ sym (ap (λ (s : State). s.on) still)

      nobody : (t : ℕ) → taken_between old new t ≡ []
      nobody t = sym (taken_is now t) ∙ ap (λ (xs : List (Option ℕ)). taken_among before.held xs t) kept ∙ taken_nowhere before.held t

      whole : (t : ℕ) (c : Context) → context_after_all_runs c (tick_runs (Tick units) (places_of new t))
          ≡ context_after_entry old new entry.event t c
      whole t c = rw (nobody t, is) (ap (λ (s : State). context_after_all_runs c (tick_runs (Tick units) (places_of s t))) still)

  pub followed_other : ((units : ℕ) → entry.event ≡ Tick units → ⊥) → HaveCaughtUp new (touched entry.event entry.reply) before after
      → HaveFollowed old new entry.event before after
  followed_other no_tick caught = record {
    each = record { count = caught.each.count; each = λ t d fits. caught.each.each t d fits ∙ whole t (get_or before.each t d) };
    held = now;
  }
    where
      outside : StaysOutside old new (touched entry.event entry.reply)
      outside = rw effect (passing_stays_outside old entry.event entry.reply ok passes)

      at : (p : ℕ) → get_or after.held p None ≡ task_on new p
      at p = elim (stands_or_stays old new (touched entry.event entry.reply) outside p) [
        | inl there ↦ caught.there p there
        | inr same ↦ elim (caught.either p) [
          | inr linked ↦ linked
          | inl stays ↦ stays ∙ ap (λ (xs : List (Option ℕ)). get_or xs p None) held ∙ sym same
        ]
      ]

      count : length after.held ≡ length new.on
      count = caught.count ∙ ap length held ∙ ok.on_count ∙ sym same_processors ∙ sym new_ok.on_count

      now : after.held ≡ new.on
      now = same_lists after.held new.on count (λ k d fits. get_or_default after.held k d None fits ∙ at k
          ∙ get_or_default new.on k None d (rw (← count) fits))

      whole : (t : ℕ) (c : Context) → context_after_takes c (taken_among before.held after.held t)
          ≡ context_after_entry old new entry.event t c
      whole t c = rw (taken_is now t, no_runs entry.event (places_of old t) no_tick) refl

  pub followed_offline : (p : ℕ) → entry.event ≡ Offline p → (mid : ContextsData) → length before.held ≡ new.processors
      → HaveCaughtUp new (p ∷ []) before mid → HaveCaughtUp new (chain_of entry.reply) mid after
      → HaveFollowed old new entry.event before after
  followed_offline p is mid count one other =
      followed_other (λ units e. let wrong = sym is ∙ e in cc)
      (subst (λ (event : Event). HaveCaughtUp new (touched event entry.reply) before after) (sym is)
      (caught_up-then new new_ok (p ∷ []) (chain_of entry.reply) before mid after count one other))
