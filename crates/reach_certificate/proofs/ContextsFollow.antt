-- The contexts that a history gives, one entry later.
use Rattle.std.proofs.Common.{◌≡◌, ℕ, List, [], ◌∷◌, ◌++◌, length, map, sym, ap, ◌∙◌, arith, append_assoc, append-nil}
use Rattle.std.specs.List.{range_with_len}
use Rattle.std.proofs.lemmas.List.FromFn.{fill_by_all, get_or-map-range_with_len, length-map-range_with_len}
use Rattle.task_set.specs.Context.{fresh_context}
use Rattle.task_set.specs.declared.context.Context.{Context}
use Rattle.strong_apa.specs.declared.reply.Entry.{Entry}
use Rattle.strong_apa.specs.State.{State}
use Rattle.strong_apa.specs.History.{state_after, effect_of}
use Rattle.strong_apa.specs.Dispatch.{taken_between, places_of, tick_runs, processors_of, runs_of, context_from, context_of}
use Rattle.strong_apa.proofs.Contexts.{context_from-take, context_from-run}
use Rattle.strong_apa.proofs.Histories.{processors_of-push, runs_of-push}
use Rattle.reach_certificate.specs.Contexts.{context_after_takes, context_after_all_runs, context_after_entry, EachBecomes}

takes_appended : (t : ℕ) (runs : List (ℕ × ℕ)) (taken places : List ℕ) → context_from t runs (taken ++ places)
    ≡ context_after_takes (context_from t runs taken) places
takes_appended t runs taken [] = ap (context_from t runs) (append-nil taken)
takes_appended t runs taken (p ∷ places) =
    ap (context_from t runs) (sym (append_assoc taken (p ∷ []) places))
    ∙ takes_appended t runs (taken ++ p ∷ []) places
    ∙ ap (λ (c : Context). context_after_takes c places) (context_from-take t runs taken p)

runs_appended : (t : ℕ) (runs more : List (ℕ × ℕ)) (taken : List ℕ) → context_from t (runs ++ more) taken
    ≡ context_after_all_runs (context_from t runs taken) more
runs_appended t runs [] taken = ap (λ (xs : List (ℕ × ℕ)). context_from t xs taken) (append-nil runs)
runs_appended t runs (run ∷ more) taken =
    ap (λ (xs : List (ℕ × ℕ)). context_from t xs taken) (sym (append_assoc runs (run ∷ []) more))
    ∙ runs_appended t (runs ++ run ∷ []) more taken
    ∙ ap (λ (c : Context). context_after_all_runs c more) (context_from-run t runs taken run.0 run.1)

-- one more entry
pub context_of-push : (start : State) (entries : List Entry) (entry : Entry) (t : ℕ) → context_of start (entries ++ entry ∷ []) t
    ≡ context_after_entry (state_after start entries) (effect_of (state_after start entries) entry) entry.event t
    (context_of start entries t)
context_of-push start entries entry t =
    let s = state_after start entries in
    let taken = taken_between s (effect_of s entry) t in
    let runs = tick_runs entry.event (places_of s t) in
    rw (processors_of-push start entries entry t, runs_of-push start entries entry t)
    (runs_appended t (runs_of start entries t) runs (processors_of start entries t ++ taken)
    ∙ ap (λ (c : Context). context_after_all_runs c runs)
    (takes_appended t (runs_of start entries t) (processors_of start entries t) taken))

-- where each context follows the entry, all are those that the history gives
pub contexts-follow : (start : State) (entries : List Entry) (entry : Entry) (n : ℕ) (contexts after : List Context)
    → contexts ≡ map (context_of start entries) (range_with_len 0 n)
    → EachBecomes (context_after_entry (state_after start entries) (effect_of (state_after start entries) entry) entry.event) contexts after
    → after ≡ map (context_of start (entries ++ entry ∷ [])) (range_with_len 0 n)
contexts-follow start entries entry n contexts after kept follows =
    let s = state_after start entries in
    let d = fresh_context 0 in
    let count : length contexts ≡ n = ap length kept ∙ length-map-range_with_len (context_of start entries) 0 n in
    fill_by_all (context_of start (entries ++ entry ∷ [])) after n d (follows.count ∙ count) (λ t fits.
    follows.each t d (rw count fits)
    ∙ ap (context_after_entry s (effect_of s entry) entry.event t)
    (rw kept (get_or-map-range_with_len (context_of start entries) 0 n t t d fits (omega arith)))
    ∙ sym (context_of-push start entries entry t))
