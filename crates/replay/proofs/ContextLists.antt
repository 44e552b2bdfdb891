-- The contexts that a history gives the tasks of a set: as many as there are tasks, each of a task of the set.
use Rattle.std.proofs.Common.{◌≡◌, ℕ, ◌<◌, List, length, map, get_or, All, ap, ◌∙◌, arith}
use Rattle.std.specs.List.{range_with_len}
use Rattle.std.proofs.lemmas.List.FromFn.{get_or-map-range_with_len, length-map-range_with_len}
use Rattle.task_set.specs.TaskSet.{SetData}
use Rattle.task_set.specs.declared.context.Context.{Context}
use Rattle.strong_apa.specs.declared.reply.Entry.{Entry}
use Rattle.strong_apa.specs.State.{start_of}
use Rattle.strong_apa.specs.Dispatch.{context_of}

pub contexts_count : (set : SetData) (entries : List Entry) (contexts : List Context) (n : ℕ)
    → contexts ≡ map (context_of (start_of set) entries) (range_with_len 0 n) → length contexts ≡ n
contexts_count set entries contexts n each = ap length each ∙ length-map-range_with_len (context_of (start_of set) entries) 0 n

-- each context is of a task of the set
pub contexts_known : (set : SetData) (entries : List Entry) (contexts : List Context) (n : ℕ)
    → contexts ≡ map (context_of (start_of set) entries) (range_with_len 0 n) → All (λ (c : Context). c.task < n) contexts
contexts_known set entries contexts n each k d fits =
    let below : k < n = rw (contexts_count set entries contexts n each) at fits in
    let at_k : get_or contexts k d ≡ context_of (start_of set) entries k = rw each
    (get_or-map-range_with_len (context_of (start_of set) entries) 0 n k k d below (omega arith)) in
    rw at_k below
