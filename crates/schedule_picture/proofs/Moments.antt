-- The places of an axis, made entry by entry.
use Rattle.std.proofs.Common.{◌≡◌, ℕ, ◌+◌, ◌-◌, ◌<◌, ◌≤◌, List, [], ◌∷◌, ◌++◌, length, get_or, map, sym, ap, ◌∙◌, arith}
use Rattle.std.specs.List.{range_with_len, sum_by}
use Rattle.std.proofs.lemmas.List.{take_all}
use Rattle.std.proofs.lemmas.List.Sums.{sum_by_more}
use Rattle.std.proofs.lemmas.List.FromFn.{map-range_with_len_more}
use Rattle.task_set.specs.Event.{HasUnits}
use Rattle.task_set.specs.declared.event.Event.{Event}
use Rattle.task_set.specs.declared.event.Event.TheVariants.{Arrive, Depart, Tick, Affinity, Offline, Online}
use Rattle.strong_apa.specs.declared.reply.Entry.{Entry}
use Rattle.schedule_picture.specs.Picture.{units_of, moment}

pub units_few : (event : Event) → HasUnits event → units_of event ≤ 1000000
units_few (Arrive t) has = omega arith
units_few (Depart t) has = omega arith
units_few (Tick units) has = has.1
units_few (Affinity t mask) has = omega arith
units_few (Offline p) has = omega arith
units_few (Online p) has = omega arith

-- one more moment
pub moments_more : (start : ℕ) (entries : List Entry) (n now : ℕ) (places next : List ℕ) → now ≡ start + moment entries n
    → places ≡ map (λ n. start + moment entries n) (range_with_len 0 n) → next ≡ places ++ now ∷ []
    → next ≡ map (λ n. start + moment entries n) (range_with_len 0 (n + 1))
moments_more start entries n now places next is before after =
    after ∙ ap (λ (ps : List ℕ). ps ++ now ∷ []) before ∙ ap (λ (m : ℕ). map (λ n. start + moment entries n) (range_with_len 0 n) ++ m ∷ [])
    is
    ∙ sym (map-range_with_len_more (λ n. start + moment entries n) 0 n n (omega arith))

pub moment_more : (start : ℕ) (entries : List Entry) (n now : ℕ) (entry : Entry) → n < length entries → entry ≡ get_or entries n entry
    → now ≡ start + moment entries n → now + units_of entry.event ≡ start + moment entries (n + 1)
moment_more start entries n now entry lt read is =
    let more : moment entries (n + 1) ≡ moment entries n + units_of entry.event =
    sum_by_more (λ (e : Entry). units_of e.event) entries n entry lt ∙ ap (λ (e : Entry). moment entries n + units_of e.event) (sym read) in
    omega arith

-- after the last entry no time passes
pub moment_end : (entries : List Entry) (n : ℕ) → length entries ≤ n → moment entries n ≡ moment entries (n + 1)
moment_end entries n whole =
    ap (λ (es : List Entry). sum_by (λ (e : Entry). units_of e.event) es)
    (take_all n entries whole ∙ sym (take_all (n + 1) entries (omega arith)))

pub columns_more : (n : ℕ) (places next : List ℕ) → places ≡ map (λ n. n - 1) (range_with_len 0 n) → next ≡ places ++ (n - 1) ∷ []
    → next ≡ map (λ n. n - 1) (range_with_len 0 (n + 1))
columns_more n places next before after =
    after ∙ ap (λ (ps : List ℕ). ps ++ (n - 1) ∷ []) before ∙ sym (map-range_with_len_more (λ (n : ℕ). n - 1) 0 n n (omega arith))
