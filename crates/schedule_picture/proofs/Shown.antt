-- What is written into a picture stands for itself: names, events, lists and colours; and the two groups are elements.
use Rattle.std.proofs.Common.{◌≡◌, ◌≢◌, ℕ, zero, suc, ◌+◌, ◌*◌, ◌-◌, ◌%◌, ◌≤◌, ◌==◌, ⊎_elim, Bool, true, false, if◌then◌else◌, List, []}
use Rattle.std.proofs.Common.{◌∷◌, ◌++◌, length, map, drop, take, refl, sym, ap, ◌∙◌, arith}
use Rattle.std.specs.Prelude.{codes, IsTrue, not, slice_index_or}
use Rattle.std.specs.List.{list_all, join_with_byte, concat, slice_range, AllByRecursion}
use Rattle.std.proofs.lemmas.Bool.Decides.{nat_tests}
use Rattle.std.proofs.Math.Seq.{take-nil, drop-nil, take-append_seam, drop-append-add}
use Rattle.std.proofs.lemmas.Bool.{cases_lt}
use Rattle.std.proofs.lemmas.List.{length-map}
use Rattle.std.proofs.lemmas.List.Elements.{recursion_from_All}
use Rattle.affinity_mask.specs.ListText.{canonical_list, run_text, member_runs, comma, dash}
use Rattle.affinity_mask.specs.Number.{canonical_number}
use Rattle.task_set.specs.Name.{IsName, begins_name, continues_name}
use Rattle.task_set.specs.TaskSet.{SetData, TaskData, IsTaskSet, names}
use Rattle.task_set.specs.Refusal.{IsNameOf}
use Rattle.task_set.specs.declared.event.Event.{Event}
use Rattle.task_set.specs.declared.event.Event.TheVariants.{Arrive, Depart, Tick, Affinity, Offline, Online}
use Rattle.text_fields.specs.EventText.{name_of, event_text}
use Rattle.text_fields.proofs.NamedTasks.{name_valid, named_task}
use Rattle.schedule_picture.specs.Colours.{palette, colour_of, waiting_colour}
use Rattle.schedule_picture.specs.Elements.{is_plain, are_plain, same_bytes}
use Rattle.schedule_picture.proofs.Elements.{both, number_plain, plain_both, plain_append}

-- ---- names
begins_plain : (b : ℕ) → IsTrue (begins_name b) → is_plain b ≡ true
begins_plain b h = grind (arith, nat_tests)

continues_plain : (b : ℕ) → IsTrue (continues_name b) → is_plain b ≡ true
continues_plain b h = grind (arith, nat_tests)

all_plain : (P : ℕ → Bool) → ((b : ℕ) → IsTrue (P b) → is_plain b ≡ true) → (bytes : List ℕ) → AllByRecursion (λ b. IsTrue (P b)) bytes
    → are_plain bytes ≡ true
all_plain P each [] h = refl
all_plain P each (b ∷ bytes) h = plain_both b bytes (each b h.0) (all_plain P each bytes h.1)

valid_plain : (name : List ℕ) → IsName name → are_plain name ≡ true
valid_plain [] h = absurd h
valid_plain (b ∷ bytes) h = plain_both b bytes (begins_plain b h.1)
    (all_plain continues_name continues_plain bytes (recursion_from_All (λ byte. IsTrue (continues_name byte)) bytes h.2))

past_end : (xs : List (List ℕ)) (t : ℕ) → length xs ≤ t → slice_index_or xs t [] ≡ []
past_end [] t h = refl
past_end (x ∷ xs) zero h = absurd (omega arith)
past_end (x ∷ xs) (suc t) h = past_end xs t (omega arith)

pub name_of_plain : (set : SetData) (t : ℕ) → IsTaskSet set → are_plain (name_of set t) ≡ true
name_of_plain set t valid = ⊎_elim
    (λ low. valid_plain (name_of set t) (name_valid set t valid low))
    (λ high. ap are_plain (past_end (names set) t (omega (arith, high, length-map set.tasks (λ (task : TaskData). task.name)))))
    (cases_lt t (length set.tasks))

pub named_plain : (set : SetData) (t : ℕ) (name : List ℕ) → IsTaskSet set → IsNameOf set t name → are_plain name ≡ true
named_plain set t name valid named = let found = named_task set t name named in ap are_plain found.1 ∙ name_of_plain set t valid

-- ---- lists of processors, and events
run_plain : (run : ℕ × ℕ) → are_plain (run_text run) ≡ true
run_plain run = elim (run.0 == run.1) as (λ b. are_plain (if b then canonical_number run.0 else canonical_number run.0 ++ dash
    ∷ canonical_number run.1) ≡ true) [
      | true ↦ number_plain run.0
      | false ↦ plain_append (canonical_number run.0) (dash ∷ canonical_number run.1) (number_plain run.0)
          (number_plain run.1)
    ]

joined_plain : (member_runs : List (ℕ × ℕ)) → are_plain (join_with_byte comma (map run_text member_runs)) ≡ true
joined_plain [] = refl
joined_plain (run ∷ []) = run_plain run
joined_plain (run ∷ next ∷ rest) =
    plain_append (run_text run) (comma ∷ join_with_byte comma (map run_text (next ∷ rest))) (run_plain run) (joined_plain (next ∷ rest))

pub list_plain : (X : ℕ) → are_plain (canonical_list X) ≡ true
list_plain X = joined_plain (member_runs X)

pub event_plain : (set : SetData) (event : Event) → IsTaskSet set → are_plain (event_text set event) ≡ true
unfolding event_text
event_plain set (Arrive t) valid = name_of_plain set t valid
event_plain set (Depart t) valid = name_of_plain set t valid
event_plain set (Tick units) valid = number_plain units
event_plain set (Affinity t mask) valid = plain_append (codes "affinity " ++ name_of set t ++ codes " ") (canonical_list mask)
    (plain_append (codes "affinity " ++ name_of set t) (codes " ") (name_of_plain set t valid) refl) (list_plain mask)
event_plain set (Offline p) valid = number_plain p
event_plain set (Online p) valid = number_plain p

-- ---- colours
-- seven bytes of colours of seven bytes each
cut : (colours : List (List ℕ)) (k : ℕ) → AllByRecursion (λ (c : List ℕ). length c ≡ 7) colours
    → slice_range (concat colours) (7 * k) (7 * k + 7) ≡ slice_index_or colours k []
cut [] k h = ap (λ (xs : List ℕ). take (7 * k + 7 - 7 * k) xs) (drop-nil (7 * k)) ∙ take-nil (7 * k + 7 - 7 * k)
cut (c ∷ colours) zero h = ap (λ (n : ℕ). take n (c ++ concat colours)) (sym h.0) ∙ take-append_seam c (concat colours)
cut (c ∷ colours) (suc k) h =
    let at : 7 * suc k ≡ length c + 7 * k = omega (arith, h.0) in
    let n : 7 * suc k + 7 - 7 * suc k ≡ 7 * k + 7 - 7 * k = omega arith in
    ap (λ (m : ℕ). take m (drop (7 * suc k) (c ++ concat colours))) n
    ∙ ap (λ (m : ℕ). take (7 * k + 7 - 7 * k) (drop m (c ++ concat colours))) at
    ∙ ap (take (7 * k + 7 - 7 * k)) (drop-append-add c (concat colours) (7 * k))
    ∙ cut colours k h.1

pub colour_cut : (t : ℕ) (all : List ℕ) → all ≡ concat palette → slice_range all (7 * (t % 24)) (7 * (t % 24) + 7) ≡ colour_of t
unfolding colour_of
colour_cut t all is = ap (λ (xs : List ℕ). slice_range xs (7 * (t % 24)) (7 * (t % 24) + 7)) is
    ∙ cut palette (t % 24) (
      refl,
      (
        refl,
        (
          refl,
          (
            refl,
            (
              refl,
              (
                refl,
                (
                  refl,
                  (
                    refl,
                    (
                      refl,
                      (refl, (refl, (refl, (refl, (refl, (refl, (refl, (refl, (refl, (refl, (refl, (refl, (refl, (refl, (refl, tt))))))))))))))),
                    ),
                  ),
                ),
              ),
            ),
          ),
        ),
      ),
    )

-- what passes for each of some, and for none, passes for the one at a place
each_at : (test : List ℕ → Bool) (l : List (List ℕ)) (k : ℕ) → list_all test l ≡ true → test [] ≡ true → test (slice_index_or l k []) ≡ true
each_at test [] k h none = none
each_at test (x ∷ l) zero h none = (both (test x) (list_all test l) h).0
each_at test (x ∷ l) (suc k) h none = each_at test l k (both (test x) (list_all test l) h).1 none

pub colour_plain : (t : ℕ) → are_plain (colour_of t) ≡ true
unfolding colour_of
colour_plain t = each_at are_plain palette (t % 24) refl refl

pub colour_not_red : (t : ℕ) → colour_of t ≢ waiting_colour
unfolding colour_of
colour_not_red t = λ same. absurd (cc (
  each_at (λ (c : List ℕ). not (same_bytes c waiting_colour)) palette (t % 24) refl refl,
  ap (λ (c : List ℕ). not (same_bytes c waiting_colour)) same,
))
