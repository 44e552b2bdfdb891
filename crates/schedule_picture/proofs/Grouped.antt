-- The two groups of a picture are elements, and the whole text is one.
use Rattle.std.proofs.Common.{◌≡◌, ℕ, ◌*◌, true, false, List, [], ◌∷◌, ◌++◌, length, refl, ap, ◌∙◌, append_assoc}
use Rattle.std.specs.Prelude.{codes, Option, Some, None, max, slice_index}
use Rattle.std.specs.List.{flat_map, range_with_len}
use Rattle.task_set.specs.TaskSet.{SetData, IsTaskSet}
use Rattle.text_fields.specs.EventText.{name_of}
use Rattle.schedule_picture.specs.declared.span.Seen.{Seen}
use Rattle.schedule_picture.specs.declared.span.Seen.TheVariants.{Task, OffLine, Processor, Waiting}
use Rattle.schedule_picture.specs.declared.span.Span.{Span}
use Rattle.schedule_picture.specs.declared.window.Window.{Window}
use Rattle.schedule_picture.specs.Colours.{colour_of, waiting_colour}
use Rattle.schedule_picture.specs.Elements.{Reader, Start, Ended, Inside, are_plain, reads, BeginsText, GoesOn, Ends, IsWellFormedElement}
use Rattle.schedule_picture.specs.Group.{stay_text, absence_text, row_text, lane_bar, row_bar, lane_rect, row_rect, text_of_part, part_of}
use Rattle.schedule_picture.specs.Group.{group_head, lane_text, lanes_text, listed_row, rows_text, span_of}
use Rattle.schedule_picture.specs.Picture.{close, lanes_group, rows_group}
use Rattle.schedule_picture.proofs.Elements.{reads_both, number_value, number_inside, over_value, over_inside}
use Rattle.schedule_picture.proofs.Shown.{name_of_plain, colour_plain}

-- whole elements, of which some have titles
abbrev pub AreElements : List ℕ → Type 0
AreElements text = (name : List ℕ) (outer : List (List ℕ)) → reads false (Inside name outer) text ≡ Inside name outer

go : (r1 r2 r3 : Reader) (xs ys : List ℕ) → reads false r1 xs ≡ r2 → reads false r2 ys ≡ r3 → reads false r1 (xs ++ ys) ≡ r3
go r1 r2 r3 xs ys first second = reads_both false r1 xs ys ∙ ap (λ (r : Reader). reads false r ys) first ∙ second

none : AreElements []
none = λ name outer. refl

both : (xs ys : List ℕ) → AreElements xs → AreElements ys → AreElements (xs ++ ys)
both xs ys a b = λ name outer. go (Inside name outer) (Inside name outer) (Inside name outer) xs ys (a name outer) (b name outer)

each : {X : Type 0} (f : X → List ℕ) → ((x : X) → AreElements (f x)) → (xs : List X) → AreElements (flat_map f xs)
each f a [] = none
each f a (x ∷ xs) = both (f x) (flat_map f xs) (a x) (each f a xs)

stay : (set : SetData) (t p begin end : ℕ) → IsTaskSet set → AreElements (stay_text (colour_of t) (name_of set t) p begin end)
unfolding stay_text
stay set t p begin end valid = λ name outer. simp (
  append_assoc,
  number_value,
  number_inside,
  over_value (colour_of t) (colour_plain t),
  over_inside (name_of set t) (name_of_plain set t valid),
)

absence : (p begin end : ℕ) → AreElements (absence_text p begin end)
unfolding absence_text
absence p begin end = λ name outer. simp (append_assoc, number_value)

bar : (k : ℕ) (colour : List ℕ) (begin end : ℕ) → are_plain colour ≡ true → AreElements (row_text k colour begin end)
unfolding row_text
bar k colour begin end plain = λ name outer. simp (append_assoc, number_value, over_value colour plain)

lane : (set : SetData) (p : ℕ) (seen : Seen) (begin end : ℕ) → IsTaskSet set → AreElements (lane_bar set p seen begin end)
lane set p (Task t) begin end valid = stay set t p begin end valid
lane set p OffLine begin end valid = absence p begin end
lane set p (Processor q) begin end valid = none
lane set p Waiting begin end valid = none

row : (k t : ℕ) (seen : Seen) (begin end : ℕ) → AreElements (row_bar k t seen begin end)
row k t (Processor p) begin end = bar k (colour_of t) begin end (colour_plain t)
row k t Waiting begin end = bar k waiting_colour begin end refl
row k t (Task u) begin end = none
row k t OffLine begin end = none

part : (text : ℕ → ℕ → List ℕ) → ((begin end : ℕ) → AreElements (text begin end)) → (found : Option (ℕ × ℕ))
    → AreElements (text_of_part text found)
part text all None = none
part text all (Some found) = all found.0 found.1

span_of_lane : (places : List ℕ) (window : Window) (set : SetData) (p : ℕ) → IsTaskSet set → (span : Span)
    → AreElements (lane_rect places window set p span)
unfolding lane_rect
span_of_lane places window set p valid span =
    part (lane_bar set p span.what) (λ begin end. lane set p span.what begin end valid) (part_of places window span)

span_of_row : (places : List ℕ) (window : Window) (k t : ℕ) (span : Span) → AreElements (row_rect places window k t span)
unfolding row_rect
span_of_row places window k t span = part (row_bar k t span.what) (row k t span.what) (part_of places window span)

lanes_are : (places : List ℕ) (window : Window) (set : SetData) (absences stays : ℕ → List Span) (count : ℕ) → IsTaskSet set
    → AreElements (lanes_text places window set absences stays count)
unfolding lanes_text
lanes_are places window set absences stays count valid =
    each (λ p. lane_text places window set p (absences p) (stays p))
    (λ p. both (flat_map (lane_rect places window set p) (absences p)) (flat_map (lane_rect places window set p) (stays p))
    (each (lane_rect places window set p) (span_of_lane places window set p valid) (absences p))
    (each (lane_rect places window set p) (span_of_lane places window set p valid) (stays p)))
    (range_with_len 0 count)

rows_are : (places : List ℕ) (window : Window) (rows : ℕ → List Span) (listed : List ℕ) → AreElements (rows_text places window rows listed)
unfolding rows_text
rows_are places window rows listed =
    each (listed_row places window rows listed)
    (λ k. each (row_rect places window k (slice_index listed k)) (span_of_row places window k (slice_index listed k))
    (rows (slice_index listed k)))
    (range_with_len 0 (length listed))

opens : (top wide high from span eighths : ℕ) (name : List ℕ) (outer : List (List ℕ))
    → reads false (Inside name outer) (group_head top wide high from span eighths) ≡ Inside (codes "svg") (name ∷ outer)
unfolding group_head
opens top wide high from span eighths name outer = simp (append_assoc, number_value)

group : (top wide high from span eighths : ℕ) (text : List ℕ) → AreElements text
    → AreElements (group_head top wide high from span eighths ++ text ++ close)
group top wide high from span eighths text all = λ name outer.
    let svg : Reader = Inside (codes "svg") (name ∷ outer) in
    let head : List ℕ = group_head top wide high from span eighths in
    go (Inside name outer) svg (Inside name outer) (head ++ text) close
    (go (Inside name outer) svg svg head text (opens top wide high from span eighths name outer) (all (codes "svg") (name ∷ outer)))
    refl

pub lanes_group_are : (places : List ℕ) (set : SetData) (window : Window) (absences lanes : ℕ → List Span) (top wide : ℕ) → IsTaskSet set
    → AreElements (lanes_group places set window absences lanes top wide)
lanes_group_are places set window absences lanes top wide valid =
    group top wide (24 * set.processors) window.from (span_of window) (8 * set.processors)
    (lanes_text places window set absences lanes set.processors)
    (lanes_are places window set absences lanes set.processors valid)

pub rows_group_are : (places : List ℕ) (window : Window) (rows : ℕ → List Span) (listed : List ℕ) (top wide : ℕ)
    → AreElements (rows_group places window rows listed top wide)
rows_group_are places window rows listed top wide =
    group top wide (16 * length listed) window.from (span_of window) (max (8 * length listed) 1) (rows_text places window rows listed)
    (rows_are places window rows listed)

-- the whole text
pub whole : (before lanes between rows after text : List ℕ) → text ≡ before ++ lanes ++ between ++ rows ++ after → BeginsText before
    → AreElements lanes → GoesOn between → AreElements rows → Ends after → IsWellFormedElement text
whole before lanes between rows after text is begins a goes b ends =
    let svg : Reader = Inside (codes "svg") [] in
    ap (reads false Start) is
    ∙ go Start svg Ended (before ++ lanes ++ between ++ rows) after
    (go Start svg svg (before ++ lanes ++ between) rows
    (go Start svg svg (before ++ lanes) between (go Start svg svg before lanes (begins false) (a (codes "svg") [])) (goes false))
    (b (codes "svg") [])) (ends false)
