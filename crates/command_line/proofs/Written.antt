-- What the writer appended, piece by piece.
use Rattle.std.proofs.Common.{◌≡◌, ℕ, ◌+◌, ◌<◌, List, [], ◌∷◌, ◌++◌, length, map, take, get_or, OnOk, Result, Ok, Err, sym, ap, ◌∙◌}
use Rattle.std.proofs.Common.{append_assoc, append-nil, length-take-le, arith}
use Rattle.std.specs.Prelude.{codes}
use Rattle.std.proofs.lemmas.List.{take_more, map-append, length-map}
use Rattle.std.proofs.lemmas.Grind.{flat_map-append}
use Rattle.replay.specs.declared.sighting.Sighting.{Sighting}
use Rattle.command_line.specs.Shown.{reading_of}
use Rattle.std.specs.List.{flat_map, enumerate_from}
use Rattle.text_fields.specs.LineText.{line}
use Rattle.affinity_mask.specs.Number.{canonical_number}
use Rattle.schedule_text.specs.ScheduleText.{set_text}
use Rattle.command_line.specs.WatchText.{Snapshot, Reading, snapshot_text, observer_line, observers_text}

pieces4 : (old a b c d : List ℕ) → old ++ a ++ b ++ c ++ d ≡ old ++ (a ++ (b ++ c ++ d))
pieces4 old a b c d = simp append_assoc

pub snapshot_written : {E : Type 0} (label : List ℕ) (shot : Snapshot) (t0 t1 t2 t3 t4 : List ℕ) (X : ℕ) (r : Result (Unit {0}) E)
    → t1 ≡ t0 ++ label → t2 ≡ t1 ++ canonical_number shot.count → t3 ≡ t2 ++ 32 ∷ [] → X ≡ shot.occupied → OnOk r (t4 ≡ t3 ++ set_text X)
    → OnOk r (t4 ≡ t0 ++ (label ++ snapshot_text shot))
snapshot_written label shot t0 t1 t2 t3 t4 X (Ok x) e1 e2 e3 same e4 =
    rw (e4, same, e3, e2, e1) (pieces4 t0 label (canonical_number shot.count) (codes " ") (set_text shot.occupied))
snapshot_written label shot t0 t1 t2 t3 t4 X (Err x) e1 e2 e3 same e4 = tt

line_pieces : (old a b c d e f g h i : List ℕ) → old ++ a ++ b ++ (c ++ d) ++ (e ++ f) ++ (g ++ h) ++ i ≡ old
    ++ (a ++ b ++ c ++ d ++ e ++ f ++ g ++ h ++ i)
line_pieces old a b c d e f g h i = simp append_assoc

pub observer_written : (number : ℕ) (reading : Reading) (t0 t1 t2 t3 t4 t5 t6 : List ℕ) → t1 ≡ t0 ++ codes "observer "
    → t2 ≡ t1 ++ canonical_number number
    → t3 ≡ t2 ++ (codes " first " ++ snapshot_text reading.first) → t4 ≡ t3 ++ (codes " last " ++ snapshot_text reading.last)
    → t5 ≡ t4 ++ (codes " told " ++ snapshot_text reading.told) → t6 ≡ t5 ++ 10 ∷ [] → t6 ≡ t0 ++ observer_line (number, reading)
unfolding observer_line
observer_written number reading t0 t1 t2 t3 t4 t5 t6 e1 e2 e3 e4 e5 e6 =
    rw (e6, e5, e4, e3, e2, e1)
    (line_pieces t0 (codes "observer ") (canonical_number number) (codes " first ") (snapshot_text reading.first) (codes " last ")
    (snapshot_text reading.last)
    (codes " told ") (snapshot_text reading.told) (10 ∷ []))

-- one reading more, with its number
enumerated-more : (n : ℕ) (readings : List Reading) (reading : Reading) → enumerate_from n (readings ++ reading ∷ [])
    ≡ enumerate_from n readings ++ (n + length readings, reading) ∷ []
enumerated-more n [] reading = ap (λ (k : ℕ). (k, reading) ∷ []) (omega arith)
enumerated-more n (first ∷ rest) reading =
    ap (λ (more : List (ℕ × Reading)). (n, first) ∷ more)
    (enumerated-more (n + 1) rest reading ∙ ap (λ (k : ℕ). enumerate_from (n + 1) rest ++ (k, reading) ∷ []) (omega arith))

-- the lines of the first readings
abbrev pub lines_text : List Sighting → ℕ → List ℕ
lines_text sightings n = flat_map observer_line (enumerate_from 0 (map reading_of (take n sightings)))

-- and one line more
lines-more : (sightings : List Sighting) (i : ℕ) (d : Sighting) → i < length sightings
    → lines_text sightings (i + 1) ≡ lines_text sightings i ++ observer_line (i, reading_of (get_or sightings i d))
lines-more sightings i d within =
    let before = map reading_of (take i sightings) in
    let seen = get_or sightings i d in
    let count : length before ≡ i = length-map (take i sightings) reading_of ∙ length-take-le i sightings (omega arith) in
    let more : map reading_of (take (i + 1) sightings) ≡ before ++ reading_of seen ∷ [] =
    ap (map reading_of) (take_more sightings i d within) ∙ map-append reading_of (take i sightings) (seen ∷ []) in
    ap (λ (readings : List Reading). flat_map observer_line (enumerate_from 0 readings)) more
    ∙ ap (flat_map observer_line) (enumerated-more 0 before (reading_of seen)
    ∙ ap (λ (k : ℕ). enumerate_from 0 before ++ (k, reading_of seen) ∷ []) (omega (arith, count)))
    ∙ flat_map-append observer_line (enumerate_from 0 before) ((i, reading_of seen) ∷ [])
    ∙ ap (λ (text : List ℕ). flat_map observer_line (enumerate_from 0 before) ++ text) (append-nil (observer_line (i, reading_of seen)))

pub lines_written : (sightings : List Sighting) (i : ℕ) (d : Sighting) (old now next : List ℕ) → i < length sightings
    → now ≡ old ++ lines_text sightings i → next ≡ now ++ observer_line (i, reading_of (get_or sightings i d))
    → next ≡ old ++ lines_text sightings (i + 1)
lines_written sightings i d old now next within before step =
    step ∙ ap (λ (text : List ℕ). text ++ observer_line (i, reading_of (get_or sightings i d))) before
    ∙ append_assoc old (lines_text sightings i) (observer_line (i, reading_of (get_or sightings i d)))
    ∙ ap (λ (text : List ℕ). old ++ text) (sym (lines-more sightings i d within))

text_pieces : (old a b c d e : List ℕ) → old ++ a ++ b ++ c ++ d ++ e ≡ old ++ (a ++ b ++ c ++ d ++ e)
text_pieces old a b c d e = simp append_assoc

pub observers_written : (readings : List Reading) (t0 t1 t2 t3 t4 t5 : List ℕ) → t1 ≡ t0 ++ codes "observers "
    → t2 ≡ t1 ++ canonical_number (length readings)
    → t3 ≡ t2 ++ 10 ∷ [] → t4 ≡ t3 ++ flat_map observer_line (enumerate_from 0 readings) → t5 ≡ t4 ++ line (codes "end")
    → t5 ≡ t0 ++ observers_text readings
unfolding observers_text
observers_written readings t0 t1 t2 t3 t4 t5 e1 e2 e3 e4 e5 =
    rw (e5, e4, e3, e2, e1)
    (text_pieces t0 (codes "observers ") (canonical_number (length readings)) (10 ∷ []) (flat_map observer_line (enumerate_from 0 readings))
    (line (codes "end")))
