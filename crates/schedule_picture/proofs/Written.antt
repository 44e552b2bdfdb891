-- The texts of the rectangles and of the heads, as they are written field by field.
use Rattle.std.proofs.Common.{◌≡◌, ℕ, ◌+◌, ◌*◌, ◌-◌, List, ◌++◌}
use Rattle.std.specs.Prelude.{codes}
use Rattle.affinity_mask.specs.Number.{canonical_number}
use Rattle.schedule_picture.specs.Group.{stay_text, absence_text, row_text, group_head}
use Rattle.schedule_picture.proofs.Pieces.{bar_joined, coloured_joined, stay_joined, head_joined}

pub absence_written : (p begin end : ℕ) (t0 t1 t2 t3 t4 : List ℕ) → t1 ≡ t0 ++ (codes "<rect x=\"" ++ canonical_number begin)
    → t2 ≡ t1 ++ (codes "\" y=\"" ++ canonical_number (8 * p + 1)) → t3 ≡ t2 ++ (codes "\" width=\"" ++ canonical_number (end - begin))
    → t4 ≡ t3 ++ codes "\" height=\"6\" fill=\"#ccc\"/>\n" → t4 ≡ t0 ++ absence_text p begin end
unfolding absence_text
absence_written p begin end t0 t1 t2 t3 t4 e1 e2 e3 e4 =
    bar_joined t0 t1 t2 t3 t4 (codes "<rect x=\"") (canonical_number begin) (codes "\" y=\"") (canonical_number (8 * p + 1))
    (codes "\" width=\"") (canonical_number (end - begin)) (codes "\" height=\"6\" fill=\"#ccc\"/>\n") e1 e2 e3 e4

pub bar_written : (k begin end : ℕ) (colour t0 t1 t2 t3 t4 t5 t6 : List ℕ) → t1 ≡ t0 ++ (codes "<rect x=\"" ++ canonical_number begin)
    → t2 ≡ t1 ++ (codes "\" y=\"" ++ canonical_number (8 * k + 2)) → t3 ≡ t2 ++ (codes "\" width=\"" ++ canonical_number (end - begin))
    → t4 ≡ t3 ++ codes "\" height=\"4\" fill=\"" → t5 ≡ t4 ++ colour → t6 ≡ t5 ++ codes "\"/>\n" → t6 ≡ t0 ++ row_text k colour begin end
unfolding row_text
bar_written k begin end colour t0 t1 t2 t3 t4 t5 t6 e1 e2 e3 e4 e5 e6 =
    coloured_joined t0 t1 t2 t3 t4 t5 t6 (codes "<rect x=\"") (canonical_number begin) (codes "\" y=\"") (canonical_number (8 * k + 2))
    (codes "\" width=\"") (canonical_number (end - begin)) (codes "\" height=\"4\" fill=\"") colour (codes "\"/>\n") e1 e2 e3 e4 e5 e6

pub stay_written : (colour name : List ℕ) (p begin end : ℕ) (t0 t1 t2 t3 t4 t5 t6 t7 t8 t9 t10 t11 : List ℕ)
    → t1 ≡ t0 ++ (codes "<rect x=\"" ++ canonical_number begin)
    → t2 ≡ t1 ++ (codes "\" y=\"" ++ canonical_number (8 * p + 1)) → t3 ≡ t2 ++ (codes "\" width=\"" ++ canonical_number (end - begin))
    → t4 ≡ t3 ++ codes "\" height=\"6\" fill=\"" → t5 ≡ t4 ++ colour → t6 ≡ t5 ++ codes "\"><title>" → t7 ≡ t6 ++ name
    → t8 ≡ t7 ++ (codes " on cpu " ++ canonical_number p) → t9 ≡ t8 ++ (codes " from " ++ canonical_number begin)
    → t10 ≡ t9 ++ (codes " to " ++ canonical_number end)
    → t11 ≡ t10 ++ codes "</title></rect>\n" → t11 ≡ t0 ++ stay_text colour name p begin end
unfolding stay_text
stay_written colour name p begin end t0 t1 t2 t3 t4 t5 t6 t7 t8 t9 t10 t11 e1 e2 e3 e4 e5 e6 e7 e8 e9 e10 e11 =
    stay_joined t0 t1 t2 t3 t4 t5 t6 t7 t8 t9 t10 t11 (codes "<rect x=\"") (canonical_number begin) (codes "\" y=\"")
    (canonical_number (8 * p + 1)) (codes "\" width=\"") (canonical_number (end - begin)) (codes "\" height=\"6\" fill=\"") colour
    (codes "\"><title>") name
    (codes " on cpu ") (canonical_number p) (codes " from ") (canonical_number begin) (codes " to ") (canonical_number end)
    (codes "</title></rect>\n") e1 e2 e3 e4 e5 e6 e7 e8 e9 e10 e11

pub head_written : (top wide high from span eighths : ℕ) (t0 t1 t2 t3 t4 t5 t6 t7 : List ℕ)
    → t1 ≡ t0 ++ (codes "<svg x=\"200\" y=\"" ++ canonical_number top)
    → t2 ≡ t1 ++ (codes "\" width=\"" ++ canonical_number wide) → t3 ≡ t2 ++ (codes "\" height=\"" ++ canonical_number high)
    → t4 ≡ t3 ++ (codes "\" viewBox=\"" ++ canonical_number from)
    → t5 ≡ t4 ++ (codes " 0 " ++ canonical_number span) → t6 ≡ t5 ++ (codes " " ++ canonical_number eighths)
    → t7 ≡ t6 ++ codes "\" preserveAspectRatio=\"none\">\n"
    → t7 ≡ t0 ++ group_head top wide high from span eighths
unfolding group_head
head_written top wide high from span eighths t0 t1 t2 t3 t4 t5 t6 t7 e1 e2 e3 e4 e5 e6 e7 =
    head_joined t0 t1 t2 t3 t4 t5 t6 t7 (codes "<svg x=\"200\" y=\"") (canonical_number top) (codes "\" width=\"") (canonical_number wide)
    (codes "\" height=\"") (canonical_number high) (codes "\" viewBox=\"") (canonical_number from)
    (codes " 0 ") (canonical_number span) (codes " ") (canonical_number eighths) (codes "\" preserveAspectRatio=\"none\">\n")
    e1 e2 e3 e4 e5 e6 e7
