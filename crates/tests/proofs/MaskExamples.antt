-- Canonical lists and pieces of lists, worked out by hand and computed.
use Rattle.std.proofs.Common.{◌≡◌, refl, lit<, [], ◌∷◌}
use Rattle.std.proofs.lemmas.Fmt.{decimal_digit}
use Rattle.std.specs.Prelude.{codes}
use Rattle.affinity_mask.specs.ProcSet.{has, passing_below}
use Rattle.affinity_mask.specs.ListText.{canonical_list}
use Rattle.affinity_mask.specs.ListFault.{pieces, place_behind}

-- the processor 0
alone : canonical_list 1 ≡ codes "0"
unfolding has passing_below
alone = rw (decimal_digit 0 (lit< tt)) refl

-- the processors 3, 4 and 5
one_run : canonical_list 56 ≡ codes "3-5"
unfolding has passing_below
one_run = rw (decimal_digit 3 (lit< tt), decimal_digit 5 (lit< tt)) refl

-- the processors 0, 1, 2, 3 and 8
two_items : canonical_list 271 ≡ codes "0-3,8"
unfolding has passing_below
two_items = rw (decimal_digit 0 (lit< tt), decimal_digit 3 (lit< tt), decimal_digit 8 (lit< tt)) refl

-- the processors 1, 4, 5 and 7
short_runs : canonical_list 178 ≡ codes "1,4-5,7"
unfolding has passing_below
short_runs = rw (decimal_digit 1 (lit< tt), decimal_digit 4 (lit< tt), decimal_digit 5 (lit< tt), decimal_digit 7 (lit< tt)) refl

-- a text is cut at each comma, and the second and third pieces begin after the commas
empty_piece : pieces (codes "0,,1") ≡ codes "0" ∷ [] ∷ codes "1" ∷ []
empty_piece = refl

third_place : place_behind (codes "0" ∷ [] ∷ []) ≡ 3
third_place = refl
