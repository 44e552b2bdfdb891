-- The lines of a text in which each line is plain.
use Rattle.std.proofs.Common.{◌≡◌, ℕ, List, [], ◌∷◌, ◌++◌, All, Contains, inl, inr, arith}
use Rattle.std.proofs.lemmas.List.Elements.{All-nil, All-cons, All-head, All-tail, Contains-append_right}
use Rattle.text_fields.specs.Lines.{IsPlain}
use Rattle.text_fields.specs.Lines.{MayStand}
use Rattle.text_fields.specs.Cut.{IsFirstLine}

-- a byte that may stand in the text and is no line feed
stands_plain : (b : ℕ) → (b ≡ 10 → ⊥) → MayStand b → IsPlain b
stands_plain b other (inl feed) = absurd (other feed)
stands_plain b other (inr plain) = plain

plain_line : (line rest : List ℕ) → (Contains line 10 → ⊥) → All MayStand (line ++ 10 ∷ rest)
    → All IsPlain line × All MayStand rest
plain_line [] rest none all = (All-nil IsPlain, All-tail MayStand 10 rest all)
plain_line (b ∷ line) rest none all =
    let here = stands_plain b (λ e. none (0, omega arith, e)) (All-head MayStand b (line ++ 10 ∷ rest) all) in
    let after = plain_line line rest (λ h. none (Contains-append_right (b ∷ []) line 10 h))
    (All-tail MayStand b (line ++ 10 ∷ rest) all) in
    (All-cons IsPlain b line here after.0, after.1)

plain_last : (line : List ℕ) → (Contains line 10 → ⊥) → All MayStand line → All IsPlain line
plain_last [] none all = All-nil IsPlain
plain_last (b ∷ line) none all =
    let here = stands_plain b (λ e. none (0, omega arith, e)) (All-head MayStand b line all) in
    All-cons IsPlain b line here
    (plain_last line (λ h. none (Contains-append_right (b ∷ []) line 10 h)) (All-tail MayStand b line all))

-- where each line of the bytes is plain, so is the first one, and so is each line of the rest
pub plain_first : (bytes line rest : List ℕ) → IsFirstLine bytes line rest → All MayStand bytes
    → All IsPlain line × All MayStand rest
plain_first bytes line rest (inl ended) all = plain_line line rest ended.1 (rw ended.0 at all)
plain_first bytes line rest (inr last) all =
    (rw last.0 (plain_last bytes last.2 all), rw last.1 (All-nil MayStand))
