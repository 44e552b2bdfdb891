-- A history in two parts.
use Rattle.std.proofs.Common.{[], ◌∷◌, refl, sym, subst}
use Rattle.strong_apa.specs.History.{IsLegalFrom, effect_of}
use Rattle.history_laws.specs.PartLaws.{StateAfterParts, IsLegalInParts, PrefixIsLegal}

pub state_after_parts : StateAfterParts
state_after_parts s [] second = refl
state_after_parts s (entry ∷ rest) second = state_after_parts (effect_of s entry) rest second

pub legal_in_parts : IsLegalInParts
legal_in_parts s [] second = (λ whole. (tt, whole), λ parts. parts.1)
legal_in_parts s (entry ∷ rest) second =
    let later = legal_in_parts (effect_of s entry) rest second in (
      λ whole. let parts = later.0 whole.1 in ((whole.0, parts.0), parts.1),
      λ parts. (parts.0.0, later.1 (parts.0.1, parts.1)),
    )

pub prefix_is_legal : PrefixIsLegal
prefix_is_legal s shorter longer begins legal = ((legal_in_parts s shorter begins.0).0 (subst (IsLegalFrom s) (sym begins.1) legal)).0
