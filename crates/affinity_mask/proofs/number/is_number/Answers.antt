use Rattle.std.proofs.Common.{rules, tests, arith, ◌≡◌, ◌<◌, ◌∙◌, sym, length}
use Rattle.std.specs.Char.{is_ascii_digit}
use Rattle.std.specs.List.{list_all}
use Rattle.std.proofs.lemmas.Iterator.{YieldsList-from_slice}
use Rattle.std.proofs.lemmas.Iterator.Search.{all_from_yields_List}
use Rattle.affinity_mask.proofs.Numbers.{digits_model}
use Rattle.affinity_mask.proofs.number.is_number.Goals as goal

pub returns-then-not-is_empty : goal.returns-then-not-is_empty
returns-then-not-is_empty c =
    let tested : c.all.result ≡ list_all is_ascii_digit c.args.text.now =
    all_from_yields_List is_ascii_digit _ _ c.all.result c.all.ensures.ran (YieldsList-from_slice c.args.text.now cc)
    (λ x b q k. search (rules, tests)) in
    let pos : 0 < length c.args.text.now = grind arith in
    (λ yes. (pos, digits_model.to c.args.text.now (sym tested ∙ yes)), λ number. tested ∙ digits_model.from c.args.text.now number.1)
