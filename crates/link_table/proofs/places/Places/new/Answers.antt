use Rattle.std.proofs.Common.{◌≡◌, ℕ, Option, None, length, replicate, refl, ap, ◌∙◌, arith, rules}
use Rattle.link_table.proofs.Indexing.{IsIndex-start}
use Rattle.link_table.proofs.places.Places.new.Goals as goal

pub invariant_of-result : goal.invariant_of-result
invariant_of-result c =
    let tasks : c.len.result ≡ length c.args.masks.items = omega (arith, c.len.ensures, c.args.masks.ok.0) in
    IsIndex-start c.args.masks.items c.args.processors c.in_ok-of.of.items c.in_ok-on.on.items c.in_ok-feeders.feeders.items
    c.empty-2.result c.first.result c.requires.processors c.requires.masks
    (c.in_ok-of.ensures.items_if_clones_equal (λ y e. search rules) ∙ ap (λ (n : ℕ). replicate {A = Option ℕ} n None) tasks)
    (c.in_ok-on.ensures.items_if_clones_equal (λ y e. search rules))
    (c.in_ok-feeders.ensures.items_if_clones_equal (λ y e. e) ∙ ap (λ (X : ℕ). replicate c.args.processors X) c.empty.ensures)
    c.empty-2.ensures

pub returns : goal.returns
returns c =
    let none = c.in_ok-on.ensures.items_if_clones_equal (λ y e. search rules) in
    rw (c.first.ensures.value, none) refl
