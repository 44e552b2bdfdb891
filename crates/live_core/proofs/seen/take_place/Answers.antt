use Rattle.std.proofs.Common.{◌≡◌, ℕ, List, [], ◌∷◌, ◌++◌, arith, sym, ap, ◌∙◌, refl, subst}
use Rattle.strong_apa.specs.Chain.{IsSimple, IsChainOf, state_after_shift}
use Rattle.strong_apa.proofs.Masks.{effective_mask_below}
use Rattle.live_core.proofs.SeenTables.{same_mask}
use Rattle.live_core.proofs.Settling.{taken_by, kept_by, one_is_simple, same_after}
use Rattle.live_core.proofs.seen.take_place.Goals as goal

pub is_first_on-requires-clause-processor : goal.is_first_on-requires-clause-processor
is_first_on-requires-clause-processor c =
    effective_mask_below c.args.links.now c.processors-valid.ensures.valid c.args.t c.args.q c.requires.allowed

pub push-requires-clause-processor : goal.push-requires-clause-processor
push-requires-clause-processor c =
    let below = effective_mask_below c.args.links.now c.processors-valid.ensures.valid c.args.t c.args.q c.requires.allowed in
    let few = c.processors-valid.ensures.valid.processors in
    omega arith

pub shift-requires-clause-chain : goal.shift-requires-clause-chain
shift-requires-clause-chain c =
    let is : c.push.new.self ≡ c.args.q ∷ [] = c.push.ensures ∙ ap (λ (xs : List ℕ). xs ++ c.args.q ∷ []) c.new-chain.ensures in (
      c.args.q,
      subst (λ (chain : List ℕ). IsChainOf c.args.table.now c.args.t chain c.args.q) (sym is)
          (same_mask c.args.links.now c.args.table.now c.requires.same c.args.t c.args.q ∙ c.requires.allowed, refl),
    )

pub shift-requires-clause-simple : goal.shift-requires-clause-simple
shift-requires-clause-simple c =
    let is : c.push.new.self ≡ c.args.q ∷ [] = c.push.ensures ∙ ap (λ (xs : List ℕ). xs ++ c.args.q ∷ []) c.new-chain.ensures in
    subst IsSimple (sym is) (one_is_simple c.args.q)

pub returns-then-is_first_on-clause-same : goal.returns-then-is_first_on-clause-same
returns-then-is_first_on-clause-same c =
    same_after c.args.links.now c.args.table.now c.shift.new.self c.args.t c.push.new.self c.requires.same c.shift.ensures.links

pub returns-then-is_first_on-clause-taken : goal.returns-then-is_first_on-clause-taken
returns-then-is_first_on-clause-taken c =
    let s = c.args.links.now in
    let a = c.args.table.now in
    let is : c.push.new.self ≡ c.args.q ∷ [] = c.push.ensures ∙ ap (λ (xs : List ℕ). xs ++ c.args.q ∷ []) c.new-chain.ensures in
    let lt = effective_mask_below a c.processors-kept.ensures.valid c.args.t c.args.q
    (same_mask s a c.requires.same c.args.t c.args.q ∙ c.requires.allowed) in
    taken_by a c.processors-kept.ensures.valid c.args.t c.args.q lt c.shift.new.self
    (c.shift.ensures.links ∙ ap (λ (chain : List ℕ). state_after_shift a c.args.t chain) is) s
    (c.is_first_on.ensures.yes c.if-is_first_on.true)

pub returns-else-is_first_on-clause-taken : goal.returns-else-is_first_on-clause-taken
returns-else-is_first_on-clause-taken c =
    kept_by c.args.links.now c.args.table.now c.args.t c.args.q (c.is_first_on.ensures.no c.if-is_first_on.false)
