use Rattle.std.proofs.Common.{rules, sym, subst, ◌≡◌, ◌∙◌, ◌++◌, ◌∷◌, [], ℕ, List, arith, ap, get_or, Some}
use Rattle.task_set.specs.declared.context.Context.{Context}
use Rattle.atomic_table.specs.Table.{opening}
use Rattle.context_slots.specs.HandOver.{HandOverRule}
use Rattle.context_slots.specs.HandSteps.{dealing}
use Rattle.context_slots.proofs.Opening.{zero_snoc, home_snoc, opens_lem}
use Rattle.context_slots.proofs.turn_words.open.Goals as goal

pub loop-t-preserved : goal.loop-t-preserved
loop-t-preserved c =
    let i = c.loop-t.invariant in
    record {
      words = omega (arith, i.words, c.push_reserved.ensures.len);
      slots = omega (arith, i.slots, c.push_reserved-in-loop-t.ensures.len);
      room =
          (omega (arith, i.room.0, c.push_reserved.ensures.capacity), omega (arith, i.room.1, c.push_reserved-in-loop-t.ensures.capacity));
      zero_words = λ k. ap (λ (l : List ℕ). get_or l k 0) c.push_reserved.ensures.items ∙ zero_snoc c.loop-t.words.items k i.zero_words;
      at_home = home_snoc c.loop-t.slots.items c.push_reserved-in-loop-t.new.self.items c.loop-t.t (omega (arith, i.slots))
          (c.push_reserved-in-loop-t.ensures.items ∙ ap (λ (x : Context). c.loop-t.slots.items ++ Some x ∷ []) c.fresh.ensures) i.at_home;
    }

pub new-requires : goal.new-requires
new-requires c =
    let i = c.loop-t.invariant in
    let same : c.deref.result.now ≡ c.loop-t.words.items = search rules in
    subst (λ (ws : List ℕ). HandOverRule c.of.result.value.processors
    (opening ws c.loop-t.slots.items (dealing c.of.result.value.processors 1))) (sym same)
    (opens_lem c.of.result.value.processors c.loop-t.t c.loop-t.words.items c.loop-t.slots.items (omega (arith, i.words))
    (omega (arith, i.slots)) i.zero_words i.at_home)
