use Rattle.std.proofs.Common.{◌≡◌, ◌∷◌, List, ℕ, ap, arith}
use Rattle.std.specs.Prelude.{codes}
use Rattle.schedule_text.proofs.FieldLists.{headed}
use Rattle.schedule_text.proofs.ReplyFields.{refused_at}
use Rattle.schedule_text.proofs.reply.remasked_reply.Goals as goal

pub returns-then-is_word-clause-refused : goal.returns-then-is_word-clause-refused
returns-then-is_word-clause-refused c =
    let two : 2 ≡ c.args.version = omega arith in
    refused_at 2 c.args.version _ _ c.args.set.now c.waiting_remasked.result two
    (ap (λ (rest : List (List ℕ)). codes "remasked" ∷ rest)
    (headed c.args.rest.now _ (codes "left") c.in-len1-up.len_at_least (c.is_word.ensures.0 c.if-is_word.true)))
    c.waiting_remasked.ensures.refused

pub returns-then-is_word-2-clause-refused : goal.returns-then-is_word-2-clause-refused
returns-then-is_word-2-clause-refused c =
    let two : 2 ≡ c.args.version = omega arith in
    refused_at 2 c.args.version _ _ c.args.set.now c.linked_remasked.result two
    (ap (λ (rest : List (List ℕ)). codes "remasked" ∷ rest)
    (headed c.args.rest.now _ (codes "freed") c.in-len1-up.len_at_least
    (c.is_word-else-is_word.ensures.0 c.if-is_word-2.true)))
    c.linked_remasked.ensures.refused
