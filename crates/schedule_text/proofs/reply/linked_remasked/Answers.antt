use Rattle.std.proofs.Common.{◌∷◌, ℕ, List, inl, refl, sym, subst}
use Rattle.std.specs.Prelude.{codes}
use Rattle.text_fields.specs.Fields.{texts}
use Rattle.schedule_text.specs.LineFields.{IsGoneFields, IsCameFields, IsReplyFault}
use Rattle.schedule_text.proofs.Names.{set_fields}
use Rattle.schedule_text.proofs.Parts.{read_of_both, fault_of_both}
use Rattle.schedule_text.proofs.Replies.{linked_parts, linked_read, linked_other}
use Rattle.schedule_text.proofs.reply.linked_remasked.Goals as goal

pub returns-in_default-clause-refused : goal.returns-in_default-clause-refused
returns-in_default-clause-refused c = inl (refl, linked_other 2 (texts c.args.rest.now) c.in_default.ensures)

pub returns-in-Ok-clause-read : goal.returns-in-Ok-clause-read
returns-in-Ok-clause-read c =
    let set = c.args.set.now in
    let part = texts c.in-Some.gone.now in
    let after = texts c.in-Some.arrival.now in
    let both = read_of_both (IsGoneFields part set) (IsCameFields after set) c.read_gone.result c.read_came.result
    c.in-Ok.gone c.in-Ok.came c.in-Ok.ensures c.read_gone.ensures.read c.read_came.ensures.read in
    linked_read 2 set (texts c.args.rest.now) part after c.in-Ok.gone c.in-Ok.came refl c.in-Some.ensures both.0 both.1

pub returns-in-Err-clause-refused : goal.returns-in-Err-clause-refused
returns-in-Err-clause-refused c =
    let set = c.args.set.now in
    let part = texts c.in-Some.gone.now in
    let after = texts c.in-Some.arrival.now in
    let cut = c.in-Some.ensures in
    subst (λ (rest : List (List ℕ)). IsReplyFault 2 (codes "remasked" ∷ codes "freed" ∷ rest) set c.in-Err.kind) (sym cut.each_field)
    (fault_of_both (linked_parts 2 set part after refl cut.five (set_fields set c.len-valid.ensures.valid))
    (IsGoneFields part set) (IsCameFields after set) c.read_gone.result c.read_came.result (λ gone f. (gone, f))
    (λ arrival f. (arrival, f)) c.read_gone.ensures.read c.read_gone.ensures.refused c.read_came.ensures.read
    c.read_came.ensures.refused c.in-Err.kind c.in-Err.ensures)
