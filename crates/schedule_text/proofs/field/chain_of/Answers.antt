use Rattle.std.proofs.Common.{rules, refl, ◌≢◌}
use Rattle.std.specs.Prelude.{codes}
use Rattle.schedule_text.specs.Fields.{links_of}
use Rattle.schedule_text.proofs.Chains.{chain_read, chain_none}
use Rattle.schedule_text.proofs.field.chain_of.Goals as goal

pub returns-clause-read : goal.returns-clause-read
returns-clause-read c =
    chain_read c.args.field.now (links_of c.args.field.now) c.in-Some.chain refl c.in-Some.ensures

pub returns-in_default-clause-refused : goal.returns-in_default-clause-refused
returns-in_default-clause-refused c =
    let no_dash : c.args.field.now ≢ codes "-" = search rules in
    (refl, chain_none c.args.field.now (links_of c.args.field.now) no_dash refl c.in_default.ensures)
