use Rattle.commands.proofs.MadeTexts.{is_make_of}
use Rattle.commands.proofs.generate.made_text.Goals as goal

pub returns : goal.returns
returns c = is_make_of c.args.sizes c.in_ok-input.input.set c.in_ok-input.input.events _ c.in_ok-input.ensures.generated
    (rw c.in_ok-input.ensures.version at c.in_ok-text.ensures.text) (rw c.in_ok-input.ensures.version at c.in_ok-text.ensures.reads_back)
