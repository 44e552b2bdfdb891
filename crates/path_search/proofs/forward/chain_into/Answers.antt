use Rattle.path_search.proofs.ChainPaths.{chain_answer}
use Rattle.path_search.proofs.forward.chain_into.Goals as goal

pub returns : goal.returns
returns c =
    chain_answer c.args.links.now c.args.t c.args.ends c.least_path.result (rw c.effective-start.ensures.value at c.least_path.ensures)
