use Rattle.commands.proofs.jobs.text_of.Goals as goal

pub returns : goal.returns
returns c = record {
  history = _;
  runs = c.in_ok-run.ensures.run.runs;
  text = c.in_ok-text.ensures;
}
