use Rattle.event_history.proofs.turn.end.Goals as goal

-- what was sent is that of the parts
pub returns-clause-sent : goal.returns-clause-sent
returns-clause-sent c = rw (c.parts.ensures.parts.0, c.parts.ensures.parts.1) c.parts.ensures.begins
