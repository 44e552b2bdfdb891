use Rattle.trace_reader.proofs.EventsRead.{posted_of_body, of_version_of_body, version_of_body}
use Rattle.trace_reader.proofs.stage.Lists.into_input.Goals as goal

pub new-requires-clause-version : goal.new-requires-clause-version
new-requires-clause-version c =
    let expects = rw c.if-is_ended.true at c.requires in
    version_of_body c.args.self.version expects.1.0 c.args.self.set c.args.self.events.items expects.1.2

pub new-requires-clause-events : goal.new-requires-clause-events
new-requires-clause-events c =
    let expects = rw c.if-is_ended.true at c.requires in
    posted_of_body c.args.self.version expects.1.0 c.args.self.set c.args.self.events.items expects.1.2

pub new-requires-clause-of_version : goal.new-requires-clause-of_version
new-requires-clause-of_version c =
    let expects = rw c.if-is_ended.true at c.requires in
    of_version_of_body c.args.self.version expects.1.0 c.args.self.set c.args.self.events.items expects.1.2
