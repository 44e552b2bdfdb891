use Rattle.text_fields.proofs.LineEnds.{line_end_is}
use Rattle.text_fields.proofs.feed.line_end.Goals as goal

pub returns : goal.returns
returns c = line_end_is c.args.bytes.now c.memchr.result c.memchr.ensures
