use Rattle.apa_c.proofs.table.event_of.Goals as goal

pub returns-then-kind-gt2 : goal.returns-then-kind-gt2
returns-then-kind-gt2 c = c.processor_event.ensures c.args.mask
