use Rattle.scheduling_laws.proofs.Migrations as migrations
use Rattle.scheduling_laws.proofs.laws.migrations_are_few.Goals as goal

pub returns : goal.returns
returns c = migrations.migrations_are_few
