use Rattle.tests.proofs.plain.+plain_path.Given as goal

abbrev pub decreases-plain_path : goal.decreases-plain_path
decreases-plain_path l = l.most
