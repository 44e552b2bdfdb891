-- What contracts see of the fields of a checker.
use Rattle.std.specs.Prelude.{◌≡◌}
use Rattle.strong_apa.specs.State.{HasSameTasks}
use Rattle.reach_certificate.specs.Checker.{CheckerData, IsChecker}
use Rattle.reach_certificate.specs.declared.checker.Checker.TheInside.{Inside}

-- the links and the contexts as they are stored
abbrev pub checker_view : Inside → CheckerData
checker_view a = record { links = a.links; contexts = a.contexts.each }

-- the stored fields are always those of a checker; the contexts hold the occupants of its links,
-- and the links of an earlier moment, which it keeps beside, are of the same tasks
pub record IsStored (a : Inside) : Type 0 where
  pub checker : IsChecker (checker_view a)
  pub held : a.contexts.held ≡ a.links.on
  pub saved : HasSameTasks a.links a.saved
