-- What contracts see of the fields of contexts.
use Rattle.reach_certificate.specs.Contexts.{ContextsData}
use Rattle.reach_certificate.specs.declared.contexts.Contexts.TheInside.{Inside}

-- the fields as they are stored
abbrev pub contexts_view : Inside → ContextsData
contexts_view a = record { each = a.each.items; held = a.held.items }
