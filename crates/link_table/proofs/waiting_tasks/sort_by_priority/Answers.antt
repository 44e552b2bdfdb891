use Rattle.std.proofs.Common.{rules}
use Rattle.std.proofs.lemmas.List.Sorted.{IsNonDecreasingBy-from_sort_by_key}
use Rattle.link_table.specs.declared.ranked.Ranked.{Ranked}
use Rattle.link_table.proofs.waiting_tasks.sort_by_priority.Goals as goal

pub returns-clause-sorted : goal.returns-clause-sorted
returns-clause-sorted c = IsNonDecreasingBy-from_sort_by_key (λ (entry : Ranked). entry.priority)
    c.sort_unstable_by_key.new.self.items c.sort_unstable_by_key.ensures.sorted (λ a r f called. search rules)
