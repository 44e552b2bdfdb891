use Rattle.std.proofs.Common.{◌≡◌, Some, true, set, take}
use Rattle.strong_apa.specs.State.{state_with_ready}
use Rattle.link_table.specs.LinksView.{AreAwaited}
use Rattle.strong_apa.proofs.Shifts.{table_after, handed_on}
use Rattle.link_table.proofs.links.Links.enter.Given as goal

abbrev pub invariant-loop-i : goal.invariant-loop-i
invariant-loop-i l = record {
  on : l.self-inside.places.on ≡ table_after (state_with_ready l.fn.self l.t) l.t (take l.i l.chain);
  guest : l.guest ≡ handed_on (state_with_ready l.fn.self l.t) (Some l.t) (take l.i l.chain);
  processors : l.self-inside.processors ≡ l.fn.self.processors;
  priorities : l.self-inside.waiting.priorities ≡ l.fn.self.priorities;
  masks : l.self-inside.places.masks ≡ l.fn.self.masks;
  online : l.self-inside.places.online ≡ l.fn.self.online;
  ready : l.self-inside.ready.items ≡ set l.fn.self.ready l.t true;
  waiting : AreAwaited l.fn.self l.self-inside.waiting.masks;
}
