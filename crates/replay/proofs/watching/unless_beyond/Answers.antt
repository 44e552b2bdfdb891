use Rattle.std.proofs.Common.{rules, ◌≡◌, ◌≤◌, true, List, All, length, refl, ap, subst}
use Rattle.strong_apa.specs.declared.reply.Entry.{Entry}
use Rattle.replay.specs.declared.sighting.Sighting.{Sighting}
use Rattle.replay.proofs.Seeing.{few_of, sightings_of}
use Rattle.replay.proofs.watching.unless_beyond.Goals as goal

pub returns-then-none_beyond-clause-sightings : goal.returns-then-none_beyond-clause-sightings
returns-then-none_beyond-clause-sightings c =
    let set = c.args.slots.set in
    let history : List Entry = c.args.replayed.core.history in
    let all : List Sighting = c.args.sightings.items in
    let yes : c.none_beyond.result ≡ true = search rules in
    let same : c.deref.result.now ≡ all = search rules in
    let few = few_of (length c.history.result.now) history all (ap length c.history.ensures.value)
    (subst (λ (l : List Sighting). All (λ (s : Sighting). s.told.count ≤ length c.history.result.now) l) same
    (c.none_beyond.ensures.0 yes)) in
    sightings_of set set.processors history history all refl refl c.requires.told few
