use Rattle.std.proofs.Common.{refl, sym, ◌∙◌}
use Rattle.strong_apa.proofs.Linked.{linked_number, occupied_number}
use Rattle.link_table.proofs.Leaders.{on_first, on_more, on_number, on_whole, rest_first, rest_fewer}
use Rattle.link_table.proofs.Rests.{rest_grows}
use Rattle.link_table.proofs.links.Links.least_urgent_on.Goals as goal

pub loop-p-init : goal.loop-p-init
loop-p-init c = record {
  found = on_first c.args.self.now c.args.set c.linked.result c.both-rest.result c.linked.ensures c.both-rest.ensures.contents;
  rest = rest_first c.args.self.now c.args.set c.linked.result c.both-rest.result c.linked.ensures c.both-rest.ensures.contents;
}

pub loop-p-smaller : goal.loop-p-smaller
loop-p-smaller c =
    rest_grows c.loop-p.rest c.without-rest.result c.in-Some.p c.without-rest.ensures c.in-Some.ensures.least.0 c.in-Some.ensures.bound

pub loop-p-preserved : goal.loop-p-preserved
loop-p-preserved c =
    let there = c.loop-p.invariant.rest c.in-Some.p c.in-Some.ensures.least.0 in
    record {
      found = on_more c.args.self.now c.args.set c.loop-p.rest c.without-rest.result c.in-Some.p c.in-Some-on.t c.less_urgent.result
          (there.1.0, sym c.in-Some-on.ensures.value) c.without-rest.ensures
          c.less_urgent.ensures.last c.loop-p.found c.less_urgent.ensures.either c.less_urgent.ensures.last_of_found
          c.loop-p.invariant.found;
      rest = rest_fewer c.args.self.now c.args.set c.loop-p.rest c.without-rest.result c.in-Some.p c.without-rest.ensures
          c.loop-p.invariant.rest;
    }

pub less_urgent-requires-clause-found_number : goal.less_urgent-requires-clause-found_number
less_urgent-requires-clause-found_number c =
    on_number c.args.self.now c.processors-valid.ensures.valid c.args.set c.loop-p.rest c.loop-p.found c.loop-p.invariant.found

pub returns-clause-test : goal.returns-clause-test
returns-clause-test c =
    on_whole c.args.self.now c.args.set c.loop-p.rest c.loop-p.found (c.in_default.ensures.none.0 refl) c.loop-p.invariant.found

pub on-requires : goal.on-requires
on-requires c =
    let there = c.loop-p.invariant.rest c.in-Some.p c.in-Some.ensures.least.0 in
    occupied_number c.args.self.now c.in-Some.p there.0 c.processors-valid.ensures.valid there.1.1

pub unreachable-requires : goal.unreachable-requires
unreachable-requires c =
    let there = c.loop-p.invariant.rest c.in-Some.p c.in-Some.ensures.least.0 in
    let on = c.on.ensures.value ∙ there.1.1 in
    let none = c.in_default-on.is in
    cc

pub less_urgent-requires-clause-number : goal.less_urgent-requires-clause-number
less_urgent-requires-clause-number c =
    linked_number c.args.self.now c.in-Some.p c.in-Some-on.t c.processors-valid.ensures.valid (sym c.in-Some-on.ensures.value)
