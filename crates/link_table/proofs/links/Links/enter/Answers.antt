use Rattle.std.proofs.Common.{◌≡◌, ℕ, ◌+◌, ◌<◌, ◌≤◌, List, Some, true, false, length, Option, None, set, take, take_all, get_or, ◌++◌, ◌∷◌}
use Rattle.std.proofs.Common.{[], refl, sym, ap, ◌∙◌, subst, arith}
use Rattle.std.specs.Option.{ForSome}
use Rattle.std.proofs.lemmas.List.{take_more}
use Rattle.std.proofs.lemmas.Option.{get_or_from_slice_get}
use Rattle.affinity_mask.specs.ProcSet.{has, empty}
use Rattle.strong_apa.specs.State.{State, IsState, IsWaiting, task_count, is_linked, state_with_ready}
use Rattle.strong_apa.specs.Chain.{IsChainOf, IsSimple, state_after_shift}
use Rattle.link_table.specs.Layout.{Layout, layout_of, mask_has}
use Rattle.link_table.specs.LinksView.{AreAwaited, links_view}
use Rattle.link_table.specs.WaitingTasks.{masks_with}
use Rattle.link_table.proofs.Awaiting.{AreAwaited-enter}
use Rattle.link_table.proofs.Feeding.{mask_has-same}
use Rattle.strong_apa.proofs.Simple.{Avoids-none, Avoids-take}
use Rattle.strong_apa.proofs.Shifts.{IsState-state_after_shift, chain_below, handed_on, handed_on-end, handed_on-read, handed_on-number}
use Rattle.strong_apa.proofs.Shifts.{handed_on-apart, place_in_table, table_after, table_after-nothing, table_after-push}
use Rattle.strong_apa.proofs.Readiness.{IsState-state_with_ready, is_ready-state_with_ready}
use Rattle.strong_apa.proofs.Steps.{IsChainOf-state_with_ready}
use Rattle.link_table.proofs.links.Links.enter.Goals as goal
use Rattle.link_table.proofs.links.Links.enter.Goals.{After-exchange}

-- the task waits once it is ready
waits : (s : State) → IsState s → (t : ℕ) → t < task_count s → is_linked s t ≡ false → IsWaiting (state_with_ready s t) t
waits s ok t number not_linked = record { ready = is_ready-state_with_ready s ok t number; not_linked = not_linked }

-- and its chain is one then too
chain_then : (s : State) (t : ℕ) (chain : List ℕ) → (end : (q : ℕ) × IsChainOf s t chain q) → IsChainOf (state_with_ready s t) t chain end.0
chain_then s t chain end = IsChainOf-state_with_ready s t chain end.0 end.1

pub loop-i-init : goal.loop-i-init
loop-i-init c =
    let s = state_with_ready c.args.self.now c.args.t in
    let ok = IsState-state_with_ready c.args.self.now (rw c.self.view_is at c.self.invariant.state) c.args.t c.requires.number in
    record {
      on = ap (λ (s : State). s.on) c.self.view_is ∙ table_after-nothing s c.args.t ok.on_count;
      guest = refl;
      processors = ap (λ (s : State). s.processors) c.self.view_is;
      priorities = ap (λ (s : State). s.priorities) c.self.view_is;
      masks = ap (λ (s : State). s.masks) c.self.view_is;
      online = ap (λ (s : State). s.online) c.self.view_is;
      ready = ap (λ (s : State). set s.ready c.args.t true) c.self.view_is;
      waiting = subst (λ (s : State). AreAwaited s c.self.inside.waiting.masks) c.self.view_is c.self.invariant.waiting;
    }

pub replace-guest-requires-clause-processor : goal.replace-guest-requires-clause-processor
replace-guest-requires-clause-processor c =
    let s = state_with_ready c.args.self.now c.args.t in
    let ok = IsState-state_with_ready c.args.self.now (rw c.self.view_is at c.self.invariant.state) c.args.t c.requires.number in
    place_in_table s ok c.args.t c.args.chain.now c.requires.chain.0 (chain_then c.args.self.now c.args.t c.args.chain.now c.requires.chain)
    c.loop-i.i c.at.result _ (omega arith) c.at.ensures.value c.loop-i.invariant.on

pub replace-guest-requires-clause-number : goal.replace-guest-requires-clause-number
replace-guest-requires-clause-number c = λ w e.
    let s = state_with_ready c.args.self.now c.args.t in
    let ok = IsState-state_with_ready c.args.self.now (rw c.self.view_is at c.self.invariant.state) c.args.t c.requires.number in
    rw (c.loop-i.invariant.masks, ok.masks_count)
    (handed_on-number s ok c.args.t c.requires.number (take c.loop-i.i c.args.chain.now)
    (Avoids-take c.args.chain.now c.loop-i.i c.requires.simple) w (sym c.loop-i.invariant.guest ∙ e))

pub replace-guest-requires-clause-nowhere : goal.replace-guest-requires-clause-nowhere
replace-guest-requires-clause-nowhere c = λ w e p on.
    let s = state_with_ready c.args.self.now c.args.t in
    let ok = IsState-state_with_ready c.args.self.now (rw c.self.view_is at c.self.invariant.state) c.args.t c.requires.number in
    handed_on-apart s ok c.args.t (waits c.args.self.now (rw c.self.view_is at c.self.invariant.state)
    c.args.t c.requires.number c.requires.not_linked) (take c.loop-i.i c.args.chain.now)
    (Avoids-take c.args.chain.now c.loop-i.i c.requires.simple) p w (sym c.loop-i.invariant.guest ∙ e)
    (ap (λ (places : List (Option ℕ)). get_or places p None) (sym c.loop-i.invariant.on) ∙ on)

pub loop-i-preserved : goal.loop-i-preserved
loop-i-preserved c =
    let i = c.loop-i.invariant in
    let chain = c.args.chain.now in
    let s = state_with_ready c.args.self.now c.args.t in
    let ok = IsState-state_with_ready c.args.self.now (rw c.self.view_is at c.self.invariant.state) c.args.t c.requires.number in
    let here : get_or chain c.loop-i.i 0 ≡ c.at.result = get_or_from_slice_get chain c.loop-i.i c.at.result 0 c.at.ensures.value in
    let more : take (c.loop-i.i + 1) chain ≡ take c.loop-i.i chain ++ c.at.result ∷ [] = take_more chain c.loop-i.i 0 (omega arith)
    ∙ ap (λ (x : ℕ). take c.loop-i.i chain ++ x ∷ []) here in
    let fits = rw here at (chain_below s ok c.args.t chain c.requires.chain.0 (chain_then c.args.self.now c.args.t chain c.requires.chain)
    c.loop-i.i (omega arith)) in
    let simple = rw more at (Avoids-take chain (c.loop-i.i + 1) c.requires.simple) in
    let pushed : set c.loop-i.self-inside.places.on c.at.result c.loop-i.guest
    ≡ table_after s c.args.t (take (c.loop-i.i + 1) chain) = rw (more, i.on, i.guest)
    (table_after-push s c.args.t (take c.loop-i.i chain) c.at.result simple fits) in
    record {
      on = ap (λ (a : Layout). a.on) c.replace-guest.ensures.replaced ∙ pushed;
      guest = rw more (handed_on-read s c.args.t (take c.loop-i.i chain) c.at.result _ _ simple fits i.on c.replace-guest.ensures.out);
      processors = i.processors;
      priorities = i.priorities;
      masks = ap (λ (a : Layout). a.masks) c.replace-guest.ensures.replaced ∙ i.masks;
      online = ap (λ (a : Layout). a.online) c.replace-guest.ensures.replaced ∙ i.online;
      ready = i.ready;
      waiting = i.waiting;
    }

-- after the loop the columns are those of the state after the shift
shifted_columns : (c : After-exchange) → state_after_shift (state_with_ready c.args.self.now c.args.t) c.args.t c.args.chain.now
    ≡ links_view c.loop-i.self-inside
shifted_columns c =
    let i = c.loop-i.invariant in
    let whole = take_all c.loop-i.i c.args.chain.now (omega arith) in
    rw (i.processors, i.priorities, i.masks, i.online, i.ready, i.on, whole) refl

-- who is handed on at the end
handed : (c : After-exchange) → c.loop-i.guest ≡ handed_on (state_with_ready c.args.self.now c.args.t) (Some c.args.t) c.args.chain.now
handed c =
    let whole = take_all c.loop-i.i c.args.chain.now (omega arith) in
    rw whole at c.loop-i.invariant.guest

-- and that it is one of the tasks
guest_number : (s : State) → IsState s → (t : ℕ) → t < task_count s → (chain : List ℕ) → IsSimple chain → (n : ℕ) → length chain ≤ n
    → (guest : Option ℕ) → guest ≡ handed_on s (Some t) (take n chain) → ForSome guest (λ u. u < task_count s)
guest_number s ok t number chain simple n whole guest is u e =
    let all = take_all n chain whole in
    handed_on-number s ok t number chain (Avoids-none chain simple) u (sym (rw all at is) ∙ e)

pub mask_of-mask-requires : goal.mask_of-mask-requires
mask_of-mask-requires c = λ u e.
    let s = state_with_ready c.args.self.now c.args.t in
    let ok = IsState-state_with_ready c.args.self.now (rw c.self.view_is at c.self.invariant.state) c.args.t c.requires.number in
    rw (c.loop-i.invariant.masks, ok.masks_count)
    (guest_number s ok c.args.t c.requires.number c.args.chain.now c.requires.simple c.loop-i.i (omega arith)
    c.loop-i.guest c.loop-i.invariant.guest u e)

pub exchange-requires-clause-out_number : goal.exchange-requires-clause-out_number
exchange-requires-clause-out_number c =
    let s = state_with_ready c.args.self.now c.args.t in
    let ok = IsState-state_with_ready c.args.self.now (rw c.self.view_is at c.self.invariant.state) c.args.t c.requires.number in
    rw c.loop-i.invariant.priorities (guest_number s ok c.args.t c.requires.number c.args.chain.now c.requires.simple c.loop-i.i
    (omega arith) c.loop-i.guest c.loop-i.invariant.guest)

pub invariant_of-self : goal.invariant_of-self
invariant_of-self c =
    let old = c.args.self.now in
    let t = c.args.t in
    let before = rw c.self.view_is at c.self.invariant.state in
    let s = state_with_ready old t in
    let ok = IsState-state_with_ready old before t c.requires.number in
    let ready = waits old before t c.requires.number c.requires.not_linked in
    let i = c.loop-i.invariant in
    let chain = c.args.chain.now in
    let end = c.requires.chain.0 in
    let is_chain = chain_then old t chain c.requires.chain in
    let mask : (q : ℕ) → has c.mask_of-mask.result q ≡ mask_has (layout_of s) c.loop-i.guest q = λ q. c.mask_of-mask.ensures q
    ∙ mask_has-same c.loop-i.self-inside.places (layout_of s) i.masks c.loop-i.guest q in
    rw c.exchange.ensures record {
      state = subst IsState (shifted_columns c) (IsState-state_after_shift s ok t chain end ready is_chain c.requires.simple);
      waiting = subst (λ (s : State). AreAwaited s
          (masks_with (set c.loop-i.self-inside.waiting.masks t empty) c.loop-i.guest c.mask_of-mask.result)) (shifted_columns c)
          (AreAwaited-enter old before t c.requires.number c.requires.not_linked chain end is_chain c.requires.simple
          c.loop-i.self-inside.waiting.masks i.waiting c.loop-i.guest c.mask_of-mask.result (handed c) mask);
    }

pub returns-clause-out : goal.returns-clause-out
returns-clause-out c = handed c ∙ handed_on-end (state_with_ready c.args.self.now c.args.t) c.args.t c.args.chain.now c.requires.chain.0
    (chain_then c.args.self.now c.args.t c.args.chain.now c.requires.chain)

pub returns-clause-shifted : goal.returns-clause-shifted
returns-clause-shifted c = rw c.exchange.ensures (sym (shifted_columns c))

pub returns-clause-valid : goal.returns-clause-valid
returns-clause-valid c = (invariant_of-self c).state
