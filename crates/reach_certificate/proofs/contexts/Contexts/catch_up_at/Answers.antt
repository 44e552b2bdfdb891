use Rattle.std.proofs.Common.{◌≡◌, ◌≢◌, ℕ, ◌<◌, ◌≤◌, List, [], ◌∷◌, length, get_or, set, Option, None, refl, sym, ◌∙◌, subst, arith}
use Rattle.std.proofs.lemmas.List.{get_or_default, get_or_past}
use Rattle.strong_apa.specs.State.{State, IsState, task_on}
use Rattle.strong_apa.proofs.Linked.{linked_number}
use Rattle.reach_certificate.specs.CaughtUp.{HaveCaughtUp}
use Rattle.reach_certificate.specs.Contexts.{ContextsData}
use Rattle.reach_certificate.specs.ContextsView.{contexts_view}
use Rattle.reach_certificate.proofs.CatchingUp.{caught_up-still, caught_up-one, same_occupant, other_occupant}
use Rattle.reach_certificate.proofs.contexts.Contexts.catch_up_at.Goals as goal

-- beyond the last processor nobody is held or linked
beyond : (s : State) → IsState s → (p : ℕ) (held : List (Option ℕ)) → length held ≡ s.processors → s.processors ≤ p
    → get_or held p None ≡ task_on s p
beyond s ok p held count le = get_or_past held p None (omega arith) ∙ sym (get_or_past s.on p None (let n = ok.on_count in omega arith))

pub returns-then-p-processors : goal.returns-then-p-processors
returns-then-p-processors c =
    caught_up-still c.args.links.now c.args.p c.args.self.now
    (beyond c.args.links.now c.processors.ensures.valid c.args.p c.args.self.now.held c.requires.processors
    (let m = c.processors.ensures.value in let le = c.if-p-processors.true in omega arith))

pub returns-then-eq : goal.returns-then-eq
returns-then-eq c =
    let view = c.self.view_is in
    let count : length c.self.inside.held.items
    ≡ c.args.links.now.processors = subst (λ (a : ContextsData). length a.held ≡ c.args.links.now.processors) (sym view)
    c.requires.processors in
    let below : c.args.p < length c.self.inside.held.items = (let m = c.processors.ensures.value in let lt = c.if-p-processors.false in
    omega arith) in
    let same = same_occupant c.on-linked.result c.index.result.now (sym c.eq.ensures ∙ c.if-eq.true) in
    let here : get_or c.self.inside.held.items c.args.p None
    ≡ task_on c.args.links.now c.args.p = get_or_default c.self.inside.held.items c.args.p None c.index.result.now below
    ∙ sym c.index.ensures ∙ sym same ∙ c.on-linked.ensures.value in
    caught_up-still c.args.links.now c.args.p c.args.self.now
    (subst (λ (a : ContextsData). get_or a.held c.args.p None ≡ task_on c.args.links.now c.args.p) view here)

pub take_occupant-requires-clause-known : goal.take_occupant-requires-clause-known
take_occupant-requires-clause-known c = λ t on.
    let number = linked_number c.args.links.now c.args.p t c.processors.ensures.valid (sym c.on-linked.ensures.value ∙ on) in
    let count : length c.self.inside.each.items
    ≡ length c.args.links.now.priorities = subst (λ (a : ContextsData). length a.each ≡ length c.args.links.now.priorities)
    (sym c.self.view_is) c.requires.count in
    omega (arith, number, count, c.self.inside.each.ok.0)

pub returns : goal.returns
returns c =
    let view = c.self.view_is in
    let count : length c.self.inside.held.items
    ≡ c.args.links.now.processors = subst (λ (a : ContextsData). length a.held ≡ c.args.links.now.processors) (sym view)
    c.requires.processors in
    let below : c.args.p < length c.self.inside.held.items = (let m = c.processors.ensures.value in let lt = c.if-p-processors.false in
    omega arith) in
    let other = other_occupant c.on-linked.result c.index.result.now (sym c.eq.ensures ∙ c.if-eq.false) in
    let differs : c.on-linked.result ≢ get_or c.self.inside.held.items c.args.p None = λ e. other
    (e ∙ get_or_default c.self.inside.held.items c.args.p None c.index.result.now below ∙ sym c.index.ensures) in
    let new : ContextsData = record {
      each = c.take_occupant.new.contexts.items;
      held = set c.self.inside.held.items c.args.p c.on-linked.result;
    } in
    subst (λ (a : ContextsData). HaveCaughtUp c.args.links.now (c.args.p ∷ []) a new) view
    (caught_up-one c.args.links.now c.args.p c.on-linked.result (contexts_view c.self.inside) new below c.on-linked.ensures.value differs
    refl c.take_occupant.ensures)
