-- But for the links, what a step leaves is what the event says, of the weak scheduler and of the strong one. So both agree
-- for ever on who is ready, on the masks, and on which processors are on line.
use Rattle.std.proofs.Common.{◌≡◌, ℕ, Bool, true, false, not, ◌&&◌, ◌||◌, List, [], ◌∷◌, get_or, set, Option, Some, None, refl, sym, ap}
use Rattle.std.proofs.Common.{◌∙◌, inl, inr, arith, nat_eq, ne_eqb}
use Rattle.std.proofs.lemmas.Bool.{cases_eq}
use Rattle.std.proofs.lemmas.List.{set-set, set-get_or}
use Rattle.affinity_mask.specs.ProcSet.{has, with_member, without_member}
use Rattle.affinity_mask.proofs.Sets.{same_set, has-with_member, has-without_member}
use Rattle.task_set.specs.declared.event.Event.{Event}
use Rattle.task_set.specs.declared.event.Event.TheVariants.{Arrive, Depart, Tick, Affinity, Offline, Online}
use Rattle.strong_apa.specs.declared.reply.Came.{Came}
use Rattle.strong_apa.specs.declared.reply.Came.TheVariants.{Placed, Displaced, Waits}
use Rattle.strong_apa.specs.declared.reply.Gone.{Gone}
use Rattle.strong_apa.specs.declared.reply.Reply.{Reply}
use Rattle.strong_apa.specs.State.{State, IsState, is_ready, state_with_ready, state_with_absent, state_with_mask, state_with_online}
use Rattle.strong_apa.specs.State.{state_with_offline, state_after_leaving}
use Rattle.strong_apa.specs.Step.{Comes, Fills, LeaveStep, SchedulerStep}
use Rattle.strong_apa.specs.History.{state_after_came, state_after_entering}
use Rattle.strong_apa.proofs.Readiness.{ready_already}
use Rattle.strong_apa.proofs.Steps.{comes_effect, fills_effect}
use Rattle.weak_apa.specs.Step.{WeakStep, WeaklyComes, WeaklyFills, WeaklyLeaves, IsPlacedInTurns, without_links, Follows}

-- ---- what changes nothing, and what is undone
absent_already : (s : State) (t : ℕ) → is_ready s t ≡ false → state_with_absent s t ≡ s
absent_already s t absent =
    ap (λ (flags : List Bool). record s { ready = flags }) (ap (set s.ready t) (sym absent) ∙ set-get_or s.ready t false)

-- a flag that is lowered and raised again
raised : (flags : List Bool) (t : ℕ) → get_or flags t false ≡ true → set (set flags t false) t true ≡ flags
raised flags t up = set-set flags t false true ∙ ap (set flags t) (sym up) ∙ set-get_or flags t false

off_already : (s : State) (p : ℕ) → has s.online p ≡ false → state_with_offline s p ≡ s
off_already s p off = ap (λ (X : ℕ). record s { online = X })
    (same_set (without_member s.online p) s.online (λ q. has-without_member s.online p q ∙ without q))
  where
    without : (q : ℕ) → (has s.online q && not (nat_eq q p)) ≡ has s.online q
    without q = elim (cases_eq q p) [
      | inl same ↦ rw (same, off) refl
      | inr other ↦ rw (ne_eqb q p other) (and_true (has s.online q))
    ]
      where
        and_true : (a : Bool) → (a && true) ≡ a
        and_true a = grind arith

on_already : (s : State) (p : ℕ) → has s.online p ≡ true → state_with_online s p ≡ s
on_already s p on =
    ap (λ (X : ℕ). record s { online = X }) (same_set (with_member s.online p) s.online (λ q. has-with_member s.online p q ∙ with q))
  where
    with : (q : ℕ) → (has s.online q || nat_eq q p) ≡ has s.online q
    with q = elim (cases_eq q p) [
      | inl same ↦ rw (same, on) refl
      | inr other ↦ rw (ne_eqb q p other) (or_false (has s.online q))
    ]
      where
        or_false : (a : Bool) → (a || false) ≡ a
        or_false a = grind arith

-- ---- the parts of a step of the weak scheduler
placed_known : (displaced : List ℕ) (s : State) (x : ℕ) (new : State) → IsPlacedInTurns s x displaced new
    → without_links new ≡ without_links s
placed_known [] s x new (inl idle) = ap without_links idle.goes
placed_known [] s x new (inr keeps) = ap without_links keeps.1
placed_known (out ∷ rest) s x new (between, turn, placed) = placed_known rest between out new placed ∙ ap without_links turn.goes

comes_known : (s : State) (t : ℕ) (new : State) → WeaklyComes s t new → without_links new ≡ without_links (state_with_ready s t)
comes_known s t new comes = placed_known comes.0 (state_with_ready s t) t new comes.1

fills_known : (s : State) (p : ℕ) (new : State) → WeaklyFills s p new → without_links new ≡ without_links s
fills_known s p new (inl nobody) = ap without_links nobody.1
fills_known s p new (inr (w, most_urgent, goes)) = ap without_links goes

pub leaves_known : (s : State) (t : ℕ) (new : State) → WeaklyLeaves s t new → without_links new ≡ without_links (state_with_absent s t)
leaves_known s t new (inl waited) = ap without_links waited.1
leaves_known s t new (inr linked) = fills_known (state_after_leaving s t) linked.place new linked.fills

pub leaves_ready : (s : State) → IsState s → (t : ℕ) (new : State) → WeaklyLeaves s t new → is_ready s t ≡ true
leaves_ready s ok t new (inl waited) = waited.0.ready
leaves_ready s ok t new (inr linked) = ok.linked_ready linked.place t linked.on

-- a ready task that leaves, and comes back with another mask, or elsewhere
remasked_known : (s between new : State) (t mask : ℕ) → is_ready s t ≡ true → without_links between ≡ without_links (state_with_absent s t)
    → without_links new ≡ without_links (state_with_ready (state_with_mask between t mask) t)
    → without_links new ≡ without_links (state_with_mask s t mask)
remasked_known s between new t mask ready left back =
    back ∙ ap (λ (k : State). without_links (state_with_ready (state_with_mask k t mask) t)) left
    ∙ ap (λ (flags : List Bool). without_links (record (state_with_mask s t mask) { ready = flags })) (raised s.ready t ready)

moved_known : (s new : State) (t p : ℕ) → is_ready s t ≡ true
    → without_links new ≡ without_links (state_with_ready (state_with_offline (state_after_leaving s t) p) t)
    → without_links new ≡ without_links (state_with_offline s p)
moved_known s new t p ready back =
    back ∙ ap (λ (flags : List Bool). without_links (record (state_with_offline s p) { ready = flags })) (raised s.ready t ready)

pub weak_step_follows : (s : State) (event : Event) (new : State) → IsState s → WeakStep s event new → Follows s event new
weak_step_follows s (Arrive t) new ok (number, inl again) = ap without_links (again.1 ∙ sym (ready_already s t again.0))
weak_step_follows s (Arrive t) new ok (number, inr arrives) = comes_known s t new arrives.1
weak_step_follows s (Depart t) new ok (number, inl again) = ap without_links (again.1 ∙ sym (absent_already s t again.0))
weak_step_follows s (Depart t) new ok (number, inr leaves) = leaves_known s t new leaves
weak_step_follows s (Tick units) new ok same = ap without_links same
weak_step_follows s (Affinity t mask) new ok (number, lawful, inl absent) = ap without_links absent.1
weak_step_follows s (Affinity t mask) new ok (number, lawful, inr remasks) =
    remasked_known s remasks.between new t mask (leaves_ready s ok t remasks.between remasks.leaves)
    (leaves_known s t remasks.between remasks.leaves) (comes_known (state_with_mask remasks.between t mask) t new remasks.comes)
weak_step_follows s (Offline p) new ok (number, inl again) = ap without_links (again.1 ∙ sym (off_already s p again.0))
weak_step_follows s (Offline p) new ok (number, inr (inl idle)) = ap without_links idle.1
weak_step_follows s (Offline p) new ok (number, inr (inr moves)) =
    moved_known s new moves.task p (ok.linked_ready p moves.task moves.on)
    (comes_known (state_with_offline (state_after_leaving s moves.task) p) moves.task new moves.comes)
weak_step_follows s (Online p) new ok (number, inl again) = ap without_links (again.1 ∙ sym (on_already s p again.0))
weak_step_follows s (Online p) new ok (number, inr fills) = fills_known (state_with_online s p) p new fills.1

-- ---- the parts of a step of the strong scheduler
came_known : (s : State) (t : ℕ) (came : Came) (new : State) → Comes s t came new → without_links new ≡ without_links (state_with_ready s t)
came_known s t came new comes = ap without_links (comes_effect s t came new comes) ∙ effect came
  where
    effect : (came : Came) → without_links (state_after_came s t came) ≡ without_links (state_with_ready s t)
    effect (Placed chain) = refl
    effect (Displaced chain out reach) = refl
    effect (Waits reach) = refl

gone_known : (s : State) (p : ℕ) (gone : Gone) (new : State) → Fills s p gone new → without_links new ≡ without_links s
gone_known s p gone new fills = ap without_links (fills_effect s p gone new fills) ∙ effect gone.entered
  where
    effect : (entered : Option ℕ) → without_links (state_after_entering s entered gone.chain) ≡ without_links s
    effect None = refl
    effect (Some w) = refl

left_known : (s : State) (t : ℕ) (gone : Option Gone) (new : State) → LeaveStep s t gone new
    → without_links new ≡ without_links (state_with_absent s t)
left_known s t None new leaves = ap without_links leaves.1
left_known s t (Some gone) new leaves = gone_known (state_after_leaving s t) leaves.0 gone new leaves.2

left_ready : (s : State) → IsState s → (t : ℕ) (gone : Option Gone) (new : State) → LeaveStep s t gone new → is_ready s t ≡ true
left_ready s ok t None new leaves = leaves.0.ready
left_ready s ok t (Some gone) new leaves = ok.linked_ready leaves.0 t leaves.1

pub strong_step_follows : (s : State) (event : Event) (reply : Reply) (new : State) → IsState s → SchedulerStep s event reply new
    → Follows s event new
strong_step_follows s (Arrive t) reply new ok (number, inl again) = ap without_links (again.same ∙ sym (ready_already s t again.ready))
strong_step_follows s (Arrive t) reply new ok (number, inr arrives) = came_known s t arrives.came new arrives.comes
strong_step_follows s (Depart t) reply new ok (number, inl again) = ap without_links (again.same ∙ sym (absent_already s t again.absent))
strong_step_follows s (Depart t) reply new ok (number, inr (inl waiting)) = ap without_links waiting.left
strong_step_follows s (Depart t) reply new ok (number, inr (inr linked)) =
    gone_known (state_after_leaving s t) linked.place linked.gone new linked.fills
strong_step_follows s (Tick units) reply new ok (answer, same) = ap without_links same
strong_step_follows s (Affinity t mask) reply new ok (number, lawful, inl absent) = ap without_links absent.masked
strong_step_follows s (Affinity t mask) reply new ok (number, lawful, inr remasks) =
    remasked_known s remasks.between new t mask (left_ready s ok t remasks.gone remasks.between remasks.leaves)
    (left_known s t remasks.gone remasks.between remasks.leaves)
    (came_known (state_with_mask remasks.between t mask) t remasks.came new remasks.comes)
strong_step_follows s (Offline p) reply new ok (number, inl again) = ap without_links (again.same ∙ sym (off_already s p again.off))
strong_step_follows s (Offline p) reply new ok (number, inr (inl idle)) = ap without_links idle.off
strong_step_follows s (Offline p) reply new ok (number, inr (inr occupied)) =
    let t = occupied.moved.task in
    moved_known s new t p (ok.linked_ready p t occupied.occupied)
    (came_known (state_with_offline (state_after_leaving s t) p) t occupied.moved.came new occupied.comes)
strong_step_follows s (Online p) reply new ok (number, inl again) = ap without_links (again.same ∙ sym (on_already s p again.on))
strong_step_follows s (Online p) reply new ok (number, inr fills) = gone_known (state_with_online s p) p fills.parts new fills.fills
