-- What is seen at a moment, by the links and by who runs where.
use Rattle.std.proofs.Common.{◌≡◌, ℕ, ◌<◌, ◌≤◌, Bool, List, length, map, take, drop, get_or, Option, None, Some, refl, sym, ap, ◌∙◌, arith}
use Rattle.std.specs.Prelude.{reverse}
use Rattle.std.specs.Option.{is_some}
use Rattle.std.proofs.lemmas.List.{get_or-map, length-map}
use Rattle.std.proofs.lemmas.Option.{slice_get-get_or}
use Rattle.task_set.specs.TaskSet.{SetData}
use Rattle.strong_apa.specs.State.{State, is_linked}
use Rattle.strong_apa.proofs.Linked.{is_linked-from_on}
use Rattle.trace_passages.specs.declared.passage.Passage.{Passage}
use Rattle.trace_passages.specs.declared.turn.Turn.{Turn}
use Rattle.trace_losses.specs.Book.{nothing_seen}
use Rattle.trace_losses.specs.Passages.{IsCut, ready_after_passages, turns_of, seen_of}
use Rattle.trace_losses.specs.Runs.{IsArmed, holds, is_some_of, runs}
use Rattle.trace_losses.specs.Walk as walk
use Rattle.trace_losses.specs.Walk.{IsPlaced, IsSeenBy, held_at_end}
use Rattle.trace_losses.specs.declared.seen.Seen.{Seen}
use Rattle.trace_losses.proofs.Passed.{turns_of_all}
use Rattle.trace_losses.proofs.SeenMoments.{seen_between}
use Rattle.trace_bars.specs.Marks.{seen_by}
use Rattle.trace_bars.specs.Parts.{trace_of}
use Rattle.trace_bars.specs.Sights.{AreSightsBy, FollowsTo, IsLinked, IsSightBy, IsSightsAt, no_sight, sight_of}
use Rattle.trace_bars.specs.declared.sight.Sight.{Sight}

linked_is : (links : State) (t : ℕ) (linked : Option ℕ) → IsLinked links t linked → is_some linked ≡ is_linked links t
linked_is links t None at = sym (at.nowhere.0 refl)
linked_is links t (Some p) at = sym (is_linked-from_on links p t at.there)

same_seen : (one other : Seen) → one.ready ≡ other.ready → one.best ≡ other.best → one.runs ≡ other.runs → one ≡ other
same_seen one other ready best runs =
    let made : Bool → Bool → Bool → Seen = λ (a b c : Bool). record { ready = a; best = b; runs = c } in
    ap (λ (a : Bool). made a one.best one.runs) ready
    ∙ ap (λ (b : Bool). made other.ready b one.runs) best
    ∙ ap (made other.ready other.best) runs

module _ (task_set : SetData) (passages : List Passage) (threads i : ℕ) (links : State) (processors : List (Option ℕ)) (sights : List Sight)
    (all : length task_set.tasks ≤ threads) (placed : IsPlaced task_set (ready_after_passages (reverse (take i passages))) links)
    (follows : FollowsTo task_set (reverse (take i passages)) links)
    (armed : IsArmed (held_at_end passages) (turns_of (drop i passages)) processors) (count : length processors ≡ threads)
    (by : AreSightsBy links processors threads sights) (long : length sights ≡ threads) where
  seen_each : (t : ℕ) → t < threads → seen_of (map seen_by sights) t ≡ walk.seen_by links processors t
  seen_each t below =
      let sight : Sight = sight_of sights t in
      let at : IsSightBy links (get_or processors t None) t sight = by t below in
      get_or-map seen_by sights t no_sight nothing_seen (omega (arith, below, long))
      ∙ same_seen (seen_by sight) (walk.seen_by links processors t) at.ready (linked_is links t sight.linked at.linked) (ap is_some at.on)

  on_is : (t p : ℕ) → t < threads
      → is_some_of (sight_of sights t).on p ≡ runs (holds (turns_of (reverse passages))) (turns_of (drop i passages)) t p
  on_is t p below =
      ap (λ (on : Option ℕ). is_some_of on p) (by t below).on
      ∙ armed t (get_or processors t None) p (slice_get-get_or processors t None (omega (arith, below, count)))

  pub sights_at : (x : ℕ) → IsCut passages x i → IsSightsAt (trace_of task_set threads passages) x sights
  sights_at x cut = record {
    n = i;
    cut = cut;
    links = links;
    follows = follows;
    count = long;
    each = λ t below. record {
      ready = (by t below).ready;
      linked = (by t below).linked;
      on = λ p.
          on_is t p below ∙ ap (λ (turns : List Turn). runs (holds turns) (turns_of (drop i passages)) t p) (turns_of_all passages i);
    };
    seen = record {
      n = i;
      cut = cut;
      between =
          seen_between task_set passages threads i links processors (map seen_by sights) all placed armed count
          (record { each = seen_each })
          (length-map sights seen_by ∙ long);
    };
  }
