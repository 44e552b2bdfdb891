use Rattle.std.proofs.Common.{rules, ◌≡◌, ℕ, false, refl, sym, ◌∙◌, inl, inr}
use Rattle.std.proofs.lemmas.Bool.{true≢false}
use Rattle.strong_apa.specs.declared.reply.Reply.{Reply}
use Rattle.strong_apa.specs.declared.reply.Reply.TheVariants.{NotReady}
use Rattle.strong_apa.specs.State.{State, IsState, is_ready}
use Rattle.strong_apa.proofs.Linked.{task_on-linked, place_in}
use Rattle.reach_certificate.specs.Defect.{IsAllowedToDeparture}
use Rattle.reach_certificate.proofs.judge.follow_departure.Goals as goal

-- of a task that is absent nothing but that may be said
absent_alone : (s : State) → IsState s → (t : ℕ) (reply : Reply) → is_ready s t ≡ false → (reply ≡ NotReady → ⊥)
    → IsAllowedToDeparture s t reply → ⊥
absent_alone s ok t reply absent other (inl again) = other again.1
absent_alone s ok t reply absent other (inr (inl waiting)) = true≢false (sym waiting.0.ready ∙ absent)
absent_alone s ok t reply absent other (inr (inr linked)) =
    true≢false (sym (ok.linked_ready (place_in t s.on) t (task_on-linked s t linked.0)) ∙ absent)

pub returns-in_default-clause-judged : goal.returns-in_default-clause-judged
returns-in_default-clause-judged c =
    inl (
      refl,
      absent_alone c.args.links.now c.is_ready.ensures.valid c.args.t c.args.reply.now
          (sym c.is_ready.ensures.value ∙ c.if-not-is_ready.true) (λ e. search rules),
    )
