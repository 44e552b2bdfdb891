-- The reply to a change of a mask, or of the processors on line, passes or has a defect.
use Rattle.std.proofs.Common.{◌≡◌, ℕ, ◌<◌, true, false, Option, Some, None, refl, sym, ap, ◌∙◌, subst, inl, inr, ◌⊎◌}
use Rattle.std.specs.Prelude.{All}
use Rattle.std.proofs.lemmas.Bool.{cases_Bool, cases_eq, true≢false}
use Rattle.std.proofs.lemmas.List.Elements.{All-head, All-tail}
use Rattle.std.proofs.lemmas.Option.{same_Some}
use Rattle.affinity_mask.specs.ProcSet.{has, all_below, Within}
use Rattle.task_set.specs.TaskSet.{IsMask}
use Rattle.task_set.specs.declared.event.Event.TheVariants.{Affinity, Offline, Online}
use Rattle.strong_apa.specs.declared.reply.Came.{Came}
use Rattle.strong_apa.specs.declared.reply.Came.TheVariants as came
use Rattle.strong_apa.specs.declared.reply.Gone.{Gone}
use Rattle.strong_apa.specs.declared.reply.Moved.{Moved}
use Rattle.strong_apa.specs.declared.reply.Reply.{Reply}
use Rattle.strong_apa.specs.declared.reply.Reply.TheVariants.{Masked, Remasked, AlreadyOff, AlreadyOn, Off, On}
use Rattle.strong_apa.specs.Reply.{reply_of_came, came_sets, sets_of}
use Rattle.strong_apa.specs.State.{State, IsState, is_ready, is_linked, task_count, task_on, state_with_mask, state_with_online}
use Rattle.strong_apa.specs.State.{state_with_offline, state_after_leaving}
use Rattle.strong_apa.specs.History.{state_after_left}
use Rattle.strong_apa.proofs.Changes.{IsState-state_with_online}
use Rattle.strong_apa.proofs.Leaving.{IsState-state_after_leaving}
use Rattle.strong_apa.proofs.Least.{Decided}
use Rattle.strong_apa.proofs.Linked.{task_on-linked, place_in, occupied_number}
use Rattle.strong_apa.proofs.Masks.{effective_mask_online}
use Rattle.strong_apa.proofs.Steps.{IsState-moved, IsState-remasked}
use Rattle.strong_apa.specs.Passing.{CamePasses, LeavingPasses, AffinityPasses, OfflinePasses, OnlinePasses}
use Rattle.strong_apa.proofs.KeptStates.{left_by_passing}
use Rattle.reach_certificate.specs.Defect.{processor_count, IsVacatedDefect, IsLeavingDefect, IsReturnDefect, HasSetsOfProcessors}
use Rattle.reach_certificate.specs.Defect.{IsAllowedToAffinity, IsAllowedToOffline, IsReplyDefect}
use Rattle.reach_certificate.specs.Returning.{IsLeaving}
use Rattle.reach_certificate.specs.declared.defect.Defect.{Defect}
use Rattle.reach_certificate.specs.declared.defect.Defect.TheVariants.{WrongReply}
use Rattle.reach_certificate.proofs.ChangeDefects.{leaving_right}
use Rattle.reach_certificate.proofs.Fitting.{only_set, came_passes, gone_passes}
use Rattle.reach_certificate.proofs.PartJudgements.{came_judged, gone_judged}

-- ---- the sets of a reply
abbrev IsSmall : ℕ → Type 0
IsSmall X = Within X (all_below processor_count)

same_sets : (c : Came) → came_sets c ≡ sets_of (reply_of_came c)
same_sets (came.Placed chain) = refl
same_sets _ = refl

came_small : (c : Came) → All IsSmall (came_sets c) → HasSetsOfProcessors (reply_of_came c)
came_small c small = subst (All IsSmall) (same_sets c) small

moved_small : (moved : Moved) → HasSetsOfProcessors (Off (Some moved)) → HasSetsOfProcessors (reply_of_came moved.came)
moved_small moved small = came_small moved.came small

returned_small : (gone : Option Gone) (c : Came) → HasSetsOfProcessors (Remasked gone c) → HasSetsOfProcessors (reply_of_came c)
returned_small None c small = came_small c small
returned_small (Some gone) c small = came_small c (All-tail IsSmall gone.back (came_sets c) small)

left_small : (gone : Gone) (c : Came) → HasSetsOfProcessors (Remasked (Some gone) c) → IsSmall gone.back
left_small gone c small = All-head IsSmall gone.back (came_sets c) small

-- ---- what a reply says
masked_decided : (reply : Reply) → Decided (reply ≡ Masked)
masked_decided Masked = inl refl
masked_decided _ = inr (λ e. cc)

already_off_decided : (reply : Reply) → Decided (reply ≡ AlreadyOff)
already_off_decided AlreadyOff = inl refl
already_off_decided _ = inr (λ e. cc)

already_on_decided : (reply : Reply) → Decided (reply ≡ AlreadyOn)
already_on_decided AlreadyOn = inl refl
already_on_decided _ = inr (λ e. cc)

remasked_decided : (reply : Reply) → ((gone : Option Gone) × (c : Came) × (reply ≡ Remasked gone c))
    ⊎ ((gone : Option Gone) (c : Came) → reply ≡ Remasked gone c → ⊥)
remasked_decided (Remasked gone c) = inl (gone, c, refl)
remasked_decided _ = inr (λ gone c e. cc)

off_decided : (reply : Reply) → ((moved : Option Moved) × (reply ≡ Off moved)) ⊎ ((moved : Option Moved) → reply ≡ Off moved → ⊥)
off_decided (Off moved) = inl (moved, refl)
off_decided _ = inr (λ moved e. cc)

on_decided : (reply : Reply) → ((parts : Gone) × (reply ≡ On parts)) ⊎ ((parts : Gone) → reply ≡ On parts → ⊥)
on_decided (On parts) = inl (parts, refl)
on_decided _ = inr (λ parts e. cc)

-- the task that had to leave a processor, if one had
abbrev task_moved : Option Moved → Option ℕ
task_moved None = None
task_moved (Some moved) = Some moved.task

same_task_decided : (a b : Option ℕ) → Decided (a ≡ b)
same_task_decided None None = inl refl
same_task_decided None (Some u) = inr (λ e. cc)
same_task_decided (Some t) None = inr (λ e. cc)
same_task_decided (Some t) (Some u) = elim (cases_eq t u) [
  | inl same ↦ inl (ap (λ (n : ℕ). Some n) same)
  | inr other ↦ inr (λ e. other (same_Some t u e))
]

-- ---- a task leaves
module _ (s : State) (ok : IsState s) (t : ℕ) where
  pub vacated_judged : is_linked s t ≡ true → (gone : Gone) → IsSmall gone.back
      → LeavingPasses s t (Some gone) ⊎ ((defect : Defect) × IsVacatedDefect s t gone defect)
  vacated_judged linked gone small =
      let p = place_in t s.on in
      let on = task_on-linked s t linked in
      let left = state_after_leaving s t in
      let left_ok = IsState-state_after_leaving s ok t in
      elim (gone_judged left left_ok p gone) [
        | inl right ↦ inl (p, on, gone_passes left left_ok p (occupied_number s p t ok on) gone small right)
        | inr bad ↦ inr (bad.0, (p, on, bad.1))
      ]

  leaving_judged : (gone : Option Gone) (c : Came) → IsLeaving s t gone → HasSetsOfProcessors (Remasked gone c)
      → LeavingPasses s t gone ⊎ ((defect : Defect) × IsLeavingDefect s t gone defect)
  leaving_judged None c waits small = inl waits
  leaving_judged (Some gone) c linked small = vacated_judged linked gone (left_small gone c small)

-- ---- a mask changes
-- of a task that is absent nothing but that may be said
pub masked_alone : (s : State) → IsState s → (t : ℕ) (reply : Reply) → is_ready s t ≡ false → (reply ≡ Masked → ⊥)
    → IsAllowedToAffinity s t reply → ⊥
masked_alone s ok t reply absent other (inl masked) = other masked.1
masked_alone s ok t reply absent other (inr (inl waits)) = true≢false (sym waits.0.ready ∙ absent)
masked_alone s ok t reply absent other (inr (inr linked)) =
    true≢false (sym (ok.linked_ready (place_in t s.on) t (task_on-linked s t linked.0)) ∙ absent)

module _ (s : State) (ok : IsState s) (t mask : ℕ) (number : t < task_count s) (lawful : IsMask s.processors mask) where
  abbrev back : Option Gone → State
  back gone = state_with_mask (state_after_left s t gone) t mask

  returned_judged : (gone : Option Gone) (c : Came) → IsLeaving s t gone → HasSetsOfProcessors (Remasked gone c)
      → (LeavingPasses s t gone × CamePasses (back gone) t c) ⊎ ((defect : Defect) × IsReturnDefect s t mask gone c defect)
  returned_judged gone c leaves small = elim (leaving_judged s ok t gone c leaves small) [
    | inr bad ↦ inr (bad.0, inl bad.1)
    | inl passes ↦
        let back_ok = IsState-remasked s t mask (state_after_left s t gone) (left_by_passing s ok t mask gone number lawful passes) in
        elim (came_judged (back gone) back_ok t c) [
          | inr bad ↦ inr (bad.0, inr (leaving_right s ok t gone passes, bad.1))
          | inl right ↦ inl (passes, came_passes (back gone) back_ok t c (returned_small gone c small) right)
        ]
  ]

  module _ (reply : Reply) (small : HasSetsOfProcessors reply) where
    abbrev Judged : Type 0
    Judged = AffinityPasses s t mask reply ⊎ ((defect : Defect) × IsReplyDefect s (Affinity t mask) reply defect)

    masked_absent : is_ready s t ≡ false → Decided (reply ≡ Masked) → Judged
    masked_absent absent (inl said) = inl (inl (absent, said))
    masked_absent absent (inr other) = inr (WrongReply, inl (refl, masked_alone s ok t reply absent other))

    said_leaving : (gone : Option Gone) (c : Came) → reply ≡ Remasked gone c → IsLeaving s t gone → Judged
    said_leaving gone c said leaves = elim (returned_judged gone c leaves (subst HasSetsOfProcessors said small)) [
      | inl passes ↦ inl (inr record { gone = gone; came = c; answer = said; leaves = passes.0; passes = passes.1 })
      | inr bad ↦ inr (bad.0, inr (gone, c, said, bad.1))
    ]

    -- t waits, or is linked, and the reply says another thing
    remasked_wrong : is_ready s t ≡ true → ((gone : Option Gone) (c : Came) → reply ≡ Remasked gone c → IsLeaving s t gone → ⊥) → Judged
    remasked_wrong ready other = inr (
      WrongReply,
      inl (
        refl,
        λ allowed. elim allowed [
          | inl masked ↦ true≢false (sym ready ∙ masked.0)
          | inr there ↦ elim there [
            | inl waits ↦ other None waits.1.0 waits.1.1 waits.0
            | inr linked ↦ other (Some linked.1.0) linked.1.1 linked.1.2 linked.0
          ]
        ],
      ),
    )

    leaving_decided : is_ready s t ≡ true → (gone : Option Gone) → Decided (IsLeaving s t gone)
    leaving_decided ready None = elim (cases_Bool (is_linked s t)) [
      | inr free ↦ inl record { ready = ready; not_linked = free }
      | inl linked ↦ inr (λ waits. true≢false (sym linked ∙ waits.not_linked))
    ]
    leaving_decided ready (Some gone) = elim (cases_Bool (is_linked s t)) [
      | inl linked ↦ inl linked
      | inr free ↦ inr (λ linked. true≢false (sym linked ∙ free))
    ]

    pub affinity_judged : Judged
    affinity_judged = elim (cases_Bool (is_ready s t)) [
      | inr absent ↦ masked_absent absent (masked_decided reply)
      | inl ready ↦ elim (remasked_decided reply) [
        | inr other ↦ remasked_wrong ready (λ gone c said leaves. other gone c said)
        | inl said ↦ elim (leaving_decided ready said.0) [
          | inl leaves ↦ said_leaving said.0 said.1 said.2 leaves
          | inr not_so ↦ remasked_wrong ready (λ gone c e leaves. not_so
              (subst (IsLeaving s t) (same_gone gone said.0 c said.1 (sym e ∙ said.2)) leaves))
        ]
      ]
    ]
      where
        same_gone : (g h : Option Gone) (c d : Came) → Remasked g c ≡ Remasked h d → g ≡ h
        same_gone g h c d e = cc

-- ---- a processor goes off line
-- of one that is off line nothing but that may be said
pub off_alone : (s : State) → IsState s → (p : ℕ) (reply : Reply) → has s.online p ≡ false → (reply ≡ AlreadyOff → ⊥)
    → IsAllowedToOffline s p reply → ⊥
off_alone s ok p reply off other (inl again) = other again.1
off_alone s ok p reply off other (inr (inl idle)) = true≢false (sym idle.0.0 ∙ off)
off_alone s ok p reply off other (inr (inr moved)) =
    true≢false (sym (effective_mask_online s moved.0.task p (ok.allowed p moved.0.task moved.2)) ∙ off)

module _ (s : State) (ok : IsState s) (p : ℕ) (reply : Reply) (small : HasSetsOfProcessors reply) where
  abbrev Off_judged : Type 0
  Off_judged = OfflinePasses s p reply ⊎ ((defect : Defect) × IsReplyDefect s (Offline p) reply defect)

  off_again : has s.online p ≡ false → Decided (reply ≡ AlreadyOff) → Off_judged
  off_again off (inl said) = inl (inl (off, said))
  off_again off (inr other) = inr (WrongReply, inl (refl, off_alone s ok p reply off other))

  -- p is on line, and the reply says another thing than who was on it
  off_wrong : has s.online p ≡ true → ((moved : Option Moved) → reply ≡ Off moved → task_on s p ≡ task_moved moved → ⊥) → Off_judged
  off_wrong on other = inr (
    WrongReply,
    inl (
      refl,
      λ allowed. elim allowed [
        | inl again ↦ true≢false (sym on ∙ again.0)
        | inr there ↦ elim there [
          | inl idle ↦ other None idle.1 idle.0.1
          | inr moved ↦ other (Some moved.0) moved.1 moved.2
        ]
      ],
    ),
  )

  off_right : has s.online p ≡ true → (moved : Option Moved) → reply ≡ Off moved → task_on s p ≡ task_moved moved → Off_judged
  off_right on None said nobody = inl (inr (inl ((on, nobody), said)))
  off_right on (Some moved) said occupied =
      let away = state_with_offline (state_after_leaving s moved.task) p in
      let away_ok = IsState-moved s ok p moved.task occupied in
      elim (came_judged away away_ok moved.task moved.came) [
        | inl right ↦ inl (inr (inr record {
          moved = moved;
          occupied = occupied;
          answer = said;
          passes = came_passes away away_ok moved.task moved.came (moved_small moved (subst HasSetsOfProcessors said small)) right;
        }))
        | inr bad ↦ inr (bad.0, inr (moved, said, (occupied, bad.1)))
      ]

  pub offline_judged : Off_judged
  offline_judged = elim (cases_Bool (has s.online p)) [
    | inr off ↦ off_again off (already_off_decided reply)
    | inl on ↦ elim (off_decided reply) [
      | inr other ↦ off_wrong on (λ moved said who. other moved said)
      | inl said ↦ elim (same_task_decided (task_on s p) (task_moved said.0)) [
        | inl same ↦ off_right on said.0 said.1 same
        | inr differs ↦ off_wrong on (λ moved e who. differs (who ∙ ap task_moved (same_off moved said.0 (sym e ∙ said.1))))
      ]
    ]
  ]
    where
      same_off : (m n : Option Moved) → Off m ≡ Off n → m ≡ n
      same_off m n e = cc

-- ---- a processor comes on line
module _ (s : State) (ok : IsState s) (p : ℕ) (number : p < s.processors) (reply : Reply) (small : HasSetsOfProcessors reply) where
  abbrev On_judged : Type 0
  On_judged = OnlinePasses s p reply ⊎ ((defect : Defect) × IsReplyDefect s (Online p) reply defect)

  on_again : has s.online p ≡ true → Decided (reply ≡ AlreadyOn) → On_judged
  on_again on (inl said) = inl (inl (on, said))
  on_again on (inr other) = inr (
    WrongReply,
    inl (
      refl,
      λ allowed. elim allowed [
        | inl again ↦ other again.1
        | inr fills ↦ true≢false (sym on ∙ fills.0)
      ],
    ),
  )

  on_fills : has s.online p ≡ false → On_judged
  on_fills off = elim (on_decided reply) [
    | inr other ↦ inr (
      WrongReply,
      inl (
        refl,
        λ allowed. elim allowed [
          | inl again ↦ true≢false (sym again.0 ∙ off)
          | inr fills ↦ other fills.1.0 fills.1.1
        ],
      ),
    )
    | inl said ↦
        let back = state_with_online s p in
        let back_ok = IsState-state_with_online s p ok number in
        elim (gone_judged back back_ok p said.0) [
          | inl right ↦ inl (inr record {
            off = off;
            parts = said.0;
            answer = said.1;
            passes = gone_passes back back_ok p number said.0
                (only_set said.0.back (subst HasSetsOfProcessors said.1 small)) right;
          })
          | inr bad ↦ inr (bad.0, inr (said.0, said.1, off, bad.1))
        ]
  ]

  pub online_judged : On_judged
  online_judged = elim (cases_Bool (has s.online p)) [
    | inl on ↦ on_again on (already_on_decided reply)
    | inr off ↦ on_fills off
  ]
