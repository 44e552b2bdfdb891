-- Each reply to an event of the tasks and processors passes, or has a defect.
use Rattle.std.proofs.Common.{◌≡◌, ℕ, true, false, Option, Some, None, refl, sym, ◌∙◌, subst, inl, inr, ◌⊎◌}
use Rattle.std.proofs.lemmas.Bool.{cases_Bool, true≢false}
use Rattle.task_set.specs.declared.event.Event.TheVariants.{Arrive, Depart, Tick, Affinity, Offline, Online}
use Rattle.strong_apa.specs.declared.reply.Came.{Came}
use Rattle.strong_apa.specs.declared.reply.Gone.{Gone}
use Rattle.strong_apa.specs.declared.reply.Reply.{Reply}
use Rattle.strong_apa.specs.declared.reply.Reply.TheVariants.{Left, Ticked, AlreadyReady, NotReady}
use Rattle.strong_apa.specs.Reply.{came_of, gone_of}
use Rattle.strong_apa.specs.State.{State, IsState, is_ready, is_linked}
use Rattle.strong_apa.proofs.Least.{Decided}
use Rattle.strong_apa.proofs.Linked.{task_on-linked, place_in}
use Rattle.strong_apa.proofs.Replies.{came_said, came_says, gone_said, gone_says}
use Rattle.strong_apa.specs.Passing.{ArrivalPasses, DeparturePasses}
use Rattle.reach_certificate.specs.Defect.{HasSetsOfProcessors, IsReplyDefect}
use Rattle.reach_certificate.specs.DefectLaws.{PassesOrHasDefect}
use Rattle.reach_certificate.specs.declared.defect.Defect.{Defect}
use Rattle.reach_certificate.specs.declared.defect.Defect.TheVariants.{WrongReply}
use Rattle.reach_certificate.proofs.ChangeJudgements.{vacated_judged, affinity_judged, offline_judged, online_judged}
use Rattle.reach_certificate.proofs.Fitting.{only_set, came_passes}
use Rattle.reach_certificate.proofs.PartJudgements.{came_judged}

-- ---- replies that say nothing but their kind
already_decided : (reply : Reply) → Decided (reply ≡ AlreadyReady)
already_decided AlreadyReady = inl refl
already_decided _ = inr (λ e. cc)

not_ready_decided : (reply : Reply) → Decided (reply ≡ NotReady)
not_ready_decided NotReady = inl refl
not_ready_decided _ = inr (λ e. cc)

left_decided : (reply : Reply) → Decided (reply ≡ Left)
left_decided Left = inl refl
left_decided _ = inr (λ e. cc)

ticked_decided : (reply : Reply) → Decided (reply ≡ Ticked)
ticked_decided Ticked = inl refl
ticked_decided _ = inr (λ e. cc)

-- ---- whole replies
module _ (s : State) (ok : IsState s) (t : ℕ) (reply : Reply) where
  abbrev Arrived : Type 0
  Arrived = ArrivalPasses s t reply ⊎ ((defect : Defect) × IsReplyDefect s (Arrive t) reply defect)

  abbrev Departed : Type 0
  Departed = DeparturePasses s t reply ⊎ ((defect : Defect) × IsReplyDefect s (Depart t) reply defect)

  -- t was ready
  arrived_again : is_ready s t ≡ true → Decided (reply ≡ AlreadyReady) → Arrived
  arrived_again ready (inl said) = inl (inl (ready, said))
  arrived_again ready (inr other) = inr (
    WrongReply,
    inl (
      refl,
      λ allowed. elim allowed [
        | inl again ↦ other again.1
        | inr new ↦ true≢false (sym ready ∙ new.0)
      ],
    ),
  )

  -- t was absent
  arrived_new : is_ready s t ≡ false → HasSetsOfProcessors reply → (came : Option Came) → came_of reply ≡ came → Arrived
  arrived_new absent small None said = inr (
    WrongReply,
    inl (
      refl,
      λ allowed. elim allowed [
        | inl again ↦ true≢false (sym again.0 ∙ absent)
        | inr new ↦ let other = came_said reply new.1.0 new.1.1 in cc
      ],
    ),
  )
  arrived_new absent small (Some came) said =
      let answer = came_says reply came said in
      elim (came_judged s ok t came) [
        | inl right ↦ inl (inr record {
          absent = absent;
          came = came;
          answer = answer;
          passes = came_passes s ok t came (subst HasSetsOfProcessors answer small) right;
        })
        | inr bad ↦ inr (bad.0, inr (came, answer, absent, bad.1))
      ]

  pub arrival_judged : HasSetsOfProcessors reply → Arrived
  arrival_judged small = elim (cases_Bool (is_ready s t)) [
    | inl ready ↦ arrived_again ready (already_decided reply)
    | inr absent ↦ arrived_new absent small (came_of reply) refl
  ]

  departed_again : is_ready s t ≡ false → Decided (reply ≡ NotReady) → Departed
  departed_again absent (inl said) = inl (inl (absent, said))
  departed_again absent (inr other) = inr (
    WrongReply,
    inl (
      refl,
      λ allowed. elim allowed [
        | inl again ↦ other again.1
        | inr there ↦ elim there [
          | inl waiting ↦ true≢false (sym waiting.0.ready ∙ absent)
          | inr linked ↦ true≢false (sym (ok.linked_ready (place_in t s.on) t (task_on-linked s t linked.0)) ∙ absent)
        ]
      ],
    ),
  )

  departed_waiting : is_ready s t ≡ true → is_linked s t ≡ false → Decided (reply ≡ Left) → Departed
  departed_waiting ready free (inl said) = inl (inr (inl (record { ready = ready; not_linked = free }, said)))
  departed_waiting ready free (inr other) = inr (
    WrongReply,
    inl (
      refl,
      λ allowed. elim allowed [
        | inl again ↦ true≢false (sym ready ∙ again.0)
        | inr there ↦ elim there [
          | inl waiting ↦ other waiting.1
          | inr linked ↦ true≢false (sym linked.0 ∙ free)
        ]
      ],
    ),
  )

  departed_linked : is_linked s t ≡ true → HasSetsOfProcessors reply → (gone : Option Gone) → gone_of reply ≡ gone → Departed
  departed_linked linked small None said = inr (
    WrongReply,
    inl (
      refl,
      λ allowed. elim allowed [
        | inl again ↦ true≢false (sym (ok.linked_ready (place_in t s.on) t (task_on-linked s t linked)) ∙ again.0)
        | inr there ↦ elim there [
          | inl waiting ↦ true≢false (sym linked ∙ waiting.0.not_linked)
          | inr here ↦ let other = gone_said reply here.1.0 here.1.1 in cc
        ]
      ],
    ),
  )
  departed_linked linked small (Some gone) said =
      let answer = gone_says reply gone said in
      elim (vacated_judged s ok t linked gone (only_set gone.back (subst HasSetsOfProcessors answer small))) [
        | inl passes ↦ inl (inr (inr record { place = passes.0; linked = passes.1; gone = gone; answer = answer; passes = passes.2 }))
        | inr bad ↦ inr (bad.0, inr (gone, answer, bad.1))
      ]

  pub departure_judged : HasSetsOfProcessors reply → Departed
  departure_judged small = elim (cases_Bool (is_ready s t)) [
    | inr absent ↦ departed_again absent (not_ready_decided reply)
    | inl ready ↦ elim (cases_Bool (is_linked s t)) [
      | inl linked ↦ departed_linked linked small (gone_of reply) refl
      | inr free ↦ departed_waiting ready free (left_decided reply)
    ]
  ]

pub passes_or_has_defect : PassesOrHasDefect
passes_or_has_defect s (Arrive t) reply ok number small = elim (arrival_judged s ok t reply small) [
  | inl passes ↦ inl (number, passes)
  | inr bad ↦ inr bad
]
passes_or_has_defect s (Depart t) reply ok number small = elim (departure_judged s ok t reply small) [
  | inl passes ↦ inl (number, passes)
  | inr bad ↦ inr bad
]
passes_or_has_defect s (Tick units) reply ok number small = elim (ticked_decided reply) [
  | inl said ↦ inl said
  | inr other ↦ inr (WrongReply, inl (refl, other))
]
passes_or_has_defect s (Affinity t mask) reply ok known small = elim (affinity_judged s ok t mask known.0 known.1 reply small) [
  | inl passes ↦ inl (known.0, known.1, passes)
  | inr bad ↦ inr bad
]
passes_or_has_defect s (Offline p) reply ok number small = elim (offline_judged s ok p reply small) [
  | inl passes ↦ inl (number, passes)
  | inr bad ↦ inr bad
]
passes_or_has_defect s (Online p) reply ok number small = elim (online_judged s ok p number reply small) [
  | inl passes ↦ inl (number, passes)
  | inr bad ↦ inr bad
]
