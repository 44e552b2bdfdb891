-- The replies to events of the first version are of the first version.
use Rattle.std.proofs.Common.{◌≡◌, ℕ, List, [], ◌∷◌, All, sym, subst, inl, inr}
use Rattle.std.proofs.lemmas.List.Elements.{All-nil, All-cons, All-head, All-tail}
use Rattle.task_set.specs.Event.{IsOfVersion}
use Rattle.task_set.specs.declared.event.Event.{Event}
use Rattle.task_set.specs.declared.event.Event.TheVariants.{Arrive, Depart, Tick, Affinity, Offline, Online}
use Rattle.strong_apa.specs.declared.reply.Came.{Came}
use Rattle.strong_apa.specs.declared.reply.Came.TheVariants as came
use Rattle.strong_apa.specs.declared.reply.Reply.{Reply}
use Rattle.strong_apa.specs.declared.reply.Reply.TheVariants.{Placed, Displaced, Waits, Freed, Left, Ticked, AlreadyReady, NotReady, Masked}
use Rattle.strong_apa.specs.declared.reply.Reply.TheVariants.{Remasked, AlreadyOff, AlreadyOn, Off, On}
use Rattle.strong_apa.specs.declared.reply.Entry.{Entry}
use Rattle.strong_apa.specs.Reply.{reply_of_came, IsReplyOfVersion}
use Rattle.strong_apa.specs.State.{State}
use Rattle.strong_apa.specs.Step.{ArriveStep, DepartStep, SchedulerStep}
use Rattle.strong_apa.specs.History.{IsLegalFrom, effect_of}

-- the second version has each reply
of_second : (version : ℕ) → version ≡ 2 → (reply : Reply) → IsReplyOfVersion version reply
of_second version two (Placed chain) = tt
of_second version two (Displaced chain out reach) = tt
of_second version two (Waits reach) = tt
of_second version two (Freed entered chain back) = tt
of_second version two Left = tt
of_second version two Ticked = tt
of_second version two AlreadyReady = tt
of_second version two NotReady = tt
of_second version two Masked = two
of_second version two (Remasked gone c) = two
of_second version two AlreadyOff = two
of_second version two AlreadyOn = two
of_second version two (Off moved) = two
of_second version two (On parts) = two

-- each version has the results of an arrival
of_came : (version : ℕ) (c : Came) → IsReplyOfVersion version (reply_of_came c)
of_came version (came.Placed chain) = tt
of_came version (came.Displaced chain out reach) = tt
of_came version (came.Waits reach) = tt

arrive_version : (version : ℕ) (s : State) (t : ℕ) (reply : Reply) (new : State) → ArriveStep s t reply new → IsReplyOfVersion version reply
arrive_version version s t reply new (inl again) = subst (IsReplyOfVersion version) (sym again.answer) tt
arrive_version version s t reply new (inr arrives) = subst (IsReplyOfVersion version) (sym arrives.answer) (of_came version arrives.came)

depart_version : (version : ℕ) (s : State) (t : ℕ) (reply : Reply) (new : State) → DepartStep s t reply new → IsReplyOfVersion version reply
depart_version version s t reply new (inl again) = subst (IsReplyOfVersion version) (sym again.answer) tt
depart_version version s t reply new (inr (inl waiting)) = subst (IsReplyOfVersion version) (sym waiting.answer) tt
depart_version version s t reply new (inr (inr linked)) = subst (IsReplyOfVersion version) (sym linked.answer) tt

pub step_has_version : (version : ℕ) (s : State) (event : Event) (reply : Reply) (new : State) → IsOfVersion version event
    → SchedulerStep s event reply new → IsReplyOfVersion version reply
step_has_version version s (Arrive t) reply new of step = arrive_version version s t reply new step.1
step_has_version version s (Depart t) reply new of step = depart_version version s t reply new step.1
step_has_version version s (Tick units) reply new of step = subst (IsReplyOfVersion version) (sym step.0) tt
step_has_version version s (Affinity t mask) reply new of step = of_second version of reply
step_has_version version s (Offline p) reply new of step = of_second version of reply
step_has_version version s (Online p) reply new of step = of_second version of reply

-- the event and the reply of an entry are of the version
abbrev pub IsEntryOfVersion : ℕ → Entry → Type 0
IsEntryOfVersion version entry = IsOfVersion version entry.event × IsReplyOfVersion version entry.reply

-- a legal history of events of a version has entries of that version
pub legal_has_version : (version : ℕ) (s : State) (history : List Entry) → IsLegalFrom s history
    → All (λ (entry : Entry). IsOfVersion version entry.event) history → All (IsEntryOfVersion version) history
legal_has_version version s [] legal of = All-nil (IsEntryOfVersion version)
legal_has_version version s (first ∷ rest) legal of =
    let here = All-head (λ (entry : Entry). IsOfVersion version entry.event) first rest of in
    All-cons (IsEntryOfVersion version) first rest
    (here, step_has_version version s first.event first.reply (effect_of s first) here legal.0)
    (legal_has_version version (effect_of s first) rest legal.1
    (All-tail (λ (entry : Entry). IsOfVersion version entry.event) first rest of))
