use Rattle.std.proofs.Common.{◌≡◌, ℕ, false, Option, None, Some, MatchOption, sym, ◌∙◌, inr}
use Rattle.task_set.specs.declared.event.Event.TheVariants.{Arrive}
use Rattle.strong_apa.specs.declared.reply.Came.{Came}
use Rattle.strong_apa.specs.declared.reply.Came.TheVariants as came
use Rattle.strong_apa.specs.declared.reply.Reply.{Reply}
use Rattle.strong_apa.specs.Reply.{reply_of_came}
use Rattle.strong_apa.specs.State.{State, is_ready}
use Rattle.strong_apa.specs.Passing.{CamePasses, ArrivalPasses}
use Rattle.reach_certificate.specs.Defect.{IsCameDefect, IsReplyDefect}
use Rattle.reach_certificate.specs.declared.defect.Defect.{Defect}
use Rattle.reach_certificate.proofs.judge.follow_arrival.Goals as goal

-- what an absent task came to is all of the reply
whole_reply : (s : State) (t : ℕ) (reply : Reply) (arrival : Came) (answer : Option Defect) → is_ready s t ≡ false
    → reply ≡ reply_of_came arrival → MatchOption answer (CamePasses s t arrival) (IsCameDefect s t arrival)
    → MatchOption answer (ArrivalPasses s t reply) (IsReplyDefect s (Arrive t) reply)
whole_reply s t reply arrival None absent is passes =
    inr (record { absent = absent; came = arrival; answer = is; passes = passes })
whole_reply s t reply arrival (Some defect) absent is wrong = inr (arrival, is, absent, wrong)

pub returns-in-Placed-clause-judged : goal.returns-in-Placed-clause-judged
returns-in-Placed-clause-judged c =
    whole_reply c.args.links.now c.args.t c.args.reply.now (came.Placed c.in-Placed.chain) c.come_placed.result
    (sym c.is_ready.ensures.value ∙ c.if-is_ready.false) c.in-Placed.is c.come_placed.ensures.judged

pub returns-in-Displaced-clause-judged : goal.returns-in-Displaced-clause-judged
returns-in-Displaced-clause-judged c =
    whole_reply c.args.links.now c.args.t c.args.reply.now
    (came.Displaced c.in-Displaced.chain c.in-Displaced.out c.in-Displaced.reach) c.come_displaced.result
    (sym c.is_ready.ensures.value ∙ c.if-is_ready.false) c.in-Displaced.is c.come_displaced.ensures.judged

pub returns-in-Waits-clause-judged : goal.returns-in-Waits-clause-judged
returns-in-Waits-clause-judged c =
    whole_reply c.args.links.now c.args.t c.args.reply.now (came.Waits c.in-Waits.reach) c.come_waiting.result
    (sym c.is_ready.ensures.value ∙ c.if-is_ready.false) c.in-Waits.is c.come_waiting.ensures.judged
