-- The bytes are the text of one input, and its events have one text.
use Rattle.std.proofs.Common.{List, subst}
use Rattle.task_set.specs.TaskSet.{SetData}
use Rattle.trace_reader.specs.declared.posted.Posted.{Posted}
use Rattle.trace_reader.proofs.Texts.{text_has_one_input}
use Rattle.weak_apa.specs.WeakText.{IsWeakTextOf}
use Rattle.weak_apa.proofs.OneText.{events_have_one_text}
use Rattle.commands.specs.WeakLaws.{WeakTextIsUnique}

pub weak_text_is_unique : WeakTextIsUnique
weak_text_is_unique read put other one two =
    let same = text_has_one_input read two.version one.version two.set one.set two.events one.events two.input one.input in
    events_have_one_text one.set one.events put other one.input.says.valid one.compared
    (subst (λ (events : List Posted). IsWeakTextOf one.set events other) same.2
    (subst (λ (set : SetData). IsWeakTextOf set two.events other) same.1 two.compared))
