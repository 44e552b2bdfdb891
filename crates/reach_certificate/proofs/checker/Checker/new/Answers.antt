use Rattle.std.proofs.Common.{List, length, get_or, sym, ap, ◌∙◌, subst, arith}
use Rattle.std.proofs.lemmas.List.FromFn.{get_or-map-range_with_len, length-map-range_with_len}
use Rattle.task_set.specs.Context.{fresh_context}
use Rattle.task_set.specs.declared.context.Context.{Context}
use Rattle.strong_apa.specs.State.{State, HasSameTasks, task_count}
use Rattle.strong_apa.specs.Certified.{HasCertificates}
use Rattle.strong_apa.proofs.Kept.{HasCertificates-start}
use Rattle.reach_certificate.specs.Checker.{IsChecker}
use Rattle.reach_certificate.proofs.checker.Checker.new.Goals as goal
use Rattle.reach_certificate.proofs.checker.Checker.new.Goals.{In_ok-links}

made : (c : In_ok-links) → IsChecker (record { links = c.in_ok-links.links; contexts = c.in_ok-links.contexts.each })
made c =
    let fresh = c.in_ok-links.ensures.each in
    let count = task_count c.in_ok-links.links in
    record {
      state = c.in_ok-links.ensures.state;
      certificates = subst HasCertificates (sym c.in_ok-links.ensures.links) (HasCertificates-start c.args.set.now);
      count = ap length fresh ∙ length-map-range_with_len fresh_context 0 count;
      tasks = λ t d lt.
          ap (λ (xs : List Context). (get_or xs t d).task) fresh
          ∙ ap (λ (x : Context). x.task) (get_or-map-range_with_len fresh_context 0 count t t d lt (omega arith));
    }

same : (c : In_ok-links) → HasSameTasks c.in_ok-links.links c.in_ok-saved.saved
same c =
    let e = c.in_ok-saved.ensures ∙ sym c.in_ok-links.ensures.links in
    record { processors = ap (λ (s : State). s.processors) e; priorities = ap (λ (s : State). s.priorities) e }

pub invariant_of-result : goal.invariant_of-result
invariant_of-result c = record { checker = made c; held = c.in_ok-links.ensures.held; saved = same c }

pub returns-clause-valid : goal.returns-clause-valid
returns-clause-valid c = made c
