-- What a pass has seen and done, where it waited for the turn before.
use Rattle.std.proofs.Common.{◌≡◌, ℕ, List, [], ◌∷◌, ◌++◌, length, sym, ap, ◌∙◌, subst, arith, append_assoc}
use mathlib.Core.List.{IsPrefix}
use Rattle.task_set.specs.TaskSet.{SetData}
use Rattle.task_set.specs.declared.event.Event.{Event}
use Rattle.strong_apa.specs.declared.reply.Entry.{Entry}
use Rattle.sched_core.specs.CoreData.{entry_of}
use Rattle.sched_core.specs.declared.fault.CoreFault.{CoreFault}
use Rattle.sched_core.specs.declared.fault.CoreFault.TheVariants.{Closed, Full, OutOfMemory}
use Rattle.event_history.specs.Boards.{PassData, Grown}
use Rattle.event_history.specs.Posting.{Posted, Refused, Ended, SawAll, TookTurn, WasBusy, end_fault, post_fault, turn_looks}
use Rattle.event_history.specs.Waiting.{Waited}
use Rattle.event_history.specs.declared.fault.Receipt.{Receipt}
use Rattle.event_history.proofs.Prefixes.{prefix_trans}

-- a pass that has grown twice has grown
pub grown_more : (a b c : PassData) → Grown a b → Grown b c → Grown a c
grown_more a b c p q = record {
  board = q.board ∙ p.board;
  caller = q.caller ∙ p.caller;
  seen = prefix_trans a.seen b.seen c.seen p.seen q.seen;
  known = (let before = p.known in let after = q.known in omega arith);
  close = λ saw. q.close (p.close saw);
  looks = (
    p.looks.0 ++ q.looks.0,
    q.looks.1 ∙ ap (λ (l : List ℕ). l ++ q.looks.0) p.looks.1 ∙ append_assoc a.looks p.looks.0 q.looks.0,
  );
}

-- the turn comes after the looks that were gained before
pub turn_more : (a b c : PassData) (count : ℕ) → Grown a b → c.looks ≡ turn_looks b.looks count → TookTurn a c count
turn_more a b c count p looks = (p.looks.0, looks ∙ ap (λ (l : List ℕ). turn_looks l count) p.looks.1)

pub saw_more : (set : SetData) (a b c : PassData) → b.mine ≡ a.mine → SawAll set b c → SawAll set a c
saw_more set a b c same saw = record { legal = saw.legal; mine = saw.mine ∙ same; known = saw.known }

-- a pass that waited, and found the turn busy once more, has waited
pub waited_more : (a b c : PassData) (found : ℕ) → Waited a b → Grown b c → WasBusy b c found → Waited a c
waited_more a b c found waited grown busy = record {
  grown = grown_more a b c waited.grown grown;
  seen = busy.seen ∙ waited.seen;
  mine = busy.mine ∙ waited.mine;
  close = busy.close ∙ waited.close;
}

pub posted_more : (set : SetData) (a b c : PassData) (event : Event) (receipt : Receipt) → Waited a b
    → Posted set b event receipt c → Posted set a event receipt c
posted_more set a b c event receipt waited posted = record {
  before = posted.before;
  seen = posted.seen
      ∙ ap (λ (caller : ℕ). posted.before ++ entry_of caller event receipt.reply ∷ []) waited.grown.caller;
  at_place = posted.at_place;
  fits = posted.fits;
  begins = subst (λ (l : List Entry). IsPrefix l posted.before) waited.seen posted.begins;
  knew = (let before = waited.grown.known in let after = posted.knew in omega arith);
  legal = posted.legal;
  mine = posted.mine ∙ ap (λ (l : List ℕ). l ++ receipt.place ∷ []) waited.mine;
  known = posted.known;
  was_open = sym waited.close ∙ posted.was_open;
  is_open = posted.is_open;
}

-- the looks of a turn that refused the event
pub refused_looks : (set : SetData) (b c : PassData) (fault : CoreFault) → Refused set b (post_fault fault) c
    → c.looks ≡ turn_looks b.looks (length c.seen)
refused_looks set b c Closed refused = refused.1
refused_looks set b c Full refused = refused.1
refused_looks set b c OutOfMemory refused = refused.1

pub ended_more : (set : SetData) (a b c : PassData) (fault : CoreFault) → Waited a b → Refused set b (post_fault fault) c
    → Ended set a (end_fault fault) c
ended_more set a b c Closed waited refused = (saw_more set a b c waited.mine refused.0, refused.2)
ended_more set a b c Full waited refused = (saw_more set a b c waited.mine refused.0, refused.2, refused.3)
ended_more set a b c OutOfMemory waited refused = (saw_more set a b c waited.mine refused.0, refused.2, refused.3)
