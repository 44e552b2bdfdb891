-- The replay of an input, written down, is what the headline says, and what it says is of the replay's history.
use Rattle.std.proofs.Common.{◌≡◌, ℕ, List, refl}
use Rattle.task_set.specs.TaskSet.{SetData}
use Rattle.strong_apa.specs.State.{start_of}
use Rattle.strong_apa.proofs.Start.{IsState-start}
use Rattle.strong_apa.proofs.Improved.{passing_has_no_improving_chain}
use Rattle.strong_apa.proofs.Kept.{legal_is_best, legal_passes}
use Rattle.trace_reader.specs.declared.posted.Posted.{Posted}
use Rattle.trace_reader.specs.InputText.{IsInputText}
use Rattle.command_line.specs.Run.{Replays, IsTextOfReplay}

pub headline : (read put : List ℕ) (version : ℕ) (set : SetData) (events : List Posted) → IsInputText version read set events
    → (made : IsTextOfReplay version set events put)
    → (replays : Replays read put) × (replays.set ≡ set) × (replays.history ≡ made.history)
headline read put version set events input made = (
  record {
    version = version;
    set = set;
    events = events;
    history = made.history;
    printed = made.printed;
    input = input;
    text = made.text;
    merge = made.merge;
    legal = made.legal;
    best = legal_is_best set input.says.valid made.history made.legal;
    no_improving_chain = passing_has_no_improving_chain set input.says.valid made.history
        (legal_passes (start_of set) made.history (IsState-start set input.says.valid) made.legal);
    contexts = made.contexts;
  },
  refl,
  refl,
)
