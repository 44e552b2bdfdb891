-- What `make` writes is one text for each four numbers.
use Rattle.std.proofs.Common.{◌≡◌, ℕ, List, sym, ap, ◌∙◌}
use Rattle.task_set.specs.TaskSet.{SetData}
use Rattle.trace_reader.specs.declared.posted.Posted.{Posted}
use Rattle.trace_reader.specs.CanonicalText.{canonical_input_text}
use Rattle.trace_reader.specs.InputText.{IsInputText}
use Rattle.trace_reader.proofs.OneInput.{one_input}
use Rattle.commands.specs.Generating.{IsInputOf, WritesInput, IsMakeOf}
use Rattle.commands.specs.declared.sizes.Sizes.{Sizes}

one_input_text : (sizes : Sizes) (put other : List ℕ) → WritesInput sizes put → WritesInput sizes other → other ≡ put
one_input_text sizes put other one two =
    let same = one_input sizes.number sizes.processors sizes.tasks sizes.events two.set one.set two.events one.events two.generated
    one.generated in
    two.text ∙ ap (λ (set : SetData). canonical_input_text 1 set two.events) same.0 ∙ ap (canonical_input_text 1 one.set) same.1
    ∙ sym one.text

pub is_make_of : (sizes : Sizes) (set : SetData) (events : List Posted) (put : List ℕ) → IsInputOf sizes set events
    → put ≡ canonical_input_text 1 set events → IsInputText 1 put set events → IsMakeOf sizes put
is_make_of sizes set events put generated text input = record {
  writes = record { set = set; events = events; generated = generated; text = text };
  input = input;
  only = λ other two. one_input_text sizes put other (record { set = set; events = events; generated = generated; text = text }) two;
}
