-- Lines of a text that are looked over one after another.
use Rattle.std.proofs.Common.{◌≡◌, ℕ, Bool, true, false, ◌||◌, List, ◌∷◌, is_some, ap, ◌∙◌}
use Rattle.std.specs.Prelude.{if◌then◌else◌}
use Rattle.std.specs.List.{list_any}
use Rattle.text_fields.specs.Lines.{fields_of}
use Rattle.kernel_trace.specs.Survey.{has_wakeup, tells_of_overwriting, begins_overwritten}
use Rattle.kernel_trace.specs.TraceLine.{event_in}

-- ---- the word of a wakeup
pub found_line : (lines after : List (List ℕ)) (line : List ℕ) → lines ≡ line ∷ after → has_wakeup line ≡ true
    → list_any has_wakeup lines ≡ true
found_line lines after line cut has = ap (list_any has_wakeup) cut ∙ ap (λ (b : Bool). b || list_any has_wakeup after) has

pub passed_line : (lines after : List (List ℕ)) (line : List ℕ) → lines ≡ line ∷ after → has_wakeup line ≡ false
    → list_any has_wakeup lines ≡ list_any has_wakeup after
passed_line lines after line cut none = ap (list_any has_wakeup) cut ∙ ap (λ (b : Bool). b || list_any has_wakeup after) none

-- ---- what was overwritten
abbrev begins_by : Bool → Bool → Bool → Bool
begins_by tells is_event later = if tells then true else (if is_event then false else later)

module _ (waking : Bool) (lines after : List (List ℕ)) (line : List ℕ) (cut : lines ≡ line ∷ after) where
  abbrev is_event : Bool
  is_event = is_some (event_in waking (fields_of line))

  pub overwritten_here : tells_of_overwriting (fields_of line) ≡ true → begins_overwritten waking lines ≡ true
  overwritten_here tells =
      ap (begins_overwritten waking) cut ∙ ap (λ (b : Bool). begins_by b is_event (begins_overwritten waking after)) tells

  pub whole_here : tells_of_overwriting (fields_of line) ≡ false → is_event ≡ true → begins_overwritten waking lines ≡ false
  whole_here tells event =
      ap (begins_overwritten waking) cut ∙ ap (λ (b : Bool). begins_by b is_event (begins_overwritten waking after)) tells
      ∙ ap (λ (b : Bool). begins_by false b (begins_overwritten waking after)) event

  pub no_event_here : tells_of_overwriting (fields_of line) ≡ false → is_event ≡ false → begins_overwritten waking lines
      ≡ begins_overwritten waking after
  no_event_here tells event =
      ap (begins_overwritten waking) cut ∙ ap (λ (b : Bool). begins_by b is_event (begins_overwritten waking after)) tells
      ∙ ap (λ (b : Bool). begins_by false b (begins_overwritten waking after)) event
