-- A law of generated inputs.
use Rattle.std.specs.Prelude.{◌≡◌, ℕ, List}
use Rattle.task_set.specs.TaskSet.{SetData}
use Rattle.trace_reader.specs.declared.posted.Posted.{Posted}
use Rattle.trace_reader.specs.Generated.{IsGeneratedInput}

-- a number gives one input of each size
abbrev pub GeneratedInputIsOne : Type 0
GeneratedInputIsOne = (number processors tasks events : ℕ) (set other : SetData)
    (posted others : List Posted) → IsGeneratedInput number processors tasks events set posted
    → IsGeneratedInput number processors tasks events other others
    → (set ≡ other) × (posted ≡ others)
