-- Names of tasks as bytes of a text.
use Rattle.std.proofs.Common.{◌≡◌, ℕ, ◌<◌, List, [], ◌∷◌, false, IsTrue, All, Contains, sym, ◌∙◌, arith}
use Rattle.std.specs.Str.{IsUtf8}
use Rattle.std.proofs.lemmas.Bool.{true≢false}
use Rattle.std.proofs.lemmas.Bool.Decides.{nat_tests}
use Rattle.std.proofs.lemmas.List.Elements.{All-cons, All-weaker, All-contains}
use Rattle.std.proofs.lemmas.Str.{IsUtf8-from_ascii}
use Rattle.std.proofs.lemmas.Str.Ascii.{IsAscii-from_all}
use Rattle.task_set.specs.Name.{IsName, begins_name, continues_name}
use Rattle.task_set.specs.TaskSet.{SetData, IsTaskSet}
use Rattle.task_set.specs.Refusal.{IsNewName}

begins_continues : (b : ℕ) → IsTrue (begins_name b) → IsTrue (continues_name b)
begins_continues b h = grind (arith, nat_tests)

continues_small : (b : ℕ) → IsTrue (continues_name b) → b < 128
continues_small b h = grind (arith, nat_tests)

pub name_bytes : (name : List ℕ) → IsName name → All (λ b. IsTrue (continues_name b)) name
name_bytes [] h = absurd h
name_bytes (x ∷ xs) h = All-cons (λ b. IsTrue (continues_name b)) x xs (begins_continues x h.1) h.2

-- a name has no byte that no name goes on with
pub name_without : (name : List ℕ) (end : ℕ) → continues_name end ≡ false → IsName name → Contains name end → ⊥
name_without name end never named here =
    true≢false (sym (All-contains (λ b. IsTrue (continues_name b)) name end (name_bytes name named) here)
    ∙ never)

-- names are ASCII
name_is_ascii : (name : List ℕ) → IsName name → All (λ b. b < 128) name
name_is_ascii name named =
    All-weaker (λ b. IsTrue (continues_name b)) (λ b. b < 128) continues_small name (name_bytes name named)

pub name_is_text : (name : List ℕ) → IsName name → IsUtf8 name
name_is_text name named = IsUtf8-from_ascii name (IsAscii-from_all name (name_is_ascii name named))

-- bytes that are not all ASCII are the name of no task
pub other_byte_is_new : (set : SetData) (bytes : List ℕ) → IsTaskSet set → (All (λ b. b < 128) bytes → ⊥)
    → IsNewName set bytes
other_byte_is_new set bytes valid none = λ k d within same.
    none (rw (← same) (name_is_ascii _ (valid.names k d within)))
