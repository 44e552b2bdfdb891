-- Replies by the fields as the code cuts them.
use Rattle.std.proofs.Common.{◌≡◌, ◌≢◌, ℕ, ◌-◌, ◌≤◌, List, ◌∷◌, length, take, drop, get_or, None, Bor, Result, Ok, Err, IfOk, IfErr, refl}
use Rattle.std.proofs.Common.{sym, ap, ◌∙◌, subst, arith, [], ◌<◌, inl, MatchResult}
use Rattle.std.specs.Prelude.{codes}
use Rattle.task_set.specs.TaskSet.{SetData}
use Rattle.strong_apa.specs.declared.reply.Came.{Came}
use Rattle.strong_apa.specs.declared.reply.Reply.{Reply}
use Rattle.strong_apa.specs.declared.reply.Gone.{Gone}
use Rattle.strong_apa.specs.declared.reply.Reply.TheVariants.{Remasked}
use Rattle.strong_apa.specs.Reply.{reply_of_gone, reply_of_came}
use Rattle.text_fields.specs.Fields.{texts}
use Rattle.schedule_text.specs.declared.fault.TextKind.{TextKind}
use Rattle.schedule_text.specs.declared.fault.TextKind.TheVariants.{BadLine}
use Rattle.schedule_text.specs.LineFields.{IsSaid, IsCameFields, IsCameFault, IsGoneFields, IsGoneFault, IsReplyFields, IsReplyFault}
use Rattle.schedule_text.proofs.FieldLists.{texts_rest_two, headed}
use Rattle.text_fields.proofs.FieldLists.{texts_first_one}
use Rattle.schedule_text.proofs.Parts.{same_fault}
use Rattle.schedule_text.proofs.FirstWords.{IsOtherWord, said}
use Rattle.schedule_text.proofs.Replies.{came_to, came_from, freed_to, freed_from, waiting_to, waiting_from}

-- what is refused
abbrev pub IsRefused : ℕ → List (List ℕ) → SetData → Result Reply TextKind → Type 0
IsRefused version fields set result = IfErr result (IsReplyFault version fields set)

pub refused_at : (version other : ℕ) (fields others : List (List ℕ)) (set : SetData) (result : Result Reply TextKind)
    → version ≡ other → fields ≡ others → IsRefused version fields set result → IsRefused other others set result
refused_at version other fields others set result same is refused =
    subst (λ (fs : List (List ℕ)). IsRefused other fs set result) is
    (subst (λ (v : ℕ). IsRefused v fields set result) same refused)

-- what is read of the fields is read of those that they are
pub read_at : (version : ℕ) (fields others : List (List ℕ)) (set : SetData) (result : Result Reply TextKind)
    → fields ≡ others → IfOk result (IsReplyFields version fields set) → IfOk result (IsReplyFields version others set)
read_at version fields others set result is read =
    subst (λ (fs : List (List ℕ)). IfOk result (IsReplyFields version fs set)) is read

-- a reply has a field
pub no_fields : (version : ℕ) → IsSaid (IsReplyFields version []) → ⊥
no_fields version (tasks, reply, names, f) = said version [] tasks reply f

pub empty_refused : (version : ℕ) (set : SetData) (fields : List (Bor (List ℕ))) → length fields < 1
    → IsReplyFault version (texts fields) set BadLine
empty_refused version set [] few = inl (refl, no_fields version)
empty_refused version set (x ∷ xs) few = absurd (omega arith)

-- the rest of the fields
abbrev rest_of : List (Bor (List ℕ)) → List (List ℕ)
rest_of fields = texts (take (length fields - 1) (drop 1 fields))

-- after `off` a name and `then`
pub off_cut : (fields : List (Bor (List ℕ))) (d : Bor (List ℕ)) → 2 ≤ length fields → (get_or fields 1 d).now ≡ codes "then"
    → codes "off" ∷ (get_or fields 0 d).now ∷ codes "then" ∷ texts (take (length fields - 2) (drop 2 fields))
    ≡ codes "off" ∷ texts fields
off_cut fields d some is =
    ap (λ (more : List (List ℕ)). codes "off" ∷ more) (sym (texts_rest_two fields d some
    ∙ ap (λ (word : List ℕ). (get_or fields 0 d).now ∷ word ∷ texts (take (length fields - 2) (drop 2 fields))) is))

-- after `remasked left` the word `then`
pub waiting_refused : (set : SetData) (fields : List (Bor (List ℕ))) (d : Bor (List ℕ)) (kind : TextKind)
    → 1 ≤ length fields → (get_or fields 0 d).now ≡ codes "then"
    → IsCameFault (rest_of fields) set kind
    → IsReplyFault 2 (codes "remasked" ∷ codes "left" ∷ texts fields) set kind
waiting_refused set fields d kind some is refused =
    subst (λ (rest : List (List ℕ)). IsReplyFault 2 (codes "remasked" ∷ codes "left" ∷ rest) set kind)
    (headed fields d (codes "then") some is)
    (same_fault (IsCameFields (rest_of fields))
    (IsReplyFields 2 (codes "remasked" ∷ codes "left" ∷ codes "then" ∷ rest_of fields)) set kind
    (λ tasks arrival f. (Remasked None arrival, waiting_to 2 refl (rest_of fields) tasks arrival f))
    (waiting_from 2 (rest_of fields)) refused)

-- after `freed` who came in
pub freed_refused : (version : ℕ) (set : SetData) (fields : List (Bor (List ℕ))) (d : Bor (List ℕ)) (kind : TextKind)
    → 1 ≤ length fields → (get_or fields 0 d).now ≡ codes "freed"
    → IsGoneFault (rest_of fields) set kind
    → IsReplyFault version (texts fields) set kind
freed_refused version set fields d kind some is refused =
    subst (λ (all : List (List ℕ)). IsReplyFault version all set kind)
    (headed fields d (codes "freed") some is)
    (same_fault (IsGoneFields (rest_of fields)) (IsReplyFields version (codes "freed" ∷ rest_of fields)) set kind
    (λ tasks gone f. (reply_of_gone gone, freed_to version (rest_of fields) tasks gone f))
    (freed_from version (rest_of fields)) refused)

pub freed_read : (version : ℕ) (set : SetData) (fields : List (Bor (List ℕ))) (d : Bor (List ℕ)) (gone : Gone)
    → 1 ≤ length fields → (get_or fields 0 d).now ≡ codes "freed"
    → IsGoneFields (rest_of fields) set gone
    → IsReplyFields version (texts fields) set (reply_of_gone gone)
freed_read version set fields d gone some is f =
    subst (λ (all : List (List ℕ)). IsReplyFields version all set (reply_of_gone gone))
    (headed fields d (codes "freed") some is) (freed_to version (rest_of fields) set gone f)

-- one word
abbrev pub IsWordAnswer : ℕ → List ℕ → Result Reply TextKind → Type 0
IsWordAnswer version word result =
    MatchResult result (λ reply. (tasks : SetData) → IsReplyFields version (word ∷ []) tasks reply)
    (λ kind. (kind ≡ BadLine) × (IsSaid (IsReplyFields version (word ∷ [])) → ⊥))

pub word_read_at : (version : ℕ) (set : SetData) (fields : List (List ℕ)) (word : List ℕ)
    (result : Result Reply TextKind) → fields ≡ word ∷ [] → IsWordAnswer version word result
    → IfOk result (IsReplyFields version fields set)
word_read_at version set fields word (Ok reply) one answer =
    subst (λ (fs : List (List ℕ)). IsReplyFields version fs set reply) (sym one) (answer set)
word_read_at version set fields word (Err kind) one answer = tt

pub word_refused_at : (version : ℕ) (set : SetData) (fields : List (List ℕ)) (word : List ℕ)
    (result : Result Reply TextKind) → fields ≡ word ∷ [] → IsWordAnswer version word result
    → IsRefused version fields set result
word_refused_at version set fields word (Ok reply) one answer = tt
word_refused_at version set fields word (Err kind) one answer =
    subst (λ (fs : List (List ℕ)). IsReplyFault version fs set kind) (sym one) (inl answer)

-- the reply that is what an arrival came to
pub came_said : (version : ℕ) (set : SetData) (fields : List (Bor (List ℕ))) (result : Result Reply TextKind)
    → IfOk result (λ reply. (arrival : Came) × (reply ≡ reply_of_came arrival) × IsCameFields (texts fields) set arrival)
    → IfOk result (IsReplyFields version (texts fields) set)
came_said version set fields (Ok reply) (arrival, is, f) =
    subst (IsReplyFields version (texts fields) set) (sym is) (came_to version (texts fields) set arrival f)
came_said version set fields (Err kind) said = tt

-- more fields than one, of which the first is another word
pub came_refused : (version : ℕ) (set : SetData) (fields : List (Bor (List ℕ))) (d : Bor (List ℕ))
    (result : Result Reply TextKind) → 1 ≤ length fields → length (texts fields) ≢ 1
    → IsOtherWord (get_or fields 0 d).now
    → IfErr result (IsCameFault (texts fields) set)
    → IsRefused version (texts fields) set result
came_refused version set fields d (Ok reply) some more other refused = tt
came_refused version set fields d (Err kind) some more other refused =
    same_fault (IsCameFields (texts fields)) (IsReplyFields version (texts fields)) set kind
    (λ tasks arrival f. (reply_of_came arrival, came_to version (texts fields) tasks arrival f))
    (came_from version (texts fields) (get_or fields 0 d).now (rest_of fields) (texts_first_one fields d some) more other)
    refused
