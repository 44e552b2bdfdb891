-- The result of an arrival, and who came in at a processor: what their fields say, and their faults.
use Rattle.std.proofs.Common.{◌≡◌, ◌≢◌, ℕ, ◌<◌, ◌⊎◌, inl, inr, List, [], ◌∷◌, length, Option, Some, None, Result, Ok, Err, IfOk, IfErr}
use Rattle.std.proofs.Common.{refl, sym, ap, ◌∙◌, subst, arith}
use Rattle.std.specs.Prelude.{codes}
use Rattle.task_set.specs.TaskSet.{SetData}
use Rattle.task_set.specs.Refusal.{IsNameOf}
use Rattle.strong_apa.specs.declared.reply.Came.{Came}
use Rattle.strong_apa.specs.declared.reply.Came.TheVariants as came
use Rattle.strong_apa.specs.declared.reply.Gone.{Gone}
use Rattle.text_fields.specs.EventText.{name_of}
use Rattle.schedule_text.specs.ScheduleText.{chain_text, set_text}
use Rattle.schedule_text.specs.Schedule.{AreOfProcessors}
use Rattle.schedule_text.specs.declared.fault.TextKind.{TextKind}
use Rattle.schedule_text.specs.declared.fault.TextKind.TheVariants.{BadLine}
use Rattle.schedule_text.specs.Fields.{IsSetField, IsChainField, IsSomebodyField}
use Rattle.schedule_text.specs.LineFields.{IsSaid, IsNameFault, IsCameFields, IsCameFault, IsGoneFields, IsGoneFault, displaced_fields}
use Rattle.schedule_text.specs.LineFields.{gone_words}
use Rattle.text_fields.proofs.Words.{head_same, tail_same, other_word}
use Rattle.text_fields.proofs.NamedTasks.{named_task}
use Rattle.schedule_text.proofs.ReplyParts.{no_task_named, task_named, the_task, somebody_named, the_somebody, chain_alone, set_alone}
use Rattle.schedule_text.proofs.ReplyParts.{chain_and_set, the_chain, the_set}
use Rattle.schedule_text.proofs.Names.{IsNamed, name_fault, alone, alone_named, alone_has}

-- ---- a word and a value

two_same : {a b x y : List ℕ} → a ≡ b → x ≡ y → a ∷ x ∷ [] ≡ b ∷ y ∷ []
two_same one two = cc

pub second : {a b : List ℕ} {x y : List ℕ} {xs ys : List (List ℕ)} → a ∷ x ∷ xs ≡ b ∷ y ∷ ys → x ≡ y
second e = head_same (tail_same e)

pub placed_read : (tasks : SetData) (word value chain : List ℕ) → word ≡ codes "placed"
    → IsChainField value chain → IsCameFields (word ∷ value ∷ []) tasks (came.Placed chain)
placed_read tasks word value chain is f =
    record {
      about = no_task_named tasks;
      processors = chain_alone chain f.list;
      each_field = two_same is f.is_text;
    }

pub waits_read : (tasks : SetData) (word value : List ℕ) (reach : ℕ) → word ≡ codes "waits"
    → IsSetField value reach → IsCameFields (word ∷ value ∷ []) tasks (came.Waits reach)
waits_read tasks word value reach is f =
    record {
      about = no_task_named tasks;
      processors = set_alone reach f.processors;
      each_field = two_same is f.is_text;
    }

-- two fields are those of a chain or of a set
two_cases : (word value : List ℕ) (tasks : SetData) (arrival : Came) → IsCameFields (word ∷ value ∷ []) tasks arrival
    → ((word ≡ codes "placed") × ((chain : List ℕ) × IsChainField value chain))
    ⊎ ((word ≡ codes "waits") × ((reach : ℕ) × IsSetField value reach))
two_cases word value tasks (came.Placed chain) f =
    inl (
      head_same f.each_field,
      (chain, record { list = the_chain chain [] f.processors; is_text = second f.each_field }),
    )
two_cases word value tasks (came.Waits reach) f =
    inr (
      head_same f.each_field,
      (reach, record { processors = the_set [] reach f.processors; is_text = second f.each_field }),
    )
two_cases word value tasks _ f = absurd (omega (arith, ap length f.each_field))

pub placed_none : (word value : List ℕ) → word ≡ codes "placed"
    → ((chain : List ℕ) → IsChainField value chain → ⊥) → IsSaid (IsCameFields (word ∷ value ∷ [])) → ⊥
placed_none word value is none (tasks, arrival, names, f) =
    elim (two_cases word value tasks arrival f)
    [ inl found ↦ none found.1.0 found.1.1 | inr other ↦ other_word (sym is ∙ other.0) refl ]

pub waits_none : (word value : List ℕ) → word ≡ codes "waits" → ((reach : ℕ) → IsSetField value reach → ⊥)
    → IsSaid (IsCameFields (word ∷ value ∷ [])) → ⊥
waits_none word value is none (tasks, arrival, names, f) =
    elim (two_cases word value tasks arrival f)
    [ inl other ↦ other_word (sym is ∙ other.0) refl | inr found ↦ none found.1.0 found.1.1 ]

pub two_none : (word value : List ℕ) → word ≢ codes "placed" → word ≢ codes "waits"
    → IsSaid (IsCameFields (word ∷ value ∷ [])) → ⊥
two_none word value no_chain no_set (tasks, arrival, names, f) =
    elim (two_cases word value tasks arrival f) [ inl found ↦ no_chain found.0 | inr found ↦ no_set found.0 ]

-- what is read of a word and a value is read of the fields that they are
pub two_read : (set : SetData) (fields : List (List ℕ)) (word value : List ℕ) (result : Result Came TextKind)
    → fields ≡ word ∷ value ∷ []
    → IfOk result (λ came. (tasks : SetData) → IsCameFields (word ∷ value ∷ []) tasks came)
    → IfOk result (IsCameFields fields set)
two_read set fields word value (Ok came) two read =
    subst (λ (fs : List (List ℕ)). IsCameFields fs set came) (sym two) (read set)
two_read set fields word value (Err kind) two read = tt

pub two_refused : (set : SetData) (fields : List (List ℕ)) (word value : List ℕ) (result : Result Came TextKind)
    → fields ≡ word ∷ value ∷ []
    → IfErr result (λ kind. (kind ≡ BadLine) × (IsSaid (IsCameFields (word ∷ value ∷ [])) → ⊥))
    → IfErr result (IsCameFault fields set)
two_refused set fields word value (Ok came) two refused = tt
two_refused set fields word value (Err kind) two refused =
    subst (λ (fs : List (List ℕ)). IsCameFault fs set kind) (sym two) (inl refused)

-- ---- a displaced task

six_same : {a b c d e f b' d' f' : List ℕ} → b ≡ b' → d ≡ d' → f ≡ f' → a ∷ b ∷ c ∷ d ∷ e ∷ f ∷ [] ≡ a ∷ b' ∷ c
    ∷ d' ∷ e ∷ f' ∷ []
six_same one two three = cc

-- a chain and a set of processors
pub record AreParts (chain processors : List ℕ) : Type 0 where
  pub links : List ℕ
  pub X : ℕ
  pub is_chain : IsChainField chain links
  pub is_set : IsSetField processors X

parts : (chain processors links : List ℕ) (X : ℕ) → AreOfProcessors (links ∷ []) (X ∷ [])
    → chain ≡ chain_text links → processors ≡ set_text X → AreParts chain processors
parts chain processors links X within is are =
    record {
      links = links;
      X = X;
      is_chain = record { list = the_chain links (X ∷ []) within; is_text = is };
      is_set = record { processors = the_set (links ∷ []) X within; is_text = are };
    }

-- what six fields say
six_said : (set : SetData) (a b c d e f : List ℕ) (arrival : Came)
    → IsCameFields (a ∷ b ∷ c ∷ d ∷ e ∷ f ∷ []) set arrival
    → ((a ≡ codes "displaced") × (c ≡ codes "out") × (e ≡ codes "reach")) × AreParts b f × IsNamed set d
six_said set a b c d e f (came.Displaced links out reach) g =
    let third = tail_same (tail_same g.each_field) in
    let fifth = tail_same (tail_same third) in (
      (head_same g.each_field, head_same third, head_same fifth),
      parts b f links reach g.processors (second g.each_field) (second fifth),
      (out, the_task set out g.about, second third),
    )
six_said set a b c d e f _ g = absurd (omega (arith, ap length g.each_field))

pub displaced_written : (set : SetData) (chain name processors links : List ℕ) (out reach : ℕ)
    → IsChainField chain links → out < length set.tasks → name ≡ name_of set out → IsSetField processors reach
    → IsCameFields (displaced_fields chain name processors) set (came.Displaced links out reach)
displaced_written set chain name processors links out reach f within called s =
    record {
      about = task_named set out within;
      processors = chain_and_set links reach f.list s.processors;
      each_field = six_same f.is_text called s.is_text;
    }

pub displaced_read : (set : SetData) (chain name processors links : List ℕ) (out reach : ℕ)
    → IsChainField chain links → IsNameOf set out name → IsSetField processors reach
    → IsCameFields (displaced_fields chain name processors) set (came.Displaced links out reach)
displaced_read set chain name processors links out reach f called s =
    let named = named_task set out name called in
    displaced_written set chain name processors links out reach f named.0 named.1 s

pub displaced_parts : (chain name processors : List ℕ) → IsSaid (IsCameFields (displaced_fields chain name processors))
    → AreParts chain processors
displaced_parts chain name processors (tasks, arrival, names, f) = (six_said tasks _ chain _ name _ processors arrival f).1

-- a name that is not known, where the other fields are right
pub displaced_fault : (set : SetData) (chain name processors links : List ℕ) (reach : ℕ) (kind : TextKind)
    → IsChainField chain links → IsSetField processors reach → IsNameFault set name kind
    → IsCameFault (displaced_fields chain name processors) set kind
displaced_fault set chain name processors links reach kind f s fault =
    name_fault (IsCameFields (displaced_fields chain name processors)) set name kind 1 (came.Displaced links 0 reach)
    (λ tasks arrival g. (six_said tasks _ chain _ name _ processors arrival g).2)
    (displaced_written (alone 1 name) chain name processors links 0 reach f (alone_has 1 name) (alone_named 1 name) s)
    fault

-- six fields with the words of a displacement
pub six_words : (fields : List (List ℕ)) (a b c d e f : List ℕ) → fields ≡ a ∷ b ∷ c ∷ d ∷ e ∷ f ∷ []
    → (a ≡ codes "displaced") × (c ≡ codes "out") × (e ≡ codes "reach") → displaced_fields b d f ≡ fields
six_words fields a b c d e f six words = sym (six ∙ by words.0 words.1 words.2)
  where
    by : {a' c' e' : List ℕ} → a ≡ a' → c ≡ c' → e ≡ e' → a ∷ b ∷ c ∷ d ∷ e ∷ f ∷ [] ≡ a' ∷ b ∷ c' ∷ d ∷ e' ∷ f ∷ []
    by one two three = cc

-- six fields with other words are no result of an arrival
pub six_none : (fields : List (List ℕ)) (a b c d e f : List ℕ) → fields ≡ a ∷ b ∷ c ∷ d ∷ e ∷ f ∷ []
    → (((a ≡ codes "displaced") × (c ≡ codes "out") × (e ≡ codes "reach")) → ⊥) → IsSaid (IsCameFields fields) → ⊥
six_none fields a b c d e f six no_out (tasks, arrival, names, g) =
    no_out (six_said tasks a b c d e f arrival
    (subst (λ (fields : List (List ℕ)). IsCameFields fields tasks arrival) six g)).0

-- a result of an arrival has two fields or six
pub came_length : (fields : List (List ℕ)) → length fields ≢ 2 → length fields ≢ 6 → IsSaid (IsCameFields fields) → ⊥
came_length fields two six (tasks, came.Displaced chain out reach, names, f) = six (ap length f.each_field)
came_length fields two six (tasks, _, names, f) = two (ap length f.each_field)

-- ---- who came in

five_same : {a b c d e a' c' e' : List ℕ} → a ≡ a' → c ≡ c' → e ≡ e' → a ∷ b ∷ c ∷ d ∷ e ∷ [] ≡ a' ∷ b ∷ c' ∷ d ∷ e' ∷ []
five_same one two three = cc

-- what the fields of who came in say
gone_said : (set : SetData) (chain name processors : List ℕ) (gone : Gone)
    → IsGoneFields (gone_words chain name processors) set gone
    → AreParts chain processors × ((entered : Option ℕ) × IsSomebodyField set name entered)
gone_said set chain name processors gone f =
    let third = tail_same (tail_same f.each_field) in
    let fifth = tail_same (tail_same third) in (
      parts chain processors gone.chain gone.back f.processors (head_same f.each_field) (head_same fifth),
      (gone.entered, record { about = the_somebody set gone.entered f.about; is_text = head_same third }),
    )

pub gone_read : (set : SetData) (chain name processors links : List ℕ) (entered : Option ℕ) (back : ℕ)
    → IsChainField chain links → IsSomebodyField set name entered → IsSetField processors back
    → IsGoneFields (gone_words chain name processors) set
    (record { entered = entered; chain = links; back = back })
gone_read set chain name processors links entered back f somebody s =
    record {
      about = somebody_named set entered somebody.about;
      processors = chain_and_set links back f.list s.processors;
      each_field = five_same f.is_text somebody.is_text s.is_text;
    }

pub gone_parts : (chain name processors : List ℕ) → IsSaid (IsGoneFields (gone_words chain name processors))
    → AreParts chain processors
gone_parts chain name processors (tasks, gone, names, f) = (gone_said tasks chain name processors gone f).0

-- who entered is a task, where it is not '-'
known_somebody : (set : SetData) (name : List ℕ) (entered : Option ℕ) → name ≢ codes "-"
    → IsSomebodyField set name entered → IsNamed set name
known_somebody set name None no_dash f = absurd (no_dash f.is_text)
known_somebody set name (Some t) no_dash f = (t, f.about, f.is_text)

pub gone_fault : (set : SetData) (chain name processors links : List ℕ) (back : ℕ) (kind : TextKind)
    → IsChainField chain links → IsSetField processors back → (name ≢ codes "-") × IsNameFault set name kind
    → IsGoneFault (gone_words chain name processors) set kind
gone_fault set chain name processors links back kind f s (no_dash, fault) =
    name_fault (IsGoneFields (gone_words chain name processors)) set name kind 1
    (record { entered = Some 0; chain = links; back = back })
    (λ tasks gone g. let found = (gone_said tasks chain name processors gone g).1 in
    known_somebody tasks name found.0 no_dash found.1)
    (gone_read (alone 1 name) chain name processors links (Some 0) back f
    (record { about = alone_has 1 name; is_text = alone_named 1 name }) s) fault

-- five fields with the words of who came in
pub five_words : (fields : List (List ℕ)) (a b c d e : List ℕ) → fields ≡ a ∷ b ∷ c ∷ d ∷ e ∷ []
    → (b ≡ codes "enters") × (d ≡ codes "back") → gone_words a c e ≡ fields
five_words fields a b c d e five words = sym (five ∙ by words.0 words.1)
  where
    by : {b' d' : List ℕ} → b ≡ b' → d ≡ d' → a ∷ b ∷ c ∷ d ∷ e ∷ [] ≡ a ∷ b' ∷ c ∷ d' ∷ e ∷ []
    by one two = cc

-- five fields with other words do not say who came in
pub five_none : (fields : List (List ℕ)) (a b c d e : List ℕ) → fields ≡ a ∷ b ∷ c ∷ d ∷ e ∷ []
    → (((b ≡ codes "enters") × (d ≡ codes "back")) → ⊥) → IsSaid (IsGoneFields fields) → ⊥
five_none fields a b c d e five no_words (tasks, gone, names, f) =
    let same = sym five ∙ f.each_field in
    no_words (second same, second (tail_same (tail_same same)))

-- who came in has five fields
pub gone_length : (fields : List (List ℕ)) → length fields ≢ 5 → IsSaid (IsGoneFields fields) → ⊥
gone_length fields five (tasks, gone, names, f) = five (ap length f.each_field)
