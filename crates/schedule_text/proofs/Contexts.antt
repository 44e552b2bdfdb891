-- Contexts by their fields.
use Rattle.std.proofs.Common.{◌≡◌, ◌≢◌, ℕ, ◌<◌, ◌≤◌, ◌^◌, inl, List, [], ◌∷◌, length, get_or, Option, Some, None, Contains, Bor, refl, sym}
use Rattle.std.proofs.Common.{ap, ◌∙◌, subst, arith, lit<}
use Rattle.std.specs.Prelude.{codes}
use Rattle.affinity_mask.specs.Number.{canonical_number}
use Rattle.task_set.specs.TaskSet.{SetData}
use Rattle.task_set.specs.declared.context.Context.{Context}
use Rattle.text_fields.specs.EventText.{name_of}
use Rattle.text_fields.specs.Fields.{texts}
use Rattle.schedule_text.specs.ScheduleText.{number_text, context_fields}
use Rattle.schedule_text.specs.Schedule.{IsContextOf}
use Rattle.schedule_text.specs.Fields.{IsNumberField, IsLastField}
use Rattle.schedule_text.specs.LineFields.{AreContextWords, IsContextFields}
use Rattle.text_fields.proofs.Words.{head_same, tail_same}
use Rattle.std.proofs.lemmas.Fmt.{decimal_injective}
use Rattle.schedule_text.proofs.Fields.{number_once, number_lacks}

texts_five : (fields : List (Bor (List ℕ))) (d : Bor (List ℕ)) → 5 ≤ length fields → length fields < 6
    → texts fields ≡ (get_or fields 0 d).now ∷ (get_or fields 1 d).now ∷ (get_or fields 2 d).now
    ∷ (get_or fields 3 d).now ∷ (get_or fields 4 d).now ∷ []
texts_five [] d some few = absurd (omega arith)
texts_five (x ∷ []) d some few = absurd (omega arith)
texts_five (x ∷ y ∷ []) d some few = absurd (omega arith)
texts_five (x ∷ y ∷ z ∷ []) d some few = absurd (omega arith)
texts_five (x ∷ y ∷ z ∷ u ∷ []) d some few = absurd (omega arith)
texts_five (x ∷ y ∷ z ∷ u ∷ v ∷ []) d some few = refl
texts_five (x ∷ y ∷ z ∷ u ∷ v ∷ w ∷ us) d some few = absurd (omega arith)

pub texts_eleven : (fields : List (Bor (List ℕ))) (d : Bor (List ℕ)) → 11 ≤ length fields → length fields < 12
    → texts fields
    ≡ (get_or fields 0 d).now ∷ (get_or fields 1 d).now ∷ (get_or fields 2 d).now ∷ (get_or fields 3 d).now
    ∷ (get_or fields 4 d).now ∷ (get_or fields 5 d).now ∷ (get_or fields 6 d).now ∷ (get_or fields 7 d).now
    ∷ (get_or fields 8 d).now
    ∷ (get_or fields 9 d).now ∷ (get_or fields 10 d).now ∷ []
texts_eleven [] d some few = absurd (omega arith)
texts_eleven (a ∷ []) d some few = absurd (omega arith)
texts_eleven (a ∷ b ∷ []) d some few = absurd (omega arith)
texts_eleven (a ∷ b ∷ c ∷ []) d some few = absurd (omega arith)
texts_eleven (a ∷ b ∷ c ∷ e ∷ []) d some few = absurd (omega arith)
texts_eleven (a ∷ b ∷ c ∷ e ∷ f ∷ []) d some few = absurd (omega arith)
texts_eleven (a ∷ b ∷ c ∷ e ∷ f ∷ g ∷ us) d some few =
    ap (λ (rest : List (List ℕ)). a.now ∷ b.now ∷ c.now ∷ e.now ∷ f.now ∷ g.now ∷ rest)
    (texts_five us d (omega arith) (omega arith))

-- what the fields of a context say
pub record AreSaid (units stints moves last trail : List ℕ) (context : Context) : Type 0 where
  pub units_are : units ≡ canonical_number context.units
  pub stints_are : stints ≡ canonical_number context.stints
  pub moves_are : moves ≡ canonical_number context.moves
  pub last_is : last ≡ number_text context.last
  pub trail_is : trail ≡ canonical_number context.trail

skip : {A : Type 0} {a b c d : A} {xs ys : List A} → a ∷ b ∷ xs ≡ c ∷ d ∷ ys → xs ≡ ys
skip e = tail_same (tail_same e)

pub context_said : (set : SetData) (context : Context) (fields : List (List ℕ)) (a b c d e f g h i j k : List ℕ)
    → fields ≡ a ∷ b ∷ c ∷ d ∷ e ∷ f ∷ g ∷ h ∷ i ∷ j ∷ k ∷ [] → fields ≡ context_fields set context
    → AreSaid c e g i k context
context_said set context fields a b c d e f g h i j k eleven same =
    let third = skip (sym eleven ∙ same) in
    let fifth = skip third in
    let seventh = skip fifth in
    let ninth = skip seventh in
    let last = skip ninth in
    record {
      units_are = head_same third;
      stints_are = head_same fifth;
      moves_are = head_same seventh;
      last_is = head_same ninth;
      trail_is = head_same last;
    }

-- the name and the words of a context
pub context_named : (set : SetData) (context : Context) (fields : List (List ℕ)) (a b c d e f g h i j k : List ℕ)
    → fields ≡ a ∷ b ∷ c ∷ d ∷ e ∷ f ∷ g ∷ h ∷ i ∷ j ∷ k ∷ [] → fields ≡ context_fields set context
    → (a ≡ name_of set context.task) × AreContextWords b d f h j
context_named set context fields a b c d e f g h i j k eleven same =
    let first = sym eleven ∙ same in
    let third = skip first in
    let fifth = skip third in
    let seventh = skip fifth in
    let ninth = skip seventh in (
      head_same first,
      (
        head_same (tail_same first),
        head_same (tail_same third),
        head_same (tail_same fifth),
        head_same (tail_same seventh),
        head_same (tail_same ninth),
      ),
    )

-- the fields of a context, from what they say
pub context_from_said : (set : SetData) (context : Context) (fields : List (List ℕ)) (a b c d e f g h i j k : List ℕ)
    → fields ≡ a ∷ b ∷ c ∷ d ∷ e ∷ f ∷ g ∷ h ∷ i ∷ j ∷ k ∷ [] → a ≡ name_of set context.task
    → AreContextWords b d f h j → AreSaid c e g i k context → fields ≡ context_fields set context
context_from_said set context fields a b c d e f g h i j k eleven name words said =
    eleven ∙ eleven_same name words.0 said.units_are words.1 said.stints_are words.2 said.moves_are words.3
    said.last_is words.4 said.trail_is
  where
    eleven_same : {a' b' c' d' e' f' g' h' i' j' k' : List ℕ} → a ≡ a' → b ≡ b' → c ≡ c' → d ≡ d' → e ≡ e' → f ≡ f'
        → g ≡ g' → h ≡ h' → i ≡ i' → j ≡ j' → k ≡ k'
        → a ∷ b ∷ c ∷ d ∷ e ∷ f ∷ g ∷ h ∷ i ∷ j ∷ k ∷ []
        ≡ a' ∷ b' ∷ c' ∷ d' ∷ e' ∷ f' ∷ g' ∷ h' ∷ i' ∷ j' ∷ k' ∷ []
    eleven_same e1 e2 e3 e4 e5 e6 e7 e8 e9 e10 e11 = cc

-- what eleven fields say
pub eleven_said : (set : SetData) (t : ℕ) (fields : List (Bor (List ℕ))) (d : Bor (List ℕ)) (context : Context)
    → 11 ≤ length fields → length fields < 12 → IsContextFields set t (texts fields) context
    → AreSaid (get_or fields 2 d).now (get_or fields 4 d).now (get_or fields 6 d).now (get_or fields 8 d).now
    (get_or fields 10 d).now context
eleven_said set t fields d context some few f =
    context_said set context (texts fields) _ _ _ _ _ _ _ _ _ _ _ (texts_eleven fields d some few) f.each_field

-- and their name and words
pub eleven_named : (set : SetData) (t : ℕ) (fields : List (Bor (List ℕ))) (d : Bor (List ℕ)) (context : Context)
    → 11 ≤ length fields → length fields < 12 → IsContextFields set t (texts fields) context
    → ((get_or fields 0 d).now ≡ name_of set t)
    × AreContextWords (get_or fields 1 d).now (get_or fields 3 d).now (get_or fields 5 d).now
    (get_or fields 7 d).now (get_or fields 9 d).now
eleven_named set t fields d context some few f =
    let named = context_named set context (texts fields) _ _ _ _ _ _ _ _ _ _ _ (texts_eleven fields d some few)
    f.each_field in
    (named.0 ∙ ap (name_of set) f.of_task.task, named.1)

-- a number that fits is one of 64 bits
pub wide_below : (n : ℕ) → n ≤ 18446744073709551615 → n < 2 ^ 64
wide_below n high = omega arith

-- a context, from eleven fields that say it
pub context_read : (set : SetData) (t : ℕ) (fields : List (Bor (List ℕ))) (d : Bor (List ℕ)) (u s m r : ℕ)
    (l : Option ℕ) → 11 ≤ length fields → length fields < 12
    → (get_or fields 0 d).now ≡ name_of set t
    → AreContextWords (get_or fields 1 d).now (get_or fields 3 d).now (get_or fields 5 d).now
    (get_or fields 7 d).now (get_or fields 9 d).now
    → IsNumberField 0 18446744073709551615 (get_or fields 2 d).now u
    → IsNumberField 0 18446744073709551615 (get_or fields 4 d).now s
    → IsNumberField 0 18446744073709551615 (get_or fields 6 d).now m → IsLastField (get_or fields 8 d).now l
    → IsNumberField 0 18446744073709551615 (get_or fields 10 d).now r
    → IsContextFields set t (texts fields)
    (record { task = t; units = u; stints = s; moves = m; last = l; trail = r })
context_read set t fields d u s m r l some few name words fu fs fm fl fr =
    record {
      of_task = record {
        task = refl;
        units = wide_below u fu.range.1;
        stints = wide_below s fs.range.1;
        moves = wide_below m fm.range.1;
        last = fl.processor;
        trail = wide_below r fr.range.1;
      };
      each_field = context_from_said set (record { task = t; units = u; stints = s; moves = m; last = l; trail = r })
          (texts fields) _ _ _ _ _ _ _ _ _ _ _ (texts_eleven fields d some few) name words
          (record {
            units_are = fu.is_text;
            stints_are = fs.is_text;
            moves_are = fm.is_text;
            last_is = fl.is_text;
            trail_is = fr.is_text;
          });
    }

-- a number of a context is within the bounds of the format
pub wide : (field : List ℕ) (n : ℕ) → n < 2 ^ 64 → field ≡ canonical_number n
    → IsNumberField 0 18446744073709551615 field n
wide field n small is = record { range = (omega arith, omega arith); is_text = is }

no_number_dash : (n : ℕ) → n < 2 ^ 64 → codes "-" ≡ canonical_number n → ⊥
no_number_dash n small is =
    number_lacks n 45 small (inl (omega arith))
    (subst (λ (text : List ℕ). Contains text 45) is (0, omega arith, refl))

-- the last processor, or none, of one field
pub last_once : (field : List ℕ) (last other : Option ℕ) → IsLastField field last → IsLastField field other → last ≡ other
last_once field None None one two = refl
last_once field None (Some q) one two =
    (let below : q < 64 = two.processor in absurd
    (no_number_dash q (omega arith) (sym one.is_text ∙ two.is_text)))
last_once field (Some p) None one two =
    (let below : p < 64 = one.processor in absurd
    (no_number_dash p (omega arith) (sym two.is_text ∙ one.is_text)))
last_once field (Some p) (Some q) one two =
    let below : p < 64 = one.processor in
    let below' : q < 64 = two.processor in
    ap Some (number_once 0 63 0 63 field p q (lit< tt) (lit< tt)
    (record { range = (omega arith, omega arith); is_text = one.is_text })
    (record { range = (omega arith, omega arith); is_text = two.is_text }))

-- what is neither '-' nor a processor is no last processor
pub last_none : (field : List ℕ) (last : Option ℕ) → field ≢ codes "-" → ((p : ℕ) → IsNumberField 0 63 field p → ⊥)
    → IsLastField field last → ⊥
last_none field None no_dash none f = no_dash f.is_text
last_none field (Some p) no_dash none f =
    let below : p < 64 = f.processor in
    none p (record { range = (omega arith, omega arith); is_text = f.is_text })

five_same : (t u s m r : ℕ) (l : Option ℕ) (context : Context) → context.task ≡ t → u ≡ context.units → s
    ≡ context.stints → m ≡ context.moves → l ≡ context.last → r ≡ context.trail
    → record { task = t; units = u; stints = s; moves = m; last = l; trail = r } ≡ context
five_same t u s m r l context e1 e2 e3 e4 e5 e6 = rw (← e1, e2, e3, e4, e5, e6) refl

-- the fields of a context are of one context
pub context_once : (set : SetData) (t : ℕ) (one other : Context) → IsContextOf t one → IsContextOf t other
    → context_fields set one ≡ context_fields set other → one ≡ other
context_once set t one other of of' same =
    let third = skip same in
    let fifth = skip third in
    let seventh = skip fifth in
    let ninth = skip seventh in
    let last = skip ninth in
    five_same one.task one.units one.stints one.moves one.trail one.last other (of'.task ∙ sym of.task)
    (decimal_injective one.units other.units of.units of'.units (head_same third))
    (decimal_injective one.stints other.stints of.stints of'.stints (head_same fifth))
    (decimal_injective one.moves other.moves of.moves of'.moves (head_same seventh))
    (last_once (number_text one.last) one.last other.last (record { processor = of.last; is_text = refl })
    (record { processor = of'.last; is_text = head_same ninth })) (decimal_injective one.trail other.trail
    of.trail of'.trail (head_same last))
