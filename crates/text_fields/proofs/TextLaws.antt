-- What a machine makes of a text: one answer, and always one; the first line with a fault decides.
use Rattle.std.proofs.Common.{◌≡◌, ℕ, ◌+◌, ◌≤◌, ◌⊎◌, List, [], ◌∷◌, ◌++◌, length, refl, sym, ap, ◌∙◌, subst, inl, inr, arith, append-nil}
use Rattle.std.proofs.Common.{Result, Ok, Err, IfOk, IfErr, MatchResult}
use Rattle.text_fields.specs.Machine.{Outcome, Leads, Fails, Answer, IsText, Refuses, answer_at_end, IsAnswer, IsMachine, Leading}
use Rattle.text_fields.specs.Machine.{IsFaultOfLine, IsFaultOfEnd}
use Rattle.text_fields.specs.Laws.{IsTextOf, IsRefused, HasOneValue, HasOneFault, NeverBoth, AlwaysOne, BeforeIsFine, FirstFaultDecides}
use Rattle.text_fields.specs.Laws.{RefusedAlike, EndsValid}

module _ {P L V K : Type 0} {begins : P} {IsValid : P → Type 0} {Comes : P → L → Outcome P K → Type 0}
    {Ends : P → Outcome V K → Type 0} (machine : IsMachine begins IsValid Comes Ends) (cut : List ℕ → List L) where
  -- ---- one answer
  leads_not_fails : {A : Type 0} (kind : K) (next : P) → ◌≡◌ {A = Outcome P K} (Fails kind) (Leads next) → A
  leads_not_fails kind next e = cc

  same_kind : (one two : K) → ◌≡◌ {A = Outcome P K} (Fails one) (Fails two) → one ≡ two
  same_kind one two e = cc

  same_next : (one two : P) → ◌≡◌ {A = Outcome P K} (Leads one) (Leads two) → one ≡ two
  same_next one two e = cc

  pub answer_once : (number : ℕ) (expected : P) (lines : List L) (answer other : Answer V K) → IsValid expected
      → IsAnswer Comes Ends number expected lines answer → IsAnswer Comes Ends number expected lines other → answer ≡ other
  answer_once number expected [] answer other valid one two =
      one.2 ∙ ap (answer_at_end number) (machine.one_end expected one.0 two.0 valid one.1 two.1) ∙ sym two.2
  answer_once number expected (line ∷ rest) answer other valid (inl one) (inl two) =
      let kinds = same_kind one.0 two.0 (machine.one_outcome expected line (Fails one.0) (Fails two.0) valid one.1 two.1) in
      one.2 ∙ ap (Refuses number) kinds ∙ sym two.2
  answer_once number expected (line ∷ rest) answer other valid (inl one) (inr two) =
      leads_not_fails one.0 two.0 (machine.one_outcome expected line (Fails one.0) (Leads two.0) valid one.1 two.1)
  answer_once number expected (line ∷ rest) answer other valid (inr one) (inl two) =
      leads_not_fails two.0 one.0 (machine.one_outcome expected line (Fails two.0) (Leads one.0) valid two.1 one.1)
  answer_once number expected (line ∷ rest) answer other valid (inr one) (inr two) =
      let nexts = same_next one.0 two.0 (machine.one_outcome expected line (Leads one.0) (Leads two.0) valid one.1 two.1) in
      let Rest : P → Type 0 = λ next. IsAnswer Comes Ends (number + 1) next rest answer in
      answer_once (number + 1) two.0 rest answer other (machine.keeps expected line two.0 valid two.1) (subst Rest nexts one.2) two.2

  same_value : (one two : V) → ◌≡◌ {A = Answer V K} (IsText one) (IsText two) → one ≡ two
  same_value one two e = cc

  same_fault : (line number : ℕ) (one two : K) → ◌≡◌ {A = Answer V K} (Refuses line one) (Refuses number two)
      → (line ≡ number) × (one ≡ two)
  same_fault line number one two e = (cc, cc)

  text_not_refused : {A : Type 0} (value : V) (line : ℕ) (kind : K) → ◌≡◌ {A = Answer V K} (IsText value) (Refuses line kind) → A
  text_not_refused value line kind e = cc

  pub one_value : HasOneValue cut begins Comes Ends
  one_value bytes value other one two =
      same_value value other (answer_once 1 begins (cut bytes) (IsText value) (IsText other) machine.starts one two)

  pub one_fault : HasOneFault cut begins Comes Ends
  one_fault bytes line number kind other one two =
      same_fault line number kind other (answer_once 1 begins (cut bytes) (Refuses line kind) (Refuses number other) machine.starts one two)

  pub never_both : NeverBoth cut begins Comes Ends
  never_both bytes value line kind one two =
      text_not_refused value line kind (answer_once 1 begins (cut bytes) (IsText value) (Refuses line kind) machine.starts one two)

  -- ---- always one
  abbrev IsAnswered : ℕ → P → List L → Type 0
  IsAnswered number expected lines = (answer : Answer V K) × IsAnswer Comes Ends number expected lines answer

  after_line : (number : ℕ) (expected : P) (line : L) (rest : List L) → IsValid expected
      → ((next : P) → IsValid next → IsAnswered (number + 1) next rest)
      → (outcome : Outcome P K) → Comes expected line outcome → IsAnswered number expected (line ∷ rest)
  after_line number expected line rest valid later (Fails kind) comes = (Refuses number kind, inl (kind, comes, refl))
  after_line number expected line rest valid later (Leads next) comes =
      let found = later next (machine.keeps expected line next valid comes) in
      (found.0, inr (next, comes, found.1))

  answered : (number : ℕ) (expected : P) (lines : List L) → IsValid expected → IsAnswered number expected lines
  answered number expected [] valid = let last = machine.some_end expected valid in (answer_at_end number last.0, (last.0, last.1, refl))
  answered number expected (line ∷ rest) valid =
      let comes = machine.some_outcome expected line valid in
      after_line number expected line rest valid (λ next ok. answered (number + 1) next rest ok) comes.0 comes.1

  pub always_one : AlwaysOne cut begins Comes Ends
  always_one bytes = by (answered 1 begins (cut bytes) machine.starts)
    where
      by : IsAnswered 1 begins (cut bytes)
          → ((value : V) × IsTextOf cut begins Comes Ends bytes value)
          ⊎ ((line : ℕ) × (kind : K) × IsRefused cut begins Comes Ends bytes line kind)
      by (IsText value, is) = inl (value, is)
      by (Refuses line kind, is) = inr (line, kind, is)

  -- ---- the end of a text
  leads_at_end : (number : ℕ) (value : V) (last : Outcome V K) → IsText value ≡ answer_at_end number last → Leads value ≡ last
  leads_at_end number value (Leads other) e = ap Leads (same_value value other e)
  leads_at_end number value (Fails kind) e = text_not_refused value number kind e

  valid_at_end : (number : ℕ) (expected : P) (lines : List L) (value : V) → IsValid expected
      → IsAnswer Comes Ends number expected lines (IsText value)
      → (last : P) × IsValid last × Ends last (Leads value)
  valid_at_end number expected [] value valid (last, ends, e) =
      (expected, valid, subst (Ends expected) (sym (leads_at_end number value last e)) ends)
  valid_at_end number expected (line ∷ rest) value valid (inl (kind, fault, e)) = text_not_refused value number kind e
  valid_at_end number expected (line ∷ rest) value valid (inr (next, leads, later)) =
      valid_at_end (number + 1) next rest value (machine.keeps expected line next valid leads) later

  pub ends_valid : EndsValid cut begins IsValid Comes Ends
  ends_valid bytes value text = valid_at_end 1 begins (cut bytes) value machine.starts text

  -- ---- the first line with a fault
  -- the fault of the end of no more lines
  fault_at_end : (number line : ℕ) (kind : K) (last : Outcome V K) → Refuses line kind ≡ answer_at_end number last
      → (line ≡ number) × (last ≡ Fails kind)
  fault_at_end number line kind (Leads value) e = text_not_refused value line kind (sym e)
  fault_at_end number line kind (Fails other) e = let same = same_fault line number kind other e in (same.0, ap Fails (sym same.1))

  -- the fault of some lines stands at one of them, or at the end
  abbrev IsFound : ℕ → P → List L → ℕ → K → Type 0
  IsFound number expected lines line kind =
      ((before : List L) × (text : L) × (after : List L) × (p : P) × (lines ≡ before ++ text ∷ after) × (line ≡ number + length before)
      × Leading Comes expected before p × Comes p text (Fails kind))
      ⊎ ((p : P) × (line ≡ number + length lines) × Leading Comes expected lines p × Ends p (Fails kind))

  found_later : (number : ℕ) (expected next : P) (first : L) (rest : List L) (line : ℕ) (kind : K) → Comes expected first (Leads next)
      → IsFound (number + 1) next rest line kind → IsFound number expected (first ∷ rest) line kind
  found_later number expected next first rest line kind leads (inl (before, text, after, p, order, place, expects, fault)) =
      inl (first ∷ before, text, after, p, ap (λ (more : List L). first ∷ more) order, omega (arith, place), (next, leads, expects), fault)
  found_later number expected next first rest line kind leads (inr (p, place, expects, fault)) =
      inr (p, omega (arith, place), (next, leads, expects), fault)

  found : (number : ℕ) (expected : P) (lines : List L) (line : ℕ) (kind : K) → IsAnswer Comes Ends number expected lines (Refuses line kind)
      → IsFound number expected lines line kind
  found number expected [] line kind (last, ends, e) =
      let same = fault_at_end number line kind last e in
      inr (expected, omega (arith, same.0), refl, subst (Ends expected) same.1 ends)
  found number expected (first ∷ rest) line kind (inl (other, fault, e)) =
      let same = same_fault line number kind other e in
      inl (
        [],
        first,
        rest,
        expected,
        refl,
        omega (arith, same.0),
        refl,
        subst (λ (k : K). Comes expected first (Fails k)) (sym same.1)
            fault,
      )
  found number expected (first ∷ rest) line kind (inr (next, leads, later)) =
      found_later number expected next first rest line kind leads (found (number + 1) next rest line kind later)

  pub before_is_fine : BeforeIsFine cut begins Comes Ends
  before_is_fine bytes number kind refused = by (found 1 begins (cut bytes) number kind refused)
    where
      by : IsFound 1 begins (cut bytes) number kind
          → IsFaultOfLine begins Comes (cut bytes) number kind ⊎ IsFaultOfEnd begins Comes Ends (cut bytes) number kind
      by (inl (before, text, after, p, order, place, expects, fault)) = inl (record {
        before = before;
        line = text;
        after = after;
        expected = p;
        order = order;
        place = omega (arith, place);
        expects = expects;
        fault = fault;
      })
      by (inr (p, place, expects, fault)) = inr (record { expected = p; place = omega (arith, place); expects = expects; fault = fault })

  -- lines without fault, and then one with a fault, whatever follows
  refused_after : (number : ℕ) (p q : P) (before : List L) (text : L) (after : List L) (kind : K)
      → Leading Comes p before q → Comes q text (Fails kind)
      → IsAnswer Comes Ends number p (before ++ text ∷ after) (Refuses (number + length before) kind)
  refused_after number p q [] text after kind same fault =
      inl (kind, subst (λ (from : P). Comes from text (Fails kind)) (sym same) fault, ap (λ (n : ℕ). Refuses n kind) (omega arith))
  refused_after number p q (first ∷ before) text after kind (next, leads, expects) fault =
      let place : number + 1 + length before ≡ number + length (first ∷ before) = omega arith in
      let At : ℕ → Type 0 = λ n. IsAnswer Comes Ends (number + 1) next (before ++ text ∷ after) (Refuses n kind) in
      inr (next, leads, subst At place (refused_after (number + 1) next q before text after kind expects fault))

  pub first_fault_decides : FirstFaultDecides cut begins Comes Ends
  first_fault_decides bytes number kind first =
      let place : 1 + length first.before ≡ number = (let e = first.place in omega arith) in
      let P : List L → ℕ → Type 0 = λ lines n. IsAnswer Comes Ends 1 begins lines (Refuses n kind) in
      subst (λ (lines : List L). P lines number) (sym first.order)
      (subst (P (first.before ++ first.line ∷ first.after)) place
      (refused_after 1 begins first.expected first.before first.line first.after kind first.expects first.fault))

  -- ---- whatever follows
  -- some lines are not refused before the first of them
  not_before : (number : ℕ) (p : P) (lines : List L) (line : ℕ) (kind : K) → IsAnswer Comes Ends number p lines (Refuses line kind)
      → number ≤ line
  not_before number p [] line kind (last, ends, e) = let same = fault_at_end number line kind last e in omega (arith, same.0)
  not_before number p (first ∷ rest) line kind (inl (other, fault, e)) =
      let same = same_fault line number kind other e in omega (arith, same.0)
  not_before number p (first ∷ rest) line kind (inr (next, leads, later)) =
      let after = not_before (number + 1) next rest line kind later in omega (arith, after)

  alike : (number line : ℕ) (p : P) (before after more : List L) (text : L) (kind : K) → line ≡ number + length before
      → IsAnswer Comes Ends number p (before ++ text ∷ after) (Refuses line kind)
      → IsAnswer Comes Ends number p (before ++ text ∷ more) (Refuses line kind)
  alike number line p [] after more text kind place (inl fault) = inl fault
  alike number line p [] after more text kind place (inr (next, leads, later)) =
      let from = not_before (number + 1) next after line kind later in absurd (omega (arith, from, place))
  alike number line p (first ∷ before) after more text kind place (inl fault) = inl fault
  alike number line p (first ∷ before) after more text kind place (inr (next, leads, later)) =
      inr (next, leads, alike (number + 1) line next before after more text kind (omega (arith, place)) later)

  pub refused_alike : RefusedAlike cut begins Comes Ends
  refused_alike bytes other before after more line kind cut_one cut_other refused =
      let At : List L → Type 0 = λ lines. IsAnswer Comes Ends 1 begins lines (Refuses (length before + 1) kind) in
      subst At (sym cut_other) (alike 1 (length before + 1) begins before after more line kind (omega arith) (subst At cut_one refused))

  -- ---- the way to the end of a text
  -- lines without fault, and then those after them
  led_through : (number : ℕ) (p q : P) (lines rest : List L) (answer : Answer V K) → Leading Comes p lines q
      → IsAnswer Comes Ends (number + length lines) q rest answer → IsAnswer Comes Ends number p (lines ++ rest) answer
  led_through number p q [] rest answer same later =
      let At : ℕ → Type 0 = λ n. IsAnswer Comes Ends n p rest answer in
      let place : number + length {A = L} [] ≡ number = omega arith in
      subst At place (subst (λ (from : P). IsAnswer Comes Ends (number + length {A = L} []) from rest answer) (sym same) later)
  led_through number p q (line ∷ lines) rest answer (next, leads, more) later =
      let place : number + length (line ∷ lines) ≡ number + 1 + length lines = omega arith in
      inr (
        next,
        leads,
        led_through (number + 1) next q lines rest answer more
            (subst (λ (n : ℕ). IsAnswer Comes Ends n q rest answer) place later),
      )

  -- the lines of a text of a value lead to what the end makes the value of
  pub text_leads : (number : ℕ) (p : P) (lines : List L) (value : V) → IsAnswer Comes Ends number p lines (IsText value)
      → (last : P) × Leading Comes p lines last × Ends last (Leads value)
  text_leads number p [] value (last, ends, e) = (p, refl, subst (Ends p) (sym (leads_at_end number value last e)) ends)
  text_leads number p (line ∷ rest) value (inl (kind, fault, e)) = text_not_refused value number kind e
  text_leads number p (line ∷ rest) value (inr (next, leads, later)) =
      let more = text_leads (number + 1) next rest value later in
      (more.0, (next, leads, more.1), more.2)

  -- lines that lead to an end with an outcome have its answer
  pub leads_to_end : (p last : P) (lines : List L) (outcome : Outcome V K) → Leading Comes p lines last → Ends last outcome
      → IsAnswer Comes Ends 1 p lines (answer_at_end (1 + length lines) outcome)
  leads_to_end p last lines outcome leads ends =
      subst (λ (all : List L). IsAnswer Comes Ends 1 p all (answer_at_end (1 + length lines) outcome)) (append-nil lines)
      (led_through 1 p last lines [] (answer_at_end (1 + length lines) outcome) leads (outcome, ends, refl))

  -- ---- what a reader answers that answers nothing wrong
  module _ {F : Type 0} (IsOutOfMemory : K → Type 0) (number_of : F → ℕ) (kind_of : F → K) (bytes : List ℕ) where
    pub answers_value : (result : Result V F) → IfOk result (IsTextOf cut begins Comes Ends bytes)
        → IfErr result (λ fault. IsOutOfMemory (kind_of fault) ⊎ IsRefused cut begins Comes Ends bytes (number_of fault) (kind_of fault))
        → (value : V) → IsTextOf cut begins Comes Ends bytes value
        → MatchResult result (λ found. found ≡ value) (λ fault. IsOutOfMemory (kind_of fault))
    answers_value (Ok found) read refused value text = one_value bytes found value read text
    answers_value (Err fault) read (inl memory) value text = memory
    answers_value (Err fault) read (inr why) value text = absurd (never_both bytes value (number_of fault) (kind_of fault) text why)

    pub answers_fault : (result : Result V F) → IfOk result (IsTextOf cut begins Comes Ends bytes)
        → IfErr result (λ fault. IsOutOfMemory (kind_of fault) ⊎ IsRefused cut begins Comes Ends bytes (number_of fault) (kind_of fault))
        → (line : ℕ) (kind : K) → IsRefused cut begins Comes Ends bytes line kind
        → MatchResult result (λ found. ⊥) (λ fault. IsOutOfMemory (kind_of fault) ⊎ ((number_of fault ≡ line) × (kind_of fault ≡ kind)))
    answers_fault (Ok found) read refused line kind why = absurd (never_both bytes found line kind read why)
    answers_fault (Err fault) read (inl memory) line kind why = inl memory
    answers_fault (Err fault) read (inr found) line kind why = inr (one_fault bytes (number_of fault) line (kind_of fault) kind found why)

  -- ---- one step of a reader
  -- the first line has a fault
  pub refused_at : (number : ℕ) (p : P) (line : L) (rest lines : List L) (kind : K) → lines ≡ line ∷ rest
      → Comes p line (Fails kind) → IsAnswer Comes Ends number p lines (Refuses number kind)
  refused_at number p line rest lines kind cut fault =
      subst (λ (all : List L). IsAnswer Comes Ends number p all (Refuses number kind)) (sym cut) (inl (kind, fault, refl))

  -- the first line leads on
  pub led_on : (number : ℕ) (p next : P) (line : L) (rest lines : List L) (answer : Answer V K) → lines ≡ line ∷ rest
      → Comes p line (Leads next) → IsAnswer Comes Ends (number + 1) next rest answer → IsAnswer Comes Ends number p lines answer
  led_on number p next line rest lines answer cut leads later =
      subst (λ (all : List L). IsAnswer Comes Ends number p all answer) (sym cut) (inr (next, leads, later))

  -- no line is left
  pub ended_at : (number : ℕ) (p : P) (lines : List L) (last : Outcome V K) → lines ≡ []
      → Ends p last → IsAnswer Comes Ends number p lines (answer_at_end number last)
  ended_at number p lines last none ends =
      subst (λ (all : List L). IsAnswer Comes Ends number p all (answer_at_end number last)) (sym none) (last, ends, refl)
