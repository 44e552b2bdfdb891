-- What a command read of a source that reports its bytes, and that words mean one command.
use Rattle.std.proofs.Common.{◌≡◌, ℕ, ◌+◌, ◌*◌, ◌<◌, ◌≤◌, ◌==◌, ◌⊎◌, List, [], ◌∷◌, length, get_or, map, String, Option, if◌then◌else◌}
use Rattle.std.proofs.Common.{refl, sym, ap, ◌∙◌, inl, inr, arith}
use Rattle.std.specs.Prelude.{codes, string_bytes}
use Rattle.std.specs.declared.alloc.Global.{Global}
use Rattle.affinity_mask.specs.Number.{number_value}
use Rattle.shift_io.specs.Stream.{TakesExactly, TakesAtMost}
use Rattle.commands.proofs.ReadBytes.{read_is_reported, not_longer}
use Rattle.commands.specs.Sizes.{AreWithin}
use Rattle.commands.specs.declared.sizes.Sizes.{Sizes}
use Rattle.command_line.specs.Command.{IsCommand, IsSized, IsWindow, IsOfWhole, IsOfPart, word_of, AreSizes, IsBounded, byte_limit}
use Rattle.command_line.specs.Command.{IsToRead, Reads, ReadsNothing}
use Rattle.schedule_picture.specs.declared.axis.Axis.{Axis}
use Rattle.schedule_picture.specs.declared.axis.Axis.TheVariants.{Time, Steps}
use Rattle.schedule_picture.specs.declared.window.Window.{Window}
use Rattle.command_line.specs.declared.words.Command.{Command}
use Rattle.command_line.specs.declared.words.Command.TheVariants.{Run, Check, Weak, Nested, Jobs, WeakJobs, RunJobs, Watch, Import}
use Rattle.command_line.specs.declared.words.Command.TheVariants.{ImportJobs, Draw, Chrome, Lost, Show, Make, Large}

-- a command reads nothing or something
reads_or_not : (command : Command) → ReadsNothing command ⊎ (ReadsNothing command → ⊥)
reads_or_not Run = inr (λ nothing. nothing)
reads_or_not Check = inr (λ nothing. nothing)
reads_or_not Weak = inr (λ nothing. nothing)
reads_or_not Nested = inr (λ nothing. nothing)
reads_or_not Jobs = inr (λ nothing. nothing)
reads_or_not WeakJobs = inr (λ nothing. nothing)
reads_or_not RunJobs = inr (λ nothing. nothing)
reads_or_not (Watch observers) = inr (λ nothing. nothing)
reads_or_not Import = inr (λ nothing. nothing)
reads_or_not ImportJobs = inr (λ nothing. nothing)
reads_or_not (Draw axis window) = inr (λ nothing. nothing)
reads_or_not (Chrome start) = inr (λ nothing. nothing)
reads_or_not Lost = inr (λ nothing. nothing)
reads_or_not (Show window) = inr (λ nothing. nothing)
reads_or_not (Make sizes) = inl tt
reads_or_not (Large sizes) = inl tt

-- what a command read is what it was to read
expected_by : (command : Command) (left after : Option (List ℕ)) (read taken : List ℕ) → IsToRead command left read
    → Reads command left after taken → ReadsNothing command ⊎ (ReadsNothing command → ⊥) → taken ≡ read
expected_by command left after read taken to_read reads (inl nothing) = (reads.none nothing).1 ∙ sym (to_read.none nothing)
expected_by command left after read taken to_read reads (inr something) =
    read_is_reported (byte_limit command) left after read taken (to_read.all something) (reads.all something)

pub read_is_expected : (command : Command) (left after : Option (List ℕ)) (read taken : List ℕ) → IsToRead command left read
    → Reads command left after taken → taken ≡ read
read_is_expected command left after read taken to_read reads =
    expected_by command left after read taken to_read reads (reads_or_not command)

-- a command that reads takes no more than it is to read
pub never_too_long : (command : Command) (left after : Option (List ℕ)) (read : List ℕ) → IsToRead command left read
    → (ReadsNothing command → ⊥) → TakesExactly left after (byte_limit command + 1) → ⊥
never_too_long command left after read to_read something longer =
    not_longer (byte_limit command) left after read (to_read.all something) longer

-- ---- words mean one command
-- a mark by which the first words of the commands differ: its first letter and its length
mark : List ℕ → ℕ
mark word = 16 * get_or word 0 0 + length word

-- the values of the four words after the first one, whether or not they are numbers
sizes_said : List (List ℕ) → Sizes
sizes_said words = record {
  number = number_value (get_or words 1 []);
  processors = number_value (get_or words 2 []);
  tasks = number_value (get_or words 3 []);
  events = number_value (get_or words 4 []);
}

-- the whole, or from the value of the second word to that of the third one, whether or not they are numbers
window_said : List (List ℕ) → Window
window_said words = if length words == 1 then record { from = 0; to = 18446744073709551615 }
    else record { from = number_value (get_or words 1 []); to = number_value (get_or words 2 []) }

-- zero, or the value of the second word, whether or not it is a number
start_said : List (List ℕ) → ℕ
start_said words = if length words == 1 then 0 else number_value (get_or words 1 [])

-- the command with this mark and these values, whether or not the words mean one
command_marked : ℕ → List (List ℕ) → Command
command_marked first words =
    if first == mark (codes "check") then Check else (
    if first == mark (codes "weak") then Weak else (
    if first == mark (codes "nested") then Nested else (
    if first == mark (codes "jobs") then Jobs else (
    if first == mark (codes "weakjobs") then WeakJobs else (
    if first == mark (codes "runjobs") then RunJobs else (
    if first == mark (codes "watch") then Watch (number_value (get_or words 1 [])) else (
    if first == mark (codes "import") then Import else (
    if first == mark (codes "importjobs") then ImportJobs else (
    if first == mark (codes "draw") then Draw Time (window_said words) else (
    if first == mark (codes "steps") then Draw Steps (window_said words) else (
    if first == mark (codes "chrome") then Chrome (start_said words) else (
    if first == mark (codes "lost") then Lost else (
    if first == mark (codes "show") then Show (window_said words) else (
    if first == mark (codes "make") then Make (sizes_said words) else (
    if first == mark (codes "large") then Large (sizes_said words) else Run)))))))))))))))

-- the command that words mean, if they mean one
command_said : List (List ℕ) → Command
command_said words = command_marked (mark (get_or words 0 [])) words

-- the values of four numbers are the numbers
sizes_are_said : (number processors tasks events : List ℕ) (sizes : Sizes) → AreSizes number processors tasks events sizes
    → (first : List ℕ) → sizes_said (first ∷ number ∷ processors ∷ tasks ∷ events ∷ []) ≡ sizes
unfolding sizes_said
sizes_are_said number processors tasks events sizes sized first = λ k. record {
  number = sized.is_number.0.1 k;
  processors = sized.are_processors.0.1 k;
  tasks = sized.are_tasks.0.1 k;
  events = sized.are_events.0.1 k;
}

-- the values of two numbers are the window
window_is_said : (from to : List ℕ) (window : Window) → IsWindow from to window → (first : List ℕ) → window_said (first ∷ from ∷ to ∷ [])
    ≡ window
unfolding window_said
window_is_said from to window is_window first = λ k. record { from = is_window.is_from.0.1 k; to = is_window.is_to.0.1 k }

-- one word says the whole
whole_is_said : (words : List (List ℕ)) (window : Window) (first : List ℕ) → IsOfWhole first words window
    → window_said (first ∷ []) ≡ window
unfolding window_said
whole_is_said words window first whole = λ k. record { from = sym whole.from_start k; to = sym whole.to_end k }

-- the words of a command say it
said_of : (words : List (List ℕ)) (command : Command) → IsCommand words command → command_said words ≡ command
unfolding command_said command_marked mark start_said
said_of words Run spoken = ap command_said spoken
said_of words Check spoken = ap command_said spoken
said_of words Weak spoken = ap command_said spoken
said_of words Nested spoken = ap command_said spoken
said_of words Jobs spoken = ap command_said spoken
said_of words WeakJobs spoken = ap command_said spoken
said_of words RunJobs spoken = ap command_said spoken
said_of words (Watch observers) spoken = ap command_said spoken.each_word ∙ ap Watch spoken.is_number.0.1
said_of words Import spoken = ap command_said spoken
said_of words ImportJobs spoken = ap command_said spoken
said_of words (Draw Time window) (inl whole) =
    ap command_said whole.each_word ∙ ap (Draw Time) (whole_is_said words window (codes "draw") whole)
said_of words (Draw Time window) (inr part) =
    ap command_said part.each_word ∙ ap (Draw Time) (window_is_said part.from part.to window part.is_window (codes "draw"))
said_of words (Draw Steps window) (inl whole) =
    ap command_said whole.each_word ∙ ap (Draw Steps) (whole_is_said words window (codes "steps") whole)
said_of words (Draw Steps window) (inr part) =
    ap command_said part.each_word ∙ ap (Draw Steps) (window_is_said part.from part.to window part.is_window (codes "steps"))
said_of words (Chrome start) (inl alone) = ap command_said alone.each_word ∙ ap Chrome (sym alone.from_zero)
said_of words (Chrome start) (inr given) = ap command_said given.each_word ∙ ap Chrome given.is_number.0.1
said_of words Lost spoken = ap command_said spoken
said_of words (Show window) (inl whole) =
    ap command_said whole.each_word ∙ ap Show (whole_is_said words window (codes "show") whole)
said_of words (Show window) (inr part) =
    ap command_said part.each_word ∙ ap Show (window_is_said part.from part.to window part.is_window (codes "show"))
said_of words (Make sizes) spoken = ap command_said spoken.each_word
    ∙ ap Make (sizes_are_said spoken.number spoken.processors spoken.tasks spoken.events sizes spoken.sized (codes "make"))
said_of words (Large sizes) spoken = ap command_said spoken.each_word
    ∙ ap Large (sizes_are_said spoken.number spoken.processors spoken.tasks spoken.events sizes spoken.sized (codes "large"))

-- so they mean one command
pub one_command : (words : List (List ℕ)) (one other : Command) → IsCommand words one → IsCommand words other → one ≡ other
one_command words one other first second = sym (said_of words one first) ∙ said_of words other second

-- and its numbers are within their bounds
sized_within : (first : List ℕ) (words : List (List ℕ)) (sizes : Sizes) → IsSized first words sizes → AreWithin sizes
sized_within first words sizes sized = record {
  processors = (sized.sized.are_processors.1, sized.sized.are_processors.2);
  tasks = (sized.sized.are_tasks.1, sized.sized.are_tasks.2);
  events = sized.sized.are_events.2;
}

-- and have its limit
same_limit : (words : List (List ℕ)) (one other : Command) → IsCommand words one → IsCommand words other → byte_limit other ≡ byte_limit one
same_limit words one other first second = sym (ap byte_limit (one_command words one other first second))

pub too_long_said : (words : List (List ℕ)) (one other : Command) (left after : Option (List ℕ)) (most : ℕ) → IsCommand words one
    → IsCommand words other → most ≡ byte_limit one → TakesExactly left after (byte_limit one + 1)
    → (most ≡ byte_limit other) × TakesExactly left after (most + 1)
too_long_said words one other left after most first second is_limit taken =
    (rw (same_limit words one other first second) is_limit, rw is_limit taken)

pub within_said : (words : List (List ℕ)) (one other : Command) (left after : Option (List ℕ)) → IsCommand words one → IsCommand words other
    → TakesAtMost left after (byte_limit one) → TakesAtMost left after (byte_limit other)
within_said words one other left after first second taken = rw (same_limit words one other first second) taken

pub takes_said : (words : List (List ℕ)) (one other : Command) (before after : ℕ) → IsCommand words one → IsCommand words other
    → after ≤ before + byte_limit one + 2 → after ≤ before + byte_limit other + 2
takes_said words one other before after first second few = rw (same_limit words one other first second) few

-- what is left where the first of two does not hold
pub left_out : {A B : Type 0} → (A → ⊥) → A ⊎ B → B
left_out none (inl a) = absurd (none a)
left_out none (inr b) = b

pub command_within : (words : List (List ℕ)) (command : Command) → IsCommand words command → IsBounded command
command_within words Run spoken = tt
command_within words Check spoken = tt
command_within words Weak spoken = tt
command_within words Nested spoken = tt
command_within words Jobs spoken = tt
command_within words WeakJobs spoken = tt
command_within words RunJobs spoken = tt
command_within words (Watch observers) spoken = (spoken.is_number.1, spoken.is_number.2)
command_within words Import spoken = tt
command_within words ImportJobs spoken = tt
command_within words (Draw axis window) spoken = tt
command_within words (Chrome start) (inl alone) = let zero = alone.from_zero in omega arith
command_within words (Chrome start) (inr given) = given.is_number.2
command_within words Lost spoken = tt
command_within words (Show window) spoken = tt
command_within words (Make sizes) spoken = sized_within _ words sizes spoken
command_within words (Large sizes) spoken = sized_within _ words sizes spoken

no_sizes : (name : List ℕ) (words : List (List ℕ)) (number processors tasks events first : List ℕ) → words ≡ first ∷ number ∷ processors
    ∷ tasks ∷ events ∷ [] → ((sizes : Sizes) → AreSizes number processors tasks events sizes → ⊥) → (sizes : Sizes)
    → IsSized name words sizes → ⊥
no_sizes name words number processors tasks events first five none sizes sized =
    let same = sym sized.each_word ∙ five in
    let numbers : sized.number ≡ number = cc in
    let counts : sized.processors ≡ processors = cc in
    let of_tasks : sized.tasks ≡ tasks = cc in
    let of_events : sized.events ≡ events = cc in
    none sizes (rw (numbers, counts, of_tasks, of_events) at sized.sized)

-- words that say no four numbers mean no command
pub unsized_words : (words : List (List ℕ)) (first number processors tasks events : List ℕ) → words ≡ first ∷ number ∷ processors ∷ tasks
    ∷ events ∷ [] → ((sizes : Sizes) → AreSizes number processors tasks events sizes → ⊥) → (command : Command) → IsCommand words command
    → ⊥
unsized_words words first number processors tasks events five none Run spoken = let same = sym five ∙ spoken in cc
unsized_words words first number processors tasks events five none Check spoken = let same = sym five ∙ spoken in cc
unsized_words words first number processors tasks events five none Weak spoken = let same = sym five ∙ spoken in cc
unsized_words words first number processors tasks events five none Nested spoken = let same = sym five ∙ spoken in cc
unsized_words words first number processors tasks events five none Jobs spoken = let same = sym five ∙ spoken in cc
unsized_words words first number processors tasks events five none WeakJobs spoken = let same = sym five ∙ spoken in cc
unsized_words words first number processors tasks events five none RunJobs spoken = let same = sym five ∙ spoken in cc
unsized_words words first number processors tasks events five none (Watch observers) spoken = let same = sym five ∙ spoken.each_word in cc
unsized_words words first number processors tasks events five none Import spoken = let same = sym five ∙ spoken in cc
unsized_words words first number processors tasks events five none ImportJobs spoken = let same = sym five ∙ spoken in cc
unsized_words words first number processors tasks events five none (Draw axis window) (inl whole) =
    let same = sym five ∙ whole.each_word in cc
unsized_words words first number processors tasks events five none (Draw axis window) (inr part) =
    let same = sym five ∙ part.each_word in cc
unsized_words words first number processors tasks events five none (Chrome start) (inl alone) = let same = sym five ∙ alone.each_word in cc
unsized_words words first number processors tasks events five none (Chrome start) (inr given) = let same = sym five ∙ given.each_word in cc
unsized_words words first number processors tasks events five none Lost spoken = let same = sym five ∙ spoken in cc
unsized_words words first number processors tasks events five none (Show window) (inl whole) =
    let same = sym five ∙ whole.each_word in cc
unsized_words words first number processors tasks events five none (Show window) (inr part) =
    let same = sym five ∙ part.each_word in cc
unsized_words words first number processors tasks events five none (Make sizes) spoken =
    no_sizes _ words number processors tasks events first five none sizes spoken
unsized_words words first number processors tasks events five none (Large sizes) spoken =
    no_sizes _ words number processors tasks events first five none sizes spoken

-- three words of which the last two say no window mean no command
no_window : (words : List (List ℕ)) (name first from to : List ℕ) → words ≡ first ∷ from ∷ to ∷ []
    → ((window : Window) → IsWindow from to window → ⊥) → (window : Window) → IsOfPart name words window → ⊥
no_window words name first from to three none window part =
    let same = sym part.each_word ∙ three in
    let begins : part.from ≡ from = cc in
    let ends : part.to ≡ to = cc in
    none window (rw (begins, ends) at part.is_window)

pub unwindowed_words : (words : List (List ℕ)) (first from to : List ℕ) → words ≡ first ∷ from ∷ to ∷ []
    → ((window : Window) → IsWindow from to window → ⊥) → (command : Command) → IsCommand words command → ⊥
unwindowed_words words first from to three none Run spoken = let same = sym three ∙ spoken in cc
unwindowed_words words first from to three none Check spoken = let same = sym three ∙ spoken in cc
unwindowed_words words first from to three none Weak spoken = let same = sym three ∙ spoken in cc
unwindowed_words words first from to three none Nested spoken = let same = sym three ∙ spoken in cc
unwindowed_words words first from to three none Jobs spoken = let same = sym three ∙ spoken in cc
unwindowed_words words first from to three none WeakJobs spoken = let same = sym three ∙ spoken in cc
unwindowed_words words first from to three none RunJobs spoken = let same = sym three ∙ spoken in cc
unwindowed_words words first from to three none (Watch observers) spoken = let same = sym three ∙ spoken.each_word in cc
unwindowed_words words first from to three none Import spoken = let same = sym three ∙ spoken in cc
unwindowed_words words first from to three none ImportJobs spoken = let same = sym three ∙ spoken in cc
unwindowed_words words first from to three none (Draw axis window) (inl whole) = let same = sym three ∙ whole.each_word in cc
unwindowed_words words first from to three none (Draw axis window) (inr part) =
    no_window words (word_of axis) first from to three none window part
unwindowed_words words first from to three none (Chrome start) (inl alone) = let same = sym three ∙ alone.each_word in cc
unwindowed_words words first from to three none (Chrome start) (inr given) = let same = sym three ∙ given.each_word in cc
unwindowed_words words first from to three none Lost spoken = let same = sym three ∙ spoken in cc
unwindowed_words words first from to three none (Show window) (inl whole) = let same = sym three ∙ whole.each_word in cc
unwindowed_words words first from to three none (Show window) (inr part) =
    no_window words (codes "show") first from to three none window part
unwindowed_words words first from to three none (Make sizes) spoken = let same = sym three ∙ spoken.each_word in cc
unwindowed_words words first from to three none (Large sizes) spoken = let same = sym three ∙ spoken.each_word in cc

-- two words, each by its place
pub two_words : (words : List (String Global)) (a b : String Global) → 2 ≤ length words → length words < 3 → a ≡ get_or words 0 a
    → b ≡ get_or words 1 b → map (string_bytes {Z = Global}) words ≡ string_bytes a ∷ string_bytes b ∷ []
two_words (v ∷ w ∷ []) a b least most one two = rw (one, two) refl
two_words [] a b least most one two = absurd (omega arith)
two_words (v ∷ []) a b least most one two = absurd (omega arith)
two_words (v ∷ w ∷ u ∷ more) a b least most one two = absurd (omega arith)

-- three words, each by its place
pub three_words : (words : List (String Global)) (a b c : String Global) → 3 ≤ length words → length words < 4 → a ≡ get_or words 0 a
    → b ≡ get_or words 1 b → c ≡ get_or words 2 c → map (string_bytes {Z = Global}) words ≡ string_bytes a ∷ string_bytes b ∷ string_bytes c
    ∷ []
three_words (v ∷ w ∷ x ∷ []) a b c least most one two three = rw (one, two, three) refl
three_words [] a b c least most one two three = absurd (omega arith)
three_words (v ∷ []) a b c least most one two three = absurd (omega arith)
three_words (v ∷ w ∷ []) a b c least most one two three = absurd (omega arith)
three_words (v ∷ w ∷ x ∷ u ∷ more) a b c least most one two three = absurd (omega arith)

-- five words, each by its place
pub five_words : (words : List (String Global)) (a b c d e : String Global) → 5 ≤ length words → length words < 6 → a ≡ get_or words 0 a
    → b ≡ get_or words 1 b → c ≡ get_or words 2 c → d ≡ get_or words 3 d → e ≡ get_or words 4 e
    → map (string_bytes {Z = Global}) words ≡ string_bytes a ∷ string_bytes b ∷ string_bytes c ∷ string_bytes d ∷ string_bytes e ∷ []
five_words (v ∷ w ∷ x ∷ y ∷ z ∷ []) a b c d e least most one two three four five = rw (one, two, three, four, five) refl
five_words [] a b c d e least most one two three four five = absurd (omega arith)
five_words (v ∷ []) a b c d e least most one two three four five = absurd (omega arith)
five_words (v ∷ w ∷ []) a b c d e least most one two three four five = absurd (omega arith)
five_words (v ∷ w ∷ x ∷ []) a b c d e least most one two three four five = absurd (omega arith)
five_words (v ∷ w ∷ x ∷ y ∷ []) a b c d e least most one two three four five = absurd (omega arith)
five_words (v ∷ w ∷ x ∷ y ∷ z ∷ u ∷ more) a b c d e least most one two three four five = absurd (omega arith)
