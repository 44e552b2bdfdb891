use Rattle.std.proofs.Common.{◌≡◌, ℕ, zero, suc, ◌⊎◌, List, Vec, Option, Result, Ok, Err, inl, inr, ap, subst, refl, sym, ◌∙◌}
use Rattle.std.specs.declared.alloc.Global.{Global}
use Rattle.std.specs.Prelude.{IsOk}
use Rattle.shift_io.specs.declared.whole.ReadAllFault.{ReadAllFault}
use Rattle.shift_io.specs.declared.whole.ReadAllFault.TheVariants.{ReadFault, TooLong, OutOfMemory}
use Rattle.commands.specs.declared.status.Status.{Status}
use Rattle.commands.specs.declared.status.Status.TheVariants as status
use Rattle.commands.specs.Refusal.{IsAnsweredInput}
use Rattle.commands.specs.Check.{RefusesCheck}
use Rattle.commands.specs.NestedRun.{RefusesNested}
use Rattle.commands.specs.Status.{BeforePut}
use Rattle.command_line.specs.declared.words.Command.{Command}
use Rattle.command_line.specs.declared.words.Command.TheVariants.{Run, Check, Weak, Nested, Jobs, WeakJobs, RunJobs, Watch, Import}
use Rattle.command_line.specs.declared.words.Command.TheVariants.{ImportJobs, Draw, Chrome, Lost, Show, Make, Large}
use Rattle.command_line.specs.Command.{IsCommand, Reads, Refuses, ReadsRefused}
use Rattle.command_line.proofs.CommandBytes.{one_command, read_is_expected, never_too_long, too_long_said, within_said, takes_said}
use Rattle.command_line.proofs.CommandBytes.{left_out}
use Rattle.command_line.proofs.call.run.Goals as goal

-- a failure is no answer
never_ok : (fault : ReadAllFault) → IsOk {T = Vec ℕ Global} (Err fault) → ⊥
never_ok fault ok = cc

-- there are too many bytes
abbrev IsLong : Result (Vec ℕ Global) ReadAllFault → Type 0
IsLong read = read ≡ Err TooLong

ok_is_not_long : (bytes : Vec ℕ Global) → IsLong (Ok bytes) → ⊥
ok_is_not_long bytes long = cc

read_fault_is_not_long : (fault : ReadAllFault) → fault ≡ ReadFault → IsLong (Err fault) → ⊥
read_fault_is_not_long fault is long = cc

memory_is_not_long : (fault : ReadAllFault) → fault ≡ OutOfMemory → IsLong (Err fault) → ⊥
memory_is_not_long fault is long = cc

-- the number of a status is one
most_said : (one other : ℕ) → status.TooLong one ≡ status.TooLong other → one ≡ other
most_said one other same = cc

-- ---- two statuses that differ
abbrev kind_of : Status → ℕ
kind_of status.Done = 0
kind_of status.Usage = 1
kind_of status.ReadFault = 2
kind_of (status.TooLong most) = 3
kind_of status.WriteFault = 4
kind_of status.OutOfMemory = 5
kind_of (status.Input line kind) = 6
kind_of status.Version = 7
kind_of (status.Crossing one other) = 8
kind_of (status.Invalid line defect) = 9

-- the two numbers are one
abbrev Same : ℕ → ℕ → Type 0
Same zero zero = Unit {0}
Same zero (suc other) = ⊥
Same (suc one) zero = ⊥
Same (suc one) (suc other) = Same one other

-- where the statuses are of two kinds, this is ⊥
alike : (one other : Status) → one ≡ other → Same (kind_of one) (kind_of one) → Same (kind_of one) (kind_of other)
alike one other is same = subst (λ (s : Status). Same (kind_of one) (kind_of s)) is same

-- ---- a text that is refused
-- the status is one of a text that is refused, or out of memory
abbrev IsRefusal : Status → Type 0
IsRefusal status.Done = ⊥
IsRefusal status.Usage = ⊥
IsRefusal status.ReadFault = ⊥
IsRefusal (status.TooLong most) = ⊥
IsRefusal status.WriteFault = ⊥
IsRefusal status.OutOfMemory = Unit {0}
IsRefusal (status.Input line kind) = Unit {0}
IsRefusal status.Version = Unit {0}
IsRefusal (status.Crossing one other) = Unit {0}
IsRefusal (status.Invalid line defect) = Unit {0}

input_refusal : (Cause : ℕ → ℕ → Type 0) (told : Status) → IsAnsweredInput Cause told → IsRefusal told
input_refusal Cause told answered = rw answered.answer tt

check_refusal : (read : List ℕ) (told : Status) → RefusesCheck read told → IsRefusal told
check_refusal read told (inl input) = input_refusal _ told input
check_refusal read told (inr invalid) = rw invalid.answer tt

nested_refusal : (read : List ℕ) (told : Status) → RefusesNested read told → IsRefusal told
nested_refusal read told (inl input) = input_refusal _ told input
nested_refusal read told (inr (inl version)) = rw version.answer tt
nested_refusal read told (inr (inr crossing)) = rw crossing.answer tt

is_refusal : (command : Command) (read : List ℕ) (told : Status) → Refuses command read told → IsRefusal told
unfolding Refuses
is_refusal Run read told refused = input_refusal _ told refused
is_refusal Check read told refused = check_refusal read told refused
is_refusal Weak read told refused = input_refusal _ told refused
is_refusal Nested read told refused = nested_refusal read told refused
is_refusal Jobs read told refused = input_refusal _ told refused
is_refusal WeakJobs read told refused = input_refusal _ told refused
is_refusal RunJobs read told refused = input_refusal _ told refused
is_refusal (Watch observers) read told refused = input_refusal _ told refused
is_refusal Import read told refused = input_refusal _ told refused
is_refusal ImportJobs read told refused = input_refusal _ told refused
is_refusal (Draw axis window) read told refused = check_refusal read told refused
is_refusal (Chrome start) read told refused = check_refusal read told refused
is_refusal Lost read told refused = input_refusal _ told refused
is_refusal (Show window) read told refused = input_refusal _ told refused
is_refusal (Make sizes) read told refused = absurd refused
is_refusal (Large sizes) read told refused = absurd refused

refusal_told : (command : Command) (read : List ℕ) (told : Status) → Refuses command read told ⊎ (told ≡ status.OutOfMemory)
    → IsRefusal told
refusal_told command read told (inl refused) = is_refusal command read told refused
refusal_told command read told (inr memory) = rw memory tt

-- a status of another kind is none of a text that is refused: where `other` is such a one, this is ⊥
refusal_is : (command : Command) (read : List ℕ) (told other : Status) → Refuses command read told ⊎ (told ≡ status.OutOfMemory)
    → told ≡ other → IsRefusal other
refusal_is command read told other refused is = subst IsRefusal is (refusal_told command read told refused)

-- the text that was read is refused, unless memory is out
refused_said : (words : List (List ℕ)) (command : Command) (old new : Option (List ℕ)) (read seen : List ℕ) (told : Status)
    → IsCommand words command → Reads command old new read → seen ≡ read
    → Refuses command seen told ⊎ (told ≡ status.OutOfMemory) → (told ≡ status.OutOfMemory → ⊥) → ReadsRefused words old new told
refused_said words command old new read seen told spoken reads same (inl refused) some =
    record { command = command; spoken = spoken; read = read; reads = reads; refused = rw same at refused }
refused_said words command old new read seen told spoken reads same (inr memory) some = absurd (some memory)

-- what stands as it was before bytes are put does so at each status
before_put : (told : Status) (P : Type 0) → P → BeforePut told P
before_put status.Done P p = tt
before_put status.WriteFault P p = tt
before_put (status.Invalid line defect) P p = p
before_put status.Usage P p = p
before_put (status.Input line kind) P p = p
before_put status.Version P p = p
before_put (status.Crossing one other) P p = p
before_put (status.TooLong most) P p = p
before_put status.ReadFault P p = p
before_put status.OutOfMemory P p = p

pub returns-in_default : goal.returns-in_default
returns-in_default g c = record {
  done = λ is. absurd (alike status.Usage status.Done is tt);
  usage = (λ is. c.in_default.ensures, λ none. refl);
  unread = λ is. refl;
  nothing_to_read = λ command spoken nothing. refl;
  read_fault = λ is. absurd (alike status.Usage status.ReadFault is tt);
  too_long = λ most is. absurd (alike status.Usage (status.TooLong most) is tt);
  within = λ command spoken short. absurd (c.in_default.ensures command spoken);
  input = λ line kind is. absurd (alike status.Usage (status.Input line kind) is tt);
  version = λ is. absurd (alike status.Usage status.Version is tt);
  crossing = λ one other is. absurd (alike status.Usage (status.Crossing one other) is tt);
  invalid = λ line defect is. absurd (alike status.Usage (status.Invalid line defect) is tt);
  write_fault = λ is. absurd (alike status.Usage status.WriteFault is tt);
  takes = λ command spoken. absurd (c.in_default.ensures command spoken);
  complete = λ command read spoken to_read accepted calm loud. absurd (c.in_default.ensures command spoken);
  refuses = λ command read expected spoken to_read why calm. absurd (c.in_default.ensures command spoken);
  unput = refl;
}

pub returns-in-Err-ReadFault : goal.returns-in-Err-ReadFault
returns-in-Err-ReadFault g c = record {
  done = λ is. absurd (alike status.ReadFault status.Done is tt);
  usage = (λ is. absurd (alike status.ReadFault status.Usage is tt), λ none. absurd (none c.in-Some.command c.in-Some.ensures));
  unread = λ is. absurd (alike status.ReadFault status.Usage is tt);
  nothing_to_read = λ command spoken nothing. c.in-Err-ReadFault.ensures.untouched
      (rw (one_command _ c.in-Some.command command c.in-Some.ensures spoken) nothing);
  read_fault = λ is. c.in-Err-ReadFault.ensures.read_fault (ap Err c.in-Err-ReadFault.field-0-is);
  too_long = λ most is. absurd (alike status.ReadFault (status.TooLong most) is tt);
  within = λ command spoken short. within_said _ c.in-Some.command command _ _ c.in-Some.ensures spoken
      (left_out (read_fault_is_not_long _ c.in-Err-ReadFault.field-0-is) c.in-Err-ReadFault.ensures.within);
  input = λ line kind is. absurd (alike status.ReadFault (status.Input line kind) is tt);
  version = λ is. absurd (alike status.ReadFault status.Version is tt);
  crossing = λ one other is. absurd (alike status.ReadFault (status.Crossing one other) is tt);
  invalid = λ line defect is. absurd (alike status.ReadFault (status.Invalid line defect) is tt);
  write_fault = λ is. absurd (alike status.ReadFault status.WriteFault is tt);
  takes = λ command spoken. takes_said _ c.in-Some.command command _ _ c.in-Some.ensures spoken c.in-Err-ReadFault.ensures.takes;
  complete = λ command read spoken to_read accepted calm loud. absurd
      (calm (c.in-Err-ReadFault.ensures.read_fault (ap Err c.in-Err-ReadFault.field-0-is)));
  refuses = λ command read expected spoken to_read why calm. absurd
      (calm (c.in-Err-ReadFault.ensures.read_fault (ap Err c.in-Err-ReadFault.field-0-is)));
  unput = refl;
}

pub returns-in-Err-TooLong : goal.returns-in-Err-TooLong
returns-in-Err-TooLong g c = record {
  done = λ is. absurd (alike (status.TooLong c.limit_of.result) status.Done is tt);
  usage = (
    λ is. absurd (alike (status.TooLong c.limit_of.result) status.Usage is tt),
    λ none. absurd (none c.in-Some.command c.in-Some.ensures),
  );
  unread = λ is. absurd (alike (status.TooLong c.limit_of.result) status.Usage is tt);
  nothing_to_read = λ command spoken nothing. c.in-Err-TooLong.ensures.untouched
      (rw (one_command _ c.in-Some.command command c.in-Some.ensures spoken) nothing);
  read_fault = λ is. absurd (alike (status.TooLong c.limit_of.result) status.ReadFault is tt);
  too_long = λ most same command spoken.
      let found : c.limit_of.result ≡ most = most_said _ _ same in
      too_long_said _ c.in-Some.command command _ _ most c.in-Some.ensures spoken (sym found ∙ c.limit_of.ensures)
      (c.in-Err-TooLong.ensures.too_long (ap Err c.in-Err-TooLong.field-0-is));
  within = λ command spoken short. absurd (short _ refl);
  input = λ line kind is. absurd (alike (status.TooLong c.limit_of.result) (status.Input line kind) is tt);
  version = λ is. absurd (alike (status.TooLong c.limit_of.result) status.Version is tt);
  crossing = λ one other is. absurd (alike (status.TooLong c.limit_of.result) (status.Crossing one other) is tt);
  invalid = λ line defect is. absurd (alike (status.TooLong c.limit_of.result) (status.Invalid line defect) is tt);
  write_fault = λ is. absurd (alike (status.TooLong c.limit_of.result) status.WriteFault is tt);
  takes = λ command spoken. takes_said _ c.in-Some.command command _ _ c.in-Some.ensures spoken c.in-Err-TooLong.ensures.takes;
  complete = λ command read spoken to_read accepted calm loud.
      let which : c.in-Some.command ≡ command = one_command _ c.in-Some.command command c.in-Some.ensures spoken in
      let never : ⊥ = never_too_long command _ _ read to_read
      (λ nothing. never_ok c.in-Err-TooLong.field-0 (c.in-Err-TooLong.ensures.nothing (rw which nothing)))
      (rw which at (c.in-Err-TooLong.ensures.too_long (ap Err c.in-Err-TooLong.field-0-is))) in
      absurd never;
  refuses = λ command read expected spoken to_read why calm.
      let which : c.in-Some.command ≡ command = one_command _ c.in-Some.command command c.in-Some.ensures spoken in
      let never : ⊥ = never_too_long command _ _ read to_read
      (λ nothing. never_ok c.in-Err-TooLong.field-0 (c.in-Err-TooLong.ensures.nothing (rw which nothing)))
      (rw which at (c.in-Err-TooLong.ensures.too_long (ap Err c.in-Err-TooLong.field-0-is))) in
      absurd never;
  unput = refl;
}

pub returns-in-Err-OutOfMemory : goal.returns-in-Err-OutOfMemory
returns-in-Err-OutOfMemory g c = record {
  done = λ is. absurd (alike status.OutOfMemory status.Done is tt);
  usage = (λ is. absurd (alike status.OutOfMemory status.Usage is tt), λ none. absurd (none c.in-Some.command c.in-Some.ensures));
  unread = λ is. absurd (alike status.OutOfMemory status.Usage is tt);
  nothing_to_read = λ command spoken nothing. c.in-Err-OutOfMemory.ensures.untouched
      (rw (one_command _ c.in-Some.command command c.in-Some.ensures spoken) nothing);
  read_fault = λ is. absurd (alike status.OutOfMemory status.ReadFault is tt);
  too_long = λ most is. absurd (alike status.OutOfMemory (status.TooLong most) is tt);
  within = λ command spoken short. within_said _ c.in-Some.command command _ _ c.in-Some.ensures spoken
      (left_out (memory_is_not_long _ c.in-Err-OutOfMemory.field-0-is) c.in-Err-OutOfMemory.ensures.within);
  input = λ line kind is. absurd (alike status.OutOfMemory (status.Input line kind) is tt);
  version = λ is. absurd (alike status.OutOfMemory status.Version is tt);
  crossing = λ one other is. absurd (alike status.OutOfMemory (status.Crossing one other) is tt);
  invalid = λ line defect is. absurd (alike status.OutOfMemory (status.Invalid line defect) is tt);
  write_fault = λ is. absurd (alike status.OutOfMemory status.WriteFault is tt);
  takes = λ command spoken. takes_said _ c.in-Some.command command _ _ c.in-Some.ensures spoken c.in-Err-OutOfMemory.ensures.takes;
  complete = λ command read spoken to_read accepted calm loud. inr refl;
  refuses = λ command read expected spoken to_read why calm. inr refl;
  unput = refl;
}

pub returns-in-Err : goal.returns-in-Err
returns-in-Err g c = record {
  done = λ is. absurd (refusal_is c.in-Some.command _ _ status.Done c.in-Err.ensures.refused is);
  usage = (
    λ is. absurd (refusal_is c.in-Some.command _ _ status.Usage c.in-Err.ensures.refused is),
    λ none. absurd (none c.in-Some.command c.in-Some.ensures),
  );
  unread = λ is. absurd (refusal_is c.in-Some.command _ _ status.Usage c.in-Err.ensures.refused is);
  nothing_to_read = λ command spoken nothing. c.in-Ok.ensures.untouched
      (rw (one_command _ c.in-Some.command command c.in-Some.ensures spoken) nothing);
  read_fault = λ is. absurd (refusal_is c.in-Some.command _ _ status.ReadFault c.in-Err.ensures.refused is);
  too_long = λ most is. absurd (refusal_is c.in-Some.command _ _ (status.TooLong most) c.in-Err.ensures.refused is);
  within = λ command spoken short. within_said _ c.in-Some.command command _ _ c.in-Some.ensures spoken
      (left_out (ok_is_not_long _) c.in-Ok.ensures.within);
  input = λ line kind is. refused_said _ c.in-Some.command _ _ _ _ _ c.in-Some.ensures c.in-Ok.ensures.reads c.deref.ensures.value
      c.in-Err.ensures.refused (λ memory. alike (status.Input line kind) status.OutOfMemory (sym is ∙ memory) tt);
  version = λ is. refused_said _ c.in-Some.command _ _ _ _ _ c.in-Some.ensures c.in-Ok.ensures.reads c.deref.ensures.value
      c.in-Err.ensures.refused (λ memory. alike status.Version status.OutOfMemory (sym is ∙ memory) tt);
  crossing = λ one other is. refused_said _ c.in-Some.command _ _ _ _ _ c.in-Some.ensures c.in-Ok.ensures.reads c.deref.ensures.value
      c.in-Err.ensures.refused (λ memory. alike (status.Crossing one other) status.OutOfMemory (sym is ∙ memory) tt);
  invalid = λ line defect is. refused_said _ c.in-Some.command _ _ _ _ _ c.in-Some.ensures c.in-Ok.ensures.reads c.deref.ensures.value
      c.in-Err.ensures.refused (λ memory. alike (status.Invalid line defect) status.OutOfMemory (sym is ∙ memory) tt);
  write_fault = λ is. absurd (refusal_is c.in-Some.command _ _ status.WriteFault c.in-Err.ensures.refused is);
  takes = λ command spoken. takes_said _ c.in-Some.command command _ _ c.in-Some.ensures spoken c.in-Ok.ensures.takes;
  complete = λ command read spoken to_read accepted calm loud.
      let which : c.in-Some.command ≡ command = one_command _ c.in-Some.command command c.in-Some.ensures spoken in
      let same = read_is_expected command _ _ read _ to_read (rw which at c.in-Ok.ensures.reads) in
      inr (c.in-Err.ensures.accepts (rw (c.deref.ensures.value, which, same) accepted));
  refuses = λ command read expected spoken to_read why calm.
      let which : c.in-Some.command ≡ command = one_command _ c.in-Some.command command c.in-Some.ensures spoken in
      let same = read_is_expected command _ _ read _ to_read (rw which at c.in-Ok.ensures.reads) in
      c.in-Err.ensures.refuses expected (rw (c.deref.ensures.value, which, same) why);
  unput = before_put _ _ refl;
}

pub returns-clause-done : goal.returns-clause-done
returns-clause-done g c = λ is. absurd (alike status.WriteFault status.Done is tt)

pub returns-clause-usage : goal.returns-clause-usage
returns-clause-usage g c =
    (λ is. absurd (alike status.WriteFault status.Usage is tt), λ none. absurd (none c.in-Some.command c.in-Some.ensures))

pub returns-clause-unread : goal.returns-clause-unread
returns-clause-unread g c = λ is. absurd (alike status.WriteFault status.Usage is tt)

pub returns-clause-nothing_to_read : goal.returns-clause-nothing_to_read
returns-clause-nothing_to_read g c = λ command spoken nothing. c.in-Ok.ensures.untouched
    (rw (one_command _ c.in-Some.command command c.in-Some.ensures spoken) nothing)

pub returns-clause-read_fault : goal.returns-clause-read_fault
returns-clause-read_fault g c = λ is. absurd (alike status.WriteFault status.ReadFault is tt)

pub returns-clause-too_long : goal.returns-clause-too_long
returns-clause-too_long g c = λ most is. absurd (alike status.WriteFault (status.TooLong most) is tt)

pub returns-clause-input : goal.returns-clause-input
returns-clause-input g c = λ line kind is. absurd (alike status.WriteFault (status.Input line kind) is tt)

pub returns-clause-version : goal.returns-clause-version
returns-clause-version g c = λ is. absurd (alike status.WriteFault status.Version is tt)

pub returns-clause-crossing : goal.returns-clause-crossing
returns-clause-crossing g c = λ one other is. absurd (alike status.WriteFault (status.Crossing one other) is tt)

pub returns-clause-invalid : goal.returns-clause-invalid
returns-clause-invalid g c = λ line defect is. absurd (alike status.WriteFault (status.Invalid line defect) is tt)

pub returns-clause-unput : goal.returns-clause-unput
returns-clause-unput g c = tt

pub returns-in-Ok-put_all-clause-usage : goal.returns-in-Ok-put_all-clause-usage
returns-in-Ok-put_all-clause-usage g c =
    (λ is. absurd (alike status.Done status.Usage is tt), λ none. absurd (none c.in-Some.command c.in-Some.ensures))

pub returns-in-Ok-put_all-clause-unread : goal.returns-in-Ok-put_all-clause-unread
returns-in-Ok-put_all-clause-unread g c = λ is. absurd (alike status.Done status.Usage is tt)

pub returns-in-Ok-put_all-clause-nothing_to_read : goal.returns-in-Ok-put_all-clause-nothing_to_read
returns-in-Ok-put_all-clause-nothing_to_read g c = λ command spoken nothing. c.in-Ok.ensures.untouched
    (rw (one_command _ c.in-Some.command command c.in-Some.ensures spoken) nothing)

pub returns-in-Ok-put_all-clause-read_fault : goal.returns-in-Ok-put_all-clause-read_fault
returns-in-Ok-put_all-clause-read_fault g c = λ is. absurd (alike status.Done status.ReadFault is tt)

pub returns-in-Ok-put_all-clause-too_long : goal.returns-in-Ok-put_all-clause-too_long
returns-in-Ok-put_all-clause-too_long g c = λ most is. absurd (alike status.Done (status.TooLong most) is tt)

pub returns-in-Ok-put_all-clause-input : goal.returns-in-Ok-put_all-clause-input
returns-in-Ok-put_all-clause-input g c = λ line kind is. absurd (alike status.Done (status.Input line kind) is tt)

pub returns-in-Ok-put_all-clause-version : goal.returns-in-Ok-put_all-clause-version
returns-in-Ok-put_all-clause-version g c = λ is. absurd (alike status.Done status.Version is tt)

pub returns-in-Ok-put_all-clause-crossing : goal.returns-in-Ok-put_all-clause-crossing
returns-in-Ok-put_all-clause-crossing g c = λ one other is. absurd (alike status.Done (status.Crossing one other) is tt)

pub returns-in-Ok-put_all-clause-invalid : goal.returns-in-Ok-put_all-clause-invalid
returns-in-Ok-put_all-clause-invalid g c = λ line defect is. absurd (alike status.Done (status.Invalid line defect) is tt)

pub returns-in-Ok-put_all-clause-write_fault : goal.returns-in-Ok-put_all-clause-write_fault
returns-in-Ok-put_all-clause-write_fault g c = λ is. absurd (alike status.Done status.WriteFault is tt)

pub returns-in-Ok-put_all-clause-complete : goal.returns-in-Ok-put_all-clause-complete
returns-in-Ok-put_all-clause-complete g c = λ command read spoken to_read accepted calm loud. inl refl

pub returns-in-Ok-put_all-clause-unput : goal.returns-in-Ok-put_all-clause-unput
returns-in-Ok-put_all-clause-unput g c = tt

pub returns-clause-within : goal.returns-clause-within
returns-clause-within g c = λ command spoken short. within_said _ c.in-Some.command command _ _ c.in-Some.ensures spoken
    (left_out (ok_is_not_long _) c.in-Ok.ensures.within)

pub returns-clause-takes : goal.returns-clause-takes
returns-clause-takes g c = λ command spoken. takes_said _ c.in-Some.command command _ _ c.in-Some.ensures spoken c.in-Ok.ensures.takes

pub returns-clause-refuses : goal.returns-clause-refuses
returns-clause-refuses g c = λ command read expected spoken to_read why calm.
    let which : c.in-Some.command ≡ command = one_command _ c.in-Some.command command c.in-Some.ensures spoken in
    let same = read_is_expected command _ _ read _ to_read (rw which at c.in-Ok.ensures.reads) in
    let never : ⊥ = c.in-Ok-text_made.ensures.refuses expected (rw (c.deref.ensures.value, which, same) why) in
    absurd never

pub returns-in-Ok-put_all-clause-within : goal.returns-in-Ok-put_all-clause-within
returns-in-Ok-put_all-clause-within g c = λ command spoken short. within_said _ c.in-Some.command command _ _ c.in-Some.ensures spoken
    (left_out (ok_is_not_long _) c.in-Ok.ensures.within)

pub returns-in-Ok-put_all-clause-takes : goal.returns-in-Ok-put_all-clause-takes
returns-in-Ok-put_all-clause-takes g c = λ command spoken. takes_said _ c.in-Some.command command _ _ c.in-Some.ensures spoken
    c.in-Ok.ensures.takes

pub returns-in-Ok-put_all-clause-refuses : goal.returns-in-Ok-put_all-clause-refuses
returns-in-Ok-put_all-clause-refuses g c = λ command read expected spoken to_read why calm.
    let which : c.in-Some.command ≡ command = one_command _ c.in-Some.command command c.in-Some.ensures spoken in
    let same = read_is_expected command _ _ read _ to_read (rw which at c.in-Ok.ensures.reads) in
    let never : ⊥ = c.in-Ok-text_made.ensures.refuses expected (rw (c.deref.ensures.value, which, same) why) in
    absurd never
