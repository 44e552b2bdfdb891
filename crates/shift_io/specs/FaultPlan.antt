-- A stream in memory numbers its calls from 0, and fails at those that a test asks for.
use Rattle.std.specs.Prelude.{ℕ, List}
use Rattle.shift_io.specs.Causes.{count_after}

-- the numbers of the calls that are to fail, the number of the next call, and how many failed
pub record FaultPlanView : Type 0 where
  pub fails : List ℕ
  pub call : ℕ
  pub faults : ℕ

-- the plan after a call that went well: the next number is up
abbrev pub plan_after_call : FaultPlanView → FaultPlanView
plan_after_call plan = record plan { call = count_after plan.call }

-- the plan after a call that failed: the next number is up, and there is one fault more
abbrev pub plan_after_fault : FaultPlanView → FaultPlanView
plan_after_fault plan =
    record plan { call = count_after plan.call; faults = count_after plan.faults }
