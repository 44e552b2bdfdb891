-- Bars. At each moment of a window a picture shows a mark of a thread, or none. A bar is a longest
-- stretch of moments at which one mark is shown.
use Rattle.std.specs.Prelude.{◌≡◌, ◌≢◌, ℕ, ◌-◌, ◌<◌, ◌≤◌, ◌⊎◌, List, Option, Some}
use Rattle.std.specs.List.{All, Contains}
use Rattle.trace_bars.specs.Marks.{mark_of}
use Rattle.trace_bars.specs.Sights.{Recording, IsSightsAt, sight_of}
use Rattle.trace_bars.specs.declared.mark.Bar.{Bar}
use Rattle.trace_bars.specs.declared.mark.Kind.{Kind}
use Rattle.trace_bars.specs.declared.mark.Mark.{Mark}
use Rattle.trace_bars.specs.declared.sight.Sight.{Sight}

-- bars of this kind show this mark of the thread at the moment x, or none
pub record Shows (trace : Recording) (kind : Kind) (t x : ℕ) (mark : Option Mark) : Type 0 where
  pub sights : List Sight
  pub are : IsSightsAt trace x sights
  pub is : mark ≡ mark_of kind (sight_of sights t)

-- in what follows `Shown t x mark` says which mark is shown of the thread t at the moment x, if one
-- is another mark than this one is shown, or none
pub record IsOther (Shown : ℕ → ℕ → Option Mark → Type 0) (t x : ℕ) (mark : Mark) : Type 0 where
  pub other : Option Mark
  pub shown : Shown t x other
  pub differs : other ≢ Some mark

-- at the moment x a bar may begin: the window does, or the mark was not shown before
abbrev pub BeginsBar : (ℕ → ℕ → Option Mark → Type 0) → ℕ → ℕ → ℕ → Mark → Type 0
BeginsBar Shown first t x mark = (x ≡ first) ⊎ IsOther Shown t (x - 1) mark

-- a bar of a window: a longest stretch of moments at which its mark is shown
pub record IsBar (Shown : ℕ → ℕ → Option Mark → Type 0) (first last : ℕ) (bar : Bar) : Type 0 where
  pub some : bar.from < bar.to
  pub from : first ≤ bar.from
  pub to : bar.to ≤ last
  pub throughout : (x : ℕ) → bar.from ≤ x → x < bar.to → Shown bar.thread x (Some bar.mark)
  pub begins : BeginsBar Shown first bar.thread bar.from bar.mark
  pub ends : (bar.to ≡ last) ⊎ IsOther Shown bar.thread bar.to bar.mark

-- a bar shows the mark of the thread at the moment x
pub record HasBar (bars : List Bar) (t x : ℕ) (mark : Mark) : Type 0 where
  pub bar : Bar
  pub is : Contains bars bar
  pub thread : bar.thread ≡ t
  pub same : bar.mark ≡ mark
  pub from : bar.from ≤ x
  pub to : x < bar.to

-- a mark, or none, is shown of the thread at the moment x, and where it is one a bar shows it
pub record IsDrawn (Shown : ℕ → ℕ → Option Mark → Type 0) (bars : List Bar) (t x : ℕ) : Type 0 where
  pub mark : Option Mark
  pub shown : Shown t x mark
  pub bar : (what : Mark) → mark ≡ Some what → HasBar bars t x what

-- the bars of so many threads in a window: each is one, and at each moment each mark that is shown
-- has its bar
pub record AreBars (Shown : ℕ → ℕ → Option Mark → Type 0) (threads first last : ℕ)
    (bars : List Bar) : Type 0 where
  pub each : All (IsBar Shown first last) bars
  pub all : (t x : ℕ) → t < threads → first ≤ x → x < last → IsDrawn Shown bars t x
