-- The orders to each processor, as a core keeps them. A row has the orders to one processor so far,
-- the task that the processor holds after them, and the room for further orders; a row follows an
-- event by the orders of that event, and then holds the occupant. A row holds its occupant already
-- where the event does not touch its processor.
use Rattle.std.specs.Prelude.{◌≡◌, ◌≢◌, ℕ, ◌+◌, ◌^◌, ◌<◌, ◌≤◌, Bool, All, List, [], ◌∷◌, ◌++◌}
use Rattle.std.specs.Prelude.{length, get_or, Option, None, ◌&&◌, not, filter, Contains, ◌⊎◌}
use Rattle.std.specs.List.{range_with_len}
use Rattle.std.specs.Option.{ForSome}
use Rattle.task_set.specs.declared.event.Event.{Event}
use Rattle.task_set.specs.declared.event.Event.TheVariants.{Tick}
use Rattle.task_set.specs.declared.order.Order.{Order}
use Rattle.task_set.specs.declared.order.Order.TheVariants.{Stop}
use Rattle.strong_apa.specs.State.{State, IsState, is_task, task_count, task_on}
use Rattle.strong_apa.specs.Dispatch.{change_orders, tick_orders, release_of}

-- the orders to one processor so far, the task that it holds after them, and for how many more
-- there is room
pub record RowData : Type 0 where
  pub orders : List Order
  pub held : Option ℕ
  pub room : ℕ

-- no orders, nobody held, and no room
abbrev pub empty_row : RowData
empty_row = record { orders = []; held = None; room = 0 }

-- the row of a processor
abbrev pub row_at : List RowData → ℕ → RowData
row_at rows p = get_or rows p empty_row

-- each row has room for so many orders
abbrev pub HasRoomInEach : ℕ → List RowData → Type 0
HasRoomInEach room rows = (p : ℕ) → p < length rows → room ≤ (row_at rows p).room

-- the row says what it said, and has no less room
pub record OnlyGrew (old new : RowData) : Type 0 where
  pub orders : new.orders ≡ old.orders
  pub held : new.held ≡ old.held
  pub room : old.room ≤ new.room

-- each row says what it said, and has no less room
pub record RowsOnlyGrew (old new : List RowData) : Type 0 where
  pub count : length new ≡ length old
  pub each : (p : ℕ) → p < length old → OnlyGrew (row_at old p) (row_at new p)

-- t came: it is the occupant now, and was not held before
abbrev pub came : ℕ → Option ℕ → Option ℕ → Bool
came t held occupant = is_task t occupant && not (is_task t held)

-- how often each task was taken becomes what `after` says of it
pub record NumbersBecome (after : ℕ → ℕ → ℕ) (old new : List ℕ) : Type 0 where
  pub count : length new ≡ length old
  pub each : (t d : ℕ) → t < length old → get_or new t d ≡ after t (get_or old t d)

-- the task that is held is released, if one is, and nobody is held
pub record RowReleases (old new : RowData) : Type 0 where
  pub orders : new.orders ≡ old.orders ++ release_of old.held
  pub held : new.held ≡ None
  pub room : old.room ≤ new.room + 1

-- the row has room for two orders, and this occupant was taken fewer times than a take can count
pub record CanChange (row : RowData) (takes : ℕ → ℕ) (occupant : Option ℕ) : Type 0 where
  pub room : 2 ≤ row.room
  pub small : ForSome occupant (λ t. takes t < 2 ^ 31)

-- the row changes to this occupant by a release and a take, with these numbers of takes so far; a
-- row that holds the occupant already stays as it was
pub record RowChanges (old : RowData) (takes : ℕ → ℕ) (occupant : Option ℕ)
    (new : RowData) : Type 0 where
  pub orders : new.orders ≡ old.orders ++ change_orders takes old.held occupant
  pub held : new.held ≡ occupant
  pub room : old.room ≤ new.room + 2
  pub kept : old.held ≡ occupant → new ≡ old

-- the row gives the task that is held these units, if one is held
pub record RowRuns (old : RowData) (units : ℕ) (new : RowData) : Type 0 where
  pub orders : new.orders ≡ old.orders ++ tick_orders (Tick units) old.held
  pub held : new.held ≡ old.held
  pub room : old.room ≤ new.room + 1

-- each row gives the task that is held these units
pub record RowsRun (old : List RowData) (units : ℕ) (new : List RowData) : Type 0 where
  pub count : length new ≡ length old
  pub each : (p : ℕ) → p < length old → RowRuns (row_at old p) units (row_at new p)

-- each processor of the chain is one of the links, and may stand in it twice; the numbers of takes
-- are those of the tasks of the links; and each row can change to its occupant where it does not
-- hold it yet
pub record CanFollow (chain : List ℕ) (links : State) (rows : List RowData)
    (takes : List ℕ) : Type 0 where
  pub state : IsState links
  pub below : All (λ p. p < links.processors) chain
  pub one_each : length rows ≡ links.processors
  pub number_each : length takes ≡ task_count links
  pub each : (p : ℕ) → p < links.processors → (row_at rows p).held ≢ task_on links p
      → CanChange (row_at rows p) (λ t. get_or takes t 0) (task_on links p)

-- the row of each processor outside the chain holds the occupant
abbrev pub HoldOutside : List ℕ → List RowData → State → Type 0
HoldOutside chain rows links =
    (p : ℕ) → p < length rows → (Contains chain p → ⊥) → (row_at rows p).held ≡ task_on links p

-- the processors to which t came between two tables of rows
abbrev pub came_between : List RowData → List RowData → ℕ → List ℕ
came_between old new t =
    filter (λ p. came t (row_at old p).held (row_at new p).held) (range_with_len 0 (length old))

-- the row of a processor of the chain changes to its occupant, and any other is as it was
abbrev pub RowChangesIn : List ℕ → State → (ℕ → ℕ) → ℕ → RowData → RowData → Type 0
RowChangesIn chain links takes p old new = (Contains chain p
    × RowChanges old takes (task_on links p) new) ⊎ ((Contains chain p → ⊥) × (new ≡ old))

-- the rows of a chain change to their occupants, and the numbers of takes count on
pub record RowsChange (chain : List ℕ) (links : State) (old : List RowData) (takes : List ℕ)
    (new : List RowData) (counted : List ℕ) : Type 0 where
  pub count : length new ≡ length old
  pub each : (p : ℕ) → RowChangesIn chain links (λ t. get_or takes t 0) p (row_at old p)
      (row_at new p)
  pub takes_more : NumbersBecome (λ t n. n + length (came_between old new t)) takes counted

-- the row follows an event after which this is the occupant, with these numbers of takes before it
pub record RowFollows (old : RowData) (takes : ℕ → ℕ) (occupant : Option ℕ) (event : Event)
    (new : RowData) : Type 0 where
  pub orders : new.orders ≡ old.orders ++ change_orders takes old.held occupant
      ++ tick_orders event old.held
  pub held : new.held ≡ occupant
  pub room : old.room ≤ new.room + 2

-- each row follows an event after which these are the links
pub record RowsFollow (old : List RowData) (takes : ℕ → ℕ) (links : State) (event : Event)
    (new : List RowData) : Type 0 where
  pub count : length new ≡ length old
  pub each : (p : ℕ) → p < length old
      → RowFollows (row_at old p) takes (task_on links p) event (row_at new p)

-- the processors below n to which t came
abbrev pub came_below : List RowData → State → ℕ → ℕ → List ℕ
came_below rows links n t =
    filter (λ p. came t (row_at rows p).held (task_on links p)) (range_with_len 0 n)

-- the row ends: its processor releases whom it holds, and stops
abbrev pub RowCloses : RowData → RowData → Type 0
RowCloses old new = new.orders ≡ old.orders ++ release_of old.held ++ Stop ∷ []

-- each row ends
pub record RowsClose (old new : List RowData) : Type 0 where
  pub count : length new ≡ length old
  pub each : (p : ℕ) → p < length old → RowCloses (row_at old p) (row_at new p)
