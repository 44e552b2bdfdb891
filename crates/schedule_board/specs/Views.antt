-- The rule of a board: what each observer has seen is a prefix of the published entries.
use Rattle.std.specs.Prelude.{◌≡◌, ℕ, true, false, List, [], ◌∷◌, ◌++◌, length}
use mathlib.Core.Option.{some}
use mathlib.Core.List.{IsPrefix}
use lib.ListN.{get_elem?}
use Rattle.schedule_board.specs.declared.shown.Shown.{Shown}
use Rattle.schedule_board.specs.declared.view.ObserverView.{ObserverView}

-- an observer that knows its board has seen a prefix of what is published on it
pub record IsOfShown (x : Shown) (v : ObserverView) : Type 0 where
  pub processors : v.processors ≡ x.picture.occupants.processors
  pub book : v.seen.book ≡ x.reached.book
  pub seen : IsPrefix v.seen.log x.reached.log

abbrev pub HasSeenPrefix : Shown → ObserverView → Type 0
HasSeenPrefix x v = v.bound ≡ true → IsOfShown x v

-- the rule, over what is shown and over what each observer knows
abbrev pub KeepsBoard : Shown → List ObserverView → Type 0
KeepsBoard x views =
    (seat : ℕ) (v : ObserverView) → get_elem? views seat ≡ some v → HasSeenPrefix x v

-- an observer that knows nothing
abbrev pub new_observer : ObserverView
new_observer = record {
  bound = false;
  processors = 0;
  seen = record {
    marker = record {};
    book = record { number = 0; log_name = 0; cells_name = 0 };
    names = [];
    log = [];
  };
  looks = [];
}

-- what an observer knows after it looked
abbrev pub looked : ObserverView → Shown → ObserverView
looked v y = record {
  bound = true;
  processors = y.picture.occupants.processors;
  seen = y.reached;
  looks = v.looks ++ length y.reached.log ∷ [];
}

-- a look sees what is published then
abbrev pub Sees : ObserverView → Shown → Shown → ObserverView → Type 0
Sees v x y w = (w ≡ looked v y) × HasSeenPrefix y v

-- what is shown goes on, on the same board
pub record ShownGoesOn (x y : Shown) : Type 0 where
  pub processors : y.picture.occupants.processors ≡ x.picture.occupants.processors
  pub book : y.reached.book ≡ x.reached.book
  pub grows : IsPrefix x.reached.log y.reached.log

-- who has this view knows what is shown
pub record KnowsShown (x : Shown) (v : ObserverView) : Type 0 where
  pub bound : v.bound ≡ true
  pub processors : v.processors ≡ x.picture.occupants.processors
  pub seen : v.seen ≡ x.reached

-- an observer that was told what another one knows; its looks stay its own
abbrev pub told_of : ObserverView → ObserverView → ObserverView
told_of v w = record { bound = w.bound; processors = w.processors; seen = w.seen; looks = v.looks }
