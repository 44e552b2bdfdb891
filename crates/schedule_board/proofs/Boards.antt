-- The steps of the board keep its rule.
use Rattle.std.proofs.Common.{◌≡◌, ◌≢◌, ℕ, List, [], ◌∷◌, ◌++◌, set, refl, sym, ◌∙◌, subst, ⊎_elim}
use mathlib.Core.Option.{some}
use lib.ListN.{get_elem?}
use Rattle.left_right.specs.Register.{Admits, TurnsAt, Forks, Merges}
use Rattle.atomic_table.proofs.Lists.{at_set, at_snoc}
use Rattle.schedule_board.specs.declared.shown.Shown.{Shown}
use Rattle.schedule_board.specs.declared.view.ObserverView.{ObserverView}
use Rattle.schedule_board.specs.Views.{KeepsBoard, HasSeenPrefix, Sees, new_observer, told_of, looked, ShownGoesOn}
use Rattle.schedule_board.proofs.Prefixes.{prefix_self, prefix_trans}

pub new_fits : (x : Shown) → HasSeenPrefix x new_observer
new_fits x e = absurd cc

all_set : (x : Shown) (views : List ObserverView) (seat : ℕ) (w : ObserverView) → HasSeenPrefix x w → KeepsBoard x views
    → KeepsBoard x (set views seat w)
all_set x views seat w fits h j u e = ⊎_elim (λ (t : (j ≡ seat) × (w ≡ u)). subst (HasSeenPrefix x) t.1 fits)
    (λ (t : (j ≢ seat) × (get_elem? views j ≡ some u)). h j u t.1) (at_set views seat j w u e)

all_snoc : (x : Shown) (views : List ObserverView) (w : ObserverView) → HasSeenPrefix x w → KeepsBoard x views
    → KeepsBoard x (views ++ w ∷ [])
all_snoc x views w fits h j u e = ⊎_elim (h j u) (λ (same : w ≡ u). subst (HasSeenPrefix x) same fits) (at_snoc views w u j e)

fits_on : (x y : Shown) (v : ObserverView) → ShownGoesOn x y → HasSeenPrefix x v → HasSeenPrefix y v
fits_on x y v on fits e = record {
  processors = (fits e).processors ∙ sym on.processors;
  book = (fits e).book ∙ sym on.book;
  seen = prefix_trans v.seen.log x.reached.log y.reached.log (fits e).seen on.grows;
}

keeps_on : (x y : Shown) (views : List ObserverView) → ShownGoesOn x y → KeepsBoard x views → KeepsBoard y views
keeps_on x y views on h j u e = fits_on x y u on (h j u e)

pub stays : (x : Shown) → ShownGoesOn x x
stays x = record { processors = refl; book = refl; grows = prefix_self x.reached.log }

pub turns : (seat : ℕ) (v : ObserverView) (x y : Shown) → ShownGoesOn x y → TurnsAt KeepsBoard seat v x y Sees
turns seat v x y on views h at = (
  looked v y,
  all_set y views seat (looked v y) (λ e. record { processors = refl; book = refl; seen = prefix_self y.reached.log })
      (keeps_on x y views on h),
  (refl, fits_on x y v on (h seat v at)),
)

pub admits : Admits KeepsBoard new_observer
admits x views h = all_snoc x views new_observer (new_fits x) h

pub forks : (seat : ℕ) (v : ObserverView) → Forks KeepsBoard seat v v v
forks seat v x views h at = all_snoc x (set views seat v) v (h seat v at) (all_set x views seat v (h seat v at) h)

pub merges : (seat : ℕ) (v : ObserverView) (other : ℕ) (w : ObserverView) → Merges KeepsBoard seat v other w (told_of v w) new_observer
merges seat v other w x views h at apart there =
    let fits : HasSeenPrefix x w = ⊎_elim (λ (t : (other ≡ seat) × (told_of v w ≡ w)). absurd (apart t.0))
    (λ (t : (other ≢ seat) × (get_elem? views other ≡ some w)). h other w t.1) (at_set views seat other (told_of v w) w there) in
    let told : HasSeenPrefix x (told_of v w) = λ e.
    record { processors = (fits e).processors; book = (fits e).book; seen = (fits e).seen } in
    all_set x (set views seat (told_of v w)) other new_observer (new_fits x) (all_set x views seat (told_of v w) told h)
