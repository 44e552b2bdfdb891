-- Steps of a relation over the items of a list, one after another.
use Rattle.std.proofs.Common.{List, [], ◌∷◌, ◌++◌, refl, sym, subst}
use Rattle.std.specs.List.{FoldsTo}

module _ {P A : Type 0} (R : P → A → P → Type 0) where
  -- the steps over some items, and then those over more
  pub folds_append : (p : P) (xs ys : List A) (q r : P) → FoldsTo R p xs q → FoldsTo R q ys r
      → FoldsTo R p (xs ++ ys) r
  folds_append p [] ys q r same rest = subst (λ (j : P). FoldsTo R j ys r) (sym same) rest
  folds_append p (x ∷ xs) ys q r steps rest =
      (steps.0, steps.1, folds_append steps.0 xs ys q r steps.2 rest)

  -- where the steps over the first items lead
  pub folds_parts : (p : P) (xs ys : List A) (r : P) → FoldsTo R p (xs ++ ys) r
      → (q : P) × FoldsTo R p xs q × FoldsTo R q ys r
  folds_parts p [] ys r steps = (p, refl, steps)
  folds_parts p (x ∷ xs) ys r steps =
      let more = folds_parts steps.0 xs ys r steps.2 in
      (more.0, (steps.0, steps.1, more.1), more.2)
