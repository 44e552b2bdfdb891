-- The next moment at which something is to be done, task by task.
use Rattle.std.proofs.Common.{◌≡◌, ◌⊎◌, ℕ, ◌+◌, ◌<◌, ◌≤◌, List, [], ◌∷◌, length, sym, ◌∙◌, subst, inl, inr, arith}
use Rattle.std.proofs.lemmas.Bool.{cases_eq}
use Rattle.strong_apa.specs.State.{State}
use Rattle.job_release.specs.Driving.{IsNotAfter, IsDueAt, IsEarlier, job_row_at}
use Rattle.job_release.specs.declared.row.JobRow.{JobRow}

-- some row, where there is one
pub some_row : (rows : List JobRow) (t : ℕ) → t < length rows → JobRow
some_row [] t within = absurd (omega arith)
some_row (row ∷ rows) t within = row

module _ (links : State) (moment next earlier : ℕ) where
  sooner : (u : ℕ) (row : JobRow) → earlier ≤ next → IsNotAfter links moment next u row → IsNotAfter links moment earlier u row
  sooner u row le old = record {
    release = λ within. let release = old.release within in omega arith;
    finish = λ linked. let finish = old.finish linked in omega arith;
  }

  pub not_after_earlier : (rows : List JobRow) (t : ℕ)
      → ((u : ℕ) (d : JobRow) → u < t → IsNotAfter links moment next u (job_row_at rows u d))
      → ((d : JobRow) → IsEarlier links moment next t (job_row_at rows t d) earlier) → (u : ℕ) (d : JobRow) → u < t + 1
      → IsNotAfter links moment earlier u (job_row_at rows u d)
  not_after_earlier rows t old one u d below = elim (cases_eq u t) [
    | inl same ↦ (let P : ℕ → Type 0 = λ k. IsNotAfter links moment earlier k (job_row_at rows k d) in subst P (sym same) (one d).not_after)
    | inr other ↦ sooner u (job_row_at rows u d) (one d).within (old u d (omega arith))
  ]

  -- who is due
  abbrev pub SomeoneIsDue : ℕ → List JobRow → ℕ → ℕ → Type 0
  SomeoneIsDue last rows t at = (at ≡ last) ⊎ ((u : ℕ) × (u < t) × ((d : JobRow) → IsDueAt links moment at u (job_row_at rows u d)))

  same_due : (last : ℕ) (rows : List JobRow) (t : ℕ) → earlier ≡ next → SomeoneIsDue last rows t next
      → SomeoneIsDue last rows (t + 1) earlier
  same_due last rows t same (inl end) = inl (same ∙ end)
  same_due last rows t same (inr (u, below, due)) =
      inr (u, omega arith, λ d. let Q : ℕ → Type 0 = λ at. IsDueAt links moment at u (job_row_at rows u d) in subst Q (sym same) (due d))

  pub due_earlier : (last : ℕ) (rows : List JobRow) (t : ℕ) → SomeoneIsDue last rows t next
      → ((d : JobRow) → IsEarlier links moment next t (job_row_at rows t d) earlier) → SomeoneIsDue last rows (t + 1) earlier
  due_earlier last rows t old one = elim (cases_eq earlier next) [
    | inl same ↦ same_due last rows t same old
    | inr differs ↦ inr (t, omega arith, λ d. elim (one d).due [ inl same ↦ absurd (differs same) | inr due ↦ due ])
  ]
