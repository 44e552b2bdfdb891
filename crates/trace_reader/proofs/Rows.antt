-- The rows of events, one by one.
use Rattle.std.proofs.Common.{◌≡◌, ℕ, List, [], ◌∷◌, codes, refl, sym, subst, inl, inr}
use Rattle.text_fields.specs.Number.{IsNumberWithin}
use Rattle.text_fields.specs.Form.{Fields}
use Rattle.text_fields.proofs.Forms.{never}
use Rattle.trace_reader.specs.InputText.{IsProcessorNumber}
use Rattle.trace_reader.specs.LineOutcome.{NamedEvent, Arrive, Depart, Tick, Affinity, Offline, Online, IsNamedEvent}

-- the fields after a stream, event by event
abbrev pub IsNamed : ℕ → ℕ → Fields → NamedEvent → Type 0
IsNamed version m fields (Arrive name) = fields ≡ codes "arrive" ∷ name ∷ []
IsNamed version m fields (Depart name) = fields ≡ codes "depart" ∷ name ∷ []
IsNamed version m fields (Tick n) = (text : List ℕ) × (fields ≡ codes "tick" ∷ text ∷ []) × IsNumberWithin 1 1000000 text n
IsNamed version m fields (Affinity name list) = (version ≡ 2) × (fields ≡ codes "affinity" ∷ name ∷ list ∷ [])
IsNamed version m fields (Offline p) =
    (version ≡ 2) × ((text : List ℕ) × (fields ≡ codes "offline" ∷ text ∷ []) × IsProcessorNumber m text p)
IsNamed version m fields (Online p) = (version ≡ 2) × ((text : List ℕ) × (fields ≡ codes "online" ∷ text ∷ []) × IsProcessorNumber m text p)

pub to_rows : (version m : ℕ) (fields : Fields) (event : NamedEvent) → IsNamed version m fields event → IsNamedEvent version m fields event
to_rows version m fields (Arrive name) e = rw e (inl (_, refl, (name, name, refl, refl, refl)))
to_rows version m fields (Depart name) e = rw e (inr (never refl, inl (_, refl, (name, name, refl, refl, refl))))
to_rows version m fields (Tick n) (text, e, is) = rw e (inr (never refl, inr (never refl, inl (_, refl, (text, n, refl, is, refl)))))
to_rows version m fields (Affinity name list) (second, e) =
    rw e (inr (
      never refl,
      inr (
        never refl,
        inr
            (never refl, inl (_, refl, (second, (name, _, name, list, refl, refl, (list, list, refl, refl, refl), refl)))),
      ),
    ))
to_rows version m fields (Offline p) (second, (text, e, is)) =
    rw e (inr (never refl, inr (never refl, inr (never refl, inr (never refl, inl (_, refl, (second, (text, p, refl, is, refl))))))))
to_rows version m fields (Online p) (second, (text, e, is)) =
    rw e (inr (
      never refl,
      inr (
        never refl,
        inr
            (never refl, inr (never refl, inr (never refl, inl (_, refl, (second, (text, p, refl, is, refl)))))),
      ),
    ))

pub of_rows : (version m : ℕ) (fields : Fields) (event : NamedEvent) → IsNamedEvent version m fields event → IsNamed version m fields event
of_rows version m fields event (inl (rest, e, (text, name, e', any, made))) = rw made (cc)
of_rows version m fields event (inr (_, inl (rest, e, (text, name, e', any, made)))) = rw made (cc)
of_rows version m fields event (inr (_, inr (_, inl (rest, e, (text, n, e', is, made))))) =
    subst (IsNamed version m fields) (sym made) (text, cc, is)
of_rows version m fields event (inr (
  _,
  inr
      (_, inr (_, inl (rest, e, (second, (text, more, name, list, e', any, (text', list', e'', any', same), made))))),
)) =
    rw made (second, cc)
of_rows version m fields event (inr (_, inr (_, inr (_, inr (_, inl (rest, e, (second, (text, p, e', is, made)))))))) =
    subst (IsNamed version m fields) (sym made) (second, (text, cc, is))
of_rows version m fields event (inr (_, inr (_, inr (_, inr (_, inr (_, inl (rest, e, (second, (text, p, e', is, made))))))))) =
    subst (IsNamed version m fields) (sym made) (second, (text, cc, is))
of_rows version m fields event (inr (_, inr (_, inr (_, inr (_, inr (_, inr (_, none))))))) = absurd none
