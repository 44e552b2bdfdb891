-- A track goes on, or a bar of it ends.
use Rattle.std.proofs.Common.{◌≡◌, ℕ, ◌-◌, ◌<◌, ◌≤◌, ◌⊎◌, inl, inr, Bool, List, [], ◌++◌, Option, None, Some, refl, sym, ap, ◌∙◌, subst}
use Rattle.std.proofs.Common.{arith, append-nil}
use Rattle.std.specs.Prelude.{◌≢◌, if◌then◌else◌}
use Rattle.std.specs.List.{All, Contains}
use Rattle.std.proofs.lemmas.Bool.{cases_lt, lt-ltb, le-ltb}
use Rattle.std.proofs.lemmas.List.Elements.{Contains-append_left, Contains-push, All-push, All-same}
use Rattle.trace_bars.specs.Bars.{HasBar, IsBar, IsDrawn, IsOther}
use Rattle.trace_bars.specs.Tracks.{IsTrackAt, bar_until, ended, listed}
use Rattle.trace_bars.specs.declared.mark.Bar.{Bar}
use Rattle.trace_bars.specs.declared.mark.Mark.{Mark}
use Rattle.trace_bars.specs.declared.track.Track.{Track}

-- ---- the bar that ends
the_bar : ℕ → Mark → ℕ → ℕ → Bar
the_bar t mark since now = record { thread = t; mark = mark; from = since; to = now }

bar_is : (t : ℕ) (mark : Mark) (since now : ℕ) → since < now → bar_until t (Some mark) since now ≡ Some (the_bar t mark since now)
unfolding the_bar
bar_is t mark since now some =
    ap (λ (b : Bool). if b then Some (record { thread = t; mark = mark; from = since; to = now }) else None) (lt-ltb since now some)

no_bar_is : (t : ℕ) (mark : Mark) (since now : ℕ) → now ≤ since → bar_until t (Some mark) since now ≡ None
no_bar_is t mark since now none =
    ap (λ (b : Bool). if b then Some (record { thread = t; mark = mark; from = since; to = now }) else None) (le-ltb since now none)

pub none_some : (mark : Mark) → ◌≡◌ {A = Option Mark} None (Some mark) → ⊥
none_some mark e = cc

one_some : (mark what : Mark) → ◌≡◌ {A = Option Mark} (Some mark) (Some what) → mark ≡ what
one_some mark what e = cc

-- it shows the mark at each moment since the track has it
has_ended : (now t x : ℕ) (bars : List Bar) (mark : Option Mark) (since : ℕ) (what : Mark) → mark ≡ Some what → since ≤ x → x < now
    → HasBar (bars ++ listed (bar_until t mark since now)) t x what
unfolding the_bar
has_ended now t x bars None since what is from before = absurd (none_some what is)
has_ended now t x bars (Some mark) since what is from before = record {
  bar = the_bar t mark since now;
  is =
      subst (λ (bar : Option Bar). Contains (bars ++ listed bar) (the_bar t mark since now))
      (sym (bar_is t mark since now (omega (arith, from, before))))
      (Contains-push bars (the_bar t mark since now));
  thread = refl;
  same = one_some mark what is;
  from = from;
  to = before;
}

module _ (Shown : ℕ → ℕ → Option Mark → Type 0) (first : ℕ) where
  -- ---- more bars
  has_more : (bars more : List Bar) (t x : ℕ) (mark : Mark) → HasBar bars t x mark → HasBar (bars ++ more) t x mark
  has_more bars more t x mark has = record {
    bar = has.bar;
    is = Contains-append_left bars more has.bar has.is;
    thread = has.thread;
    same = has.same;
    from = has.from;
    to = has.to;
  }

  pub drawn_more : (bars more : List Bar) (t x : ℕ) → IsDrawn Shown bars t x → IsDrawn Shown (bars ++ more) t x
  drawn_more bars more t x drawn = record {
    mark = drawn.mark;
    shown = drawn.shown;
    bar = λ what is. has_more bars more t x what (drawn.bar what is);
  }

  pub track_more : (now t : ℕ) (bars more : List Bar) (track : Track) → IsTrackAt Shown first now t bars track
      → IsTrackAt Shown first now t (bars ++ more) track
  track_more now t bars more track at = record {
    from = at.from;
    to = at.to;
    moved = at.moved;
    current = at.current;
    begins = at.begins;
    earlier = λ x from before. drawn_more bars more t x (at.earlier x from before);
  }

  -- ---- the mark stays
  pub goes_on : (now next t : ℕ) (bars : List Bar) (track : Track) → now < next
      → ((x : ℕ) → now ≤ x → x < next → Shown t x track.mark)
      → IsTrackAt Shown first now t bars track → IsTrackAt Shown first next t bars track
  goes_on now next t bars track some shown at =
      let to = at.to in
      record {
        from = at.from;
        to = omega (arith, to, some);
        moved = inr (omega (arith, to, some));
        current = λ x from before. elim (cases_lt x now) [
          | inl early ↦ at.current x from early
          | inr late ↦ shown x late before
        ];
        begins = at.begins;
        earlier = at.earlier;
      }

  -- ---- a bar ends
  -- with it each mark up to now has its bar
  pub drawn_until : (now t : ℕ) (bars : List Bar) (track : Track) → IsTrackAt Shown first now t bars track
      → (x : ℕ) → first ≤ x → x < now → IsDrawn Shown (bars ++ listed (ended t track now)) t x
  drawn_until now t bars track at x from before = elim (cases_lt x track.since) [
    | inl early ↦ drawn_more bars (listed (ended t track now)) t x (at.earlier x from early)
    | inr late ↦ record {
      mark = track.mark;
      shown = at.current x late before;
      bar = λ what is. has_ended now t x bars track.mark track.since what is late before;
    }
  ]

  pub turned : (now next t : ℕ) (bars : List Bar) (track : Track) (mark : Option Mark) → now < next → mark ≢ track.mark
      → ((x : ℕ) → now ≤ x → x < next → Shown t x mark)
      → IsTrackAt Shown first now t bars track
      → IsTrackAt Shown first next t (bars ++ listed (ended t track now)) (record { mark = mark; since = now })
  turned now next t bars track mark some differs shown at =
      let start = at.from in
      let to = at.to in
      record {
        from = omega (arith, start, to);
        to = omega (arith, some);
        moved = inr some;
        current = shown;
        begins = λ what is. elim (cases_lt track.since now) [
          | inl before ↦ inr (record {
            other = track.mark;
            shown = at.current (now - 1) (omega (arith, before)) (omega (arith, before));
            differs = λ e. differs (is ∙ sym e);
          })
          | inr late ↦ elim at.moved [
            | inl same ↦ inl (omega (arith, same, late, to))
            | inr less ↦ absurd (omega (arith, less, late))
          ]
        ];
        earlier = drawn_until now t bars track at;
      }

  -- the bar is one of the window
  bars_by : (last now t : ℕ) (bars : List Bar) (mark : Option Mark) (since : ℕ) → now ≤ last
      → ((what : Mark) → mark ≡ Some what → (now ≡ last) ⊎ IsOther Shown t now what)
      → IsTrackAt Shown first now t bars (record { mark = mark; since = since }) → All (IsBar Shown first last) bars
      → All (IsBar Shown first last) (bars ++ listed (bar_until t mark since now))
  unfolding the_bar
  bars_by last now t bars None since within ends at each = All-same (IsBar Shown first last) (bars ++ []) bars (append-nil bars) each
  bars_by last now t bars (Some mark) since within ends at each = elim (cases_lt since now) [
    | inl some ↦
        subst (λ (bar : Option Bar). All (IsBar Shown first last) (bars ++ listed bar)) (sym (bar_is t mark since now some))
        (All-push (IsBar Shown first last) bars (the_bar t mark since now) each
        (record {
          some = some;
          from = at.from;
          to = within;
          throughout = at.current;
          begins = at.begins mark refl;
          ends = ends mark refl;
        }))
    | inr none ↦
        subst (λ (bar : Option Bar). All (IsBar Shown first last) (bars ++ listed bar)) (sym (no_bar_is t mark since now none))
        (All-same (IsBar Shown first last) (bars ++ []) bars (append-nil bars) each)
  ]

  pub bars_more : (last now t : ℕ) (bars : List Bar) (track : Track) → now ≤ last
      → ((what : Mark) → track.mark ≡ Some what → (now ≡ last) ⊎ IsOther Shown t now what)
      → IsTrackAt Shown first now t bars track → All (IsBar Shown first last) bars
      → All (IsBar Shown first last) (bars ++ listed (ended t track now))
  bars_more last now t bars track within ends at each = bars_by last now t bars track.mark track.since within ends at each
