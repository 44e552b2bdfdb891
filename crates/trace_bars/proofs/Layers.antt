-- The tracks of a layer turn one after another.
use Rattle.std.proofs.Common.{◌≡◌, ℕ, ◌+◌, ◌<◌, ◌≤◌, inl, inr, List, [], ◌++◌, length, set, get_or, Option, None, Some, refl, sym, ◌∙◌}
use Rattle.std.proofs.Common.{subst, arith, get_or-set_same, get_or-set_other, append-nil, length-set}
use Rattle.std.specs.Prelude.{replicate}
use Rattle.std.specs.List.{All}
use Rattle.std.proofs.lemmas.Bool.{cases_eq}
use Rattle.std.proofs.lemmas.List.{get_or-replicate, length-replicate}
use Rattle.std.proofs.lemmas.List.Elements.{All-nil}
use Rattle.trace_bars.specs.Bars.{AreBars, IsBar, IsDrawn}
use Rattle.trace_bars.specs.Tracks.{IsTrackAt, IsLayerAt, Turns, bar_until, ended, listed, no_track}
use Rattle.trace_bars.specs.declared.mark.Bar.{Bar}
use Rattle.trace_bars.specs.declared.mark.Mark.{Mark}
use Rattle.trace_bars.specs.declared.track.Track.{Track}
use Rattle.trace_bars.proofs.Tracked.{bars_more, drawn_more, drawn_until, goes_on, none_some, track_more, turned}

-- the tracks of the first so many threads have gone on to the next moment, and the others are at this one
pub record IsMidway (Shown : ℕ → ℕ → Option Mark → Type 0) (first last now next done : ℕ) (tracks : List Track)
    (bars : List Bar) : Type 0 where
  pub each : All (IsBar Shown first last) bars
  pub behind : (t : ℕ) → t < done → t < length tracks → IsTrackAt Shown first next t bars (get_or tracks t no_track)
  pub ahead : (t : ℕ) → done ≤ t → t < length tracks → IsTrackAt Shown first now t bars (get_or tracks t no_track)

-- each mark of the first so many threads has its bar, and the others are at the last moment
pub record IsEnding (Shown : ℕ → ℕ → Option Mark → Type 0) (first last done : ℕ) (tracks : List Track) (bars : List Bar) : Type 0 where
  pub each : All (IsBar Shown first last) bars
  pub behind : (t x : ℕ) → t < done → t < length tracks → first ≤ x → x < last → IsDrawn Shown bars t x
  pub ahead : (t : ℕ) → done ≤ t → t < length tracks → IsTrackAt Shown first last t bars (get_or tracks t no_track)

module _ (Shown : ℕ → ℕ → Option Mark → Type 0) (first last : ℕ) where
  pub midway_none : (now next : ℕ) (tracks : List Track) (bars : List Bar) → IsLayerAt Shown first last now tracks bars
      → IsMidway Shown first last now next 0 tracks bars
  midway_none now next tracks bars layer = record {
    each = layer.each;
    behind = λ t below within. absurd (omega (arith, below));
    ahead = λ t from within. layer.tracked t within;
  }

  pub midway_all : (now next done : ℕ) (tracks : List Track) (bars : List Bar) → length tracks ≤ done
      → IsMidway Shown first last now next done tracks bars → IsLayerAt Shown first last next tracks bars
  midway_all now next done tracks bars all midway = record {
    each = midway.each;
    tracked = λ t within. midway.behind t (omega (arith, within, all)) within;
  }

  pub midway_on : (now next done : ℕ) (mark : Option Mark) (tracks new : List Track) (bars more : List Bar) → done < length tracks
      → now < next → next ≤ last
      → ((x : ℕ) → now ≤ x → x < next → Shown done x mark) → Turns done now mark tracks bars new more
      → IsMidway Shown first last now next done tracks bars → IsMidway Shown first last now next (done + 1) new more
  midway_on now next done mark tracks new bars more below some within shown (inl (same, tracks_same, bars_same)) midway =
      subst (λ (list : List Track). IsMidway Shown first last now next (done + 1) list more) (sym tracks_same)
      (subst (λ (list : List Bar). IsMidway Shown first last now next (done + 1) tracks list) (sym bars_same)
      (record {
        each = midway.each;
        behind = λ t before there. elim (cases_eq t done) [
          | inl here ↦
              subst (λ (u : ℕ). IsTrackAt Shown first next u bars (get_or tracks u no_track)) (sym here)
              (goes_on Shown first now next done bars (get_or tracks done no_track) some
              (λ x from until. subst (λ (m : Option Mark). Shown done x m) same (shown x from until))
              (midway.ahead done (omega arith) below))
          | inr other ↦ midway.behind t (omega (arith, before, other)) there
        ];
        ahead = λ t from there. midway.ahead t (omega (arith, from)) there;
      }))
  midway_on now next done mark tracks new bars more below some within shown (inr (differs, tracks_set, bars_put)) midway =
      let track : Track = get_or tracks done no_track in
      let put : List Bar = bars ++ listed (ended done track now) in
      let list : List Track = set tracks done (record { mark = mark; since = now }) in
      let at : IsTrackAt Shown first now done bars track = midway.ahead done (omega arith) below in
      let long : length list ≡ length tracks = length-set tracks done (record { mark = mark; since = now }) in
      subst (λ (list : List Track). IsMidway Shown first last now next (done + 1) list more) (sym tracks_set)
      (subst (λ (bars : List Bar). IsMidway Shown first last now next (done + 1) list bars) (sym bars_put)
      (record {
        each =
            bars_more Shown first last now done bars track (omega (arith, some, within))
            (λ what is. inr (record { other = mark; shown = shown now (omega arith) some; differs = λ e. differs (e ∙ sym is) }))
            at midway.each;
        behind = λ t before there. elim (cases_eq t done) [
          | inl here ↦
              subst (λ (u : ℕ). IsTrackAt Shown first next u put (get_or list u no_track)) (sym here)
              (subst (λ (track : Track). IsTrackAt Shown first next done put track)
              (sym (get_or-set_same tracks done (record { mark = mark; since = now }) no_track below))
              (turned Shown first now next done bars track mark some differs shown at))
          | inr other ↦
              subst (λ (track : Track). IsTrackAt Shown first next t put track)
              (sym (get_or-set_other tracks done t (record { mark = mark; since = now }) no_track other))
              (track_more Shown first next t bars (listed (ended done track now)) (get_or tracks t no_track)
              (midway.behind t (omega (arith, before, other)) (omega (arith, there, long))))
        ];
        ahead = λ t from there.
            subst (λ (track : Track). IsTrackAt Shown first now t put track)
            (sym (get_or-set_other tracks done t (record { mark = mark; since = now }) no_track (λ e. absurd (omega (arith, e, from)))))
            (track_more Shown first now t bars (listed (ended done track now)) (get_or tracks t no_track)
            (midway.ahead t (omega (arith, from)) (omega (arith, there, long))));
      }))

  -- ---- the end
  pub ending_none : (tracks : List Track) (bars : List Bar) → IsLayerAt Shown first last last tracks bars
      → IsEnding Shown first last 0 tracks bars
  ending_none tracks bars layer = record {
    each = layer.each;
    behind = λ t x below within from before. absurd (omega (arith, below));
    ahead = λ t from within. layer.tracked t within;
  }

  pub ending_all : (threads done : ℕ) (tracks : List Track) (bars : List Bar) → threads ≤ done → threads ≡ length tracks
      → IsEnding Shown first last done tracks bars → AreBars Shown threads first last bars
  ending_all threads done tracks bars all long ending = record {
    each = ending.each;
    all = λ t x within from before. ending.behind t x (omega (arith, within, all)) (omega (arith, within, long)) from before;
  }

  nothing_ends : (t : ℕ) (bars : List Bar) (mark : Option Mark) (since x : ℕ) → None ≡ mark
      → IsDrawn Shown (bars ++ listed (bar_until t mark since last)) t x → IsDrawn Shown bars t x
  nothing_ends t bars None since x is drawn = subst (λ (list : List Bar). IsDrawn Shown list t x) (append-nil bars) drawn
  nothing_ends t bars (Some mark) since x is drawn = absurd (none_some mark is)

  pub ending_on : (done : ℕ) (tracks new : List Track) (bars more : List Bar) → done < length tracks
      → Turns done last None tracks bars new more
      → IsEnding Shown first last done tracks bars → IsEnding Shown first last (done + 1) new more
  ending_on done tracks new bars more below (inl (same, tracks_same, bars_same)) ending =
      subst (λ (list : List Track). IsEnding Shown first last (done + 1) list more) (sym tracks_same)
      (subst (λ (list : List Bar). IsEnding Shown first last (done + 1) tracks list) (sym bars_same)
      (record {
        each = ending.each;
        behind = λ t x before there from until. elim (cases_eq t done) [
          | inl here ↦
              subst (λ (u : ℕ). IsDrawn Shown bars u x) (sym here)
              (nothing_ends done bars (get_or tracks done no_track).mark (get_or tracks done no_track).since x same
              (drawn_until Shown first last done bars (get_or tracks done no_track) (ending.ahead done (omega arith) below) x from until))
          | inr other ↦ ending.behind t x (omega (arith, before, other)) there from until
        ];
        ahead = λ t from there. ending.ahead t (omega (arith, from)) there;
      }))
  ending_on done tracks new bars more below (inr (differs, tracks_set, bars_put)) ending =
      let track : Track = get_or tracks done no_track in
      let put : List Bar = bars ++ listed (ended done track last) in
      let list : List Track = set tracks done (record { mark = None; since = last }) in
      let at : IsTrackAt Shown first last done bars track = ending.ahead done (omega arith) below in
      let long : length list ≡ length tracks = length-set tracks done (record { mark = None; since = last }) in
      subst (λ (list : List Track). IsEnding Shown first last (done + 1) list more) (sym tracks_set)
      (subst (λ (bars : List Bar). IsEnding Shown first last (done + 1) list bars) (sym bars_put)
      (record {
        each = bars_more Shown first last last done bars track (omega arith) (λ what is. inl refl) at ending.each;
        behind = λ t x before there from until. elim (cases_eq t done) [
          | inl here ↦ subst (λ (u : ℕ). IsDrawn Shown put u x) (sym here) (drawn_until Shown first last done bars track at x from until)
          | inr other ↦
              drawn_more Shown first bars (listed (ended done track last)) t x
              (ending.behind t x (omega (arith, before, other)) (omega (arith, there, long)) from until)
        ];
        ahead = λ t from there.
            subst (λ (track : Track). IsTrackAt Shown first last t put track)
            (sym (get_or-set_other tracks done t (record { mark = None; since = last }) no_track (λ e. absurd (omega (arith, e, from)))))
            (track_more Shown first last t bars (listed (ended done track last)) (get_or tracks t no_track)
            (ending.ahead t (omega (arith, from)) (omega (arith, there, long))));
      }))

-- ---- before the first moment
abbrev fresh : ℕ → Track
fresh first = record { mark = None; since = first }

fresh_at : (Shown : ℕ → ℕ → Option Mark → Type 0) (first t : ℕ) → IsTrackAt Shown first first t [] (fresh first)
fresh_at Shown first t = record {
  from = omega arith;
  to = omega arith;
  moved = inl refl;
  current = λ x from before. absurd (omega (arith, from, before));
  begins = λ mark is. absurd (none_some mark is);
  earlier = λ x from before. absurd (omega (arith, from, before));
}

pub layer_none : (Shown : ℕ → ℕ → Option Mark → Type 0) (first last threads : ℕ) (tracks : List Track)
    → tracks ≡ replicate threads (record { mark = None; since = first }) → IsLayerAt Shown first last first tracks []
layer_none Shown first last threads tracks is =
    subst (λ (list : List Track). IsLayerAt Shown first last first list []) (sym is)
    (record {
      each = All-nil (IsBar Shown first last);
      tracked = λ t within.
          (let long = length-replicate threads (fresh first) in
          subst (λ (track : Track). IsTrackAt Shown first first t [] track)
          (sym (get_or-replicate threads t (fresh first) no_track (omega (arith, within, long)))) (fresh_at Shown first t));
    })
