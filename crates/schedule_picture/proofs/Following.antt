-- A track that sees what is seen after each entry, in order, has all spans that have ended; with the last one closed it has
-- all that there are.
use Rattle.std.proofs.Common.{◌≡◌, ◌≢◌, ℕ, ◌+◌, ◌-◌, ◌<◌, ◌≤◌, List, [], ◌∷◌, ◌++◌, length, get_or, Option, Some, None, sym, ap, ◌∙◌, subst}
use Rattle.std.proofs.Common.{refl, inl, inr, arith}
use Rattle.std.specs.Prelude.{All, AllPairs, Contains}
use Rattle.std.proofs.lemmas.Bool.{cases_lt}
use Rattle.std.proofs.lemmas.List.Elements.{All-nil, All-push, All-weaker, All-get_or, Contains-push, Contains-append_left}
use Rattle.std.proofs.lemmas.List.Quantifiers.{all_pairs_push}
use Rattle.std.proofs.lemmas.List.{append-nil}
use Rattle.schedule_picture.specs.declared.span.Seen.{Seen}
use Rattle.schedule_picture.specs.declared.span.Span.{Span}
use Rattle.schedule_picture.specs.Spans.{IsStretch, IsSpan, IsBefore, AreSpans}
use Rattle.schedule_picture.specs.Track.{TrackData, fresh_track, open_span, spans_until, Sees}
use Rattle.schedule_picture.specs.History.{IsEndedSpan, TrackFollows}

-- the span of these parts
abbrev span_of : Seen → ℕ → ℕ → Span
span_of what from until = record { what = what; from = from; until = until }

no_pairs : AllPairs IsBefore []
no_pairs i j d lt below = absurd (omega (arith, below))

pub follows_none : (seen : ℕ → Option Seen) → seen 0 ≡ None → TrackFollows seen 0 fresh_track
follows_none seen none = record {
  current = sym none;
  since = omega arith;
  unchanged = λ i low high. let zero : i ≡ 0 = omega arith in ap seen zero ∙ none;
  begun = λ what is. cc;
  each = All-nil (IsEndedSpan seen 0);
  in_order = no_pairs;
  all = λ span stretch within ends. absurd (let begins = stretch.begins in let some = stretch.some in omega arith);
}

-- the parts of a span are what it is
same_span : (span : Span) (what : Seen) (from until : ℕ) → span.what ≡ what → span.from ≡ from → span.until ≡ until
    → span_of what from until ≡ span
same_span span what from until is_what is_from is_until = rw (← is_what, ← is_from, ← is_until) refl

module _ (seen : ℕ → Option Seen) (n : ℕ) (track : TrackData) (follows : TrackFollows seen n track) where
  -- what is seen up to n, is seen now
  stretch_current : (span : Span) → IsStretch seen span → span.until ≡ n + 1 → track.current ≡ Some span.what
  stretch_current span stretch end =
      let some = stretch.some in
      follows.current ∙ stretch.throughout n (omega arith) (omega arith)

  -- and it began where the track says
  stretch_from : (span : Span) → IsStretch seen span → span.until ≡ n + 1 → span.from ≡ track.since
  stretch_from span stretch end =
      let begun = follows.begun span.what (stretch_current span stretch end) in
      let first = begun.0 in
      let begins = stretch.begins in
      let some = stretch.some in
      let since = follows.since in
      elim (cases_lt span.from track.since) [
        | inl lt ↦ absurd (begun.1 (stretch.throughout (track.since - 1) (omega arith) (omega arith)))
        | inr ge ↦ elim (cases_lt track.since span.from) [
          | inl lt ↦ absurd (stretch.not_before (follows.unchanged (span.from - 1) (omega arith) (omega arith)
              ∙ stretch_current span stretch end))
          | inr le ↦ omega arith
        ]
      ]

  -- the stretch that is seen now
  current_stretch : (what : Seen) → track.current ≡ Some what → IsStretch seen (span_of what track.since (n + 1))
  current_stretch what is =
      let since = follows.since in
      record {
        begins = (follows.begun what is).0;
        some = omega arith;
        throughout = λ i low high. follows.unchanged i low (omega arith) ∙ is;
        not_before = (follows.begun what is).1;
      }

  -- those that have ended are before it
  ended_before : (k : ℕ) (d : Span) → k < length track.spans → (get_or track.spans k d).until ≤ track.since
  ended_before k d lt = (All-get_or (IsEndedSpan seen track.since) track.spans k d lt follows.each).within

  -- ---- what is seen after the next entry too
  pub follows_same : seen (n + 1) ≡ track.current → TrackFollows seen (n + 1) track
  follows_same same = record {
    current = sym same;
    since = let since = follows.since in omega arith;
    unchanged = λ i low high. elim (cases_lt n i) [
      | inl gt ↦ let last : i ≡ n + 1 = omega arith in ap seen last ∙ same
      | inr le ↦ follows.unchanged i low le
    ];
    begun = follows.begun;
    each = follows.each;
    in_order = follows.in_order;
    all = λ span stretch within ends. elim (cases_lt n span.until) [
      | inl gt ↦
          let end : span.until ≡ n + 1 = omega arith in
          absurd (ends (ap seen end ∙ same ∙ stretch_current span stretch end))
      | inr le ↦ follows.all span stretch le ends
    ];
  }

  -- ---- something else
  module _ (changed : seen (n + 1) ≢ track.current) where
    weaken : (span : Span) → IsEndedSpan seen track.since span → IsEndedSpan seen (n + 1) span
    weaken span ended = record {
      stretch = ended.stretch;
      within = let since = follows.since in let within = ended.within in omega arith;
      ends = ended.ends;
    }

    -- a track whose spans are all that have ended follows
    changed_from : (spans : List Span) → All (IsEndedSpan seen (n + 1)) spans → AllPairs IsBefore spans
        → ((span : Span) → IsStretch seen span → span.until ≤ n + 1 → seen span.until ≢ Some span.what → Contains spans span)
        → TrackFollows seen (n + 1) (record { current = seen (n + 1); since = n + 1; spans = spans })
    changed_from spans each in_order all = record {
      current = refl;
      since = omega arith;
      unchanged = λ i low high. let last : i ≡ n + 1 = omega arith in ap seen last;
      begun = λ what is. (
        omega arith,
        λ before.
            let here : n + 1 - 1 ≡ n = omega arith in
            changed (is ∙ sym before ∙ ap seen here ∙ sym follows.current),
      );
      each = each;
      in_order = in_order;
      all = all;
    }

    changed_none : track.current ≡ None → TrackFollows seen (n + 1) (record { current = seen (n + 1); since = n + 1; spans = track.spans })
    changed_none none = changed_from track.spans
        (All-weaker (IsEndedSpan seen track.since) (IsEndedSpan seen (n + 1)) weaken track.spans follows.each) follows.in_order
        (λ span stretch within ends. elim (cases_lt n span.until) [
          | inl gt ↦ let end : span.until ≡ n + 1 = omega arith in let is = stretch_current span stretch end in cc
          | inr le ↦ follows.all span stretch le ends
        ])

    changed_some : (what : Seen) → track.current ≡ Some what
        → TrackFollows seen (n + 1) (record {
          current = seen (n + 1);
          since = n + 1;
          spans = track.spans ++ span_of what track.since (n + 1)
              ∷ [];
        })
    changed_some what is = changed_from (track.spans ++ span_of what track.since (n + 1) ∷ [])
        (All-push (IsEndedSpan seen (n + 1)) track.spans (span_of what track.since (n + 1))
        (All-weaker (IsEndedSpan seen track.since) (IsEndedSpan seen (n + 1)) weaken track.spans follows.each)
        (record { stretch = current_stretch what is; within = omega arith; ends = λ still. changed (still ∙ sym is) }))
        (all_pairs_push IsBefore track.spans (span_of what track.since (n + 1)) follows.in_order ended_before)
        (λ span stretch within ends. elim (cases_lt n span.until) [
          | inl gt ↦
              let end : span.until ≡ n + 1 = omega arith in
              let now = stretch_current span stretch end in
              let same_what : span.what ≡ what = cc in
              subst (λ (s : Span). Contains (track.spans ++ span_of what track.since (n + 1) ∷ []) s)
              (same_span span what track.since (n + 1) same_what (stretch_from span stretch end) end)
              (Contains-push track.spans (span_of what track.since (n + 1)))
          | inr le ↦ Contains-append_left track.spans (span_of what track.since (n + 1) ∷ []) span (follows.all span stretch le ends)
        ])

    changed_by : (current : Option Seen) → track.current ≡ current
        → TrackFollows seen (n + 1) (record {
          current = seen (n + 1);
          since = n + 1;
          spans = track.spans
              ++ open_span current track.since (n + 1);
        })
    changed_by None is =
        subst (λ (spans : List Span). TrackFollows seen (n + 1) (record { current = seen (n + 1); since = n + 1; spans = spans }))
        (sym (append-nil track.spans)) (changed_none is)
    changed_by (Some what) is = changed_some what is

    pub follows_changed : TrackFollows seen (n + 1) (record { current = seen (n + 1); since = n + 1; spans = spans_until track (n + 1) })
    follows_changed = changed_by track.current refl

  -- ---- the last entry
  ended_is_span : (span : Span) → IsEndedSpan seen track.since span → IsSpan seen n span
  ended_is_span span ended = record {
    stretch = ended.stretch;
    within = let since = follows.since in let within = ended.within in omega arith;
    ends = inr ended.ends;
  }

  -- a span that ends before the end has ended
  span_ended : (span : Span) → IsSpan seen n span → span.until ≤ n → Contains track.spans span
  span_ended span is_span le = elim is_span.ends [
    | inl last ↦ absurd (omega arith)
    | inr ends ↦ follows.all span is_span.stretch le ends
  ]

  all_none : track.current ≡ None → AreSpans seen n track.spans
  all_none none = record {
    each = All-weaker (IsEndedSpan seen track.since) (IsSpan seen n) ended_is_span track.spans follows.each;
    in_order = follows.in_order;
    all = λ span is_span. elim (cases_lt n span.until) [
      | inl gt ↦
          let within = is_span.within in
          let end : span.until ≡ n + 1 = omega arith in let is = stretch_current span is_span.stretch end in cc
      | inr le ↦ span_ended span is_span le
    ];
  }

  all_some : (what : Seen) → track.current ≡ Some what → AreSpans seen n (track.spans ++ span_of what track.since (n + 1) ∷ [])
  all_some what is = record {
    each = All-push (IsSpan seen n) track.spans (span_of what track.since (n + 1))
        (All-weaker (IsEndedSpan seen track.since) (IsSpan seen n) ended_is_span track.spans follows.each)
        (record { stretch = current_stretch what is; within = omega arith; ends = inl refl });
    in_order = all_pairs_push IsBefore track.spans (span_of what track.since (n + 1)) follows.in_order ended_before;
    all = λ span is_span. elim (cases_lt n span.until) [
      | inl gt ↦
          let within = is_span.within in
          let end : span.until ≡ n + 1 = omega arith in
          let now = stretch_current span is_span.stretch end in
          let same_what : span.what ≡ what = cc in
          subst (λ (s : Span). Contains (track.spans ++ span_of what track.since (n + 1) ∷ []) s)
          (same_span span what track.since (n + 1) same_what (stretch_from span is_span.stretch end) end)
          (Contains-push track.spans (span_of what track.since (n + 1)))
      | inr le ↦ Contains-append_left track.spans (span_of what track.since (n + 1) ∷ []) span (span_ended span is_span le)
    ];
  }

  all_by : (current : Option Seen) → track.current ≡ current → AreSpans seen n (track.spans ++ open_span current track.since (n + 1))
  all_by None is = subst (AreSpans seen n) (sym (append-nil track.spans)) (all_none is)
  all_by (Some what) is = all_some what is

  pub follows_all : AreSpans seen n (spans_until track (n + 1))
  follows_all = all_by track.current refl

  pub follows_more : (new : TrackData) → Sees (n + 1) (seen (n + 1)) track new → TrackFollows seen (n + 1) new
  follows_more new sees = elim sees [
    | inl same ↦ subst (TrackFollows seen (n + 1)) (sym same.1) (follows_same same.0)
    | inr changed ↦ subst (TrackFollows seen (n + 1)) (sym changed.1) (follows_changed changed.0)
  ]
