-- Of the tasks of which an entry changes nothing the tracks stay, and show what is seen all the same.
use Rattle.std.proofs.Common.{◌≡◌, ◌≢◌, ℕ, ◌+◌, ◌<◌, ◌≤◌, true, false, List, length, get_or, Option, Some, None, refl, sym, ap, ◌∙◌, subst}
use Rattle.std.proofs.Common.{inl, inr, arith, get_or-set_other, below_more, ne_eqb}
use Rattle.std.specs.Prelude.{position}
use Rattle.std.specs.List.{position_or_len}
use Rattle.std.proofs.lemmas.Bool.{cases_eq, cases_lt, false≢true, lt-ltb, le-ltb}
use Rattle.std.proofs.lemmas.List.{get_or_default, get_or_past}
use Rattle.std.proofs.lemmas.List.Sums.{position_or_len_is, fails_before_first, passes_at_first}
use Rattle.task_set.specs.declared.event.Event.{Event}
use Rattle.task_set.specs.declared.event.Event.TheVariants.{Arrive, Depart, Affinity, Offline, Online}
use Rattle.strong_apa.specs.declared.reply.Came.{Came}
use Rattle.strong_apa.specs.declared.reply.Came.TheVariants as came
use Rattle.strong_apa.specs.declared.reply.Gone.{Gone}
use Rattle.strong_apa.specs.declared.reply.Reply.{Reply}
use Rattle.strong_apa.specs.declared.reply.Reply.TheVariants.{Placed, Displaced, Waits, Freed, Left, Masked, Remasked, Off, On}
use Rattle.strong_apa.specs.State.{State, IsState, task_on, is_task, is_ready, state_with_mask, state_with_online, state_with_offline}
use Rattle.strong_apa.specs.State.{state_after_leaving}
use Rattle.strong_apa.specs.History.{state_after_reply, state_after_came, state_after_entering, state_after_left}
use Rattle.strong_apa.proofs.Linked.{is_task-same}
use Rattle.schedule_picture.specs.declared.span.Seen.{Seen}
use Rattle.schedule_picture.specs.Spans.{row_of}
use Rattle.schedule_picture.specs.Track.{TrackData, fresh_track, Sees}
use Rattle.schedule_picture.specs.Tracks.{EachSees, OneSees, EachSeesOrStays, ShowBefore, last_on, mover_of}

-- ---- who comes or goes
-- t is not the task that does
abbrev IsOther : ℕ → ℕ → Type 0
IsOther u t = Some u ≢ Some t

other_number : (u t : ℕ) → IsOther u t → t ≢ u
other_number u t other same = other (ap Some (sym same))

ready-came : (s : State) (u t : ℕ) (came : Came) → IsOther u t → is_ready (state_after_came s u came) t ≡ is_ready s t
ready-came s u t (came.Placed chain) other = get_or-set_other s.ready u t true false (other_number u t other)
ready-came s u t (came.Displaced chain out reach) other = get_or-set_other s.ready u t true false (other_number u t other)
ready-came s u t (came.Waits reach) other = get_or-set_other s.ready u t true false (other_number u t other)

ready-entering : (s : State) (entered : Option ℕ) (chain : List ℕ) (t : ℕ) → is_ready (state_after_entering s entered chain) t
    ≡ is_ready s t
ready-entering s None chain t = refl
ready-entering s (Some w) chain t = refl

ready-left : (s : State) (u t : ℕ) (gone : Option Gone) → IsOther u t → is_ready (state_after_left s u gone) t ≡ is_ready s t
ready-left s u t None other = get_or-set_other s.ready u t false false (other_number u t other)
ready-left s u t (Some gone) other =
    ready-entering (state_after_leaving s u) gone.entered gone.chain t ∙ get_or-set_other s.ready u t false false (other_number u t other)

-- no task but that one does
pub ready_but : (s : State) (event : Event) (reply : Reply) (t : ℕ) → mover_of event reply ≢ Some t
    → is_ready (state_after_reply s event reply) t ≡ is_ready s t
ready_but s (Arrive u) (Placed chain) t other = ready-came s u t (came.Placed chain) other
ready_but s (Arrive u) (Displaced chain out reach) t other = ready-came s u t (came.Displaced chain out reach) other
ready_but s (Arrive u) (Waits reach) t other = ready-came s u t (came.Waits reach) other
ready_but s (Depart u) (Freed entered chain back) t other =
    ready-left s u t (Some (record { entered = entered; chain = chain; back = back })) other
ready_but s (Depart u) Left t other = ready-left s u t None other
ready_but s (Affinity u mask) Masked t other = refl
ready_but s (Affinity u mask) (Remasked gone came) t other =
    ready-came (state_with_mask (state_after_left s u gone) u mask) u t came other ∙ ready-left s u t gone other
ready_but s (Offline p) (Off None) t other = refl
ready_but s (Offline p) (Off (Some moved)) t other =
    ready-came (state_with_offline (state_after_leaving s moved.task) p) moved.task t moved.came other
    ∙ get_or-set_other s.ready moved.task t false false (other_number moved.task t other)
ready_but s (Online p) (On parts) t other = ready-entering (state_with_online s p) parts.entered parts.chain t
ready_but s event reply t other = refl

-- ---- what is seen of a task
-- in two lists of occupants it has the same place, where it is on the same processors
module _ (t : ℕ) (a b : List (Option ℕ)) (same : (p : ℕ) → is_task t (get_or a p None) ≡ is_task t (get_or b p None)) where
  found : position_or_len (is_task t) b < length b → position (is_task t) a ≡ position (is_task t) b
  found lt =
      let i = position_or_len (is_task t) b in
      let here : is_task t (get_or a i None) ≡ true = same i ∙ passes_at_first (is_task t) b None lt in
      let inside : i < length a = elim (cases_lt i (length a)) [
        | inl less ↦ less
        | inr past ↦ absurd (false≢true (sym (ap (is_task t) (get_or_past a i None past)) ∙ here))
      ] in
      let first : position_or_len (is_task t) a ≡ i =
      position_or_len_is (is_task t) a i None (omega arith) (λ k below. same k ∙ fails_before_first (is_task t) b k None below)
      (λ _. here) in
      rw (first, lt-ltb i (length a) inside, lt-ltb i (length b) lt) refl

  missing : length b ≤ position_or_len (is_task t) b → position (is_task t) a ≡ position (is_task t) b
  missing le =
      let nowhere : (k : ℕ) → is_task t (get_or a k None) ≡ false =
      λ k. same k ∙ elim (cases_lt k (length b)) [
        | inl less ↦ fails_before_first (is_task t) b k None (omega arith)
        | inr past ↦ ap (is_task t) (get_or_past b k None past)
      ] in
      let first : position_or_len (is_task t) a ≡ length a =
      position_or_len_is (is_task t) a (length a) None (omega arith) (λ k below. nowhere k) (λ lt. absurd (omega arith)) in
      rw (first, le-ltb (length a) (length a) (omega arith), le-ltb (position_or_len (is_task t) b) (length b) le) refl

  same_place : position (is_task t) a ≡ position (is_task t) b
  same_place = elim (cases_lt (position_or_len (is_task t) b) (length b)) [ inl lt ↦ found lt | inr le ↦ missing le ]

-- and so the same is seen of it, where it stays ready or absent
pub row_same : (old new : State) (t : ℕ) → is_ready new t ≡ is_ready old t
    → ((p : ℕ) → is_task t (task_on new p) ≡ is_task t (task_on old p)) → row_of new t ≡ row_of old t
row_same old new t ready same = rw (ready, same_place t new.on old.on same) refl

-- ---- the tracks
sees_twice : (n : ℕ) (seen : Option Seen) (old mid new : TrackData) → Sees n seen old mid → Sees n seen mid new → Sees n seen old new
sees_twice n seen old mid new first second = elim first [
  | inl stays ↦ subst (λ (track : TrackData). Sees n seen track new) stays.1 second
  | inr changes ↦ elim second [
    | inl stays ↦ inr (changes.0, stays.1 ∙ changes.1)
    | inr again ↦ absurd (again.0 (sym (ap (λ (track : TrackData). track.current) changes.1)))
  ]
]

pub looks_none : (n : ℕ) (s : State) (Unchanged : ℕ → Type 0) (rows : List TrackData) → ((t : ℕ) → t < length rows → Unchanged t)
    → EachSeesOrStays n s Unchanged rows rows
looks_none n s Unchanged rows unchanged = record {
  count = refl;
  each = λ t d lt. inl (unchanged t lt, refl);
}

-- a look at one task
pub looks_one : (n t : ℕ) (s : State) (seen : Option Seen) (old new : List TrackData) → seen ≡ row_of s t → OneSees n t seen old new
    → EachSeesOrStays n s (λ u. is_task u (Some t) ≡ false) old new
looks_one n t s seen old new is one = record {
  count = one.count;
  each = λ u d lt. elim (cases_eq u t) [
    | inl same ↦
        inr (subst (λ (v : ℕ). Sees n (row_of s v) (get_or old v d) (get_or new v d)) (sym same)
        (subst (λ (what : Option Seen). Sees n what (get_or old t d) (get_or new t d)) is (one.there d)))
    | inr other ↦ inl (ne_eqb t u (λ same. other (sym same)), one.others u d other)
  ];
}

-- no look at a task that there is not
pub looks_far : (n t : ℕ) (s : State) (rows : List TrackData) → length rows ≤ t
    → EachSeesOrStays n s (λ u. is_task u (Some t) ≡ false) rows rows
looks_far n t s rows far = looks_none n s (λ u. is_task u (Some t) ≡ false) rows (λ u lt. ne_eqb t u (λ same. absurd (omega arith)))

-- one look after another
pub looks_more : (n : ℕ) (s : State) (A B C : ℕ → Type 0) (old mid new : List TrackData) → EachSeesOrStays n s A old mid
    → EachSeesOrStays n s B mid new → ((t : ℕ) → A t → B t → C t) → EachSeesOrStays n s C old new
looks_more n s A B C old mid new first second both = record {
  count = second.count ∙ first.count;
  each = λ t d lt. elim (first.each t d lt) [
    | inl a ↦ elim (second.each t d (rw first.count lt)) [
      | inl b ↦ inl (both t a.0 b.0, b.1 ∙ a.1)
      | inr sees ↦ inr (subst (λ (track : TrackData). Sees n (row_of s t) track (get_or new t d)) a.1 sees)
    ]
    | inr sees ↦ elim (second.each t d (rw first.count lt)) [
      | inl b ↦ inr (subst (λ (track : TrackData). Sees n (row_of s t) (get_or old t d) track) (sym b.1) sees)
      | inr again ↦ inr (sees_twice n (row_of s t) (get_or old t d) (get_or mid t d) (get_or new t d) sees again)
    ]
  ];
}

-- one processor more
pub looks_next : (n p : ℕ) (s : State) (lanes : List TrackData) (before after : Option ℕ) (old mid new : List TrackData)
    → before ≡ last_on lanes p → after ≡ task_on s p
    → EachSeesOrStays n s (λ t. (q : ℕ) → q < p → is_task t (last_on lanes q) ≡ is_task t (task_on s q)) old mid
    → EachSeesOrStays n s (λ t. is_task t before ≡ is_task t after) mid new
    → EachSeesOrStays n s (λ t. (q : ℕ) → q < p + 1 → is_task t (last_on lanes q) ≡ is_task t (task_on s q)) old new
looks_next n p s lanes before after old mid new is_before is_after below here =
    looks_more n s (λ t. (q : ℕ) → q < p → is_task t (last_on lanes q) ≡ is_task t (task_on s q)) (λ t. is_task t before ≡ is_task t after)
    (λ t. (q : ℕ) → q < p + 1 → is_task t (last_on lanes q) ≡ is_task t (task_on s q)) old mid new below here
    (λ t a b. below_more (λ q. is_task t (last_on lanes q) ≡ is_task t (task_on s q)) p a
    (sym (ap (is_task t) is_before) ∙ b ∙ ap (is_task t) is_after))

-- all of them
pub looks_whole : (n p count : ℕ) (s : State) (lanes old new : List TrackData) → p ≡ count
    → EachSeesOrStays n s (λ t. (q : ℕ) → q < p → is_task t (last_on lanes q) ≡ is_task t (task_on s q)) old new
    → EachSeesOrStays n s (λ t. (q : ℕ) → q < count → is_task t (last_on lanes q) ≡ is_task t (task_on s q)) old new
looks_whole n p count s lanes old new all below =
    subst (λ (k : ℕ). EachSeesOrStays n s (λ t. (q : ℕ) → q < k → is_task t (last_on lanes q) ≡ is_task t (task_on s q)) old new) all below

-- once all that can have changed was looked at
module _ (n : ℕ) (s : State) (ok : IsState s) (mover : Option ℕ) (lanes old mid new : List TrackData)
    (show : ShowBefore mover s lanes old) where
  others_same : (t : ℕ) → ((p : ℕ) → p < s.processors → is_task t (last_on lanes p) ≡ is_task t (task_on s p)) → is_task t mover ≡ false
      → row_of s t ≡ row_of show.before t
  others_same t agree other = row_same show.before s t
      (show.ready t (λ same. false≢true (sym other ∙ ap (is_task t) same ∙ is_task-same t)))
      (λ p. elim (cases_lt p s.processors) [
        | inl lt ↦ sym (agree p lt) ∙ ap (is_task t) (show.lanes_show p lt)
        | inr ge ↦ ap (is_task t) (get_or_past s.on p None (let count = ok.on_count in omega arith) ∙ sym (show.no_more p ge))
      ])

  pub looks_all : EachSeesOrStays n s (λ t. (p : ℕ) → p < s.processors → is_task t (last_on lanes p) ≡ is_task t (task_on s p)) old mid
      → EachSeesOrStays n s (λ t. is_task t mover ≡ false) mid new → EachSees n (row_of s) old new
  looks_all relinked moved =
      let all = looks_more n s (λ t. (p : ℕ) → p < s.processors → is_task t (last_on lanes p) ≡ is_task t (task_on s p))
      (λ t. is_task t mover ≡ false) (λ t. row_of s t ≡ row_of show.before t) old mid new relinked moved others_same in
      record {
        count = all.count;
        each = λ t d lt. elim (all.each t d lt) [
          | inl stays ↦ inl (
            stays.0 ∙ sym (show.rows_show t lt)
                ∙ ap (λ (track : TrackData). track.current) (get_or_default old t fresh_track d lt),
            stays.1,
          )
          | inr sees ↦ sees
        ];
      }
