-- What observers saw, once it is known that the published entries are the history.
use Rattle.std.proofs.Common.{◌≡◌, ℕ, ◌≤◌, List, [], ◌∷◌, length, take, get_or, Bool, Result, Ok, Err, IfOk, Vec, sym, ap, ◌∙◌, subst}
use Rattle.std.proofs.Common.{arith}
use Rattle.std.specs.Prelude.{All}
use Rattle.std.specs.declared.alloc.Global.{Global}
use Rattle.std.proofs.Math.Seq.{take-append_seam}
use mathlib.Core.List.{IsPrefix}
use Rattle.task_set.specs.TaskSet.{SetData}
use Rattle.strong_apa.specs.declared.reply.Entry.{Entry}
use Rattle.event_history.specs.Boards.{PassData}
use Rattle.event_history.specs.Closing.{AllTell}
use Rattle.event_history.proofs.Prefixes.{prefix_length, prefix_trans}
use Rattle.schedule_board.specs.declared.picture.Picture.{Picture}
use Rattle.schedule_board.specs.Pictures.{IsPictureOf}
use Rattle.schedule_board.proofs.Prefixes.{prefix_whole}
use Rattle.replay.specs.Passes.{FirstSawJust, FirstSawClose}
use Rattle.replay.specs.Sightings.{IsSightingOf}
use Rattle.replay.specs.Watches.{ArePicturesOf, IsToldOf}
use Rattle.replay.specs.declared.sighting.Sighting.{Sighting}

-- a prefix is so many of the entries, and its picture is that of so many
taken : (entries history : List Entry) → IsPrefix entries history → take (length entries) history ≡ entries
taken entries history begins = ap (take (length entries)) (sym begins.1) ∙ take-append_seam entries begins.0

picture_taken : (m : ℕ) (entries history : List Entry) (picture : Picture) → IsPrefix entries history → IsPictureOf m entries picture
    → IsPictureOf m (take picture.count history) picture
picture_taken m entries history picture begins is =
    subst (λ (l : List Entry). IsPictureOf m l picture) (sym (ap (λ (n : ℕ). take n history) is.count ∙ taken entries history begins)) is

-- who was told of the whole history and saw no more than it has saw it all in the end
pub sighting_of : (set : SetData) (history : List Entry) (s : Sighting) → IsToldOf set.processors history s → s.told.count ≤ length history
    → IsSightingOf set history s
sighting_of set history s h few =
    let m : ℕ = set.processors in
    let whole : history ≡ h.all = prefix_whole history h.all h.begins (omega (arith, h.told.count, few)) in
    let reads : ArePicturesOf m history s.first s.last = subst (λ (l : List Entry). ArePicturesOf m l s.first s.last) (sym whole) h.reads in
    let first_last : length reads.at_first ≤ length reads.at_last = prefix_length reads.at_first reads.at_last reads.later in
    let last_all : length reads.at_last ≤ length history = prefix_length reads.at_last history reads.within in
    record {
      first = picture_taken m reads.at_first history s.first (prefix_trans reads.at_first reads.at_last history reads.later reads.within)
          reads.first_of;
      last = picture_taken m reads.at_last history s.last reads.within reads.last_of;
      told = subst (λ (l : List Entry). IsPictureOf m l s.told) (sym whole) h.told;
      first_to_last = omega (arith, first_last, reads.first_of.count, reads.last_of.count);
      last_to_told = omega (arith, last_all, reads.last_of.count, h.told.count, ap length whole);
    }

-- what was read stays so as more is seen
pub reads_further : (m : ℕ) (old mid new : List Entry) (first last : Picture) → ArePicturesOf m old first last → mid ≡ old
    → IsPrefix mid new → ArePicturesOf m new first last
reads_further m old mid new first last reads same more = record {
  at_first = reads.at_first;
  at_last = reads.at_last;
  first_of = reads.first_of;
  last_of = reads.last_of;
  later = reads.later;
  within = prefix_trans reads.at_last old new reads.within (subst (λ (l : List Entry). IsPrefix l new) same more);
}

-- what was published is the history, where the first pass has seen just that, and saw the close
pub published_is_history : (published history : List Entry) (closed : Bool) (passes : List PassData) → FirstSawJust published passes
    → FirstSawClose passes → AllTell history closed passes → published ≡ history
published_is_history published history closed [] saw close told = absurd saw
published_is_history published history closed (pass ∷ rest) saw close told = saw ∙ (told.0.close close).0

pub sightings_of : (set : SetData) (m : ℕ) (published history : List Entry) (all : List Sighting) → m ≡ set.processors → published ≡ history
    → All (IsToldOf m published) all → All (λ (s : Sighting). s.told.count ≤ length history) all → All (IsSightingOf set history) all
sightings_of set m published history all same is told few = λ i d low.
    let s : Sighting = get_or all i d in
    sighting_of set history s (subst (λ (k : ℕ). IsToldOf k history s) same (subst (λ (l : List Entry). IsToldOf m l s) is (told i d low)))
    (few i d low)

-- the counts were compared with the length of the history
pub few_of : (count : ℕ) (history : List Entry) (all : List Sighting) → count ≡ length history
    → All (λ (s : Sighting). s.told.count ≤ count) all → All (λ (s : Sighting). s.told.count ≤ length history) all
few_of count history all is few = subst (λ (n : ℕ). All (λ (s : Sighting). s.told.count ≤ n) all) is few

-- what was told is of what the first pass has just seen
pub told_whole : {E : Type 0} (published : List Entry) (passes : List PassData) (m processors : ℕ) (result : Result (Vec Sighting Global) E)
    → FirstSawJust published passes → m ≡ processors
    → IfOk result (λ (all : Vec Sighting Global). All (IsToldOf m published) all.items)
    → IfOk result (λ (all : Vec Sighting Global). (whole : List Entry) × FirstSawJust whole passes
    × All (IsToldOf processors whole) all.items)
told_whole published passes m processors (Ok all) saw same told =
    (published, saw, subst (λ (k : ℕ). All (IsToldOf k published) all.items) same told)
told_whole published passes m processors (Err e) saw same told = tt
