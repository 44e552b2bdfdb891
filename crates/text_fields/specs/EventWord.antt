-- The first words of events in both texts.
use Rattle.std.specs.Prelude.{◌≢◌, ℕ, List, codes}
use Rattle.text_fields.specs.declared.word.EventWord.{EventWord}
use Rattle.text_fields.specs.declared.word.EventWord.TheVariants.{Arrive, Depart, Tick, Affinity}
use Rattle.text_fields.specs.declared.word.EventWord.TheVariants.{Offline, Online}

-- the bytes of a word
abbrev pub word_text : EventWord → List ℕ
word_text Arrive = codes "arrive"
word_text Depart = codes "depart"
word_text Tick = codes "tick"
word_text Affinity = codes "affinity"
word_text Offline = codes "offline"
word_text Online = codes "online"

-- no event has this word
abbrev pub IsNoEventWord : List ℕ → Type 0
IsNoEventWord field = (word : EventWord) → field ≢ word_text word
