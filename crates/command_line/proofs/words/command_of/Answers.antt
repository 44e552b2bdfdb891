use Rattle.std.proofs.Common.{◌≡◌, ℕ, ◌<◌, ◌≤◌, List, [], ◌∷◌, length, get_or, map, String, inl, refl, sym, ap, ◌∙◌, arith}
use Rattle.std.specs.Prelude.{string_bytes}
use Rattle.std.specs.declared.alloc.Global.{Global}
use Rattle.command_line.proofs.CommandBytes.{unsized_words, unwindowed_words, two_words, three_words, five_words}
use Rattle.command_line.proofs.words.command_of.Goals as goal

-- one word, by its place
one_word : (words : List (String Global)) (a : String Global) → 1 ≤ length words → length words < 2 → a ≡ get_or words 0 a
    → map (string_bytes {Z = Global}) words ≡ string_bytes a ∷ []
one_word (v ∷ []) a least most one = rw one refl
one_word [] a least most one = absurd (omega arith)
one_word (v ∷ w ∷ more) a least most one = absurd (omega arith)

-- one word, by its text
said_alone : (words : List (String Global)) (a : String Global) (text said : List ℕ) → 1 ≤ length words → length words < 2
    → a ≡ get_or words 0 a → said ≡ string_bytes a → said ≡ text → map (string_bytes {Z = Global}) words ≡ text ∷ []
said_alone words a text said least most one same is = one_word words a least most one ∙ ap (λ (word : List ℕ). word ∷ []) (sym same ∙ is)

-- the first of several words, by its text
said_first : (words more : List (List ℕ)) (first text said : List ℕ) → words ≡ first ∷ more → said ≡ first → said ≡ text
    → words ≡ text ∷ more
said_first words more first text said each same is = each ∙ ap (λ (word : List ℕ). word ∷ more) (sym same ∙ is)

pub returns-in_default-sizes_of : goal.returns-in_default-sizes_of
returns-in_default-sizes_of c =
    let words : map (string_bytes {Z = Global}) c.args.words.now ≡ string_bytes c.word-item-then-words-lt6.result
    ∷ string_bytes c.number-item-then-words-lt6.result ∷ string_bytes c.processors-item.result ∷ string_bytes c.tasks-item.result
    ∷ string_bytes c.events-item.result ∷ [] =
    five_words c.args.words.now _ _ _ _ _ c.in-len5.len_at_least c.in-len5.len_below c.word-item-then-words-lt6.is
    c.number-item-then-words-lt6.is c.processors-item.is c.tasks-item.is c.events-item.is in
    unsized_words _ _ _ _ _ _ words (rw (
      c.deref-in-len5.ensures,
      c.deref-in-len5-2.ensures,
      c.deref-in-len5-3.ensures,
      c.deref-in-len5-4.ensures,
    ) at c.in_default-sizes_of.ensures)

pub returns-in_default-window_of : goal.returns-in_default-window_of
returns-in_default-window_of c =
    let words : map (string_bytes {Z = Global}) c.args.words.now ≡ string_bytes c.word-item-then-words-lt4.result
    ∷ string_bytes c.from-item.result ∷ string_bytes c.to-item.result ∷ [] =
    three_words c.args.words.now _ _ _ c.in-len3.len_at_least c.in-len3.len_below c.word-item-then-words-lt4.is c.from-item.is
    c.to-item.is in
    unwindowed_words _ _ _ _ words (rw (c.deref-in-len3.ensures, c.deref-in-len3-2.ensures) at c.in_default-window_of.ensures)

pub returns-in-run : goal.returns-in-run
returns-in-run c =
    said_alone c.args.words.now _ _ _ c.in-len1.len_at_least c.in-len1.len_below c.word-item.is c.as_str.ensures.value c.in-run.is

pub returns-in-check : goal.returns-in-check
returns-in-check c =
    said_alone c.args.words.now _ _ _ c.in-len1.len_at_least c.in-len1.len_below c.word-item.is c.as_str.ensures.value c.in-check.is

pub returns-in-weak : goal.returns-in-weak
returns-in-weak c =
    said_alone c.args.words.now _ _ _ c.in-len1.len_at_least c.in-len1.len_below c.word-item.is c.as_str.ensures.value c.in-weak.is

pub returns-in-nested : goal.returns-in-nested
returns-in-nested c =
    said_alone c.args.words.now _ _ _ c.in-len1.len_at_least c.in-len1.len_below c.word-item.is c.as_str.ensures.value c.in-nested.is

pub returns-in-jobs : goal.returns-in-jobs
returns-in-jobs c =
    said_alone c.args.words.now _ _ _ c.in-len1.len_at_least c.in-len1.len_below c.word-item.is c.as_str.ensures.value c.in-jobs.is

pub returns-in-weakjobs : goal.returns-in-weakjobs
returns-in-weakjobs c =
    said_alone c.args.words.now _ _ _ c.in-len1.len_at_least c.in-len1.len_below c.word-item.is c.as_str.ensures.value c.in-weakjobs.is

pub returns-in-runjobs : goal.returns-in-runjobs
returns-in-runjobs c =
    said_alone c.args.words.now _ _ _ c.in-len1.len_at_least c.in-len1.len_below c.word-item.is c.as_str.ensures.value c.in-runjobs.is

pub returns-in-import : goal.returns-in-import
returns-in-import c =
    said_alone c.args.words.now _ _ _ c.in-len1.len_at_least c.in-len1.len_below c.word-item.is c.as_str.ensures.value c.in-import.is

pub returns-in-importjobs : goal.returns-in-importjobs
returns-in-importjobs c =
    said_alone c.args.words.now _ _ _ c.in-len1.len_at_least c.in-len1.len_below c.word-item.is c.as_str.ensures.value c.in-importjobs.is

pub returns-in-chrome : goal.returns-in-chrome
returns-in-chrome c = inl (record {
  each_word = said_alone c.args.words.now _ _ _ c.in-len1.len_at_least c.in-len1.len_below c.word-item.is
      c.as_str.ensures.value c.in-chrome.is;
  from_zero = refl;
})

pub returns-in-lost : goal.returns-in-lost
returns-in-lost c =
    said_alone c.args.words.now _ _ _ c.in-len1.len_at_least c.in-len1.len_below c.word-item.is c.as_str.ensures.value c.in-lost.is

pub returns-in-draw : goal.returns-in-draw
returns-in-draw c = inl (record {
  each_word = said_alone c.args.words.now _ _ _ c.in-len1.len_at_least c.in-len1.len_below c.word-item.is
      c.as_str.ensures.value c.in-draw.is;
  from_start = refl;
  to_end = refl;
})

pub returns-in-steps : goal.returns-in-steps
returns-in-steps c = inl (record {
  each_word = said_alone c.args.words.now _ _ _ c.in-len1.len_at_least c.in-len1.len_below c.word-item.is
      c.as_str.ensures.value c.in-steps.is;
  from_start = refl;
  to_end = refl;
})

pub returns-in-show : goal.returns-in-show
returns-in-show c = inl (record {
  each_word = said_alone c.args.words.now _ _ _ c.in-len1.len_at_least c.in-len1.len_below c.word-item.is
      c.as_str.ensures.value c.in-show.is;
  from_start = refl;
  to_end = refl;
})

pub returns-in-len2 : goal.returns-in-len2
returns-in-len2 c =
    let words : map (string_bytes {Z = Global}) c.args.words.now ≡ string_bytes c.word-item-then-words-lt3.result
    ∷ string_bytes c.number-item.result ∷ [] =
    two_words c.args.words.now _ _ c.in-len2.len_at_least c.in-len2.len_below c.word-item-then-words-lt3.is c.number-item.is in
    rw words (rw (c.deref-in-len2.ensures, c.deref.ensures) at c.numbered.ensures)

pub returns-in-make : goal.returns-in-make
returns-in-make c =
    let words : map (string_bytes {Z = Global}) c.args.words.now ≡ string_bytes c.word-item-then-words-lt6.result
    ∷ string_bytes c.number-item-then-words-lt6.result ∷ string_bytes c.processors-item.result ∷ string_bytes c.tasks-item.result
    ∷ string_bytes c.events-item.result ∷ [] =
    five_words c.args.words.now _ _ _ _ _ c.in-len5.len_at_least c.in-len5.len_below c.word-item-then-words-lt6.is
    c.number-item-then-words-lt6.is c.processors-item.is c.tasks-item.is c.events-item.is in
    record {
      number = string_bytes c.number-item-then-words-lt6.result;
      processors = string_bytes c.processors-item.result;
      tasks = string_bytes c.tasks-item.result;
      events = string_bytes c.events-item.result;
      each_word = said_first _ _ _ _ _ words c.as_str-in-len5.ensures.value c.in-make.is;
      sized = rw (c.deref-in-len5.ensures, c.deref-in-len5-2.ensures, c.deref-in-len5-3.ensures, c.deref-in-len5-4.ensures)
          at c.in-Some-sizes_of.ensures;
    }

pub returns-in-large : goal.returns-in-large
returns-in-large c =
    let words : map (string_bytes {Z = Global}) c.args.words.now ≡ string_bytes c.word-item-then-words-lt6.result
    ∷ string_bytes c.number-item-then-words-lt6.result ∷ string_bytes c.processors-item.result ∷ string_bytes c.tasks-item.result
    ∷ string_bytes c.events-item.result ∷ [] =
    five_words c.args.words.now _ _ _ _ _ c.in-len5.len_at_least c.in-len5.len_below c.word-item-then-words-lt6.is
    c.number-item-then-words-lt6.is c.processors-item.is c.tasks-item.is c.events-item.is in
    record {
      number = string_bytes c.number-item-then-words-lt6.result;
      processors = string_bytes c.processors-item.result;
      tasks = string_bytes c.tasks-item.result;
      events = string_bytes c.events-item.result;
      each_word = said_first _ _ _ _ _ words c.as_str-in-len5.ensures.value c.in-large.is;
      sized = rw (c.deref-in-len5.ensures, c.deref-in-len5-2.ensures, c.deref-in-len5-3.ensures, c.deref-in-len5-4.ensures)
          at c.in-Some-sizes_of.ensures;
    }
