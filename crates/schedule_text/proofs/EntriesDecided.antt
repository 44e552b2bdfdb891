-- Names, events, replies and entries, of whose fields it is known that they say something or have a fault.
use Rattle.std.proofs.Common.{◌≡◌, ◌≢◌, ℕ, ◌<◌, ◌≤◌, ◌⊎◌, inl, inr, List, [], ◌∷◌, length, Option, Some, None, refl, sym, ap, ◌∙◌, subst}
use Rattle.std.proofs.Common.{arith, length-append, lit<}
use Rattle.std.specs.Prelude.{codes}
use Rattle.std.proofs.lemmas.Bool.{cases_eq}
use Rattle.task_set.specs.TaskSet.{SetData, IsTaskSet}
use Rattle.task_set.specs.Refusal.{IsNameOf}
use Rattle.task_set.specs.declared.event.Event.{Event}
use Rattle.task_set.specs.declared.event.Event.TheVariants.{Arrive, Depart, Tick, Affinity, Offline, Online}
use Rattle.strong_apa.specs.declared.reply.Came.TheVariants as came
use Rattle.strong_apa.specs.declared.reply.Reply.TheVariants.{Remasked, Off, On}
use Rattle.strong_apa.specs.declared.reply.Reply.{Reply}
use Rattle.strong_apa.specs.declared.reply.Entry.{Entry}
use Rattle.strong_apa.specs.Reply.{reply_of_came, reply_of_gone, IsReplyOfVersion}
use Rattle.schedule_text.specs.declared.fault.TextKind.{TextKind}
use Rattle.schedule_text.specs.declared.fault.TextKind.TheVariants.{BadLine, UnknownTask}
use Rattle.schedule_text.specs.LineForms.{IsField, HasFields}
use Rattle.schedule_text.specs.Fields.{IsSomebodyField}
use Rattle.schedule_text.specs.LineFields.{IsNoFirstWord, IsPartFault, IsSaid, IsNameFault, IsCameFields, IsGoneFields, IsGoneThen}
use Rattle.schedule_text.specs.LineFields.{IsReplyFields, IsEventFields, IsEventThen, IsEntryFields, IsEntryFault, displaced_fields}
use Rattle.schedule_text.specs.LineFields.{gone_words}
use Rattle.text_fields.proofs.Words.{head_same, tail_same}
use Rattle.text_fields.proofs.Addable.{name_decided}
use Rattle.text_fields.proofs.Decisions.{bytes_decided}
use Rattle.text_fields.proofs.NamedTasks.{named_task}
use Rattle.schedule_text.proofs.Decisions.{both_decided, field_decided, number_field_decided, processor_field_decided, mask_field_decided}
use Rattle.schedule_text.proofs.Decisions.{set_field_decided, chain_field_decided}
use Rattle.schedule_text.proofs.Names.{IsNamed, set_fields, named_fault}
use Rattle.schedule_text.proofs.Parts.{IsDecided, parts_decided, same_decided, none_said}
use Rattle.schedule_text.proofs.Shapes.{tick_none, first_none, no_processor, no_event, tick_read, offline_read, online_read, three_none}
use Rattle.schedule_text.proofs.Shapes.{mask_of_some, affinity_read, event_length, arrival_read, departure_read, arrival_fault}
use Rattle.schedule_text.proofs.Shapes.{departure_fault, affinity_fault}
use Rattle.schedule_text.proofs.Arrivals.{placed_read, waits_read, placed_none, waits_none, two_none, displaced_read, displaced_parts}
use Rattle.schedule_text.proofs.Arrivals.{displaced_fault, six_words, six_none, came_length, gone_read, gone_parts, gone_fault, five_words}
use Rattle.schedule_text.proofs.Arrivals.{five_none, gone_length}
use Rattle.schedule_text.proofs.Replies.{came_to, came_from, freed_to, freed_from, on_to, on_from, on_none, unmoved_read, off_none}
use Rattle.schedule_text.proofs.Replies.{off_other, moved_parts, moved_written, waiting_to, waiting_from, waiting_other, linked_parts}
use Rattle.schedule_text.proofs.Replies.{linked_to, linked_other, remasked_none, remasked_other, moved_reply}
use Rattle.schedule_text.proofs.ReplyFields.{no_fields}
use Rattle.schedule_text.proofs.FieldLists.{short_gone}
use Rattle.schedule_text.proofs.FirstWords.{word_replies, reply_named, none_some, some_same, version_decided, word_read, word_told}
use Rattle.schedule_text.proofs.Entries.{some_stream, some_event_then, entry_of_parts, entry_parts}

-- ---- names

name_field_decided : (set : SetData) (value : List ℕ) → ((t : ℕ) × IsNameOf set t value)
    ⊎ ((kind : TextKind) × IsNameFault set value kind)
name_field_decided set value = elim (field_decided value) [
  | inr bad ↦ inr (BadLine, inl (refl, bad))
  | inl field ↦ elim (name_decided set value) [
    | inl found ↦ inl found
    | inr new ↦ inr (UnknownTask, inr (refl, field, new))
  ]
]

-- a name, as a part of a line
name_part_decided : (set : SetData) (value : List ℕ) → IsNamed set value
    ⊎ ((kind : TextKind) × IsPartFault (IsField value) (IsNamed set value) kind)
name_part_decided set value = elim (name_field_decided set value) [
  | inl found ↦ (let named = named_task set found.0 value found.1 in inl (found.0, named.0, named.1))
  | inr fault ↦ inr (fault.0, named_fault set value fault.0 fault.1)
]

somebody_decided : (set : SetData) (value : List ℕ) → ((entered : Option ℕ) × IsSomebodyField set value entered)
    ⊎ ((kind : TextKind) × ((value ≢ codes "-") × IsNameFault set value kind))
somebody_decided set value = elim (bytes_decided value (codes "-")) [
  | inl dash ↦ inl (None, record { about = tt; is_text = dash })
  | inr no_dash ↦ elim (name_field_decided set value) [
    | inl found ↦ (let named = named_task set found.0 value found.1 in inl
        (Some found.0, record { about = named.0; is_text = named.1 }))
    | inr fault ↦ inr (fault.0, (no_dash, fault.1))
  ]
]

-- ---- events

module _ (version : ℕ) (set : SetData) (range : (1 ≤ set.processors) × (set.processors ≤ 64)) where
  valued_decided : (word value : List ℕ) → IsDecided (IsEventFields version set.processors (word ∷ value ∷ [])) set
  valued_decided word value = elim (bytes_decided word (codes "arrive")) [
    | inl arrive ↦ elim (name_field_decided set value) [
      | inl found ↦ inl (Arrive found.0, arrival_read version set word value found.0 arrive found.1)
      | inr fault ↦ inr (fault.0, arrival_fault version set word value fault.0 arrive fault.1)
    ]
    | inr no_arrive ↦ elim (bytes_decided word (codes "depart")) [
      | inl depart ↦ elim (name_field_decided set value) [
        | inl found ↦ inl (Depart found.0, departure_read version set word value found.0 depart found.1)
        | inr fault ↦ inr (fault.0, departure_fault version set word value fault.0 depart fault.1)
      ]
      | inr no_depart ↦ elim (bytes_decided word (codes "tick")) [
        | inl ticks ↦ elim (number_field_decided 1 1000000 value (lit< tt)) [
          | inl found ↦ inl (Tick found.0, tick_read version m set word value found.0 refl ticks found.1)
          | inr none ↦ none_said says set (tick_none version m word value ticks none)
        ]
        | inr no_tick ↦ (let no_word : IsNoFirstWord word = (no_arrive, no_depart, no_tick) in elim (cases_eq version 2) [
          | inr other ↦ none_said says set (first_none version m word value other no_word)
          | inl two ↦ elim (processor_field_decided m value range) [
            | inr none ↦ none_said says set (no_processor version m word value no_word none)
            | inl found ↦ elim (bytes_decided word (codes "offline")) [
              | inl is ↦ inl (Offline found.0, offline_read version m set word value found.0 refl two is found.1)
              | inr no_leaving ↦ elim (bytes_decided word (codes "online")) [
                | inl is ↦ inl (Online found.0, online_read version m set word value found.0 refl two is found.1)
                | inr no_return ↦ none_said says set (no_event version m word value no_word no_leaving no_return)
              ]
            ]
          ]
        ])
      ]
    ]
  ]
    where
      m : ℕ
      m = set.processors

      says : SetData → Event → Type 0
      says = IsEventFields version set.processors (word ∷ value ∷ [])

  affinity_decided : (word name list : List ℕ)
      → IsDecided (IsEventFields version set.processors (word ∷ name ∷ list ∷ [])) set
  affinity_decided word name list = elim (both_decided (cases_eq version 2) (bytes_decided word (codes "affinity"))) [
    | inr other ↦ none_said (IsEventFields version set.processors (word ∷ name ∷ list ∷ [])) set
        (three_none version set.processors word name list (λ two is. other (two, is)))
    | inl (two, is) ↦ elim (mask_field_decided set.processors list range.1) [
      | inr none ↦ none_said (IsEventFields version set.processors (word ∷ name ∷ list ∷ [])) set
          (λ some. let mask = mask_of_some version set.processors word name list some in none mask.0 mask.1)
      | inl mask ↦ elim (name_field_decided set name) [
        | inl found ↦ inl (
          Affinity found.0 mask.0,
          affinity_read version set.processors set word name list found.0 mask.0 refl two is found.1 mask.1,
        )
        | inr fault ↦ inr (fault.0, affinity_fault version set word name list mask.0 fault.0 two is mask.1 fault.1)
      ]
    ]
  ]

  event_decided : (fields : List (List ℕ)) → IsDecided (IsEventFields version set.processors fields) set
  event_decided (word ∷ value ∷ []) = valued_decided word value
  event_decided (word ∷ name ∷ list ∷ []) = affinity_decided word name list
  event_decided fields =
      none_said (IsEventFields version set.processors fields) set
      (event_length version set.processors fields (λ e. omega (arith, e)) (λ e. omega (arith, e)))

-- ---- the parts of a reply

two_decided : (set : SetData) (word value : List ℕ) → IsDecided (IsCameFields (word ∷ value ∷ [])) set
two_decided set word value = elim (bytes_decided word (codes "placed")) [
  | inl placed ↦ elim (chain_field_decided value) [
    | inl found ↦ inl (came.Placed found.0, placed_read set word value found.0 placed found.1)
    | inr none ↦ none_said (IsCameFields (word ∷ value ∷ [])) set (placed_none word value placed none)
  ]
  | inr no_chain ↦ elim (bytes_decided word (codes "waits")) [
    | inl waits ↦ elim (set_field_decided value) [
      | inl found ↦ inl (came.Waits found.0, waits_read set word value found.0 waits found.1)
      | inr none ↦ none_said (IsCameFields (word ∷ value ∷ [])) set (waits_none word value waits none)
    ]
    | inr no_set ↦ none_said (IsCameFields (word ∷ value ∷ [])) set (two_none word value no_chain no_set)
  ]
]

displaced_decided : (set : SetData) (chain name processors : List ℕ)
    → IsDecided (IsCameFields (displaced_fields chain name processors)) set
displaced_decided set chain name processors = elim (chain_field_decided chain) [
  | inr none ↦ none_said (IsCameFields (displaced_fields chain name processors)) set
      (λ some. let parts = displaced_parts chain name processors some in none parts.links parts.is_chain)
  | inl links ↦ elim (set_field_decided processors) [
    | inr none ↦ none_said (IsCameFields (displaced_fields chain name processors)) set
        (λ some. let parts = displaced_parts chain name processors some in none parts.X parts.is_set)
    | inl reach ↦ elim (name_field_decided set name) [
      | inl out ↦ inl (
        came.Displaced links.0 out.0 reach.0,
        displaced_read set chain name processors links.0 out.0 reach.0 links.1 out.1 reach.1,
      )
      | inr fault ↦ inr (
        fault.0,
        displaced_fault set chain name processors links.0 reach.0 fault.0 links.1 reach.1 fault.1,
      )
    ]
  ]
]

-- three words are these or not
words_decided : (a b c one two three : List ℕ) → ((a ≡ one) × (b ≡ two) × (c ≡ three))
    ⊎ (((a ≡ one) × (b ≡ two) × (c ≡ three)) → ⊥)
words_decided a b c one two three =
    elim (both_decided (bytes_decided a one) (both_decided (bytes_decided b two) (bytes_decided c three))) [
      | inl all ↦ inl (all.0, all.1.0, all.1.1)
      | inr differ ↦ inr (λ all. differ (all.0, (all.1, all.2)))
    ]

six_decided : (set : SetData) (a b c d e f : List ℕ) → IsDecided (IsCameFields (a ∷ b ∷ c ∷ d ∷ e ∷ f ∷ [])) set
six_decided set a b c d e f = elim (words_decided a c e (codes "displaced") (codes "out") (codes "reach")) [
  | inl words ↦ subst (λ (fields : List (List ℕ)). IsDecided (IsCameFields fields) set)
      (six_words (a ∷ b ∷ c ∷ d ∷ e ∷ f ∷ []) a b c d e f refl words) (displaced_decided set b d f)
  | inr no_out ↦ none_said (IsCameFields (a ∷ b ∷ c ∷ d ∷ e ∷ f ∷ [])) set
      (six_none (a ∷ b ∷ c ∷ d ∷ e ∷ f ∷ []) a b c d e f refl no_out)
]

came_decided : (set : SetData) (fields : List (List ℕ)) → IsDecided (IsCameFields fields) set
came_decided set (word ∷ value ∷ []) = two_decided set word value
came_decided set (a ∷ b ∷ c ∷ d ∷ e ∷ f ∷ []) = six_decided set a b c d e f
came_decided set fields =
    none_said (IsCameFields fields) set (came_length fields (λ e. omega (arith, e)) (λ e. omega (arith, e)))

gone_words_decided : (set : SetData) (chain name processors : List ℕ)
    → IsDecided (IsGoneFields (gone_words chain name processors)) set
gone_words_decided set chain name processors = elim (chain_field_decided chain) [
  | inr none ↦ none_said (IsGoneFields (gone_words chain name processors)) set
      (λ some. let parts = gone_parts chain name processors some in none parts.links parts.is_chain)
  | inl links ↦ elim (set_field_decided processors) [
    | inr none ↦ none_said (IsGoneFields (gone_words chain name processors)) set
        (λ some. let parts = gone_parts chain name processors some in none parts.X parts.is_set)
    | inl back ↦ elim (somebody_decided set name) [
      | inl entered ↦ inl (
        record { entered = entered.0; chain = links.0; back = back.0 },
        gone_read set chain name processors links.0 entered.0 back.0 links.1 entered.1 back.1,
      )
      | inr fault ↦ inr (fault.0, gone_fault set chain name processors links.0 back.0 fault.0 links.1 back.1 fault.1)
    ]
  ]
]

five_decided : (set : SetData) (a b c d e : List ℕ) → IsDecided (IsGoneFields (a ∷ b ∷ c ∷ d ∷ e ∷ [])) set
five_decided set a b c d e = elim (both_decided (bytes_decided b (codes "enters")) (bytes_decided d (codes "back"))) [
  | inl words ↦ subst (λ (fields : List (List ℕ)). IsDecided (IsGoneFields fields) set)
      (five_words (a ∷ b ∷ c ∷ d ∷ e ∷ []) a b c d e refl words) (gone_words_decided set a c e)
  | inr no_words ↦ none_said (IsGoneFields (a ∷ b ∷ c ∷ d ∷ e ∷ [])) set
      (five_none (a ∷ b ∷ c ∷ d ∷ e ∷ []) a b c d e refl no_words)
]

gone_decided : (set : SetData) (fields : List (List ℕ)) → IsDecided (IsGoneFields fields) set
gone_decided set (a ∷ b ∷ c ∷ d ∷ e ∷ []) = five_decided set a b c d e
gone_decided set fields = none_said (IsGoneFields fields) set (gone_length fields (λ e. omega (arith, e)))

-- five fields and `then` stand at the beginning, or not
gone_then_decided : (fields : List (List ℕ)) → ((part : List (List ℕ)) × (after : List (List ℕ)) × IsGoneThen fields part after)
    ⊎ ((part after : List (List ℕ)) → IsGoneThen fields part after → ⊥)
gone_then_decided (a ∷ b ∷ c ∷ d ∷ e ∷ f ∷ after) = elim (bytes_decided f (codes "then")) [
  | inl is ↦ inl (
    a ∷ b ∷ c ∷ d ∷ e ∷ [],
    after,
    record { five = refl; each_field = ap (λ (word : List ℕ). a ∷ b ∷ c ∷ d ∷ e ∷ word ∷ after) is },
  )
  | inr differs ↦ inr (other differs)
]
  where
    other : f ≢ codes "then" → (part more : List (List ℕ)) → IsGoneThen (a ∷ b ∷ c ∷ d ∷ e ∷ f ∷ after) part more → ⊥
    other differs (p ∷ q ∷ r ∷ s ∷ t ∷ []) more cut =
        differs (head_same (tail_same (tail_same (tail_same (tail_same (tail_same cut.each_field))))))
    other differs part more cut = absurd (omega (arith, cut.five))
gone_then_decided fields = inr (short_gone fields (omega arith))

-- ---- replies

module _ (version : ℕ) (set : SetData) (fields : HasFields set) where
  abbrev IsReplyDecided : List (List ℕ) → Type 0
  IsReplyDecided line = IsDecided (IsReplyFields version line) set

  no_reply : (line : List (List ℕ)) → (IsSaid (IsReplyFields version line) → ⊥) → IsReplyDecided line
  no_reply line none = none_said (IsReplyFields version line) set none

  on_decided : (rest : List (List ℕ)) → IsReplyDecided (codes "on" ∷ rest)
  on_decided rest = elim (cases_eq version 2) [
    | inr other ↦ no_reply (codes "on" ∷ rest) (on_none version rest other)
    | inl two ↦ same_decided (IsGoneFields rest) (IsReplyFields version (codes "on" ∷ rest)) set
        (λ tasks gone f. (On gone, on_to version two rest tasks gone f)) (on_from version rest) (gone_decided set rest)
  ]

  moved_decided : version ≡ 2 → (name : List ℕ) (after : List (List ℕ))
      → IsReplyDecided (codes "off" ∷ name ∷ codes "then" ∷ after)
  moved_decided two name after =
      parts_decided (moved_parts version set name after two fields)
      (λ named known. (
        moved_reply named.0 known.0,
        moved_written version two name after set named.0 known.0 named.1 named.2 known.1,
      )) (name_part_decided set name) (came_decided set after)

  off_decided : (rest : List (List ℕ)) → IsReplyDecided (codes "off" ∷ rest)
  off_decided rest = elim (cases_eq version 2) [
    | inr other ↦ no_reply (codes "off" ∷ rest) (off_none version rest other)
    | inl two ↦ by two rest
  ]
    where
      by : version ≡ 2 → (rest : List (List ℕ)) → IsReplyDecided (codes "off" ∷ rest)
      by two [] = no_reply (codes "off" ∷ []) (off_other version [] (λ e. cc) (λ name after e. cc))
      by two (dash ∷ []) = elim (bytes_decided dash (codes "-")) [
        | inl is ↦ inl (
          Off None,
          unmoved_read version two (dash ∷ []) set (ap (λ (word : List ℕ). word ∷ []) is),
        )
        | inr differs ↦ no_reply (codes "off" ∷ dash ∷ [])
            (off_other version (dash ∷ []) (λ e. differs (head_same e)) (λ name after e. omega (arith, ap length e)))
      ]
      by two (name ∷ then ∷ after) = elim (bytes_decided then (codes "then")) [
        | inl is ↦ subst (λ (word : List ℕ). IsReplyDecided (codes "off" ∷ name ∷ word ∷ after)) (sym is)
            (moved_decided two name after)
        | inr differs ↦ no_reply (codes "off" ∷ name ∷ then ∷ after)
            (off_other version (name ∷ then ∷ after) (λ e. omega (arith, ap length e))
            (λ other rest e. differs (head_same (tail_same e))))
      ]

  waiting_decided : version ≡ 2 → (rest : List (List ℕ)) → IsReplyDecided (codes "remasked" ∷ codes "left" ∷ rest)
  waiting_decided two [] =
      no_reply (codes "remasked" ∷ codes "left" ∷ []) (waiting_other version [] (λ after e. cc))
  waiting_decided two (then ∷ after) = elim (bytes_decided then (codes "then")) [
    | inl is ↦ subst (λ (word : List ℕ). IsReplyDecided (codes "remasked" ∷ codes "left" ∷ word ∷ after)) (sym is)
        (same_decided (IsCameFields after)
        (IsReplyFields version (codes "remasked" ∷ codes "left" ∷ codes "then" ∷ after)) set
        (λ tasks arrival f. (Remasked None arrival, waiting_to version two after tasks arrival f))
        (waiting_from version after) (came_decided set after))
    | inr differs ↦ no_reply (codes "remasked" ∷ codes "left" ∷ then ∷ after)
        (waiting_other version (then ∷ after) (λ rest e. differs (head_same e)))
  ]

  linked_decided : version ≡ 2 → (rest : List (List ℕ)) → IsReplyDecided (codes "remasked" ∷ codes "freed" ∷ rest)
  linked_decided two rest = elim (gone_then_decided rest) [
    | inr none ↦ no_reply (codes "remasked" ∷ codes "freed" ∷ rest) (linked_other version rest none)
    | inl (part, after, cut) ↦ subst (λ (more : List (List ℕ)). IsReplyDecided (codes "remasked" ∷ codes "freed" ∷ more))
        (sym cut.each_field)
        (parts_decided (linked_parts version set part after two cut.five fields)
        (λ gone arrival. (
          Remasked (Some gone.0) arrival.0,
          linked_to version two part after set gone.0 arrival.0 gone.1 arrival.1,
        )) (gone_decided set part) (came_decided set after))
  ]

  remasked_decided : (rest : List (List ℕ)) → IsReplyDecided (codes "remasked" ∷ rest)
  remasked_decided rest = elim (cases_eq version 2) [
    | inr other ↦ no_reply (codes "remasked" ∷ rest) (remasked_none version rest other)
    | inl two ↦ by two rest
  ]
    where
      by : version ≡ 2 → (rest : List (List ℕ)) → IsReplyDecided (codes "remasked" ∷ rest)
      by two [] = no_reply (codes "remasked" ∷ []) (remasked_other version [] (λ more e. cc) (λ more e. cc))
      by two (word ∷ rest) = elim (bytes_decided word (codes "left")) [
        | inl is ↦ subst (λ (first : List ℕ). IsReplyDecided (codes "remasked" ∷ first ∷ rest)) (sym is)
            (waiting_decided two rest)
        | inr no_left ↦ elim (bytes_decided word (codes "freed")) [
          | inl is ↦ subst (λ (first : List ℕ). IsReplyDecided (codes "remasked" ∷ first ∷ rest)) (sym is)
              (linked_decided two rest)
          | inr no_freed ↦ no_reply (codes "remasked" ∷ word ∷ rest)
              (remasked_other version (word ∷ rest) (λ more e. no_left (head_same e)) (λ more e. no_freed (head_same e)))
        ]
      ]

  word_decided : (word : List ℕ) → IsReplyDecided (word ∷ [])
  word_decided word = by (reply_named word word_replies) refl
    where
      by : (found : Option Reply) → reply_named word word_replies ≡ found → IsReplyDecided (word ∷ [])
      by None none =
          no_reply (word ∷ []) (λ some. none_some (sym none ∙ (word_told version word some.0 some.1 some.3).0))
      by (Some reply) is = elim (version_decided version reply) [
        | inl of ↦ inl (reply, word_read version word set reply is of)
        | inr other ↦ no_reply (word ∷ [])
            (λ some. let told = word_told version word some.0 some.1 some.3 in
            other (subst (IsReplyOfVersion version) (some_same (sym told.0 ∙ is)) told.1))
      ]

  reply_decided : (line : List (List ℕ)) → IsReplyDecided line
  reply_decided [] = no_reply [] (no_fields version)
  reply_decided (word ∷ rest) = elim (bytes_decided word (codes "freed")) [
    | inl is ↦ subst (λ (first : List ℕ). IsReplyDecided (first ∷ rest)) (sym is)
        (same_decided (IsGoneFields rest) (IsReplyFields version (codes "freed" ∷ rest)) set
        (λ tasks gone f. (reply_of_gone gone, freed_to version rest tasks gone f)) (freed_from version rest)
        (gone_decided set rest))
    | inr a ↦ elim (bytes_decided word (codes "on")) [
      | inl is ↦ subst (λ (first : List ℕ). IsReplyDecided (first ∷ rest)) (sym is) (on_decided rest)
      | inr b ↦ elim (bytes_decided word (codes "off")) [
        | inl is ↦ subst (λ (first : List ℕ). IsReplyDecided (first ∷ rest)) (sym is) (off_decided rest)
        | inr c ↦ elim (bytes_decided word (codes "remasked")) [
          | inl is ↦ subst (λ (first : List ℕ). IsReplyDecided (first ∷ rest)) (sym is) (remasked_decided rest)
          | inr d ↦ by rest a b c d
        ]
      ]
    ]
  ]
    where
      by : (rest : List (List ℕ)) → word ≢ codes "freed" → word ≢ codes "on" → word ≢ codes "off"
          → word ≢ codes "remasked" → IsReplyDecided (word ∷ rest)
      by [] a b c d = word_decided word
      by (next ∷ rest) a b c d =
          same_decided (IsCameFields (word ∷ next ∷ rest)) (IsReplyFields version (word ∷ next ∷ rest)) set
          (λ tasks arrival f. (reply_of_came arrival, came_to version (word ∷ next ∷ rest) tasks arrival f))
          (came_from version (word ∷ next ∷ rest) word (next ∷ rest) refl (λ e. omega (arith, e)) (a, b, c, d))
          (came_decided set (word ∷ next ∷ rest))

-- ---- entries

abbrev IsEntryDecided : ℕ → List (List ℕ) → SetData → Type 0
IsEntryDecided version fields set =
    ((entry : Entry) × IsEntryFields version fields set entry)
    ⊎ ((kind : TextKind) × IsEntryFault version fields set kind)

-- an event stands at the beginning, or not
abbrev IsCut : List (List ℕ) → Type 0
IsCut fields =
    ((event : List (List ℕ)) × (reply : List (List ℕ)) × IsEventThen fields event reply)
    ⊎ ((event reply : List (List ℕ)) → IsEventThen fields event reply → ⊥)

event_then_decided : (fields : List (List ℕ)) → IsCut fields
event_then_decided [] = inr none
  where
    none : (event reply : List (List ℕ)) → IsEventThen [] event reply → ⊥
    none [] reply cut = cut.size
    none (a ∷ event) reply cut = let e = cut.each_field in cc
event_then_decided (word ∷ rest) = elim (bytes_decided word (codes "affinity")) [
  | inl is ↦ three is rest
  | inr differs ↦ two differs rest
]
  where
    few : (rest : List (List ℕ)) → word ≡ codes "affinity" → length rest < 2 → (event reply : List (List ℕ))
        → IsEventThen (word ∷ rest) event reply → ⊥
    few rest is short [] reply cut = cut.size
    few rest is short (a ∷ event) reply cut = elim cut.size [
      | inl size ↦ omega (arith, short, size.1, ap length cut.each_field, length-append event reply)
      | inr size ↦ size.0 (sym (head_same cut.each_field) ∙ is)
    ]

    alone : word ≢ codes "affinity" → (event reply : List (List ℕ)) → IsEventThen (word ∷ []) event reply → ⊥
    alone differs [] reply cut = cut.size
    alone differs (a ∷ event) reply cut = elim cut.size [
      | inl size ↦ differs (head_same cut.each_field ∙ size.0)
      | inr size ↦ omega (arith, size.1, ap length cut.each_field, length-append event reply)
    ]

    three : word ≡ codes "affinity" → (rest : List (List ℕ)) → IsCut (word ∷ rest)
    three is [] = inr (few [] is (omega arith))
    three is (a ∷ []) = inr (few (a ∷ []) is (omega arith))
    three is (a ∷ b ∷ more) = inl (word ∷ a ∷ b ∷ [], more, record { size = inl (is, refl); each_field = refl })

    two : word ≢ codes "affinity" → (rest : List (List ℕ)) → IsCut (word ∷ rest)
    two differs [] = inr (alone differs)
    two differs (a ∷ more) = inl (word ∷ a ∷ [], more, record { size = inr (differs, refl); each_field = refl })

pub entry_decided : (version : ℕ) (set : SetData) (fields : List (List ℕ)) → IsTaskSet set
    → IsEntryDecided version fields set
entry_decided version set [] valid = inr (BadLine, inl (refl, λ some. let e = some.each_field in cc))
entry_decided version set (number ∷ rest) valid = elim (number_field_decided 0 15 number (lit< tt)) [
  | inr none ↦ inr (
    BadLine,
    inl (refl, λ some. let stream = some_stream version set.processors number rest some in none stream.0 stream.1),
  )
  | inl stream ↦ elim (event_then_decided rest) [
    | inr none ↦ inr (
      BadLine,
      inl (refl, λ some. let cut = some_event_then version set.processors number rest some in none cut.0 cut.1 cut.2),
    )
    | inl (event, reply, cut) ↦ subst (λ (more : List (List ℕ)). IsEntryDecided version (number ∷ more) set)
        (sym cut.each_field)
        (parts_decided (entry_parts version set number event reply stream.0 valid stream.1 cut.size)
        (λ e r. (
          record { caller = stream.0; event = e.0; reply = r.0 },
          entry_of_parts version set number event reply stream.0 e.0 r.0 stream.1 e.1 r.1,
        )) (event_decided version set valid.processors event)
        (reply_decided version set (set_fields set valid) reply))
  ]
]
