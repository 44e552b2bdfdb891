-- Texts of elements, as XML has them: one element, in which each one that is opened is closed
-- before those around it, each value of an attribute stands in quotes, and each other byte between
-- the tags and in the quotes stands for itself. A reader goes over the text byte by byte. That the
-- attributes of an element have different names is left open.
use Rattle.std.specs.Prelude.{◌≡◌, ℕ, ◌==◌, Bool, true, false, ◌&&◌, ◌||◌, not, nat_le, cond, List}
use Rattle.std.specs.Prelude.{[], ◌∷◌, ◌++◌, codes}
use Rattle.std.specs.List.{list_all}

-- a letter or '-', of which the names of elements and of attributes are made
abbrev pub is_letter : ℕ → Bool
is_letter b = (nat_le 97 b && nat_le b 122) || (nat_le 65 b && nat_le b 90) || (b == 45)

-- a byte that stands for itself: a printable one, but '"', '&', '<' and '>'
abbrev pub is_plain : ℕ → Bool
is_plain b =
    nat_le 32 b && nat_le b 126 && not (b == 34) && not (b == 38) && not (b == 60) && not (b == 62)

abbrev pub are_plain : List ℕ → Bool
are_plain bytes = list_all is_plain bytes

abbrev pub same_bytes : List ℕ → List ℕ → Bool
same_bytes [] [] = true
same_bytes [] (y ∷ ys) = false
same_bytes (x ∷ xs) [] = false
same_bytes (x ∷ xs) (y ∷ ys) = (x == y) && same_bytes xs ys

-- where a reader is. The elements that it is in are given by their names, the innermost one first.
pub data Reader : Type 0 where
  -- before the one element, and after it
  Start : Reader
  Ended : Reader
  -- in an element, and in others
  Inside : List ℕ → List (List ℕ) → Reader
  -- after a '<' in these elements
  Opens : List (List ℕ) → Reader
  -- in the name of an opening tag, of which so much was read
  Names : List ℕ → List (List ℕ) → Reader
  -- in the opening tag of this name, after the value of an attribute
  Tag : List ℕ → List (List ℕ) → Reader
  -- in the name of an attribute, after its '=', and in its value
  Attribute : List ℕ → List (List ℕ) → Reader
  Equals : List ℕ → List (List ℕ) → Reader
  Value : List ℕ → List (List ℕ) → Reader
  -- after the '/' of a tag that opens and closes an element
  Single : List (List ℕ) → Reader
  -- in a closing tag, of whose name this is to come
  Closes : List ℕ → List (List ℕ) → Reader
  -- the text is none of elements
  Broken : Reader

-- an element was closed, in these
abbrev pub closed : List (List ℕ) → Reader
closed [] = Ended
closed (name ∷ outer) = Inside name outer

-- an element was opened: where `untitled`, no `rect`, which could have a title then
abbrev pub opened : Bool → List ℕ → List (List ℕ) → Reader
opened untitled name outer =
    cond (same_bytes name (codes "rect") && untitled) Broken (Inside name outer)

-- in an opening tag comes a ' ' and an attribute, a '/', or a '>'
abbrev pub in_tag : Bool → List ℕ → List (List ℕ) → ℕ → Reader
in_tag untitled name outer b = cond (b == 32) (Attribute name outer)
    (cond (b == 47) (Single outer) (cond (b == 62) (opened untitled name outer) Broken))

-- one byte more
abbrev pub next : Bool → Reader → ℕ → Reader
next untitled Start b = cond (b == 60) (Names [] []) Broken
next untitled Ended b = cond (b == 10) Ended Broken
next untitled (Inside name outer) b = cond (is_plain b) (Inside name outer)
    (cond (b == 10) (Inside name outer) (cond (b == 60) (Opens (name ∷ outer)) Broken))
next untitled (Opens []) b = Broken
next untitled (Opens (name ∷ outer)) b =
    cond (b == 47) (Closes name outer) (cond (is_letter b) (Names (b ∷ []) (name ∷ outer)) Broken)
next untitled (Names name outer) b =
    cond (is_letter b) (Names (name ++ b ∷ []) outer) (in_tag untitled name outer b)
next untitled (Tag name outer) b = in_tag untitled name outer b
next untitled (Attribute name outer) b =
    cond (is_letter b) (Attribute name outer) (cond (b == 61) (Equals name outer) Broken)
next untitled (Equals name outer) b = cond (b == 34) (Value name outer) Broken
next untitled (Value name outer) b =
    cond (is_plain b) (Value name outer) (cond (b == 34) (Tag name outer) Broken)
next untitled (Single outer) b = cond (b == 62) (closed outer) Broken
next untitled (Closes [] outer) b = cond (b == 62) (closed outer) Broken
next untitled (Closes (c ∷ name) outer) b = cond (b == c) (Closes name outer) Broken
next untitled Broken b = Broken

-- where the reader is after these bytes
abbrev pub reads : Bool → Reader → List ℕ → Reader
reads untitled reader [] = reader
reads untitled reader (b ∷ bytes) = reads untitled (next untitled reader b) bytes

-- the text is one element
abbrev pub IsWellFormedElement : List ℕ → Type 0
IsWellFormedElement text = reads false Start text ≡ Ended

-- ---- Private: contracts of this crate's own functions
-- the text goes on, with or without titles, from one place of a reader to another
pub record Moves (from to : Reader) (old new : List ℕ) : Type 0 where
  pub is : (untitled : Bool) (begin : Reader) → reads untitled begin old ≡ from
      → reads untitled begin new ≡ to

-- the text goes on with whole elements and plain bytes
pub record Keeps (old new : List ℕ) : Type 0 where
  pub is : (untitled : Bool) (begin : Reader) (name : List ℕ) (outer : List (List ℕ))
      → reads untitled begin old ≡ Inside name outer → reads untitled begin new ≡ Inside name outer

-- a beginning of the text, in the outermost element; a part of it; and an end
abbrev pub BeginsText : List ℕ → Type 0
BeginsText text = (untitled : Bool) → reads untitled Start text ≡ Inside (codes "svg") []

abbrev pub GoesOn : List ℕ → Type 0
GoesOn text =
    (untitled : Bool) → reads untitled (Inside (codes "svg") []) text ≡ Inside (codes "svg") []

abbrev pub Ends : List ℕ → Type 0
Ends text = (untitled : Bool) → reads untitled (Inside (codes "svg") []) text ≡ Ended

-- the text goes on with the beginning of a picture
abbrev pub opens_picture : List ℕ → List ℕ → Type 0
opens_picture old new = Moves Start (Inside (codes "svg") []) old new
