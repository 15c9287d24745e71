-- Where each word of a table stands.
use Rattle.std.specs.Prelude.{ℕ, ◌≡◌, ◌≢◌, ◌+◌, ◌-◌, ◌*◌, ◌/◌, ◌^◌, ◌<◌, List, get_or, min, nat_lt, nat_le, if◌then◌else◌, Option, Some, None}
use Rattle.key_bits.specs.declared.TheConstants.{MAX_BYTES}
use Rattle.record_words.specs.declared.layout.Layout.{Layout}
use Rattle.record_words.specs.declared.layout.LeafClass.{LeafClass}
use Rattle.record_words.specs.declared.layout.LeafClass.TheVariants.{Short, Medium, Large, Wide, Long}
use Rattle.record_words.specs.declared.layout.Stock.{Stock}
use Rattle.record_words.specs.declared.layout.Location.{Location}
use Rattle.record_words.specs.declared.layout.Location.TheVariants.{Epoch, Root, Anchor, Pin, NodeWord, LeafWord}
use Rattle.record_words.specs.declared.TheConstants.{EPOCH_WORD, ROOT_WORD, ANCHOR_WORD, FIRST_UNCOMMITTED, LEAF_CLASSES, FIRST_PIN, LINE_WORDS, NODE_WORDS, LEAF_WORDS, SHORT_WORDS, MEDIUM_WORDS, LARGE_WORDS, WIDE_WORDS}
use Rattle.record_words.specs.Leaf.{words_for}

-- The index of the first word of a node record. Node records follow the pins, one after another.
abbrev pub node_start : (layout : Layout) → (node : ℕ) → ℕ
node_start layout node = FIRST_PIN + LINE_WORDS * layout.passes + NODE_WORDS * node

-- how many words a leaf record of a class has
abbrev pub class_size : LeafClass → ℕ
class_size Short = SHORT_WORDS
class_size Medium = MEDIUM_WORDS
class_size Large = LARGE_WORDS
class_size Wide = WIDE_WORDS
class_size Long = LEAF_WORDS

-- How many words a leaf record of this number has. The short ones come first, and then the medium, large, wide and long ones.
abbrev pub leaf_size : (layout : Layout) → (leaf : ℕ) → ℕ
leaf_size layout leaf =
    if nat_lt leaf layout.medium_from then SHORT_WORDS else (if nat_lt leaf layout.large_from then MEDIUM_WORDS else
    (if nat_lt leaf layout.wide_from then LARGE_WORDS else (if nat_lt leaf layout.long_from then WIDE_WORDS else LEAF_WORDS)))

-- How many words all leaf records below this number have together. Each has those of a short one, and more from where the first record of a
-- larger class stands.
abbrev pub words_below : (layout : Layout) → (leaf : ℕ) → ℕ
words_below layout leaf =
    SHORT_WORDS * leaf + (MEDIUM_WORDS - SHORT_WORDS) * (leaf - layout.medium_from) + (LARGE_WORDS - MEDIUM_WORDS) * (leaf - layout.large_from) +
    (WIDE_WORDS - LARGE_WORDS) * (leaf - layout.wide_from) + (LEAF_WORDS - WIDE_WORDS) * (leaf - layout.long_from)

-- the smallest class of leaf records with room for a key of so many bytes; the largest class if none has room
abbrev pub class_for : ℕ → LeafClass
class_for bytes =
    if nat_le (words_for bytes) SHORT_WORDS then Short else (if nat_le (words_for bytes) MEDIUM_WORDS then Medium else
    (if nat_le (words_for bytes) LARGE_WORDS then Large else (if nat_le (words_for bytes) WIDE_WORDS then Wide else Long)))

-- a stock of `nodes` node records, and `leaves` leaf records of one class
abbrev pub stock_of : (nodes : ℕ) → LeafClass → (leaves : ℕ) → Stock
stock_of nodes Short leaves = record { nodes = nodes; short = leaves; medium = 0; large = 0; wide = 0; long = 0 }
stock_of nodes Medium leaves = record { nodes = nodes; short = 0; medium = leaves; large = 0; wide = 0; long = 0 }
stock_of nodes Large leaves = record { nodes = nodes; short = 0; medium = 0; large = leaves; wide = 0; long = 0 }
stock_of nodes Wide leaves = record { nodes = nodes; short = 0; medium = 0; large = 0; wide = leaves; long = 0 }
stock_of nodes Long leaves = record { nodes = nodes; short = 0; medium = 0; large = 0; wide = 0; long = leaves }

-- How many node records, and how many leaf records, the stock for `count` keys has to spare. For up to 32 keys it is one of each. For more
-- it is 10 and one for 16 keys, but no more than 512.
abbrev pub spare_for : ℕ → ℕ
spare_for count = if nat_le count 32 then 1 else min (10 + count / 16) 512

-- The stock for `count` keys of at most so many bytes. It has a node record for 3 keys, a leaf record for each key, and one more for 3 keys.
-- The spare records are added, but no more leaf records than a table may have.
abbrev pub stock_for : (count bytes : ℕ) → Stock
stock_for count bytes = stock_of (count / 3 + spare_for count) (class_for bytes) (min (count + count / 3 + spare_for count) (2 ^ 32 - 1))

-- How many node records a change claims at most, if no key has more bytes than this: two for each node on the key's path, and one above.
-- Each node of a path has a first fork at another position, of which a key has nine for each byte.
abbrev pub most_claims : ℕ → ℕ
most_claims bytes = 18 * min bytes MAX_BYTES + 1

-- The stock that is enough for any `count` keys of at most so many bytes. It has a node record and a leaf record for each key, and for each
-- pass those that a change claims. It has no more than a table may have.
abbrev pub stock_for_any : (count bytes passes : ℕ) → Stock
stock_for_any count bytes passes =
    stock_of (min (count + passes * most_claims bytes) (2 ^ 32 - 1)) (class_for bytes) (min (count + passes) (2 ^ 32 - 1))

-- how many leaf records a stock has, of all classes
abbrev pub leaves_of : Stock → ℕ
leaves_of stock = stock.short + stock.medium + stock.large + stock.wide + stock.long

-- The layout has the records of this stock. Each class of leaf records begins where the one before it ends.
pub record HasStock (layout : Layout) (stock : Stock) : Type 0 where
  pub nodes : layout.nodes ≡ stock.nodes
  pub short : layout.medium_from ≡ stock.short
  pub medium : layout.large_from ≡ layout.medium_from + stock.medium
  pub large : layout.wide_from ≡ layout.large_from + stock.large
  pub wide : layout.long_from ≡ layout.wide_from + stock.wide
  pub long : layout.leaves ≡ layout.long_from + stock.long

-- The index of the first word of a leaf record. Leaf records follow those of nodes, one after another.
abbrev pub leaf_start : (layout : Layout) → (leaf : ℕ) → ℕ
leaf_start layout leaf = node_start layout layout.nodes + words_below layout leaf

-- how many words a table has
abbrev pub word_count : Layout → ℕ
word_count layout = leaf_start layout layout.leaves

-- The index of the word that says how many records of a kind are uncommitted. Kinds are 0 for nodes, and 1 to 5 for leaves by their class.
abbrev pub uncommitted_word : (kind : ℕ) → ℕ
uncommitted_word kind = FIRST_UNCOMMITTED + min kind LEAF_CLASSES

-- how many records of a kind are uncommitted, by the words of a table
abbrev pub uncommitted_in : (words : List ℕ) → (kind : ℕ) → ℕ
uncommitted_in words kind = get_or words (uncommitted_word kind) 0

-- the index of the word of a location
abbrev pub address : Layout → Location → ℕ
address layout Epoch = EPOCH_WORD
address layout Root = ROOT_WORD
address layout Anchor = ANCHOR_WORD
address layout (Pin pass) = FIRST_PIN + LINE_WORDS * pass
address layout (NodeWord number offset) = node_start layout number + offset
address layout (LeafWord number offset) = leaf_start layout number + offset

-- a table of this layout has the location
abbrev pub IsInTable : Layout → Location → Type 0
IsInTable layout Epoch = Unit {0}
IsInTable layout Root = Unit {0}
IsInTable layout Anchor = Unit {0}
IsInTable layout (Pin pass) = pass < layout.passes
IsInTable layout (NodeWord number offset) = (number < layout.nodes) × (offset < NODE_WORDS)
IsInTable layout (LeafWord number offset) = (number < layout.leaves) × (offset < leaf_size layout number)

-- the location is the only one of the table whose word has this index
pub record IsOnlyAt (layout : Layout) (word : ℕ) (location : Location) : Type 0 where
  pub in_table : IsInTable layout location
  pub here : address layout location ≡ word
  pub only : (other : Location) → IsInTable layout other → address layout other ≡ word → other ≡ location

-- `location` is the one whose word has this index; it is none if no location has
abbrev pub IsLocationOf : (layout : Layout) → (word : ℕ) → (location : Option Location) → Type 0
IsLocationOf layout word (Some location) = IsOnlyAt layout word location
IsLocationOf layout word None = (location : Location) → IsInTable layout location → address layout location ≢ word
