-- A stock as a program in C gives it, and how many bytes an index of a stock takes.
use Rattle.std.specs.Prelude.{◌≡◌, ℕ, ◌*◌}
use Rattle.record_words.specs.Layout.{HasStock, word_count}
use Rattle.record_words.specs.declared.TheConstants.{WORD_BYTES}
use Rattle.record_words.specs.declared.layout.Layout.{Layout}
use Rattle.record_words.specs.declared.layout.Stock.{Stock}
use Rattle.hot_index.specs.Kept.{kept_stock}
use Rattle.hot_c.specs.declared.stock.HotStock.{HotStock}

-- the stock whose numbers stand in C's struct
abbrev pub stock_in : HotStock → Stock
stock_in it = record { nodes = it.nodes; short = it.short; medium = it.medium; large = it.large; wide = it.wide; long = it.long }

-- An index with so many passes and this stock takes `bytes` bytes for its table. The table has one node record more than the stock, kept
-- for removals, but at most 2^32 - 1 in all (`kept_stock`).
pub record TakesBytes (passes : ℕ) (stock : Stock) (bytes : ℕ) : Type 0 where
  pub layout : Layout
  pub passes_are : layout.passes ≡ passes
  pub stock_is : HasStock layout (kept_stock stock)
  pub bytes_are : bytes ≡ WORD_BYTES * word_count layout
