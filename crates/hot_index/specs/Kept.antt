-- The kept node record: an index has one more than it is asked for. Insertions leave it free, so that a removal finds one.
use Rattle.std.specs.Prelude.{◌≡◌, ℕ, ◌+◌, min}
use Rattle.record_words.specs.declared.layout.Layout.{Layout}
use Rattle.record_words.specs.declared.layout.Stock.{Stock}

-- the number of node records that a table has for so many asked for: one more, but at most 2^32 - 1
abbrev pub with_one_kept : (nodes : ℕ) → ℕ
with_one_kept nodes = min (nodes + 1) 4294967295

-- the stock of the table that is made for this one: with the kept node record
abbrev pub kept_stock : Stock → Stock
kept_stock stock = record stock { nodes = with_one_kept stock.nodes }

-- The table has the layout that was asked for, but one node record more: the kept one. If 2^32 - 1 were asked for, it has no more.
pub record HasOneKept (asked layout : Layout) : Type 0 where
  pub passes : layout.passes ≡ asked.passes
  pub nodes : layout.nodes ≡ with_one_kept asked.nodes
  pub leaves : layout.leaves ≡ asked.leaves
  pub medium : layout.medium_from ≡ asked.medium_from
  pub large : layout.large_from ≡ asked.large_from
  pub wide : layout.wide_from ≡ asked.wide_from
  pub long : layout.long_from ≡ asked.long_from
