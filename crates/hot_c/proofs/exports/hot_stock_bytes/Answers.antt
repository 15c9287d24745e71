-- The layout that was made is the one of the stock, with the node record that is kept.
use Rattle.std.proofs.Common.{◌≡◌, ◌∙◌, refl, sym}
use Rattle.hot_index.proofs.Passes.{kept_has}
use Rattle.hot_c.proofs.exports.hot_stock_bytes.Goals as goal

pub returns-in-Ok-with_stock-clause-done : goal.returns-in-Ok-with_stock-clause-done
returns-in-Ok-with_stock-clause-done c = λ size. (
  refl,
  record {
    layout = c.keep_one_node.result;
    passes_are = c.keep_one_node.ensures.passes ∙ (c.in-Ok-with_stock.ensures.ok.0 ∙ c.in-Ok.ensures.1);
    stock_is = kept_has c.in-Ok-with_stock.layout c.keep_one_node.result _ c.keep_one_node.ensures (rw c.to_stock.ensures at c.in-Ok-with_stock.ensures.ok.1);
    bytes_are = c.bytes.ensures;
  },
)
