-- The handles are open on the new index.
use Rattle.hot_c.proofs.Common.{inl, refl, HasStock, kept_stock}
use Rattle.hot_c.specs.Stocks.{stock_in}
use Rattle.hot_c.proofs.opening.Shares.{have_opened}
use Rattle.hot_c.proofs.exports.hot_create_with.Goals as goal

pub returns-in-Ok-clause-made : goal.returns-in-Ok-clause-made
returns-in-Ok-clause-made c = λ closed size. inl (refl, have_opened _ (λ layout. HasStock layout (kept_stock (stock_in c.args.stock.now))) c.open_handles.new.handles c.in-Ok.stocked.items c.open_handles.ensures.opened (rw c.to_stock-records.ensures at c.in-Ok.ensures.made))
