-- Why `write_answers` meets its contract.
use Rattle.std.proofs.lemmas.Result.{on_ok_weaker}
use Rattle.hot_scripts.proofs.streams.Streams.{appends_kept}
use Rattle.hot_scripts.proofs.streams.write_answers.Goals as goal

pub returns-clause-ok : goal.returns-clause-ok
returns-clause-ok g c = on_ok_weaker c.flush_writer.result (λ kept. appends_kept _ _ _ c.args.text.now c.in_ok-write_text.ensures.ok kept) c.flush_writer.ensures.ok
