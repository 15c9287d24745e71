-- Why `read_file_start` meets its contract.
use Rattle.hot_scripts.proofs.Common.{◌≡◌, ℕ, List, Option, None, Some, take, IfSome}
use Rattle.std.specs.Option.{option_map}
use Rattle.hot_scripts.proofs.files.read_file_start.Goals as goal

-- what a limit leaves of the bytes, where they are known
limited : (known : Option (List ℕ)) (limit : ℕ) (got : List ℕ) → IfSome (option_map (take limit) known) (λ xs. got ≡ xs) → IfSome known (λ all. got ≡ take limit all)
limited None limit got start = tt
limited (Some all) limit got start = start

pub returns-in-Ok-clause-start : goal.returns-in-Ok-clause-start
returns-in-Ok-clause-start g c =
    limited (g.R.Read.remaining c.args.reader) 1048577 c.read_to_end.new.buf.items
    (rw (c.new-bytes.ensures.items, c.take-start.ensures.limit, c.take-start.ensures.inner) at c.in-Ok.ensures.bytes)
