-- One call more.
use Rattle.hot_index.proofs.Common.{◌+◌, ◌%◌, ◌^◌, ◌++◌, ◌∷◌, [], sym, subst, changes_of}
use Rattle.hot_index.specs.KeyCounts.{IsNet}
use Rattle.hot_index.proofs.key_counts.Nets.{noted, one_more}
use Rattle.hot_index.proofs.key_counts.KeyCount.note.Goals as goal

pub returns : goal.returns
returns c = λ q place notes call is count. let keys = c.args.self.now.keys in let reply = c.args.reply in
    subst (λ n. IsNet (changes_of q (notes ++ noted place call reply ∷ [])) ((keys + n) % 2 ^ 64)) (sym c.net.ensures) (one_more q place notes call reply keys is count)
