-- Texts that are written one after another.
use Rattle.hot_scripts.proofs.Common.{ℕ, List, Option, None, Some, ◌∙◌, Appends, Keeps}

-- a text, and then nothing more
pub appends_kept : (old mid new : Option (List ℕ)) (text : List ℕ) → Appends old mid text → Keeps mid new → Appends old new text
appends_kept None mid new text first kept = tt
appends_kept (Some xs) None new text first kept = absurd first
appends_kept (Some xs) (Some ys) None text first kept = absurd kept
appends_kept (Some xs) (Some ys) (Some zs) text first kept = kept ∙ first
