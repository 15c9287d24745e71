-- The state words of fates.
use Rattle.rowex_core.proofs.Common.{◌≡◌, ◌^◌, ◌<◌, ◌≤◌, ℕ, Option, Some, None, refl, arith, HasStateWord, state_word, Fate, Free, Held, Ready, InTree, Unlinked, Marked}
use Rattle.rowex_core.specs.Words.{tag_of}

-- A fate of a lawful core has a state word.
pub has_state_word : (lock : Option ℕ) (f : Fate) → ((since last epoch : ℕ) → f ≡ Marked since last epoch → (1 ≤ epoch) × (epoch < 2 ^ 60)) → HasStateWord (tag_of lock f)
has_state_word lock Free marked = tt
has_state_word lock (Held q) marked = tt
has_state_word None (Ready q) marked = tt
has_state_word (Some p) (Ready q) marked = tt
has_state_word None (InTree i) marked = tt
has_state_word (Some p) (InTree i) marked = tt
has_state_word None (Unlinked i l q) marked = tt
has_state_word (Some p) (Unlinked i l q) marked = tt
has_state_word lock (Marked i l epoch) marked = marked i l epoch refl

-- A record whose state word is 0 is free.
pub free_tag : (lock : Option ℕ) (f : Fate) → state_word (tag_of lock f) ≡ 0 → f ≡ Free
free_tag lock Free e = refl
free_tag lock (Held q) e = absurd (omega arith)
free_tag None (Ready q) e = absurd (omega arith)
free_tag (Some p) (Ready q) e = absurd (omega arith)
free_tag None (InTree i) e = absurd (omega arith)
free_tag (Some p) (InTree i) e = absurd (omega arith)
free_tag None (Unlinked i l q) e = absurd (omega arith)
free_tag (Some p) (Unlinked i l q) e = absurd (omega arith)
free_tag lock (Marked i l epoch) e = absurd (omega arith)
