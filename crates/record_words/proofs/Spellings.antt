-- No two states, and no two entries, have the same word.
use Rattle.record_words.proofs.Common.{◌≡◌, arith, Option, Entry}
use Rattle.record_words.specs.Entry.{HasEntryWord, entry_word}

pub same_entry : (a b : Option Entry) → HasEntryWord a → HasEntryWord b → entry_word a ≡ entry_word b → a ≡ b
same_entry a b p q same = grind arith
