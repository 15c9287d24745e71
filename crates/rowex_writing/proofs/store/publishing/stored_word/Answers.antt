-- A node's height is in the word.
use Rattle.rowex_writing.proofs.Common.{rules, ◌≡◌, ◌<◌, ◌^◌, ap, subst, ◌∙◌, Some, Node, HasEntryWord, entry_word, entry_of}
use Rattle.rowex_writing.proofs.store.ending.Ending.{high}
use Rattle.rowex_writing.proofs.store.publishing.stored_word.Goals as goal

pub pack_entry-requires-in-Some-Node : goal.pack_entry-requires-in-Some-Node
pack_entry-requires-in-Some-Node c =
    let low : c.in-Some-Node.number < 2 ^ 32 = search rules in
    let small : c.in-Some-Node.height < 2 ^ 16 = search rules in
    let inner : c.in-Some-Node.field-0 ≡ Node c.in-Some-Node.number c.in-Some-Node.height = rw c.in-Some-Node.is at c.in-Some-Node.field-0-is in
    let is : c.args.entry ≡ Some (Node c.in-Some-Node.number c.in-Some-Node.height) = c.in-Some-Node.is ∙ ap Some inner in
    (low, high c.in-Some-Node.number c.in-Some-Node.height low small (subst (λ e. HasEntryWord (entry_of (entry_word e))) is c.requires), small)
