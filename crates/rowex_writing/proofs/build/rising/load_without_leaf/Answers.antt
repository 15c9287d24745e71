-- The leaf's place in the words is that of the node that they spell.
use Rattle.rowex_writing.proofs.Common.{◌≡◌, ◌<◌, ◌∙◌, ℕ, List, ap, length, subst, sym, NodeView, piece, SpellLeft, NodeWords, node_words_of, Key, spot, subtrie_without, size-piece, spot_below, Subtrie}
use Rattle.rowex_writing.specs.locks.Going.{IsNodeOf}
use Rattle.rowex_writing.proofs.locks.Going.{words_shown}
use Rattle.rowex_writing.proofs.build.remaking.Remaking.{left_subtrie}
use Rattle.rowex_writing.proofs.build.rising.load_without_leaf.Goals as goal

-- the place in the node that the words under the lock spell
leads_there : {words : List ℕ} (key : Key) (at : ℕ) (view : NodeView) → IsNodeOf words view → spot key (node_words_of words).subtrie ≡ at → spot key (piece view) ≡ at
leads_there key at view is leads = sym (ap (λ (z : NodeWords). spot key z.subtrie) is.shows) ∙ leads

pub drop_entry-requires : goal.drop_entry-requires
drop_entry-requires g c =
    let (view, is) = c.load_locked_node_words.ensures.node in
    let (key, leads) = c.requires.place in
    let (words, h) = c.requires.locked in
    let shown = words_shown c.args.seat.now.known c.args.step.number c.load_locked_node_words.ensures.words view is words h in
    (view, is.has, is.spells, subst (λ i. i < length view.entries) (leads_there key c.args.step.slot view shown (leads words h)) (subst (λ n. spot key (piece view) < n) (size-piece view is.has.lawful) (spot_below key (piece view))))

pub returns-clause-left : goal.returns-clause-left
returns-clause-left g c = λ key words leads h.
    let (view, is) = c.load_locked_node_words.ensures.node in
    let shown = words_shown c.args.seat.now.known c.args.step.number c.load_locked_node_words.ensures.words view is words h in
    subst (λ (y : Subtrie). SpellLeft c.drop_entry.new.words c.drop_entry.result (subtrie_without key y)) (sym (ap (λ (z : NodeWords). z.subtrie) shown.shows))
    (left_subtrie key view c.args.step.slot c.drop_entry.new.words c.drop_entry.result (leads_there key c.args.step.slot view shown (leads words h)) (c.drop_entry.ensures view is.has is.spells))
