-- A node's words with another entry's word at a place.
use Rattle.record_words.proofs.Common.{ℕ, zero, suc, ◌≡◌, ◌+◌, ◌-◌, ◌<◌, ◌≤◌, ◌++◌, arith, List, [], ◌∷◌, Option, Some, get_or-set_other, get_or-set_same, length, length-set, refl, set, sym, ap, ⊎_elim, ◌∙◌, slice_get, cases_eq, set-append_right, Entry, NodeView, StandsBelow, head_of, piece, piece-replaced, replaced_lawful, collapsed, replaced, without, size}
use Rattle.node_tries.proofs.Changes.Beside.{beside_elsewhere, without-beside}
use Rattle.node_tries.proofs.Piece.{length-places}
use Rattle.record_words.specs.Entry.{HasEntryWord, entry_word}
use Rattle.record_words.specs.Node.{CanCloseAt, HasNodeWords, entry_words, head_words, node_words}
use Rattle.record_words.proofs.Entries.{entry_words_at, entry_words_made, length-entry_words}
use Rattle.record_words.proofs.Nodes.{length-head_words}

get_set_same : {A : Type 0} (xs : List A) (j : ℕ) (x : A) → j < length xs → slice_get (set xs j x) j ≡ Some x
get_set_same [] j x l = absurd (omega arith)
get_set_same (y ∷ xs) zero x l = refl
get_set_same (y ∷ xs) (suc j) x l = get_set_same xs j x (omega arith)

get_set_other : {A : Type 0} (xs : List A) (j i : ℕ) (x : A) → (i ≡ j → ⊥) → slice_get (set xs j x) i ≡ slice_get xs i
get_set_other [] j i x n = refl
get_set_other (y ∷ xs) zero zero x n = absurd (n refl)
get_set_other (y ∷ xs) zero (suc i) x n = refl
get_set_other (y ∷ xs) (suc j) zero x n = refl
get_set_other (y ∷ xs) (suc j) (suc i) x n = get_set_other xs j i x (λ e. n (ap suc e))

module _ (node : NodeView) (place : ℕ) (entry : Entry) (has : HasNodeWords node) (inside : place < length node.entries) (stands : StandsBelow node.height entry) (word : HasEntryWord (Some entry)) where
  abbrev pub changed : NodeView
  changed = record node { entries = set node.entries place entry }

  room : length node.entries ≤ 32
  room = has.lawful.room

  pub changed_has : HasNodeWords changed
  changed_has = record {
    lawful = replaced_lawful node has.lawful place entry stands;
    entries = record {
      room = omega (arith, length-set node.entries place entry, room);
      each = λ i. ⊎_elim
          (λ (e : i ≡ place). rw (e, get_set_same node.entries place entry inside) word)
          (λ (e : i ≡ place → ⊥). rw (get_set_other node.entries place i entry e) (has.entries.each i))
          (cases_eq i place);
    };
  }

  entries_changed : entry_words changed.entries ≡ set (entry_words node.entries) place (entry_word (Some entry))
  entries_changed = entry_words_made changed.entries (set (entry_words node.entries) place (entry_word (Some entry)))
      (length-set (entry_words node.entries) place (entry_word (Some entry)) ∙ length-entry_words node.entries)
      (λ i small. ⊎_elim
      (λ (e : i ≡ place). rw (e, get_set_same node.entries place entry inside)
      (get_or-set_same (entry_words node.entries) place (entry_word (Some entry)) 0 (omega (arith, inside, room, length-entry_words node.entries))))
      (λ (e : i ≡ place → ⊥). get_or-set_other (entry_words node.entries) place i (entry_word (Some entry)) 0 e
      ∙ (entry_words_at node.entries (entry_words node.entries) refl i small ∙ sym (ap (λ (o : Option Entry). entry_word o) (get_set_other node.entries place i entry e))))
      (cases_eq i place))

  pub changed_spells : (words : List ℕ) → node_words node ≡ words → node_words changed ≡ set words (25 + place) (entry_word (Some entry))
  changed_spells words same =
      let back : 25 + place - 25 ≡ place = omega arith in
      ap (λ ws. head_words (head_of node) ++ ws) entries_changed
      ∙ sym (ap (λ ws. set ws (25 + place) (entry_word (Some entry))) (sym same)
      ∙ set-append_right (head_words (head_of node)) (entry_words node.entries) 25 (25 + place) (entry_word (Some entry)) (length-head_words node) (omega arith)
      ∙ ap (λ k. head_words (head_of node) ++ set (entry_words node.entries) k (entry_word (Some entry))) back)

  pub changed_piece : piece changed ≡ replaced place entry (piece node)
  changed_piece = piece-replaced node has.lawful place entry inside

-- the place beside one is another one of the node
module _ (words : List ℕ) (node : NodeView) (at place : ℕ) (entry : Entry) (can : CanCloseAt words node at place entry) where
  within : at < size (piece node)
  within = omega (arith, can.in_range, ap length can.has.lawful.shows.entries_are, length-places (piece node))

  pub place_inside : place < length node.entries
  place_inside = omega (arith, (beside_elsewhere at place can.position (piece node) within can.is_beside).0, ap length can.has.lawful.shows.entries_are, length-places (piece node))

  pub closed_piece : (word : HasEntryWord (Some entry)) → without at (piece (changed node place entry can.has place_inside can.stands word)) ≡ collapsed at entry (piece node)
  closed_piece word = ap (without at) (changed_piece node place entry can.has place_inside can.stands word) ∙ without-beside at place can.position entry (piece node) within can.is_beside
