-- Pass 0 of an index that was made of pairs.
use Rattle.hot_index.proofs.Common.{◌≡◌, ◌⊎◌, inl, inr, true, false, ℕ, zero, suc, ◌<◌, ◌≤◌, List, [], ◌∷◌, ◌++◌, length, map, take, Option, refl, sym, ap, ◌∙◌, subst, arith, le_refl, take_all, length-map, Insert, Change, Note, Inserted, map_of, Layout, Item, pairs, IsLinked, a_node, is_linked, Core, fields_in, heap_of, IsLoad, after, loaded_root, loaded_tree, opening, EventsLead, Known, load_of, load_trace, loader_of, IsLoaderSeat, IsNewSeatOf, SeatView, TableView, HasSpare, IsOut, IsSettled, Owns, pass_of}
use mathlib.Core.Option.{some}
use lib.ListN.{get_elem?}
use Rattle.record_words.specs.Layout.{uncommitted_in}
use Rattle.rowex_table.specs.Seats.{HasAllCommitted}
use Rattle.hot_index.specs.KeyCounts.{CountsReply, IsCountOf}
use Rattle.hot_index.specs.declared.key_counts.KeyCount.{KeyCount}
use Rattle.tries.specs.Tree.{Tree}
use Rattle.versions.specs.Loads.{first_leaves_of, loaded_past}
use Rattle.versions.specs.Told.{TellChanges, added_change, added_notes, content, items_of}
use Rattle.versions.proofs.Core.{linked_cases}
use Rattle.versions.proofs.Loads.{load_is_lawful, load_is_legal}
use Rattle.versions.proofs.State.Publish.{version_new}
use Rattle.hot_index.specs.Loads.{CountsItems, IsLoaderPass, IsPassOfLoad, inserted_pair, pairs_noted}
use Rattle.hot_index.specs.Passes.{AreSettled}
use Rattle.hot_index.proofs.Passes.{new_pass, no_calls_from}

-- leaves as their pairs
changes_of_pairs : (xs : List Item) → map (added_change 0) xs ≡ map inserted_pair (pairs xs)
changes_of_pairs [] = refl
changes_of_pairs (x ∷ xs) = ap (λ (cs : List Change). added_change 0 x ∷ cs) (changes_of_pairs xs)

notes_of_pairs : (n : ℕ) (xs : List Item) → added_notes n xs ≡ pairs_noted n (pairs xs)
notes_of_pairs n [] = refl
notes_of_pairs n (x ∷ xs) = ap (λ (ns : List Note). record { place = n; call = Insert x.key x.value; reply = Inserted } ∷ ns) (notes_of_pairs (suc n) xs)

-- One pair more is counted
notes_push : (n : ℕ) (xs : List Item) (x : Item) → (place : ℕ) × (added_notes n (xs ++ x ∷ []) ≡ added_notes n xs ++ record { place = place; call = Insert x.key x.value; reply = Inserted } ∷ [])
notes_push n [] x = (n, refl)
notes_push n (y ∷ xs) x =
    let rest = notes_push (suc n) xs x in (rest.0, ap (λ (ns : List Note). record { place = n; call = Insert y.key y.value; reply = Inserted } ∷ ns) rest.1)

pub counts_one_more : (items : List Item) (x : Item) (old new : KeyCount) → CountsReply Inserted old new → CountsItems items old → CountsItems (items ++ x ∷ []) new
counts_one_more items x old new counts was q =
    let pushed = notes_push 0 items x in
    subst (λ ns. IsCountOf q ns new) (sym pushed.1) (counts q pushed.0 (added_notes 0 items) (Insert x.key x.value) ([], refl) (was q))

module _ (table : TableView) (words : List ℕ) (load : IsLoad table.layout words) where
  abbrev tree : Option Tree
  tree = loaded_tree table.layout words

  loader_settled : IsSettled (loader_of table.layout words)
  loader_settled = record {
    own = refl;
    locks = refl;
    anchor = refl;
    pin = refl;
    fresh = (map (added_change 0) (items_of tree), refl);
    loaded = omega arith;
    legal = load_is_legal 0 tree (λ u e. (load.tree u e).0);
  }

  told : TellChanges (loaded_past tree) (map (added_change 0) (items_of tree))
  told = (load_is_lawful (heap_of (fields_in table.layout words)) 0 (loaded_root words) tree load.top load.tree).told

  -- the map has the pairs of the leaves
  map_is : map_of (map (added_change 0) (items_of tree)) ≡ pairs (items_of tree)
  map_is =
      let last = length (items_of tree) in let changes = map (added_change 0) (items_of tree) in
      let long : length changes ≡ last = length-map (items_of tree) (added_change 0) in
      let whole : take last changes ≡ changes = take_all last changes (omega (arith, long)) in
      ap map_of (sym whole) ∙ sym (told.content_is last (le_refl last)) ∙ ap content (version_new (first_leaves_of tree) last tree)

  -- a record that the tree has not is free
  spare : (s : SeatView) → IsLoaderSeat table words s → (n : ℕ) → n < table.layout.nodes → ¬ IsLinked tree (a_node n) → HasSpare table.layout s
  spare s is n low out c lone =
      let led : EventsLead (opening table.layout) (load_trace words).events c = subst (λ es. EventsLead (opening table.layout) es c) is.2 lone.led in
      let same : c ≡ after (opening table.layout) 0 (load_of words) = led.1 in
      (n, low, subst (λ (d : Core). IsOut (d.fate (a_node n))) (sym same) (free (linked_cases tree (a_node n))))
    where
      free : (IsLinked tree (a_node n) × (is_linked tree (a_node n) ≡ true)) ⊎ ((¬ IsLinked tree (a_node n)) × (is_linked tree (a_node n) ≡ false)) →
          IsOut ((after (opening table.layout) 0 (load_of words)).fate (a_node n))
      free (inl linked) = absurd (out linked.0)
      free (inr not) = rw not.1 tt

  loader_pass : (s : SeatView) → IsLoaderSeat table words s → (n : ℕ) → n < table.layout.nodes → ¬ IsLinked tree (a_node n) → IsLoaderPass table (pairs (items_of tree)) (pass_of s)
  loader_pass s is n low out =
      let front : s.known.front ≡ map (added_change 0) (items_of tree) = ap (λ (k : Known). k.front) is.1 in
      record {
        number = ap (λ (k : Known). k.pass) is.1;
        front = front ∙ changes_of_pairs (items_of tree);
        notes = ap (λ (k : Known). k.notes) is.1 ∙ notes_of_pairs 0 (items_of tree);
        legal = (subst IsSettled (sym is.1) loader_settled).legal;
        content = ap map_of front ∙ map_is;
        words = words;
        load = load;
        seat = is;
        out = (n, low, out);
        spare = spare s is n low out;
      }

-- the words show these leaves, and some node record is in no tree
pub record AreWordsOf (layout : Layout) (items : List Item) (words : List ℕ) : Type 0 where
  pub load : IsLoad layout words
  pub are : items_of (loaded_tree layout words) ≡ items
  pub spare : (n : ℕ) × (n < layout.nodes) × ¬ IsLinked (loaded_tree layout words) (a_node n)

pub words_for_table : (table : TableView) (layout : Layout) (items : List Item) (words : List ℕ) → table.layout ≡ layout → IsLoad layout words → items_of (loaded_tree layout words) ≡ items →
    (n : ℕ) × (n < layout.nodes) × ¬ IsLinked (loaded_tree layout words) (a_node n) → AreWordsOf table.layout items words
words_for_table table layout items words same load are spare = subst (λ l. AreWordsOf l items words) (sym same) (record { load = load; are = are; spare = spare })

-- the passes of a table that was loaded
module _ (table : TableView) (words : List ℕ) (seats : List SeatView) (items : List Item) (of : AreWordsOf table.layout items words)
    (first : (s : SeatView) → get_elem? seats 0 ≡ some s → IsLoaderSeat table words s)
    (others : (q : ℕ) (s : SeatView) → 1 ≤ q → get_elem? seats q ≡ some s → IsNewSeatOf table q s) where
  pub loaded_settled : (count : KeyCount) → CountsItems items count → AreSettled count seats
  loaded_settled count counts = go seats first others
    where
      go : (ss : List SeatView) → ((s : SeatView) → get_elem? ss 0 ≡ some s → IsLoaderSeat table words s) →
          ((q : ℕ) (s : SeatView) → 1 ≤ q → get_elem? ss q ≡ some s → IsNewSeatOf table q s) → AreSettled count ss
      go [] f o = tt
      go (s ∷ ss) f o =
          let is = f s refl in (
            record {
              settled = subst IsSettled (sym is.1) (loader_settled table words of.load);
              counts = subst (λ (k : Known). IsCountOf k.pass k.notes count) (sym is.1) (subst (λ (xs : List Item). IsCountOf 0 (added_notes 0 xs) count) (sym of.are) (counts 0));
            },
            no_calls_from table 1 ss (λ q t e. subst (λ i. IsNewSeatOf table i t) (omega arith) (o (suc q) t (omega arith) e)),
          )

  pub pass_of_load : (q : ℕ) (s : SeatView) → get_elem? seats q ≡ some s → Owns table (pass_of s) × IsPassOfLoad table (pairs items) q (pass_of s)
  pass_of_load zero s e =
      let is = first s e in
      (is.0, subst (λ (xs : List Item). IsLoaderPass table (pairs xs) (pass_of s)) of.are (loader_pass table words of.load s is of.spare.0 of.spare.1 of.spare.2))
  pass_of_load (suc q) s e = new_pass table (suc q) s (others (suc q) s (omega arith) e)

-- the seats of a loaded table, of which all is committed, know that
pub loaded_all_committed : (seats : List SeatView) (words : List ℕ) → ((kind : ℕ) → uncommitted_in words kind ≡ 0) →
    ((q : ℕ) (s : SeatView) → get_elem? seats q ≡ some s → s.bounds ≡ words) → (q : ℕ) (s : SeatView) → get_elem? seats q ≡ some s → HasAllCommitted s
loaded_all_committed seats words none bounds q s at kind = ap (λ ws. uncommitted_in ws kind) (bounds q s at) ∙ none kind
