-- A table that was loaded: the load is an event of its pass 0, and its insertions are legal calls.
use Rattle.index_laws.proofs.Common.{◌≡◌, ◌<◌, ℕ, suc, List, [], ◌∷◌, map, refl, ap, arith, Call, Insert, Note, LegalCalls, Layout, Item, added_notes, items_of, Known, IsLoad, loaded_tree, opening, opening_is_lawful, load_of, loader_of, opening_of, IsLoaderSeat, SeatView, TableView, new_knows, others_none, le_refl}
use Rattle.record_words.specs.Layout.{uncommitted_in}
use Rattle.versions.proofs.Loads.{load_is_legal}
use Rattle.index_laws.specs.Executions.{insertion_notes, insertions}
use Rattle.index_laws.specs.Traced.{MakesEvent}

added_calls : (n : ℕ) (xs : List Item) → map (λ (z : Note). z.call) (added_notes n xs) ≡ map (λ (x : Item). Insert x.key x.value) xs
added_calls n [] = refl
added_calls n (x ∷ xs) = ap (λ (l : List Call). Insert x.key x.value ∷ l) (added_calls (suc n) xs)

-- the notes are of the insertions
pub insertion_calls : (layout : Layout) (words : List ℕ) → map (λ (z : Note). z.call) (insertion_notes layout words) ≡ insertions layout words
insertion_calls layout words = added_calls 0 (items_of (loaded_tree layout words))

pub loader_legal : (layout : Layout) (words : List ℕ) → IsLoad layout words → let k : Known = loader_of layout words in LegalCalls k.front k.pass k.notes
loader_legal layout words load = load_is_legal 0 (loaded_tree layout words) (λ u e. (load.tree u e).0)

-- the seat of pass 0 before the load
abbrev pub unloaded : SeatView → SeatView
unloaded s = record { table = s.table; id = s.id; known = opening_of 0; trace = []; asides = 0; touches = 0; bounds = s.bounds }

pub makes_load : (table : TableView) (words : List ℕ) (s : SeatView) → 0 < table.layout.passes → IsLoad table.layout words → IsLoaderSeat table words s →
    MakesEvent table (load_of words) (λ k. insertion_notes table.layout words) (unloaded s) s
makes_load table words s some load is = record {
  seat = (refl, refl, ap (λ (k : Known). k.pass) is.1, is.3, λ kind. le_refl (uncommitted_in s.bounds kind));
  event = record {
    core = opening table.layout;
    lawful = (opening_is_lawful table.layout).0;
    layout_is = refl;
    knows = new_knows (opening table.layout) 0 some ((opening_is_lawful table.layout).2 0 (omega arith));
    legal = (some, (refl, load));
    learned_is = is.1;
  };
  next = record { before = []; led = refl; others = others_none 0 []; next_is = is.2 };
}
