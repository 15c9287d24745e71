-- The words of a new table hold no tree.
use Rattle.bulk_load.proofs.Common.{◌≡◌, ℕ, ◌+◌, List, None, get_or, sym, ap, subst, ◌∙◌, arith, none-some, Layout, Epoch, Root, Anchor, PinOf, NodeWord, LeafWord, Free, node_start, leaf_start, state_word, size_fits, Rec, a_node, a_leaf, HasRecord, opening, opening_words, Shows}
use Rattle.rowex_core.proofs.Statements.Promises.{opening_is_lawful, other_zero}
use Rattle.std.proofs.Math.Nat.{min-le_right}
use Rattle.record_words.specs.declared.TheConstants.{LEAF_CLASSES}
use Rattle.record_words.specs.Layout.{uncommitted_in, uncommitted_word}
use Rattle.bulk_load.specs.Tables.{HoldsTree, state_in}

module _ (layout : Layout) (words : List ℕ) (is : words ≡ opening_words layout) where
  shown : Shows (opening layout) words
  shown = subst (Shows (opening layout)) (sym is) (opening_is_lawful layout).1

  pub first_free : (r : Rec) → HasRecord layout r → state_in layout words r ≡ state_word Free
  first_free (a_node n) has = ap (λ k. get_or words k 0) (let z : node_start layout n ≡ node_start layout n + 0 = omega arith in z) ∙ shown.each (NodeWord n 0) (has, omega arith)
  first_free (a_leaf n) has = ap (λ k. get_or words k 0) (let z : leaf_start layout n ≡ leaf_start layout n + 0 = omega arith in z) ∙ shown.each (LeafWord n 0) (has, let fits = size_fits layout n in omega (arith, fits.0))

  pub holds_none : HoldsTree layout words None
  holds_none = record {
    blank = record {
      size = shown.size;
      epoch = shown.each Epoch tt;
      root = shown.each Root tt;
      anchor = shown.each Anchor tt;
      pins = λ q low. shown.each (PinOf q) low;
      committed = λ kind. ap (λ ws. uncommitted_in ws kind) is ∙ other_zero layout (uncommitted_word kind) (λ e. omega arith) (λ e. let low = min-le_right kind LEAF_CLASSES in omega arith);
    };
    live = λ r h. absurd h;
    free = λ r has no. first_free r has;
    records = λ r h. absurd h;
    shows = λ u e. absurd (none-some u e);
  }
