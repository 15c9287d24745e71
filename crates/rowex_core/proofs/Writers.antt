-- A publish that is legal for versions is legal for words.
pub mod Leading
pub mod Slots
use Rattle.rowex_core.proofs.Common.{◌≡◌, sym, ap, ◌∙◌, subst, items_of, IsNextVersion}
use Rattle.rowex_core.specs.Cores.{heap_of}
use Rattle.rowex_core.specs.declared.event.Spot.TheVariants.{Value}
use Rattle.rowex_core.specs.Events.{IsLegalPublish, stored_words, stored_root, next_tree, next_change}
use Rattle.rowex_core.proofs.Events.Finding.{finds_change}
use Rattle.rowex_core.proofs.Cores.Valuing.{tree_read, legal_publish, value_trades}
use Rattle.rowex_core.specs.Writers.{PublishIsLegal, ValueIsLegal}

pub publish_is_legal : PublishIsLegal
publish_is_legal c q spot w of_entry law locked entry packed t x l ne = (legal, next, change)
  where
    next : next_tree c spot w ≡ t
    next = tree_read (heap_of (stored_words c spot w)) (stored_root c spot w) t l.top l.tree

    -- the demands on the next version are the same for both
    version : IsNextVersion c.shared q (heap_of (stored_words c spot w)) (stored_root c spot w) (next_tree c spot w) x
    version = subst (λ z. IsNextVersion c.shared q (heap_of (stored_words c spot w)) (stored_root c spot w) z x) (sym next) l.next

    change : next_change c q spot w ≡ x
    change = finds_change c q spot w of_entry law version.top version.tree x version.change (λ e. ne (e ∙ ap items_of next)) l.own

    legal : IsLegalPublish c q spot w
    legal = record {
      locked = locked;
      entry = entry;
      packed = packed;
      next = subst (IsNextVersion c.shared q (heap_of (stored_words c spot w)) (stored_root c spot w) (next_tree c spot w)) (sym change) version;
    }

-- So is the store of a value.
pub value_is_legal : ValueIsLegal
value_is_legal c q l w law named small =
    (legal_publish c q (Value l) w law (named, small), value_trades c q l w law named)
