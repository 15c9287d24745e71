-- The next leaf: that it may be taken, and what stays.
use Rattle.bulk_load.proofs.Common.{◌≡◌, ◌≢◌, inl, inr, ℕ, ◌<◌, List, get_or, length, refl, ap, ap₂, sym, subst, ◌∙◌, arith, vec_len, Layout, Item, Key, IsParted, Tree, a_leaf, Less, key_order, some_items}
use Rattle.bulk_load.specs.declared.builder.Builder.{Builder}
use Rattle.bulk_load.specs.Loading.{CanJoin, CanPart, EndsInLeaf, HasCursors, HasSameFields, HasTakenNone, IsLoading, IsNextLeaf, IsStackOf, IsTreeOf, KeepsLeaves, KeepsNodes, MayTakeNext, items_in}
use Rattle.bulk_load.specs.Stacks.{whole_of}
use Rattle.bulk_load.specs.Tables.{AreCursors, IsCursorOf, IsRootless, leaf_class, state_in}
use Rattle.bulk_load.proofs.Stacks.Joining.{pieces_long}
use Rattle.bulk_load.proofs.Views.{above_last, items_are}
use Rattle.bulk_load.specs.Views.{IsAboveLast, LoadView}

-- ---- what stays while pieces are joined
pub leaves_stay : (l : Builder) → KeepsLeaves l l
leaves_stay l = record { layout = refl; last = refl; cursors = refl; states = λ n h. refl; space = λ h. h }

pub leaves_more : (l m o : Builder) → KeepsLeaves l m → KeepsLeaves m o → KeepsLeaves l o
leaves_more l m o a b = record {
  layout = b.layout ∙ a.layout;
  last = b.last ∙ a.last;
  cursors = b.cursors ∙ a.cursors;
  states = λ n h.
      subst (λ (y : Layout). (n : ℕ) → n < y.leaves → state_in y o.words.items (a_leaf n) ≡ state_in y m.words.items (a_leaf n)) a.layout b.states n h ∙ a.states n h;
  space = λ h. b.space (a.space h);
}

pub nodes_stay : (l : Builder) → KeepsNodes l l
nodes_stay l = record { leaves = leaves_stay l; nodes = λ more h. h; few = λ n h. h }

pub nodes_more : (l m o : Builder) → KeepsNodes l m → KeepsNodes m o → KeepsNodes l o
nodes_more l m o a b = record { leaves = leaves_more l m o a.leaves b.leaves; nodes = λ more h. b.nodes more (a.nodes more h); few = λ n h. b.few n (a.few n h) }

-- the cursors stand at the same records
pub cursors_stay : (l m : Builder) → KeepsLeaves l m → HasCursors l → HasCursors m
cursors_stay l m k (five, are) = (
  ap length k.cursors ∙ five,
  subst (λ y. AreCursors y m.words.items m.leaves) (sym k.layout) (λ n low. subst (λ cs. IsCursorOf l.layout m.words.items (get_or cs (leaf_class l.layout n) 0) n) (sym k.cursors) (record {
    taken = λ free. (are n low).taken (sym (k.states n low) ∙ free);
    free = λ h. let b = (are n low).free h in (k.states n low ∙ b.0, b.1);
  })),
)

-- ---- the words that belong to no record
pub rootless_then : (l : Builder) (xs : List Item) (p : ℕ) → CanPart l xs p → IsRootless l.layout l.words.items
rootless_then l xs p (inl e) = e.table.blank
rootless_then l xs p (inr s) = s.stack.tree.table.blank

-- ---- where the leaf belongs
pub can_join : (l : Builder) (xs : List Item) (k : Key) (p n : ℕ) → IsLoading l xs → IsNextLeaf l k p n → CanJoin l xs p
can_join l xs k p n (c, inl e) s = inl e
can_join l xs k p n (c, inr r) s = inr (record { stack = r.stack; above = r.alone p; zero = (s.parted (some_pieces r)).1 })
  where
    some_pieces : EndsInLeaf l xs → 0 < vec_len l.pieces
    some_pieces r = omega (arith, pieces_long l r.stack.levels r.stack.top r.stack.pieces, l.pieces.ok.0)

not_both : (l m : Builder) (xs : List Item) → HasTakenNone l xs → IsStackOf m xs → ⊥
not_both l m xs e s = let some = some_items (whole_of s.levels s.top) in let same = ap length (s.content ∙ e.none) in omega (arith, some, same)

pub may_take : (l new : Builder) (xs : List Item) (k : Key) (p n : ℕ) → IsLoading l xs → IsNextLeaf l k p n → new.last ≡ l.last → CanPart new xs p → MayTakeNext new xs p k
may_take l new xs k p n (c, inl e) s last (inl f) = inl (f, s.first (let none = ap length e.no_pieces in omega (arith, none, l.pieces.ok.0)))
may_take l new xs k p n (c, inl e) s last (inr t) = absurd (not_both l new xs e t.stack)
may_take l new xs k p n (c, inr r) s last (inl f) = absurd (not_both new l xs f r.stack)
may_take l new xs k p n (c, inr r) s last (inr t) =
    inr (t, subst (λ key. IsParted p key k) (sym last) (s.parted (omega (arith, pieces_long l r.stack.levels r.stack.top r.stack.pieces, l.pieces.ok.0))))

-- ---- that the keys rise
pub rises : (l : Builder) (xs : List Item) (k : Key) → IsLoading l xs → (0 < vec_len l.pieces → key_order l.last k ≡ Less) → IsAboveLast xs k
rises l xs k (c, inl e) h = subst (λ ys. IsAboveLast ys k) (sym e.none) tt
rises l xs k (c, inr r) h = (above_last l xs k r).0 (h (omega (arith, pieces_long l r.stack.levels r.stack.top r.stack.pieces, l.pieces.ok.0)))

pub falls : (l : Builder) (xs : List Item) (k : Key) → IsLoading l xs → 0 < vec_len l.pieces → key_order l.last k ≢ Less → ¬ (IsAboveLast xs k)
falls l xs k (c, inl e) some h = absurd (let none = ap length e.no_pieces in omega (arith, none, some, l.pieces.ok.0))
falls l xs k (c, inr r) some h = λ a. h ((above_last l xs k r).1 a)

-- ---- vectors with more room
module _ (l m : Builder) (s : HasSameFields l m) where
  same_tree : (t : Tree) → IsTreeOf l t → IsTreeOf m t
  same_tree t h = record { table = rw (s.layout, s.words) h.table; ordered = h.ordered; built = h.built; tips_are = s.tips ∙ h.tips_are; taken = λ n i. rw s.nodes (h.taken n i) }

  same_stack : (xs : List Item) → IsStackOf l xs → IsStackOf m xs
  same_stack xs h = record {
    levels = h.levels;
    top = h.top;
    tree = same_tree (whole_of h.levels h.top) h.tree;
    pieces = record { counts_are = rw s.pieces h.pieces.counts_are; few = h.pieces.few };
    content = h.content;
    last = s.last ∙ h.last;
    room = rw (s.nodes, s.pieces, s.tips, s.layout) h.room;
    few = rw (s.nodes, s.tips) h.few;
    low = rw (s.nodes, s.pieces) h.low;
    bare = rw s.nodes h.bare;
  }

  pub same_loading : (xs : List Item) → IsLoading l xs → IsLoading m xs
  unfolding same_stack
  same_loading xs (c, inl e) = (
    rw (s.layout, s.words, s.leaves) c,
    inl (record {
      none = e.none;
      table = rw (s.layout, s.words) e.table;
      no_pieces = s.pieces ∙ e.no_pieces;
      no_tips = s.tips ∙ e.no_tips;
      no_nodes = s.nodes ∙ e.no_nodes;
    }),
  )
  same_loading xs (c, inr r) = (rw (s.layout, s.words, s.leaves) c, inr (record { stack = same_stack xs r.stack; alone = r.alone }))

-- ---- what contracts see
-- the leaves that are loaded are those that the words show
pub loading_shown : (l : Builder) (xs : List Item) → IsLoading l xs → IsLoading l (items_in l)
loading_shown l xs h = subst (IsLoading l) (sym (items_are l xs h)) h

pub same_view : (l : Builder) (v : LoadView) (layout : Layout) (xs : List Item) → IsLoading l xs → l.layout ≡ layout → record { layout = layout; items = xs } ≡ v →
    record { layout = l.layout; items = items_in l } ≡ v
same_view l v layout xs h e is = ap₂ (λ y us. let w : LoadView = record { layout = y; items = us } in w) e (items_are l xs h) ∙ is
