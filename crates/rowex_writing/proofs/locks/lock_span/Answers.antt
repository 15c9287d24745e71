-- One node more; one that is refused, and the anchor.
use Rattle.rowex_writing.proofs.Common.{ℕ, ◌≡◌, ◌∷◌, ◌+◌, ◌-◌, ◌<◌, ◌≤◌, le_trans, length, rules, true, false, refl, sym, ap, subst, ◌∙◌, arith, get_or, slice_range, PathNode, led_may_lock, IsOneOf}
use Rattle.rowex_writing.specs.locks.Locks.{HasJustLocked, HasNotLocked, TriesNodes, numbers_of}
use Rattle.rowex_writing.proofs.locks.Tried.{anchor_more, nodes_more, nodes_none, nodes_once, number_new, once_then}
use Rattle.rowex_writing.proofs.locks.Locks.{works_seat, works_later, works_count, no_change_made_later}
use Rattle.rowex_writing.proofs.locks.Spans.{slice_more, slice_none, none_taken, locked_more, locked_same, led_at, led_nodes, met_since, not_locked, numbers_few, slice_few}
use Rattle.rowex_writing.proofs.locks.Others.{met_under_pin, tried_begin}
use Rattle.rowex_writing.proofs.locks.lock_span.Goals as goal

not_taken : {A : Type 0} → false ≡ true → A
not_taken e = absurd (cc)

-- the index before this one, and the loop's end
again : {first index : ℕ} → first < index → index ≡ index - 1 + 1
again more = omega (arith, more)

below : {first index len : ℕ} → first < index → index ≤ len → index - 1 < len
below more low = omega (arith, more, low)

upto : {first index len : ℕ} → first < index → index ≤ len → index - 1 + 1 ≤ len
upto more low = omega (arith, more, low)

the_top : {first index : ℕ} (end : ℕ) → first ≤ index → first ≡ end - 1 → index ≤ first → index ≡ end - 1
the_top end low top high = omega (arith, low, top, high)

pub loop-index-init : goal.loop-index-init
loop-index-init g c = record {
  few = omega arith;
  own = c.requires.own;
  top = c.first_locked-first.ensures;
  range = (let e = c.first_locked-first.ensures in omega (arith, c.requires.span.0), omega arith);
  tries = subst (λ z. TriesNodes c.args.table.now g.G.Gate.becomes (numbers_of z) (c.args.seat.now, c.args.gate.now) (c.args.seat.now, c.args.gate.now)) (sym (slice_none c.args.way.now c.args.span.len))
      (nodes_none c.args.table.now g.G.Gate.becomes (c.args.seat.now, c.args.gate.now));
  locked = subst (λ z. HasJustLocked c.args.seat.now.known (numbers_of z)) (sym (slice_none c.args.way.now c.args.span.len)) (none_taken c.args.seat.now.known c.requires.free.0);
  anchor = c.requires.free.1;
  same = refl;
}

-- the node of the way at an index, to which the pass was led
abbrev no_step : PathNode
no_step = record { number = 0; height = 0; first_position = 0; count = 0; slot = 0 }

pub lock_node-requires-clause-range : goal.lock_node-requires-clause-range
lock_node-requires-clause-range g c =
    let i = c.loop-index.invariant in
    (led_at c.args.table.now.layout c.args.seat.now.known c.loop-index.seat.known c.args.way.now (c.loop-index.index - 1) no_step (below c.loop-index-test.true (le_trans i.range.1 c.requires.span.1))
    (works_later c.args.table.now g.G.Gate.becomes (c.args.seat.now, c.args.gate.now) (c.loop-index.seat, c.loop-index.gate) i.tries.run) c.requires.led).0

pub lock_node-requires-clause-may : goal.lock_node-requires-clause-may
lock_node-requires-clause-may g c =
    let i = c.loop-index.invariant in
    let (low, (m, h, since, sure)) = led_at c.args.table.now.layout c.args.seat.now.known c.loop-index.seat.known c.args.way.now (c.loop-index.index - 1) no_step (below c.loop-index-test.true (le_trans i.range.1 c.requires.span.1))
    (works_later c.args.table.now g.G.Gate.becomes (c.args.seat.now, c.args.gate.now) (c.loop-index.seat, c.loop-index.gate) i.tries.run) c.requires.led in
    led_may_lock c.args.table.now.layout c.loop-index.seat.known m (get_or c.args.way.now (c.loop-index.index - 1) no_step).number h since sure

pub unlock_nodes-requires-clause-own : goal.unlock_nodes-requires-clause-own
unlock_nodes-requires-clause-own g c =
    works_seat c.args.table.now g.G.Gate.becomes (c.loop-index.seat, c.loop-index.gate) (c.lock_node.new.seat, c.lock_node.new.gate) c.lock_node.ensures.tries c.loop-index.invariant.own

pub unlock_nodes-requires-clause-nodes : goal.unlock_nodes-requires-clause-nodes
unlock_nodes-requires-clause-nodes g c = led_nodes c.args.table.now.layout c.args.seat.now.known c.args.way.now (c.loop-index.index - 1 + 1) c.args.span.len c.requires.led

pub unlock_nodes-requires-clause-locked : goal.unlock_nodes-requires-clause-locked
unlock_nodes-requires-clause-locked g c =
    let i = c.loop-index.invariant in
    let r = c.lock_node.ensures.same c.if-not-lock_node.true in
    let at = again c.loop-index-test.true in
    locked_same c.loop-index.seat.known c.lock_node.new.seat.known _ r.0 (subst (λ n. HasJustLocked c.loop-index.seat.known (numbers_of (slice_range c.args.way.now n c.args.span.len))) at i.locked)

pub returns-then-not-lock_node-clause-tries : goal.returns-then-not-lock_node-clause-tries
returns-then-not-lock_node-clause-tries g c =
    let i = c.loop-index.invariant in
    let at = again c.loop-index-test.true in
    let table = c.args.table.now in
    let so_far = subst (λ n. TriesNodes table g.G.Gate.becomes (numbers_of (slice_range c.args.way.now n c.args.span.len)) (c.args.seat.now, c.args.gate.now) (c.loop-index.seat, c.loop-index.gate)) at i.tries in
    let one_more = nodes_more table g.G.Gate.becomes _ _ _ _ _ (number_new c.args.way.now (c.loop-index.index - 1) c.args.span.len _ (below c.loop-index-test.true i.range.1) c.requires.span.1 c.requires.apart) so_far c.lock_node.ensures.tries in
    let others = numbers_few c.args.way.now (c.loop-index.index - 1 + 1) c.args.span.len (upto c.loop-index-test.true i.range.1) c.requires.span.1 in
    let back = slice_few c.args.way.now (c.loop-index.index - 1 + 1) c.args.span.len in (
      _,
      once_then table g.G.Gate.becomes _ _ _ (nodes_once table g.G.Gate.becomes _ _ _ one_more) c.unlock_nodes.ensures.works,
      omega (arith, others, i.top, i.range.1, c.loop-index-test.true),
      λ e. not_taken e,
      omega (arith, others, back, i.few, c.lock_node.ensures.few, c.unlock_nodes.ensures.few),
    )

pub returns-then-not-lock_node-clause-refused : goal.returns-then-not-lock_node-clause-refused
returns-then-not-lock_node-clause-refused g c e =
    let i = c.loop-index.invariant in
    let r = c.lock_node.ensures.same c.if-not-lock_node.true in
    let later = works_later c.args.table.now g.G.Gate.becomes (c.args.seat.now, c.args.gate.now) (c.loop-index.seat, c.loop-index.gate) i.tries.run in
    let (low, (m, h, since, sure)) = led_at c.args.table.now.layout c.args.seat.now.known c.loop-index.seat.known c.args.way.now (c.loop-index.index - 1) no_step (below c.loop-index-test.true (le_trans i.range.1 c.requires.span.1)) later c.requires.led in
    let at = again c.loop-index-test.true in
    let others : HasNotLocked c.loop-index.seat.known (get_or c.args.way.now (c.loop-index.index - 1) no_step).number = record {
      since = m;
      height = h;
      pinned = since;
      led = sure;
      own = i.same ∙ c.requires.none;
      free = not_locked c.loop-index.seat.known _ _ (subst (λ n. HasJustLocked c.loop-index.seat.known (numbers_of (slice_range c.args.way.now n c.args.span.len))) at i.locked)
          (number_new c.args.way.now (c.loop-index.index - 1) c.args.span.len no_step (below c.loop-index-test.true i.range.1) c.requires.span.1 c.requires.apart);
      quiet = no_change_made_later c.args.seat.now.known c.loop-index.seat.known later c.requires.quiet;
    } in
    let refused = c.lock_node.ensures.refused c.if-not-lock_node.true others in
    let u = c.unlock_nodes.ensures in (
      (u.free, u.rest.1 ∙ (r.1 ∙ i.anchor)),
      (
        met_since c.args.table.now.layout c.args.seat.now.known c.loop-index.seat.known c.lock_node.new.seat.known c.unlock_nodes.new.seat.known
            (works_count c.args.table.now g.G.Gate.becomes (c.args.seat.now, c.args.gate.now) (c.loop-index.seat, c.loop-index.gate) i.tries.run)
            later.pass u.rest.4 refused.0,
        met_under_pin c.args.table.now.layout c.args.seat.now c.loop-index.seat c.lock_node.new.seat c.unlock_nodes.new.seat later
            (tried_begin c.args.table.now g.G.Gate.becomes (c.args.seat.now, c.args.gate.now) (c.loop-index.seat, c.loop-index.gate) i.tries.run)
            (tried_begin c.args.table.now g.G.Gate.becomes (c.lock_node.new.seat, c.lock_node.new.gate) (c.unlock_nodes.new.seat, c.unlock_nodes.new.gate) c.unlock_nodes.ensures.works) refused.1,
      ),
    )

pub loop-index-preserved : goal.loop-index-preserved
loop-index-preserved g c =
    let i = c.loop-index.invariant in
    let l = c.lock_node.ensures.locked c.if-not-lock_node.false in
    let at = sym (again c.loop-index-test.true) in
    let d : PathNode = no_step in
    let part = slice_more c.args.way.now (c.loop-index.index - 1) c.args.span.len d (below c.loop-index-test.true i.range.1) c.requires.span.1 ∙
    ap (λ n. get_or c.args.way.now (c.loop-index.index - 1) d ∷ slice_range c.args.way.now n c.args.span.len) at in
    let fresh = number_new c.args.way.now (c.loop-index.index - 1) c.args.span.len d (below c.loop-index-test.true i.range.1) c.requires.span.1 c.requires.apart in
    let new = subst (λ n. IsOneOf (get_or c.args.way.now (c.loop-index.index - 1) d).number (numbers_of (slice_range c.args.way.now n c.args.span.len)) → ⊥) at fresh in
    record {
      few = omega (arith, i.few, i.range.1, c.loop-index-test.true, c.lock_node.ensures.few);
      own = works_seat c.args.table.now g.G.Gate.becomes (c.loop-index.seat, c.loop-index.gate) (c.lock_node.new.seat, c.lock_node.new.gate) c.lock_node.ensures.tries i.own;
      top = i.top;
      range = (omega (arith, c.loop-index-test.true), omega (arith, i.range.1));
      tries = subst (λ z. TriesNodes c.args.table.now g.G.Gate.becomes (numbers_of z) (c.args.seat.now, c.args.gate.now) (c.lock_node.new.seat, c.lock_node.new.gate)) (sym part)
          (nodes_more c.args.table.now g.G.Gate.becomes _ _ _ _ _ new i.tries c.lock_node.ensures.tries);
      locked = subst (λ z. HasJustLocked c.lock_node.new.seat.known (numbers_of z)) (sym part) (locked_more c.loop-index.seat.known c.lock_node.new.seat.known _ _ l i.locked);
      anchor = l.3 ∙ i.anchor;
      same = l.2 ∙ i.same;
    }

pub returns-then-span-gt0-clause-tries : goal.returns-then-span-gt0-clause-tries
returns-then-span-gt0-clause-tries g c =
    let i = c.loop-index.invariant in
    let all = numbers_few c.args.way.now c.loop-index.index c.args.span.len i.range.1 c.requires.span.1 in
    let first : c.loop-index.index ≡ c.args.span.end - 1 = omega (arith, i.range.0, i.top, c.loop-index-test.false) in (
      _,
      nodes_once c.args.table.now g.G.Gate.becomes _ _ _ i.tries,
      omega (arith, all, first, c.requires.span.0, c.if-span-gt0.true),
      λ e. omega (arith, all, first, c.requires.span.0, c.if-span-gt0.true),
      omega (arith, all, first, c.requires.span.0, c.if-span-gt0.true, i.few),
    )

pub returns-then-span-gt0-clause-nodes : goal.returns-then-span-gt0-clause-nodes
returns-then-span-gt0-clause-nodes g c e some =
    let i = c.loop-index.invariant in
    let at = the_top c.args.span.end i.range.0 i.top c.loop-index-test.false in
    subst (λ n. TriesNodes c.args.table.now g.G.Gate.becomes (numbers_of (slice_range c.args.way.now n c.args.span.len)) (c.args.seat.now, c.args.gate.now) (c.loop-index.seat, c.loop-index.gate)) at i.tries

pub returns-then-span-gt0-clause-locked : goal.returns-then-span-gt0-clause-locked
returns-then-span-gt0-clause-locked g c e =
    let i = c.loop-index.invariant in
    let at = the_top c.args.span.end i.range.0 i.top c.loop-index-test.false in
    record {
      nodes = subst (λ n. HasJustLocked c.loop-index.seat.known (numbers_of (slice_range c.args.way.now n c.args.span.len))) at i.locked;
      top = λ z. absurd (omega (arith, c.if-span-gt0.true));
      below = λ z. i.anchor;
    }

pub returns-then-lock_anchor-clause-tries : goal.returns-then-lock_anchor-clause-tries
returns-then-lock_anchor-clause-tries g c =
    let i = c.loop-index.invariant in
    let all = numbers_few c.args.way.now c.loop-index.index c.args.span.len i.range.1 c.requires.span.1 in
    let first : c.loop-index.index ≡ c.args.span.end = omega (arith, i.range.0, i.top, c.loop-index-test.false, c.if-span-gt0.false) in (
      _,
      anchor_more c.args.table.now g.G.Gate.becomes _ _ _ _ i.tries c.lock_anchor.ensures.tries,
      omega (arith, all, first),
      λ e. omega (arith, all, first),
      omega (arith, all, i.few, c.lock_anchor.ensures.few),
    )

pub returns-then-lock_anchor-clause-locked : goal.returns-then-lock_anchor-clause-locked
returns-then-lock_anchor-clause-locked g c e =
    let i = c.loop-index.invariant in
    let l = c.lock_anchor.ensures.locked c.if-lock_anchor.true in
    let at = the_top c.args.span.end i.range.0 i.top c.loop-index-test.false in
    record {
      nodes = subst (λ n. HasJustLocked c.lock_anchor.new.seat.known (numbers_of (slice_range c.args.way.now n c.args.span.len))) at
          (locked_same c.loop-index.seat.known c.lock_anchor.new.seat.known _ l.1 i.locked);
      top = λ z. l.0;
      below = λ z. absurd (omega (arith, c.if-span-gt0.false));
    }

pub unlock_nodes-requires-2-clause-own : goal.unlock_nodes-requires-2-clause-own
unlock_nodes-requires-2-clause-own g c =
    works_seat c.args.table.now g.G.Gate.becomes (c.loop-index.seat, c.loop-index.gate) (c.lock_anchor.new.seat, c.lock_anchor.new.gate) c.lock_anchor.ensures.tries c.loop-index.invariant.own

pub unlock_nodes-requires-2-clause-nodes : goal.unlock_nodes-requires-2-clause-nodes
unlock_nodes-requires-2-clause-nodes g c = led_nodes c.args.table.now.layout c.args.seat.now.known c.args.way.now c.loop-index.index c.args.span.len c.requires.led

pub unlock_nodes-requires-2-clause-locked : goal.unlock_nodes-requires-2-clause-locked
unlock_nodes-requires-2-clause-locked g c =
    locked_same c.loop-index.seat.known c.lock_anchor.new.seat.known _ (c.lock_anchor.ensures.refused c.if-lock_anchor.false).1 c.loop-index.invariant.locked

pub returns-clause-tries : goal.returns-clause-tries
returns-clause-tries g c =
    let i = c.loop-index.invariant in
    let all = numbers_few c.args.way.now c.loop-index.index c.args.span.len i.range.1 c.requires.span.1 in
    let first : c.loop-index.index ≡ c.args.span.end = omega (arith, i.range.0, i.top, c.loop-index-test.false, c.if-span-gt0.false) in
    let back = slice_few c.args.way.now c.loop-index.index c.args.span.len in (
      _,
      once_then c.args.table.now g.G.Gate.becomes _ _ _ (anchor_more c.args.table.now g.G.Gate.becomes _ _ _ _ i.tries c.lock_anchor.ensures.tries) c.unlock_nodes-2.ensures.works,
      omega (arith, all, first),
      λ e. not_taken e,
      omega (arith, all, back, i.few, c.lock_anchor.ensures.few, c.unlock_nodes-2.ensures.few),
    )

pub returns-clause-refused : goal.returns-clause-refused
returns-clause-refused g c e =
    let i = c.loop-index.invariant in
    let r = c.lock_anchor.ensures.refused c.if-lock_anchor.false in
    let later = works_later c.args.table.now g.G.Gate.becomes (c.args.seat.now, c.args.gate.now) (c.loop-index.seat, c.loop-index.gate) i.tries.run in
    let u = c.unlock_nodes-2.ensures in (
      (u.free, u.rest.1 ∙ (r.2 ∙ i.anchor)),
      (
        met_since c.args.table.now.layout c.args.seat.now.known c.loop-index.seat.known c.lock_anchor.new.seat.known c.unlock_nodes-2.new.seat.known
            (works_count c.args.table.now g.G.Gate.becomes (c.args.seat.now, c.args.gate.now) (c.loop-index.seat, c.loop-index.gate) i.tries.run)
            later.pass u.rest.4 r.0,
        met_under_pin c.args.table.now.layout c.args.seat.now c.loop-index.seat c.lock_anchor.new.seat c.unlock_nodes-2.new.seat later
            (tried_begin c.args.table.now g.G.Gate.becomes (c.args.seat.now, c.args.gate.now) (c.loop-index.seat, c.loop-index.gate) i.tries.run)
            (tried_begin c.args.table.now g.G.Gate.becomes (c.lock_anchor.new.seat, c.lock_anchor.new.gate) (c.unlock_nodes-2.new.seat, c.unlock_nodes-2.new.gate) c.unlock_nodes-2.ensures.works) (c.lock_anchor.ensures.met c.if-lock_anchor.false),
      ),
    )

pub bounds-way-index : goal.bounds-way-index
bounds-way-index g c = below c.loop-index-test.true (le_trans c.loop-index.invariant.range.1 c.requires.span.1)

pub offset_bounds-way-index : goal.offset_bounds-way-index
offset_bounds-way-index g c = let h : c.loop-index.index - 1 < length c.args.way.now = below c.loop-index-test.true (le_trans c.loop-index.invariant.range.1 c.requires.span.1) in search (rules, h)

pub slice_bounds-unlock_nodes-start : goal.slice_bounds-unlock_nodes-start
slice_bounds-unlock_nodes-start g c = upto c.loop-index-test.true c.loop-index.invariant.range.1
