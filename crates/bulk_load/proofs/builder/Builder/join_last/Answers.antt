-- Both pieces are closed as planned, and stand beside each other then.
use Rattle.bulk_load.proofs.Common.{◌≡◌, ◌+◌, ◌-◌, ◌<◌, take, slice_set, None, length, refl, ap, sym, subst, ◌∙◌, arith, vec_len, length-set, length-take, Layout, All}
use Rattle.bulk_load.specs.declared.builder.StackedPiece.{StackedPiece}
use Rattle.bulk_load.specs.Loading.{IsOfLeaves}
use Rattle.bulk_load.proofs.Stacks.Closing.{fits}
use Rattle.bulk_load.proofs.Stacks.Joining.{first_piece, second_piece, joined_stack, each_few, each_low, first_node, low_joined, nodes_then, none_before, piece_closed, second_node, stays_bare}
use Rattle.bulk_load.proofs.Loading.{leaves_more}
use Rattle.bulk_load.proofs.builder.Builder.join_last.Goals as goal

pub plan_join-plan-requires : goal.plan_join-plan-requires
plan_join-plan-requires c =
    let (xs, s) = c.requires.stack in let l = c.args.self.now in let ok = l.pieces.ok.0 in (
      each_few l s.levels s.top s.pieces (c.len-top.result - 1 - 1) c.index.result.now (omega (arith, ok, c.len-top.ensures, c.requires.several)) c.index.ensures,
      each_few l s.levels s.top s.pieces (c.len-top.result - 1) c.index-2.result.now (omega (arith, ok, c.len-top.ensures, c.requires.several)) c.index-2.ensures,
    )

pub close_piece-behind-requires-clause-piece : goal.close_piece-behind-requires-clause-piece
close_piece-behind-requires-clause-piece c =
    let (xs, s) = c.requires.stack in let l = c.args.self.now in
    (s.levels, s.top, None, first_piece l xs s (c.len-top.result - 1) c.index-2.result.now (omega (arith, l.pieces.ok.0, c.len-top.ensures, c.requires.several)) c.index-2.ensures)

pub close_piece-behind-requires-clause-fits : goal.close_piece-behind-requires-clause-fits
close_piece-behind-requires-clause-fits c =
    let (xs, s) = c.requires.stack in let l = c.args.self.now in
    let p = first_piece l xs s (c.len-top.result - 1) c.index-2.result.now (omega (arith, l.pieces.ok.0, c.len-top.ensures, c.requires.several)) c.index-2.ensures in
    omega (arith, fits l s.levels s.top None c.index-2.result.now.count 0 p, l.tips.ok.0)

pub close_piece-behind-requires-clause-room : goal.close_piece-behind-requires-clause-room
close_piece-behind-requires-clause-room c = λ closes.
    let (xs, s) = c.requires.stack in let l = c.args.self.now in
    let p = first_piece l xs s (c.len-top.result - 1) c.index-2.result.now (omega (arith, l.pieces.ok.0, c.len-top.ensures, c.requires.several)) c.index-2.ensures in
    let two = c.plan_join-plan.ensures.right closes in (
      two,
      each_few l s.levels s.top s.pieces (c.len-top.result - 1) c.index-2.result.now (omega (arith, l.pieces.ok.0, c.len-top.ensures, c.requires.several)) c.index-2.ensures,
      first_node l.nodes l.layout.nodes (length l.pieces.items) (length l.tips.items) c.index-2.result.now.count s.room (omega (arith, l.pieces.ok.0, c.requires.several)) two
          (omega (arith, fits l s.levels s.top None c.index-2.result.now.count 0 p)),
    )

pub close_piece-requires-clause-piece : goal.close_piece-requires-clause-piece
close_piece-requires-clause-piece c =
    let (xs, s) = c.requires.stack in let l = c.args.self.now in
    let (y, st, t) = c.close_piece-behind.ensures.closed s.levels s.top None
    (first_piece l xs s (c.len-top.result - 1) c.index-2.result.now (omega (arith, l.pieces.ok.0, c.len-top.ensures, c.requires.several)) c.index-2.ensures) in
    second_piece l c.close_piece-behind.new.self s.levels s.top s.pieces (c.len-top.result - 1 - 1) c.index.result.now
    (omega (arith, l.pieces.ok.0, c.len-top.ensures, c.requires.several)) c.index.ensures y c.close_piece-behind.result st t

pub close_piece-requires-clause-fits : goal.close_piece-requires-clause-fits
close_piece-requires-clause-fits c =
    let (xs, s) = c.requires.stack in let l = c.args.self.now in
    let (y, st, t) = c.close_piece-behind.ensures.closed s.levels s.top None
    (first_piece l xs s (c.len-top.result - 1) c.index-2.result.now (omega (arith, l.pieces.ok.0, c.len-top.ensures, c.requires.several)) c.index-2.ensures) in
    let (ms, z, right, p) = second_piece l c.close_piece-behind.new.self s.levels s.top s.pieces (c.len-top.result - 1 - 1) c.index.result.now
    (omega (arith, l.pieces.ok.0, c.len-top.ensures, c.requires.several)) c.index.ensures y c.close_piece-behind.result st t in
    omega (arith, fits c.close_piece-behind.new.self ms z right c.index.result.now.count c.close_piece-behind.result p, c.close_piece-behind.new.self.tips.ok.0)

pub close_piece-requires-clause-room : goal.close_piece-requires-clause-room
close_piece-requires-clause-room c = λ closes.
    let (xs, s) = c.requires.stack in let l = c.args.self.now in
    let (y, st, t) = c.close_piece-behind.ensures.closed s.levels s.top None
    (first_piece l xs s (c.len-top.result - 1) c.index-2.result.now (omega (arith, l.pieces.ok.0, c.len-top.ensures, c.requires.several)) c.index-2.ensures) in
    let (ms, z, right, p) = second_piece l c.close_piece-behind.new.self s.levels s.top s.pieces (c.len-top.result - 1 - 1) c.index.result.now
    (omega (arith, l.pieces.ok.0, c.len-top.ensures, c.requires.several)) c.index.ensures y c.close_piece-behind.result st t in
    let two = c.plan_join-plan.ensures.left closes in (
      two,
      each_few l s.levels s.top s.pieces (c.len-top.result - 1 - 1) c.index.result.now (omega (arith, l.pieces.ok.0, c.len-top.ensures, c.requires.several)) c.index.ensures,
      subst (λ n. c.close_piece-behind.new.self.nodes < n) (sym (ap (λ (y : Layout). y.nodes) c.close_piece-behind.ensures.kept.layout))
          (second_node l.nodes l.layout.nodes (length l.pieces.items) (length l.tips.items) c.close_piece-behind.new.self.nodes (length c.close_piece-behind.new.self.tips.items)
          c.index.result.now.count c.index-2.result.now.count s.room (piece_closed l c.close_piece-behind.new.self c.index-2.result.now.count c.close_piece-behind.result c.plan_join-plan.result.closes_right c.plan_join-plan.ensures.right
          c.close_piece-behind.ensures.nodes c.close_piece-behind.ensures.count c.close_piece-behind.ensures.tips)
          (omega (arith, l.pieces.ok.0, c.requires.several)) two
          (omega (arith, fits c.close_piece-behind.new.self ms z right c.index.result.now.count c.close_piece-behind.result p))),
    )

pub returns-clause-joined : goal.returns-clause-joined
returns-clause-joined c = λ xs s.
    let l = c.args.self.now in let m = c.close_piece-behind.new.self in let o = c.close_piece.new.self in
    let i = piece_closed l c.close_piece-behind.new.self c.index-2.result.now.count c.close_piece-behind.result c.plan_join-plan.result.closes_right c.plan_join-plan.ensures.right
    c.close_piece-behind.ensures.nodes c.close_piece-behind.ensures.count c.close_piece-behind.ensures.tips in
    let j = piece_closed c.close_piece-behind.new.self c.close_piece.new.self c.index.result.now.count c.close_piece.result c.plan_join-plan.result.closes_left c.plan_join-plan.ensures.left
    c.close_piece.ensures.nodes c.close_piece.ensures.count c.close_piece.ensures.tips in
    let popped : length c.pop.new.self.items + 1 ≡ length l.pieces.items =
    let same = c.close_piece.ensures.pieces ∙ c.close_piece-behind.ensures.pieces in let ps = o.pieces in
    omega (arith, ap length c.pop.ensures.rest, length-take (vec_len ps - 1) ps.items, ap vec_len same, ps.ok.0, l.pieces.ok.0, c.requires.several) in
    let bare = stays_bare l m o xs s (c.len-top.result - 1 - 1) (c.len-top.result - 1) c.index.result.now c.index-2.result.now c.plan_join-plan.result.closes_left c.plan_join-plan.result.closes_right
    c.close_piece.result c.close_piece-behind.result (omega (arith, l.pieces.ok.0, c.len-top.ensures, c.requires.several)) c.index.ensures
    (omega (arith, l.pieces.ok.0, c.len-top.ensures, c.requires.several)) c.index-2.ensures c.plan_join-plan.ensures.even
    c.close_piece-behind.ensures.nodes c.close_piece-behind.ensures.count c.close_piece-behind.ensures.tips c.close_piece.ensures.nodes c.close_piece.ensures.count c.close_piece.ensures.tips in
    let (y, st, t) = c.close_piece-behind.ensures.closed s.levels s.top None
    (first_piece l xs s (c.len-top.result - 1) c.index-2.result.now (omega (arith, l.pieces.ok.0, c.len-top.ensures, c.requires.several)) c.index-2.ensures) in
    let whole : StackedPiece = record { count = c.close_piece.result + c.close_piece-behind.result; height = c.plan_join-plan.result.height } in
    let pieces_are : slice_set c.pop.new.self.items (c.len-top.result - 1 - 1) whole ≡ slice_set (take (c.len-top.result - 1 - 1 + 1) l.pieces.items) (c.len-top.result - 1 - 1) whole =
    ap (λ ps. slice_set ps (c.len-top.result - 1 - 1) whole)
    (c.pop.ensures.rest ∙ (ap (λ ps. take (vec_len ps - 1) ps.items) (c.close_piece.ensures.pieces ∙ c.close_piece-behind.ensures.pieces) ∙
    ap (λ n. take n l.pieces.items) (let e : vec_len l.pieces - 1 ≡ c.len-top.result - 1 - 1 + 1 = omega (arith, c.len-top.ensures, c.requires.several) in e))) in
    joined_stack l c.close_piece-behind.new.self c.close_piece.new.self _ xs (c.len-top.result - 1 - 1) c.index.result.now whole
    (omega (arith, l.pieces.ok.0, c.len-top.ensures, c.requires.several)) c.index.ensures c.close_piece.result c.close_piece-behind.result refl
    (omega (arith, c.close_piece.ensures.count, c.close_piece-behind.ensures.count, c.plan_join-plan.ensures.few))
    (λ t h. record { table = h.table; ordered = h.ordered; built = h.built; tips_are = h.tips_are; taken = h.taken })
    pieces_are
    (c.close_piece.ensures.kept.last ∙ c.close_piece-behind.ensures.kept.last)
    (nodes_then l m o c.index.result.now.count c.index-2.result.now.count (length (slice_set c.pop.new.self.items (c.len-top.result - 1 - 1) whole)) 0 i j
    (c.close_piece.ensures.kept.layout ∙ c.close_piece-behind.ensures.kept.layout) (ap (λ n. n + 1) (length-set c.pop.new.self.items (c.len-top.result - 1 - 1) whole) ∙ popped) bare s.room)
    (let few = s.few in omega (arith, few, i.spared, j.spared))
    (λ z.
    let second = none_before m.nodes o.nodes c.plan_join-plan.result.closes_left c.close_piece.ensures.nodes z in
    let first = none_before l.nodes m.nodes c.plan_join-plan.result.closes_right c.close_piece-behind.ensures.nodes second.0 in
    let lows = s.low first.0 in
    let left = each_low l.pieces.items (c.len-top.result - 1 - 1) c.index.result.now lows (omega (arith, l.pieces.ok.0, c.len-top.ensures, c.requires.several)) c.index.ensures in
    let right = each_low l.pieces.items (c.len-top.result - 1) c.index-2.result.now lows (omega (arith, l.pieces.ok.0, c.len-top.ensures, c.requires.several)) c.index-2.ensures in
    subst (All IsOfLeaves) (sym pieces_are) (low_joined l.pieces.items (c.len-top.result - 1 - 1) whole lows (c.plan_join-plan.ensures.low left right second.1 first.1)))
    (λ h. let few = s.few in (bare (s.bare h) (omega (arith, few, h))).0)
    c.close_piece.ensures.closed s.levels s.top s.pieces s.content s.last y st t

pub returns-clause-kept : goal.returns-clause-kept
returns-clause-kept c =
    let l = c.args.self.now in let m = c.close_piece-behind.new.self in let o = c.close_piece.new.self in
    let i = piece_closed l c.close_piece-behind.new.self c.index-2.result.now.count c.close_piece-behind.result c.plan_join-plan.result.closes_right c.plan_join-plan.ensures.right
    c.close_piece-behind.ensures.nodes c.close_piece-behind.ensures.count c.close_piece-behind.ensures.tips in
    let j = piece_closed c.close_piece-behind.new.self c.close_piece.new.self c.index.result.now.count c.close_piece.result c.plan_join-plan.result.closes_left c.plan_join-plan.ensures.left
    c.close_piece.ensures.nodes c.close_piece.ensures.count c.close_piece.ensures.tips in
    let popped : length c.pop.new.self.items + 1 ≡ length l.pieces.items =
    let same = c.close_piece.ensures.pieces ∙ c.close_piece-behind.ensures.pieces in let ps = o.pieces in
    omega (arith, ap length c.pop.ensures.rest, length-take (vec_len ps - 1) ps.items, ap vec_len same, ps.ok.0, l.pieces.ok.0, c.requires.several) in
    let (xs, s) = c.requires.stack in
    let bare = stays_bare l m o xs s (c.len-top.result - 1 - 1) (c.len-top.result - 1) c.index.result.now c.index-2.result.now c.plan_join-plan.result.closes_left c.plan_join-plan.result.closes_right
    c.close_piece.result c.close_piece-behind.result (omega (arith, l.pieces.ok.0, c.len-top.ensures, c.requires.several)) c.index.ensures
    (omega (arith, l.pieces.ok.0, c.len-top.ensures, c.requires.several)) c.index-2.ensures c.plan_join-plan.ensures.even
    c.close_piece-behind.ensures.nodes c.close_piece-behind.ensures.count c.close_piece-behind.ensures.tips c.close_piece.ensures.nodes c.close_piece.ensures.count c.close_piece.ensures.tips in
    let kept = leaves_more l m o c.close_piece-behind.ensures.kept c.close_piece.ensures.kept in record {
      leaves = record {
        layout = kept.layout;
        last = kept.last;
        cursors = kept.cursors;
        states = kept.states;
        space = λ h.
            let s = kept.space h in let less = s.1 in
            (s.0, omega (arith, less, popped, c.pop.new.self.ok.0, o.pieces.ok.0, l.pieces.ok.0, c.pop.ensures.capacity, ap vec_len (c.close_piece.ensures.pieces ∙ c.close_piece-behind.ensures.pieces)));
      };
      nodes = λ more h. nodes_then l m o c.index.result.now.count c.index-2.result.now.count _ more i j (c.close_piece.ensures.kept.layout ∙ c.close_piece-behind.ensures.kept.layout)
          (ap (λ n. n + 1) (length-set c.pop.new.self.items (c.len-top.result - 1 - 1) _) ∙ popped) bare h;
      few = λ n h. omega (arith, h, i.spared, j.spared);
    }
