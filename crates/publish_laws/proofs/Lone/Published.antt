-- What a publish leaves outside the tree, in a table with one pass.
use Rattle.publish_laws.proofs.Common.{◌≡◌, ◌≢◌, ℕ, refl, sym, ap, subst, ◌∙◌, arith, Layout, Free, Ready, is_linked, IsOneOf, a_node, all_of, Publish, Event, Spot, ReadyBy, UnlinkedBy, Owned, Core, holder_of, after, next_tree, IsOwned, fate_of, knows_all, Steps, silent, TableView, SeatView}
use Rattle.publish_laws.specs.Lone.{IsFreeAt, IsLone, IsOut, IsOutAt, KeepsSpare}
use Rattle.publish_laws.proofs.Lone.Fates.{next_out}
use Rattle.publish_laws.proofs.Lone.{one_of, step_back, step_knows}

module _ {G : Type 0} (table : TableView) (becomes : G → Event → G → Type 0) (spot : Spot) (w : ℕ) (a b : SeatView × G) (step : Steps table becomes (Publish spot w) a b) where
  -- one that was outside and that the pass hasn't made ready
  stays_out : (n : ℕ) (d : Core) → IsLone table.layout b.0 d → ((p : ℕ) → step.event.core.fate (a_node n) ≢ Ready p) → IsOut (step.event.core.fate (a_node n)) → IsOut (d.fate (a_node n))
  stays_out n d lone unready out =
      let c = step.event.core in
      let q = a.0.known.pass in
      subst (λ (z : Core). IsOut (z.fate (a_node n))) (sym (step_back table becomes (Publish spot w) silent a b step d lone).1)
      (next_out c.past.now q (is_linked (next_tree c spot w) (a_node n)) (c.fate (a_node n)) out unready)

  -- one that was free
  pub publish_free : (n : ℕ) → IsFreeAt table.layout a.0 n → IsOutAt table.layout b.0 n
  publish_free n free d lone =
      let there = (step_back table becomes (Publish spot w) silent a b step d lone).0 in
      let is = free step.event.core there in
      stays_out n d lone (λ p ready. (let z : Free ≡ Ready p = sym is ∙ ready in absurd cc)) (subst IsOut (sym is) tt)

  -- any, where the pass has made no node
  pub publish_spare : ((o : Owned) → IsOneOf o a.0.known.own → (n : ℕ) → o.rec ≢ a_node n) → KeepsSpare table.layout a.0 b.0
  publish_spare none was d lone =
      let c = step.event.core in
      let there = (step_back table becomes (Publish spot w) silent a b step d lone).0 in
      let (n, low, out) = was c there in (
        n,
        low,
        stays_out n d lone
            (λ p ready.
            let mine = step.event.lawful.records.holders (a_node n) p (ap holder_of ready) in
            let pass = step.event.knows.pass in
            let one = ap (λ (l : Layout). l.passes) step.event.layout_is in
            let same : p ≡ a.0.known.pass = omega (arith, mine, pass, one, lone.passes) in
            none (record { rec = a_node n; holding = ReadyBy; words = c.words (a_node n) })
            (one_of a.0.known.own _ ((knows_all c a.0.known step.event.knows).all_own (a_node n) ReadyBy (ready ∙ ap Ready same))) n refl)
            out,
      )

  -- one that the publish unlinks
  pub gone_out : (n : ℕ) (o : Owned) → IsOneOf o b.0.known.own → o.rec ≡ a_node n → (since last : ℕ) → o.holding ≡ UnlinkedBy since last → IsOutAt table.layout b.0 n
  gone_out n o has is since last unlinked d lone =
      let now = (step_back table becomes (Publish spot w) silent a b step d lone).1 in
      let knows = step_knows table becomes (Publish spot w) silent a b step in
      let (fate, words) = all_of (IsOwned b.0.known.pass (after step.event.core a.0.known.pass (Publish spot w))) o b.0.known.own (knows_all _ b.0.known knows).own has in
      subst (λ (z : Core). IsOut (z.fate (a_node n))) (sym now)
      (subst (λ r. IsOut ((after step.event.core a.0.known.pass (Publish spot w)).fate r)) is (subst IsOut (sym (fate ∙ ap (fate_of b.0.known.pass) unlinked)) tt))
