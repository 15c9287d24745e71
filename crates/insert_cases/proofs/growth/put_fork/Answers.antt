-- A leaf in the entry's place, the higher entry beside it, and the lower one in the leaf's place.
use Rattle.insert_cases.proofs.Common.{◌≡◌, ℕ, ◌+◌, ◌<◌, ◌≤◌, ap, sym, ◌∙◌, arith, length, true, false, Bool, NodeView, piece, IsLawfulNode, IsBuiltFrom, height_of, greatest_height, Entry, Leaf, replaced, forked, grown, IsAffected, Place, size, places, grafted, IsAbovePath, old_at, size-replaced, size-grown, affected_alone, replaced-grown, size-piece}
use Rattle.insert_cases.proofs.NodeFacts.{height_positive, greatest-grown, greatest-grafted}
use Rattle.insert_cases.proofs.growth.put_fork.Goals as goal

-- the node with a leaf in the entry's place
module _ (n d : NodeView) (i : ℕ) (lawful_n : IsLawfulNode n) (lawful_d : IsLawfulNode d) (cleared : piece d ≡ replaced i (Leaf 0) (piece n)) where
  same_length : length d.entries ≡ length n.entries
  same_length = sym (size-piece d lawful_d) ∙ (ap size cleared ∙ (size-replaced i (Leaf 0) (piece n) ∙ size-piece n lawful_n))

  in_reach : i < length n.entries → i < size (piece n)
  in_reach h = let e = size-piece n lawful_n in omega arith

  alone : (position : ℕ) → i < length n.entries → IsAbovePath position i (piece n) → IsAffected (piece d) position i i
  alone position h a = rw cleared (affected_alone position i (Leaf 0) (piece n) (in_reach h) a)

  -- and the higher entry beside it
  module _ (position : ℕ) (bit : Bool) (x y : Entry) (g : NodeView) (grew : IsBuiltFrom g (grown position bit x i (piece d))) where
    longer : length g.entries ≡ length n.entries + 1
    longer =
        sym (size-piece g grew.lawful) ∙ (ap size grew.shows_it ∙ (size-grown position bit x i (piece d) ∙
        (ap (λ m. m + 1) (size-piece d lawful_d ∙ same_length))))

    taller : height_of y ≤ height_of x → height_of y < g.height
    taller h =
        let e : greatest_height g.entries ≡ greatest_height (places (grown position bit x i (piece d))) = ap greatest_height (grew.lawful.shows.entries_are ∙ ap places grew.shows_it) in
        omega (arith, grew.height_is, greatest-grown position bit x i (piece d))

    -- and the lower one in the leaf's place
    whole : (r : NodeView) → IsLawfulNode r → piece r ≡ replaced (old_at bit i) y (piece g) → r.height ≡ g.height → height_of y ≤ height_of x →
        i < length n.entries → IsAbovePath position i (piece n) → IsBuiltFrom r (grafted i (forked position bit x (Place y)) (piece n))
    whole r lawful_r replaced_it same_height h j a =
        let shows : piece r ≡ grafted i (forked position bit x (Place y)) (piece n) =
        replaced_it ∙ (ap (replaced (old_at bit i) y) (grew.shows_it ∙ ap (grown position bit x i) cleared) ∙ replaced-grown position bit x y (Leaf 0) i (piece n) (in_reach j) a) in
        let tall : greatest_height r.entries ≡ greatest_height g.entries =
        ap greatest_height (lawful_r.shows.entries_are ∙ ap places shows) ∙
        (greatest-grafted position bit x y (Leaf 0) i (piece n) h (omega arith) a ∙
        sym (ap greatest_height (grew.lawful.shows.entries_are ∙ ap places (grew.shows_it ∙ ap (grown position bit x i) cleared)))) in
        record { lawful = lawful_r; shows_it = shows; height_is = same_height ∙ (grew.height_is ∙ ap (λ m. 1 + m) (sym tall)) }

pub set_entry-requires-clause-stands : goal.set_entry-requires-clause-stands
set_entry-requires-clause-stands c = (tt, height_positive c.args.node.now c.count.ensures.lawful)

pub add_entry-requires-clause-room : goal.add_entry-requires-clause-room
add_entry-requires-clause-room c =
    let e = same_length c.args.node.now c.set_entry.new.self c.args.slot c.count.ensures.lawful c.set_entry.ensures.lawful c.set_entry.ensures.piece in omega (arith, c.requires.room)

pub add_entry-requires-clause-range : goal.add_entry-requires-clause-range
add_entry-requires-clause-range c =
    alone c.args.node.now c.set_entry.new.self c.args.slot c.count.ensures.lawful c.set_entry.ensures.lawful c.set_entry.ensures.piece c.args.position c.requires.place c.requires.path

pub set_entry-requires-then-height-clause-in_range : goal.set_entry-requires-then-height-clause-in_range
set_entry-requires-then-height-clause-in_range c =
    let e = longer c.args.node.now c.set_entry.new.self c.args.slot c.count.ensures.lawful c.set_entry.ensures.lawful c.set_entry.ensures.piece
    c.args.position true c.args.one c.args.zero c.add_entry.new.self c.add_entry.ensures in omega (arith, c.requires.place)

pub set_entry-requires-then-height-clause-stands : goal.set_entry-requires-then-height-clause-stands
set_entry-requires-then-height-clause-stands c = (
  c.requires.zero,
  taller c.args.node.now c.set_entry.new.self c.args.slot c.count.ensures.lawful c.set_entry.ensures.lawful c.set_entry.ensures.piece
      c.args.position true c.args.one c.args.zero c.add_entry.new.self c.add_entry.ensures (omega arith),
)

pub add_entry-requires-else-height-clause-room : goal.add_entry-requires-else-height-clause-room
add_entry-requires-else-height-clause-room c =
    let e = same_length c.args.node.now c.set_entry.new.self c.args.slot c.count.ensures.lawful c.set_entry.ensures.lawful c.set_entry.ensures.piece in omega (arith, c.requires.room)

pub add_entry-requires-else-height-clause-range : goal.add_entry-requires-else-height-clause-range
add_entry-requires-else-height-clause-range c =
    alone c.args.node.now c.set_entry.new.self c.args.slot c.count.ensures.lawful c.set_entry.ensures.lawful c.set_entry.ensures.piece c.args.position c.requires.place c.requires.path

pub set_entry-requires-else-height-clause-in_range : goal.set_entry-requires-else-height-clause-in_range
set_entry-requires-else-height-clause-in_range c =
    let e = longer c.args.node.now c.set_entry.new.self c.args.slot c.count.ensures.lawful c.set_entry.ensures.lawful c.set_entry.ensures.piece
    c.args.position false c.args.zero c.args.one c.add_entry-else-height.new.self c.add_entry-else-height.ensures in omega (arith, c.requires.place)

pub set_entry-requires-else-height-clause-stands : goal.set_entry-requires-else-height-clause-stands
set_entry-requires-else-height-clause-stands c = (
  c.requires.one,
  taller c.args.node.now c.set_entry.new.self c.args.slot c.count.ensures.lawful c.set_entry.ensures.lawful c.set_entry.ensures.piece
      c.args.position false c.args.zero c.args.one c.add_entry-else-height.new.self c.add_entry-else-height.ensures (omega arith),
)

pub returns-then-height : goal.returns-then-height
returns-then-height c =
    whole c.args.node.now c.set_entry.new.self c.args.slot c.count.ensures.lawful c.set_entry.ensures.lawful c.set_entry.ensures.piece
    c.args.position true c.args.one c.args.zero c.add_entry.new.self c.add_entry.ensures
    c.set_entry-then-height.new.self c.set_entry-then-height.ensures.lawful c.set_entry-then-height.ensures.piece (ap (λ (n : NodeView). n.height) c.set_entry-then-height.ensures.fields) (omega arith) c.requires.place c.requires.path

pub returns-else-height : goal.returns-else-height
returns-else-height c =
    whole c.args.node.now c.set_entry.new.self c.args.slot c.count.ensures.lawful c.set_entry.ensures.lawful c.set_entry.ensures.piece
    c.args.position false c.args.zero c.args.one c.add_entry-else-height.new.self c.add_entry-else-height.ensures
    c.set_entry-else-height.new.self c.set_entry-else-height.ensures.lawful c.set_entry-else-height.ensures.piece (ap (λ (n : NodeView). n.height) c.set_entry-else-height.ensures.fields) (omega arith) c.requires.place c.requires.path
