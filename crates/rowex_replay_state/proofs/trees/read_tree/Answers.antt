-- What was read from the root is told exactly of a lawful version.
use Rattle.rowex_replay_state.proofs.Common.{Some, None, refl, subst, sym, Place}
use Rattle.rowex_replay_state.specs.declared.linked.Linked.{Linked}
use Rattle.rowex_replay_state.specs.Versions.{IsReadVersion, Table}
use Rattle.rowex_replay_state.specs.Parts.{IsTreeRead, ShowsPart}
use Rattle.rowex_replay_state.proofs.Versions.{IsEmpty, empty_read, top_read, top_none}
use Rattle.rowex_replay_state.proofs.trees.read_tree.Goals as goal
use Rattle.rowex_replay_state.proofs.trees.read_tree.Goals.{in-Some+in_ok-read_entry+else-not-branch, in_default}

pub returns-then-not-branch : goal.returns-then-not-branch
returns-then-not-branch c words are =
    let table : Table = record { nodes = c.args.nodes.now; leaves = c.args.leaves.now } in
    let old : Linked = record { items = c.new.result; nodes = c.in_ok-make_unset_marks.field-0; leaves = c.in_ok-make_unset_marks-2.field-0 } in
    subst (λ r. IsReadVersion table words r None) (sym c.in-Some.is)
    (top_none table words c.in-Some.entry old c.read_entry.new.linked
    (subst (λ g. IsTreeRead (ShowsPart table words 0 (Place c.in-Some.entry)) g old c.read_entry.new.linked) c.if-not-branch.true (c.in_ok-read_entry.ensures.read words are (Place c.in-Some.entry) refl)))

pub returns : goal.returns
returns c words are =
    elim c.match-root.branch [
      | in-Some+in_ok-read_entry+else-not-branch w ↦
          subst (λ l. IsReadVersion table words c.args.root (Some l)) (sym w.linked-is)
          (subst (λ r. IsReadVersion table words r (Some w.read_entry.new.linked)) (sym w.in-Some.is)
          (top_read table words w.in-Some.entry old w.read_entry.new.linked empty w.in_ok-read_entry.ensures.grown.room
          (subst (λ g. IsTreeRead (ShowsPart table words 0 (Place w.in-Some.entry)) g old w.read_entry.new.linked) w.if-not-branch.false (w.in_ok-read_entry.ensures.read words are (Place w.in-Some.entry) refl))))
      | in_default w ↦
          let h = w.in_default in
          subst (λ l. IsReadVersion table words c.args.root (Some l)) (sym w.linked-is)
          (subst (λ r. IsReadVersion table words r (Some old)) (sym w.in_default.is)
          (empty_read table words old empty))
    ]
  where
    table : Table
    table = record { nodes = c.args.nodes.now; leaves = c.args.leaves.now }

    old : Linked
    old = record { items = c.new.result; nodes = c.in_ok-make_unset_marks.field-0; leaves = c.in_ok-make_unset_marks-2.field-0 }

    empty : IsEmpty table old
    empty = record { no_items = c.new.ensures.items; nodes_are = c.in_ok-make_unset_marks.ensures; leaves_are = c.in_ok-make_unset_marks-2.ensures }
