-- The records that a pass holds, as if it had made them ready: then what has risen is the subtrie of a lawful tree.
use Rattle.rowex_writing.proofs.Common.{ℕ, List, [], ◌∷◌, ◌++◌, refl, Layout, Subtrie, IsOneOf, Side, Newcomer, Ready, Known, Core, IsEvent, learned, Rec, Made, HoldsMade, HasReadied, silent, ReadiesEach, IsStage, HasLeaf, HasRisen, holds_rights, ready_next, readies_all, stage_earlier, stage_of, IsPossible, event_possible}
use Rattle.publish_laws.proofs.Rises.Bounding.{number_of, tree_risen}
use Rattle.rowex_writing.specs.build.Building.{AreMadePacked}
use Rattle.rowex_writing.specs.build.Remaking.{IsSubtrieOfTree}

module _ (layout : Layout) where
  -- all of them, one after the other
  readied : (done todo : List Made) (k : Known) → IsPossible layout k → HasReadied k done todo → AreMadePacked layout todo → (j : Known) × ReadiesEach layout todo k j × IsPossible layout j
  readied done [] k possible has packed = (k, refl, possible)
  readied done (m ∷ todo) k possible has packed =
      let next : Known = record (learned possible.core (Ready m.rec) k) { notes = k.notes ++ [] } in
      let e : IsEvent layout (Ready m.rec) silent k next = record {
        core = possible.core;
        lawful = possible.lawful;
        layout_is = possible.layout_is;
        knows = possible.knows;
        legal = (holds_rights layout k done todo m has).1 packed.0.0 packed.0.1 possible.core possible.lawful possible.layout_is possible.knows;
        learned_is = refl;
      } in
      let (j, rest, last) = readied (done ++ m ∷ []) todo next (event_possible e) (ready_next layout done m todo k next has e) packed.1 in
      (j, (next, e, rest), last)

  -- some stage of them
  pub stage_of_held : (k : Known) (news : List Made) → IsPossible layout k → HoldsMade k news → AreMadePacked layout news → (c : Core) × IsStage layout k k.locks news c
  stage_of_held k news possible holds packed =
      let (j, readies, last) = readied [] news k possible holds packed in
      let (own, stays) = readies_all layout k j news holds readies in
      let stage : IsStage layout j k.locks news last.core = stage_of layout j k.locks news (record { locks = stays.1; own = own }) last.core last.lawful last.layout_is last.knows in
      (last.core, stage_earlier layout k j stays.0 k.locks news last.core stage)

  -- so what has risen is the subtrie of a lawful tree
  pub risen_subtrie : (k : Known) (news : List Made) (gone : List Rec) (x : Newcomer) (d : Side) (words : List ℕ) (r : Subtrie) → IsPossible layout k → HoldsMade k news → AreMadePacked layout news →
      HasLeaf news x.item → IsOneOf (record { node = number_of d; words = words }) k.locks → HasRisen layout k k.locks news x d r gone → IsSubtrieOfTree r
  risen_subtrie k news gone x d words r possible holds packed leaf at risen =
      let (c, stage) = stage_of_held k news possible holds packed in
      tree_risen layout k k.locks news c stage x d words leaf at r (risen c stage).0
