-- The words spell the leaf, or none.
use Rattle.rowex_replay_state.proofs.Common.{sym, ap, ◌∙◌, LeafWords, leaf_is}
use Rattle.rowex_replay_state.proofs.records.Searches.{not_spelled}
use Rattle.rowex_replay_state.proofs.records.Records.key_of.Goals as goal

pub returns-in-Ok : goal.returns-in-Ok
returns-in-Ok c =
    let p = c.in-Ok.ensures.spelling in (
      c.in-Some.words,
      sym c.leaf.ensures ∙ c.in-Some.is,
      ap (λ (z : LeafWords). z.key) (leaf_is (c.in-Ok.key, c.in-Ok.field-0-1) c.in-Some.words p.0 p.1),
    )

pub returns-in-Err : goal.returns-in-Err
returns-in-Err c =
    not_spelled c.args.self.now c.args.number c.in-Some.words (sym c.leaf.ensures ∙ c.in-Some.is)
    (λ pair has same. let x = sym (c.unpack_leaf.ensures.read pair has same) ∙ c.in-Err.is in cc)
