-- The tests are the parts of what fits.
use Rattle.compound_node.proofs.Common.{arith, sym, take, ◌∙◌, ◌≡◌, ◌≤◌, false≢true, leb-true, IsColumns, with_unused}
use Rattle.compound_node.proofs.heads.fit_a_node.Goals as goal
use Rattle.compound_node.proofs.heads.fit_a_node.Goals.{Then-is_padded, then-are_columns, else-are_columns, then-used-ge2, else-used-ge2, then-used-le-MAX_ENTRIES, else-used-le-MAX_ENTRIES}

-- what the tests say that came before
passed : (c : Then-is_padded) → (2 ≤ c.args.count × c.args.count ≤ 32) × (IsColumns c.args.columns.now × c.args.padded_rows.now ≡ with_unused (take c.args.count c.args.padded_rows.now))
passed c = elim c.if-are_columns.branch [
  | else-are_columns w ↦ absurd (false≢true (sym w.if-are_columns.false ∙ sym w.value-is ∙ c.if-is_padded.true))
  | then-are_columns w ↦ elim c.if-used-le-MAX_ENTRIES.branch [
    | else-used-le-MAX_ENTRIES v ↦ elim c.if-used-ge2.branch [
      | else-used-ge2 u ↦ absurd (omega (arith, leb-true 2 c.args.count (sym u.t-8-is ∙ sym v.value-is ∙ w.if-are_columns.true), u.if-used-ge2.false))
      | then-used-ge2 u ↦ absurd (omega (arith, leb-true c.args.count 32 (sym u.t-8-is ∙ sym v.value-is ∙ w.if-are_columns.true), v.if-used-le-MAX_ENTRIES.either, u.if-used-ge2.true))
    ]
    | then-used-le-MAX_ENTRIES v ↦ (v.if-used-le-MAX_ENTRIES.true, (v.are_columns.ensures.0 (sym v.value-is ∙ w.if-are_columns.true), w.is_padded.ensures.0 (sym w.value-is ∙ c.if-is_padded.true)))
  ]
]

pub returns-then-is_padded : goal.returns-then-is_padded
returns-then-is_padded c =
    let p = passed (goal.at.returns-then-is_padded c).Then-is_padded in (
      λ t. record { several = p.0.0; room = p.0.1; positions = p.1.0; padded = p.1.1; keys = c.are_sparse_keys.ensures.0 t },
      λ fit. c.are_sparse_keys.ensures.1 fit.keys,
    )

pub returns-else-is_padded : goal.returns-else-is_padded
returns-else-is_padded c = (
  λ t. absurd (false≢true (sym c.if-is_padded.false ∙ t)),
  λ fit. elim c.if-are_columns.branch [
    | then-are_columns w ↦ w.value-is ∙ w.is_padded.ensures.1 fit.padded
    | else-are_columns w ↦ elim c.if-used-le-MAX_ENTRIES.branch [
      | then-used-le-MAX_ENTRIES v ↦ w.value-is ∙ v.value-is ∙ v.are_columns.ensures.1 fit.positions
      | else-used-le-MAX_ENTRIES v ↦ absurd (omega (arith, fit.several, fit.room, v.if-used-le-MAX_ENTRIES.either))
    ]
  ],
)
