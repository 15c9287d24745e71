-- A word of a record is one of the table's words, and a touch of it keeps the rule.
use Rattle.rowex_table.proofs.Common.{◌≡◌, ℕ, [], ◌+◌, ◌<◌, Option, arith, refl, Allows, Me, word_count, Layout, HasWord, Rec, a_node, a_leaf, Known}
use Rattle.std.proofs.Common.{Some}
use mathlib.Core.Option.{none}
use Rattle.atomic_table.specs.Table as table
use Rattle.record_words.specs.declared.layout.Location.TheVariants.{NodeWord, LeafWord}
use Rattle.rowex_table.specs.declared.traces.Trace.{Trace}
use Rattle.rowex_table.specs.declared.traces.TracedView.{TracedView}
use Rattle.rowex_table.specs.declared.traces.TracedView.TheVariants.{Pass}
use Rattle.rowex_table.specs.Rule.{IsStartOf, Ruled, touched_once, touching}
use Rattle.rowex_table.proofs.Seats.{allows_view}
use Rattle.rowex_table.proofs.Rule.{in_words}

pub record_in_words : (words : ℕ) (own layout : Layout) (r : Rec) (start offset : ℕ) → words ≡ word_count own → own ≡ layout → IsStartOf layout r start → HasWord layout r offset → start + offset < words
record_in_words words own layout (a_node n) start offset count same begin low = in_words words own layout (NodeWord n offset) (start + offset) count same (omega (arith, begin.1), (begin.0, low))
record_in_words words own layout (a_leaf n) start offset count same begin low = in_words words own layout (LeafWord n offset) (start + offset) count same (omega (arith, begin.1), (begin.0, low))

-- all that the pass knows stays true
pub touches : {S : Type 0} (layout : Layout) (slots id i : ℕ) (me : Me S TracedView) (k : Known) (t : Trace) → me ≡ (Pass k t, []) →
    Allows {S = S} {V = TracedView} (Ruled layout) slots id me i (λ n. n) (touching (table.step slots i 0 0 none) me)
touches layout slots id i me k t is = allows_view layout (let of : Option Layout = Some layout in of) refl slots id i me (Pass k t) is (λ of v w. w ≡ touched_once v)
    (λ s r here. (touched_once (Pass k t), r.knows id (Pass k t) here, (λ q o. o), (λ q o. o), refl))
