-- Why `create_index_for_script` meets its contract: each leaf record has room for the longest key of the script's calls.
use Rattle.script_runs.proofs.Common.{◌≡◌, ◌≤◌, ◌<◌, ◌++◌, [], ◌∷◌, ℕ, length, ◌∙◌, ap, arith, length-append, nil_from_length, Layout, Command, HasKeyUpTo}
use Rattle.std.specs.Prelude.{slice_get}
use Rattle.key_bits.specs.declared.TheConstants.{MAX_BYTES}
use Rattle.record_words.specs.Layout.{leaf_size}
use Rattle.record_words.specs.Leaf.{words_for}
use Rattle.script_runs.specs.Told.{HasRoomFor}
use Rattle.script_runs.proofs.indexes.create_index_for_script.Goals as goal

room_for : (layout : Layout) (longest : ℕ) → longest ≤ MAX_BYTES
    → ((leaf bytes : ℕ) → leaf < layout.leaves → bytes ≤ longest → bytes ≤ MAX_BYTES → words_for bytes ≤ leaf_size layout leaf)
    → (command : Command) → HasKeyUpTo longest command → HasRoomFor layout command
room_for layout longest short room command fits = λ leaf low. room leaf _ low fits (omega (arith, fits, short))

pub returns-clause-pass : goal.returns-clause-pass
returns-clause-pass c =
    let parts : c.in-Ok.made.1.items ≡ c.pop.new.self.items ++ c.in-Some.pass ∷ [] = c.in-Some.ensures.items in
    let none : c.pop.new.self.items ≡ [] =
    nil_from_length _ (omega (arith, c.in-Ok.ensures.count, ap length parts, length-append c.pop.new.self.items (c.in-Some.pass ∷ []))) in
    c.in-Ok.ensures.each 0 c.in-Some.pass (ap (λ list. slice_get list 0) (parts ∙ ap (λ list. list ++ c.in-Some.pass ∷ []) none))
