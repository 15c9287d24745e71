-- How pending calls are completed by the changes that they have made, whether or not they ask for these.
use Rattle.std.specs.Prelude.{ℕ, List, [], ◌∷◌, ◌++◌, Bool, true, false, ◌&&◌, Option, None, Some, drop, if◌then◌else◌, length, nat_eq}
use Rattle.std.specs.BTreeMap.{is_at}
use Rattle.finite_map.specs.declared.Call.{Call}
use Rattle.finite_map.specs.declared.Change.{Change}
use Rattle.finite_map.specs.declared.Kind.{Kind}
use Rattle.finite_map.specs.declared.Kind.TheVariants.{Added, Replaced, Removed}
use Rattle.finite_map.specs.declared.Note.{Note}
use Rattle.finite_map.specs.Calls.{change_of}
use Rattle.finite_map.specs.Maps.{key_order}
use Rattle.rowex_core.specs.Statements.{call_of_change}
use Rattle.linearizability.specs.Histories.{replied}
use Rattle.linearizability.specs.Configurations.{Configuration, Pending}

-- whether the two kinds of changes are the same
abbrev pub same_kind : Kind → Kind → Bool
same_kind Added Added = true
same_kind Replaced Replaced = true
same_kind Removed Removed = true
same_kind _ _ = false

-- Whether `found` is a change of the kind, the key and the value that `change` has. Their passes are not compared.
abbrev pub has_same_effect : (change : Change) (found : Option Change) → Bool
has_same_effect change None = false
has_same_effect change (Some found) = same_kind found.kind change.kind && (nat_eq found.value change.value && is_at (key_order found.key) change.key)

-- The note of a call by which the pass may have made this change right behind the front. It is the first of `calls` that makes this change
-- of the front's map. If none does, it is an upsert or a removal that does. The reply is that of the front's map.
abbrev pub maker_note : (pass : ℕ) (calls : List Call) (front : List Change) (change : Change) → Note
maker_note pass [] front change = replied front (call_of_change change)
maker_note pass (call ∷ calls) front change =
    if has_same_effect change (change_of pass (replied front call)) then replied front call else maker_note pass calls front change

-- For each of these changes that the pass has made, the note of a call that makes it (`maker_note`), in order. The first of `changes`
-- stands right behind the front.
abbrev pub maker_notes : (pass : ℕ) (calls : List Call) (front changes : List Change) → List Note
maker_notes pass calls front [] = []
maker_notes pass calls front (change ∷ changes) =
    if nat_eq change.pass pass then maker_note pass calls front change ∷ maker_notes pass calls (front ++ change ∷ []) changes
    else maker_notes pass calls (front ++ change ∷ []) changes

-- The notes that complete the pending call of a pass, where `changes` are all changes by then. They are one for each change that the pass
-- has made since the invocation, with the reply of the map there. Without a pending call there is none.
abbrev pub completion_of : (at : ℕ → Configuration) (changes : List Change) (pass : ℕ) (call : Option Pending) → List Note
completion_of at changes pass None = []
completion_of at changes pass (Some call) = let seen = (at call.since).core.changes in maker_notes pass call.calls seen (drop (length seen) changes)

-- the notes that complete each pass's pending call at the last time of a run
abbrev pub completions : (last : ℕ) (at : ℕ → Configuration) (pass : ℕ) → List Note
completions last at pass = completion_of at (at last).core.changes pass ((at last).pending pass)
