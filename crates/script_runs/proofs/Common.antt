-- What the proofs of this crate cite of std and of the crates below.
pub use Rattle.finite_map.proofs.Calls.{legal_at_first, legal_longer, place_after-within}
pub use Rattle.finite_map.proofs.Fronts.{begins_itself, begins_on, begins_same, legal_front_part, nothing_before}
pub use Rattle.finite_map.specs.Calls.{IsRun, LegalCalls, StandsIn, changes_of, own_changes, place_after}
pub use Rattle.finite_map.specs.Fronts.{BeginsWith, map_of}
pub use Rattle.finite_map.specs.Maps.{Map, map_after, map_after_all, replies_of, reply_of}
pub use Rattle.finite_map.specs.Scans.{IsLawfulScan, IsScanOf}
pub use Rattle.finite_map.specs.declared.Change.{Change}
pub use Rattle.finite_map.specs.declared.Note.{Note}
pub use Rattle.finite_map.specs.declared.Reply.{Reply, Reply as Replied}
pub use Rattle.finite_map.specs.declared.Scan.{Scan}
pub use Rattle.hot_index.specs.Handles.{HandleView, handle_at}
pub use Rattle.hot_index_calls.specs.Answers.{HaveMet, IsListed, IsNoted, IsScanned, IsUnnoted, range_from}
pub use Rattle.hot_index_calls.specs.Passes.{AreByPasses, IsNewPass, Owns, PassView}
pub use Rattle.hot_index_calls.specs.Traces.{HasMadeCallSteps, HasRead, untold}
pub use Rattle.hot_scripts.specs.Grammar.{HasKeyUpTo, commands_of}
pub use Rattle.hot_scripts.specs.Meaning.{line, reply_text, scan_lines, scan_text, script_meaning, text_from}
pub use Rattle.hot_scripts.specs.Parses.{commands_left, script_commands}
pub use Rattle.hot_scripts.specs.declared.command.Command.{Command}
pub use Rattle.hot_scripts.specs.declared.command.KeyRange.{KeyRange}
pub use Rattle.record_words.specs.declared.layout.Layout.{Layout}
pub use Rattle.rowex_core.specs.declared.event.Event.{Event}
pub use Rattle.rowex_table.specs.Seats.{TableView}
pub use Rattle.std.proofs.Common.{Bool, List, Ok, Some, [], ap, append-nil, append_assoc, ap₂, arith, cond, drop, eqb, false, filter_map, flat_map, get_or, le_refl, length, length-append, map, refl, rules, subst, suc, sym, take, true, ℕ, ◌++◌, ◌+◌, ◌<◌, ◌^◌, ◌∙◌, ◌∷◌, ◌≡◌, ◌≢◌, ◌≤◌}
pub use Rattle.std.proofs.lemmas.Bool.{eq-eqb, le-ltb, ltb_from_iff}
pub use Rattle.std.proofs.lemmas.List.{append_cancel_left, drop-set-lt, drop_all, drop_more, length-map, map-append, nil_from_length, take_all, take_more_set}
pub use Rattle.std.proofs.lemmas.List.Concat.{flat_map-cons}
pub use Rattle.std.proofs.lemmas.List.Elements.{All-append, All-cons, All-get_or, All-head, All-nil, All-pop, All-set, All-tail, All-weaker, filter-append}
pub use Rattle.std.proofs.lemmas.Result.{IfOk-weaker, on_ok_weaker}
pub use Rattle.std.specs.List.{All, AllZip, slice_get, zip}
pub use Rattle.std.specs.Prelude.{codes}
pub use Rattle.std.specs.Slice.Iter.{iter_rest}
pub use Rattle.std.specs.Vec.Iter.{into_iter_items}
