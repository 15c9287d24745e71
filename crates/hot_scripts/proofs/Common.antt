-- What the proofs of this crate cite of std and of the crates below.
pub use Rattle.clap.specs.Facts.{Entry, EntryPasses, HasReading, PassesArg, ValuesPass, args_of, groups_of, parser_of_value}
pub use Rattle.clap.specs.Matches.{ReadsOne, found_of, matched_of, one_text, raw_values}
pub use Rattle.clap.specs.Values.{Accepts, IsSignedIn, read_as, reading_of}
pub use Rattle.clap.specs.Walk.{Row, Rule, all_of, one_of, row_of, row_text, rows_of, texts}
pub use Rattle.clap.specs.Words.{App, HasKind, HasMatchesOf, IsAmong, Kinds, app_of, fault_of, is_simple, is_simple_and_free, kind_of, matches_of, new_app, rule_of, with_rule}
pub use Rattle.clap.specs.declared.builder.arg.Arg.{Arg}
pub use Rattle.clap.specs.declared.builder.command.Command.{Command}
pub use Rattle.clap.specs.declared.builder.value_parser.Reading.{Reading}
pub use Rattle.clap.specs.declared.parser.matches.ArgMatches.{ArgMatches}
pub use Rattle.clap.specs.declared.parser.matches.Found.{Found}
pub use Rattle.clap.specs.declared.parser.matches.MatchedArg.{MatchedArg}
pub use Rattle.hex.specs.Hex.{encode_lower, lower_digits}
pub use Rattle.key_bits.specs.Key.{IsKey}
pub use Rattle.std.proofs.Common.{Bool, Err, List, None, Ok, Option, Result, Some, Vec, [], ap, append-nil, append_assoc, ap₂, arith, drop, false, get_or, inl, inr, length, length-append, map, nat_lt, refl, rules, slice_index, subst, sym, take, true, ℕ, ◌&&◌, ◌*◌, ◌++◌, ◌+◌, ◌-◌, ◌/◌, ◌<◌, ◌==◌, ◌^◌, ◌∙◌, ◌∷◌, ◌≡◌, ◌≤◌, ◌⊎◌}
pub use Rattle.std.proofs.lemmas.Bool.{and_parts, cases_lt, le-ltb, lt-ltb, ltb-true}
pub use Rattle.std.proofs.lemmas.Fmt.{length-decimal-le}
pub use Rattle.std.proofs.lemmas.Grind.{common_steps}
pub use Rattle.std.proofs.lemmas.List.{length-drop, length-map, length-take-le, map-append, take-append-drop, take-append-le, take_all, take_at, take_more}
pub use Rattle.std.proofs.lemmas.List.Elements.{All-cons, All-get_or, All-nil, All-push, All-tail}
pub use Rattle.std.proofs.lemmas.Result.{err_from_is_err_and}
pub use Rattle.std.specs.Borrow.{Bor}
pub use Rattle.std.specs.Io.KnownBytes.{Appends, Consumes, IsAtEnd, Keeps, ReadConsumes}
pub use Rattle.std.specs.List.{list_all, position_or_len, slice_split}
pub use Rattle.std.specs.Prelude.{All, IfSome, MatchOption, codes, decimal, filter_map, find, flat_map, nat_le, option_and_then, option_map, pos, position, slice_get, string_bytes, unwrap_or}
pub use Rattle.std.specs.Str.{IsAscii, IsUtf8, bytes_eq}
pub use Rattle.std.specs.Str.Parse.{ExplainsUnsignedError, HasUnsignedDigitsIfOk, IsNumeral, ParsesUnsigned, digits_value, without_leading_plus}
