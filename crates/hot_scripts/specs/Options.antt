-- The arguments of the command line.
use Rattle.std.specs.Prelude.{◌≡◌, ℕ, ◌<◌, ◌≤◌, ◌^◌, List, [], length, unwrap_or, Some, None, false, pos, codes}
use Rattle.std.specs.Str.Parse.{IsNumeral, digits_value, without_leading_plus}
use Rattle.clap.specs.Words.{App, IsPlainArg, Row, Rule, all_of, fault_of, matches_of, new_app, new_rule, one_of, rule_of, with_rule}
use Rattle.clap.specs.declared.builder.action.ArgAction.TheVariants.{Append, Set}
use Rattle.clap.specs.declared.builder.arg.Arg.{Arg}
use Rattle.clap.specs.declared.builder.value_parser.ValueParser.TheVariants.{Signed}
use Rattle.hot_scripts.specs.declared.script.TheConstants.{MAX_FILES}
use Rattle.record_words.specs.declared.TheConstants.{MAX_LEAVES, MAX_NODES}

-- the rule by which the parser of the command line takes an option of this name, with a number from 1 to `most`
abbrev pub count_rule : (name : List ℕ) (most : ℕ) → Rule
count_rule name most = record (new_rule name) { long = Some name; action = Some Set; parser = Some (Signed (pos 1) (pos most)) }

-- the rule by which the parser of the command line takes words that are no options, any number of them
abbrev pub names_rule : (name : List ℕ) → Rule
names_rule name = record (new_rule name) { action = Some Append }

-- The argument of the command line has this name and this rule. It excludes no other and belongs to no group (`plain`). No subcommand takes
-- it over (`local`).
pub record IsArgument (name : List ℕ) (rule : Rule) (arg : Arg) : Type 0 where
  pub id : arg.id.now ≡ name
  pub plain : IsPlainArg arg
  pub local : arg.global ≡ false
  pub rule_is : rule_of arg ≡ rule

-- The argument of the command line is an option of this name, which takes a number from 1 to `most`.
pub record IsCountOption (name : List ℕ) (most : ℕ) (option : Arg) : Type 0 where
  pub argument : IsArgument name (count_rule name most) option
  pub parser : option.value_parser ≡ Some (Signed (pos 1) (pos most))

-- the program's command line as its parser has it: the options for nodes and leaves, and the names of files
abbrev pub command_line : App
command_line = with_rule (with_rule (with_rule (new_app (codes "hot-run")) (count_rule (codes "nodes") MAX_NODES))
    (count_rule (codes "leaves") MAX_LEAVES)) (names_rule (codes "FILE"))

-- The number of the option is the one that the words of the command line give, or the default if they give none. The words give decimal
-- digits, perhaps behind a plus sign. Nothing is said of digits for a number of 2^32 or more, which the option's bounds exclude.
pub record IsOptionNumber (rows : List Row) (option : List ℕ) (default number : ℕ) : Type 0 where
  pub left_out : one_of option rows ≡ None → number ≡ default
  pub given : (text : List ℕ) → one_of option rows ≡ Some text →
      IsNumeral 10 (without_leading_plus text) → digits_value 10 (without_leading_plus text) < 2 ^ 32 → number ≡ digits_value 10 (without_leading_plus text)

-- the names of files among the words of the command line, of which the first is the program's name
abbrev pub names_in : List (List ℕ) → List (List ℕ)
names_in words = unwrap_or (all_of (codes "FILE") (matches_of command_line words)) []

-- The words of the command line parse: the parser finds no fault in them, and they name at most `MAX_FILES` files.
pub record DoParse (words : List (List ℕ)) : Type 0 where
  pub faultless : fault_of command_line words ≡ []
  pub few : length (names_in words) ≤ MAX_FILES

-- The words of the command line parse. They ask for so many node and leaf records, or for 4,096 and 16,384 by giving no number. They name
-- files by these names, in this order.
pub record IsAsked (words : List (List ℕ)) (nodes leaves : ℕ) (names : List (List ℕ)) : Type 0 where
  pub parse : DoParse words
  pub nodes_are : IsOptionNumber (matches_of command_line words) (codes "nodes") 4096 nodes
  pub leaves_are : IsOptionNumber (matches_of command_line words) (codes "leaves") 16384 leaves
  pub names_are : names ≡ names_in words
