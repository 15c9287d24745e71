-- Why `parse_request` meets its contract.
use Rattle.hot_scripts.proofs.Common.{◌≡◌, ◌∙◌, inl, ℕ, List, [], map, false, refl, ap, ap₂, arith, slice_index, codes, string_bytes, Bor, err_from_is_err_and, ParsesUnsigned, ExplainsUnsignedError, HasUnsignedDigitsIfOk, found_of, app_of, new_app, rule_of, with_rule, Arg, Command}
use Rattle.record_words.specs.declared.TheConstants.{MAX_LEAVES, MAX_NODES}
use Rattle.hot_scripts.specs.Options.{IsArgument, command_line, count_rule, names_rule}
use Rattle.hot_scripts.proofs.arguments.Arguments.{faultless_at, few_named, many_named, names_given, number_given, refused_so, rows_are}
use Rattle.hot_scripts.proofs.arguments.Ranges.{InRange-other, IsOpen-added, IsOpen-new, option_parsed, or_in_range}
use Rattle.hot_scripts.proofs.arguments.parse_request.Goals as goal

-- two texts whose first bytes differ
differ : (xs ys : List ℕ) → (slice_index xs 0 ≡ slice_index ys 0 → ⊥) → xs ≡ ys → ⊥
differ xs ys heads same = heads (ap (λ t. slice_index t 0) same)

pub invariant_of-result-clause-nodes_fit : goal.invariant_of-result-clause-nodes_fit
invariant_of-result-clause-nodes_fit c =
    let id = codes "nodes" in
    let a = c.count_option.ensures in
    let b = c.count_option-2.ensures in
    let d = c.names_argument.ensures in
    let zero = IsOpen-new c.new.result id 65535 c.new.ensures.empty.0 c.new.ensures.empty.1 c.new.ensures.local in
    let one = IsOpen-added c.new.result c.in_ok-arg.field-0 (codes "nodes") _ _ id 65535 zero c.in_ok-arg.ensures a.argument (λ _. a.parser) in
    let two = IsOpen-added c.in_ok-arg.field-0 c.in_ok-arg-2.field-0 (codes "leaves") _ _ id 65535 one c.in_ok-arg-2.ensures b.argument
    (InRange-other (codes "leaves") _ _ id 65535 b.argument (differ (codes "leaves") id (λ e. omega arith))) in
    let opened = IsOpen-added c.in_ok-arg-2.field-0 c.in_ok-command.command (codes "FILE") _ _ id 65535 two c.in_ok-command.ensures d
    (InRange-other (codes "FILE") _ _ id 65535 d (differ (codes "FILE") id (λ e. omega arith))) in
    let got = option_parsed _ (λ bs r. ParsesUnsigned 32 10 bs r × ExplainsUnsignedError 10 bs r × HasUnsignedDigitsIfOk bs r) 32 (λ u x g. g.0)
    c.in_ok-command.command c.in_ok-matches.matches id 65535 c.in_ok-matches.ensures.parsed opened (omega arith)
    (differ id [] (λ e. omega arith)) (differ id (codes "help") (λ e. omega arith)) (differ id (codes "version") (λ e. omega arith))
    c.get_one.result c.get_one.ensures.none c.get_one.ensures.value in
    rw c.unwrap_or-nodes.ensures (or_in_range c.get_one.result 4096 65535 got (omega arith) (omega arith))

pub invariant_of-result-clause-leaves_fit : goal.invariant_of-result-clause-leaves_fit
invariant_of-result-clause-leaves_fit c =
    let id = codes "leaves" in
    let a = c.count_option.ensures in
    let b = c.count_option-2.ensures in
    let d = c.names_argument.ensures in
    let zero = IsOpen-new c.new.result id 262143 c.new.ensures.empty.0 c.new.ensures.empty.1 c.new.ensures.local in
    let one = IsOpen-added c.new.result c.in_ok-arg.field-0 (codes "nodes") _ _ id 262143 zero c.in_ok-arg.ensures a.argument
    (InRange-other (codes "nodes") _ _ id 262143 a.argument (differ (codes "nodes") id (λ e. omega arith))) in
    let two = IsOpen-added c.in_ok-arg.field-0 c.in_ok-arg-2.field-0 (codes "leaves") _ _ id 262143 one c.in_ok-arg-2.ensures b.argument (λ _. b.parser) in
    let opened = IsOpen-added c.in_ok-arg-2.field-0 c.in_ok-command.command (codes "FILE") _ _ id 262143 two c.in_ok-command.ensures d
    (InRange-other (codes "FILE") _ _ id 262143 d (differ (codes "FILE") id (λ e. omega arith))) in
    let got = option_parsed _ (λ bs r. ParsesUnsigned 32 10 bs r × ExplainsUnsignedError 10 bs r × HasUnsignedDigitsIfOk bs r) 32 (λ u x g. g.0)
    c.in_ok-command.command c.in_ok-matches.matches id 262143 c.in_ok-matches.ensures.parsed opened (omega arith)
    (differ id [] (λ e. omega arith)) (differ id (codes "help") (λ e. omega arith)) (differ id (codes "version") (λ e. omega arith))
    c.get_one-2.result c.get_one-2.ensures.none c.get_one-2.ensures.value in
    rw c.unwrap_or-leaves.ensures (or_in_range c.get_one-2.result 16384 262143 got (omega arith) (omega arith))

-- four steps make the program's command line
line_of : (zero one two three : Command) (a b d : Arg) → app_of zero ≡ new_app (codes "hot-run") → (a.global ≡ false → app_of one ≡ with_rule (app_of zero) (rule_of a))
    → (b.global ≡ false → app_of two ≡ with_rule (app_of one) (rule_of b)) → (d.global ≡ false → app_of three ≡ with_rule (app_of two) (rule_of d))
    → IsArgument (codes "nodes") (count_rule (codes "nodes") MAX_NODES) a → IsArgument (codes "leaves") (count_rule (codes "leaves") MAX_LEAVES) b
    → IsArgument (codes "FILE") (names_rule (codes "FILE")) d → app_of three ≡ command_line
line_of zero one two three a b d new first second third nodes leaves names =
    third names.local ∙ ap₂ with_rule (second leaves.local ∙ ap₂ with_rule (first nodes.local ∙ ap₂ with_rule new nodes.rule_is) leaves.rule_is) names.rule_is

pub returns-clause-asked : goal.returns-clause-asked
returns-clause-asked c =
    let line = line_of c.new.result c.in_ok-arg.field-0 c.in_ok-arg-2.field-0 c.in_ok-command.command _ _ _ c.new.ensures.app c.in_ok-arg.ensures.shape c.in_ok-arg-2.ensures.shape c.in_ok-command.ensures.shape
    c.count_option.ensures.argument c.count_option-2.ensures.argument c.names_argument.ensures in
    let rows = rows_are _ _ c.in_ok-matches.matches c.in_ok-matches.ensures.matches line in
    let named = names_given (found_of c.in_ok-matches.matches) _ (codes "FILE") c.get_strs.result _ c.unwrap_or-names.result c.unwrap_or-names.result.now rows c.get_strs.ensures c.unwrap_or-names.ensures refl refl in
    record {
      parse = record { faultless = faultless_at _ _ line c.in_ok-matches.ensures.kinds; few = few_named (map string_bytes c.args.words.now) c.unwrap_or-names.result.now named c.if-names-gt-MAX_FILES.false };
      nodes_are = number_given _ (λ bs r. ParsesUnsigned 32 10 bs r × ExplainsUnsignedError 10 bs r × HasUnsignedDigitsIfOk bs r) (λ u x g. g.0) (found_of c.in_ok-matches.matches) _ (codes "nodes") c.get_one.result 4096 _ rows
          c.get_one.ensures.none c.get_one.ensures.value c.unwrap_or-nodes.ensures;
      leaves_are = number_given _ (λ bs r. ParsesUnsigned 32 10 bs r × ExplainsUnsignedError 10 bs r × HasUnsignedDigitsIfOk bs r) (λ u x g. g.0) (found_of c.in_ok-matches.matches) _ (codes "leaves") c.get_one-2.result 16384 _ rows
          c.get_one-2.ensures.none c.get_one-2.ensures.value c.unwrap_or-leaves.ensures;
      names_are = ap (map (λ (v : Bor (List ℕ)). v.now)) c.in_ok-files.ensures.items ∙ named;
    }

pub returns-in_err-matches-clause-refused : goal.returns-in_err-matches-clause-refused
returns-in_err-matches-clause-refused c =
    let line = line_of c.new.result c.in_ok-arg.field-0 c.in_ok-arg-2.field-0 c.in_ok-command.command _ _ _ c.new.ensures.app c.in_ok-arg.ensures.shape c.in_ok-arg-2.ensures.shape c.in_ok-command.ensures.shape
    c.count_option.ensures.argument c.count_option-2.ensures.argument c.names_argument.ensures in
    let p = err_from_is_err_and c.from_residual-in_err-matches.result c.from_residual-in_err-matches.ensures.1 in
    rw p.1 (refused_so _ _ line c.in_err-matches.field-0.0 p.0 c.in_err-matches.ensures.kinds p.2)

pub returns-then-names-gt-MAX_FILES-clause-refused : goal.returns-then-names-gt-MAX_FILES-clause-refused
returns-then-names-gt-MAX_FILES-clause-refused c =
    let line = line_of c.new.result c.in_ok-arg.field-0 c.in_ok-arg-2.field-0 c.in_ok-command.command _ _ _ c.new.ensures.app c.in_ok-arg.ensures.shape c.in_ok-arg-2.ensures.shape c.in_ok-command.ensures.shape
    c.count_option.ensures.argument c.count_option-2.ensures.argument c.names_argument.ensures in
    let rows = rows_are _ _ c.in_ok-matches.matches c.in_ok-matches.ensures.matches line in
    inl (
      refl,
      many_named _ c.unwrap_or-names.result.now
          (names_given (found_of c.in_ok-matches.matches) _ (codes "FILE") c.get_strs.result _ c.unwrap_or-names.result c.unwrap_or-names.result.now rows c.get_strs.ensures c.unwrap_or-names.ensures refl refl)
          c.if-names-gt-MAX_FILES.true,
    )
