-- What a parse promises of an option that takes a number in a range, and may be left out.
use Rattle.hot_scripts.proofs.Common.{◌≡◌, ℕ, ◌<◌, ◌≤◌, ◌^◌, List, [], ◌∷◌, length, inl, inr, true, false, Option, Some, None, Result, refl, sym, ap, ◌∙◌, subst, arith, All, IfSome, codes, pos, slice_get, unwrap_or, Bor, bytes_eq, ParsesUnsigned, cases_lt, All-get_or, All-nil, All-push, Entry, EntryPasses, HasReading, PassesArg, ValuesPass, args_of, groups_of, parser_of_value, ReadsOne, found_of, matched_of, one_text, Accepts, IsSignedIn, reading_of, Rule, Arg, Command, ArgMatches, Reading, Found, MatchedArg}
use Rattle.std.proofs.lemmas.Slice.Eq.{bytes_eq-Decides}
use Rattle.clap.specs.Built.{AddsArg, BuildsTo, IsParsedFrom, IsPlain, IsPlainArg}
use Rattle.clap.specs.Lexer.{without_minus}
use Rattle.clap.specs.declared.builder.command.Command.TheViews.{out-Command}
use Rattle.clap.specs.declared.builder.value_parser.Reading.TheVariants.{WithoutMinus}
use Rattle.clap.specs.declared.builder.value_parser.ValueParser.TheVariants.{Signed}
use Rattle.clap.proofs.CallerLemmas.{added_plain, entry_by_id}
use Rattle.clap.proofs.CallerReads.{signed_reads}
use Rattle.hot_scripts.specs.Options.{IsArgument}

-- an argument of this id takes a number from 1 to high
abbrev pub InRange : List ℕ → ℕ → Arg → Type 0
InRange id high a = a.id.now ≡ id → a.value_parser ≡ Some (Signed (pos 1) (pos high))

-- one argument more
pub InRange-added : (old new : Command) (a : Arg) (id : List ℕ) (high : ℕ) → AddsArg old a new → All (InRange id high) (args_of old)
    → InRange id high a → All (InRange id high) (args_of new)
InRange-added old new a id high added before here =
    let rules = added.rules in
    let there : InRange id high added.arg = λ same. rules.parser _ (here (sym (ap (λ i. i.now) rules.id) ∙ same)) in
    rw added.args (All-push (InRange id high) (args_of old) added.arg before there)

-- what building adds has other ids
pub InRange-built : (old new : Command) (id : List ℕ) (high : ℕ) → BuildsTo old new → (id ≡ codes "help" → ⊥) → (id ≡ codes "version" → ⊥)
    → All (InRange id high) (args_of old) → All (InRange id high) (args_of new)
InRange-built old new id high builds no_help no_version before k d lt same = elim (cases_lt k (length (args_of old))) [
  | inl under ↦
      let rules = (builds.kept k d under).1 in
      rules.parser _ (before k d under (sym (ap (λ i. i.now) rules.id) ∙ same))
  | inr over ↦ elim (builds.extra k d over lt) [
    | inl help ↦ absurd (no_help (sym same ∙ help))
    | inr version ↦ absurd (no_version (sym same ∙ version))
  ]
]

-- a value of such an argument is in the range
accepted : (c : Command) (id : List ℕ) (high : ℕ) (text : List ℕ) → All (InRange id high) (args_of c) → PassesArg c id text → IsSignedIn (pos 1) (pos high) text
accepted c id high text all (k, a, lt, at, (same, accepts)) =
    let ranged = subst (InRange id high) at (all k a lt) in
    let parser = ap parser_of_value (ranged ((bytes_eq-Decides a.id.now id).0 same)) in
    subst (λ q. Accepts a.ignore_case q text) parser accepts

-- and it is read without its sign
read_so : (c : Command) (id : List ℕ) (high : ℕ) (reading : Reading) → All (InRange id high) (args_of c) → HasReading c id reading → reading ≡ WithoutMinus
read_so c id high reading all (k, a, lt, at, (same, reads)) =
    let ranged = subst (InRange id high) at (all k a lt) in
    let parser = ap parser_of_value (ranged ((bytes_eq-Decides a.id.now id).0 same)) in
    sym reads ∙ ap reading_of parser

-- what holds of each element holds of the first
at_first : {X : Type 0} (P : X → Type 0) (xs : List X) (x : X) → All P xs → slice_get xs 0 ≡ Some x → P x
at_first P [] x all first = cc
at_first P (y ∷ ys) x all first =
    let same : y ≡ x = cc in
    subst P same (All-get_or P (y ∷ ys) 0 y (omega arith) all)

module _ (E : Type 0) (gives : List ℕ → Result ℕ E → Type 0) (width : ℕ) (only : (u : List ℕ) (x : Result ℕ E) → gives u x → ParsesUnsigned width 10 u x)
    (c : Command) (f : Found) (id : List ℕ) (high : ℕ) (all : All (InRange id high) (args_of c)) (fits : high < 2 ^ width) where
  -- what such a text reads as
  of_text : (text : List ℕ) (r : Option ℕ) → IsSignedIn (pos 1) (pos high) text → ReadsOne gives (without_minus text) r → IfSome r (λ n. (1 ≤ n) × (n ≤ high))
  of_text text r passed read =
      let got = signed_reads E gives width 1 high text r read only fits passed in
      rw (got.1) (got.2, got.3)

  -- what the getter gives of an argument's entry
  of_entry : (x : MatchedArg) (r : Option ℕ) → matched_of f id ≡ Some x → All (λ v. PassesArg c id v.now) x.vals.items → x.reading ≡ WithoutMinus
      → (one_text f id ≡ None → r ≡ None) → ((t : List ℕ) → one_text f id ≡ Some t → ReadsOne gives t r)
      → IfSome r (λ n. (1 ≤ n) × (n ≤ high))
  of_entry x r found passed reading none value = go (slice_get x.vals.items 0) refl
    where
      go : (o : Option (Bor (List ℕ))) → slice_get x.vals.items 0 ≡ o → IfSome r (λ n. (1 ≤ n) × (n ≤ high))
      go None first =
          let left : r ≡ None = none (rw (found, first) refl) in
          rw left tt
      go (Some v) first =
          let text : one_text f id ≡ Some (without_minus v.now) = rw (found, first, reading) refl in
          of_text v.now r (accepted c id high v.now all (at_first (λ w. PassesArg c id w.now) x.vals.items v passed first)) (value (without_minus v.now) text)

  -- The option is left out, or has a number in its range.
  pub optional_in_range : ValuesPass c f → groups_of c ≡ [] → (id ≡ [] → ⊥) → (r : Option ℕ)
      → (one_text f id ≡ None → r ≡ None) → ((t : List ℕ) → one_text f id ≡ Some t → ReadsOne gives t r)
      → IfSome r (λ n. (1 ≤ n) × (n ≤ high))
  optional_in_range values no_groups named r none value = go (matched_of f id) refl
    where
      with_entry : (x : MatchedArg) → matched_of f id ≡ Some x → ((e : Entry) × (e.1 ≡ x) × (bytes_eq e.0.now id ≡ true) × EntryPasses c e)
          → IfSome r (λ n. (1 ≤ n) × (n ≤ high))
      with_entry x found (e, is, same, passes) =
          let key : e.0.now ≡ id = (bytes_eq-Decides e.0.now id).0 same in
          let alone : e.1.is_group ≡ true → ⊥ = λ group. elim (passes.3 group) [
            | inl empty ↦ named (sym key ∙ empty)
            | inr some ↦ let none : length (groups_of c) ≡ 0 = ap length no_groups in absurd (omega arith)
          ] in
          let passed : All (λ v. PassesArg c id v.now) x.vals.items = elim passes.0 [
            | inl group ↦ absurd (alone group)
            | inr vals ↦ rw (← is, ← key) vals
          ] in
          let reading : x.reading ≡ WithoutMinus = elim passes.4 [
            | inl group ↦ absurd (alone group)
            | inr reads ↦ read_so c id high x.reading all (rw (← is, ← key) reads)
          ] in
          of_entry x r found passed reading none value

      go : (o : Option MatchedArg) → matched_of f id ≡ o → IfSome r (λ n. (1 ≤ n) × (n ≤ high))
      go None found =
          let left : r ≡ None = none (rw found refl) in
          rw left tt
      go (Some x) found = with_entry x found (entry_by_id (EntryPasses c) f.entries.items id x values found)

-- a command that shuts out nothing and has no global argument, whose argument of this id takes a number from 1 to high
pub record IsOpen (id : List ℕ) (high : ℕ) (command : Command) : Type 0 where
  pub plain : IsPlain command
  pub local : (out-Command command).has_globals ≡ false
  pub ranged : All (InRange id high) (args_of command)

-- a command without arguments
pub IsOpen-new : (command : Command) (id : List ℕ) (high : ℕ) → args_of command ≡ [] → groups_of command ≡ [] → (out-Command command).has_globals ≡ false
    → IsOpen id high command
IsOpen-new command id high args groups local = record {
  plain = (rw args (All-nil IsPlainArg), groups);
  local = local;
  ranged = rw args (All-nil (InRange id high));
}

-- one with an argument more
pub IsOpen-added : (old new : Command) (name : List ℕ) (rule : Rule) (a : Arg) (id : List ℕ) (high : ℕ) → IsOpen id high old → AddsArg old a new → IsArgument name rule a
    → InRange id high a → IsOpen id high new
IsOpen-added old new name rule a id high opened added is ranged = record {
  plain = added_plain old new a added opened.plain is.plain;
  local = rw (added.globals, opened.local, is.local) refl;
  ranged = InRange-added old new a id high added opened.ranged ranged;
}

-- an argument of another name
pub InRange-other : (name : List ℕ) (rule : Rule) (a : Arg) (id : List ℕ) (high : ℕ) → IsArgument name rule a → (name ≡ id → ⊥) → InRange id high a
InRange-other name rule a id high is other same = absurd (other (sym is.id ∙ same))

-- what a parse of such a command promises of it
pub option_parsed : (E : Type 0) (gives : List ℕ → Result ℕ E → Type 0) (width : ℕ) → ((u : List ℕ) (x : Result ℕ E) → gives u x → ParsesUnsigned width 10 u x)
    → (command : Command) (m : ArgMatches) (id : List ℕ) (high : ℕ) → IsParsedFrom command m → IsOpen id high command
    → high < 2 ^ width → (id ≡ [] → ⊥) → (id ≡ codes "help" → ⊥) → (id ≡ codes "version" → ⊥) → (r : Option ℕ)
    → (one_text (found_of m) id ≡ None → r ≡ None) → ((t : List ℕ) → one_text (found_of m) id ≡ Some t → ReadsOne gives t r)
    → IfSome r (λ n. (1 ≤ n) × (n ≤ high))
option_parsed E gives width only command m id high p opened fits named no_help no_version r none value =
    let built = InRange-built command p.built id high p.from no_help no_version opened.ranged in
    optional_in_range E gives width only p.built (found_of m) id high built fits (p.parsed (p.from.globals ∙ opened.local)).values (p.from.plain opened.plain).1 named r none value

-- the number, or another one in its range
pub or_in_range : (r : Option ℕ) (default high : ℕ) → IfSome r (λ n. (1 ≤ n) × (n ≤ high)) → 1 ≤ default → default ≤ high
    → (1 ≤ unwrap_or r default) × (unwrap_or r default ≤ high)
or_in_range None default high is low up = (low, up)
or_in_range (Some n) default high is low up = is
