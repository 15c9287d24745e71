-- What the words give, read of a parse's matches.
use Rattle.hot_scripts.proofs.Common.{◌≡◌, ◌⊎◌, inl, inr, ℕ, ◌<◌, ◌≤◌, ◌^◌, length, List, [], ◌∷◌, map, true, false, Bool, Option, Some, None, Result, Ok, Err, refl, sym, ap, ◌∙◌, subst, arith, find, option_and_then, option_map, slice_get, unwrap_or, Bor, length-map, bytes_eq, IsNumeral, ParsesUnsigned, digits_value, without_leading_plus, Entry, ReadsOne, found_of, matched_of, one_text, raw_values, read_as, Row, all_of, one_of, row_of, row_text, rows_of, texts, Reading, Found, MatchedArg, App, HasKind, HasMatchesOf, IsAmong, Kinds, fault_of, kind_of, is_simple, is_simple_and_free, matches_of, ArgMatches}
use Rattle.clap.specs.declared.error.Error.{Error}
use Rattle.clap.specs.declared.error.kind.ErrorKind.{ErrorKind}
use Rattle.clap.specs.declared.error.kind.ErrorKind.TheVariants as kind
use Rattle.clap.proofs.OnLiterals.{clap_on_literals}
use Rattle.hot_scripts.specs.declared.fault.RunFault.TheVariants.{Memory}
use Rattle.hot_scripts.specs.declared.ending.Ending.{Ending}
use Rattle.hot_scripts.specs.declared.ending.Ending.TheVariants.{Usage, Fault}
use Rattle.hot_scripts.specs.Endings.{ending_of}
use Rattle.hot_scripts.specs.Options.{DoParse, IsOptionNumber, command_line, names_in}

-- a row of an entry has its first value's text
first_text : (how : Reading) (vals : List (Bor (List ℕ))) → option_map (read_as how) (slice_get (texts vals) 0) ≡ option_map (λ s. read_as how s.now) (slice_get vals 0)
first_text how [] = refl
first_text how (v ∷ vals) = refl

text_at : (id : List ℕ) (entries : List Entry) → option_and_then row_text (find (λ r. bytes_eq r.id id) (map row_of entries)) ≡
    option_and_then (λ (a : MatchedArg). option_map (λ s. read_as a.reading s.now) (slice_get a.vals.items 0)) (option_map (λ (e : Entry). e.1) (find (λ (e : Entry). bytes_eq e.0.now id) entries))
text_at id [] = refl
text_at id (e ∷ entries) = cases (text_at id entries) (bytes_eq e.0.now id) refl
  where
    cases : option_and_then row_text (find (λ r. bytes_eq r.id id) (map row_of entries)) ≡
        option_and_then (λ (a : MatchedArg). option_map (λ s. read_as a.reading s.now) (slice_get a.vals.items 0)) (option_map (λ (x : Entry). x.1) (find (λ (x : Entry). bytes_eq x.0.now id) entries)) → (t : Bool) → bytes_eq e.0.now id ≡ t → option_and_then row_text (find (λ r. bytes_eq r.id id) (map row_of (e ∷ entries))) ≡
        option_and_then (λ (a : MatchedArg). option_map (λ s. read_as a.reading s.now) (slice_get a.vals.items 0)) (option_map (λ (x : Entry). x.1) (find (λ (x : Entry). bytes_eq x.0.now id) (e ∷ entries)))
    cases rest true here = rw here (first_text e.1.reading e.1.vals.items)
    cases rest false other = rw other rest

-- the text of an option, as the getter reads it
pub one_is : (f : Found) (id : List ℕ) → one_of id (rows_of f) ≡ one_text f id
one_is f id = text_at id f.entries.items

values_at : (id : List ℕ) (entries : List Entry) → option_map (λ (r : Row). r.values) (find (λ r. bytes_eq r.id id) (map row_of entries)) ≡
    option_map raw_values (option_map (λ (e : Entry). e.1) (find (λ (e : Entry). bytes_eq e.0.now id) entries))
values_at id [] = refl
values_at id (e ∷ entries) = cases (values_at id entries) (bytes_eq e.0.now id) refl
  where
    cases : option_map (λ (r : Row). r.values) (find (λ r. bytes_eq r.id id) (map row_of entries)) ≡
        option_map raw_values (option_map (λ (x : Entry). x.1) (find (λ (x : Entry). bytes_eq x.0.now id) entries)) → (t : Bool) → bytes_eq e.0.now id ≡ t → option_map (λ (r : Row). r.values) (find (λ r. bytes_eq r.id id) (map row_of (e ∷ entries))) ≡
        option_map raw_values (option_map (λ (x : Entry). x.1) (find (λ (x : Entry). bytes_eq x.0.now id) (e ∷ entries)))
    cases rest true here = rw here refl
    cases rest false other = rw other rest

-- and all values
pub all_is : (f : Found) (id : List ℕ) → all_of id (rows_of f) ≡ option_map raw_values (matched_of f id)
all_is f id = values_at id f.entries.items

pub number_given : (E : Type 0) (gives : List ℕ → Result ℕ E → Type 0) → ((u : List ℕ) (x : Result ℕ E) → gives u x → ParsesUnsigned 32 10 u x)
    → (f : Found) (rows : List Row) (id : List ℕ) (r : Option ℕ) (default number : ℕ) → rows_of f ≡ rows
    → (one_text f id ≡ None → r ≡ None) → ((t : List ℕ) → one_text f id ≡ Some t → ReadsOne gives t r) → number ≡ unwrap_or r default
    → IsOptionNumber rows id default number
number_given E gives only f rows id r default number same none value is = record {
  left_out = λ left. is ∙ ap (λ (o : Option ℕ). unwrap_or o default) (none (read left));
  given = λ text found numeral fits. is ∙ told r text numeral fits (value text (read found));
}
  where
    read : {o : Option (List ℕ)} → one_of id rows ≡ o → one_text f id ≡ o
    read e = sym (one_is f id) ∙ ap (one_of id) same ∙ e

    told : (o : Option ℕ) (text : List ℕ) → IsNumeral 10 (without_leading_plus text) → digits_value 10 (without_leading_plus text) < 2 ^ 32 → ReadsOne gives text o
        → unwrap_or o default ≡ digits_value 10 (without_leading_plus text)
    told (Some v) text numeral fits reads = (only text (Ok v) reads).1
    told None text numeral fits (e, reads) = absurd (only text (Err e) reads (numeral, fits))

-- the words that are no options
pub names_given : (f : Found) (rows : List Row) (id : List ℕ) (got : Option (Bor (List (Bor (List ℕ))))) (fallback names : Bor (List (Bor (List ℕ)))) (items : List (Bor (List ℕ))) → rows_of f ≡ rows
    → option_map (λ s. map (λ v. v.now) s.now) got ≡ option_map raw_values (matched_of f id) → names ≡ unwrap_or got fallback → fallback.now ≡ [] → items ≡ names.now
    → map (λ v. v.now) items ≡ unwrap_or (all_of id rows) []
names_given f rows id got fallback names items same are is empty copied =
    ap (map (λ (v : Bor (List ℕ)). v.now)) (copied ∙ ap (λ (b : Bor (List (Bor (List ℕ)))). b.now) is) ∙ (shown got ∙ ap (λ (o : Option (List (List ℕ))). unwrap_or o []) (are ∙ (sym (all_is f id) ∙ ap (all_of id) same)))
  where
    shown : (o : Option (Bor (List (Bor (List ℕ))))) → map (λ v. v.now) (unwrap_or o fallback).now ≡ unwrap_or (option_map (λ s. map (λ v. v.now) s.now) o) []
    shown None = ap (map (λ (v : Bor (List ℕ)). v.now)) empty
    shown (Some s) = refl

-- the program's command line is one of which `matches_of` gives what a parse finds
simple : is_simple command_line ≡ true
unfolding clap_on_literals
simple = refl

pub rows_are : (a : App) (words : List (List ℕ)) (m : ArgMatches) → HasMatchesOf a words m → a ≡ command_line → rows_of (found_of m) ≡ matches_of command_line words
rows_are a words m has is = (has (ap is_simple is ∙ simple)).0 ∙ ap (λ (b : App). matches_of b words) is

-- and no argument of it shuts out another, so a parse tells exactly whether the words have a fault
pub free : is_simple_and_free command_line ≡ true
unfolding clap_on_literals
free = refl

-- the program's command line, made in a call
module _ (a : App) (words : List (List ℕ)) (is : a ≡ command_line) where
  pub faultless_at : (is_simple_and_free a ≡ true → fault_of a words ≡ []) → fault_of command_line words ≡ []
  faultless_at told = subst (λ (b : App). fault_of b words ≡ []) is (told (ap is_simple_and_free is ∙ free))

  -- Where its parse was refused, the words have a fault, or memory ran out.
  pub refused_so : (error : Error) (ending : Ending) → (is_simple_and_free a ≡ true → HasKind (fault_of a words) error) → ending ≡ ending_of (kind_of error)
      → ((ending ≡ Usage) × (DoParse words → ⊥)) ⊎ (ending ≡ Fault Memory)
  refused_so error ending told same = by_kind (subst (λ (b : App). HasKind (fault_of b words) error) is (told (ap is_simple_and_free is ∙ free)))
    where
      no_fault : (kinds : Kinds) (k : ErrorKind) → IsAmong k kinds → kinds ≡ [] → ⊥
      no_fault kinds k among none = subst (IsAmong k) none among

      two_ends : (k : ErrorKind) → (ending_of k ≡ Usage) ⊎ (ending_of k ≡ Fault Memory)
      two_ends kind.OutOfMemory = inr refl
      two_ends k = inl refl

      by_end : (DoParse words → ⊥) → (ending_of (kind_of error) ≡ Usage) ⊎ (ending_of (kind_of error) ≡ Fault Memory)
          → ((ending ≡ Usage) × (DoParse words → ⊥)) ⊎ (ending ≡ Fault Memory)
      by_end none (inl usage) = inl (same ∙ usage, none)
      by_end none (inr memory) = inr (same ∙ memory)

      by_kind : HasKind (fault_of command_line words) error → ((ending ≡ Usage) × (DoParse words → ⊥)) ⊎ (ending ≡ Fault Memory)
      by_kind (inl memory) = inr (same ∙ ap ending_of memory)
      by_kind (inr among) = by_end (λ fit. no_fault (fault_of command_line words) (kind_of error) among fit.faultless) (two_ends (kind_of error))

-- as many names as the words have
module _ (words : List (List ℕ)) (names : List (Bor (List ℕ))) (are : map (λ v. v.now) names ≡ names_in words) where
  count_named : length (names_in words) ≡ length names
  count_named = ap length (sym are) ∙ length-map names (λ (v : Bor (List ℕ)). v.now)

  pub few_named : length names ≤ 63 → length (names_in words) ≤ 63
  few_named few = subst (λ n. n ≤ 63) (sym count_named) few

  pub many_named : 63 < length names → DoParse words → ⊥
  many_named many fit = let few = fit.few in omega (arith, count_named)
