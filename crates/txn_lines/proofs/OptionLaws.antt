-- The options of a `begin`, in any order.
use Rattle.std.proofs.Common.{◌≡◌, ℕ, Bool, true, false, cond, not, ◌&&◌, ◌||◌, List, [], ◌∷◌, map, Option, Some, None, refl, sym, ap, subst, ◌∙◌}
use Rattle.std.specs.Prelude.{bytes_eq}
use Rattle.std.specs.List.{AllByRecursion, IsDistinct, list_any}
use Rattle.std.proofs.lemmas.Bool.{and_parts}
use Rattle.std.proofs.lemmas.Slice.Eq.{bytes_eq-Decides}
use Rattle.txn_lines.specs.declared.begin_options.BeginOptions.{BeginOptions}
use Rattle.txn_lines.specs.Grammar.{Form, exactly, AreWordsOf, OptionName, no_locks, no_regions, option_word, is_option, options_of}
use Rattle.txn_lines.specs.Reading.{Words, with_option, options_after, no_options}
use Rattle.txn_lines.proofs.Options.{bind_some, some_is}

abbrev pub option_forms : List OptionName → List Form
option_forms names = map (λ name. exactly (option_word name)) names

-- ---- options by their names

abbrev has : BeginOptions → OptionName → Bool
has options no_locks = options.no_locks
has options no_regions = options.no_regions

abbrev set : BeginOptions → OptionName → BeginOptions
set options no_locks = record options { no_locks = true }
set options no_regions = record options { no_regions = true }

abbrev with_names : BeginOptions → List OptionName → BeginOptions
with_names options [] = options
with_names options (name ∷ names) = with_names (set options name) names

-- none of them is set
abbrev AreFresh : BeginOptions → List OptionName → Type 0
AreFresh options names = AllByRecursion (λ name. has options name ≡ false) names

set_has : (options : BeginOptions) (name other : OptionName) → has (set options name) other ≡ (is_option other name || has options other)
set_has options no_locks no_locks = refl
set_has options no_locks no_regions = refl
set_has options no_regions no_locks = refl
set_has options no_regions no_regions = refl

same_option : (name other : OptionName) → is_option name other ≡ is_option other name
same_option no_locks no_locks = refl
same_option no_locks no_regions = refl
same_option no_regions no_locks = refl
same_option no_regions no_regions = refl

or_false : (a b : Bool) → (a || b) ≡ false → (a ≡ false) × (b ≡ false)
or_false true b e = absurd cc
or_false false b e = (refl, e)

all_have : (options : BeginOptions) (names : List OptionName) (other : OptionName) → has (with_names options names) other ≡ (has options other || list_any (is_option other) names)
all_have options [] other = regroup (has options other)
  where
    regroup : (a : Bool) → a ≡ (a || false)
    regroup true = refl
    regroup false = refl
all_have options (name ∷ names) other = all_have (set options name) names other ∙ rw (set_has options name other) (swap_or (is_option other name) (has options other) (list_any (is_option other) names))
  where
    swap_or : (a b c : Bool) → ((a || b) || c) ≡ (b || (a || c))
    swap_or true true c = refl
    swap_or true false c = refl
    swap_or false true c = refl
    swap_or false false c = refl

these_options : (names : List OptionName) → with_names no_options names ≡ options_of names
these_options names =
    let both = with_names no_options names in
    let locks : both.no_locks ≡ list_any (is_option no_locks) names = all_have no_options names no_locks in
    let regions : both.no_regions ≡ list_any (is_option no_regions) names = all_have no_options names no_regions in
    of_parts both (options_of names) locks regions
  where
    of_parts : (a b : BeginOptions) → a.no_locks ≡ b.no_locks → a.no_regions ≡ b.no_regions → a ≡ b
    of_parts a b one two = ap (λ (x : Bool). record { no_locks = x; no_regions = a.no_regions }) one ∙ ap (λ (x : Bool). record { no_locks = b.no_locks; no_regions = x }) two

-- ---- one option

-- the word of an option that is not set yet
record IsOption (options : BeginOptions) (word : List ℕ) (more : BeginOptions) : Type 0 where
  name : OptionName
  word_is : word ≡ option_word name
  fresh : has options name ≡ false
  more_is : set options name ≡ more

not_true : (b : Bool) → not b ≡ true → b ≡ false
not_true true e = absurd cc
not_true false e = refl

is_named : (options : BeginOptions) (name : OptionName) (word : List ℕ) (more : BeginOptions) → (bytes_eq word (option_word name) && not (has options name)) ≡ true → set options name ≡ more → IsOption options word more
is_named options name word more test e =
    let both = and_parts (bytes_eq word (option_word name)) (not (has options name)) test in
    record { name = name; word_is = (bytes_eq-Decides word (option_word name)).0 both.0; fresh = not_true (has options name) both.1; more_is = e }

-- a test that chooses between two ways to read
chosen : (test : Bool) (one other : Option BeginOptions) (more : BeginOptions) → cond test one other ≡ Some more → (P : Type 0) → (test ≡ true → one ≡ Some more → P) → (other ≡ Some more → P) → P
chosen true one other more e P so otherwise = so refl e
chosen false one other more e P so otherwise = otherwise e

option_takes : (options : BeginOptions) (word : List ℕ) (more : BeginOptions) → with_option options word ≡ Some more → IsOption options word more
unfolding with_option
option_takes options word more e =
    chosen _ _ _ more e (IsOption options word more)
    (λ test is. is_named options no_locks word more test (some_is (set options no_locks) more is))
    (λ e2. chosen _ _ None more e2 (IsOption options word more)
    (λ test is. is_named options no_regions word more test (some_is (set options no_regions) more is))
    (λ none. absurd cc))

option_again : (options : BeginOptions) (name : OptionName) → has options name ≡ false → with_option options (option_word name) ≡ Some (set options name)
unfolding with_option
option_again options no_locks fresh = rw fresh refl
option_again options no_regions fresh = rw fresh refl

-- ---- all of them

record AreOptions (options : BeginOptions) (words : Words) (all : BeginOptions) : Type 0 where
  names : List OptionName
  distinct : IsDistinct is_option names
  fresh : AreFresh options names
  all_is : with_names options names ≡ all
  spelled : AreWordsOf (option_forms names) words

others : (options : BeginOptions) (name : OptionName) (names : List OptionName) → AreFresh (set options name) names → AllByRecursion (λ other. is_option name other ≡ false) names × AreFresh options names
others options name [] fresh = (tt, tt)
others options name (other ∷ names) fresh =
    let here = or_false (is_option other name) (has options other) (sym (set_has options name other) ∙ fresh.0) in
    let rest = others options name names fresh.1 in
    ((same_option name other ∙ here.0, rest.0), (here.1, rest.1))

still_fresh : (options : BeginOptions) (name : OptionName) (names : List OptionName) → AllByRecursion (λ other. is_option name other ≡ false) names → AreFresh options names → AreFresh (set options name) names
still_fresh options name [] apart fresh = tt
still_fresh options name (other ∷ names) apart fresh =
    let unlike : is_option other name ≡ false = sym (same_option name other) ∙ apart.0 in
    let here : has (set options name) other ≡ false = set_has options name other ∙ rw (unlike, fresh.0) refl in
    (here, still_fresh options name names apart.1 fresh.1)

after_takes : (words : Words) (options all : BeginOptions) → options_after options words ≡ Some all → AreOptions options words all
unfolding IsDistinct
after_takes [] options all e = record { names = []; distinct = tt; fresh = tt; all_is = some_is options all e; spelled = tt }
after_takes (w ∷ ws) options all e =
    let step = bind_some (with_option options w) (λ more. options_after more ws) all e in
    let one = option_takes options w step.0 step.1 in
    let later = after_takes ws step.0 all step.2 in
    let fresh : AreFresh (set options one.name) later.names = subst (λ (o : BeginOptions). AreFresh o later.names) (sym one.more_is) later.fresh in
    let rest = others options one.name later.names fresh in
    record {
      names = one.name ∷ later.names;
      distinct = (rest.0, later.distinct);
      fresh = (one.fresh, rest.1);
      all_is = ap (λ (o : BeginOptions). with_names o later.names) one.more_is ∙ later.all_is;
      spelled = (one.word_is, later.spelled);
    }

after_again : (words : Words) (options : BeginOptions) (names : List OptionName) → IsDistinct is_option names → AreFresh options names → AreWordsOf (option_forms names) words → options_after options words ≡ Some (with_names options names)
unfolding IsDistinct
after_again [] options [] distinct fresh h = refl
after_again [] options (name ∷ names) distinct fresh h = absurd h
after_again (w ∷ ws) options [] distinct fresh h = absurd h
after_again (w ∷ ws) options (name ∷ names) distinct fresh h =
    let one : with_option options w ≡ Some (set options name) = ap (with_option options) h.0 ∙ option_again options name fresh.0 in
    rw one (after_again ws (set options name) names distinct.1 (still_fresh options name names distinct.0 fresh.1) h.1)

-- the names of these options, each once
pub record AreNamed (words : Words) (options : BeginOptions) : Type 0 where
  pub names : List OptionName
  pub distinct : IsDistinct is_option names
  pub options_is : options ≡ options_of names
  pub spelled : AreWordsOf (option_forms names) words

pub options_take : (words : Words) (options : BeginOptions) → options_after no_options words ≡ Some options → AreNamed words options
options_take words options e =
    let read = after_takes words no_options options e in
    record { names = read.names; distinct = read.distinct; options_is = sym read.all_is ∙ these_options read.names; spelled = read.spelled }

all_fresh : (names : List OptionName) → AreFresh no_options names
all_fresh [] = tt
all_fresh (no_locks ∷ names) = (refl, all_fresh names)
all_fresh (no_regions ∷ names) = (refl, all_fresh names)

pub options_again : (words : Words) (names : List OptionName) → IsDistinct is_option names → AreWordsOf (option_forms names) words → options_after no_options words ≡ Some (options_of names)
options_again words names distinct h =
    after_again words no_options names distinct (all_fresh names) h ∙ ap (λ (o : BeginOptions). Some o) (these_options names)
