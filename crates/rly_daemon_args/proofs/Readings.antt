-- Reading the matches of words.
use Rattle.std.proofs.Common.{◌≡◌, ℕ, List, [], ◌∷◌, true, ap₂, arith, inl, inr, length, map, nat_eq, Option, Some, None, Result, Ok, Err, refl, subst, sym, ◌∙◌}
use lib.Pointwise.{bytes_decides, pointwise}
use Rattle.std.proofs.lemmas.Bool.{and_parts}
use Rattle.std.specs.Borrow.{Bor}
use Rattle.std.specs.Prelude.{slice_index_or}
use Rattle.std.specs.Prelude.{is_some, option_map, unwrap_or}
use Rattle.std.specs.Str.Parse.{ParsesUnsigned}
use Rattle.std.specs.declared.num.ParseIntError.{ParseIntError}
use Rattle.clap.specs.Words.{App, FailsBy, HasKind, IsAmong, HasMatchesOf, is_simple_and_free, fault_of, kind_of, ReadsOne, Row, Text, app_of, one_of, one_text, rows_of, subcommand_of, subcommand_rows_of}
use Rattle.clap.specs.declared.builder.command.Command.{Command}
use Rattle.clap.specs.declared.error.Error.{Error}
use Rattle.clap.specs.declared.error.kind.ErrorKind.TheVariants as kind
use Rattle.clap.specs.declared.parser.matches.ArgMatches.{ArgMatches}
use Rattle.clap.specs.declared.parser.matches.Found.{Found}
use Rattle.clap.proofs.WalkLemmas.{one_text-rows}
use Rattle.rly_daemon_args.specs.declared.given.Settings.{Settings}
use Rattle.rly_daemon_args.specs.declared.given.SettingsFault.{SettingsFault}
use Rattle.rly_daemon_args.specs.declared.given.SettingsFault.TheVariants.{Asked, CommandLine, OutOfMemory}
use Rattle.rly_daemon_args.specs.CommandLine.{IsSettings, IsReportedAs, IsTrueFault, IsWrong, ReadsNumber, asked_of, kinds_at, rly_app}
use Rattle.rly_daemon_args.proofs.Apps.{rly_free, rly_simple}

-- a typed getter reads the row's text
pub number_read : (gives : List ℕ → Result ℕ ParseIntError → Type 0) → ((t : List ℕ) (r : Result ℕ ParseIntError) → gives t r → ParsesUnsigned 64 10 t r)
    → (f : Found) (id : Text) (n : Option ℕ) → (one_text f id ≡ None → n ≡ None) → ((t : List ℕ) → one_text f id ≡ Some t → ReadsOne gives t n)
    → ReadsNumber (one_of id (rows_of f)) n
number_read gives parses f id n none value = rw (← one_text-rows f id) (go (one_text f id) refl)
  where
    one : (t : List ℕ) (n : Option ℕ) → ReadsOne gives t n → ReadsOne {E = ParseIntError} (ParsesUnsigned 64 10) t n
    one t (Some v) h = parses t (Ok v) h
    one t None h = (h.0, parses t (Err h.0) h.1)

    go : (o : Option Text) → one_text f id ≡ o → ReadsNumber o n
    go None e = none e
    go (Some t) e = one t n (value t e)

-- a default after the result of a map
pub default_mapped : {X Y : Type 0} (f : X → Y) (o : Option X) (d : X) → f (unwrap_or o d) ≡ unwrap_or (option_map f o) (f d)
default_mapped f None d = refl
default_mapped f (Some x) d = refl

-- whether there is one, after a map
pub is_some_mapped : {X Y : Type 0} (f : X → Y) (o : Option X) → is_some o ≡ is_some (option_map f o)
is_some_mapped f None = refl
is_some_mapped f (Some x) = refl

-- the settings of clap's matches are those of the words
pub settings_found : (command : Command) (m : ArgMatches) (words : List Text) (s : Settings) → HasMatchesOf (app_of command) words m → app_of command ≡ rly_app
    → IsSettings (subcommand_rows_of m) s → IsSettings (asked_of words) s
unfolding asked_of
settings_found command m words s matches is asked =
    let there : subcommand_rows_of m ≡ subcommand_of rly_app words = (subst (λ (a : App). HasMatchesOf a words m) is matches rly_simple).1 in
    subst (λ (found : Option (Text × List Row)). IsSettings found s) there asked

-- words that clap accepted have no step that fails
pub taken : (command : Command) (m : ArgMatches) (words : List Text) → (is_simple_and_free (app_of command) ≡ true → FailsBy {T = ArgMatches} (fault_of (app_of command) words) (Ok m))
    → app_of command ≡ rly_app → kinds_at words ≡ []
unfolding kinds_at
taken command m words fails is = subst (λ (a : App). is_simple_and_free a ≡ true → FailsBy {T = ArgMatches} (fault_of a words) (Ok m)) is fails rly_free

-- the fault of clap's error is true
pub true_fault : (command : Command) (words : List Text) (error : Error) (fault : SettingsFault)
    → (is_simple_and_free (app_of command) ≡ true → FailsBy {T = ArgMatches} (fault_of (app_of command) words) (Err error)) → app_of command ≡ rly_app
    → IsReportedAs error fault → IsTrueFault words fault
unfolding kinds_at
true_fault command words error OutOfMemory fails is told = tt
true_fault command words error (CommandLine text) fails is told = told.1
true_fault command words error (Asked text) fails is told =
    let among : HasKind (fault_of rly_app words) error = subst (λ (a : App). is_simple_and_free a ≡ true → FailsBy {T = ArgMatches} (fault_of a words) (Err error)) is fails rly_free in
    elim among [
      | inl memory ↦
          let no : ⊥ = told.1 (subst (λ e. IsWrong e) (sym told.0) ((λ same. let bad : kind.OutOfMemory ≡ kind.DisplayHelp = sym memory ∙ same in cc), (λ same. let bad : kind.OutOfMemory ≡ kind.DisplayVersion = sym memory ∙ same in cc))) in
          absurd no
      | inr kinds ↦ record {
        text = text;
        answers = told.1;
        asked = subst (λ e. IsAmong (kind_of e) (fault_of rly_app words)) (sym told.0) kinds;
      }
    ]

-- words that are equal have the same texts
pub same_texts : (words others : List (Bor Text)) → pointwise (λ w o. pointwise nat_eq w.now o.now) words others ≡ true
    → map (λ w. w.now) words ≡ map (λ o. o.now) others
same_texts [] [] same = refl
same_texts [] (o ∷ others) same = absurd (cc same)
same_texts (w ∷ words) [] same = absurd (cc same)
same_texts (w ∷ words) (o ∷ others) same =
    let parts = and_parts _ _ same in
    ap₂ (λ text rest. text ∷ rest) ((bytes_decides w.now o.now).0 parts.0) (same_texts words others parts.1)

-- the texts of one word, and of two
pub one_text_alone : (words : List (Bor Text)) (none : Bor Text) → length words ≡ 1 → map (λ w. w.now) words ≡ (slice_index_or words 0 none).now ∷ []
one_text_alone [] none one = absurd (omega (arith, one))
one_text_alone (w ∷ []) none one = refl
one_text_alone (w ∷ v ∷ words) none one = absurd (omega (arith, one))

pub two_texts : (words : List (Bor Text)) (none no_other : Bor Text) → length words ≡ 2
    → map (λ w. w.now) words ≡ (slice_index_or words 0 none).now ∷ (slice_index_or words 1 no_other).now ∷ []
two_texts [] none no_other two = absurd (omega (arith, two))
two_texts (w ∷ []) none no_other two = absurd (omega (arith, two))
two_texts (w ∷ v ∷ []) none no_other two = refl
two_texts (w ∷ v ∷ u ∷ words) none no_other two = absurd (omega (arith, two))
