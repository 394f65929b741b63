-- The settings of a command line (docs/COMMANDS.md): those in clap's matches of its words.
use Rattle.std.specs.Prelude.{◌≡◌, ◌≢◌, ⊤, ℕ, List, [], ◌∷◌, Bool, true, false, Option, Some, None, codes, if◌then◌else◌, is_some, map, option_map, unwrap_or}
use Rattle.std.specs.Str.Parse.{ParsesUnsigned}
use Rattle.std.specs.declared.num.ParseIntError.{ParseIntError}
use Rattle.clap.specs.Words.{App, IsAmong, Kinds, ReadsOne, Row, Rule, Text, all_of, fault_of, first_of, kind_of, one_of}
use Rattle.clap.specs.Words.{new_app, new_rule, subcommand_of, with_rule, with_subcommand}
use Rattle.clap.specs.declared.builder.action.ArgAction.TheVariants.{Append, Set, SetTrue}
use Rattle.clap.specs.declared.builder.value_parser.ValueParser.TheVariants as parser
use Rattle.clap.specs.declared.error.Error.{Error}
use Rattle.clap.specs.declared.error.kind.ErrorKind.TheVariants as kind
use Rattle.rly_core.specs.declared.params.Params.{Params}
use Rattle.rly_daemon_args.specs.declared.given.Settings.{Settings}
use Rattle.rly_daemon_args.specs.declared.given.Settings.TheVariants.{Sim, Format, Play, Audit, Serve, Key, Plan, Put, Get}
use Rattle.rly_daemon_args.specs.declared.given.Settings.TheVariants.{NetworkCheck, NetworkDraw, NetworkWrite}
use Rattle.rly_daemon_args.specs.declared.given.SettingsFault.{SettingsFault}
use Rattle.rly_daemon_args.specs.declared.given.SettingsFault.TheVariants.{Asked, CommandLine, OutOfMemory}

-- ---- the command line

-- an option that takes a number below 2^64
abbrev pub number_rule : Text → Rule
number_rule name = record (new_rule name) {
  long = Some name;
  action = Some Set;
  value_names = 1;
  parser = Some (parser.Unsigned 0 18446744073709551615);
}

-- one that has a default
abbrev pub option_rule : Text → Text → Rule
option_rule name default = record (number_rule name) { defaults = default ∷ [] }

-- an option without a value
abbrev pub flag_rule : Text → Rule
flag_rule name = record (new_rule name) { long = Some name; action = Some SetTrue }

-- a path argument
abbrev pub path_rule : Text → Rule
path_rule name = record (new_rule name) { action = Some Set; value_names = 1; required = true }

-- the same for one path or more
abbrev pub paths_rule : Text → Rule
paths_rule name = record (path_rule name) { action = Some Append }

-- an option with the path of a file
abbrev pub file_rule : Text → Rule
file_rule name = record (new_rule name) { long = Some name; action = Some Set; value_names = 1 }

-- the number of lines per round, 1 to 64
abbrev pub batch_rule : Rule
batch_rule = record (option_rule (codes "batch") (codes "1")) { parser = Some (parser.Unsigned 1 64) }

-- the milliseconds for which a round waits for more calls, 0 to 60,000
abbrev pub gather_rule : Rule
gather_rule = record (option_rule (codes "gather") (codes "0")) { parser = Some (parser.Unsigned 0 60000) }

-- the moment at which a plan is shown, below 2^52
abbrev pub at_rule : Rule
at_rule = record (number_rule (codes "at")) { parser = Some (parser.Unsigned 0 4503599627370495) }

-- the destination of files, the number of a station
abbrev pub destination_rule : Rule
destination_rule = record (number_rule (codes "destination")) { parser = Some (parser.Unsigned 1 65535) }

-- the age limit of files in milliseconds: in microseconds it is below 2^40
abbrev pub limit_rule : Rule
limit_rule = record (number_rule (codes "limit")) { parser = Some (parser.Unsigned 1 1099511627) }

-- a command with the options for the sizes of a spool
abbrev pub with_size_rules : App → App
with_size_rules app = with_rule (with_rule (with_rule (with_rule (with_rule app
    (option_rule (codes "hops") (codes "4")))
    (option_rule (codes "peers") (codes "4")))
    (option_rule (codes "window") (codes "8")))
    (option_rule (codes "items") (codes "1024")))
    (option_rule (codes "bytes") (codes "1048576"))

-- a command with the options for CoDel, and one in which they have no default of the parser's
abbrev pub with_codel_rules : App → App
with_codel_rules app = with_rule (with_rule (with_rule app
    (option_rule (codes "maxpacket") (codes "1500")))
    (option_rule (codes "target") (codes "5000")))
    (option_rule (codes "interval") (codes "100000"))

abbrev pub with_bare_codel_rules : App → App
with_bare_codel_rules app = with_rule (with_rule (with_rule app
    (number_rule (codes "maxpacket"))) (number_rule (codes "target"))) (number_rule (codes "interval"))

-- the longest payload
abbrev pub payload_rule : Rule
payload_rule = option_rule (codes "payload") (codes "1200")

-- a command with the options for all parameters of a spool
abbrev pub with_param_rules : App → App
with_param_rules app = with_rule (with_codel_rules (with_size_rules app)) payload_rule

unfoldable pub sim_app : App
sim_app = with_param_rules (new_app (codes "sim"))

unfoldable pub format_app : App
format_app = with_rule (with_rule (with_rule (with_rule (with_rule (with_rule
    (with_bare_codel_rules (with_size_rules (with_rule (new_app (codes "format")) (path_rule (codes "file"))))) payload_rule)
    (option_rule (codes "segments") (codes "4"))) (number_rule (codes "length"))) (flag_rule (codes "force")))
    (flag_rule (codes "keep-all"))) (flag_rule (codes "allocate"))

unfoldable pub play_app : App
play_app = with_rule (with_rule (new_app (codes "play")) (path_rule (codes "file"))) batch_rule

unfoldable pub audit_app : App
audit_app = with_rule (with_rule (with_rule (new_app (codes "audit")) (path_rule (codes "file")))
    (flag_rule (codes "made"))) (flag_rule (codes "copy"))

unfoldable pub serve_app : App
serve_app = with_rule (with_rule (with_rule (with_rule (with_rule (with_rule (with_rule (with_rule (new_app (codes "serve"))
    (path_rule (codes "file"))) (path_rule (codes "plan")))
    (option_rule (codes "turns") (codes "0")))
    (option_rule (codes "report") (codes "0")))
    gather_rule) (flag_rule (codes "events"))) (flag_rule (codes "renumber"))) (flag_rule (codes "patient"))

unfoldable pub key_app : App
key_app = new_app (codes "key")

unfoldable pub plan_app : App
plan_app = with_rule (with_rule (with_rule (with_rule (new_app (codes "plan")) (path_rule (codes "plan"))) at_rule)
    (file_rule (codes "device"))) (file_rule (codes "was"))

unfoldable pub put_app : App
put_app = with_rule (with_rule (with_rule (with_rule (with_rule (new_app (codes "put")) (path_rule (codes "folder")))
    (flag_rule (codes "lines"))) destination_rule) limit_rule) (number_rule (codes "wait"))

unfoldable pub get_app : App
get_app = with_rule (with_rule (with_rule (with_rule (with_rule (new_app (codes "get")) (path_rule (codes "folder")))
    (flag_rule (codes "lines"))) (flag_rule (codes "raw"))) (number_rule (codes "count"))) (flag_rule (codes "follow"))

unfoldable pub network_app : App
network_app = with_rule (with_rule (with_rule (new_app (codes "network")) (path_rule (codes "act")))
    (paths_rule (codes "files"))) (flag_rule (codes "changed"))

-- the program: a version, and a required command
unfoldable pub rly_top : App
rly_top = let new = new_app (codes "rly") in
    record new {
      top = record new.top { has_version = true; subcommand_required = true; arg_required_else_help = true };
    }

unfoldable pub rly_app : App
rly_app =
    with_subcommand (with_subcommand (with_subcommand (with_subcommand (with_subcommand (with_subcommand
    (with_subcommand (with_subcommand (with_subcommand (with_subcommand rly_top sim_app.top) format_app.top) play_app.top)
    audit_app.top) serve_app.top) key_app.top) plan_app.top) put_app.top) get_app.top) network_app.top

-- ---- the request in its matches

-- the command that clap's matches of the words name, with the row of each of its arguments
unfoldable pub asked_of : List Text → Option (Text × List Row)
asked_of words = subcommand_of rly_app words

-- the number below 2^64 that is read from a value
abbrev pub ReadsNumber : Option Text → Option ℕ → Type 0
ReadsNumber None n = n ≡ None
ReadsNumber (Some text) n = ReadsOne {E = ParseIntError} (ParsesUnsigned 64 10) text n

-- the number of an option: that of its value, or the default
abbrev pub HasNumber : List Row → Text → ℕ → ℕ → Type 0
HasNumber rows name default n =
    (given : Option ℕ) × ReadsNumber (one_of name rows) given × (n ≡ unwrap_or given default)

-- whether an option without a value is given
pub record HasFlag (rows : List Row) (name : Text) (on : Bool) : Type 0 where
  pub given : one_of name rows ≡ Some (codes "true") → on ≡ true
  pub left_out : one_of name rows ≡ Some (codes "false") → on ≡ false

-- the path argument of this name
abbrev pub path_in : Text → List Row → Text
path_in name rows = unwrap_or (first_of name rows) []

-- the parameters in the options
pub record HasParams (rows : List Row) (params : Params) : Type 0 where
  pub hops : HasNumber rows (codes "hops") 4 params.hops
  pub peers : HasNumber rows (codes "peers") 4 params.peers
  pub window : HasNumber rows (codes "window") 8 params.window
  pub items : HasNumber rows (codes "items") 1024 params.items
  pub bytes : HasNumber rows (codes "bytes") 1048576 params.bytes
  pub maxpacket : HasNumber rows (codes "maxpacket") 1500 params.maxpacket
  pub target : HasNumber rows (codes "target") 5000 params.target
  pub interval : HasNumber rows (codes "interval") 100000 params.interval
  pub payload : HasNumber rows (codes "payload") 1200 params.payload

-- a CoDel of these sizes that drops nothing that waited for less than two hours of open contact
abbrev pub kept_all : Params → Params
kept_all params = record params { maxpacket = 65535; target = 3600000000; interval = 3600000000 }

-- an option without a default is given
abbrev pub IsGiven : List Row → Text → Type 0
IsGiven rows name = is_some (first_of name rows) ≡ true

-- none of CoDel's options is given
pub record HasNoCodel (rows : List Row) : Type 0 where
  pub maxpacket : ¬ IsGiven rows (codes "maxpacket")
  pub target : ¬ IsGiven rows (codes "target")
  pub interval : ¬ IsGiven rows (codes "interval")

-- the parameters in the options of `format`: those of the options, or with --keep-all those that keep all, beside which
-- none of CoDel's options is given
pub record HasKept (rows : List Row) (params : Params) : Type 0 where
  pub options : Params
  pub given : HasParams rows options
  pub keeps : Bool
  pub flag : HasFlag rows (codes "keep-all") keeps
  pub kept : params ≡ (if keeps then kept_all options else options)
  pub alone : keeps ≡ true → HasNoCodel rows

-- the settings are those of the matched command, with its arguments
abbrev pub IsSettings : Option (Text × List Row) → Settings → Type 0
IsSettings None s = ⊥
IsSettings (Some (command, rows)) (Sim params) = (command ≡ codes "sim") × HasParams rows params
IsSettings (Some (command, rows)) (Format file params segments length force allocate) = (command ≡ codes "format")
    × (file.now ≡ path_in (codes "file") rows)
    × HasKept rows params
    × HasNumber rows (codes "segments") 4 segments
    × ReadsNumber (one_of (codes "length") rows) length
    × HasFlag rows (codes "force") force
    × HasFlag rows (codes "allocate") allocate
IsSettings (Some (command, rows)) (Play file batch) = (command ≡ codes "play")
    × (file.now ≡ path_in (codes "file") rows)
    × HasNumber rows (codes "batch") 1 batch
IsSettings (Some (command, rows)) (Audit file made copy) = (command ≡ codes "audit")
    × (file.now ≡ path_in (codes "file") rows)
    × HasFlag rows (codes "made") made
    × HasFlag rows (codes "copy") copy
IsSettings (Some (command, rows)) (Serve file plan turns report gather events renumber patient) = (command ≡ codes "serve")
    × (file.now ≡ path_in (codes "file") rows)
    × (plan.now ≡ path_in (codes "plan") rows)
    × HasNumber rows (codes "turns") 0 turns
    × HasNumber rows (codes "report") 0 report
    × HasNumber rows (codes "gather") 0 gather
    × HasFlag rows (codes "events") events
    × HasFlag rows (codes "renumber") renumber
    × HasFlag rows (codes "patient") patient
IsSettings (Some (command, rows)) Key = command ≡ codes "key"
IsSettings (Some (command, rows)) (Plan plan at device was) = (command ≡ codes "plan")
    × (plan.now ≡ path_in (codes "plan") rows)
    × ReadsNumber (one_of (codes "at") rows) at
    × (option_map (λ s. s.now) device ≡ first_of (codes "device") rows)
    × (option_map (λ s. s.now) was ≡ first_of (codes "was") rows)
IsSettings (Some (command, rows)) (Put folder lines destination limit wait) = (command ≡ codes "put")
    × (folder.now ≡ path_in (codes "folder") rows)
    × HasFlag rows (codes "lines") lines
    × ReadsNumber (one_of (codes "destination") rows) destination
    × ReadsNumber (one_of (codes "limit") rows) limit
    × ReadsNumber (one_of (codes "wait") rows) wait
IsSettings (Some (command, rows)) (Get folder lines raw count follow) = (command ≡ codes "get")
    × (folder.now ≡ path_in (codes "folder") rows)
    × HasFlag rows (codes "lines") lines
    × HasFlag rows (codes "raw") raw
    × ReadsNumber (one_of (codes "count") rows) count
    × HasFlag rows (codes "follow") follow
IsSettings (Some (command, rows)) (NetworkCheck names) = (command ≡ codes "network")
    × (path_in (codes "act") rows ≡ codes "check")
    × (all_of (codes "files") rows ≡ Some (map (λ s. s.now) names.now))
    × HasFlag rows (codes "changed") false
IsSettings (Some (command, rows)) (NetworkWrite file folder changed) = (command ≡ codes "network")
    × (path_in (codes "act") rows ≡ codes "write")
    × (all_of (codes "files") rows ≡ Some (file.now ∷ folder.now ∷ []))
    × HasFlag rows (codes "changed") changed
IsSettings (Some (command, rows)) (NetworkDraw file) = (command ≡ codes "network")
    × (path_in (codes "act") rows ≡ codes "draw")
    × (all_of (codes "files") rows ≡ Some (file.now ∷ []))
    × HasFlag rows (codes "changed") false

-- ---- its errors

-- a command line is wrong, unless it asks for help or the version
abbrev pub IsWrong : Error → Type 0
IsWrong error = (kind_of error ≢ kind.DisplayHelp) × (kind_of error ≢ kind.DisplayVersion)

-- the kinds of error that clap may return for the words: those of the first step that fails, none if it accepts
-- them
unfoldable pub kinds_at : List Text → Kinds
kinds_at words = fault_of rly_app words

-- the words ask for help or the version
pub record AsksHelp (words : List Text) : Type 0 where
  pub text : Error
  pub answers : ¬ IsWrong text
  pub asked : IsAmong (kind_of text) (kinds_at words)

-- a fault is the one of its text: an answer that the words ask for, or the reason of a refusal
abbrev pub IsTrueFault : List Text → SettingsFault → Type 0
IsTrueFault words OutOfMemory = ⊤
IsTrueFault words (Asked text) = AsksHelp words
IsTrueFault words (CommandLine text) = IsWrong text

-- the fault of clap's error
abbrev pub IsReportedAs : Error → SettingsFault → Type 0
IsReportedAs error OutOfMemory = kind_of error ≡ kind.OutOfMemory
IsReportedAs error (Asked text) = (text ≡ error) × ¬ IsWrong text
IsReportedAs error (CommandLine text) = (text ≡ error) × IsWrong text × (kind_of error ≢ kind.OutOfMemory)
