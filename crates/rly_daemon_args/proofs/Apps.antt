-- Commands that are built of arguments and subcommands.
use Rattle.std.proofs.Common.{◌≡◌, Bool, true, false, not, refl, ◌∙◌, ap, ap₂}
use Rattle.std.proofs.lemmas.Bool.{and_parts}
use Rattle.clap.specs.Words.{AddsSubcommand, App, app_of, is_simple, is_simple_and_free, with_subcommand}
use Rattle.clap.specs.declared.builder.command.Command.{Command}
use Rattle.rly_daemon_args.specs.CommandLine.{audit_app, format_app, get_app, key_app, network_app, plan_app, play_app, put_app, rly_app, rly_top, serve_app, sim_app}

not_true : (b : Bool) → not b ≡ true → b ≡ false
not_true true h = let no : ⊥ = cc in absurd no
not_true false h = refl

-- a command with one command more below it, which shares no argument
pub adds_command : (old sub new : Command) → AddsSubcommand old sub new → (app_of sub).top.is_plain ≡ true → app_of new ≡ with_subcommand (app_of old) (app_of sub).top
adds_command old sub new added plain = added.shape (not_true _ (and_parts _ _ (and_parts _ _ (and_parts _ _ plain).1).1).0)

-- the same, given the facts of the two
pub with_below : (old sub new : Command) (app below : App) → AddsSubcommand old sub new → app_of old ≡ app → app_of sub ≡ below → below.top.is_plain ≡ true
    → app_of new ≡ with_subcommand app below.top
with_below old sub new app below added before is plain =
    adds_command old sub new added (ap (λ (a : App). a.top.is_plain) is ∙ plain) ∙ ap₂ with_subcommand before (ap (λ (a : App). a.top) is)

pub sim_plain : sim_app.top.is_plain ≡ true
unfolding sim_app
sim_plain = refl

pub format_plain : format_app.top.is_plain ≡ true
unfolding format_app
format_plain = refl

pub play_plain : play_app.top.is_plain ≡ true
unfolding play_app
play_plain = refl

pub audit_plain : audit_app.top.is_plain ≡ true
unfolding audit_app
audit_plain = refl

pub serve_plain : serve_app.top.is_plain ≡ true
unfolding serve_app
serve_plain = refl

pub key_plain : key_app.top.is_plain ≡ true
unfolding key_app
key_plain = refl

pub plan_plain : plan_app.top.is_plain ≡ true
unfolding plan_app
plan_plain = refl

pub put_plain : put_app.top.is_plain ≡ true
unfolding put_app
put_plain = refl

pub get_plain : get_app.top.is_plain ≡ true
unfolding get_app
get_plain = refl

pub network_plain : network_app.top.is_plain ≡ true
unfolding network_app
network_plain = refl

-- clap's matches of its words are known
pub rly_simple : is_simple rly_app ≡ true
unfolding rly_app rly_top sim_app format_app play_app audit_app serve_app key_app plan_app put_app get_app network_app
rly_simple = refl

-- so are the errors at them
pub rly_free : is_simple_and_free rly_app ≡ true
unfolding rly_app rly_top sim_app format_app play_app audit_app serve_app key_app plan_app put_app get_app network_app
rly_free = refl
