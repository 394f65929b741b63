-- Warnings of packets with a wrong tag (docs/COMMANDS.md, "rly serve").
use Rattle.std.specs.Prelude.{◌≡◌, ℕ, nat_lt, ◌&&◌, if◌then◌else◌, List, [], ◌∷◌, ◌++◌}
use Rattle.rly_station.specs.Kinds.{after_one, is_due}
use Rattle.rly_station.specs.Warnings.{logged_warnings}
use Rattle.rly_station.specs.declared.kind_count.KindCount.{KindCount}
use Rattle.rly_station.specs.declared.warning.Warning.{Warning}
use Rattle.rly_station.specs.declared.warning.Warning.TheVariants.{WrongTag}
use Rattle.rly_link.specs.declared.turn.Worker.{Worker}
use Rattle.rly_link_udp.specs.declared.wrong_tags.WrongTags.{WrongTags}

-- the warnings logged when their count rises from one to another at a moment, if it is due then
abbrev pub tag_warnings : Worker → KindCount → (before count now : ℕ) → List Warning
tag_warnings w kind before count now = if nat_lt before count && is_due kind now then WrongTag w count ∷ [] else []

-- the count rose from one to another at a moment, if it did
pub record HasNotedTags (before count now : ℕ) (old new : WrongTags) : Type 0 where
  pub rest : new ≡ record old {
    kind = if nat_lt before count then after_one old.kind now else old.kind;
    teller = new.teller;
  }
  pub told : logged_warnings new.teller ≡ logged_warnings old.teller ++ tag_warnings old.worker old.kind before count now
