-- The receive buffers of a station's links (docs/COMMANDS.md, "rly serve").
use Rattle.std.specs.Prelude.{ℕ, ◌+◌, ◌*◌, min, nat_lt, if◌then◌else◌, List, take, filter_map, Option, Some, None}
use Rattle.rly_station.specs.declared.warning.Warning.{Warning}
use Rattle.rly_station.specs.declared.warning.Warning.TheVariants.{SmallBuffer}

-- two windows of 64 packets: messages of at most this many bytes, each with a tag of 16. No packet of UDP has more than
-- 65,535
abbrev pub wanted_buffer : ℕ → ℕ
wanted_buffer longest = 2 * 64 * (min longest 65535 + 16)

-- the warning of a link that wants a buffer of so many bytes and has one of so many, if the system says how many
abbrev pub buffer_warning : ℕ → Option ℕ → Option Warning
buffer_warning wanted None = None
buffer_warning wanted (Some granted) = if nat_lt granted wanted then Some (SmallBuffer wanted granted) else None

-- of a station's links the first that got less is logged
abbrev pub buffer_warnings : ℕ → List (Option ℕ) → List Warning
buffer_warnings wanted granted = take 1 (filter_map (buffer_warning wanted) granted)
