-- What a file that was refused begins as.
use Rattle.std.specs.Prelude.{ℕ, ◌==◌, nat_le, nat_lt, Bool, ◌&&◌, ◌||◌, List, length, slice_range, if◌then◌else◌, codes}
use Rattle.std.specs.List.{list_all}
use Rattle.std.specs.Str.{bytes_eq}
use Rattle.rly_daemon.specs.declared.file_look.Look.{Look}
use Rattle.rly_daemon.specs.declared.file_look.Look.TheVariants.{Device, Text, Other}

-- a printable character, a space or a newline
abbrev pub is_text : ℕ → Bool
is_text byte = byte == 10 || byte == 9 || byte == 13 || (nat_le 32 byte && nat_lt byte 127)

-- the text of a device's header after its gate
abbrev pub is_header : List ℕ → Bool
is_header front = nat_le 9 (length front) && bytes_eq (slice_range front 1 9) (codes "RLYDEV01")

-- a device's header, or text alone
abbrev pub look_of : List ℕ → Look
look_of front =
    if is_header front then Device
    else if nat_lt 0 (length front) && list_all is_text front then Text
    else Other
