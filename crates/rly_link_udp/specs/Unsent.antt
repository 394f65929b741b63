-- The packet that a link sends again while it waits (docs/ARCHITECTURE.md, "Waiting times").
use Rattle.std.specs.Prelude.{ℕ, List, ◌&&◌, ◌==◌, nat_le, length, if◌then◌else◌}

-- what is kept, in memory of so many bytes: the first packet that fits
abbrev pub kept_packet : (room : ℕ) → (kept packet : List ℕ) → List ℕ
kept_packet room kept packet = if (length kept == 0) && nat_le (length packet) room then packet else kept
