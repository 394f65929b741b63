-- The bits of a Heard, one for each of the 64 numbers after the one that custody covers (docs/PROTOCOL.md, "Messages").
-- Place 0 is the first of them, last + 1, and has the greatest bit; place 63 is last + 64 and has the least.
use Rattle.std.specs.Prelude.{ℕ, ◌-◌, ◌/◌, ◌%◌, ◌^◌, Bool, ◌&&◌, ◌==◌, nat_lt, if◌then◌else◌, bit_or}

-- whether the bit of a place is set
unfoldable pub marks : ℕ → ℕ → Bool
marks bits place = nat_lt place 64 && (bits / 2 ^ (63 - place) % 2 == 1)

-- the bits with that of a place set
unfoldable pub with_mark : ℕ → ℕ → ℕ
with_mark bits place = if nat_lt place 64 then bit_or bits (2 ^ (63 - place)) else bits
