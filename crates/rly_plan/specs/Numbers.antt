-- Whole numbers of a plan's text, and their ranges.
use Rattle.std.specs.Prelude.{ℕ, nat_le, ℤ, pos, negsuc, Bool, true, false, ◌&&◌, if◌then◌else◌, Option, Some, None}

-- the whole number lies from least to most
abbrev pub is_between : ℕ → ℕ → ℤ → Bool
is_between least most (pos n) = nat_le least n && nat_le n most
is_between least most (negsuc n) = false

-- the whole number, if it is not below 0
abbrev pub number : ℤ → ℕ
number (pos n) = n
number (negsuc n) = 0

-- the whole number, if it fits 16 bits
abbrev pub number_16 : ℤ → ℕ
number_16 z = if is_between 0 65535 z then number z else 0

-- the whole number, if it fits 32 bits
abbrev pub number_32 : ℤ → ℕ
number_32 z = if is_between 0 4294967295 z then number z else 0

-- the number lies from least to most, if it is given
abbrev pub is_given_between : ℕ → ℕ → Option ℤ → Bool
is_given_between least most None = true
is_given_between least most (Some z) = is_between least most z

-- a station or a destination
abbrev pub is_station : ℤ → Bool
is_station z = is_between 1 65535 z
