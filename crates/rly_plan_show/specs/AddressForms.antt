-- The form of an address, as far as a plan's text shows it.
use Rattle.std.specs.Prelude.{ℕ, ◌==◌, List, [], ◌∷◌, Bool, false, not, ◌&&◌, ◌||◌, if◌then◌else◌, Option, Some, None}
use Rattle.std.specs.Char.{is_ascii_digit}
use Rattle.std.specs.List.{list_all, list_any}
use Rattle.std.specs.Option.{option_or}

-- what follows the last colon, if there is one
abbrev pub after_last_colon : List ℕ → Option (List ℕ)
after_last_colon [] = None
after_last_colon (b ∷ bs) = option_or (after_last_colon bs) (if b == 58 then Some bs else None)

-- digits, one of them not 0
abbrev pub is_port : List ℕ → Bool
is_port digits = list_all is_ascii_digit digits && list_any (λ b. not (b == 48)) digits

abbrev pub is_some_port : Option (List ℕ) → Bool
is_some_port None = false
is_some_port (Some digits) = is_port digits

-- the address ends with a port other than 0
abbrev pub has_port : List ℕ → Bool
has_port address = is_some_port (after_last_colon address)

-- of IPv4 are digits, dots and colons with a dot, and of IPv6 is what begins with a bracket; other addresses are names
abbrev pub is_numeric_byte : ℕ → Bool
is_numeric_byte b = is_ascii_digit b || ((b == 46) || (b == 58))

abbrev pub is_v4 : List ℕ → Bool
is_v4 address = list_all is_numeric_byte address && list_any (λ b. b == 46) address

abbrev pub is_v6 : List ℕ → Bool
is_v6 [] = false
is_v6 (b ∷ bs) = b == 91

-- one is of IPv4, and the other of IPv6
abbrev pub are_two_families : List ℕ → List ℕ → Bool
are_two_families one other = (is_v4 one && is_v6 other) || (is_v6 one && is_v4 other)
