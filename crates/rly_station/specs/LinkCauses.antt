-- What a link shows its operator to mend: the texts (docs/COMMANDS.md, "rly serve").
use Rattle.std.specs.Prelude.{ℕ, ◌==◌, if◌then◌else◌, List, ◌++◌, codes, Option, None, Some}
use Rattle.std.specs.Fmt.{decimal}
use Rattle.std.specs.Net.Text.{socket_text}
use Rattle.rly_station.specs.declared.link_cause.LinkCause.{LinkCause}
use Rattle.rly_station.specs.declared.link_cause.LinkCause.TheVariants.{IsRefused, LedBack, OtherAddress, OtherStations, Refuses, Silent, Stalled, Tagged}

-- that there is no route, to the destination if it is known
abbrev pub no_route_text : (destination : Option ℕ) → List ℕ
no_route_text None = codes " nohop: no route"
no_route_text (Some station) = codes " nohop: no route to station " ++ decimal station

-- the number of a refusal, and its words, with the datagram's destination if that has no route
abbrev pub refusal_text : (refusal : ℕ) → (destination : Option ℕ) → List ℕ
refusal_text refusal destination =
    if refusal == 2 then decimal refusal ++ no_route_text destination
    else if refusal == 3 then decimal refusal ++ codes " badmoment: age limit"
    else if refusal == 5 then decimal refusal ++ codes " toolong: payload above --payload"
    else if refusal == 6 then decimal refusal ++ codes " full: no room"
    else if refusal == 11 then decimal refusal ++ codes " broken"
    else if refusal == 12 then decimal refusal ++ codes " unsure"
    else if refusal == 13 then decimal refusal ++ codes " deviceread"
    else if refusal == 14 then decimal refusal ++ codes " memory"
    else if refusal == 15 then decimal refusal ++ codes " spent"
    else decimal refusal

-- a cause, and the number of its kind so far
abbrev pub cause_text : LinkCause → ℕ → List ℕ
cause_text (Refuses number refusal destination) count =
    codes "refused "
    ++ (refusal_text refusal destination
    ++ (codes " (Data " ++ (decimal number ++ (codes ", " ++ (decimal count ++ codes " so far)")))))
cause_text (IsRefused station number refusal) count =
    codes "station "
    ++ (decimal station
    ++ (codes " refuses Data "
    ++ (decimal number
    ++ (codes ": " ++ (refusal_text refusal None ++ (codes " (" ++ (decimal count ++ codes " so far)")))))))
cause_text (OtherStations from to neighbour own) count =
    codes "packet "
    ++ (decimal count
    ++ (codes " is from "
    ++ (decimal from
    ++ (codes " to "
    ++ (decimal to
    ++ (codes ", this link is from " ++ (decimal neighbour ++ (codes " to " ++ decimal own))))))))
cause_text Tagged count = codes "packet " ++ (decimal count ++ codes " has 16 bytes too many: a key at the other end?")
cause_text (OtherAddress from remote) count =
    codes "packets come from "
    ++ (socket_text from
    ++ (codes ", remote is " ++ (socket_text remote ++ (codes " (" ++ (decimal count ++ codes " so far)")))))
cause_text (Silent in_flight) count =
    codes "nothing heard for 60 s with "
    ++ (decimal in_flight ++ (codes " in flight (" ++ (decimal count ++ codes " so far)")))
cause_text (Stalled number length) count =
    codes "Data "
    ++ (decimal number
    ++ (codes " of "
    ++ (decimal length
    ++ (codes " bytes is lost, shorter ones arrive: do fragments pass? (" ++ (decimal count ++ codes " so far)")))))
cause_text (LedBack destination station hop number) count =
    codes "station "
    ++ (decimal destination
    ++ (codes "'s route leads back to station "
    ++ (decimal station
    ++ (codes " (hop "
    ++ (decimal hop.0
    ++ (codes "), which gave it (Data "
    ++ (decimal number ++ (codes ", " ++ (decimal count ++ codes " so far)")))))))))
