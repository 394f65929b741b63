-- The ghost history of the link to a neighbour, with a key or without (docs/reference/DEFINITIONS.md, "Keys").
use Rattle.std.specs.Prelude.{ℕ, List, Option, Some, None}
use Rattle.rly_link_auth.specs.declared.station_link.StationLink.{StationLink}
use Rattle.rly_link_auth.specs.declared.station_link.StationLink.TheVariants.{Keyed, Open}
use Rattle.rly_link_auth.specs.SealedLink.{new_sealed, sealed_failed, sealed_heard, sealed_sent}
use Rattle.rly_link_auth.specs.Keys.{Keys}
use Rattle.rly_link.specs.LinkHistory.{Hearing}

-- a link, sealed if there are keys
abbrev pub station_link : {L : Type 0} → L → Option Keys → StationLink L
station_link link None = Open link
station_link link (Some keys) = Keyed (new_sealed link keys)

-- the link below, and the keys over it
abbrev pub link_below : {L : Type 0} → StationLink L → L
link_below (Open link) = link
link_below (Keyed s) = s.link

abbrev pub keys_over : {L : Type 0} → StationLink L → Option Keys
keys_over (Open link) = None
keys_over (Keyed s) = Some s.keys

-- its receives, sends and failed calls: those of the link, or of the sealed link
abbrev pub station_heard : {L : Type 0} → (L → Option (List Hearing)) → StationLink L → Option (List Hearing)
station_heard heard (Open link) = heard link
station_heard heard (Keyed s) = sealed_heard heard s

abbrev pub station_sent : {L : Type 0} → (L → Option (List (List ℕ))) → StationLink L → Option (List (List ℕ))
station_sent sent (Open link) = sent link
station_sent sent (Keyed s) = sealed_sent sent s

abbrev pub station_failed : {L : Type 0} → (L → ℕ) → StationLink L → ℕ
station_failed failed (Open link) = failed link
station_failed failed (Keyed s) = sealed_failed failed s

-- how many packets had a wrong tag: none if the link has no key
abbrev pub wrong_tags : {L : Type 0} → StationLink L → ℕ
wrong_tags (Open link) = 0
wrong_tags (Keyed s) = s.wrong
