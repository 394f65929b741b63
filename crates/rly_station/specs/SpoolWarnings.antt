-- What a spool shows its operator: the texts (docs/COMMANDS.md, "rly serve").
use Rattle.std.specs.Prelude.{ℕ, ◌/◌, List, ◌++◌, codes, Option, Some, None}
use Rattle.std.specs.Fmt.{decimal}
use Rattle.rly_station.specs.declared.spool_warning.Discard.{Discard}
use Rattle.rly_station.specs.declared.spool_warning.Discard.TheVariants.{Dropped, Expired}
use Rattle.rly_station.specs.declared.spool_warning.Load.{Load}
use Rattle.rly_station.specs.declared.spool_warning.Origin.{Origin}
use Rattle.rly_station.specs.declared.spool_warning.SpoolWarning.{SpoolWarning}
use Rattle.rly_station.specs.declared.spool_warning.SpoolWarning.TheVariants.{Crowding, Discarded, Filling, Relieved}

-- the neighbour that sent a datagram, and its destination if its payload names one
abbrev pub ends_text : ℕ → Option ℕ → List ℕ
ends_text peer None = codes "of peer " ++ decimal peer
ends_text peer (Some station) = codes "of peer " ++ (decimal peer ++ (codes " for station " ++ decimal station))

abbrev pub origin_text : Origin → List ℕ
origin_text origin = ends_text origin.peer.0 origin.destination

-- the wait of a datagram, in milliseconds
abbrev pub waited_text : Origin → List ℕ
waited_text origin = codes " after " ++ (decimal (origin.waited / 1000) ++ codes " ms of open contact")

-- what happened to a datagram
abbrev pub discard_text : Discard → (id : ℕ) → Option Origin → List ℕ
discard_text Dropped id (Some origin) =
    codes "CoDel dropped datagram " ++ (decimal id ++ (codes " " ++ (origin_text origin ++ waited_text origin)))
discard_text Expired id (Some origin) =
    codes "datagram " ++ (decimal id ++ (codes " " ++ (origin_text origin ++ (codes " expired" ++ waited_text origin))))
discard_text Dropped id None =
    codes "CoDel dropped datagram " ++ (decimal id ++ codes ", stored before this start or long ago")
discard_text Expired id None =
    codes "datagram " ++ (decimal id ++ codes ", stored before this start or long ago, expired")

-- a load of limits, and what is said of it
abbrev pub load_text : (used limits : Load) → (tail : List ℕ) → List ℕ
load_text used limits tail =
    decimal used.items
    ++ (codes " of "
    ++ (decimal limits.items
    ++ (codes " datagrams, " ++ (decimal used.bytes ++ (codes " of " ++ (decimal limits.bytes ++ tail))))))

abbrev pub spool_text : SpoolWarning → List ℕ
spool_text (Discarded hop cause id origin count) =
    codes "hop "
    ++ (decimal hop.0
    ++ (codes ": " ++ (discard_text cause id origin ++ (codes " (" ++ (decimal count ++ codes " so far)")))))
spool_text (Filling used limits) = codes "spool: " ++ load_text used limits (codes " bytes: 90 % full")
spool_text (Relieved used limits) = codes "spool: " ++ load_text used limits (codes " bytes: under 80 %")
spool_text (Crowding hop items limit) =
    codes "hop "
    ++ (decimal hop.0
    ++ (codes ": "
    ++ (decimal items
    ++ (codes " of " ++ (decimal limit ++ codes " datagrams are for it: more than half of the spool")))))
