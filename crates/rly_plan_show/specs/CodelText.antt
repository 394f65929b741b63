-- What CoDel of a device does at the hops of a plan (docs/COMMANDS.md, "rly plan"): a line of the plan's neighbours if the
-- device has fewer, and then the lines of each hop with contacts.
use Rattle.std.specs.Prelude.{ℕ, ◌+◌, ◌-◌, ◌*◌, ◌/◌, ◌%◌, ◌^◌, ◌==◌, min, nat_le, nat_lt, Bool, ◌&&◌, not, List, [], ◌∷◌, ◌++◌}
use Rattle.std.specs.Prelude.{codes, length, Option, Some, None, if◌then◌else◌}
use Rattle.std.specs.Fmt.{decimal}
use Rattle.std.specs.List.{enumerate_from, flat_map}
use Rattle.rly_core.specs.declared.params.Params.{Params}
use Rattle.rly_plan.specs.ContactPlan.{ContactPlan}
use Rattle.rly_plan.specs.declared.plan.NextHop.{NextHop}

-- A backlog in bytes that is there when a contact opens, and is drained at a rate in bytes a second: after target and
-- interval, when CoDel would drop first, no more than maxpacket of it waits. No plan and device reach the bound of 64
-- bits.
unfoldable pub backlog : Params → ℕ → ℕ
backlog p rate = min (rate * (p.target + p.interval)) (2 ^ 64 - 1) / 1000000 + p.maxpacket

-- a time in microseconds, in milliseconds if they are whole
abbrev pub time_text : ℕ → List ℕ
time_text time = if time % 1000 == 0 then decimal (time / 1000) ++ codes " ms" else decimal time ++ codes " us"

-- the backlog of a hop whose rate is known
unfoldable pub carried_text : ℕ → List ℕ
carried_text most = codes ": a backlog above " ++ (decimal most ++ codes " bytes is dropped")

abbrev pub backlog_text : Params → Option ℕ → List ℕ
backlog_text p None = []
backlog_text p (Some rate) = carried_text (backlog p rate)

-- hop H: CoDel drops what waited more than T over V of open contact: a backlog above N bytes is dropped
abbrev pub rule_line : Params → ℕ × NextHop → List ℕ
rule_line p (id, hop) =
    codes "rly: hop " ++ decimal id ++ codes ": CoDel drops what waited more than " ++ time_text p.target
    ++ codes " over " ++ time_text p.interval ++ codes " of open contact" ++ backlog_text p hop.rate ++ 10 ∷ []

-- the parameters of CoDel are those of --keep-all
abbrev pub keeps_all : Params → Bool
keeps_all p = p.target == 3600000000 && p.interval == 3600000000 && p.maxpacket == 65535

-- a device that keeps all, with room for a backlog that it doesn't keep at a hop's rate
unfoldable pub keeps_less : Params → ℕ → Bool
keeps_less p rate = keeps_all p && nat_lt (backlog p rate) p.bytes

unfoldable pub kept_line : (id rate most bytes : ℕ) → List ℕ
kept_line id rate most bytes =
    codes "rly: hop " ++ (decimal id ++ (codes ": --keep-all keeps " ++ (decimal most
    ++ (codes " bytes at rate " ++ (decimal rate ++ (codes ", but the device has --bytes "
    ++ (decimal bytes ++ 10 ∷ [])))))))

abbrev pub bytes_line : Params → ℕ → Option ℕ → List ℕ
bytes_line p id None = []
bytes_line p id (Some rate) = if keeps_less p rate then kept_line id rate (backlog p rate) p.bytes else []

-- the lines of a hop, if it has contacts
abbrev pub hop_codel : Params → ℕ × NextHop → List ℕ
hop_codel p (id, hop) = if length hop.contacts == 0 then [] else rule_line p (id, hop) ++ bytes_line p id hop.rate

abbrev pub hops_codel : Params → List NextHop → List ℕ
hops_codel p hops = flat_map (hop_codel p) (enumerate_from 1 hops)

-- a device has room for the neighbours of a plan
unfoldable pub has_room : ContactPlan → Params → Bool
has_room plan p = nat_le (length plan.peers) p.peers && nat_le (length plan.hops) p.hops

-- all four numbers, if it hasn't
unfoldable pub lack_line : ContactPlan → Params → List ℕ
lack_line plan p =
    codes "rly: plan: " ++ (decimal (length plan.peers) ++ (codes " peers and " ++ (decimal (length plan.hops)
    ++ (codes " hops, but the device has --peers " ++ (decimal p.peers ++ (codes " and --hops "
    ++ (decimal p.hops ++ 10 ∷ [])))))))

abbrev pub room_line : ContactPlan → Params → List ℕ
room_line plan p = if has_room plan p then [] else lack_line plan p

-- the whole text
abbrev pub codel_text : ContactPlan → Params → List ℕ
codel_text plan p = room_line plan p ++ hops_codel p plan.hops
