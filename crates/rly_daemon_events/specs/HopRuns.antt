-- What a reader of a hop's lines may rely on.
use Rattle.std.specs.Prelude.{◌≡◌, ◌≢◌, ⊤, ℕ, ◌+◌, ◌*◌, ◌<◌, ◌≤◌, Bool, true, false, List, [], ◌∷◌, ◌++◌, IfSome, Option, Some, None}
use Rattle.std.specs.List.{filter_map}
use Rattle.rly_daemon_events.specs.declared.hop_event.HopEvent.{HopEvent}
use Rattle.rly_daemon_events.specs.declared.hop_event.HopEvent.TheVariants.{Opens, Open, Busy, Idle, Closed}
use Rattle.rly_daemon_events.specs.declared.hop_look.HopLook.{HopLook}
use Rattle.rly_daemon_events.specs.HopEvents.{events_at, last_after}

-- the seconds are the least that are no shorter than these microseconds
pub record IsRoundedUp (seconds micros : ℕ) : Type 0 where
  pub long : micros ≤ seconds * 1000000
  pub short : seconds * 1000000 < micros + 1000000

-- the line is true: an opening that is announced is at most the lead away, and not now
abbrev pub IsTrueAt : HopLook → HopEvent → Type 0
IsTrueAt look (Opens seconds) = (look.is_open ≡ false)
    × IfSome look.left (λ left. (1 ≤ left) × (seconds ≤ look.lead) × IsRoundedUp seconds left)
IsTrueAt look Open = look.is_open ≡ true
IsTrueAt look Busy = (look.is_open ≡ true) × (look.is_resting ≡ false)
IsTrueAt look Idle = (look.is_open ≡ true) × (look.is_resting ≡ true)
IsTrueAt look Closed = look.is_open ≡ false

-- the last line says what is so: after `closed` alone, no opening is within the lead
abbrev pub IsTold : Option HopEvent → HopLook → Type 0
IsTold None look = ⊥
IsTold (Some (Opens seconds)) look = look.is_open ≡ false
IsTold (Some Open) look = (look.is_open ≡ true) × (look.is_resting ≡ false)
IsTold (Some Busy) look = (look.is_open ≡ true) × (look.is_resting ≡ false)
IsTold (Some Idle) look = (look.is_open ≡ true) × (look.is_resting ≡ true)
IsTold (Some Closed) look = (look.is_open ≡ false)
    × IfSome look.left (λ left. 1 ≤ left → look.lead * 1000000 < left)

-- the line may follow the last one: `idle` and `busy` only in an open time, and `opens in` once in a closed one
abbrev pub may_follow : Option HopEvent → HopEvent → Bool
may_follow None Open = true
may_follow None Closed = true
may_follow (Some Closed) (Opens seconds) = true
may_follow (Some Closed) Open = true
may_follow (Some (Opens seconds)) Open = true
may_follow (Some Open) Idle = true
may_follow (Some Open) Closed = true
may_follow (Some Idle) Busy = true
may_follow (Some Idle) Closed = true
may_follow (Some Busy) Idle = true
may_follow (Some Busy) Closed = true
may_follow _ _ = false

-- each line may follow the one before it, the first this one
abbrev pub FollowEachOther : Option HopEvent → List HopEvent → Type 0
FollowEachOther last [] = ⊤
FollowEachOther last (event ∷ events) = (may_follow last event ≡ true) × FollowEachOther (Some event) events

-- all lines of a hop that was looked at so, after this one
abbrev pub events_in : Option HopEvent → List HopLook → List HopEvent
events_in last [] = []
events_in last (look ∷ looks) = events_at last look ++ events_in (last_after last (events_at last look)) looks

-- whether the line says that the link opens or that it closes, if it says either
abbrev pub edge_in : HopEvent → Option Bool
edge_in Open = Some true
edge_in Closed = Some false
edge_in (Opens seconds) = None
edge_in Busy = None
edge_in Idle = None

-- the openings and closings among the lines, in order
abbrev pub edges_in : List HopEvent → List Bool
edges_in events = filter_map edge_in events

-- each is another than the one before it
abbrev pub Alternate : List Bool → Type 0
Alternate [] = ⊤
Alternate (x ∷ []) = ⊤
Alternate (x ∷ y ∷ rest) = (x ≢ y) × Alternate (y ∷ rest)
