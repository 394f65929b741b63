-- The lines of a hop that is looked at again and again.
use Rattle.std.proofs.Common.{◌≡◌, ◌≢◌, Bool, true, false, List, [], ◌∷◌, ◌++◌, Option, Some, None, refl}
use Rattle.std.proofs.lemmas.Bool.{false≢true}
use Rattle.rly_daemon_events.specs.declared.hop_event.HopEvent.{HopEvent}
use Rattle.rly_daemon_events.specs.declared.hop_event.HopEvent.TheVariants.{Opens, Open, Busy, Idle, Closed}
use Rattle.rly_daemon_events.specs.declared.hop_look.HopLook.{HopLook}
use Rattle.rly_daemon_events.specs.HopEvents.{events_at, last_after, next_event, then_next, with_next}
use Rattle.rly_daemon_events.specs.HopRuns.{Alternate, FollowEachOther, edges_in, events_in}
use Rattle.rly_daemon_events.proofs.LineLaws.{next_may_follow}

follow_then : (look : HopLook) (first : HopEvent) (next : Option HopEvent) → next_event (Some first) look ≡ next → FollowEachOther (Some first) (then_next look next)
follow_then look first None is = tt
follow_then look first (Some second) is = (next_may_follow (Some first) look.is_open look.is_resting look.left look.lead second is, tt)

follow_with : (look : HopLook) (last next : Option HopEvent) → next_event last look ≡ next → FollowEachOther last (with_next look next)
follow_with look last None is = tt
follow_with look last (Some first) is =
    (next_may_follow last look.is_open look.is_resting look.left look.lead first is, follow_then look first (next_event (Some first) look) refl)

follow_more : (last : Option HopEvent) (front rest : List HopEvent) → FollowEachOther last front → FollowEachOther (last_after last front) rest → FollowEachOther last (front ++ rest)
follow_more last [] rest front_follow rest_follow = rest_follow
follow_more last (event ∷ front) rest front_follow rest_follow = (front_follow.0, follow_more (Some event) front rest front_follow.1 rest_follow)

pub all_follow : (last : Option HopEvent) (looks : List HopLook) → FollowEachOther last (events_in last looks)
all_follow last [] = tt
all_follow last (look ∷ looks) =
    follow_more last (events_at last look) (events_in (last_after last (events_at last look)) looks)
    (follow_with look last (next_event last look) refl) (all_follow (last_after last (events_at last look)) looks)

-- after a line of an open time the next edge closes, and after one of a closed time it opens
abbrev AlternateAfter : Option HopEvent → List Bool → Type 0
AlternateAfter None edges = Alternate edges
AlternateAfter (Some Open) edges = Alternate (true ∷ edges)
AlternateAfter (Some Busy) edges = Alternate (true ∷ edges)
AlternateAfter (Some Idle) edges = Alternate (true ∷ edges)
AlternateAfter (Some Closed) edges = Alternate (false ∷ edges)
AlternateAfter (Some (Opens seconds)) edges = Alternate (false ∷ edges)

opens : false ≢ true
opens = λ e. false≢true e

closes : true ≢ false
closes = λ e. let no : ⊥ = cc in no

pub alternate : (last : Option HopEvent) (events : List HopEvent) → FollowEachOther last events → AlternateAfter last (edges_in events)
alternate None [] follow = tt
alternate (Some Open) [] follow = tt
alternate (Some Busy) [] follow = tt
alternate (Some Idle) [] follow = tt
alternate (Some Closed) [] follow = tt
alternate (Some (Opens s)) [] follow = tt
alternate None (Open ∷ events) follow = alternate (Some Open) events follow.1
alternate None (Closed ∷ events) follow = alternate (Some Closed) events follow.1
alternate (Some Closed) (Opens s ∷ events) follow = alternate (Some (Opens s)) events follow.1
alternate (Some Closed) (Open ∷ events) follow = (opens, alternate (Some Open) events follow.1)
alternate (Some (Opens s)) (Open ∷ events) follow = (opens, alternate (Some Open) events follow.1)
alternate (Some Open) (Idle ∷ events) follow = alternate (Some Idle) events follow.1
alternate (Some Open) (Closed ∷ events) follow = (closes, alternate (Some Closed) events follow.1)
alternate (Some Idle) (Busy ∷ events) follow = alternate (Some Busy) events follow.1
alternate (Some Idle) (Closed ∷ events) follow = (closes, alternate (Some Closed) events follow.1)
alternate (Some Busy) (Idle ∷ events) follow = alternate (Some Idle) events follow.1
alternate (Some Busy) (Closed ∷ events) follow = (closes, alternate (Some Closed) events follow.1)
alternate None (Opens s ∷ events) follow = absurd (false≢true follow.0)
alternate None (Busy ∷ events) follow = absurd (false≢true follow.0)
alternate None (Idle ∷ events) follow = absurd (false≢true follow.0)
alternate (Some Closed) (Busy ∷ events) follow = absurd (false≢true follow.0)
alternate (Some Closed) (Idle ∷ events) follow = absurd (false≢true follow.0)
alternate (Some Closed) (Closed ∷ events) follow = absurd (false≢true follow.0)
alternate (Some (Opens s)) (Opens t ∷ events) follow = absurd (false≢true follow.0)
alternate (Some (Opens s)) (Busy ∷ events) follow = absurd (false≢true follow.0)
alternate (Some (Opens s)) (Idle ∷ events) follow = absurd (false≢true follow.0)
alternate (Some (Opens s)) (Closed ∷ events) follow = absurd (false≢true follow.0)
alternate (Some Open) (Opens s ∷ events) follow = absurd (false≢true follow.0)
alternate (Some Open) (Open ∷ events) follow = absurd (false≢true follow.0)
alternate (Some Open) (Busy ∷ events) follow = absurd (false≢true follow.0)
alternate (Some Idle) (Opens s ∷ events) follow = absurd (false≢true follow.0)
alternate (Some Idle) (Open ∷ events) follow = absurd (false≢true follow.0)
alternate (Some Idle) (Idle ∷ events) follow = absurd (false≢true follow.0)
alternate (Some Busy) (Opens s ∷ events) follow = absurd (false≢true follow.0)
alternate (Some Busy) (Open ∷ events) follow = absurd (false≢true follow.0)
alternate (Some Busy) (Busy ∷ events) follow = absurd (false≢true follow.0)
