-- What a relay leaves at the end of a new line.
use Rattle.std.proofs.Common.{◌≡◌, ◌∙◌, ℕ, List, Option, Bool, ap, length, sym, subst}
use Rattle.rly_core.specs.declared.ids.HopId.{HopId}
use Rattle.rly_disk.specs.DiskModel.{DiskState}
use Rattle.rly_journal.specs.Journal.{JournalState}
use Rattle.rly_line.specs.EndViews.{EndView, names_of}
use Rattle.rly_line.specs.Seats.{Caller}
use Rattle.rly_line.proofs.Closing.{as_many_names}
use Rattle.rly_plan.specs.ContactPlan.{ContactPlan}
use Rattle.rly_link.specs.LinkHistory.{Handed, Hearing}
use Rattle.rly_link.specs.declared.post.Post.{Post}
use Rattle.rly_threads.specs.declared.relay.Relayed.{Relayed}
use Rattle.rly_threads.specs.Relay.{IsRelayEnd, IsRelayEndAt, new_end, posts_with_seats}

-- the end of a line that was made with this number of seats, and with room for as many calls
pub begun_new : (line_end : EndView) (count : ℕ) → line_end ≡ record (new_end line_end.of (names_of line_end.lines)) { capacity = line_end.capacity }
    → line_end.capacity ≡ count → length line_end.lines ≡ count → line_end ≡ new_end line_end.of (names_of line_end.lines)
begun_new line_end count made room many =
    made ∙ ap (λ capacity. record (new_end line_end.of (names_of line_end.lines)) { capacity = capacity }) (room ∙ sym many ∙ sym (as_many_names line_end.lines))

-- what a relay leaves there, where each worker had the seat of its place
pub at_new_line : {D L T W : Type 0} {state : D → DiskState} {heard : L → Option (List Hearing)} {sent : L → Option (List (List ℕ))}
    {handed : T → Option (List Handed)} {endless : T → Bool} {woken : W → Option (List HopId)} {plan : ContactPlan} {journal : JournalState D}
    {relayed : Relayed D L T W} (line_end : EndView) (count : ℕ) (posts : List (Post L T W)) (given : List (Post L T W × Caller))
    → line_end ≡ new_end line_end.of (names_of line_end.lines) → length line_end.lines ≡ count
    → given ≡ posts_with_seats line_end.of (names_of line_end.lines) posts
    → IsRelayEndAt state heard sent handed endless woken plan journal line_end given relayed
    → IsRelayEnd state heard sent handed endless woken plan journal count posts relayed
at_new_line {D} {L} {T} {W} {state} {heard} {sent} {handed} {endless} {woken} {plan} {journal} {relayed} line_end count posts given begun many its end =
    let rounds = end.served.rounds in
    let names : length (names_of line_end.lines) ≡ count = as_many_names line_end.lines ∙ many in
    let left : posts_with_seats line_end.of (names_of line_end.lines) posts
    ≡ posts_with_seats relayed.finished.last.value.line.of (names_of relayed.finished.last.value.line.lines) posts =
    λ i. posts_with_seats (sym rounds.of i) (sym rounds.names i) posts in
    record {
      line = line_end.of;
      names = names_of line_end.lines;
      many = names;
      end = subst (λ (y : EndView × List (Post L T W × Caller)). IsRelayEndAt state heard sent handed endless woken plan journal y.0 y.1 relayed) (λ i. (begun i, (its ∙ left) i)) end;
      seats = sym (as_many_names relayed.finished.last.value.line.lines) ∙ ap length rounds.names ∙ names;
    }
