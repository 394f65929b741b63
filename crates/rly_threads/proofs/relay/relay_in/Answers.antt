use Rattle.std.proofs.Common.{◌≡◌, ◌∙◌, ◌⊎◌, List, Option, [], ap, arith, length, refl, rules, subst, sym, true, vec_capacity}
use Rattle.std.proofs.lemmas.Slice.Zip.{AllZip-long, length-zip}
use Rattle.rly_disk.specs.DiskModel.{HasFailed, Later}
use Rattle.rly_flush.specs.FlusherHistory.{FlusherState, IsServed, new_flusher}
use Rattle.rly_journal.specs.Journal.{JournalState}
use Rattle.rly_line.specs.EndViews.{names_of}
use Rattle.rly_line.specs.Replies.{ReplyId}
use Rattle.rly_threads.specs.HelpersCut.{AreSeatsOf}
use Rattle.rly_threads.proofs.Kept.{all_cut, all_told, are_seats, kept_through}
use Rattle.rly_threads.proofs.relay.relay_in.Goals as goal

pub serve_to_end-requires-clause-empty : goal.serve_to_end-requires-clause-empty
serve_to_end-requires-clause-empty g c =
    let count : c.len-2.result ≡ length c.args.posts.items = search rules in
    let none : c.in-Ok-with_capacity.ended.items ≡ [] = search rules in
    let room : vec_capacity c.in-Ok-with_capacity.ended ≡ length c.args.posts.items = c.in-Ok-with_capacity.ensures.exact ∙ count in
    let long = AllZip-long _ _ _ c.start_all-threads.ensures in
    let both = length-zip c.args.posts.items c.args.seats.items in
    (none, omega (arith, room, long, both))

-- its seats are of the queue at which its flusher begins
pub serve_to_end-requires-clause-seats : goal.serve_to_end-requires-clause-seats
serve_to_end-requires-clause-seats g c =
    let names : List (Option ReplyId) = names_of c.args.line_end.lines in
    subst (λ (f : FlusherState g.row.D.Denot). AreSeatsOf f.line.of (names_of f.line.lines) c.start_all-threads.result.items) (sym (c.with_gather-flusher.ensures ∙ c.in-Ok-new.ensures.begins))
    (are_seats _ _ _ c.args.line_end.of names c.args.posts.items c.args.seats.items c.start_all-threads.result.items c.start_all-threads.ensures c.requires.seats)

pub serve_to_end-requires-clause-stop_flag : goal.serve_to_end-requires-clause-stop_flag
serve_to_end-requires-clause-stop_flag g c = all_told _ _ _ _ refl _ _ c.start_all-threads.ensures

-- its flusher began with the journal, at the end of the line
pub returns-clause-end : goal.returns-clause-end
returns-clause-end g c =
    let end = c.serve_to_end.ensures in
    let served : IsServed g.D.Disk.state (new_flusher c.args.journal c.args.line_end) c.serve_to_end.result.finished.last.value =
    subst (λ f. IsServed g.D.Disk.state f c.serve_to_end.result.finished.last.value) (c.with_gather-flusher.ensures ∙ c.in-Ok-new.ensures.begins) end.served in
    record {
      broken = end.broken;
      broke = λ yes.
          subst (λ (j : JournalState g.row.D.Denot). (c.args.journal.broken ≡ true) ⊎ HasFailed (g.D.Disk.state c.args.journal.disk) (g.D.Disk.state j.disk)) end.left
          (served.rounds.broke (ap (λ (j : JournalState g.row.D.Denot). j.broken) end.left ∙ sym end.broken ∙ yes));
      served = served;
      left = end.left;
      closed = end.closed;
      worked =
          rw (sym c.params-params.ensures)
          (kept_through g.L.Link.heard g.L.Link.sent g.T.Turn.told g.T.Turn.endless g.W.Waker.woken _ _ _ _ _ _ _ _ c.start_all-threads.ensures end.joined);
      answered = end.answered;
      told = end.told;
      cut = all_cut g.L.Link.heard g.L.Link.sent g.T.Turn.told g.T.Turn.endless g.W.Waker.woken _ _ _ _ end.joined;
      complete = end.complete;
      later = subst (λ (j : JournalState g.row.D.Denot). Later (g.D.Disk.state c.args.journal.disk) (g.D.Disk.state j.disk)) end.left served.rounds.later;
    }
