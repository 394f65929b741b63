use Rattle.std.proofs.Common.{◌≡◌, ◌∙◌, ◌+◌, [], IfOk, ap, arith, length, length-append, rules, subst, sym}
use Rattle.std.specs.List.{zip}
use Rattle.std.specs.Vec.{vec_len}
use Rattle.rly_line.specs.EndViews.{ClosedView, names_of}
use Rattle.rly_line.specs.ResponderView.{IsAnsweredBy}
use Rattle.rly_line.specs.Seats.{Caller}
use Rattle.rly_line.proofs.Closing.{answered_by, as_many_names}
use Rattle.rly_line.proofs.Making.{callers_count}
use Rattle.rly_daemon_reporter.specs.ReporterRun.{HasReported}
use Rattle.rly_daemon_reporter.specs.ReporterAtSeat.{watch_view}
use Rattle.rly_daemon_reporter.proofs.LastSeat.{front_seats, is_last, last_seat, left_seat, seated_front}
use Rattle.rly_threads.specs.declared.relay.Relayed.{Relayed}
use Rattle.rly_threads.specs.Relay.{IsRelayEnd, IsRelayEndAt}
use Rattle.rly_threads.proofs.RelayEnds.{at_new_line, begun_new}
use Rattle.rly_daemon_reporter.proofs.reporter_at_seat.run_reported.Goals as goal

-- the queue has a seat for each worker, and one more
pub take_last-seat-requires : goal.take_last-seat-requires
take_last-seat-requires g c =
    let count : vec_len c.in-Ok.seats ≡ length c.in-Ok.seats.items = search rules in
    let all = ap length c.in-Ok.ensures.seats ∙ callers_count c.in-Ok.line_end.of 0 (names_of c.in-Ok.line_end.lines) ∙ as_many_names c.in-Ok.line_end.lines in
    omega (arith, count, all, c.in-Ok.ensures.count)

pub run_beside-relayed-requires-clause-work : goal.run_beside-relayed-requires-clause-work
run_beside-relayed-requires-clause-work g c κs within =
    let posts : c.len.result ≡ length c.args.posts.items = search rules in
    let all = ap length c.in-Ok.ensures.seats ∙ callers_count c.in-Ok.line_end.of 0 (names_of c.in-Ok.line_end.lines) ∙ as_many_names c.in-Ok.line_end.lines in
    let split = ap length c.take_last-seat.ensures.items ∙ length-append c.take_last-seat.new.self.items _ in
    record {
      each = omega (arith, posts, all, split, c.in-Ok.ensures.count);
      seats = front_seats c.in-Ok.line_end.of (names_of c.in-Ok.line_end.lines) _ _ _ c.in-Ok.ensures.seats c.take_last-seat.ensures.items;
      new = search (rules, c.in-Ok.ensures.end);
    }

-- the reporter left a seat of the queue
pub law_left-requires : goal.law_left-requires
law_left-requires g c =
    let Is : Relayed g.row.D.Denot g.row.L.Denot g.row.T.Denot g.row.K.Denot → Type 0 =
    IsRelayEndAt g.D.Disk.state g.L.Link.heard g.L.Link.sent g.T.Turn.told g.T.Turn.endless g.K.Waker.woken c.args.plan.now c.args.journal c.in-Ok.line_end (zip c.args.posts.items c.take_last-seat.new.self.items) in
    let end : Is c.in_ok-relayed.relayed = subst (λ o. IfOk o Is) c.in_ok-relayed.was c.run_beside-relayed.ensures.relayed.end in
    let first = last_seat c.in-Ok.line_end.of (names_of c.in-Ok.line_end.lines) _ _ _ c.in-Ok.ensures.seats c.take_last-seat.ensures.items in
    left_seat c.in-Ok.line_end c.in_ok-relayed.relayed.finished.last.value.line c.in_ok-relayed.relayed.finished.lines c.take_last-seat.result c.run_beside-relayed.result.output.1.seat
    c.run_beside-relayed.ensures.gives.1.asked end.served.rounds.of end.served.rounds.names end.closed first c.run_beside-relayed.ensures.gives.1.put

-- its line is a new one, with as many seats, and each worker had the seat of its place
pub returns-clause-end : goal.returns-clause-end
returns-clause-end g c =
    let Is : Relayed g.row.D.Denot g.row.L.Denot g.row.T.Denot g.row.K.Denot → Type 0 =
    IsRelayEndAt g.D.Disk.state g.L.Link.heard g.L.Link.sent g.T.Turn.told g.T.Turn.endless g.K.Waker.woken c.args.plan.now c.args.journal c.in-Ok.line_end (zip c.args.posts.items c.take_last-seat.new.self.items) in
    let end : Is c.in_ok-relayed.relayed = subst (λ o. IfOk o Is) c.in_ok-relayed.was c.run_beside-relayed.ensures.relayed.end in
    let made = c.in-Ok.ensures in
    let posts : c.len.result ≡ length c.args.posts.items = search rules in
    let many : length c.in-Ok.line_end.lines ≡ length c.args.posts.items + 1 = omega (arith, posts, made.count) in
    let room : c.in-Ok.line_end.capacity ≡ length c.args.posts.items + 1 = omega (arith, posts, made.capacity) in
    let all = ap length made.seats ∙ callers_count c.in-Ok.line_end.of 0 (names_of c.in-Ok.line_end.lines) ∙ as_many_names c.in-Ok.line_end.lines in
    let split = ap length c.take_last-seat.ensures.items ∙ length-append c.take_last-seat.new.self.items _ in
    let each : length c.take_last-seat.new.self.items ≡ length c.args.posts.items = omega (arith, posts, all, split, made.count) in
    let same = seated_front c.args.posts.items c.in-Ok.line_end.of (names_of c.in-Ok.line_end.lines) _ _ _ each made.seats c.take_last-seat.ensures.items in
    let closed = at_new_line c.in-Ok.line_end _ c.args.posts.items _ (begun_new c.in-Ok.line_end _ made.end room many) many same end in
    subst (λ (lines : ClosedView). IsRelayEnd g.D.Disk.state g.L.Link.heard g.L.Link.sent g.T.Turn.told g.T.Turn.endless g.K.Waker.woken c.args.plan.now c.args.journal (length c.args.posts.items + 1) c.args.posts.items
    (record c.in_ok-relayed.relayed { finished = record c.in_ok-relayed.relayed.finished { lines = lines } }))
    (sym c.law_left.ensures.same) closed

-- and the reporter the last
pub returns-clause-watched : goal.returns-clause-watched
returns-clause-watched g c =
    let Is : Relayed g.row.D.Denot g.row.L.Denot g.row.T.Denot g.row.K.Denot → Type 0 =
    IsRelayEndAt g.D.Disk.state g.L.Link.heard g.L.Link.sent g.T.Turn.told g.T.Turn.endless g.K.Waker.woken c.args.plan.now c.args.journal c.in-Ok.line_end (zip c.args.posts.items c.take_last-seat.new.self.items) in
    let end : Is c.in_ok-relayed.relayed = subst (λ o. IfOk o Is) c.in_ok-relayed.was c.run_beside-relayed.ensures.relayed.end in
    let gave = c.run_beside-relayed.ensures.gives.1 in
    let left = c.run_beside-relayed.result.output.1 in
    let back : c.run_beside-relayed.result.output.0.now ≡ c.writer-1.given.0 = sym c.take_back.ensures ∙ sym (c.writer-1.given.1 (sym c.run_beside-relayed.ensures.gives.0)) in (
      c.take_last-seat.result,
      is_last c.in-Ok.line_end c.in_ok-relayed.relayed.finished.last.value.line _ _ _ end.served.rounds.of end.served.rounds.names c.in-Ok.ensures.seats c.take_last-seat.ensures.items,
      record {
        asked = gave.asked;
        put = search (rules, gave.put, c.of-seat.ensures);
        reported =
            subst (λ (w : g.row.W.Denot). HasReported c.args.plan.now
            (watch_view g.P.ReportClock.told g.C.Counters.seen c.args.pace c.args.counters [])
            (watch_view g.P.ReportClock.told g.C.Counters.seen left.pace left.counters gave.asked)
            (g.W.Write.contents c.args.writer.now) (g.W.Write.contents w) left.end)
            back gave.reported;
      },
    )

pub returns-clause-known : goal.returns-clause-known
returns-clause-known g c =
    let Is : Relayed g.row.D.Denot g.row.L.Denot g.row.T.Denot g.row.K.Denot → Type 0 =
    IsRelayEndAt g.D.Disk.state g.L.Link.heard g.L.Link.sent g.T.Turn.told g.T.Turn.endless g.K.Waker.woken c.args.plan.now c.args.journal c.in-Ok.line_end (zip c.args.posts.items c.take_last-seat.new.self.items) in
    let end : Is c.in_ok-relayed.relayed = subst (λ o. IfOk o Is) c.in_ok-relayed.was c.run_beside-relayed.ensures.relayed.end in
    let first = last_seat c.in-Ok.line_end.of (names_of c.in-Ok.line_end.lines) _ _ _ c.in-Ok.ensures.seats c.take_last-seat.ensures.items in
    let its = left_seat c.in-Ok.line_end c.in_ok-relayed.relayed.finished.last.value.line c.in_ok-relayed.relayed.finished.lines c.take_last-seat.result c.run_beside-relayed.result.output.1.seat
    c.run_beside-relayed.ensures.gives.1.asked end.served.rounds.of end.served.rounds.names end.closed first c.run_beside-relayed.ensures.gives.1.put in
    subst (λ (seat : Caller). IsAnsweredBy c.in_ok-relayed.relayed.finished.last.value.line seat) (sym c.of-seat.ensures)
    (answered_by c.in_ok-relayed.relayed.finished.last.value.line c.in_ok-relayed.relayed.finished.lines c.run_beside-relayed.result.output.1.seat end.closed end.served.rounds.history.told its c.law_left.ensures.told)
