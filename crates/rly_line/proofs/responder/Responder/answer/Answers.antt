use Rattle.std.proofs.Common.{◌∙◌, ap, arith}
use Rattle.rly_line.specs.EndViews.{names_of}
use Rattle.rly_line.specs.ResponderView.{ResponderView}
use Rattle.rly_line.proofs.ReplyHistories.{after_ok, may_ok, names_kept, seat_ok}
use Rattle.rly_line.proofs.responder.Responder.answer.Goals as goal

pub tell-requires-clause-seat : goal.tell-requires-clause-seat
tell-requires-clause-seat g c =
    let next = rw (← c.self.view_is) at c.requires.next in
    let answered = rw (← c.self.view_is) at c.requires.answered in
    seat_ok c.self.inside.line c.self.inside.story c.push.new.self c.args.batch.now.value c.args.answers c.self.invariant (omega (arith, c.expected_len-some.ensures.count, c.expected_len-some.ensures.some.0)) c.requires.whose c.requires.count next answered c.push.ensures

pub tell-requires-clause-may : goal.tell-requires-clause-may
tell-requires-clause-may g c =
    let next = rw (← c.self.view_is) at c.requires.next in
    let answered = rw (← c.self.view_is) at c.requires.answered in
    may_ok c.self.inside.line c.self.inside.story c.push.new.self c.args.batch.now.value c.args.answers c.self.invariant (omega (arith, c.expected_len-some.ensures.count, c.expected_len-some.ensures.some.0)) c.requires.whose c.requires.count next answered c.push.ensures

pub invariant_of-self : goal.invariant_of-self
invariant_of-self g c =
    let next = rw (← c.self.view_is) at c.requires.next in
    let answered = rw (← c.self.view_is) at c.requires.answered in
    after_ok c.self.inside.line c.self.inside.story c.push.new.self c.args.batch.now.value c.args.answers c.self.invariant (omega (arith, c.expected_len-some.ensures.count, c.expected_len-some.ensures.some.0)) c.requires.whose c.requires.count next answered c.push.ensures
    c.tell.new.self c.tell.result c.tell.ensures.of c.tell.ensures.taken c.tell.ensures.told

pub returns-clause-holds : goal.returns-clause-holds
returns-clause-holds g c =
    let next = rw (← c.self.view_is) at c.requires.next in
    let answered = rw (← c.self.view_is) at c.requires.answered in
    after_ok c.self.inside.line c.self.inside.story c.push.new.self c.args.batch.now.value c.args.answers c.self.invariant (omega (arith, c.expected_len-some.ensures.count, c.expected_len-some.ensures.some.0)) c.requires.whose c.requires.count next answered c.push.ensures
    c.tell.new.self c.tell.result c.tell.ensures.of c.tell.ensures.taken c.tell.ensures.told

pub returns-clause-names : goal.returns-clause-names
returns-clause-names g c =
    let next = rw (← c.self.view_is) at c.requires.next in
    let answered = rw (← c.self.view_is) at c.requires.answered in
    names_kept c.self.inside.line c.self.inside.story c.push.new.self c.args.batch.now.value c.args.answers c.self.invariant (omega (arith, c.expected_len-some.ensures.count, c.expected_len-some.ensures.some.0)) c.requires.whose c.requires.count next answered c.push.ensures
    c.tell.new.self c.tell.result c.tell.ensures.told ∙ ap (λ (r : ResponderView). names_of r.lines) c.self.view_is
