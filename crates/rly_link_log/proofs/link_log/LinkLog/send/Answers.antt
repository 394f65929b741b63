use Rattle.std.proofs.Common.{rules, subst}
use Rattle.rly_link_log.specs.LinkLog.{HasCounted, first_cause, sent_after}
use Rattle.rly_link_log.proofs.link_log.LinkLog.send.Goals as goal

pub returns : goal.returns
returns c =
    let log = c.args.self.now in
    let seen = c.seen_in-seen.result in
    let cause = subst (λ k. HasCounted (record log { silence = c.first_cause-first.new.silence; sent = c.second_cause-second.new.sent }) c.count.new.self k c.args.now) c.first_cause-first.ensures.cause c.count.ensures in
    let sent = subst (λ s. HasCounted (record log { silence = c.first_cause-first.new.silence; sent = s }) c.count.new.self (first_cause log.silence log.heard seen c.args.now) c.args.now) c.second_cause-second.ensures.after cause in
    record {
      seen = seen;
      reads = search rules;
      between = c.count.new.self;
      first = subst (λ s. HasCounted (record log { silence = s; sent = sent_after log.sent seen }) c.count.new.self (first_cause log.silence log.heard seen c.args.now) c.args.now) c.first_cause-first.ensures.after sent;
      second = subst (λ k. HasCounted c.count.new.self c.count-2.new.self k c.args.now) c.second_cause-second.ensures.cause c.count-2.ensures;
    }
