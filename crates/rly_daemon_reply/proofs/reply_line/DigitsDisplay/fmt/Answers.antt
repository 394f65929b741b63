use Rattle.std.proofs.Common.{rules, ◌++◌, [], ◌∙◌, sym, append_assoc}
use Rattle.std.proofs.lemmas.Grind.{put_two}
use Rattle.hex.specs.Hex.{encode_lower, lower_digits}
use Rattle.rly_daemon_reply.proofs.Digits.{encode_both, encode_nil}
use Rattle.rly_daemon_reply.proofs.reply_line.DigitsDisplay.fmt.Goals as goal

pub loop-piece-init : goal.loop-piece-init
loop-piece-init g c = (search rules, [], search rules, λ plain. rw encode_nil (search rules))

pub loop-piece-preserved : goal.loop-piece-preserved
loop-piece-preserved g c =
    let front = c.loop-piece.invariant.1 in
    let piece = c.in-Some.piece.now in
    let rest = c.next.new.self.rest.now in
    let step = c.in-Some.ensures.steps in (
      step.0 ∙ c.loop-piece.invariant.0,
      front ++ piece,
      append_assoc front piece rest ∙ rw (← step.1.0) c.loop-piece.invariant.2,
      λ plain. put_two _ _ _ _ _ (encode_lower piece) _ (c.loop-piece.invariant.3 plain) (search rules) (sym (encode_both lower_digits front piece)),
    )
