use Rattle.std.proofs.Common.{◌≡◌, ◌∙◌, ◌-◌, ◌++◌, ◌∷◌, [], ap, arith, length, subst, sym}
use Rattle.std.specs.List.{cons_option, filter_map}
use Rattle.std.proofs.lemmas.List.{append-nil}
use Rattle.rly_hop.specs.Payloads.{out_action_bytes}
use Rattle.rly_threads_workers.specs.HelpersTurns.{HasNumbers, IsSameTurn, answers_in, asks_in}
use Rattle.rly_threads_workers.specs.SenderTurns.{call_at, calls_from, named_ask, sender_worker}
use Rattle.rly_threads_workers.proofs.Senders.{asks_more, few_asks, has_fewer, same_turns}
use Rattle.rly_threads_workers.proofs.sender.SenderWorker.list.Goals as goal
use Rattle.rly_threads_workers.proofs.sender.SenderWorker.list.Goals.{in-Some, in_default}

pub at-requires : goal.at-requires
at-requires c =
    let same = c.loop-place.invariant.same in
    let was = c.args.calls.now in
    let first : length c.loop-place.calls.again.items ≡ length was.again.items = λ i. length (same.again i).items in
    has_fewer (out_action_bytes c.loop-place.calls.named) (c.args.count - length was.again.items) (c.loop-place.place - length c.loop-place.calls.again.items)
    (omega (arith, first, c.loop-place-test.true))
    (subst (λ n. HasNumbers n (c.args.count - length was.again.items)) (λ i. out_action_bytes (sym same.named i)) c.requires.numbers)

pub push-requires-clause-fewer : goal.push-requires-clause-fewer
push-requires-clause-fewer c =
    let before = c.loop-place.invariant in
    let w = sender_worker c.args.self.now.plan.now c.args.self.now.hop in
    omega (
      arith,
      ap length before.asks,
      few_asks w c.args.now c.args.calls.now.again.items (out_action_bytes c.args.calls.now.named) c.loop-place.place,
      c.loop-place-test.true,
      c.requires.few,
      before.same.most,
    )

pub loop-place-preserved : goal.loop-place-preserved
loop-place-preserved c =
    let before = c.loop-place.invariant in
    let w = sender_worker c.args.self.now.plan.now c.args.self.now.hop in
    let again = c.args.calls.now.again.items in
    let first = out_action_bytes c.args.calls.now.named in
    let listed = filter_map (named_ask w c.args.now) (calls_from again first c.loop-place.place) in
    let at : out_action_bytes c.at.result ≡ call_at again first c.loop-place.place =
    c.at.ensures ∙ (λ i. call_at (before.same.again i).items (out_action_bytes (before.same.named i)) c.loop-place.place) in
    let named : c.named_ask.result ≡ named_ask w c.args.now (call_at again first c.loop-place.place) = c.named_ask.ensures ∙ ap (named_ask w c.args.now) at in
    let more = asks_more w c.args.now again first c.loop-place.place in
    elim c.match-named_ask.branch [
      | in-Some x ↦
          let pushed = x.push.ensures in
          let to = x.calls-is in record {
            same = subst (IsSameTurn c.args.calls.now) (sym to) (same_turns c.args.calls.now c.loop-place.calls x.push.new.self before.same pushed.same);
            answers = ap answers_in to ∙ pushed.answers ∙ before.answers;
            asks = ap asks_in to ∙ pushed.asks ∙ ap (λ l. l ++ x.in-Some.ask ∷ []) before.asks
                ∙ ap (λ o. listed ++ cons_option o []) (sym x.in-Some.is ∙ named) ∙ sym more;
          }
      | in_default x ↦
          let to = x.calls-is in record {
            same = subst (IsSameTurn c.args.calls.now) (sym to) before.same;
            answers = ap answers_in to ∙ before.answers;
            asks = ap asks_in to ∙ before.asks ∙ sym (append-nil listed) ∙ ap (λ o. listed ++ cons_option o []) (sym x.in_default.is ∙ named) ∙ sym more;
          }
    ]
