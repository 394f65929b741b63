use Rattle.std.proofs.Common.{◌≡◌, ◌∙◌, ◌+◌, ◌-◌, ap, arith, length, subst, sym}
use Rattle.std.specs.List.{filter_map}
use Rattle.std.specs.Option.{option_map}
use Rattle.rly_hop.specs.Payloads.{out_action_bytes}
use Rattle.rly_threads_workers.specs.HelpersTurns.{HasNumbers, asks_in}
use Rattle.rly_threads_workers.specs.SenderTurns.{calls_from, core_count, named_ask, or_pick, sender_worker, turn_calls}
use Rattle.rly_threads_workers.proofs.Senders.{count_fits, length_asks, one_call_at_least, or_pick_is_call}
use Rattle.rly_threads_workers.proofs.sender.SenderWorker.list_action.Goals as goal

pub returns-clause-listed : goal.returns-clause-listed
returns-clause-listed c =
    let was = c.args.self.now in
    let w = sender_worker was.plan.now was.hop in
    let p = was.pacing in
    let again = c.args.calls.now.again.items in
    let action = option_map out_action_bytes c.args.action in
    let most = c.args.calls.now.most in
    let room = c.args.room in
    let listed = c.list.ensures in
    let calls = c.list.new.calls in
    let count = c.len-first.result + c.core_count.result in
    let first : c.len-first.result ≡ length again = c.len-first.ensures.value in
    let total : count ≡ length again + core_count (most - length again) (room - length again) p action =
    (λ i. first i + c.core_count.ensures.count i)
    ∙ (λ i. length again + core_count ((c.saturating_sub-most.ensures ∙ ap (λ n. most - n) first) i) ((c.saturating_sub.ensures ∙ ap (λ n. room - n) first) i) p action) in
    let named : out_action_bytes c.or_pick-calls.result ≡ or_pick action = c.or_pick-calls.ensures in
    let calls_are : calls_from again (out_action_bytes c.or_pick-calls.result) count ≡ turn_calls most room p again action = λ i. calls_from again (named i) (total i) in
    let each : length (asks_in calls) ≡ count =
    ap length listed.asks ∙ ap (λ n. length (filter_map (named_ask w c.args.now) (calls_from again n count))) named
    ∙ length_asks w c.args.now again (or_pick action) count (or_pick_is_call action) in
    let same_first : length calls.again.items ≡ length again = λ i. length (listed.same.again i).items in
    let number : length (asks_in calls) - length calls.again.items ≡ c.core_count.result = omega (arith, each, first, same_first) in
    let name : out_action_bytes calls.named ≡ or_pick action = (λ i. out_action_bytes (listed.same.named i)) ∙ named in
    record {
      room = listed.same.room;
      asks = listed.asks ∙ ap (filter_map (named_ask w c.args.now)) calls_are;
      each = sym calls_are ∙ (λ i. calls_from (sym listed.same.again i).items (out_action_bytes (sym listed.same.named i)) (sym each i));
      few = omega (arith, each, total, listed.same.most, count_fits most room p action (length again) (one_call_at_least c.args.calls.now c.requires.idle.room) c.requires.again);
      numbers = subst (λ n. HasNumbers n (length (asks_in calls) - length calls.again.items)) (sym name) (subst (HasNumbers (or_pick action)) (sym number) c.core_count.ensures.numbers);
      answers = listed.answers;
    }
