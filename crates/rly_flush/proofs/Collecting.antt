-- Batches are collected in order, and the one that doesn't fit is kept.
use Rattle.std.proofs.Common.{◌≡◌, ◌+◌, ◌<◌, ◌++◌, length, List, Option, None, Some, ap, sym, ◌∙◌, append_assoc, append-nil}
use Rattle.rly_machine.specs.declared.call.Call.{Call}
use Rattle.rly_line.specs.Batches.{BatchView, calls_in_batch, calls_put}
use Rattle.rly_line.specs.ResponderView.{ResponderView}
use Rattle.rly_flush.specs.HelpersFlusher.{AreCollected}

module _ {old mid new : ResponderView} {kept : Option BatchView} {calls : List Call} (b : BatchView) (so_far : AreCollected old mid kept None calls)
    (taken : new ≡ record mid { taken = mid.taken ++ calls_in_batch b }) where
  line : new ≡ record old { taken = old.taken ++ (so_far.came ++ calls_in_batch b) }
  line =
      taken ∙ ap (λ (r : ResponderView). record r { taken = r.taken ++ calls_in_batch b }) so_far.line
      ∙ ap (λ l. record old { taken = l }) (append_assoc old.taken so_far.came (calls_in_batch b))

  in_order : calls_put kept ++ (so_far.came ++ calls_in_batch b) ≡ calls ++ calls_in_batch b
  in_order =
      sym (append_assoc (calls_put kept) so_far.came (calls_in_batch b)) ∙ ap (λ l. l ++ calls_in_batch b) (so_far.in_turn ∙ append-nil calls)

  -- one more batch is of the round
  pub collected_more : AreCollected old new kept None (calls ++ calls_in_batch b)
  collected_more = record { came = so_far.came ++ calls_in_batch b; line = line; in_turn = in_order ∙ sym (append-nil (calls ++ calls_in_batch b)); full = tt }

  -- or it is kept
  pub collected_kept : 64 < length calls + length b.asks → AreCollected old new kept (Some b) calls
  collected_kept full = record { came = so_far.came ++ calls_in_batch b; line = line; in_turn = in_order; full = full }
