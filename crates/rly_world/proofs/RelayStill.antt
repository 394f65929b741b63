-- The recovered content while the bytes of a segment without live payloads change, and a head that may be written
-- there.
use Rattle.std.proofs.Common.{◌≡◌, ◌∙◌, ℕ, List, arith, sym, subst, inl, inr}
use Rattle.std.proofs.lemmas.Bool.{cases_eq}
use Rattle.std.proofs.lemmas.List.Elements.{All-weaker}
use Rattle.rly_disk.specs.DiskModel.{SameOutside}
use Rattle.rly_machine.specs.Map.{payloads_of}
use Rattle.rly_machine.specs.State.{State}
use Rattle.rly_segment_checkpoint.specs.declared.stored.Stored.{Stored}
use Rattle.rly_gate.specs.Group.{IsClosed}
use Rattle.rly_reclaim.specs.Placed.{LiesElsewhere}
use Rattle.rly_segment.specs.Heads.{IsPassedOver, segment_place}
use Rattle.rly_journal.specs.UntouchedBytes.{IsHeadFor, IsUntouched, SamePayload}
use Rattle.rly_journal.specs.Recovery.{IsRecovery, Recovery, first_of, gate_of, state_in, stored_in}
use Rattle.rly_journal.proofs.Agreeing.{other_bytes, same_before}
use Rattle.rly_journal.proofs.Frame.{gate_above}
use Rattle.rly_journal.proofs.UntouchedBytes.{read_in, untouched}
use Rattle.rly_journal.proofs.Growing.{gate_of-within, long_segments, other_heads}
use Rattle.rly_journal.proofs.Inlining.{elsewhere_still, lies_still}

-- on another image the content is the same, except for the bytes of payloads that aren't live, and the head may be
-- written there too
pub record IsStill (x : Recovery) (segment : ℕ) (copy : State Stored) (image : List ℕ) : Type 0 where
  pub stands : IsRecovery image (read_in image x)
  pub state : state_in (read_in image x) ≡ state_in x
  pub head : IsHeadFor image (read_in image x) segment copy

module _ {old image : List ℕ} (x : Recovery) (segment : ℕ) (copy : State Stored) (stands : IsRecovery old x)
    (for : IsHeadFor old x segment copy)
    (outside : SameOutside (segment_place x.geometry segment) x.geometry.length old image)
    (closed : IsClosed image (segment_place x.geometry segment)) where
  -- the bytes that it recovers from lie outside the segment, whose head isn't newer while its gate is closed
  target_untouched : IsUntouched x old image
  target_untouched =
      let within = gate_of-within x stands.scanned in
      let above = gate_above (first_of x) x.groups in
      let own = other_bytes x.geometry x.segment segment for.other outside in
      record {
        header = same_before (segment_place x.geometry segment) x.geometry.length 0 64 (omega arith) outside;
        heads = λ t below apart. elim (cases_eq t segment) [
          | inl same ↦ subst (λ k. IsPassedOver x.geometry k old image) (sym same) (λ opened. absurd (closed opened))
          | inr differs ↦ other_heads x.geometry segment t (omega (arith, long_segments stands.scanned)) differs outside
        ];
        own = record {
          same_length = own.same_length;
          each = λ i low high. own.each i low (omega (arith, high, within));
        };
        gate = λ opened. stands.closed (sym (own.each (gate_of x) (omega (arith, above)) within) ∙ opened);
        payloads = All-weaker (LiesElsewhere x.geometry segment) (SamePayload old image) (λ p lies. lies_still x.geometry segment p lies outside)
            (payloads_of (stored_in x)) for.free;
      }

  pub stays_still : IsStill x segment copy image
  stays_still =
      let still = untouched x stands target_untouched in
      record {
        stands = still.0;
        state = still.1;
        head = record {
          there = for.there;
          other = for.other;
          free = for.free;
          sound = for.sound;
          head = for.head;
          placed = for.placed;
          small = for.small;
          same = elsewhere_still x.geometry segment copy for.placed.elsewhere outside ∙ for.same ∙ sym still.1;
        };
      }
