-- The room in the segment that is opened.
use Rattle.std.proofs.Common.{◌≡◌, ◌∙◌, ℕ, ◌+◌, ◌*◌, ◌-◌, ◌/◌, ◌<◌, ◌≤◌, List, length, sum, arith, slice_index, slice_set, sym, subst}
use Rattle.std.proofs.lemmas.List.{get_or-set_other, get_or-set_same, length-set}
use Rattle.rly_core.specs.Bounds.{IsIn}
use Rattle.rly_core.specs.declared.params.Geometry.{Geometry}
use Rattle.rly_reclaim.specs.SegmentChoice.{HasHeadRoom, IsFree, IsVictim}
use Rattle.rly_reclaim.specs.Room.{Fits}
use Rattle.rly_reclaim.proofs.Sums.{share_of_others, sum_of_others}

pub has_room : (g : Geometry) (live : List ℕ) (current free victim : ℕ) → IsIn 2 256 g.segments → Fits g
    → length live ≡ g.segments → sum live ≤ g.params.bytes → IsFree live current free → IsVictim live free victim → HasHeadRoom g live free victim
has_room g live current free victim segments fits all little opened moves =
    let m = slice_index live victim in
    let others : length live * m ≤ sum live + m = sum_of_others live free m moves.fewest in
    let most : g.segments * m ≤ g.params.bytes + m = omega (arith, subst (λ n. n * m ≤ sum live + m) all others, little) in
    let few : m ≤ g.params.bytes / (g.segments - 1) = share_of_others g.segments m g.params.bytes segments.0 most in
    let emptied = slice_set live victim 0 in
    let long : length emptied ≡ length live = length-set live victim 0 in
    record {
      few = few;
      room = λ by_place inline entries. omega (arith, few, fits, entries);
      next = record {
        there = subst (λ n. victim < n) (sym (length-set emptied free m ∙ long)) moves.there;
        other = moves.other;
        empty = get_or-set_other emptied free victim m 0 moves.other ∙ get_or-set_same live victim 0 0 moves.there;
      };
    }
