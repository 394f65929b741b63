use Rattle.std.proofs.Common.{sym, ◌∙◌, ap, max}
use Rattle.std.proofs.lemmas.List.Sums.{prefix_len_passes, prefix_len_stops}
use Rattle.std.proofs.lemmas.Option.{get_or_from_slice_get, slice_get_within}
use Rattle.rly_machine.specs.Expiry.{expired_count, is_expired}
use Rattle.rly_machine.proofs.laws.law_expiry.Goals as goal

pub returns-clause-all : goal.returns-clause-all
returns-clause-all g c h now k item below at =
    let late = is_expired (max now h.moment) in
    ap late (sym (get_or_from_slice_get h.queue k item item at)) ∙ prefix_len_passes late h.queue k item below

pub returns-clause-ends : goal.returns-clause-ends
returns-clause-ends g c h now item at =
    let late = is_expired (max now h.moment) in
    ap late (sym (get_or_from_slice_get h.queue (expired_count h now) item item at))
    ∙ prefix_len_stops late h.queue item (slice_get_within h.queue (expired_count h now) item at)
