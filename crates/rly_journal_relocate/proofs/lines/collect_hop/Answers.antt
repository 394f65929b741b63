use Rattle.std.proofs.Common.{◌≡◌, ℕ, List, [], length, arith, sym, ap, subst, ◌∙◌}
use Rattle.std.specs.Prelude.{Err}
use Rattle.std.proofs.lemmas.List.{append-nil}
use Rattle.std.proofs.lemmas.Result.{err_from_is_err_and}
use Rattle.rly_disk.specs.Trace.{DeviceEvent}
use Rattle.rly_machine.specs.Kept.{hop_state}
use Rattle.rly_machine.specs.Map.{map_hop}
use Rattle.rly_machine.specs.State.{HopState, live_line}
use Rattle.rly_machine.specs.declared.hop.Item.{Item}
use Rattle.rly_segment_checkpoint.specs.declared.stored.Stored.{Stored}
use Rattle.rly_journal_relocate.specs.declared.fault.CollectionFault.TheVariants.{OutOfMemory}
use Rattle.rly_journal_relocate.specs.Collection.{IsCollection}
use Rattle.rly_journal_relocate.specs.HelpersCollection.{collected_in, items_in, items_reads, names, part_of}
use Rattle.rly_journal_relocate.proofs.Copies.{first_part, second_part}
use Rattle.rly_journal_relocate.proofs.Rows.{all_are_reads, flight_broken, hop_made, made_alone, queue_broken, still}
use Rattle.rly_journal_relocate.proofs.lines.collect_hop.Goals as goal

-- the copied parts are the two lists
flight_is : (h : HopState Stored) (n : ℕ) → n ≡ length h.flight → part_of h 0 n ≡ h.flight
flight_is h n is = ap (λ (k : ℕ). part_of h 0 k) is ∙ first_part h

queue_is : (h : HopState Stored) (n m : ℕ) → n ≡ length h.flight → m ≡ length h.queue → part_of h n m ≡ h.queue
queue_is h n m first second = ap (λ (k : ℕ). part_of h k m) first ∙ ap (λ (k : ℕ). part_of h (length h.flight) k) second ∙ second_part h

pub returns-in_err-flight-clause-trace : goal.returns-in_err-flight-clause-trace
returns-in_err-flight-clause-trace g c =
    let h = hop_state c.args.hop.now in
    let fl : c.len-in_flight.result ≡ length h.flight = omega (arith, c.len-in_flight.ensures) in
    let told = err_from_is_err_and c.from_residual.result c.from_residual.ensures.1 in
    rw (told.1, told.2)
    (flight_broken g.D.Disk.state c.args.geometry.now c.args.victim ℕ ℕ c.args.disk.now c.collect_items.new.disk h (part_of h 0 c.len-in_flight.result) c.in_err-flight.field-0.0
    (flight_is h c.len-in_flight.result fl) c.in_err-flight.ensures.trace)

pub returns-in_err-waiting-clause-trace : goal.returns-in_err-waiting-clause-trace
returns-in_err-waiting-clause-trace g c =
    let h = hop_state c.args.hop.now in
    let fl : c.len-in_flight.result ≡ length h.flight = omega (arith, c.len-in_flight.ensures) in
    let ql : c.len.result ≡ length h.queue = omega (arith, c.len.ensures.count) in
    let told = err_from_is_err_and c.from_residual-in_err-waiting.result c.from_residual-in_err-waiting.ensures.1 in
    rw (told.1, told.2)
    (queue_broken g.D.Disk.state c.args.geometry.now c.args.victim ℕ ℕ c.args.disk.now c.collect_items.new.disk c.collect_items-2.new.disk h
    (part_of h 0 c.len-in_flight.result) (part_of h c.len-in_flight.result c.len.result) c.in_err-waiting.field-0.0
    (flight_is h c.len-in_flight.result fl) (queue_is h c.len-in_flight.result c.len.result fl ql) c.in_ok-flight.ensures.trace c.in_err-waiting.ensures.trace)

pub returns-in_err-queue-clause-trace : goal.returns-in_err-queue-clause-trace
returns-in_err-queue-clause-trace g c =
    let h = hop_state c.args.hop.now in
    let fl : c.len-in_flight.result ≡ length h.flight = omega (arith, c.len-in_flight.ensures) in
    let ql : c.len.result ≡ length h.queue = omega (arith, c.len.ensures.count) in
    let reads : List DeviceEvent = items_reads c.args.geometry.now c.args.victim (live_line h) in
    let made = hop_made g.D.Disk.state c.args.geometry.now c.args.victim h (part_of h 0 c.len-in_flight.result) (part_of h c.len-in_flight.result c.len.result)
    (flight_is h c.len-in_flight.result fl) (queue_is h c.len-in_flight.result c.len.result fl ql) c.in_ok-flight.ensures.trace c.in_ok-waiting.ensures.trace in
    let told = err_from_is_err_and c.from_residual-in_err-queue.result c.from_residual-in_err-queue.ensures.1 in
    rw (told.1, told.2)
    (subst (λ (calls : List DeviceEvent). IsCollection {A = ℕ} g.D.Disk.state calls (Err OutOfMemory) c.args.disk.now c.collect_items-2.new.disk) (append-nil reads)
    (made_alone g.D.Disk.state ℕ c.args.disk.now c.collect_items-2.new.disk reads [] made))

pub returns-clause-drawn : goal.returns-clause-drawn
returns-clause-drawn g c image honest same =
    let G = c.args.geometry.now in
    let v = c.args.victim in
    let h = hop_state c.args.hop.now in
    let fl : c.len-in_flight.result ≡ length h.flight = omega (arith, c.len-in_flight.ensures) in
    let ql : c.len.result ≡ length h.queue = omega (arith, c.len.ensures.count) in
    let first : List (Item Stored) = part_of h 0 c.len-in_flight.result in
    let later = still g.D.Disk.state (items_reads G v first) (all_are_reads G v (names first)) c.in_ok-flight.ensures.trace honest (g.met.D.Disk.consistent c.args.disk.now honest) in
    let flight = c.from_vec.ensures.items ∙ c.in_ok-flight.ensures.drawn image honest same ∙ ap (items_in image G v) (flight_is h c.len-in_flight.result fl) in
    let queue = c.in_ok-queue.ensures.items ∙ c.in_ok-waiting.ensures.drawn image later.0 (same ∙ sym later.1) ∙ ap (items_in image G v) (queue_is h c.len-in_flight.result c.len.result fl ql) in
    let with_lines : List (Item Stored) → List (Item Stored) → HopState Stored = λ q f. record (map_hop (collected_in image G v) h) { queue = q; flight = f } in
    ap (λ (q : List (Item Stored)). with_lines q c.from_vec.result.items) queue ∙ ap (with_lines (items_in image G v h.queue)) flight

pub returns-clause-trace : goal.returns-clause-trace
returns-clause-trace g c =
    let h = hop_state c.args.hop.now in
    let fl : c.len-in_flight.result ≡ length h.flight = omega (arith, c.len-in_flight.ensures) in
    let ql : c.len.result ≡ length h.queue = omega (arith, c.len.ensures.count) in
    hop_made g.D.Disk.state c.args.geometry.now c.args.victim h (part_of h 0 c.len-in_flight.result) (part_of h c.len-in_flight.result c.len.result)
    (flight_is h c.len-in_flight.result fl) (queue_is h c.len-in_flight.result c.len.result fl ql) c.in_ok-flight.ensures.trace c.in_ok-waiting.ensures.trace
