-- Each packet that a peer's neighbour gives: Data 0, or the Data of the next number.
use Rattle.std.proofs.Common.{◌≡◌, ◌⊎◌, ⊎_elim, ◌≤◌, ◌<◌, ◌+◌, ◌∙◌, ap, arith, inl, inr, refl, ℕ, Bool, true, false, List, [], ◌∷◌, None, Some, Option, length}
use Rattle.std.proofs.lemmas.Bool.Decides.{nat_tests}
use Rattle.std.specs.Prelude.{if◌then◌else◌, nat_lt}
use Rattle.rly_folder.specs.FolderModel.{File, FolderState}
use Rattle.rly_folder.specs.Names.{name_of}
use Rattle.rly_folder.specs.declared.name.Area.TheVariants.{Sent}
use Rattle.rly_hop.specs.Spelling.{spelling}
use Rattle.rly_link_folder.specs.Inbox.{custody_of, inbox_folder, last_of}
use Rattle.rly_link_folder.specs.InboxCalls.{Reads}
use Rattle.rly_link_folder.specs.PeerData.{IsNumbered}
use Rattle.rly_link_folder.specs.PeerNeighbour.{EntersNext, FindsIn, Gives, GivesIf, GivesNumber, Peer, ServesIf}
use Rattle.rly_link_folder.specs.PeerNeighbour.{file_data, has_window, packet_read, payload_with, phase_read, question, sent_read}
use Rattle.rly_link_folder.specs.declared.phase.Phase.{Phase}
use Rattle.rly_link_folder.specs.declared.phase.Phase.TheVariants.{Apart, Asked, Asking, Failed, QuestionRefused, Refused, Serving}

nothing : {A : Type 0} (packet : List ℕ) → Some packet ≡ None → A
nothing packet e = absurd (cc)

-- a payload that was given isn't too long
given : (test : Bool) (size : ℕ) (packet spelled : List ℕ) → nat_lt 8192 size ≡ test
    → Some packet ≡ (if test then None else Some spelled) → (size ≤ 8192) × (packet ≡ spelled) × (nat_lt 8192 size ≡ false)
given true size packet spelled is some = nothing packet some
given false size packet spelled is some = (grind (arith, nat_tests, is), cc, is)

-- nothing that a Data depends on changed
pub record IsLike {F : Type 0} (old new : Peer F) : Type 0 where
  pub own : new.own ≡ old.own
  pub station : new.station ≡ old.station
  pub rules : new.rules ≡ old.rules
  pub limit : new.limit ≡ old.limit
  pub sent : new.sent ≡ old.sent
  pub custody : custody_of new.inbox ≡ custody_of old.inbox

module _ {F : Type 0} (state : F → FolderState) where
  finds_like : (places : List ℕ) (place : Option ℕ) (old found : Peer F) → FindsIn places state place old found → IsLike old found
  finds_like [] place old found lists = record {
    own = ap (λ (p : Peer F). p.own) lists.rest;
    station = ap (λ (p : Peer F). p.station) lists.rest;
    rules = ap (λ (p : Peer F). p.rules) lists.rest;
    limit = ap (λ (p : Peer F). p.limit) lists.rest;
    sent = ap (λ (p : Peer F). p.sent) lists.rest;
    custody = lists.numbers.custody;
  }
  finds_like (first ∷ others) place old found finds = record {
    own = ap (λ (p : Peer F). p.own) finds.1;
    station = ap (λ (p : Peer F). p.station) finds.1;
    rules = ap (λ (p : Peer F). p.rules) finds.1;
    limit = ap (λ (p : Peer F). p.limit) finds.1;
    sent = ap (λ (p : Peer F). p.sent) finds.1;
    custody = ap (λ (p : Peer F). custody_of p.inbox) finds.1;
  }

  enters_like : (number : ℕ) (old new : Peer F) → EntersNext state (Some number) old new → IsLike old new
  enters_like number old new = ⊎_elim
      (λ next. let like = finds_like old.places (Some next.1) old next.0 next.2 in ⊎_elim
      (λ enters. record {
        own = ap (λ (p : Peer F). p.own) enters.rest ∙ like.own;
        station = ap (λ (p : Peer F). p.station) enters.rest ∙ like.station;
        rules = ap (λ (p : Peer F). p.rules) enters.rest ∙ like.rules;
        limit = ap (λ (p : Peer F). p.limit) enters.rest ∙ like.limit;
        sent = ap (λ (p : Peer F). p.sent) enters.rest ∙ like.sent;
        custody = enters.custody ∙ like.custody;
      })
      (λ fails. let e : Some number ≡ None = fails.0 in absurd (cc)) next.3)
      (⊎_elim (λ none. let e : Some number ≡ None = none.0 in absurd (cc)) (λ fails. let e : Some number ≡ None = fails.0 in absurd (cc)))

  module _ (packet : List ℕ) (old new : Peer F) (within : old.sent + 1 ≤ custody_of old.inbox + old.window) where
    module _ (mid : Peer F) (like : IsLike old mid) where
      by_found : (found : Option File) → custody_of mid.inbox < mid.sent + 1 → mid.sent + 1 ≤ last_of mid.inbox
          → Reads state (name_of Sent (mid.sent + 1)) 8193 found (inbox_folder mid.inbox) (inbox_folder new.inbox)
          → Some packet ≡ packet_read mid found → custody_of new.inbox ≡ custody_of mid.inbox → last_of new.inbox ≡ last_of mid.inbox
          → new ≡ record mid { inbox = new.inbox; phase = phase_read mid found; sent = sent_read mid found }
          → IsNumbered state packet old new
      by_found None above durable reads is custody last rest = nothing packet is
      by_found (Some file) above durable reads is custody last rest =
          let size : ℕ = length (payload_with mid file.bytes) in
          let short = given (nat_lt 8192 size) size packet (spelling (file_data mid (mid.sent + 1) file)) refl is in
          let next : new.sent ≡ mid.sent + 1 = rw short.2 at (ap (λ (p : Peer F). p.sent) rest) in
          record {
            file = file;
            spelled = rw (← like.own, ← like.station, ← like.rules, ← like.limit, ← like.sent) short.1;
            above = omega (arith, above, custody, like.sent);
            durable = omega (arith, durable, last, like.sent);
            within = within;
            before = inbox_folder mid.inbox;
            reads = rw (← like.sent) reads;
            whole = rw like.rules at short.0;
            next = omega (arith, next, like.sent);
          }

      by_number : GivesNumber state (Some packet) mid new → IsNumbered state packet old new
      by_number = ⊎_elim
          (λ gives. by_found gives.found gives.above gives.durable gives.reads gives.packet_is gives.numbers.custody gives.numbers.last gives.rest)
          (λ fails. nothing packet fails.none)

    by_entry : (has : Bool) → GivesIf has state (Some packet) old new → IsNumbered state packet old new
    by_entry true = by_number old (record { own = refl; station = refl; rules = refl; limit = refl; sent = refl; custody = refl })
    by_entry false = ⊎_elim (λ on. by_number on.1 (enters_like on.0 old on.1 on.2) on.3) (λ none. nothing packet none.0)

  -- a number that is given follows those on their way, so it isn't behind the station's
  serves : (packet : List ℕ) (old new : Peer F) → custody_of old.inbox ≤ old.sent → (room : Bool) → has_window old ≡ room
      → ServesIf room state (Some packet) old new → IsNumbered state packet old new
  serves packet old new ordered true is gives = by_entry packet old new (grind (arith, nat_tests, is, ordered)) (nat_lt old.sent (last_of old.inbox)) gives
  serves packet old new ordered false is none = nothing packet none.0

  by_phase : (phase : Phase) (packet : List ℕ) (old new : Peer F) → custody_of old.inbox ≤ old.sent → Gives phase state (Some packet) old new
      → (packet ≡ spelling (question old)) ⊎ IsNumbered state packet old new
  by_phase Asking packet old new ordered asks = let e : Some packet ≡ Some (spelling (question old)) = asks.0 in inl cc
  by_phase Serving packet old new ordered gives = inr (serves packet old new ordered (has_window old) refl gives)
  by_phase Failed packet old new ordered none = nothing packet none.0
  by_phase Asked packet old new ordered none = nothing packet none.0
  by_phase (QuestionRefused refusal) packet old new ordered none = nothing packet none.0
  by_phase (Apart custody least greatest) packet old new ordered none = nothing packet none.0
  by_phase (Refused number refusal) packet old new ordered none = nothing packet none.0

  pub gives_law : (packet : List ℕ) (old new : Peer F) → custody_of old.inbox ≤ old.sent → Gives old.phase state (Some packet) old new
      → (packet ≡ spelling (question old)) ⊎ IsNumbered state packet old new
  gives_law packet old new ordered gives = by_phase old.phase packet old new ordered gives
