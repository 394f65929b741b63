use Rattle.std.proofs.Common.{◌≡◌, ℕ, List, [], ◌∷◌, ◌++◌, ◌+◌, ◌∙◌, ap, map, take, length}
use Rattle.std.proofs.lemmas.List.{map-append}
use Rattle.rly_link_auth.specs.Seal.{sealed_packet}
use Rattle.rly_link_auth.specs.SealedLink.{SealedView}
use Rattle.rly_link.specs.Memory.{log_bytes, sent_of}
use Rattle.rly_link_auth.proofs.SealedHistory.{sent_more_in, written_packet}
use Rattle.rly_link_auth.proofs.sealed.SealedLink.send.Goals as goal

pub returns-clause-sent : goal.returns-clause-sent
returns-clause-sent g c =
    let packet = c.args.packet.now in
    let key = c.self.inside.key.first in
    let out : take c.seal-count.result c.seal-count.new.out ≡ sealed_packet key packet =
    ap (λ (n : ℕ). take n c.seal-count.new.out) c.seal-count.ensures.length
    ∙ ap (take (length packet + 16)) c.seal-count.ensures.written
    ∙ written_packet key packet _ in
    sent_more_in g.L.Link.sent c.args.self.now c.self.inside.key (sent_of c.self.inside.given) _ _ _ packet _
    (ap (λ (v : SealedView _). v.keys) c.self.view_is)
    (ap (λ (v : SealedView _). v.given) c.self.view_is)
    (ap (λ (v : SealedView _). g.L.Link.sent v.link) c.self.view_is)
    (ap (λ items. map (λ e. log_bytes e.0) items) c.and-self-inside.ensures
    ∙ map-append (λ e. log_bytes e.0) c.self.inside.given.items _
    ∙ ap (λ (b : List ℕ). sent_of c.self.inside.given ++ b ∷ []) c.bytes_in.ensures)
    c.if-packet-gt-MAX_PACKET.false
    out
    c.send.ensures.sent
