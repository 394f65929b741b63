-- The history of a link with a key grows with that of the link below.
use Rattle.std.proofs.Common.{◌≡◌, ℕ, Bool, true, false, cond, Option, Some, None, List, [], ◌∷◌, ◌++◌, refl, sym, ◌∙◌, ap, subst, map, filter, ◌+◌, ◌≤◌, length, take, arith, length-append}
use Rattle.std.proofs.Math.Seq.{take-append_seam}
use Rattle.rly_link_auth.proofs.Tags.{length-tag_of}
use Rattle.std.proofs.lemmas.Bool.{le-leb}
use Rattle.std.proofs.lemmas.Slice.Eq.{bytes_eq-Decides, slice_eq-Decides}
use Rattle.std.specs.Cmp.Lexicographic.{pointwise}
use Rattle.std.specs.Str.{bytes_eq}
use Rattle.rly_link_auth.specs.Keys.{Keys}
use Rattle.rly_link_auth.specs.Seal.{sealed_packet, tag_of}
use Rattle.rly_link_auth.specs.SealedLink.{SealedView, all_sealed, all_sent_with, given_if_sealed, is_short}
use Rattle.rly_link.specs.LinkHistory.{TellsMore}

-- the packets passed to the link below for one more packet
all_sealed-short : (key : List ℕ) (given : List (List ℕ)) (packet : List ℕ) → is_short packet ≡ true
    → all_sealed key (given ++ packet ∷ []) ≡ all_sealed key given ++ sealed_packet key packet ∷ []
all_sealed-short key [] packet h = rw h refl
all_sealed-short key (one ∷ given) packet h =
    elim (is_short one) as (λ b. map (sealed_packet key) (cond b (one ∷ filter is_short (given ++ packet ∷ [])) (filter is_short (given ++ packet ∷ [])))
    ≡ map (sealed_packet key) (cond b (one ∷ filter is_short given) (filter is_short given)) ++ sealed_packet key packet ∷ []) [
      | true ↦ ap (λ (rest : List (List ℕ)). sealed_packet key one ∷ rest) (all_sealed-short key given packet h)
      | false ↦ all_sealed-short key given packet h
    ]

same_packets : (xs ys : List (List ℕ)) → xs ≡ ys → pointwise bytes_eq xs ys ≡ true
same_packets xs ys e = (slice_eq-Decides bytes_eq-Decides xs ys (pointwise bytes_eq xs ys) refl).1 e

packets_same : (xs ys : List (List ℕ)) → pointwise bytes_eq xs ys ≡ true → xs ≡ ys
packets_same xs ys e = (slice_eq-Decides bytes_eq-Decides xs ys (pointwise bytes_eq xs ys) refl).0 e

tells_if : (is_sealed : Bool) (given : List (List ℕ)) (packet : List ℕ) (next : Option (List (List ℕ)))
    → (is_sealed ≡ true → next ≡ Some (given ++ packet ∷ []))
    → TellsMore (cond is_sealed (Some given) None) next (packet ∷ [])
tells_if true given packet next h = h refl
tells_if false given packet next h = tt

given_if-same : (keys : Keys) (given sent : List (List ℕ)) → sent ≡ all_sealed keys.first given → given_if_sealed keys given sent ≡ Some given
given_if-same keys given sent e = rw (same_packets sent (all_sealed keys.first given) e) refl

pub sent_more : (keys : Keys) (given : List (List ℕ)) (old new : Option (List (List ℕ))) (packet : List ℕ) → is_short packet ≡ true
    → TellsMore old new (sealed_packet keys.first packet ∷ [])
    → TellsMore (all_sent_with keys given old) (all_sent_with keys (given ++ packet ∷ []) new) (packet ∷ [])
sent_more keys given None new packet short told = tt
sent_more keys given (Some sent) new packet short told =
    tells_if (pointwise bytes_eq sent (all_sealed keys.first given)) given packet (all_sent_with keys (given ++ packet ∷ []) new) (λ e.
    ap (all_sent_with keys (given ++ packet ∷ [])) told
    ∙ given_if-same keys (given ++ packet ∷ []) (sent ++ sealed_packet keys.first packet ∷ [])
    (ap (λ (l : List (List ℕ)). l ++ sealed_packet keys.first packet ∷ []) (packets_same sent (all_sealed keys.first given) e)
    ∙ sym (all_sealed-short keys.first given packet short)))

-- the bytes written for a sealed packet are that packet
pub written_packet : (key packet rest : List ℕ) → take (length packet + 16) (sealed_packet key packet ++ rest) ≡ sealed_packet key packet
written_packet key packet rest =
    let len : length (sealed_packet key packet) ≡ length packet + 16 = omega (arith, length-append packet (tag_of key packet), length-tag_of key packet) in
    rw (← len) (take-append_seam (sealed_packet key packet) rest)

-- a link with a key records one packet more, after it passed the sealed form to the link below
pub sent_more_in : {L : Type 0} (sent : L → Option (List (List ℕ))) (view : SealedView L) (keys : Keys) (given more : List (List ℕ))
    (old new : Option (List (List ℕ))) (packet bytes : List ℕ)
    → keys ≡ view.keys → given ≡ view.given → old ≡ sent view.link → more ≡ given ++ packet ∷ [] → length packet ≤ 8300
    → bytes ≡ sealed_packet keys.first packet → TellsMore old new (bytes ∷ [])
    → TellsMore (all_sent_with view.keys view.given (sent view.link)) (all_sent_with keys more new) (packet ∷ [])
sent_more_in sent view keys given more old new packet bytes of_keys of_given of_old of_more fits of_bytes told =
    let P : List ℕ → Type 0 = λ b. TellsMore old new (b ∷ []) in
    let grown = sent_more keys given old new packet (le-leb _ _ fits) (subst P of_bytes told) in
    let Q : List (List ℕ) → Type 0 = λ m. TellsMore (all_sent_with keys given old) (all_sent_with keys m new) (packet ∷ []) in
    let as_more = subst Q (sym of_more) grown in
    let same : all_sent_with keys given old ≡ all_sent_with view.keys view.given (sent view.link) =
    ap (λ (k : Keys). all_sent_with k given old) of_keys
    ∙ ap (λ (g : List (List ℕ)). all_sent_with view.keys g old) of_given
    ∙ ap (λ (o : Option (List (List ℕ))). all_sent_with view.keys view.given o) of_old in
    let R : Option (List (List ℕ)) → Type 0 = λ s. TellsMore s (all_sent_with keys more new) (packet ∷ []) in
    subst R same as_more
