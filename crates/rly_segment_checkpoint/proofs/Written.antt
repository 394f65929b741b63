-- Entries and hops that were written in parts.
use Rattle.std.proofs.Common.{◌≡◌, ℕ, List, ◌++◌, length, refl, ap, ◌∙◌, append_assoc}
use Rattle.std.specs.List.{flat_map}
use Rattle.byteorder.specs.Endian.{big_bytes}
use Rattle.rly_machine.specs.declared.hop.Item.{Item}
use Rattle.rly_machine.specs.State.{HopState, live_line}
use Rattle.rly_segment_checkpoint.specs.Checkpoint.{codel_of, entry_spelled, hop_spelled, spelled_by}
use Rattle.rly_segment_checkpoint.specs.declared.head_form.HeadForm.{HeadForm}
use Rattle.rly_segment_checkpoint.specs.declared.head_form.HeadForm.TheVariants.{Second}

-- an entry that was written in two parts
pub entry_written : {P : Type 0} (len : P → ℕ) (form : HeadForm → P → List ℕ) (item : Item P) (head old middle new : List ℕ)
    → head ≡ big_bytes 6 item.id ++ big_bytes 7 item.stamp ++ big_bytes 5 item.limit ++ big_bytes 2 (len item.payload)
    → middle ≡ old ++ head → new ≡ middle ++ form Second item.payload → new ≡ old ++ entry_spelled len (spelled_by form Second) item
unfolding entry_spelled
entry_written len form item head old middle new is first last =
    last ∙ ap (λ (t : List ℕ). t ++ form Second item.payload) first ∙ append_assoc old head (form Second item.payload)
    ∙ ap (λ (t : List ℕ). old ++ (t ++ form Second item.payload)) is

four : (old a b c d : List ℕ) → old ++ a ++ b ++ c ++ d ≡ old ++ (a ++ b ++ c ++ d)
four old a b c d = simp append_assoc

counted : (m c t d r e f q : List ℕ) → m ++ c ++ (t ++ d ++ r ++ e ++ f ++ q) ≡ m ++ c ++ t ++ d ++ r ++ e ++ f ++ q
counted m c t d r e f q = simp append_assoc

-- the length of a hop's counts
pub counts_length : {P : Type 0} (h : HopState P) (counts : List ℕ)
    → counts ≡ big_bytes 6 h.taken ++ big_bytes 6 h.dropped ++ big_bytes 6 h.released ++ big_bytes 6 h.expired ++ big_bytes 2 (length h.flight) ++ big_bytes 4 (length h.queue)
    → length counts ≡ 30
counts_length h counts is = rw is refl

-- a hop that was written in four parts
pub hop_written : {P : Type 0} (len : P → ℕ) (form : HeadForm → P → List ℕ) (h : HopState P) (codel counts old o1 o2 o3 new : List ℕ)
    → codel ≡ codel_of Second h.codel
    → counts ≡ big_bytes 6 h.taken ++ big_bytes 6 h.dropped ++ big_bytes 6 h.released ++ big_bytes 6 h.expired ++ big_bytes 2 (length h.flight) ++ big_bytes 4 (length h.queue)
    → o1 ≡ old ++ big_bytes 7 h.moment → o2 ≡ o1 ++ codel → o3 ≡ o2 ++ counts → new ≡ o3 ++ flat_map (entry_spelled len (spelled_by form Second)) (live_line h)
    → new ≡ old ++ hop_spelled len (spelled_by form Second) h
unfolding hop_spelled
hop_written len form h codel counts old o1 o2 o3 new is_codel is_counts s1 s2 s3 s4 =
    let l : List ℕ = flat_map (entry_spelled len (spelled_by form Second)) (live_line h) in
    let m : List ℕ = big_bytes 7 h.moment in
    let all : new ≡ old ++ m ++ codel ++ counts ++ l =
    s4 ∙ ap (λ (t : List ℕ). t ++ l) (s3 ∙ ap (λ (t : List ℕ). t ++ counts) (s2 ∙ ap (λ (t : List ℕ). t ++ codel) s1)) in
    all ∙ four old m codel counts l
    ∙ ap (λ (t : List ℕ). old ++ (m ++ t ++ counts ++ l)) is_codel
    ∙ ap (λ (t : List ℕ). old ++ (m ++ codel_of Second h.codel ++ t ++ l)) is_counts
    ∙ ap (λ (t : List ℕ). old ++ (t ++ l)) (counted m (codel_of Second h.codel) (big_bytes 6 h.taken) (big_bytes 6 h.dropped) (big_bytes 6 h.released) (big_bytes 6 h.expired) (big_bytes 2 (length h.flight)) (big_bytes 4 (length h.queue)))
