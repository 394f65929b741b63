-- The effect of several reads or writes on known bytes.
use Rattle.std.proofs.Common.{◌≡◌, ℕ, ◌+◌, ◌≤◌, List, [], ◌++◌, length, take, drop, min, Option, Some, None, refl, sym, ◌∙◌, ap, arith, append_assoc, append-nil}
use Rattle.std.specs.Io.KnownBytes.{Appends, Keeps}
use Rattle.std.proofs.Math.Seq.{take-add, take-append-add}
use Rattle.std.proofs.lemmas.List.{take_min, take-append-le}
use Rattle.rly_daemon_reply.specs.Beginnings.{AppendsBeginning, BreaksOff}

pub appends_more : (a b c : Option (List ℕ)) (text : List ℕ) (written count : ℕ) → Appends a b (take written text) → Appends b c (take count (drop written text)) → Appends a c (take (written + count) text)
appends_more None b c text written count h k = tt
appends_more (Some xs) None c text written count h k = absurd h
appends_more (Some xs) (Some ys) None text written count h k = k
appends_more (Some xs) (Some ys) (Some zs) text written count h k =
    k ∙ rw h (append_assoc xs (take written text) (take count (drop written text))) ∙ ap (λ bs. xs ++ bs) (sym (take-add written count text))

pub begins_broken : (a b : Option (List ℕ)) (text : List ℕ) → BreaksOff a b text → AppendsBeginning a b text
begins_broken None b text h = tt
begins_broken (Some xs) None text h = absurd h.2
begins_broken (Some xs) (Some ys) text h = (h.0, h.2)

pub keeps_same : (a : Option (List ℕ)) → Keeps a a
keeps_same None = tt
keeps_same (Some xs) = refl

pub appends_none : (a : Option (List ℕ)) → Appends a a []
appends_none None = tt
appends_none (Some xs) = simp append-nil

pub appends_appends : (a b c : Option (List ℕ)) (x y : List ℕ) → Appends a b x → Appends b c y → Appends a c (x ++ y)
appends_appends None b c x y h k = tt
appends_appends (Some us) None c x y h k = absurd h
appends_appends (Some us) (Some vs) None x y h k = absurd k
appends_appends (Some us) (Some vs) (Some ws) x y h k =
    let regrouped : vs ++ y ≡ us ++ (x ++ y) = rw h (append_assoc us x y) in
    k ∙ regrouped

pub begins_kept : (a b : Option (List ℕ)) (text : List ℕ) → Keeps a b → AppendsBeginning a b text
begins_kept None b text h = tt
begins_kept (Some us) None text h = absurd h
begins_kept (Some us) (Some vs) text h = (0, h ∙ sym (append-nil us))

pub begins_more : (a b c : Option (List ℕ)) (front rest : List ℕ) → Appends a b front → AppendsBeginning b c rest → AppendsBeginning a c (front ++ rest)
begins_more None b c front rest h k = tt
begins_more (Some us) None c front rest h k = absurd h
begins_more (Some us) (Some vs) None front rest h k = absurd k
begins_more (Some us) (Some vs) (Some ws) front rest h k =
    let grown : vs ++ take k.0 rest ≡ us ++ take (length front + k.0) (front ++ rest) = rw (h, take-append-add front rest k.0) (append_assoc us front (take k.0 rest)) in
    (length front + k.0, k.1 ∙ grown)

pub begins_front : (a b : Option (List ℕ)) (front rest : List ℕ) → AppendsBeginning a b front → AppendsBeginning a b (front ++ rest)
begins_front None b front rest h = tt
begins_front (Some us) None front rest h = absurd h
begins_front (Some us) (Some vs) front rest h =
    let within : min h.0 (length front) ≤ length front = omega arith in
    let same : take h.0 front ≡ take (min h.0 (length front)) (front ++ rest) = sym (take-append-le (min h.0 (length front)) front rest within ∙ take_min h.0 front) in
    (min h.0 (length front), h.1 ∙ ap (λ zs. us ++ zs) same)
