-- How reply text is kept pending and written, one text after the other.
use Rattle.std.proofs.Common.{◌≡◌, ℕ, List, [], ◌++◌, take, drop, IsOk, OnErr, OnOk, Option, Some, None, Result, Ok, Err, true≢false, sym, subst, ◌∙◌, ap, append_assoc, append-nil}
use Rattle.std.specs.Io.KnownBytes.{Appends}
use Rattle.std.proofs.lemmas.List.{take-append-drop}
use Rattle.rly_daemon_reply.specs.Beginnings.{AppendsBeginning}
use Rattle.rly_daemon_reply.proofs.Flows.{appends_appends, appends_none, begins_front, begins_more}
use Rattle.rly_daemon_lines.specs.HelpersOutflow.{Adds, AddsBeginning, LeavesBeginning, Outflow, outflow_of}

-- ---- one after the other

pub adds_none : (a : Outflow) → Adds a a []
adds_none a = ([], appends_none a.written, append-nil a.held)

pub adds_adds : (a b c : Outflow) (x y : List ℕ) → Adds a b x → Adds b c y → Adds a c (x ++ y)
adds_adds a b c x y h k =
    let first : a.held ++ (x ++ y) ≡ h.0 ++ (b.held ++ y) = sym (append_assoc a.held x y) ∙ ap (λ l. l ++ y) h.2 ∙ append_assoc h.0 b.held y in
    let more : h.0 ++ (b.held ++ y) ≡ (h.0 ++ k.0) ++ c.held = ap (λ l. h.0 ++ l) k.2 ∙ sym (append_assoc h.0 k.0 c.held) in
    (h.0 ++ k.0, appends_appends a.written b.written c.written h.0 k.0 h.1 k.1, first ∙ more)

pub adds_begins : (a b c : Outflow) (x y : List ℕ) → Adds a b x → AddsBeginning b c y → AddsBeginning a c (x ++ y)
adds_begins a b c x y h k =
    let first : a.held ++ (x ++ y) ≡ h.0 ++ (b.held ++ y) = sym (append_assoc a.held x y) ∙ ap (λ l. l ++ y) h.2 ∙ append_assoc h.0 b.held y in
    let more : h.0 ++ (b.held ++ y) ≡ (h.0 ++ k.0) ++ (c.held ++ k.1) = ap (λ l. h.0 ++ l) k.3 ∙ sym (append_assoc h.0 k.0 (c.held ++ k.1)) in
    (h.0 ++ k.0, k.1, appends_appends a.written b.written c.written h.0 k.0 h.1 k.2, first ∙ more)

-- a prefix of a front is one of the whole
pub begins_whole : (a b : Outflow) (front rest : List ℕ) → AddsBeginning a b front → AddsBeginning a b (front ++ rest)
begins_whole a b front rest h =
    let more : (h.0 ++ (b.held ++ h.1)) ++ rest ≡ h.0 ++ (b.held ++ (h.1 ++ rest)) =
    append_assoc h.0 (b.held ++ h.1) rest ∙ ap (λ l. h.0 ++ l) (append_assoc b.held h.1 rest) in
    (h.0, h.1 ++ rest, h.2, sym (append_assoc a.held front rest) ∙ ap (λ l. l ++ rest) h.3 ∙ more)

-- only a prefix of the pending text was written
pub begins_nothing : (a b : Outflow) (text : List ℕ) → AddsBeginning a b [] → AddsBeginning a b text
begins_nothing a b text h = begins_whole a b [] text h

pub begins_added : (a b : Outflow) (text : List ℕ) → Adds a b text → AddsBeginning a b text
begins_added a b text h = (h.0, [], h.1, h.2 ∙ ap (λ l. h.0 ++ l) (sym (append-nil b.held)))

-- some was written before the text was added, and some after that
pub adds_between : (a b c d : Outflow) (text : List ℕ) → Adds a b [] → Adds b c text → Adds c d [] → Adds a d text
adds_between a b c d text h k m = subst (λ l. Adds a d l) (append-nil text) (adds_adds a c d text [] (adds_adds a b c [] text h k) m)

pub begins_between : (a b c d : Outflow) (text : List ℕ) → Adds a b [] → Adds b c text → AddsBeginning c d [] → AddsBeginning a d text
begins_between a b c d text h k m = subst (λ l. AddsBeginning a d l) (append-nil text) (adds_begins a c d text [] (adds_adds a b c [] text h k) m)

-- ---- the pending text

-- a text is put after it
pub adds_held : (written : Option (List ℕ)) (held new text : List ℕ) → new ≡ held ++ text → Adds (outflow_of written held) (outflow_of written new) text
adds_held written held new text same = ([], appends_none written, sym same)

-- it was lost from some index on
pub begins_left : (written : Option (List ℕ)) (old new : List ℕ) → LeavesBeginning old new → AddsBeginning (outflow_of written old) (outflow_of written new) []
begins_left written old new h = ([], h.0, appends_none written, append-nil old ∙ h.1)

-- all of it was lost, and the text to be added
pub begins_lost : (written : Option (List ℕ)) (held new text : List ℕ) → new ≡ [] → AddsBeginning (outflow_of written held) (outflow_of written new) text
begins_lost written held new text none = ([], held ++ text, appends_none written, ap (λ l. l ++ (held ++ text)) (sym none))

-- a prefix of it was written, and none is pending
pub begins_written : (a b : Option (List ℕ)) (held new : List ℕ) → new ≡ [] → AppendsBeginning a b held → AddsBeginning (outflow_of a held) (outflow_of b new) []
begins_written None b held new none h = ([], held, tt, append-nil held ∙ ap (λ l. l ++ held) (sym none))
begins_written (Some xs) None held new none h = absurd h
begins_written (Some xs) (Some ys) held new none h =
    let parts : take h.0 held ++ (new ++ drop h.0 held) ≡ held = ap (λ l. take h.0 held ++ (l ++ drop h.0 held)) none ∙ take-append-drop h.0 held in
    (take h.0 held, drop h.0 held, h.1, append-nil held ∙ sym parts)

-- all pending text was written at the end
pub ends_written : (a b c : Option (List ℕ)) (held text : List ℕ) → Adds (outflow_of a []) (outflow_of b held) text → Appends b c held → Appends a c text
ends_written a b c held text h k = subst (λ l. Appends a c l) (sym h.2) (appends_appends a b c h.0 held h.1 k)

-- or a prefix of it
pub ends_begun : (a b c : Option (List ℕ)) (held text : List ℕ) → AddsBeginning (outflow_of a []) (outflow_of b held) text → AppendsBeginning b c held → AppendsBeginning a c text
ends_begun a b c held text h k = subst (λ l. AppendsBeginning a c l) (sym h.3) (begins_more a b c h.0 (held ++ h.1) h.2 (begins_front b c held h.1 k))

-- ---- a command and its final flush

pub both_ok : {T E P Q S : Type 0} (outcome result : Result T E) → OnOk result (IsOk outcome) → OnOk outcome P → OnOk result Q → (P → Q → S) → OnOk result S
both_ok (Ok done) (Ok ended) ok p q f = f p q
both_ok (Err fault) (Ok ended) ok p q f = absurd (true≢false (sym ok))
both_ok outcome (Err ended) ok p q f = tt

pub either_err : {T E P B Q S : Type 0} (outcome result : Result T E) → OnOk outcome P → OnErr outcome B → OnErr result Q → (P → B) → (B → Q → S) → OnErr result S
either_err outcome (Ok ended) p b q f h = tt
either_err (Ok done) (Err ended) p b q f h = h (f p) q
either_err (Err fault) (Err ended) p b q f h = h b q

-- a text that stays is a prefix of itself
pub left_alone : {A E : Type 0} → (text : List ℕ) (r : Result A E) → OnErr r (LeavesBeginning text text)
left_alone text (Ok x) = tt
left_alone text (Err e) = ([], sym (append-nil text))
