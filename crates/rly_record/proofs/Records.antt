-- Reading inverts writing for records, in both directions.
use Rattle.std.proofs.Common.{◌≡◌, ℕ, zero, suc, ◌^◌, ◌-◌, ◌<◌, ◌≤◌, false, cond, eqb, List, [], ◌∷◌, ◌++◌, length, drop, Option, Some, None, refl, sym, ap, subst, ◌∙◌, append_assoc, arith, inl, inr}
use Rattle.std.proofs.lemmas.Bool.{eqb-true, ne_eqb}
use Rattle.std.proofs.lemmas.List.{drop_at, length-append}
use Rattle.byteorder.specs.Endian.{big_bytes}
use Rattle.rly_core.specs.declared.ids.HopId.{HopId}
use Rattle.rly_core.specs.declared.ids.PeerId.{PeerId}
use Rattle.rly_machine.specs.declared.command.Command.{Command}
use Rattle.rly_machine.specs.declared.command.Command.TheVariants.{Take, Pick, Release}
use Rattle.rly_record.specs.declared.decode_fault.DecodeFault.{DecodeFault}
use Rattle.rly_record.specs.declared.decode_fault.DecodeFault.TheVariants.{OutOfMemory, Malformed}
use Rattle.rly_record.specs.Spelling.{limited_take_of, plain_take_of, record_of, record_length, CarriesBytes, HasRecord}
use Rattle.rly_record.specs.HelpersReader.{◌⊗◌, Fails, Reader, field_at, limit_at, made_at, payload_at, take_at, pick_at, release_at, limited_take_at, command_at}
use Rattle.rly_record.proofs.Fields.{IsBytes, IsBytes-rest, bind_some, bind_is, chosen, guard_some, some_is, Takes, wide_5, number_again, number_takes, payload_takes, payload_again}
use Rattle.rly_record.proofs.Readers.{Reads, u8_reads, u16_reads, u48_reads, u56_reads, u64_reads, pair_reads}

-- the result of reading a record: the command and the bytes after it
abbrev pub Found : Type 0
Found = Command (List ℕ) × List ℕ

-- a record of a kind is read by the parser of its fields
fields_take : {A : Type 0} {read : Reader A} {s : A → List ℕ} {F : A → Type 0} (kind : ℕ) (made : A → Command (List ℕ))
    → Reads read s F → ((a : A) → F a → kind ∷ s a ≡ record_of (made a)) → ((a : A) → F a → HasRecord (made a))
    → (bytes : List ℕ) (x : Found) → IsBytes bytes → made_at made read bytes ≡ Some x → Takes (kind ∷ bytes) (record_of x.0) x.1 × HasRecord x.0
fields_take {A} {read} kind made reads spelled has bytes x fits e =
    let a = bind_some (read bytes) (λ (y : A × List ℕ). Some (made y.0, y.1)) x e in
    let t = reads.takes bytes a.0.0 a.0.1 fits a.1 in
    subst (λ (y : Found). Takes (kind ∷ bytes) (record_of y.0) y.1 × HasRecord y.0) (some_is (made a.0.0, a.0.1) x a.2)
    (record { parts = ap (λ (l : List ℕ). kind ∷ l) t.0.parts ∙ ap (λ (l : List ℕ). l ++ a.0.1) (spelled a.0.0 t.1); rest_fits = t.0.rest_fits }, has a.0.0 t.1)

fields_again : {A : Type 0} {read : Reader A} {s : A → List ℕ} {F : A → Type 0} (made : A → Command (List ℕ))
    → Reads read s F → (a : A) (rest : List ℕ) → F a → made_at made read (s a ++ rest) ≡ Some (made a, rest)
fields_again {A} {read} {s} made reads a rest fits =
    bind_is (read (s a ++ rest)) (a, rest) (λ (y : A × List ℕ). Some (made y.0, y.1)) (Some (made a, rest)) (reads.again a rest fits) refl

payload_reads : Reads payload_at (λ payload. big_bytes 2 (length payload) ++ payload) (λ payload. length payload ≤ 8192)
payload_reads = record {
  takes = payload_takes;
  again = λ payload rest short. ap payload_at (append_assoc (big_bytes 2 (length payload)) payload rest) ∙ payload_again payload rest short;
}

-- the numbers and the payload of a Take
abbrev TakeFields : Type 0
TakeFields = ℕ × (ℕ × (ℕ × (ℕ × List ℕ)))

abbrev take_made : TakeFields → Command (List ℕ)
take_made x = Take (record { 0 = x.0 }) x.1.0 (record { 0 = x.1.1.0 }) x.1.1.1.0 0 x.1.1.1.1

-- and of a Take with a limit
abbrev LimitedFields : Type 0
LimitedFields = ℕ × (ℕ × (ℕ × (ℕ × (ℕ × List ℕ))))

abbrev limited_made : LimitedFields → Command (List ℕ)
limited_made x = Take (record { 0 = x.0 }) x.1.0 (record { 0 = x.1.1.0 }) x.1.1.1.0 x.1.1.1.1.0 x.1.1.1.1.1

positive : (n : ℕ) → eqb n 0 ≡ false → 0 < n
positive zero e = absurd cc
positive (suc n) e = omega arith

-- a limit that isn't 0 is read
limit_takes : (bytes : List ℕ) (limit : ℕ) (rest : List ℕ) → IsBytes bytes → limit_at bytes ≡ Some (limit, rest)
    → Takes bytes (big_bytes 5 limit) rest × ((0 < limit) × (limit < 256 ^ 5))
unfolding limit_at
limit_takes bytes limit rest fits e =
    let a = bind_some (field_at 5 bytes) (λ (found : ℕ × List ℕ). cond (eqb found.0 0) None (Some found)) (limit, rest) e in
    let g = guard_some (eqb a.0.0 0) a.0 (limit, rest) a.2 in
    let t = number_takes 5 wide_5 bytes a.0.0 a.0.1 fits a.1 in
    subst (λ (x : ℕ × List ℕ). Takes bytes (big_bytes 5 x.0) x.1 × ((0 < x.0) × (x.0 < 256 ^ 5))) g.1 (t.0, (positive a.0.0 g.0, t.1))

limit_again : (limit : ℕ) (rest : List ℕ) → (0 < limit) × (limit < 256 ^ 5) → limit_at (big_bytes 5 limit ++ rest) ≡ Some (limit, rest)
unfolding limit_at
limit_again limit rest fits =
    bind_is (field_at 5 (big_bytes 5 limit ++ rest)) (limit, rest) (λ (found : ℕ × List ℕ). cond (eqb found.0 0) None (Some found)) (Some (limit, rest))
    (number_again 5 limit rest fits.1) (rw (ne_eqb limit 0 (λ none. omega (arith, fits.0))) refl)

limit_reads : Reads limit_at (big_bytes 5) (λ n. (0 < n) × (n < 256 ^ 5))
limit_reads = record { takes = limit_takes; again = limit_again }

-- the fields of a Take with a limit: their parser, their encoding, and that they fit
abbrev limited_fields_at : Reader LimitedFields
limited_fields_at = field_at 1 ⊗ field_at 6 ⊗ field_at 1 ⊗ field_at 7 ⊗ limit_at ⊗ payload_at

abbrev limited_text : LimitedFields → List ℕ
limited_text x =
    big_bytes 1 x.0 ++ big_bytes 6 x.1.0 ++ big_bytes 1 x.1.1.0 ++ big_bytes 7 x.1.1.1.0 ++ big_bytes 5 x.1.1.1.1.0
    ++ big_bytes 2 (length x.1.1.1.1.1) ++ x.1.1.1.1.1

abbrev LimitedFit : LimitedFields → Type 0
LimitedFit x =
    (x.0 < 256 ^ 1) × ((x.1.0 < 256 ^ 6) × ((x.1.1.0 < 256 ^ 1) × ((x.1.1.1.0 < 256 ^ 7) × (((0 < x.1.1.1.1.0) × (x.1.1.1.1.0 < 256 ^ 5))
    × (length x.1.1.1.1.1 ≤ 8192)))))

limited_reads : Reads limited_fields_at limited_text LimitedFit
limited_reads = pair_reads u8_reads (pair_reads u48_reads (pair_reads u8_reads (pair_reads u56_reads (pair_reads limit_reads payload_reads))))

-- a Take with a limit has the record of that kind
pub limited_record : (peer : PeerId) (number : ℕ) (hop : HopId) (stamp limit : ℕ) (payload : List ℕ) → 0 < limit
    → limited_take_of peer number hop stamp limit payload ≡ record_of (Take peer number hop stamp limit payload)
unfolding record_of
limited_record peer number hop stamp zero payload above = absurd (omega (arith, above))
limited_record peer number hop stamp (suc limit) payload above = refl

limited_spelled : (x : LimitedFields) → LimitedFit x → 5 ∷ limited_text x ≡ record_of (limited_made x)
unfolding limited_take_of
limited_spelled x fit = limited_record (record { 0 = x.0 }) x.1.0 (record { 0 = x.1.1.0 }) x.1.1.1.0 x.1.1.1.1.0 x.1.1.1.1.1 fit.1.1.1.1.0.0

limited_has : (x : LimitedFields) → LimitedFit x → HasRecord (limited_made x)
limited_has x fit = (
  omega (arith, fit.0),
  omega (arith, fit.1.0),
  omega (arith, fit.1.1.0),
  omega (arith, fit.1.1.1.0),
  fit.1.1.1.1.1,
  λ above. record { peer = fit.0; number = fit.1.0; hop = fit.1.1.0; stamp = fit.1.1.1.0; limit = fit.1.1.1.1.0.1 },
)

abbrev pick_made : ℕ × ℕ → Command (List ℕ)
pick_made x = Pick (record { 0 = x.0 }) x.1

abbrev release_made : ℕ × ℕ → Command (List ℕ)
release_made x = Release (record { 0 = x.0 }) x.1

pub command_takes : (bytes : List ℕ) (x : Found) → IsBytes bytes → command_at bytes ≡ Some x → Takes bytes (record_of x.0) x.1 × HasRecord x.0
unfolding command_at take_at pick_at release_at limited_take_at record_of plain_take_of
command_takes [] x fits e = absurd cc
command_takes (kind ∷ bytes) x fits e =
    let rest-fits = IsBytes-rest kind bytes fits in
    let P : ℕ → Type 0 = λ k. Takes (k ∷ bytes) (record_of x.0) x.1 × HasRecord x.0 in
    elim (chosen (eqb kind 1) (take_at bytes) (cond (eqb kind 2) (pick_at bytes) (cond (eqb kind 3) (release_at bytes) (cond (eqb kind 5) (limited_take_at bytes) None))) (Some x) e) [
      | inl taken ↦ subst P (sym (eqb-true _ _ taken.0)) (fields_take 1 take_made (pair_reads u16_reads (pair_reads u64_reads (pair_reads u16_reads (pair_reads u64_reads payload_reads)))) (λ a has. refl) (λ a h. (h.0, h.1.0, h.1.1.0, h.1.1.1.0, h.1.1.1.1, λ above. absurd (omega (arith, above)))) bytes x rest-fits taken.1)
      | inr others ↦ elim (chosen (eqb kind 2) (pick_at bytes) (cond (eqb kind 3) (release_at bytes) (cond (eqb kind 5) (limited_take_at bytes) None)) (Some x) others.1) [
        | inl picked ↦ subst P (sym (eqb-true _ _ picked.0)) (fields_take 2 pick_made (pair_reads u16_reads u64_reads) (λ a has. refl) (λ a has. has) bytes x rest-fits picked.1)
        | inr last ↦ elim (chosen (eqb kind 3) (release_at bytes) (cond (eqb kind 5) (limited_take_at bytes) None) (Some x) last.1) [
          | inl released ↦ subst P (sym (eqb-true _ _ released.0)) (fields_take 3 release_made (pair_reads u16_reads u64_reads) (λ a has. refl) (λ a has. has) bytes x rest-fits released.1)
          | inr limits ↦ elim (chosen (eqb kind 5) (limited_take_at bytes) None (Some x) limits.1) [
            | inl limited ↦ subst P (sym (eqb-true _ _ limited.0)) (fields_take 5 limited_made limited_reads limited_spelled limited_has bytes x rest-fits limited.1)
            | inr none ↦ let no : None ≡ Some x = none.1 in absurd cc
          ]
        ]
      ]
    ]

pub command_again : (command : Command (List ℕ)) (rest : List ℕ) → HasRecord command → command_at (record_of command ++ rest) ≡ Some (command, rest)
unfolding record_of plain_take_of limited_take_of command_at take_at pick_at release_at limited_take_at
command_again (Take peer number hop stamp zero payload) rest fits =
    fields_again take_made (pair_reads u16_reads (pair_reads u64_reads (pair_reads u16_reads (pair_reads u64_reads payload_reads)))) (peer.0, (number, (hop.0, (stamp, payload)))) rest (fits.0, (fits.1, (fits.2, (fits.3, fits.4))))
command_again (Take peer number hop stamp (suc limit) payload) rest fits =
    let numbers = fits.5 (omega arith) in
    fields_again limited_made limited_reads (peer.0, (number, (hop.0, (stamp, (suc limit, payload))))) rest
    (numbers.peer, (numbers.number, (numbers.hop, (numbers.stamp, ((omega arith, numbers.limit), fits.4)))))
command_again (Pick hop now) rest fits = fields_again pick_made (pair_reads u16_reads u64_reads) (hop.0, now) rest fits
command_again (Release hop number) rest fits = fields_again release_made (pair_reads u16_reads u64_reads) (hop.0, number) rest fits

-- the command that is kept of one that was read
pub kept_found : (bytes : List ℕ) (read kept : Command (List ℕ)) (rest : List ℕ) → command_at bytes ≡ Some (read, rest) → kept ≡ read → command_at bytes ≡ Some (kept, rest)
kept_found bytes read kept rest found same = found ∙ ap (λ (command : Command (List ℕ)). Some (command, rest)) (sym same)

-- a payload that exists
pub bytes_spelled : (bytes : List ℕ) (x : Found) → IsBytes bytes → command_at bytes ≡ Some x → CarriesBytes x.0
    → (command : Command (List ℕ)) × (rest : List ℕ) × CarriesBytes command × HasRecord command × (bytes ≡ record_of command ++ rest)
bytes_spelled bytes x fits found is =
    let t = command_takes bytes x fits found in
    (x.0, x.1, is, t.1, t.0.parts)

-- two parses of the same bytes are equal
pub one_reading : {A : Type 0} (read : List ℕ → Option (A × List ℕ)) (s t : List ℕ) (a b : A) (x y : List ℕ) → s ≡ t → read s ≡ Some (a, x) → read t ≡ Some (b, y) → (a ≡ b) × (x ≡ y)
one_reading {A = A} read s t a b x y same first second =
    let both : (a, x) ≡ (b, y) = some_is (a, x) (b, y) (sym first ∙ ap read same ∙ second) in
    (ap (λ (p : A × List ℕ). p.0) both, ap (λ (p : A × List ℕ). p.1) both)

pub record_once : (a b : Command (List ℕ)) (x y : List ℕ) → HasRecord a → HasRecord b → record_of a ++ x ≡ record_of b ++ y → (a ≡ b) × (x ≡ y)
record_once a b x y fits_a fits_b same = one_reading command_at (record_of a ++ x) (record_of b ++ y) a b x y same (command_again a x fits_a) (command_again b y fits_b)

pub length-record_of : (command : Command (List ℕ)) → length (record_of command) ≡ record_length length command
unfolding record_of plain_take_of limited_take_of
length-record_of (Take peer number hop stamp zero payload) = omega arith
length-record_of (Take peer number hop stamp (suc limit) payload) = omega arith
length-record_of (Pick hop now) = refl
length-record_of (Release hop number) = refl

-- the front of a Take's record and its payload, without a limit and with one
pub plain_front : (peer : PeerId) (number : ℕ) (hop : HopId) (stamp limit size : ℕ) (payload front : List ℕ) → limit ≡ 0 → length payload ≡ size
    → front ≡ 1 ∷ big_bytes 2 peer.0 ++ big_bytes 8 number ++ big_bytes 2 hop.0 ++ big_bytes 8 stamp ++ big_bytes 2 size
    → front ++ payload ≡ record_of (Take peer number hop stamp limit payload)
unfolding record_of plain_take_of
plain_front peer number hop stamp zero size payload front none long is =
    ap (λ (t : List ℕ). t ++ payload) is
    ∙ ap (λ (n : ℕ). (1 ∷ big_bytes 2 peer.0 ++ big_bytes 8 number ++ big_bytes 2 hop.0 ++ big_bytes 8 stamp ++ big_bytes 2 n) ++ payload) (sym long)
plain_front peer number hop stamp (suc limit) size payload front none long is = absurd (omega (arith, none))

pub limited_front : (peer : PeerId) (number : ℕ) (hop : HopId) (stamp limit size : ℕ) (payload front : List ℕ) → 0 < limit → length payload ≡ size
    → front ≡ 5 ∷ big_bytes 1 peer.0 ++ big_bytes 6 number ++ big_bytes 1 hop.0 ++ big_bytes 7 stamp ++ big_bytes 5 limit ++ big_bytes 2 size
    → front ++ payload ≡ record_of (Take peer number hop stamp limit payload)
unfolding limited_take_of
limited_front peer number hop stamp limit size payload front above long is =
    ap (λ (t : List ℕ). t ++ payload) is
    ∙ ap (λ (n : ℕ). (5 ∷ big_bytes 1 peer.0 ++ big_bytes 6 number ++ big_bytes 1 hop.0 ++ big_bytes 7 stamp ++ big_bytes 5 limit ++ big_bytes 2 n) ++ payload) (sym long)
    ∙ limited_record peer number hop stamp limit payload above

-- the record of a Take that was written in two parts
pub take_written : (command : Command (List ℕ)) (payload front old middle new : List ℕ)
    → front ++ payload ≡ record_of command → middle ≡ old ++ front → new ≡ middle ++ payload → new ≡ old ++ record_of command
take_written command payload front old middle new whole first last =
    last ∙ ap (λ (t : List ℕ). t ++ payload) first ∙ append_assoc old front payload ∙ ap (λ (t : List ℕ). old ++ t) whole

-- if the parse has a value, the only fault of a function is a failed allocation
pub is_refused : {A : Type 0} (fault : DecodeFault) (read : Option A) (x : A) → Fails fault read → read ≡ Some x → fault ≡ OutOfMemory
is_refused OutOfMemory read x fails e = refl
is_refused Malformed read x fails e = let no : None ≡ Some x = sym fails ∙ e in absurd cc

-- the bytes after a front are at most all
pub length-behind : (bytes text rest : List ℕ) → bytes ≡ text ++ rest → length rest ≤ length bytes
length-behind bytes text rest parts =
    let size : length bytes ≡ length (text ++ rest) = ap (λ (t : List ℕ). length t) parts in
    omega (arith, size, length-append text rest)

-- the bytes after a front, counted from the bytes after it
pub behind_front : (bytes text rest : List ℕ) → bytes ≡ text ++ rest → (bytes ≡ text ++ drop (length bytes - length rest) bytes) × (length bytes - length rest ≡ length text)
behind_front bytes text rest parts =
    let whole : length bytes ≡ length (text ++ rest) = ap (λ (t : List ℕ). length t) parts in
    let size : length bytes - length rest ≡ length text = omega (arith, whole, length-append text rest) in
    let behind : drop (length bytes - length rest) bytes ≡ rest = ap (λ (n : ℕ). drop n bytes) size ∙ ap (drop (length text)) parts ∙ drop_at text rest (length text) refl in
    (parts ∙ ap (λ (t : List ℕ). text ++ t) (sym behind), size)
