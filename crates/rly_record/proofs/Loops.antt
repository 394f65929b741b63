-- Reading values in order.
use Rattle.std.proofs.Common.{◌≡◌, ℕ, suc, ◌+◌, ◌-◌, ◌<◌, ◌≤◌, List, [], ◌∷◌, ◌++◌, Option, Some, None, refl, sym, ap, ◌∙◌, append_assoc, arith}
use Rattle.std.proofs.lemmas.List.{append-nil}
use Rattle.rly_record.specs.HelpersReader.{◌>>=◌, Fails, Reader, many_at}
use Rattle.rly_record.specs.declared.decode_fault.DecodeFault.{DecodeFault}
use Rattle.rly_record.specs.declared.decode_fault.DecodeFault.TheVariants.{OutOfMemory, Malformed}

-- the values read before, and those still to read
abbrev pub with_front : {A : Type 0} → List A → Option (List A × List ℕ) → Option (List A × List ℕ)
with_front front read = read >>= λ x. Some (front ++ x.0, x.1)

regroup : {A : Type 0} (front : List A) (x : A) (read : Option (List A × List ℕ)) → with_front front (read >>= λ others. Some (x ∷ others.0, others.1)) ≡ with_front (front ++ x ∷ []) read
regroup {A} front x (Some others) = ap (λ (xs : List A). Some (xs, others.1)) (simp append_assoc)
regroup front x None = refl

pub goes_on : {A : Type 0} (one : Reader A) (front : List A) (count i : ℕ) (bytes : List ℕ) (x : A) (after : List ℕ) (total : Option (List A × List ℕ)) → i < count → one bytes ≡ Some (x, after)
    → with_front front (many_at one (count - i) bytes) ≡ total → with_front (front ++ x ∷ []) (many_at one (count - (i + 1)) after) ≡ total
unfolding many_at
goes_on one front count i bytes x after total lt found so_far =
    let k : count - i ≡ suc (count - (i + 1)) = omega arith in
    let step : with_front front (many_at one (count - i) bytes) ≡ with_front (front ++ x ∷ []) (many_at one (count - (i + 1)) after) = rw (k, found) (regroup front x (many_at one (count - (i + 1)) after)) in
    sym step ∙ so_far

pub ends : {A : Type 0} (one : Reader A) (fault : DecodeFault) (front : List A) (count i : ℕ) (bytes : List ℕ) (total : Option (List A × List ℕ)) → i < count → Fails fault (one bytes)
    → with_front front (many_at one (count - i) bytes) ≡ total → Fails fault total
unfolding many_at
ends one OutOfMemory front count i bytes total lt fails so_far = tt
ends one Malformed front count i bytes total lt fails so_far =
    let k : count - i ≡ suc (count - (i + 1)) = omega arith in
    let step : with_front front (many_at one (count - i) bytes) ≡ None = rw (k, fails) refl in
    sym so_far ∙ step

pub is_done : {A : Type 0} (one : Reader A) (front : List A) (count i : ℕ) (bytes : List ℕ) (total : Option (List A × List ℕ)) → count ≤ i → with_front front (many_at one (count - i) bytes) ≡ total → total ≡ Some (front, bytes)
unfolding many_at
is_done {A} one front count i bytes total le so_far =
    let k : count - i ≡ 0 = omega arith in
    let step : with_front front (many_at one (count - i) bytes) ≡ Some (front, bytes) = rw k (ap (λ (xs : List A). Some (xs, bytes)) (append-nil front)) in
    sym so_far ∙ step
