-- The sums and the search that find the link clock and whether a link is open.
use Rattle.std.proofs.Common.{◌≡◌, ℕ, zero, suc, ◌+◌, ◌-◌, ◌<◌, ◌≤◌, min, Bool, true, false, ◌&&◌, ◌||◌, cond, nat_lt, nat_le, List, [], ◌∷◌, ◌++◌, length, get_or, Option, Some, None, refl, ap, sym, arith, le-ltb, lt-ltb, le-leb, leb-true, leb-false, inl, inr}
use Rattle.std.specs.Prelude.{IfSome}
use Rattle.std.specs.List.{AllWithin}
use Rattle.std.specs.List.Sorted.{IsNonDecreasingBy, IsPartitionPoint}
use Rattle.std.proofs.lemmas.Bool.{cases_lt, lt-leb}
use Rattle.rly_core.specs.declared.limits.TheConstants.{MOMENT_LIMIT}
use Rattle.rly_plan.specs.declared.contacts.Contact.{Contact}
use Rattle.rly_plan.specs.declared.contacts.Summed.{Summed}
use Rattle.rly_plan.specs.LinkClock.{lies_in, lies_in_any, count_below, open_moments}
use Rattle.rly_plan.specs.HelpersContacts.{last_end, contacts_in, AreSummed, sum_after, end_after, AreTotalled, or_later, latest, HasBegun}

-- no contact is open before the first begins
pub closed_before : (front sum : ℕ) (es : List Summed) (t : ℕ) → AreSummed front sum es → t < front → lies_in_any (contacts_in es) t ≡ false
closed_before front sum [] t kept before = refl
closed_before front sum (e ∷ es) t kept before =
    let early : t < e.contact.begin = omega (arith, kept.0) in
    rw (lt-leb e.contact.begin t early) (closed_before e.contact.end _ es t kept.4 (omega (arith, kept.1)))

-- a test that fails below n counts none
pub count_none : (test : ℕ → Bool) (n : ℕ) → ((u : ℕ) → u < n → test u ≡ false) → count_below test n ≡ 0
unfolding count_below
count_none test zero fails = refl
count_none test (suc n) fails = rw (fails n (omega arith), count_none test n (λ u h. fails u (omega arith)))

-- none is found before the first begins, and else the first or a later one
pub latest_early : (e : Summed) (es : List Summed) (t : ℕ) → t < e.contact.begin → latest (e ∷ es) t ≡ None
latest_early e es t early = rw (lt-ltb t e.contact.begin early)

pub latest_late : (e : Summed) (es : List Summed) (t : ℕ) → e.contact.begin ≤ t → latest (e ∷ es) t ≡ or_later e (latest es t)
latest_late e es t begun = rw (le-ltb t e.contact.begin begun)

-- if one has begun, the contacts before it have ended
begun_since : (front sum : ℕ) (es : List Summed) (t : ℕ) → AreSummed front sum es → IfSome (latest es t) (λ _. front ≤ t)
begun_since front sum [] t kept = tt
begun_since front sum (e ∷ es) t kept =
    elim (cases_lt t e.contact.begin) [
      | inl early ↦ rw (latest_early e es t early) tt
      | inr begun ↦ rw (latest_late e es t begun) (at_either e (latest es t) (omega (arith, kept.0)))
    ]
  where
    at_either : (e : Summed) (o : Option Summed) → front ≤ t → IfSome (or_later e o) (λ _. front ≤ t)
    at_either e None h = h
    at_either e (Some x) h = h

-- whether the link is open, given the entry that was found
abbrev pub is_open_in : Option Summed → ℕ → Bool
is_open_in None t = false
is_open_in (Some e) t = nat_lt t e.contact.end

abbrev pub sum_in : ℕ → Option Summed → ℕ → ℕ
sum_in sum None t = sum
sum_in sum (Some e) t = e.before + (min t e.contact.end - e.contact.begin)

or_false : (b : Bool) → (b || false) ≡ b
or_false true = refl
or_false false = refl

open_either : (e : Summed) (o : Option Summed) (rest : Bool) (t : ℕ) → e.contact.begin ≤ t → rest ≡ is_open_in o t → IfSome o (λ _. e.contact.end ≤ t)
    → ((nat_le e.contact.begin t && nat_lt t e.contact.end) || rest) ≡ is_open_in (or_later e o) t
open_either e None rest t begun same ended = rw (le-leb e.contact.begin t begun, same) (or_false (nat_lt t e.contact.end))
open_either e (Some x) rest t begun same ended = rw (le-leb e.contact.begin t begun, le-ltb t e.contact.end ended) same

-- whether the link is open, by the entry that is found
pub open_at_latest : (front sum : ℕ) (es : List Summed) (t : ℕ) → AreSummed front sum es → lies_in_any (contacts_in es) t ≡ is_open_in (latest es t) t
open_at_latest front sum [] t kept = refl
open_at_latest front sum (e ∷ es) t kept =
    elim (cases_lt t e.contact.begin) [
      | inl early ↦ rw (latest_early e es t early) (closed_before e.contact.begin sum (e ∷ es) t (omega arith, kept.1, kept.2, kept.3, kept.4) early)
      | inr begun ↦ rw (latest_late e es t begun) (open_either e (latest es t) _ t begun (open_at_latest e.contact.end _ es t kept.4) (begun_since e.contact.end _ es t kept.4))
    ]

-- one more moment, inside the contact or not
one_more : (c : Contact) (n : ℕ) (before rest count : ℕ) (b : Bool) → count ≡ before + rest → before ≡ min n c.end - c.begin → (n < c.end → b ≡ false)
    → count + cond (lies_in n c || b) 1 0 ≡ (min (suc n) c.end - c.begin) + (rest + cond b 1 0)
one_more c n before rest count b counted is closed =
    elim (cases_lt n c.begin) [
      | inl early ↦ elim (cases_lt n c.end) [
        | inl inside ↦ rw (lt-leb c.begin n early, closed inside) (omega arith)
        | inr after ↦ rw (lt-leb c.begin n early) (omega arith)
      ]
      | inr begun ↦ elim (cases_lt n c.end) [
        | inl inside ↦ rw (le-leb c.begin n begun, lt-ltb n c.end inside, closed inside) (omega arith)
        | inr after ↦ rw (le-leb c.begin n begun, le-ltb n c.end after) (omega arith)
      ]
    ]

-- the first contact's part of the link clock, if the others begin after it has ended
pub link_front : (c : Contact) (cs : List Contact) (t : ℕ) → ((u : ℕ) → u < c.end → lies_in_any cs u ≡ false) → open_moments (c ∷ cs) t ≡ (min t c.end - c.begin) + open_moments cs t
unfolding count_below
link_front c cs zero closed = omega arith
link_front c cs (suc n) closed = one_more c n _ (open_moments cs n) (open_moments (c ∷ cs) n) (lies_in_any cs n) (link_front c cs n closed) refl (closed n)

sum_either : (e : Summed) (o : Option Summed) (sum rest t : ℕ) → e.contact.begin ≤ t → e.before ≡ sum → (sum + (e.contact.end - e.contact.begin)) + rest ≡ sum_in (sum + (e.contact.end - e.contact.begin)) o t
    → IfSome o (λ _. e.contact.end ≤ t) → sum + ((min t e.contact.end - e.contact.begin) + rest) ≡ sum_in sum (or_later e o) t
sum_either e None sum rest t begun is same ended = omega (arith, same, is)
sum_either e (Some x) sum rest t begun is same ended = omega (arith, same, ended)

-- the link clock, by the entry that is found
pub link_at_latest : (front sum : ℕ) (es : List Summed) (t : ℕ) → AreSummed front sum es → sum + open_moments (contacts_in es) t ≡ sum_in sum (latest es t) t
link_at_latest front sum [] t kept = rw (count_none (lies_in_any []) t (λ u h. refl)) (omega arith)
link_at_latest front sum (e ∷ es) t kept =
    elim (cases_lt t e.contact.begin) [
      | inl early ↦ rw (latest_early e es t early, count_none (lies_in_any (contacts_in (e ∷ es))) t (λ u h. closed_before e.contact.begin sum (e ∷ es) u (omega arith, kept.1, kept.2, kept.3, kept.4) (omega arith))) (omega arith)
      | inr begun ↦ rw (latest_late e es t begun, link_front e.contact (contacts_in es) t (λ u h. closed_before e.contact.end _ es u kept.4 h))
          (sum_either e (latest es t) sum (open_moments (contacts_in es) t) t begun kept.3 (link_at_latest e.contact.end _ es t kept.4) (begun_since e.contact.end _ es t kept.4))
    ]

found_either : (e : Summed) (o : Option Summed) (t : ℕ) → HasBegun t e → IfSome o (HasBegun t) → IfSome (or_later e o) (HasBegun t)
found_either e None t here later = here
found_either e (Some x) t here later = later

-- the invariant of the entry that was found
pub found_has_begun : (front sum : ℕ) (es : List Summed) (t : ℕ) → AreSummed front sum es → sum ≤ front → IfSome (latest es t) (HasBegun t)
found_has_begun front sum [] t kept below = tt
found_has_begun front sum (e ∷ es) t kept below =
    elim (cases_lt t e.contact.begin) [
      | inl early ↦ rw (latest_early e es t early) tt
      | inr begun ↦ rw (latest_late e es t begun)
          (found_either e (latest es t) t (record { begun = begun; lasts = kept.1; bounded = kept.2; no_longer = omega (arith, kept.3, kept.0, below) })
          (found_has_begun e.contact.end _ es t kept.4 (omega (arith, kept.0, kept.1, below))))
    ]

-- every entry begins when the front has ended
begins_behind : (front sum : ℕ) (es : List Summed) (j : ℕ) (d : Summed) → AreSummed front sum es → j < length es → front ≤ (get_or es j d).contact.begin
begins_behind front sum [] j d kept within = absurd (omega arith)
begins_behind front sum (e ∷ es) zero d kept within = kept.0
begins_behind front sum (e ∷ es) (suc j) d kept within = omega (arith, kept.0, kept.1, begins_behind e.contact.end _ es j d kept.4 (omega arith))

-- the entries' contacts begin in order
pub begins_ascend : (front sum : ℕ) (es : List Summed) → AreSummed front sum es → IsNonDecreasingBy (λ e. e.contact.begin) es
begins_ascend front sum [] kept i j d order within = absurd (omega arith)
begins_ascend front sum (e ∷ es) kept zero zero d order within = omega arith
begins_ascend front sum (e ∷ es) kept zero (suc j) d order within = omega (arith, kept.1, begins_behind e.contact.end _ es j d kept.4 (omega arith))
begins_ascend front sum (e ∷ es) kept (suc i) zero d order within = absurd (omega arith)
begins_ascend front sum (e ∷ es) kept (suc i) (suc j) d order within = begins_ascend e.contact.end _ es kept.4 i j d (omega arith) (omega arith)

abbrev pub has_begun : ℕ → Summed → Bool
has_begun t e = nat_le e.contact.begin t

-- if the first has not begun, none is found
pub latest_none : (es : List Summed) (t : ℕ) → AllWithin (λ e. has_begun t e ≡ false) es 0 (length es) → latest es t ≡ None
latest_none [] t early = refl
latest_none (e ∷ es) t early = latest_early e es t (leb-false e.contact.begin t (early 0 e (omega arith) (omega arith)))

-- the entry before the first that has not begun
pub latest_at : (es : List Summed) (t k : ℕ) (d : Summed) → k < length es → AllWithin (λ e. has_begun t e ≡ true) es 0 (suc k) → AllWithin (λ e. has_begun t e ≡ false) es (suc k) (length es)
    → latest es t ≡ Some (get_or es k d)
latest_at [] t k d within begun early = absurd (omega arith)
latest_at (e ∷ es) t zero d within begun early =
    rw (latest_late e es t (leb-true e.contact.begin t (begun 0 d (omega arith) (omega arith))), latest_none es t (λ j x low high. early (suc j) x (omega arith) (omega arith)))
latest_at (e ∷ es) t (suc k) d within begun early =
    rw (
      latest_late e es t (leb-true e.contact.begin t (begun 0 d (omega arith) (omega arith))),
      latest_at es t k d (omega arith) (λ j x low high. begun (suc j) x (omega arith) (omega arith)) (λ j x low high. early (suc j) x (omega arith) (omega arith)),
    )

-- the sum after the last contact
pub sum_below_end : (front sum : ℕ) (es : List Summed) → AreSummed front sum es → sum ≤ front → sum_after sum es ≤ end_after front es
sum_below_end front sum [] kept below = below
sum_below_end front sum (e ∷ es) kept below = sum_below_end e.contact.end _ es kept.4 (omega (arith, kept.0, kept.1, below))

end_behind : (e : Summed) (es : List Summed) → last_end (contacts_in (e ∷ es)) ≡ end_after e.contact.end es
end_behind e [] = refl
end_behind e (f ∷ es) = end_behind f es

pub end_is : (es : List Summed) → last_end (contacts_in es) ≡ end_after 0 es
end_is [] = refl
end_is (e ∷ es) = end_behind e es

-- one more entry
pub summed_push : (front sum : ℕ) (es : List Summed) (n : Summed) → AreSummed front sum es → end_after front es ≤ n.contact.begin → n.before ≡ sum_after sum es → n.contact.begin < n.contact.end
    → n.contact.end < MOMENT_LIMIT → AreSummed front sum (es ++ n ∷ [])
summed_push front sum [] n kept behind is lasts bounded = (behind, lasts, bounded, is, tt)
summed_push front sum (e ∷ es) n kept behind is lasts bounded = (kept.0, kept.1, kept.2, kept.3, summed_push e.contact.end _ es n kept.4 behind is lasts bounded)

pub sum_push : (sum : ℕ) (es : List Summed) (n : Summed) → sum_after sum (es ++ n ∷ []) ≡ sum_after sum es + (n.contact.end - n.contact.begin)
sum_push sum [] n = refl
sum_push sum (e ∷ es) n = sum_push (sum + (e.contact.end - e.contact.begin)) es n

-- the entry that was found, by how many have begun
pub latest_where : (es : List Summed) (t k : ℕ) (d : Summed) → k ≤ length es → 0 < k → IsPartitionPoint (λ e. has_begun t e ≡ true) (λ e. has_begun t e ≡ false) es k → Some (get_or es (k - 1) d) ≡ latest es t
latest_where es t zero d within some parts = absurd (omega arith)
latest_where es t (suc k) d within some parts =
    let less : suc k - 1 ≡ k = omega arith in
    rw less (sym (latest_at es t k d (omega arith) parts.0 parts.1))

-- the results, from the entry that was found
pub open_found : (es seen : List Summed) (cs : List Contact) (t : ℕ) (o : Option Summed) → AreSummed 0 0 es → contacts_in es ≡ cs → seen ≡ es → o ≡ latest seen t → is_open_in o t ≡ lies_in_any cs t
open_found es seen cs t o kept same read found = rw (found, read, ← same) (sym (open_at_latest 0 0 es t kept))

pub link_found : (es seen : List Summed) (cs : List Contact) (t : ℕ) (o : Option Summed) → AreSummed 0 0 es → contacts_in es ≡ cs → seen ≡ es → o ≡ latest seen t → sum_in 0 o t ≡ open_moments cs t
link_found es seen cs t o kept same read found = rw (found, read, ← same) (omega (arith, link_at_latest 0 0 es t kept))

-- after one more contact
pub kept_push : (es : List Summed) (total : ℕ) (cs : List Contact) (n : Contact) → AreTotalled es total → contacts_in es ≡ cs → last_end cs ≤ n.begin → n.begin < n.end → n.end < MOMENT_LIMIT
    → AreTotalled (es ++ record { contact = n; before = total } ∷ []) (total + (n.end - n.begin))
kept_push es total cs n kept same behind lasts bounded =
    let ended : end_after 0 es ≤ n.begin = omega (arith, behind, end_is es, ap last_end same) in
    record {
      summed = summed_push 0 0 es _ kept.summed ended kept.total_is lasts bounded;
      total_is = rw (sum_push 0 es (record { contact = n; before = total })) (ap (λ s. s + (n.end - n.begin)) kept.total_is);
    }

-- the open time in all contacts is at most the end of the last
pub total_below : (es : List Summed) (total : ℕ) (cs : List Contact) → AreTotalled es total → contacts_in es ≡ cs → total ≤ last_end cs
total_below es total cs kept same = omega (arith, sum_below_end 0 0 es kept.summed (omega arith), kept.total_is, end_is es, ap last_end same)

-- with no contacts the link clock stays at 0
pub never_open : (t : ℕ) → open_moments [] t ≡ 0
never_open t = count_none (lies_in_any []) t (λ u h. refl)
