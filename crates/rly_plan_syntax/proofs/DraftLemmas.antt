-- The items that were read, before the remaining ones.
use Rattle.std.proofs.Common.{◌≡◌, ℕ, ◌+◌, ◌<◌, ◌≤◌, Bool, true, false, ◌&&◌, Vec, Global, List, [], ◌∷◌, ◌++◌, length, drop, get_or, Option, Some, None, option_map, option_and_then, refl, sym, ap, ◌∙◌, append_assoc, arith}
use Rattle.std.proofs.lemmas.Bool.{false_from_ne_true}
use Rattle.std.proofs.lemmas.List.{append-nil, drop_all}
use Rattle.toml.specs.Data.{Data, item, table}
use Rattle.toml.specs.View.{items_view, members_view, view}
use Rattle.toml.specs.declared.value.Value.{Value}
use Rattle.toml.specs.declared.value.Value.TheVariants.{Array}
use Rattle.toml.proofs.Views.{Entry, items_view-drop, view-Array}
use Rattle.rly_plan_syntax.specs.Keys.{has_no_key, items_have_no_key}
use Rattle.rly_plan_syntax.specs.Draft.{each_item, pair_of}

-- the items read before, before those read now
abbrev pub behind : {A : Type 0} → List A → Option (List A) → Option (List A)
behind front o = option_map (λ xs. front ++ xs) o

pub behind_none : {A : Type 0} (front : List A) (o all : Option (List A)) → front ≡ [] → o ≡ all → behind front o ≡ all
behind_none front None all none same = same
behind_none front (Some xs) all none same = ap (λ zs. Some (zs ++ xs)) none ∙ same

-- one more item that was read joins those before
behind_one : {A : Type 0} (front : List A) (x : A) (o : Option (List A)) → behind (front ++ x ∷ []) o ≡ behind front (option_and_then (λ xs. Some (x ∷ xs)) o)
behind_one front x None = refl
behind_one front x (Some xs) = ap Some (rw append_assoc)

-- the items from one on: its value, before those after it
from_item : {A : Type 0} (shape : Data → Option A) (vs : List Value) (i : ℕ) (v : Value) (found : Option A) → i < length vs → v ≡ get_or vs i v → found ≡ shape (view v)
    → each_item shape (items_view (drop i vs)) ≡ option_and_then (λ x. option_and_then (λ xs. Some (x ∷ xs)) (each_item shape (items_view (drop (i + 1) vs)))) found
from_item shape vs i v found within is reads =
    ap (each_item shape) (items_view-drop vs i v within)
    ∙ ap (λ (w : Value). each_item shape (item (view w) (items_view (drop (i + 1) vs)))) (sym is)
    ∙ ap (λ o. option_and_then (λ x. option_and_then (λ xs. Some (x ∷ xs)) (each_item shape (items_view (drop (i + 1) vs)))) o) (sym reads)

pub read_one : {A : Type 0} (shape : Data → Option A) (vs : List Value) (i : ℕ) (v : Value) (found : Option A) (x : A) (front now : List A) (all : Option (List A))
    → i < length vs → v ≡ get_or vs i v → found ≡ shape (view v) → found ≡ Some x → now ≡ front ++ x ∷ []
    → behind front (each_item shape (items_view (drop i vs))) ≡ all → behind now (each_item shape (items_view (drop (i + 1) vs))) ≡ all
read_one shape vs i v found x front now all within is reads some more before =
    let rest = each_item shape (items_view (drop (i + 1) vs)) in
    ap (λ zs. behind zs rest) more ∙ behind_one front x rest
    ∙ ap (behind front) (sym (from_item shape vs i v found within is reads ∙ ap (λ o. option_and_then (λ y. option_and_then (λ xs. Some (y ∷ xs)) rest) o) some)) ∙ before

pub read_none : {A : Type 0} (shape : Data → Option A) (vs ws : List Value) (i : ℕ) (v : Value) (found : Option A) (front : List A)
    → i < length vs → v ≡ get_or vs i v → found ≡ shape (view v) → found ≡ None → vs ≡ ws
    → behind front (each_item shape (items_view (drop i vs))) ≡ each_item shape (items_view vs) → None ≡ each_item shape (items_view ws)
read_none shape vs ws i v found front within is reads none same before =
    let rest = each_item shape (items_view (drop (i + 1) vs)) in
    sym (ap (behind front) (from_item shape vs i v found within is reads ∙ ap (λ o. option_and_then (λ y. option_and_then (λ xs. Some (y ∷ xs)) rest) o) none))
    ∙ before ∙ ap (λ us. each_item shape (items_view us)) same

pub read_all : {A : Type 0} (shape : Data → Option A) (vs ws : List Value) (i : ℕ) (front : List A) → length vs ≤ i → vs ≡ ws
    → behind front (each_item shape (items_view (drop i vs))) ≡ each_item shape (items_view vs) → Some front ≡ each_item shape (items_view ws)
read_all shape vs ws i front past same before =
    ap Some (sym (append-nil front)) ∙ sym (ap (λ us. behind front (each_item shape (items_view us))) (drop_all i vs past))
    ∙ before ∙ ap (λ us. each_item shape (items_view us)) same

-- other than two items are no contact
pub no_pair : (vs : List Value) → (length vs ≡ 2 → ⊥) → None ≡ pair_of (items_view vs)
no_pair [] other = refl
no_pair (a ∷ []) other = refl
no_pair (a ∷ b ∷ []) other = absurd (other (omega arith))
no_pair (a ∷ b ∷ c ∷ vs) other = refl

-- a table with no entry has no key
pub no_member : (es : List Entry) (b : Bool) → (b ≡ true → length es ≡ 0) → (length es ≡ 0 → b ≡ true) → b ≡ has_no_key (table (members_view es))
no_member [] b empty filled = filled refl
no_member (e ∷ es) b empty filled = false_from_ne_true b (λ t. omega (arith, empty t))

-- ---- keys in the items of an array

pub items_of : (v : Value) (items : Vec Value Global) (vs : List Value) → v ≡ Array items → vs ≡ items.items → items_have_no_key (items_view vs) ≡ has_no_key (view v)
items_of v items vs is same = ap (λ us. items_have_no_key (items_view us)) same ∙ sym (ap has_no_key (ap view is ∙ view-Array items))

from_keyless : (vs : List Value) (i : ℕ) (v : Value) (b : Bool) → i < length vs → v ≡ get_or vs i v → b ≡ has_no_key (view v)
    → items_have_no_key (items_view (drop i vs)) ≡ (b && items_have_no_key (items_view (drop (i + 1) vs)))
from_keyless vs i v b within is tells =
    ap items_have_no_key (items_view-drop vs i v within)
    ∙ ap (λ (w : Value). has_no_key (view w) && items_have_no_key (items_view (drop (i + 1) vs))) (sym is)
    ∙ ap (λ a. a && items_have_no_key (items_view (drop (i + 1) vs))) (sym tells)

pub item_keyless : (vs : List Value) (i : ℕ) (v : Value) (b all : Bool) → i < length vs → v ≡ get_or vs i v → b ≡ has_no_key (view v) → b ≡ true
    → items_have_no_key (items_view (drop i vs)) ≡ all → items_have_no_key (items_view (drop (i + 1) vs)) ≡ all
item_keyless vs i v b all within is tells none before =
    sym (from_keyless vs i v b within is tells ∙ ap (λ a. a && items_have_no_key (items_view (drop (i + 1) vs))) none) ∙ before

pub item_keyed : (vs : List Value) (i : ℕ) (v : Value) (b all : Bool) → i < length vs → v ≡ get_or vs i v → b ≡ has_no_key (view v) → b ≡ false
    → items_have_no_key (items_view (drop i vs)) ≡ all → false ≡ all
item_keyed vs i v b all within is tells some before =
    sym (from_keyless vs i v b within is tells ∙ ap (λ a. a && items_have_no_key (items_view (drop (i + 1) vs))) some) ∙ before

pub items_keyless : (vs : List Value) (i : ℕ) (all : Bool) → length vs ≤ i → items_have_no_key (items_view (drop i vs)) ≡ all → true ≡ all
items_keyless vs i all past before = sym (ap (λ us. items_have_no_key (items_view us)) (drop_all i vs past)) ∙ before
