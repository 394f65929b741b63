-- Items in a checked order are live, and each comes before those after it.
use Rattle.std.proofs.Common.{ℕ, suc, ◌<◌, ◌≤◌, List, [], ◌∷◌, get_or, arith}
use Rattle.std.specs.Prelude.{All, AllPairs}
use Rattle.std.proofs.lemmas.List.Elements.{All-nil, All-cons, All-head, All-tail, All-weaker}
use Rattle.std.proofs.lemmas.List.Kept.{AllPairs-cons}
use Rattle.rly_core.specs.declared.params.Params.{Params}
use Rattle.rly_machine.specs.declared.hop.Item.{Item}
use Rattle.rly_machine.specs.Sound.{ComesBefore, IsLive}
use Rattle.rly_segment_checkpoint.specs.HelpersRows.{IsRow}

-- an item comes after an id and a stamp
pub record IsBehind {P : Type 0} (id stamp : ℕ) (item : Item P) : Type 0 where
  pub id_rises : id < item.id
  pub stamp_stays : stamp ≤ item.stamp

-- the properties of the items in order
pub record RowIs {P : Type 0} (len : P → ℕ) (params : Params) (moment seq id stamp : ℕ) (items : List (Item P)) : Type 0 where
  pub behind : All (IsBehind id stamp) items
  pub live : All (IsLive len params moment seq) items
  pub order : AllPairs ComesBefore items

row_there : {P : Type 0} (len : P → ℕ) (params : Params) (moment seq id stamp : ℕ) (items : List (Item P))
    → IsRow len params moment seq id stamp items → RowIs len params moment seq id stamp items
row_there len params moment seq id stamp [] row = record {
  behind = All-nil (IsBehind id stamp);
  live = All-nil (IsLive len params moment seq);
  order = λ i j d less short. absurd (omega arith);
}
row_there len params moment seq id stamp (item ∷ items) row =
    let follows = row.0 in
    let rest = row_there len params moment seq item.id item.stamp items row.1 in
    record {
      behind = All-cons (IsBehind id stamp) item items (record { id_rises = follows.later; stamp_stays = follows.not_before })
          (All-weaker (IsBehind item.id item.stamp) (IsBehind id stamp) (λ x b. record { id_rises = omega (arith, follows.later, b.id_rises); stamp_stays = omega (arith, follows.not_before, b.stamp_stays) }) items rest.behind);
      live = All-cons (IsLive len params moment seq) item items (record { first = omega (arith, follows.later); last = follows.last; stamp = follows.not_after; limit = follows.limit; length = follows.short }) rest.live;
      order = AllPairs-cons ComesBefore item items (All-weaker (IsBehind item.id item.stamp) (ComesBefore item) (λ x b. record { id = b.id_rises; stamp = b.stamp_stays }) items rest.behind) rest.order;
    }

row_back : {P : Type 0} (len : P → ℕ) (params : Params) (moment seq id stamp : ℕ) (items : List (Item P)) → All (IsBehind id stamp) items
    → All (IsLive len params moment seq) items → AllPairs ComesBefore items → IsRow len params moment seq id stamp items
row_back len params moment seq id stamp [] behind live order = tt
row_back len params moment seq id stamp (item ∷ items) behind live order =
    let b = All-head (IsBehind id stamp) item items behind in
    let l = All-head (IsLive len params moment seq) item items live in
    let later : All (IsBehind item.id item.stamp) items = λ k d lt.
    let pair : ComesBefore item (get_or items k d) = order 0 (suc k) d (omega arith) (omega (arith, lt)) in
    record { id_rises = pair.id; stamp_stays = pair.stamp } in (
      record { later = b.id_rises; last = l.last; not_before = b.stamp_stays; not_after = l.stamp; limit = l.limit; short = l.length },
      row_back len params moment seq item.id item.stamp items later (All-tail (IsLive len params moment seq) item items live) (λ i j d less short. order (suc i) (suc j) d (omega (arith, less)) (omega (arith, short))),
    )

-- the order from the start on
pub row_live : {P : Type 0} (len : P → ℕ) (params : Params) (moment seq : ℕ) (items : List (Item P)) → IsRow len params moment seq 0 0 items
    → All (IsLive len params moment seq) items
row_live len params moment seq items row = (row_there len params moment seq 0 0 items row).live

pub row_order : {P : Type 0} (len : P → ℕ) (params : Params) (moment seq : ℕ) (items : List (Item P)) → IsRow len params moment seq 0 0 items
    → AllPairs ComesBefore items
row_order len params moment seq items row = (row_there len params moment seq 0 0 items row).order

pub row_from : {P : Type 0} (len : P → ℕ) (params : Params) (moment seq : ℕ) (items : List (Item P)) → All (IsLive len params moment seq) items
    → AllPairs ComesBefore items → IsRow len params moment seq 0 0 items
row_from len params moment seq items live order =
    row_back len params moment seq 0 0 items (All-weaker (IsLive len params moment seq) (IsBehind 0 0) (λ x l. record { id_rises = omega (arith, l.first); stamp_stays = omega arith }) items live) live order
