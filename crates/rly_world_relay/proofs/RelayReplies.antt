-- Replies are put into the reply queues, batch by batch.
use Rattle.std.proofs.Common.{ℕ, ◌≡◌, ◌≤◌, ◌<◌, ◌+◌, ◌-◌, ◌++◌, ◌∙◌, suc, zero, Bool, List, [], ◌∷◌, Some, None, length, take, drop, map, set, get_or, arith, ap, refl, sym, subst, inl, length-append}
use Rattle.std.specs.List.{AllByRecursion}
use Rattle.std.proofs.lemmas.List.{append-nil, get_or-map, length-drop, length-map, map-set, set_past, take-append-drop, take_all}
use Rattle.std.proofs.lemmas.List.Edits.{map_over_more}
use Rattle.std.proofs.Math.Seq.{drop-length, map-set_same}
use Rattle.rly_machine.specs.declared.call.Answer.{Answer}
use Rattle.rly_world.specs.RelaySteps.{AreRead, Event, Run, world_after, all_replied, greatest_position, seats_after_reply}
use Rattle.rly_world.specs.RelaySteps as event
use Rattle.rly_world.specs.RelayWorld.{Batch, SeatView, World, calls_of, new_seat}
use Rattle.rly_world_relay.specs.HelpersRounds.{to_answer}
use Rattle.rly_world_relay.specs.HelpersSeats.{HaveRoom, RoomySeat, views_of}
use Rattle.rly_world_relay.specs.RelayRounds.{IsServing}

all_replied_joined : (seats : List SeatView) (first second : List Answer)
    → all_replied (all_replied seats first) second ≡ all_replied seats (first ++ second)
all_replied_joined seats [] second = refl
all_replied_joined seats (answer ∷ first) second = all_replied_joined (seats_after_reply seats answer) first second

-- a round whose replies are ready
abbrev pub answering : World → List Batch → List Answer → Bool → World
answering w batches answers failed = record w { round = Some (to_answer batches answers failed) }

-- so its other replies may be put
read_after : (batches : List Batch) (answers : List Answer) (failed : Bool) (n : ℕ) → AreRead (to_answer batches answers failed)
    → AreRead (to_answer batches (drop n answers) failed)
read_after batches answers failed zero read = read
read_after batches [] failed (suc n) read = read
read_after batches (answer ∷ answers) failed (suc n) read = read_after batches answers failed n read.1

-- all replies of a round are put
pub record Puts (w : World) (batches : List Batch) (answers : List Answer) (failed : Bool) : Type 0 where
  pub events : List Event
  pub serving : AllByRecursion IsServing events
  pub told : ℕ
  pub run : Run (answering w batches answers failed) events
      (record w { seats = all_replied w.seats answers; round = None; told = told })

pub puts : (w : World) (batch : Batch) (batches : List Batch) (answers : List Answer) (failed : Bool)
    → length answers ≡ length (calls_of (batch ∷ batches)) → AreRead (to_answer (batch ∷ batches) answers failed)
    → Puts w (batch ∷ batches) answers failed
puts w batch [] answers failed count read =
    let v : World = answering w (batch ∷ []) answers failed in
    let most : length answers ≤ length batch = omega (arith, count, ap length (append-nil batch)) in
    let all : take (length batch) answers ≡ answers = take_all (length batch) answers most in
    record {
      events = event.Answers ∷ [];
      serving = (tt, tt);
      told = greatest_position w.told (take (length batch) answers);
      run = (
        world_after v event.Answers,
        inl ((to_answer (batch ∷ []) answers failed, refl, (refl, read)), refl),
        ap (λ l. record w { seats = all_replied w.seats l; round = None; told = greatest_position w.told (take (length batch) answers) }) (sym all),
      );
    }
puts w batch (next ∷ batches) answers failed count read =
    let v : World = answering w (batch ∷ next ∷ batches) answers failed in
    let first : List Answer = take (length batch) answers in
    let others : List Answer = drop (length batch) answers in
    let mid : World = record w { seats = all_replied w.seats first; told = greatest_position w.told first } in
    let left : length others ≡ length (calls_of (next ∷ batches)) =
    omega (arith, length-drop (length batch) answers, count, length-append batch (calls_of (next ∷ batches))) in
    let rest = puts mid next batches others failed left (read_after (next ∷ batches) answers failed (length batch) read) in
    record {
      events = event.Answers ∷ rest.events;
      serving = (tt, rest.serving);
      told = rest.told;
      run = (
        world_after v event.Answers,
        inl ((to_answer (batch ∷ next ∷ batches) answers failed, refl, (refl, read)), refl),
        subst (Run (answering mid (next ∷ batches) others failed) rest.events)
            (ap (λ s. record w { seats = s; round = None; told = rest.told })
            (all_replied_joined w.seats first others ∙ ap (all_replied w.seats) (take-append-drop (length batch) answers))) rest.run,
      );
    }

-- ---- the code's seats

pub views_set : (seats : List RoomySeat) (i : ℕ) (seat : RoomySeat) → views_of (set seats i seat) ≡ set (views_of seats) i seat.seat
views_set seats i seat = map-set (λ (s : RoomySeat). s.seat) seats i seat

view_at : (seats : List RoomySeat) (i : ℕ) (d : RoomySeat) → i < length seats → get_or (views_of seats) i new_seat ≡ (get_or seats i d).seat
view_at seats i d there = get_or-map (λ (s : RoomySeat). s.seat) seats i d new_seat there

room_at : (n : ℕ) (seats : List RoomySeat) (i : ℕ) (d : RoomySeat) → i < length seats → HaveRoom n seats → n ≤ (get_or seats i d).room
room_at n [] i d there room = absurd (omega (arith, there))
room_at n (seat ∷ seats) zero d there room = room.0
room_at n (seat ∷ seats) (suc i) d there room = room_at n seats i d (omega (arith, there)) room.1

room_set : (n : ℕ) (seats : List RoomySeat) (i : ℕ) (seat : RoomySeat) → n ≤ seat.room → HaveRoom n seats → HaveRoom n (set seats i seat)
room_set n [] i seat least room = tt
room_set n (first ∷ seats) zero seat least room = (least, room.1)
room_set n (first ∷ seats) (suc i) seat least room = (room.0, room_set n seats i seat least room.1)

room_less : (n m : ℕ) (seats : List RoomySeat) → m ≤ n → HaveRoom n seats → HaveRoom m seats
room_less n m [] least room = tt
room_less n m (seat ∷ seats) least room = (omega (arith, least, room.0), room_less n m seats least room.1)

-- one reply is put into a reply queue
replied_one : (seats : List RoomySeat) (answer : Answer) (i : ℕ) (d seat : RoomySeat) → i ≡ answer.seat.0 → i < length seats
    → seat.seat ≡ record (get_or seats i d).seat { replies = (get_or seats i d).seat.replies ++ answer ∷ [] }
    → views_of (set seats i seat) ≡ seats_after_reply (views_of seats) answer
replied_one seats answer i d seat at there is =
    views_set seats i seat
    ∙ ap (λ v. set (views_of seats) i v) (is ∙ ap (λ (v : SeatView). record v { replies = v.replies ++ answer ∷ [] }) (sym (view_at seats i d there)))
    ∙ ap (λ n. set (views_of seats) n (record (get_or (views_of seats) n new_seat) { replies = (get_or (views_of seats) n new_seat).replies ++ answer ∷ [] })) at

-- a seat that doesn't exist
replied_none : (seats : List RoomySeat) (answer : Answer) → length seats ≤ answer.seat.0 → views_of seats ≡ seats_after_reply (views_of seats) answer
replied_none seats answer past = sym (set_past (views_of seats) answer.seat.0
    (record (get_or (views_of seats) answer.seat.0 new_seat) { replies = (get_or (views_of seats) answer.seat.0 new_seat).replies ++ answer ∷ [] })
    (omega (arith, past, length-map seats (λ (s : RoomySeat). s.seat))))

room_left : (n : ℕ) (seats : List RoomySeat) (i : ℕ) (d seat : RoomySeat) → i < length seats → HaveRoom (n + 1) seats
    → seat.room ≡ (get_or seats i d).room - 1 → HaveRoom n (set seats i seat)
room_left n seats i d seat there room is =
    room_set n seats i seat (omega (arith, room_at (n + 1) seats i d there room, is)) (room_less (n + 1) n seats (omega arith) room)

pub room_all : (n m : ℕ) (seats : List RoomySeat) → m ≤ n → HaveRoom n seats → HaveRoom m seats
room_all n m seats least room = room_less n m seats least room

-- ---- memory is reserved, or seats are reset, in order

pub reserved_next : (seats : List RoomySeat) (i : ℕ) (d seat : RoomySeat) → seat.seat ≡ (get_or seats i d).seat
    → views_of (set seats i seat) ≡ views_of seats
reserved_next seats i d seat same = map-set_same (λ (s : RoomySeat). s.seat) seats i seat d same

-- if the allocation fails, the other seats are unchanged
pub reserved_part : (seats old : List RoomySeat) (n : ℕ) → n ≡ length old → views_of seats ≡ views_of old
    → views_of (take n (seats ++ drop (length seats) old)) ≡ views_of old
reserved_part seats old n is same =
    let count : length seats ≡ length old =
    omega (arith, ap length same, length-map seats (λ (s : RoomySeat). s.seat), length-map old (λ (s : RoomySeat). s.seat)) in
    ap (λ l. views_of (take n (seats ++ l))) (ap (λ k. drop k old) count ∙ drop-length old)
    ∙ ap (λ l. views_of (take n l)) (append-nil seats)
    ∙ ap (λ l. views_of l) (take_all n seats (omega (arith, count, is))) ∙ same

room_after : (n : ℕ) (seats : List RoomySeat) (i : ℕ) (seat : RoomySeat) → n ≤ seat.room → HaveRoom n (take i seats)
    → HaveRoom n (take (suc i) (set seats i seat))
room_after n [] i seat least room = tt
room_after n (first ∷ seats) zero seat least room = (least, tt)
room_after n (first ∷ seats) (suc i) seat least room = (room.0, room_after n seats i seat least room.1)

pub room_next : (n : ℕ) (seats : List RoomySeat) (i : ℕ) (seat : RoomySeat) → n ≤ seat.room → HaveRoom n (take i seats)
    → HaveRoom n (take (i + 1) (set seats i seat))
room_next n seats i seat least room =
    subst (λ k. HaveRoom n (take k (set seats i seat))) (let e : suc i ≡ i + 1 = omega arith in e) (room_after n seats i seat least room)

read_again : {A : Type 0} (xs : List A) (i : ℕ) (d : A) → get_or xs i d ≡ get_or xs i (get_or xs i d)
read_again [] i d = refl
read_again (x ∷ xs) zero d = refl
read_again (x ∷ xs) (suc i) d = read_again xs i d

pub forgot_next : (seats : List RoomySeat) (first : List SeatView) (i : ℕ) (seat : RoomySeat) → i < length first → seat.seat ≡ new_seat
    → views_of seats ≡ map (λ s. new_seat) (take i first) ++ drop i first
    → views_of (set seats i seat) ≡ map (λ s. new_seat) (take (i + 1) first) ++ drop (i + 1) first
forgot_next seats first i seat there is so_far =
    views_set seats i seat ∙ ap (λ (v : SeatView). set (views_of seats) i v) is
    ∙ map_over_more (λ (s : SeatView). new_seat) first (views_of seats) i (get_or (views_of seats) i new_seat) there so_far (read_again (views_of seats) i new_seat)

-- ---- a seat by its index

-- a seat that exists, as in the model
pub seat_there : (seats : List RoomySeat) (i : ℕ) (seat : RoomySeat) → i < length seats → seat ≡ get_or seats i seat
    → seat.seat ≡ get_or (views_of seats) i new_seat
seat_there seats i seat there is = ap (λ (s : RoomySeat). s.seat) is ∙ sym (view_at seats i seat there)

pub there_in : (seats : List RoomySeat) (i : ℕ) → i < length seats → i < length (views_of seats)
there_in seats i there = omega (arith, there, length-map seats (λ (s : RoomySeat). s.seat))

-- ---- one reply after another

-- its seat exists
pub replies_there : (seats : List RoomySeat) (answer : Answer) (left rest : List Answer) (i : ℕ) (d seat : RoomySeat) (whole : List SeatView)
    → left ≡ answer ∷ rest → all_replied (views_of seats) left ≡ whole → HaveRoom (length left) seats → i ≡ answer.seat.0 → i < length seats
    → d ≡ get_or seats i d → seat.seat ≡ record d.seat { replies = d.seat.replies ++ answer ∷ [] } → seat.room ≡ d.room - 1
    → (all_replied (views_of (set seats i seat)) rest ≡ whole) × HaveRoom (length rest) (set seats i seat)
replies_there seats answer left rest i d seat whole cut so_far room at there is seat_is room_is = (
  ap (λ v. all_replied v rest) (replied_one seats answer i d seat at there
      (seat_is ∙ ap (λ (s : RoomySeat). record s.seat { replies = s.seat.replies ++ answer ∷ [] }) is))
      ∙ ap (λ l. all_replied (views_of seats) l) (sym cut) ∙ so_far,
  room_left (length rest) seats i d seat there
      (subst (λ n. HaveRoom n seats) (let e : length left ≡ length rest + 1 = omega (arith, ap length cut) in e) room)
      (room_is ∙ ap (λ (s : RoomySeat). s.room - 1) is),
)

-- its seat doesn't
pub replies_none : (seats : List RoomySeat) (answer : Answer) (left rest : List Answer) (whole : List SeatView)
    → left ≡ answer ∷ rest → all_replied (views_of seats) left ≡ whole → HaveRoom (length left) seats → length seats ≤ answer.seat.0
    → (all_replied (views_of seats) rest ≡ whole) × HaveRoom (length rest) seats
replies_none seats answer left rest whole cut so_far room past = (
  ap (λ v. all_replied v rest) (replied_none seats answer past) ∙ ap (λ l. all_replied (views_of seats) l) (sym cut) ∙ so_far,
  room_less (length left) (length rest) seats (omega (arith, ap length cut)) room,
)
