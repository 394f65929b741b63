-- Each thread returns the promised result of its worker's post.
use Rattle.std.proofs.Common.{◌≡◌, ◌∙◌, ◌&&◌, ℕ, List, [], ◌∷◌, Bool, false, true, refl, subst, sym}
use Rattle.std.specs.List.{AllByRecursion, AllZip, list_all, zip}
use Rattle.std.specs.Option.{is_some}
use Rattle.std.specs.Prelude.{Err, IfOk, IfSome, None, Ok, Option, Result, Some}
use Rattle.std.specs.declared.thread.PromisedHandle.{PromisedHandle}
use Rattle.rly_core.specs.declared.ids.HopId.{HopId}
use Rattle.rly_core.specs.declared.params.Params.{Params}
use Rattle.rly_line.specs.EndViews.{ClosedView}
use Rattle.rly_line.specs.Replies.{ReplyId}
use Rattle.rly_line.specs.ResponderView.{AreReported, IsAnsweredBy, IsLeftBy, IsSeatOf, ResponderView}
use Rattle.rly_line.specs.Seats.{Caller}
use Rattle.rly_line.specs.Submission.{LineId}
use Rattle.rly_line.proofs.Closing.{answered_by}
use Rattle.rly_plan.specs.ContactPlan.{ContactPlan}
use Rattle.rly_threads.specs.declared.relay.Duty.{Duty}
use Rattle.rly_threads.specs.declared.relay.Ended.{Ended}
use Rattle.rly_threads.specs.declared.relay.Left.{Left}
use Rattle.rly_link.specs.declared.post.Post.{Post}
use Rattle.rly_link.specs.LinkHistory.{Handed, Hearing}
use Rattle.rly_threads.specs.HelpersCut.{AreSeatsOf, GivesBack, IsFor, IsJoined}
use Rattle.rly_threads.specs.Relay.{AreAnsweredBy, HasEnded, HaveEnded}
use Rattle.rly_threads.proofs.Threads.{through}

-- a property of the pairs of two lists holds for their items
pub second_all : {A B : Type 0} (R : A → B → Type 0) (Q : B → Type 0) → ((a : A) (b : B) → R a b → Q b) → (xs : List A) (ys : List B) → AllZip R xs ys → AllByRecursion Q ys
second_all R Q each [] [] all = tt
second_all R Q each [] (y ∷ ys) all = absurd all
second_all R Q each (x ∷ xs) [] all = absurd all
second_all R Q each (x ∷ xs) (y ∷ ys) all = (each x y all.0, second_all R Q each xs ys all.1)

kept_one : {L T W : Type 0} (heard : L → Option (List Hearing)) (sent : L → Option (List (List ℕ))) (handed : T → Option (List Handed)) (endless : T → Bool) (woken : W → Option (List HopId)) (plan : ContactPlan) (params : Params) (lock : ℕ) (said : Bool) (lines : ClosedView)
    (given : Post L T W × Caller) (thread : Option (PromisedHandle (Left L T W) (Duty L T W))) (ended : Option (Ended L T W))
    → IsFor plan params lock given thread → GivesBack (IsJoined heard sent handed endless woken said lines) thread ended
    → HaveEnded heard sent handed endless woken plan params given ended
kept_one {L} {T} {W} heard sent handed endless woken plan params lock said lines given None ended is_for gave =
    subst (HaveEnded heard sent handed endless woken plan params given) (sym gave) tt
kept_one heard sent handed endless woken plan params lock said lines given (Some thread) None is_for gave = tt
kept_one {L} {T} {W} heard sent handed endless woken plan params lock said lines given (Some thread) (Some worker) is_for gave =
    subst (λ (y : ContactPlan × Params × Post L T W × Caller). HasEnded heard sent handed endless woken y.0 y.1 (y.2, y.3) worker.post worker.seat.value worker.was_cut)
    (λ i. (is_for.0 i, is_for.1 i, is_for.2 i, is_for.4 i)) gave.0

-- each worker that had a thread did as its post promised
pub kept_through : {L T W : Type 0} (heard : L → Option (List Hearing)) (sent : L → Option (List (List ℕ))) (handed : T → Option (List Handed)) (endless : T → Bool) (woken : W → Option (List HopId)) (plan : ContactPlan) (params : Params) (lock : ℕ) (said : Bool) (lines : ClosedView)
    (given : List (Post L T W × Caller)) (threads : List (Option (PromisedHandle (Left L T W) (Duty L T W)))) (results : List (Option (Ended L T W)))
    → AllZip (IsFor plan params lock) given threads → AllZip (GivesBack (IsJoined heard sent handed endless woken said lines)) threads results
    → AllZip (HaveEnded heard sent handed endless woken plan params) given results
kept_through {L} {T} {W} heard sent handed endless woken plan params lock said lines given threads results are_for gave =
    through (IsFor plan params lock) (GivesBack (IsJoined heard sent handed endless woken said lines)) (HaveEnded heard sent handed endless woken plan params)
    (kept_one heard sent handed endless woken plan params lock said lines) given threads results are_for gave

cut_one : {L T W : Type 0} (heard : L → Option (List Hearing)) (sent : L → Option (List (List ℕ))) (handed : T → Option (List Handed)) (endless : T → Bool) (woken : W → Option (List HopId)) (said : Bool) (lines : ClosedView)
    (thread : Option (PromisedHandle (Left L T W) (Duty L T W))) (ended : Option (Ended L T W)) → GivesBack (IsJoined heard sent handed endless woken said lines) thread ended
    → IfSome ended (λ worker. worker.was_cut ≡ true → said ≡ true)
cut_one {L} {T} {W} heard sent handed endless woken said lines None ended gave = subst (λ (e : Option (Ended L T W)). IfSome e (λ worker. worker.was_cut ≡ true → said ≡ true)) (sym gave) tt
cut_one heard sent handed endless woken said lines (Some thread) None gave = tt
cut_one heard sent handed endless woken said lines (Some thread) (Some worker) gave = gave.1

-- none was stopped unless the flag was set
pub all_cut : {L T W : Type 0} (heard : L → Option (List Hearing)) (sent : L → Option (List (List ℕ))) (handed : T → Option (List Handed)) (endless : T → Bool) (woken : W → Option (List HopId)) (said : Bool) (lines : ClosedView)
    (threads : List (Option (PromisedHandle (Left L T W) (Duty L T W)))) (results : List (Option (Ended L T W))) → AllZip (GivesBack (IsJoined heard sent handed endless woken said lines)) threads results
    → AllByRecursion (λ ended. IfSome ended (λ worker. worker.was_cut ≡ true → said ≡ true)) results
all_cut heard sent handed endless woken said lines threads results gave = second_all _ _ (cut_one heard sent handed endless woken said lines) threads results gave

-- as many results as threads
pub all_there : {H R : Type 0} (Gives : H → R → Type 0) (threads : List (Option H)) (results : List (Option R)) → AllZip (GivesBack Gives) threads results
    → list_all is_some threads ≡ list_all is_some results
all_there Gives [] [] gave = refl
all_there Gives [] (r ∷ results) gave = absurd gave
all_there Gives (t ∷ threads) [] gave = absurd gave
all_there {H} {R} Gives (None ∷ threads) (r ∷ results) gave = subst (λ (e : Option R). false ≡ (is_some e && list_all is_some results)) (sym gave.0) refl
all_there Gives (Some t ∷ threads) (None ∷ results) gave = absurd gave.0
all_there Gives (Some t ∷ threads) (Some r ∷ results) gave = all_there Gives threads results gave.1

told_one : {L T W : Type 0} (plan : ContactPlan) (params : Params) (lock said : ℕ) → said ≡ lock → (given : Post L T W × Caller) (thread : Option (PromisedHandle (Left L T W) (Duty L T W))) → IsFor plan params lock given thread
    → IfSome thread (λ t. t.promise.stop_flag.value.id ≡ said)
told_one plan params lock said same given None is_for = tt
told_one plan params lock said same given (Some thread) is_for = is_for.3 ∙ sym same

-- each read that flag
pub all_told : {L T W : Type 0} (plan : ContactPlan) (params : Params) (lock said : ℕ) → said ≡ lock → (given : List (Post L T W × Caller)) (threads : List (Option (PromisedHandle (Left L T W) (Duty L T W))))
    → AllZip (IsFor plan params lock) given threads → AllByRecursion (λ thread. IfSome thread (λ t. t.promise.stop_flag.value.id ≡ said)) threads
all_told plan params lock said same given threads are_for = second_all _ _ (told_one plan params lock said same) given threads are_for

-- a property of an outcome, restated
pub if_ok : {A E : Type 0} {P Q : A → Type 0} (r : Result A E) → IfOk r P → ((a : A) → P a → Q a) → IfOk r Q
if_ok (Ok a) is then = then a is
if_ok (Err e) is then = tt

told_seat : {L T W : Type 0} (plan : ContactPlan) (params : Params) (lock : ℕ) (of : LineId) (names : List (Option ReplyId)) (given : Post L T W × Caller) (thread : Option (PromisedHandle (Left L T W) (Duty L T W)))
    → IsFor plan params lock given thread → IsSeatOf of names given.1 → IfSome thread (λ t. IsSeatOf of names t.promise.seat.value)
told_seat plan params lock of names given None is_for its = tt
told_seat plan params lock of names given (Some thread) is_for its = subst (IsSeatOf of names) (sym is_for.4) its

-- the threads were started for seats of these lines
pub are_seats : {L T W : Type 0} (plan : ContactPlan) (params : Params) (lock : ℕ) (of : LineId) (names : List (Option ReplyId)) (posts : List (Post L T W)) (seats : List Caller)
    (threads : List (Option (PromisedHandle (Left L T W) (Duty L T W)))) → AllZip (IsFor plan params lock) (zip posts seats) threads → AllByRecursion (IsSeatOf of names) seats → AreSeatsOf of names threads
are_seats plan params lock of names posts seats [] are_for its = tt
are_seats plan params lock of names [] seats (t ∷ threads) are_for its = absurd are_for
are_seats plan params lock of names (p ∷ posts) [] (t ∷ threads) are_for its = absurd are_for
are_seats plan params lock of names (p ∷ posts) (s ∷ seats) (t ∷ threads) are_for its =
    (told_seat plan params lock of names (p, s) t are_for.0 its.0, are_seats plan params lock of names posts seats threads are_for.1 its.1)

answered_one : {L T W : Type 0} (heard : L → Option (List Hearing)) (sent : L → Option (List (List ℕ))) (handed : T → Option (List Handed)) (endless : T → Bool) (woken : W → Option (List HopId)) (said : Bool) (lines : ClosedView)
    (r : ResponderView) → IsLeftBy r lines → AreReported r.start r.history r.lines
    → (thread : Option (PromisedHandle (Left L T W) (Duty L T W))) (ended : Option (Ended L T W)) → GivesBack (IsJoined heard sent handed endless woken said lines) thread ended
    → IfSome ended (λ worker. IsAnsweredBy r worker.seat.value)
answered_one {L} {T} {W} heard sent handed endless woken said lines r left told None ended gave = subst (λ (e : Option (Ended L T W)). IfSome e (λ worker. IsAnsweredBy r worker.seat.value)) (sym gave) tt
answered_one heard sent handed endless woken said lines r left told (Some thread) None gave = tt
answered_one heard sent handed endless woken said lines r left told (Some thread) (Some worker) gave = answered_by r lines worker.seat.value left told gave.3 gave.2

-- so each is related to its answering thread
pub all_answered : {L T W : Type 0} (heard : L → Option (List Hearing)) (sent : L → Option (List (List ℕ))) (handed : T → Option (List Handed)) (endless : T → Bool) (woken : W → Option (List HopId)) (said : Bool) (lines : ClosedView)
    (r : ResponderView) → IsLeftBy r lines → AreReported r.start r.history r.lines
    → (threads : List (Option (PromisedHandle (Left L T W) (Duty L T W)))) (results : List (Option (Ended L T W))) → AllZip (GivesBack (IsJoined heard sent handed endless woken said lines)) threads results
    → AreAnsweredBy r results
all_answered heard sent handed endless woken said lines r left told threads results gave =
    second_all _ _ (answered_one heard sent handed endless woken said lines r left told) threads results gave
