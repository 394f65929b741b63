-- The lines of all hops, one hop after the other.
use Rattle.std.proofs.Common.{◌≡◌, ℕ, ◌+◌, ◌<◌, ◌≤◌, Bool, List, [], ◌∷◌, ◌++◌, length, get_or, set, take, drop, Option, None, refl, ◌∙◌, ap, sym, arith, append_assoc}
use Rattle.std.proofs.lemmas.List.{append-nil, drop-set-lt, drop_all, drop_more, length-set, take_all, take_more_set}
use Rattle.std.proofs.KnownBytes.{Appends-trans}
use Rattle.std.specs.Io.KnownBytes.{Appends}
use Rattle.rly_plan.specs.ContactPlan.{ContactPlan}
use Rattle.rly_daemon_events.specs.declared.hop_event.HopEvent.{HopEvent}
use Rattle.rly_daemon_events.specs.HopEvents.{hop_at, last_after, lasts_at, lasts_from, lines_at, lines_from, lines_text, told_at}

-- the lines up to a place were written, and the last ones up to it are those after them
pub record AreTold (plan : ContactPlan) (now : ℕ) (resting : List Bool) (old lasts : List (Option HopEvent)) (before after : Option (List ℕ)) (place : ℕ) : Type 0 where
  pub text : List ℕ
  pub written : Appends before after text
  pub rest : text ++ lines_from plan now resting place (drop place lasts) ≡ lines_at plan now resting old
  pub told : take place lasts ++ lasts_from plan now resting place (drop place lasts) ≡ lasts_at plan now resting old
  pub count : length lasts ≡ length old

pub none_yet : (plan : ContactPlan) (now : ℕ) (resting : List Bool) (old : List (Option HopEvent)) (before : Option (List ℕ)) → Appends before before []
    → AreTold plan now resting old old before before 0
none_yet plan now resting old before same = record { text = []; written = same; rest = refl; told = refl; count = refl }

-- those of one hop more
pub one_more : (plan : ContactPlan) (now : ℕ) (resting : List Bool) (old lasts later : List (Option HopEvent)) (before mid after : Option (List ℕ)) (place : ℕ)
    → place < length lasts → AreTold plan now resting old lasts before mid place
    → Appends mid after (lines_text (hop_at place) (told_at plan now resting place (get_or lasts place None)))
    → later ≡ set lasts place (last_after (get_or lasts place None) (told_at plan now resting place (get_or lasts place None)))
    → AreTold plan now resting old later before after (place + 1)
one_more plan now resting old lasts later before mid after place within are line is =
    let last : Option HopEvent = get_or lasts place None in
    let lines : List ℕ = lines_text (hop_at place) (told_at plan now resting place last) in
    let next : Option HopEvent = last_after last (told_at plan now resting place last) in
    let cut : drop place lasts ≡ last ∷ drop (place + 1) lasts = drop_more lasts place None within in
    let behind : drop (place + 1) later ≡ drop (place + 1) lasts = ap (drop (place + 1)) is ∙ drop-set-lt (place + 1) lasts place next (omega arith) in
    let front : take (place + 1) later ≡ take place lasts ++ next ∷ [] = ap (take (place + 1)) is ∙ take_more_set lasts place next within in
    record {
      text = are.text ++ lines;
      written = Appends-trans before mid after are.text lines are.written line;
      rest = rw (behind, append_assoc) (ap (λ rest. are.text ++ lines_from plan now resting place rest) (sym cut) ∙ are.rest);
      told = rw (front, behind, append_assoc) (ap (λ rest. take place lasts ++ lasts_from plan now resting place rest) (sym cut) ∙ are.told);
      count = ap length is ∙ length-set lasts place next ∙ are.count;
    }

-- those of all hops
pub record AreAllTold (plan : ContactPlan) (now : ℕ) (resting : List Bool) (old lasts : List (Option HopEvent)) (before after : Option (List ℕ)) : Type 0 where
  pub written : Appends before after (lines_at plan now resting old)
  pub told : lasts ≡ lasts_at plan now resting old

pub all_told : (plan : ContactPlan) (now : ℕ) (resting : List Bool) (old lasts : List (Option HopEvent)) (before after : Option (List ℕ)) (place : ℕ)
    → length lasts ≤ place → AreTold plan now resting old lasts before after place → AreAllTold plan now resting old lasts before after
all_told plan now resting old lasts before after place past are =
    let none : drop place lasts ≡ [] = drop_all place lasts past in
    let whole : take place lasts ≡ lasts = take_all place lasts past in
    let text : are.text ≡ lines_at plan now resting old = sym (append-nil are.text) ∙ ap (λ rest. are.text ++ lines_from plan now resting place rest) (sym none) ∙ are.rest in
    let told : lasts ≡ lasts_at plan now resting old =
    sym whole ∙ sym (append-nil (take place lasts)) ∙ ap (λ rest. take place lasts ++ lasts_from plan now resting place rest) (sym none) ∙ are.told in
    record { written = rw text at are.written; told = told }
