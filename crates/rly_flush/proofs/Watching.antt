-- A watch is shown the rounds of a flusher.
use Rattle.std.proofs.Common.{ℕ, ◌≡◌, ◌++◌, ◌∷◌, [], List, Bool, true, false, Option, None, Some, ap, sym, subst, ◌∙◌, append_assoc, append-nil}
use Rattle.std.specs.Prelude.{MatchBool}
use Rattle.std.specs.List.{flat_map}
use Rattle.std.proofs.lemmas.List.{flat_map_more}
use Rattle.rly_flush.specs.FlusherHistory.{FlusherState, over_now}
use Rattle.rly_flush.specs.RoundWatch.{HasWatched, HasWatchedRound, Look, MadeRound, ShowsMore, entries_of, looks_of}

-- first these, then those
pub shows_both : (before between after : Option (List Look)) (first second : List Look)
    → ShowsMore before between first → ShowsMore between after second → ShowsMore before after (first ++ second)
shows_both None between after first second more most = tt
shows_both (Some told) between after first second more most =
    subst (λ b. ShowsMore b after second) more most ∙ ap Some (append_assoc told first second)

shows_none : (before : Option (List Look)) → ShowsMore before before []
shows_none None = tt
shows_none (Some told) = ap Some (sym (append-nil told))

module _ {D : Type 0} where
  -- no round was made
  pub watched_first : (before : Option (List Look)) (f : FlusherState D) → HasWatched before before f f
  watched_first before f = record { rounds = []; history = sym (append-nil f.line.history); shown = shows_none before }

  -- one round more
  watched_more : (before between after : Option (List Look)) (a b e : FlusherState D) → HasWatched before between a b
      → HasWatchedRound between after b e → HasWatched before after a e
  watched_more before between after a b e so_far next = record {
    rounds = so_far.rounds ++ next.round ∷ [];
    history = next.history ∙ ap (λ h. h ++ entries_of next.round) so_far.history ∙ flat_map_more entries_of a.line.history so_far.rounds next.round;
    shown = subst (ShowsMore before after) (flat_map_more looks_of [] so_far.rounds next.round)
        (shows_both before between after (flat_map looks_of so_far.rounds) (looks_of next.round) so_far.shown next.shown);
  }

  -- or none
  pub watched_next : {V : Type 0} (shown : V → Option (List Look)) (before : Option (List Look)) (x y : V) (a b e : FlusherState D) (made : Bool)
      (One : Type 0) → MatchBool made One (e ≡ over_now b) → MatchBool made (HasWatchedRound (shown x) (shown y) b e) (y ≡ x)
      → HasWatched before (shown x) a b → HasWatched before (shown y) a e
  watched_next shown before x y a b e true One took watched so_far = watched_more before (shown x) (shown y) a b e so_far watched
  watched_next shown before x y a b e false One took watched so_far = record {
    rounds = so_far.rounds;
    history = ap (λ (f : FlusherState D). f.line.history) took ∙ so_far.history;
    shown = subst (λ s. ShowsMore before s (flat_map looks_of so_far.rounds)) (ap shown (sym watched)) so_far.shown;
  }
