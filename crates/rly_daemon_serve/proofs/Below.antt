-- Posts whose links publish their counts do what the posts below do.
use Rattle.std.proofs.Common.{◌≡◌, ◌∙◌, List, [], ◌∷◌, ◌++◌, ap, append_assoc, arith, length, map, refl, subst, sym}
use Rattle.std.proofs.lemmas.List.{append-nil}
use Rattle.rly_daemon_reporter.specs.TalliedLink.{link_below}
use Rattle.rly_daemon_reporter.specs.declared.tallied_link.TalliedLink.{TalliedLink}
use Rattle.rly_daemon_serve.specs.Helpers.{post_below}
use Rattle.rly_posts.specs.Duties.{PostOver, StationPost, duty_at, duty_over}
use Rattle.rly_posts.specs.declared.neighbour_link.NeighbourLink.{NeighbourLink}

at_below : {B C : Type 0} (told : List (PostOver (TalliedLink (NeighbourLink C) B) C)) → map (duty_over link_below) told ≡ map duty_at (map post_below told)
at_below [] = refl
at_below (post ∷ told) = ap (λ ds. duty_over link_below post ∷ ds) (at_below told)

pub duties_below : {B C : Type 0} (told : List (PostOver (TalliedLink (NeighbourLink C) B) C)) (posts : List (StationPost C)) → map post_below told ≡ posts → map (duty_over link_below) told ≡ map duty_at posts
duties_below told posts same = at_below told ∙ ap (map duty_at) same

-- all were taken if none is left
pub all_there : {A : Type 0} (front left all : List A) → length left ≡ 0 → front ++ left ≡ all → front ≡ all
all_there front [] all none same = sym (append-nil front) ∙ same
all_there front (x ∷ left) all none same = absurd (omega (arith, none))

-- one more was taken
pub taken_one : {A : Type 0} (front now left rest all : List A) (x : A) → now ≡ front ++ x ∷ [] → left ≡ x ∷ rest → front ++ left ≡ all → now ++ rest ≡ all
taken_one {A} front now left rest all x more cut same = rw (more, append_assoc) (subst (λ (zs : List A). front ++ zs ≡ all) cut same)
