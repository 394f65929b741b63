-- The laws: from the events of the calls to the folder.
use Rattle.std.proofs.Common.{[], arith, Bool, false, true, if◌then◌else◌, inl, inr, List, refl, ⊎_elim, ℕ, None, ◌+◌, ◌≤◌, ◌<◌, ◌≡◌}
use Rattle.std.proofs.lemmas.Bool.{cases_lt}
use Rattle.rly_folder.specs.FolderCalls.{are_possible, contents_at_end, FolderEvent, images_at_end, Leads, ListNames, Makes, Outcome}
use Rattle.rly_folder.specs.FolderModel.{Consistent, File, file_with, Files, FolderState, LeavesOnly, with_file}
use Rattle.rly_folder.specs.Names.{name_of}
use Rattle.rly_folder.specs.declared.name.Area.{Area}
use Rattle.rly_folder.specs.declared.name.Area.TheVariants.{Kept, Out}
use Rattle.rly_link_folder.specs.Handing.{HandedOut, Holds, IsGreatest, IsThere, OnlyReaders, Serves}
use Rattle.rly_link_folder.specs.OutboxCalls.{HandsOut}
use Rattle.rly_link_folder.proofs.FilesHandedOut.{added, adds, goes_on, is_kept, makes_name, moves_name, removes, removes_there, removes_with, was_there, WithNext}
use Rattle.rly_link_folder.proofs.Handed.{Both, one_call, over_nil, Over, Reaches}
use Rattle.rly_link_folder.proofs.Steps.{keeps_number, puts}

module _ (datagrams : ℕ → File) (read : ℕ → Bool) (g : ℕ) where
  -- the property over the events of the calls
  over_calls : (whole : Bool) {D : Type 0} (state : D → FolderState) {a b : D} (calls : HandsOut state g (g + 1) (datagrams (g + 1)) whole a b)
      → OnlyReaders read calls.makes.events → are_possible calls.makes.events (state a).seen ≡ true → Holds datagrams read g (state a)
      → Reaches (HandedOut datagrams read g) (HandedOut datagrams read (g + 1)) whole calls.makes.events (state a).seen (state a).images
  over_calls whole state {a} {b} calls readers possible holds =
      puts (HandedOut datagrams read g) (λ c. IsThere datagrams read c (g + 1)) (HandedOut datagrams read (g + 1)) read (removes datagrams read g) (removes_there datagrams read g) _ calls.steps whole
      (datagrams (g + 1)) (name_of Out (g + 1)) calls.linked (adds datagrams read g) (added datagrams read g) (was_there datagrams read g)
      (λ rest final J p q made left can.
      let r = keeps_number (WithNext datagrams read g) (HandedOut datagrams read (g + 1)) read (removes_with datagrams read g) (removes datagrams read (g + 1)) _ whole g (g + 1) calls.steps calls.keeping
      (makes_name datagrams read g) (moves_name datagrams read g)
      (λ files w. goes_on datagrams read g _ (makes_name datagrams read g files w) (is_kept (g + 1) (file_with [] 0) files))
      (λ files w some. goes_on datagrams read g files w some)
      (λ files file w. goes_on datagrams read g _ (moves_name datagrams read g files file w) (is_kept (g + 1) file (with_file (name_of Kept g) None files)))
      rest final J made left can ((p.0, q.0), λ c image. (p.1 c image, q.1 c image)) in
      (((r.0.0.0.0, λ c image. (r.0.0.1 c image).0), λ c image. (r.0.1 c image).0), r.1))
      calls.makes.events (state a).seen (state a).images calls.makes.made readers possible (holds.seen, holds.each)

-- the folder after these events
module _ (datagrams : ℕ → File) (read : ℕ → Bool) (g : ℕ) (a b : FolderState) (events : List FolderEvent) (consistent : Consistent a)
    (holds : Holds datagrams read g a) (leads : Leads events a b) where
  crashes : Over (HandedOut datagrams read g) events a.seen a.images → LeavesOnly a b (HandedOut datagrams read g)
  crashes over = let f = leads.follows holds.honest in record {
    later = f.later;
    each = λ c was. ⊎_elim (λ earlier. holds.each c (consistent.only_now c earlier)) (λ within. over.1 c within) (f.since a.moment c (omega arith) was);
    before = λ t c le was. ⊎_elim (λ earlier. inl earlier) (λ within. inr (over.1 c within)) (f.since t c le was);
  }

  then_holds : (n : ℕ) → Both (HandedOut datagrams read n) (contents_at_end events a.seen) (images_at_end events a.seen a.images) → Holds datagrams read n b
  then_holds n both = let f = leads.follows holds.honest in record {
    honest = leads.honest.1 holds.honest;
    seen = rw f.seen both.0;
    each = λ c image. both.1 c (f.images c image);
  }

  serves : (whole : Bool) → Reaches (HandedOut datagrams read g) (HandedOut datagrams read (g + 1)) whole events a.seen a.images
      → Serves datagrams read g (if whole then g + 1 else g) a b
  serves true reaches = record { crashes = crashes reaches.0; holds = then_holds (g + 1) (reaches.1 refl) }
  serves false reaches = record { crashes = crashes reaches.0; holds = then_holds g reaches.0.0 }

  stays : Over (HandedOut datagrams read g) events a.seen a.images → Serves datagrams read g g a b
  stays over = record { crashes = crashes over; holds = then_holds g over.0 }

pub hands_out : (datagrams : ℕ → File) (read : ℕ → Bool) (g : ℕ) (whole : Bool) {D : Type 0} (state : D → FolderState) {a b : D}
    → ((folder : D) → (state folder).honest → Consistent (state folder))
    → (calls : HandsOut state g (g + 1) (datagrams (g + 1)) whole a b) → OnlyReaders read calls.makes.events → Holds datagrams read g (state a)
    → Serves datagrams read g (if whole then g + 1 else g) (state a) (state b)
hands_out datagrams read g whole state {a} {b} consistent calls readers holds =
    serves datagrams read g (state a) (state b) calls.makes.events (consistent a holds.honest) holds calls.makes.leads whole
    (over_calls datagrams read g whole state calls readers (calls.makes.leads.follows holds.honest).possible holds)

pub lists : (datagrams : ℕ → File) (read : ℕ → Bool) (g : ℕ) (area : Area) (outcome : Outcome) {D : Type 0} (state : D → FolderState) {a b : D}
    → ((folder : D) → (state folder).honest → Consistent (state folder))
    → (calls : Makes state (ListNames area) outcome a b) → OnlyReaders read calls.events → Holds datagrams read g (state a)
    → Serves datagrams read g g (state a) (state b)
lists datagrams read g area outcome state {a} {b} consistent calls readers holds =
    stays datagrams read g (state a) (state b) calls.events (consistent a holds.honest) holds calls.leads
    (⊎_elim (λ one. one_call (HandedOut datagrams read g) read (removes datagrams read g) (ListNames area) outcome calls.events (state a).seen (state a).images one readers
    (calls.leads.follows holds.honest).possible (λ now same p able c pc. pc) (holds.seen, holds.each))
    (λ spent. rw spent.0 (over_nil (HandedOut datagrams read g) (state a).seen (state a).images (holds.seen, holds.each))) calls.made)

pub opens_to : (datagrams : ℕ → File) (read : ℕ → Bool) (g n : ℕ) (files : Files) → HandedOut datagrams read g files → IsGreatest files n → (g ≤ n) × (n ≤ g + 1)
opens_to datagrams read g n files p is = (⊎_elim (λ less. absurd (low less)) (λ le. le) (cases_lt n g), ⊎_elim (λ less. absurd (high less)) (λ le. le) (cases_lt (g + 1) n))
  where
    low : n < g → ⊥
    low less = ⊎_elim (λ zero. omega (arith, less, zero)) (⊎_elim (λ kept. cc ((is.bound g less).1, kept)) (λ kept. cc ((is.bound (g + 1) (omega (arith, less))).1, kept))) p.kept

    high : g + 1 < n → ⊥
    high less = ⊎_elim (λ zero. omega (arith, less, zero)) (⊎_elim (λ out. cc ((p.bound n less).0, out)) (λ kept. cc ((p.bound n less).1, kept))) is.found
