use Rattle.rly_journal.proofs.Common.{[], false≢true, inl, inr, map, nothing_tried, OnlyRead, refl, reply_of, rules, shown_state, sym, ◌∙◌}
use Rattle.rly_journal.proofs.Fetching.{IsInFlight, fetched_as, fetching_as, in_flight, lies_within, lost_as}
use Rattle.rly_journal.proofs.Reading.{payload_read, sound_read}
use Rattle.rly_journal.proofs.journal.Journal.fetch.Goals.{After-place_of-place, After-read_payload}
use Rattle.rly_journal.proofs.journal.Journal.fetch.Goals as goal

pub returns-then-self-clause-trace : goal.returns-then-self-clause-trace
returns-then-self-clause-trace g c =
    rw (← c.self.view_is) ([], nothing_tried g.D.Disk.state c.self.inside.disk, (λ _. refl), λ whole. absurd (false≢true (sym whole ∙ c.if-self.true)))

-- ---- the item wasn't found

pub returns-in-Err-clause-refused : goal.returns-in-Err-clause-refused
returns-in-Err-clause-refused g c =
    let told = c.law_fetched.ensures.refused c.self.inside.index.spool.state _ _ _ _ c.self.invariant.0.alike c.in-Err.ensures.err in
    rw (← c.self.view_is) (inr (c.if-self.false, inl told))

pub returns-in-Err-clause-trace : goal.returns-in-Err-clause-trace
returns-in-Err-clause-trace g c =
    let told = c.law_fetched.ensures.refused c.self.inside.index.spool.state _ _ _ _ c.self.invariant.0.alike c.in-Err.ensures.err in
    rw (← c.self.view_is) ([], nothing_tried g.D.Disk.state c.self.inside.disk, (λ _. refl), λ _. rw told refl)

-- the item was found, and its device address
flight : (g : _) (c : After-place_of-place g) → let j = c.self.inside in IsInFlight j.index.geometry j.index.spool.state
    (shown_state (g.D.Disk.state j.first_disk.value).seen j.first_index.value.spool.state (map (λ e. e.0.value) j.accepted.items))
    c.args.hop c.args.number c.in-Ok.item.now c.place_of-place.result
flight g c = in_flight c.law_index.ensures.holds c.args.hop c.args.number c.in-Ok.ensures.ok c.self.invariant.0.alike c.place_of-place.ensures

pub read_payload-requires : goal.read_payload-requires
read_payload-requires g c =
    let f = flight g (goal.at.read_payload-requires g c).After-place_of-place in let sound = c.self.invariant.0 in
    let layout = rw (← (sound.ends c.if-self.false).geometry) at sound.shaped.geometry in record { there = lies_within _ _ _ _ layout f.there f.lies }

-- the disk was only read
only_read : (g : _) (c : After-read_payload g) → OnlyRead (g.D.Disk.state c.self.inside.disk) (g.D.Disk.state c.read_payload.new.disk)
only_read g c = payload_read g.D.Disk.state g.met.D.Disk.consistent c.place_of-place.result (reply_of 0 c.read_payload.result) (c.read_payload.ensures.trace 0)

pub invariant_of-self : goal.invariant_of-self
invariant_of-self g c = (sound_read (only_read g (goal.at.invariant_of-self g c).After-read_payload) c.self.invariant.0, c.self.invariant.1)

pub invariant_of-self-2 : goal.invariant_of-self-2
invariant_of-self-2 g c = (sound_read (only_read g (goal.at.invariant_of-self-2 g c).After-read_payload) c.self.invariant.0, c.self.invariant.1)

pub returns-in-Err-read_payload : goal.returns-in-Err-read_payload
returns-in-Err-read_payload g c =
    let at = goal.at.returns-in-Err-read_payload g c in let f = flight g at.After-place_of-place in
    let lost = lost_as f (g.D.Disk.state c.self.inside.disk) 0 c.in-Err-read_payload.refusal (c.in-Err-read_payload.ensures.payload 0) in
    rw (← c.self.view_is) (record {
      found = tt;
      refused = inr (c.if-self.false, inr lost);
      same = search rules;
      only = only_read g at.After-read_payload;
      trace = (_, c.in-Err-read_payload.ensures.trace 0, (λ broken. absurd (false≢true (sym c.if-self.false ∙ broken))), λ _. fetching_as f _);
    })

pub returns : goal.returns
returns g c =
    let at = goal.at.returns g c in let f = flight g at.After-place_of-place in
    let bytes = (c.self.invariant.0.kept c.if-self.false).bytes in
    rw (← c.self.view_is) (record {
      found = (c.if-self.false, fetched_as f (g.D.Disk.state c.self.inside.disk) bytes (c.in-Ok-read_payload.ensures.payload 0) c.into_bytes.ensures);
      refused = tt;
      same = search rules;
      only = only_read g at.After-read_payload;
      trace = (_, c.in-Ok-read_payload.ensures.trace 0, (λ broken. absurd (false≢true (sym c.if-self.false ∙ broken))), λ _. fetching_as f _);
    })
