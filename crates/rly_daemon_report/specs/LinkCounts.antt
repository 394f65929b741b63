-- The counts of a neighbour's link, and what a report has of it (docs/reference/DEFINITIONS.md, "Reports").
use Rattle.std.specs.Prelude.{ℕ, List, None}
use Rattle.rly_hop.specs.declared.message.StationId.{StationId}
use Rattle.rly_daemon_report.specs.Counts.{after_heard, after_sent}
use Rattle.rly_daemon_report.specs.HopCounts.{hop_after_heard, hop_after_sent}
use Rattle.rly_daemon_report.specs.declared.link_counts.LinkCounts.{LinkCounts}
use Rattle.rly_daemon_report.specs.declared.link_counts.LinkCounts.TheVariants.{Peer, Hop}
use Rattle.rly_daemon_report.specs.declared.link_counts.LinkReport.{LinkReport}

-- the counts after a packet was received from the neighbour's station at a moment
abbrev pub link_after_heard : StationId → StationId → ℕ → List ℕ → LinkCounts → LinkCounts
link_after_heard own station moment packet (Peer c) = Peer (after_heard own station moment packet c)
link_after_heard own station moment packet (Hop c) = Hop (hop_after_heard own station moment packet c)

-- the counts after a packet was sent to the neighbour's station
abbrev pub link_after_sent : StationId → StationId → List ℕ → LinkCounts → LinkCounts
link_after_sent own station packet (Peer c) = Peer (after_sent own station packet c)
link_after_sent own station packet (Hop c) = Hop (hop_after_sent own station packet c)

-- a link that wasn't used
abbrev pub no_link_report : LinkReport
no_link_report = record {
  heard = 0;
  custody = 0;
  refused = 0;
  malformed = 0;
  wrong = 0;
  repeats = 0;
  heards = 0;
  last = None;
}

-- a link with these counts, with this many packets of a wrong tag and this many Heards sent: those of a peer's link
-- are the Heards sent to it, and those of a hop's link the Heards received
abbrev pub link_report : LinkCounts → ℕ → ℕ → LinkReport
link_report (Peer c) wrong heards_sent = record {
  heard = c.heard;
  custody = c.custody;
  refused = c.refused;
  malformed = c.malformed;
  wrong = wrong;
  repeats = c.repeats;
  heards = heards_sent;
  last = c.last;
}
link_report (Hop c) wrong heards_sent = record {
  heard = c.heard;
  custody = c.custody;
  refused = c.refused;
  malformed = c.malformed;
  wrong = wrong;
  repeats = c.repeats;
  heards = c.heards;
  last = c.last;
}
