-- The play of all lines: with the remaining bytes, and with the added reply text.
use Rattle.std.proofs.Common.{◌≡◌, ◌≤◌, ℕ, List, [], ◌++◌, length, Option, Some, None, refl, sym, ◌∙◌, ap, subst, append_assoc, append-nil}
use Rattle.std.specs.Io.KnownBytes.{Appends, prepend_known}
use Rattle.rly_disk.specs.DiskModel.{DiskState, Later}
use Rattle.rly_journal.specs.Journal.{JournalState}
use Rattle.rly_machine.specs.declared.call.Answer.{Answer}
use Rattle.rly_machine.specs.declared.call.Call.{Call}
use Rattle.rly_daemon_reply.specs.Beginnings.{AppendsBeginning}
use Rattle.rly_daemon_reply.proofs.Flows.{begins_kept, keeps_same}
use Rattle.rly_daemon_lines.specs.Lines.{lines_of}
use Rattle.rly_daemon_lines.specs.HelpersOutflow.{Adds, AddsBeginning, Outflow, outflow_of}
use Rattle.rly_daemon_lines.specs.HelpersPlay.{AddsPlay, BeginsPlay, EndsAt, Gathers, IsAnsweredBy, PlaysSome, asks_of, round_text}
use Rattle.rly_daemon_lines.specs.PlayedText.{Plays, PlaysAll, PlaysFront}
use Rattle.rly_daemon_reply.specs.declared.reply_line.Subject.{Subject}
use Rattle.rly_daemon_lines.proofs.Courses.{plays_append, plays_none}
use Rattle.rly_daemon_lines.proofs.Outflows.{adds_adds, adds_begins, adds_none, begins_added, ends_begun, ends_written}
use Rattle.rly_daemon_lines.proofs.PlayedRounds.{plays_round}

module _ {D : Type 0} (batch : ℕ) (state : D → DiskState) where
  pub some_round : (j k : JournalState D) (left rest : Option (List ℕ)) (old mid new : Outflow) (slots : List (Option Subject)) (calls : List Call) (given : List Answer)
      → Gathers left rest slots (asks_of calls) → length slots ≤ batch → IsAnsweredBy state j k calls given → Later (state j.disk) (state k.disk)
      → Adds old mid [] → Adds mid new (round_text slots given) → PlaysSome batch state j k left rest old new
  some_round j k None rest old mid new slots calls given h few answered later same told = tt
  some_round j k (Some xs) None old mid new slots calls given h few answered later same told = absurd h
  some_round j k (Some xs) (Some ys) old mid new slots calls given h few answered later same told =
      (h.0, h.1, round_text slots given, plays_round batch state j k h.0 slots calls given few h.2 h.3 answered later, adds_adds old mid new [] (round_text slots given) same told)

  pub front_round : (j k : JournalState D) (left rest : Option (List ℕ)) (old mid new : Outflow) (slots : List (Option Subject)) (calls : List Call) (given : List Answer)
      → Gathers left rest slots (asks_of calls) → length slots ≤ batch → IsAnsweredBy state j k calls given → Later (state j.disk) (state k.disk)
      → Adds old mid [] → AddsBeginning mid new (round_text slots given) → BeginsPlay batch state j k left old new
  front_round j k None rest old mid new slots calls given h few answered later same told = tt
  front_round j k (Some xs) None old mid new slots calls given h few answered later same told = absurd h
  front_round j k (Some xs) (Some ys) old mid new slots calls given h few answered later same told =
      (h.0, lines_of ys, h.1, round_text slots given, plays_round batch state j k h.0 slots calls given few h.2 h.3 answered later, adds_begins old mid new [] (round_text slots given) same told)

  -- a failure before the round
  pub front_none : (j k : JournalState D) (left : Option (List ℕ)) (old new : Outflow) → k ≡ j → AddsBeginning old new [] → BeginsPlay batch state j k left old new
  front_none j k None old new same begun = tt
  front_none j k (Some xs) old new same begun =
      ([], lines_of xs, refl, [], subst (λ m. Plays batch state j m [] []) (sym same) (plays_none batch state j), begun)

  pub some_none : (j : JournalState D) (left : Option (List ℕ)) (now : Outflow) → PlaysSome batch state j j left left now now
  some_none j None now = tt
  some_none j (Some xs) now = ([], refl, [], plays_none batch state j, adds_none now)

  pub some_more : (i j k : JournalState D) (all left rest : Option (List ℕ)) (first old new : Outflow) → PlaysSome batch state i j all left first old → PlaysSome batch state j k left rest old new
      → PlaysSome batch state i k all rest first new
  some_more i j k None left rest first old new h m = tt
  some_more i j k (Some xs) None rest first old new h m = absurd h
  some_more i j k (Some xs) (Some ys) None first old new h m = absurd m
  some_more i j k (Some xs) (Some ys) (Some zs) first old new h m = (
    h.0 ++ m.0,
    h.1 ∙ ap (λ ls. h.0 ++ ls) m.1 ∙ sym (append_assoc h.0 m.0 (lines_of zs)),
    h.2 ++ m.2,
    plays_append batch state i j k h.0 m.0 h.2 m.2 h.3 m.3,
    adds_adds first old new h.2 m.2 h.4 m.4,
  )

  pub some_all : (i j k : JournalState D) (all left rest : Option (List ℕ)) (first old new : Outflow) → PlaysSome batch state i j all left first old → PlaysSome batch state j k left rest old new
      → EndsAt left rest → AddsPlay batch state i k all first new
  some_all i j k None left rest first old new h m end = tt
  some_all i j k (Some xs) None rest first old new h m end = absurd h
  some_all i j k (Some xs) (Some ys) None first old new h m end = absurd m
  some_all i j k (Some xs) (Some ys) (Some zs) first old new h m end =
      let more = some_more i j k (Some xs) (Some ys) (Some zs) first old new h m in
      let whole : lines_of xs ≡ more.0 = more.1 ∙ ap (λ ls. more.0 ++ ls) end ∙ append-nil more.0 in
      (more.2, subst (λ ls. Plays batch state i k ls more.2) (sym whole) more.3, more.4)

  pub some_front : (i j k : JournalState D) (all left : Option (List ℕ)) (first old new : Outflow) → PlaysSome batch state i j all left first old → BeginsPlay batch state j k left old new
      → BeginsPlay batch state i k all first new
  some_front i j k None left first old new h m = tt
  some_front i j k (Some xs) None first old new h m = absurd h
  some_front i j k (Some xs) (Some ys) first old new h m = (
    h.0 ++ m.0,
    m.1,
    h.1 ∙ ap (λ ls. h.0 ++ ls) m.2 ∙ sym (append_assoc h.0 m.0 m.1),
    h.2 ++ m.3,
    plays_append batch state i j k h.0 m.0 h.2 m.3 h.3 m.4,
    adds_begins first old new h.2 m.3 h.4 m.5,
  )

  -- ---- the pending text is flushed at the end

  pub all_written : (j k : JournalState D) (known a b c : Option (List ℕ)) (most : ℕ) (ahead none held : List ℕ) → most ≡ batch → ahead ≡ [] → none ≡ []
      → AddsPlay most state j k (prepend_known ahead known) (outflow_of a none) (outflow_of b held) → Appends b c held → PlaysAll batch state j k known a c
  all_written j k None a b c most ahead none held count front empty h m = tt
  all_written j k (Some xs) a b c most ahead none held count front empty h m =
      let all = rw (count, front, empty) at h in
      (all.0, all.1, ends_written a b c held all.0 all.2 m)

  pub front_written : (j k : JournalState D) (known a b c : Option (List ℕ)) (most : ℕ) (ahead none held : List ℕ) → most ≡ batch → ahead ≡ [] → none ≡ []
      → BeginsPlay most state j k (prepend_known ahead known) (outflow_of a none) (outflow_of b held) → AppendsBeginning b c held → PlaysFront batch state j k known a c
  front_written j k None a b c most ahead none held count front empty h m = tt
  front_written j k (Some xs) a b c most ahead none held count front empty h m =
      let begun = rw (count, front, empty) at h in
      (begun.0, begun.1, begun.2, begun.3, begun.4, ends_begun a b c held begun.3 begun.5 m)

  pub begins_all_lines : (j k : JournalState D) (left : Option (List ℕ)) (old new : Outflow) → AddsPlay batch state j k left old new → BeginsPlay batch state j k left old new
  begins_all_lines j k None old new h = tt
  begins_all_lines j k (Some xs) old new h = (lines_of xs, [], sym (append-nil (lines_of xs)), h.0, h.1, begins_added old new h.0 h.2)

  pub front_start : (j : JournalState D) (all writer : Option (List ℕ)) → PlaysFront batch state j j all writer writer
  front_start j None writer = tt
  front_start j (Some xs) writer = ([], lines_of xs, refl, [], plays_none batch state j, begins_kept writer writer [] (keeps_same writer))
