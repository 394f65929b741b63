-- One round of the journal, from a batch of lines.
use Rattle.std.proofs.Common.{◌≡◌, ◌⊎◌, ◌≤◌, ℕ, List, [], ◌∷◌, length, map, true, false, true≢false, Option, Some, None, refl, sym, ◌∙◌, ap, subst, arith, append-nil, inl, inr}
use Rattle.std.proofs.lemmas.List.{length-map}
use Rattle.rly_core.specs.declared.refusal.Refusal.{Refusal}
use Rattle.rly_core.specs.declared.refusal.Refusal.TheVariants.{Broken, DeviceRead, Line, OutOfMemory, Unsure}
use Rattle.rly_disk.specs.DiskModel.{DiskState, Later}
use Rattle.rly_journal.specs.Journal.{HasFailedRead, holds_command, IsRound, IsShut, JournalState}
use Rattle.rly_journal.specs.Rounds.{refusal_of, refusals}
use Rattle.rly_machine.specs.declared.call.Answer.{Answer}
use Rattle.rly_machine.specs.declared.call.Call.{Call}
use Rattle.rly_machine.specs.declared.command.Ask.{Ask}
use Rattle.rly_machine.specs.declared.reply.Reply.{Reply}
use Rattle.rly_machine.specs.declared.reply.Reply.TheVariants.{Refused}
use Rattle.rly_daemon_lines.specs.Grammar.{ask_in_line}
use Rattle.rly_daemon_lines.specs.HelpersPlay.{IsAnsweredBy, asks_in, asks_of, round_text, subject_in}
use Rattle.rly_daemon_lines.specs.PlayedText.{AreLinesLostWhereWanted, AreLinesRefused, AreLinesServed, AreLostForHead, AreUnreadOnlyWhere, IsLostInRounds, PlayCourse, Plays}
use Rattle.rly_daemon_lines.specs.Text.{ByteState}
use Rattle.rly_daemon_reply.specs.declared.reply_line.Subject.{Subject}
use Rattle.rly_daemon_lines.proofs.Courses.{by_flag, plays_of}
use Rattle.rly_daemon_lines.proofs.Losing.{broken_unread, broken_wanted}
use Rattle.rly_daemon_lines.proofs.Merging.{merge, merge_asked, merge_commands, merge_refused, merge_served, merge_text, merge_unread, merge_wanted}
use Rattle.rly_daemon_lines.proofs.LineAnswers.{lost_served}

abbrev first_reply : List Answer → Reply
first_reply [] = Refused Line
first_reply (answer ∷ given) = answer.reply

-- calls with a command among them aren't refused by two refusals at once
one_refusal : (one other : Refusal) → (Refused one ≡ Refused other → ⊥) → (p q : ℕ) (calls : List Call) → holds_command calls ≡ true
    → refusals one p calls ≡ refusals other q calls → ⊥
one_refusal one other differ p q [] holds same = absurd (true≢false (sym holds))
one_refusal one other differ p q (call ∷ calls) holds same = differ (ap first_reply same)

module _ {D : Type 0} (batch : ℕ) (state : D → DiskState) where
  -- ---- a round that was shut

  shut_served : (j k : JournalState D) (asked : List (Option Ask)) (calls : List Call) (given : List Answer) → asks_of calls ≡ asks_in asked → IsShut j k calls given
      → AreLinesServed (state j.disk) j.state (merge asked given) k.state
  shut_served j k asked calls given same shut =
      subst (λ t. AreLinesServed (state j.disk) j.state (merge asked given) t) (sym (ap (λ (m : JournalState D). m.state) shut.0.same))
      (elim shut.1 [
        | inl memory ↦
            subst (λ gs. AreLinesServed (state j.disk) j.state (merge asked gs) j.state) (sym memory)
            (lost_served (state j.disk) OutOfMemory refl (inl refl) j.state (merge asked (refusals OutOfMemory j.position calls)) (merge_refused OutOfMemory j.position asked calls same))
        | inr unread ↦
            subst (λ gs. AreLinesServed (state j.disk) j.state (merge asked gs) j.state) (sym unread)
            (lost_served (state j.disk) DeviceRead refl (inr refl) j.state (merge asked (refusals DeviceRead j.position calls)) (merge_refused DeviceRead j.position asked calls same))
      ])

  shut_refused : (j k : JournalState D) (asked : List (Option Ask)) (calls : List Call) (given : List Answer) → asks_of calls ≡ asks_in asked → IsShut j k calls given
      → AreLinesRefused OutOfMemory (merge asked given) ⊎ AreLinesRefused DeviceRead (merge asked given)
  shut_refused j k asked calls given same shut = elim shut.1 [
    | inl memory ↦ inl (subst (λ gs. AreLinesRefused OutOfMemory (merge asked gs)) (sym memory) (merge_refused OutOfMemory j.position asked calls same))
    | inr unread ↦ inr (subst (λ gs. AreLinesRefused DeviceRead (merge asked gs)) (sym unread) (merge_refused DeviceRead j.position asked calls same))
  ]

  -- its journal isn't broken
  shut_runs : (j k : JournalState D) (calls : List Call) (given : List Answer) → IsRound state j k calls given → IsShut j k calls given → j.broken ≡ false
  shut_runs j k calls given round shut =
      elim round [
        | inl rejected ↦ elim shut.1 [
          | inl memory ↦ absurd (one_refusal Broken OutOfMemory (λ same. cc) j.position j.position calls shut.0.due.0 (sym rejected.1 ∙ memory))
          | inr unread ↦ absurd (one_refusal Broken DeviceRead (λ same. cc) j.position j.position calls shut.0.due.0 (sym rejected.1 ∙ unread))
        ]
        | inr others ↦ elim others [
          | inl stayed ↦ stayed.0
          | inr rest ↦ elim rest [
            | inl goes ↦ goes.0
            | inr breaks ↦ breaks.0
          ]
        ]
      ]

  -- ---- the replies to the lines of a round

  round_course : (j k : JournalState D) (asked : List (Option Ask)) (calls : List Call) (given : List Answer) → length (merge asked given) ≤ batch → asks_of calls ≡ asks_in asked
      → IsRound state j k calls given → PlayCourse batch state j k (merge asked given)
  round_course j k asked calls given few same round =
      elim round [
        | inl rejected ↦ inr (inr (record {
          broken = rejected.0;
          refused = subst (λ gs. AreLinesRefused Broken (merge asked gs)) (sym rejected.1) (merge_refused Broken j.position asked calls same);
          same = rejected.2;
        }))
        | inr others ↦ elim others [
          | inl shut ↦ inl (record {
            running = shut.0;
            goes = ap (λ (m : JournalState D). m.broken) shut.1.0.same ∙ shut.0;
            served = shut_served j k asked calls given same shut.1;
            calm = shut.2;
          })
          | inr rest ↦ elim rest [
            | inl goes ↦ inl (record {
              running = goes.0;
              goes = goes.1.broken;
              served = subst (λ t. AreLinesServed (state j.disk) j.state (merge asked given) t) (sym goes.1.served.state)
                  (merge_served (state j.disk) asked calls given 0 j.state same goes.1.served.count goes.1.served.legal goes.1.served.exact goes.1.served.only);
              calm = goes.2;
            })
            | inr breaks ↦ inr (inl (record {
              running = breaks.0;
              broken = breaks.1.broken;
              front = [];
              round = merge asked given;
              few = few;
              rest = [];
              parts = sym (append-nil (merge asked given));
              last = j.state;
              served = refl;
              unsure = subst (λ gs. AreLinesRefused Unsure (merge asked gs)) (sym breaks.1.unsure) (merge_refused Unsure j.position asked calls same);
              after = tt;
              rose = breaks.2;
            }))
          ]
        ]
      ]

  -- lines without an ask
  idle_served : (disk : DiskState) (s : ByteState) (asked : List (Option Ask)) → asks_in asked ≡ [] → AreLinesServed disk s (merge asked []) s
  idle_served disk s [] none = refl
  idle_served disk s (None ∷ asked) none = (refl, idle_served disk s asked none)
  idle_served disk s (Some ask ∷ asked) none = absurd (omega (arith, ap length none))

  idle_refused : (refusal : Refusal) (asked : List (Option Ask)) → asks_in asked ≡ [] → AreLinesRefused refusal (merge asked [])
  idle_refused refusal [] none = tt
  idle_refused refusal (None ∷ asked) none = (refl, idle_refused refusal asked none)
  idle_refused refusal (Some ask ∷ asked) none = absurd (omega (arith, ap length none))

  idle_course : (j : JournalState D) (asked : List (Option Ask)) → asks_in asked ≡ [] → PlayCourse batch state j j (merge asked [])
  idle_course j asked none =
      elim (by_flag j.broken) [
        | inl broken ↦ inr (inr (record { broken = broken; refused = idle_refused Broken asked none; same = refl }))
        | inr running ↦ inl (record { running = running; goes = running; served = idle_served (state j.disk) j.state asked none; calm = omega arith })
      ]

  answered_course : (j k : JournalState D) (asked : List (Option Ask)) (calls : List Call) (given : List Answer) → length (merge asked given) ≤ batch → asks_of calls ≡ asks_in asked
      → IsAnsweredBy state j k calls given → PlayCourse batch state j k (merge asked given)
  answered_course j k asked calls given few same answered =
      elim answered [
        | inl idle ↦
            let none : asks_in asked ≡ [] = sym same ∙ ap asks_of idle.0 in
            subst (λ gs. PlayCourse batch state j k (merge asked gs)) (sym idle.1) (subst (λ m. PlayCourse batch state j m (merge asked [])) (sym idle.2) (idle_course j asked none))
        | inr round ↦ round_course j k asked calls given few same round.0
      ]

  -- ---- which lines of it are lost

  answered_wanted : (j k : JournalState D) (asked : List (Option Ask)) (calls : List Call) (given : List Answer) → asks_of calls ≡ asks_in asked → length given ≡ length calls
      → IsAnsweredBy state j k calls given → AreLinesLostWhereWanted j.state (merge asked given) ⊎ AreLostForHead state j.disk j.state (merge asked given)
  answered_wanted j k asked calls given same count answered =
      elim answered [
        | inl idle ↦
            let none : asks_in asked ≡ [] = sym same ∙ ap asks_of idle.0 in
            inl (subst (λ gs. AreLinesLostWhereWanted j.state (merge asked gs)) (sym idle.1) (broken_wanted j.state (merge asked []) (idle_refused Broken asked none)))
        | inr round ↦ elim round.1.wanted [
          | inl wanted ↦ inl (merge_wanted asked calls given j.state same count wanted)
          | inr shut ↦
              let running = shut_runs j k calls given round.0 shut in
              inr (record {
                command = merge_commands asked calls given same count ∙ shut.0.due.0;
                refused = shut_refused j k asked calls given same shut;
                journal = j;
                running = running;
                disk_is = refl;
                state_is = refl;
                full = shut.0.due.1;
                durable = λ honest. round.1.durable honest running;
              })
        ]
      ]

  answered_unread : (j k : JournalState D) (asked : List (Option Ask)) (calls : List Call) (given : List Answer) → asks_of calls ≡ asks_in asked → length given ≡ length calls
      → IsAnsweredBy state j k calls given → AreUnreadOnlyWhere (HasFailedRead (state j.disk) (state k.disk)) (merge asked given)
  answered_unread j k asked calls given same count answered =
      elim answered [
        | inl idle ↦
            let none : asks_in asked ≡ [] = sym same ∙ ap asks_of idle.0 in
            subst (λ gs. AreUnreadOnlyWhere (HasFailedRead (state j.disk) (state k.disk)) (merge asked gs)) (sym idle.1)
            (broken_unread (HasFailedRead (state j.disk) (state k.disk)) (merge asked []) (idle_refused Broken asked none))
        | inr round ↦ merge_unread (HasFailedRead (state j.disk) (state k.disk)) asked calls given same count round.1.unread
      ]

  answered_lost : (j k : JournalState D) (asked : List (Option Ask)) (calls : List Call) (given : List Answer) → length (merge asked given) ≤ batch → asks_of calls ≡ asks_in asked
      → length given ≡ length calls → IsAnsweredBy state j k calls given → Later (state j.disk) (state k.disk) → IsLostInRounds batch state j k (merge asked given)
  answered_lost j k asked calls given few same count answered later = record {
    rounds = merge asked given ∷ [];
    lines = sym (append-nil (merge asked given));
    few = (few, tt);
    lossy = (
      k.disk,
      record {
        wanted = answered_wanted j k asked calls given same count answered;
        unread = answered_unread j k asked calls given same count answered;
        later = later;
      },
      refl,
    );
  }

  shut_count : (j k : JournalState D) (calls : List Call) (given : List Answer) → IsShut j k calls given → length given ≡ length calls
  shut_count j k calls given shut = elim shut.1 [
    | inl memory ↦ ap length memory ∙ length-map calls (refusal_of OutOfMemory j.position)
    | inr unread ↦ ap length unread ∙ length-map calls (refusal_of DeviceRead j.position)
  ]

  answered_count : (j k : JournalState D) (calls : List Call) (given : List Answer) → IsAnsweredBy state j k calls given → length given ≡ length calls
  answered_count j k calls given answered =
      elim answered [
        | inl idle ↦ ap length idle.1 ∙ sym (ap length idle.0)
        | inr round ↦ elim round.0 [
          | inl rejected ↦ ap length rejected.1 ∙ length-map calls (refusal_of Broken j.position)
          | inr others ↦ elim others [
            | inl shut ↦ shut_count j k calls given shut.1
            | inr rest ↦ elim rest [
              | inl goes ↦ goes.1.served.count
              | inr breaks ↦ ap length breaks.1.unsure ∙ length-map calls (refusal_of Unsure j.position)
            ]
          ]
        ]
      ]

  -- the lines that were read for a round were played
  pub plays_round : (j k : JournalState D) (front : List (List ℕ)) (slots : List (Option Subject)) (calls : List Call) (given : List Answer)
      → length slots ≤ batch → slots ≡ map subject_in (map ask_in_line front) → asks_of calls ≡ asks_in (map ask_in_line front) → IsAnsweredBy state j k calls given
      → Later (state j.disk) (state k.disk) → Plays batch state j k front (round_text slots given)
  plays_round j k front slots calls given lines slot same answered later =
      let asked = map ask_in_line front in
      let as_many : length (merge asked given) ≡ length slots =
      sym (length-map (merge asked given) (λ one. one.0)) ∙ ap length (merge_asked asked given) ∙ sym (length-map asked subject_in) ∙ ap length (sym slot) in
      let count : length given ≡ length (asks_in asked) = answered_count j k calls given answered ∙ sym (length-map calls (λ call. call.ask)) ∙ ap length same in
      plays_of batch state j k front (round_text slots given) (merge asked given) (merge_asked asked given)
      (ap (λ ss. round_text ss given) slot ∙ merge_text asked given count)
      (answered_course j k asked calls given (omega (arith, as_many, lines)) same answered)
      (answered_lost j k asked calls given (omega (arith, as_many, lines)) same (answered_count j k calls given answered) answered later) later
