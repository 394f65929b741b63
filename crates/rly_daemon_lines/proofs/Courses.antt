-- How the courses of two plays make up that of both.
use Rattle.std.proofs.Common.{◌≡◌, ◌⊎◌, ℕ, List, [], ◌++◌, map, Bool, true, false, true≢false, refl, sym, ◌∙◌, ap, subst, arith, append_assoc, inl, inr}
use Rattle.std.proofs.lemmas.List.{map-append}
use Rattle.rly_core.specs.declared.refusal.Refusal.TheVariants.{Broken}
use Rattle.rly_disk.specs.DiskModel.{DiskState, HasFailed, Later}
use Rattle.rly_disk.proofs.Composition.{later_again, rose_earlier, rose_later}
use Rattle.rly_journal.specs.Journal.{JournalState}
use Rattle.rly_daemon_lines.specs.Grammar.{ask_in_line}
use Rattle.rly_daemon_lines.specs.PlayedText.{AreLinesRefused, AreLossyRounds, AreMachineLines, AreUnreadOnlyWhere, IsLostInRounds, NoneStarved, PlayCourse, PlayGoesOn, Plays, ServedLine, lines_in, served_text, state_behind_all}
use Rattle.rly_daemon_lines.proofs.Losing.{failed_by_read, few_append, later_same, lines_append, none_unread, rounds_append, rounds_broken}
use Rattle.rly_daemon_lines.proofs.LineAnswers.{machine_lines, refused_append, served_append, served_behind, served_on, text_append, text_exact}

pub by_flag : (broken : Bool) → (broken ≡ true) ⊎ (broken ≡ false)
by_flag true = inl refl
by_flag false = inr refl

module _ {D : Type 0} (batch : ℕ) (state : D → DiskState) where
  -- if no call failed, no line was answered that a read did
  all_read : (old new : JournalState D) (told : List ServedLine) → PlayGoesOn state old new told → IsLostInRounds batch state old new told
      → (HasFailed (state old.disk) (state new.disk) → ⊥) → AreUnreadOnlyWhere ⊥ told
  all_read old new told goes lost calm =
      subst (AreUnreadOnlyWhere ⊥) (sym lost.lines)
      (none_unread state old.disk new.disk old.state lost.rounds lost.lossy (λ rose. calm (failed_by_read (state old.disk) (state new.disk) goes.calm rose)))

  -- and the machine answered all lines
  all_right : (old new : JournalState D) (told : List ServedLine) → PlayCourse batch state old new told → IsLostInRounds batch state old new told → old.broken ≡ false
      → (HasFailed (state old.disk) (state new.disk) → ⊥) → NoneStarved told → AreMachineLines (state old.disk) old.state told
  all_right old new told course lost running calm fed = elim course [
    | inl goes ↦ machine_lines (state old.disk) old.state new.state told goes.served fed (all_read old new told goes lost calm)
    | inr others ↦ elim others [
      | inl breaks ↦ absurd (calm breaks.rose)
      | inr rejects ↦ absurd (true≢false (sym rejects.broken ∙ running))
    ]
  ]

  pub plays_of : (old new : JournalState D) (lines : List (List ℕ)) (text : List ℕ) (told : List ServedLine) → map (λ one. one.0) told ≡ map ask_in_line lines
      → text ≡ served_text told → PlayCourse batch state old new told → IsLostInRounds batch state old new told → Later (state old.disk) (state new.disk)
      → Plays batch state old new lines text
  plays_of old new lines text told asked written course lost later = record {
    told = told;
    asked = asked;
    written = written;
    course = course;
    lost = lost;
    later = later;
    right = all_right old new told course lost;
    exact = λ honest running calm fed.
        written ∙ text_exact (state old.disk) honest old.state lines told asked (all_right old new told course lost running calm fed);
  }

  pub plays_none : (j : JournalState D) → Plays batch state j j [] []
  plays_none j = plays_of j j [] [] [] refl refl
      (elim (by_flag j.broken) [
        | inl broken ↦ inr (inr (record { broken = broken; refused = tt; same = refl }))
        | inr running ↦ inl (record { running = running; goes = running; served = refl; calm = omega arith })
      ])
      (record { rounds = []; lines = refl; few = tt; lossy = refl })
      (later_same (state j.disk))

  course_append : (i j k : JournalState D) (xs ys : List ServedLine) → Later (state i.disk) (state j.disk) → Later (state j.disk) (state k.disk)
      → PlayCourse batch state i j xs → PlayCourse batch state j k ys → PlayCourse batch state i k (xs ++ ys)
  course_append i j k xs ys before after h c =
      elim h [
        | inl goes ↦ elim c [
          | inl more ↦ inl (record {
            running = goes.running;
            goes = more.goes;
            served = served_append (state i.disk) i.state j.state k.state xs ys goes.served
                (served_on (state j.disk) (state i.disk) before.honest.1 j.state k.state ys more.served);
            calm = omega (arith, goes.calm, more.calm);
          })
          | inr others ↦ elim others [
            | inl breaks ↦ inr (inl (record {
              running = goes.running;
              broken = breaks.broken;
              front = xs ++ breaks.front;
              round = breaks.round;
              few = breaks.few;
              rest = breaks.rest;
              parts = ap (λ l. xs ++ l) breaks.parts ∙ sym (append_assoc xs breaks.front (breaks.round ++ breaks.rest));
              last = breaks.last;
              served = served_append (state i.disk) i.state j.state breaks.last xs breaks.front goes.served
                  (served_on (state j.disk) (state i.disk) before.honest.1 j.state breaks.last breaks.front breaks.served);
              unsure = breaks.unsure;
              after = breaks.after;
              rose = rose_earlier (state k.disk) before breaks.rose;
            }))
            | inr rejects ↦ absurd (true≢false (sym rejects.broken ∙ goes.goes))
          ]
        ]
        | inr others ↦ elim others [
          | inl breaks ↦ elim c [
            | inl more ↦ absurd (true≢false (sym breaks.broken ∙ more.running))
            | inr behind ↦ elim behind [
              | inl more ↦ absurd (true≢false (sym breaks.broken ∙ more.running))
              | inr rejects ↦ inr (inl (record {
                running = breaks.running;
                broken = ap (λ m. m.broken) rejects.same ∙ breaks.broken;
                front = breaks.front;
                round = breaks.round;
                few = breaks.few;
                rest = breaks.rest ++ ys;
                parts = ap (λ l. l ++ ys) breaks.parts ∙ append_assoc breaks.front (breaks.round ++ breaks.rest) ys
                    ∙ ap (λ l. breaks.front ++ l) (append_assoc breaks.round breaks.rest ys);
                last = breaks.last;
                served = breaks.served;
                unsure = breaks.unsure;
                after = refused_append Broken breaks.rest ys breaks.after rejects.refused;
                rose = rose_later (state i.disk) breaks.rose after;
              }))
            ]
          ]
          | inr first ↦ elim c [
            | inl more ↦ absurd (true≢false (sym first.broken ∙ ap (λ m. m.broken) (sym first.same) ∙ more.running))
            | inr behind ↦ elim behind [
              | inl more ↦ absurd (true≢false (sym first.broken ∙ ap (λ m. m.broken) (sym first.same) ∙ more.running))
              | inr rejects ↦ inr (inr (record {
                broken = first.broken;
                refused = refused_append Broken xs ys first.refused rejects.refused;
                same = rejects.same ∙ first.same;
              }))
            ]
          ]
        ]
      ]

  -- a broken journal refuses all lines
  broken_course : (j k : JournalState D) (ys : List ServedLine) → j.broken ≡ true → PlayCourse batch state j k ys → AreLinesRefused Broken ys
  broken_course j k ys broken c =
      elim c [
        | inl goes ↦ absurd (true≢false (sym broken ∙ goes.running))
        | inr others ↦ elim others [
          | inl breaks ↦ absurd (true≢false (sym broken ∙ breaks.running))
          | inr rejects ↦ rejects.refused
        ]
      ]

  lost_append : (i j k : JournalState D) (xs ys : List ServedLine) → PlayCourse batch state i j xs → PlayCourse batch state j k ys
      → IsLostInRounds batch state i j xs → IsLostInRounds batch state j k ys → IsLostInRounds batch state i k (xs ++ ys)
  lost_append i j k xs ys c d h m = record {
    rounds = h.rounds ++ m.rounds;
    lines = ap (λ l. l ++ ys) h.lines ∙ ap (λ l. lines_in h.rounds ++ l) m.lines ∙ sym (lines_append h.rounds m.rounds);
    few = few_append batch h.rounds m.rounds h.few m.few;
    lossy = rounds_append state i.disk j.disk k.disk i.state h.rounds m.rounds h.lossy behind;
  }
    where
      between : Type 0
      between = AreLossyRounds state j.disk k.disk (state_behind_all i.state (lines_in h.rounds)) m.rounds

      by_broken : j.broken ≡ true → between
      by_broken broken = rounds_broken state j.disk k.disk j.state (state_behind_all i.state (lines_in h.rounds)) m.rounds
          (subst (AreLinesRefused Broken) m.lines (broken_course j k ys broken d)) m.lossy

      behind : between
      behind = elim c [
        | inl goes ↦
            subst (λ s. AreLossyRounds state j.disk k.disk s m.rounds)
            (served_behind (state i.disk) i.state j.state xs goes.served ∙ ap (state_behind_all i.state) h.lines) m.lossy
        | inr others ↦ elim others [
          | inl breaks ↦ by_broken breaks.broken
          | inr rejects ↦ by_broken (ap (λ v. v.broken) rejects.same ∙ rejects.broken)
        ]
      ]

  pub plays_append : (i j k : JournalState D) (ls ms : List (List ℕ)) (t u : List ℕ) → Plays batch state i j ls t → Plays batch state j k ms u → Plays batch state i k (ls ++ ms) (t ++ u)
  plays_append i j k ls ms t u h m =
      plays_of i k (ls ++ ms) (t ++ u) (h.told ++ m.told)
      (map-append (λ one. one.0) h.told m.told ∙ ap (λ l. l ++ map (λ one. one.0) m.told) h.asked ∙ ap (λ l. map ask_in_line ls ++ l) m.asked ∙ sym (map-append ask_in_line ls ms))
      (ap (λ l. l ++ u) h.written ∙ ap (λ l. served_text h.told ++ l) m.written ∙ sym (text_append h.told m.told))
      (course_append i j k h.told m.told h.later m.later h.course m.course)
      (lost_append i j k h.told m.told h.course m.course h.lost m.lost)
      (later_again h.later m.later)
