-- The line of a reply, without its newline (docs/COMMANDS.md, "Replies").
use Rattle.std.specs.Prelude.{ℕ, nat_lt, if◌then◌else◌, List, [], ◌∷◌, ◌++◌, Bool, true, false, codes}
use Rattle.std.specs.Fmt.{decimal}
use Rattle.std.specs.List.{flat_map}
use Rattle.hex.specs.Hex.{encode_lower}
use Rattle.rly_core.specs.Refusals.{refusal_line}
use Rattle.rly_core.specs.declared.ids.HopId.{HopId}
use Rattle.rly_machine.specs.declared.command.Ask.{Ask}
use Rattle.rly_machine.specs.declared.command.Ask.TheVariants as ask
use Rattle.rly_machine.specs.declared.command.Command.TheVariants.{Take, Pick, Release}
use Rattle.rly_machine.specs.declared.command.Query.TheVariants.{Fetch, Window, Show}
use Rattle.rly_codel.specs.declared.state.CodelState.{CodelState}
use Rattle.rly_machine.specs.declared.reply.HopStatus.{HopStatus}
use Rattle.rly_machine.specs.declared.reply.Reply.{Reply}
use Rattle.rly_machine.specs.declared.reply.Reply.TheVariants.{Taken, Already, Picked, Nothing, Released, Unchanged}
use Rattle.rly_machine.specs.declared.reply.Reply.TheVariants.{Bytes, WindowIs, Shown, Refused}
use Rattle.rly_daemon_reply.specs.Counts.{counts_text, expired_text}
use Rattle.rly_daemon_reply.specs.declared.reply_line.Subject.{Subject}

-- the parts of an ask that its reply repeats
abbrev pub subject_of : Ask → Subject
subject_of (ask.Command (Take peer number hop stamp limit payload)) = record { peer = peer; hop = hop; number = number }
subject_of (ask.Command (Pick hop now)) = record { peer = record { 0 = 0 }; hop = hop; number = 0 }
subject_of (ask.Command (Release hop number)) = record { peer = record { 0 = 0 }; hop = hop; number = number }
subject_of (ask.Query (Fetch hop number)) = record { peer = record { 0 = 0 }; hop = hop; number = number }
subject_of (ask.Query (Window hop)) = record { peer = record { 0 = 0 }; hop = hop; number = 0 }
subject_of (ask.Query (Show hop)) = record { peer = record { 0 = 0 }; hop = hop; number = 0 }

abbrev pub yes_or_no : Bool → List ℕ
yes_or_no true = codes "yes"
yes_or_no false = codes "no"

-- CoDel's state of a hop
unfoldable pub discards_text : CodelState → List ℕ
discards_text c =
    codes " first " ++ decimal c.first_above_time
    ++ codes " next " ++ decimal c.drop_next
    ++ codes " count " ++ decimal c.count
    ++ codes " last " ++ decimal c.lastcount
    ++ codes " dropping " ++ yes_or_no c.dropping

-- all numbers of a hop, ending with the number of expired datagrams, if there are any
abbrev pub status_text : HopId → HopStatus → List ℕ
status_text hop s = codes "hop " ++ decimal hop.0 ++ counts_text s ++ discards_text s.codel
    ++ codes " moment " ++ decimal s.moment ++ expired_text s.expired

-- ids, each after a space
unfoldable pub ids_text : List ℕ → List ℕ
ids_text ids = flat_map (λ id. 32 ∷ decimal id) ids

-- ids after a word, if there are any
unfoldable pub listed_text : List ℕ → List ℕ → List ℕ
listed_text word [] = []
listed_text word (id ∷ ids) = 32 ∷ word ++ ids_text (id ∷ ids)

-- the bytes of a payload in lower case, or a dash if there are none
unfoldable pub payload_text : List ℕ → List ℕ
payload_text [] = codes "-"
payload_text (byte ∷ bytes) = encode_lower (byte ∷ bytes)

-- a limit, if there is one
unfoldable pub limit_text : ℕ → List ℕ
limit_text limit = if nat_lt 0 limit then 32 ∷ decimal limit else []

-- the line of a reply to an ask with that subject
abbrev pub reply_text : Subject → Reply → List ℕ
reply_text subject (Taken id) = codes "taken " ++ decimal subject.peer.0 ++ 32 ∷ decimal id
reply_text subject (Already last) = codes "already " ++ decimal subject.peer.0 ++ 32 ∷ decimal last
reply_text subject (Picked number id expired dropped) =
    codes "picked " ++ decimal subject.hop.0 ++ 32 ∷ decimal number ++ 32 ∷ decimal id
    ++ listed_text (codes "expired") expired ++ listed_text (codes "dropped") dropped
reply_text subject (Nothing expired) =
    codes "nothing " ++ decimal subject.hop.0 ++ listed_text (codes "expired") expired
reply_text subject (Released count) = codes "released " ++ decimal subject.hop.0 ++ 32 ∷ decimal count
reply_text subject Unchanged = codes "unchanged " ++ decimal subject.hop.0
reply_text subject (Bytes payload limit) =
    codes "bytes " ++ decimal subject.hop.0 ++ 32 ∷ decimal subject.number ++ 32 ∷ payload_text payload
    ++ limit_text limit
reply_text subject (WindowIs first next) =
    codes "window " ++ decimal subject.hop.0 ++ 32 ∷ decimal first ++ 32 ∷ decimal next
reply_text subject (Shown status) = status_text subject.hop status
reply_text subject (Refused refusal) = refusal_line refusal
