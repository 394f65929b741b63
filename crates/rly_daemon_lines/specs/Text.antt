-- The text written for an input, from a state: a reply line for each line.
use Rattle.std.specs.Prelude.{ℕ, List, [], ◌∷◌, ◌++◌, Option, Some, None}
use Rattle.rly_core.specs.Refusals.{refusal_line}
use Rattle.rly_core.specs.declared.refusal.Refusal.TheVariants.{Line}
use Rattle.rly_machine.specs.State.{State}
use Rattle.rly_machine.specs.Ask.{ask_step}
use Rattle.rly_machine.specs.declared.command.Ask.{Ask}
use Rattle.rly_daemon_reply.specs.declared.fault.StreamFault.{StreamFault}
use Rattle.rly_daemon_reply.specs.declared.fault.StreamFault.TheVariants as stream
use Rattle.rly_daemon_lines.specs.declared.text_fault.TextFault.{TextFault}
use Rattle.rly_daemon_lines.specs.declared.text_fault.TextFault.TheVariants as fault
use Rattle.rly_daemon_lines.specs.Grammar.{ask_in_line}
use Rattle.rly_daemon_lines.specs.Lines.{lines_of}
use Rattle.rly_daemon_reply.specs.Replies.{subject_of, reply_text}

-- the state of a spool whose payloads are bytes
abbrev pub ByteState : Type 0
ByteState = State (List ℕ)

-- the state after the ask of a line, and its reply line; a line without an ask is refused
abbrev pub ask_answer : ByteState → Option Ask → ByteState × List ℕ
ask_answer s None = (s, refusal_line Line)
ask_answer s (Some ask) = ((ask_step s ask).0, reply_text (subject_of ask) (ask_step s ask).1)

-- the state after a line, and its reply line
abbrev pub answer_of : ByteState → List ℕ → ByteState × List ℕ
answer_of s line = ask_answer s (ask_in_line line)

-- a reply line for each line, with a newline
abbrev pub replies_from : ByteState → List (List ℕ) → List ℕ
replies_from s [] = []
replies_from s (line ∷ lines) = (answer_of s line).1 ++ 10 ∷ replies_from (answer_of s line).0 lines

-- the text for an input
abbrev pub text_for : ByteState → List ℕ → List ℕ
text_for s input = replies_from s (lines_of input)

-- the error of a command for a failed stream
abbrev pub stream_fault : StreamFault → TextFault
stream_fault stream.Input = fault.Input
stream_fault stream.Output = fault.Output
