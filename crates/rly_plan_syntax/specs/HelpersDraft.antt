-- Helpers of private functions: the parts from which a hop and a contact are read.
use Rattle.std.specs.Prelude.{ℤ, pos, List, codes, Option, Some, option_and_then}
use Rattle.toml.specs.Data.{Data, as_integer, Members, get_member}
use Rattle.rly_core.specs.declared.limits.TheConstants.{DEFAULT_RESEND}
use Rattle.rly_plan_syntax.specs.declared.draft.ContactDraft.{ContactDraft}
use Rattle.rly_plan_syntax.specs.Draft.{contact_draft_of, items_at, number_or, optional_number}

infixl 10 ◌>>=◌
abbrev ◌>>=◌ : {A B : Type 0} → Option A → (A → Option B) → Option B
o >>= f = option_and_then f o

abbrev pub contact_between : Data → Data → Option ContactDraft
contact_between begin end = do
  b ← as_integer begin
  e ← as_integer end
  Some (record { begin = b; end = e })

-- the fields of a [[hop]] table apart from its neighbour
abbrev pub LinkText : Type 0
LinkText = ℤ × Option ℤ × ℤ × List ContactDraft

abbrev pub link_text : ℤ → Option ℤ → ℤ → List ContactDraft → LinkText
link_text resend rate lead contacts = (resend, rate, lead, contacts)

abbrev pub link_in : Members → Option LinkText
link_in ms = do
  resend ← number_or (pos DEFAULT_RESEND) (get_member (codes "resend") ms)
  rate ← optional_number (get_member (codes "rate") ms)
  lead ← number_or (pos 0) (get_member (codes "lead") ms)
  contacts ← items_at contact_draft_of (get_member (codes "contacts") ms)
  Some (link_text resend rate lead contacts)
