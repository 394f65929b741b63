-- The width in bytes of each field of a head, by its form (docs/FORMATS.md, "Heads"). A field of no bytes is read as 0.
use Rattle.std.specs.Prelude.{ℕ, ◌+◌, ◌*◌, ◌^◌}
use Rattle.rly_segment_checkpoint.specs.declared.head_form.HeadForm.{HeadForm}
use Rattle.rly_segment_checkpoint.specs.declared.head_form.HeadForm.TheVariants.{First, Second}

-- a time of a hop, and an item's stamp
abbrev pub moment_width : HeadForm → ℕ
moment_width First = 8
moment_width Second = 7

-- a count of a hop, and an item's id
abbrev pub count_width : HeadForm → ℕ
count_width First = 8
count_width Second = 6

-- the number of expired datagrams of a hop
abbrev pub expired_width : HeadForm → ℕ
expired_width First = 0
expired_width Second = 6

-- an item's limit
abbrev pub limit_width : HeadForm → ℕ
limit_width First = 0
limit_width Second = 5

-- the device address of a payload
abbrev pub place_width : HeadForm → ℕ
place_width First = 8
place_width Second = 5

-- the flag added to the length of a head's body
abbrev pub mark_of : HeadForm → ℕ
mark_of First = 0
mark_of Second = 2 ^ 31

-- a hop without its entries, and an entry before an inline payload: 71 and 19 bytes in the first form, 64 and 21 in the
-- second
abbrev pub hop_width : HeadForm → ℕ
hop_width which = 3 * moment_width which + 5 * count_width which + expired_width which + 7

abbrev pub entry_width : HeadForm → ℕ
entry_width which = count_width which + moment_width which + limit_width which + 3
