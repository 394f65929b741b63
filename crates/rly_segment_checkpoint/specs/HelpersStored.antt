-- Helpers: parsers of a payload, inline or by device address, after its length. No public contract cites them.
use Rattle.std.specs.Prelude.{ℕ, ◌==◌, if◌then◌else◌, [], ◌∷◌, Some, None}
use Rattle.rly_record.specs.HelpersReader.{◌>>=◌, Reader, field_at}
use Rattle.rly_segment_checkpoint.specs.HelpersReader.{inline_at}
use Rattle.rly_segment_checkpoint.specs.Widths.{place_width}
use Rattle.rly_segment_checkpoint.specs.declared.head_form.HeadForm.{HeadForm}
use Rattle.rly_segment_checkpoint.specs.declared.stored.Stored.{Stored}
use Rattle.rly_segment_checkpoint.specs.declared.stored.Stored.TheVariants.{Inline, Placed}

-- an inline payload
unfoldable pub inlined_at : ℕ → Reader Stored
inlined_at size bytes = do
  payload ← inline_at size bytes
  Some (Inline payload.0, payload.1)

-- the device address of a payload that has bytes, after the byte 1
unfoldable pub placed_at : HeadForm → ℕ → Reader Stored
placed_at which size bytes =
    if size == 0 then None else do
      start ← field_at (place_width which) bytes
      Some (Placed (record { start = start.0; length = size }), start.1)

-- either, by the byte of its form
unfoldable pub stored_at : HeadForm → ℕ → Reader Stored
stored_at which size [] = None
stored_at which size (form ∷ bytes) =
    if form == 1 then placed_at which size bytes else inlined_at size (form ∷ bytes)
