-- Groups: a body of bytes after one gate, with a closed gate after it.
use Rattle.std.specs.Prelude.{◌≡◌, ◌≢◌, ◌⊎◌, ◌-◌, ℕ, List, [], ◌∷◌, ◌++◌, length, take, drop, slice_index}
use Rattle.byteorder.specs.Endian.{big_bytes}
use Rattle.rly_disk.specs.DiskModel.{SameOutside}

-- the byte of an open gate
abbrev pub open_gate : ℕ
open_gate = 0xa5

-- the gate at an offset is open
abbrev pub IsOpen : List ℕ → ℕ → Type 0
IsOpen image at = slice_index image at ≡ open_gate

-- every other byte is a closed gate
abbrev pub IsClosed : List ℕ → ℕ → Type 0
IsClosed image at = slice_index image at ≢ open_gate

-- the bytes after the gate of a group: the body's length in 4 bytes, the body, and a closed gate
abbrev pub frame_of : List ℕ → List ℕ
frame_of body = big_bytes 4 (length body) ++ body ++ 0 ∷ []

-- a whole group
abbrev pub group_of : List ℕ → List ℕ
group_of body = open_gate ∷ frame_of body

-- the body in a frame whose length and last gate aren't written yet
abbrev pub body_in : List ℕ → List ℕ
body_in frame = take (length frame - 5) (drop 4 frame)

-- an image has these bytes at an offset
abbrev pub StandsAt : List ℕ → ℕ → List ℕ → Type 0
StandsAt image at bytes = take (length bytes) (drop at image) ≡ bytes

-- the images that a crash within an append may leave: all other bytes unchanged, and the gate closed or the whole group
-- after it
pub record IsAppended (at : ℕ) (body old image : List ℕ) : Type 0 where
  pub outside : SameOutside at (length (group_of body)) old image
  pub whole : IsClosed image at ⊎ StandsAt image at (group_of body)
