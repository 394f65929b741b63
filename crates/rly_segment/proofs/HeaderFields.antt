-- A header as bytes, and its geometry.
use Rattle.rly_segment.proofs.Common.{[], ◌+◌, ◌<◌, ◌^◌, ◌∙◌, ◌≡◌, ◌≤◌, ap, append-nil, arith, big_bytes, big_number, device_text, drop, Geometry, geometry_in}
use Rattle.rly_segment.proofs.Common.{get_or, header_of, IsDevice, IsIn, IsLayout, IsOpen, leb, leb-true, length, List, number_in, Params, places, refl, rules}
use Rattle.rly_segment.proofs.Common.{StandsAt, sym, take, true, version_in, ℕ}
use Rattle.byteorder.specs.Numbers.{big_number-reads_back}
use Rattle.rly_segment.proofs.BytesAtPlace.{part_of_front}

pub length-header : (g : Geometry) → length (header_of g) ≡ 52
unfolding header_of
length-header g = refl

-- the bytes after the gate are the header of a geometry
module _ (g : Geometry) (image : List ℕ) (stands : StandsAt image 1 (header_of g)) where
  field : (k w : ℕ) → k + w ≤ 52 → take w (drop (1 + k) image) ≡ take w (drop k (header_of g))
  field k w within = sym (part_of_front image (header_of g) 1 (length (header_of g)) k w (sym stands) (omega (arith, length-header g)))

  -- a number
  number_read : (k w n : ℕ) → leb (k + w) 52 ≡ true → take w (drop k (header_of g)) ≡ big_bytes w n → n < 256 ^ w → number_in image (1 + k) w ≡ n
  number_read k w n within there fits =
      ap (big_number w) (field k w (leb-true _ _ within) ∙ there ∙ sym (append-nil (big_bytes w n))) ∙ big_number-reads_back w n [] fits

  -- the magic text, the version, which has a field for the payload limit, and the geometry
  pub header_read : {size : ℕ} → IsLayout g size → StandsAt image 1 device_text × (version_in image ≡ 2) × (geometry_in image ≡ g)
  unfolding header_of geometry_in
  header_read geometry =
      let p : Params = g.params in
      let version : version_in image ≡ 2 = number_read 8 2 2 refl refl (omega arith) in
      let named : geometry_in image ≡ g =
      rw (number_read 10 2 p.hops refl refl (omega arith), number_read 12 2 p.peers refl refl (omega arith), number_read 14 2 p.window refl refl (omega arith))
      (rw (number_read 16 2 g.segments refl refl (omega arith), number_read 18 4 g.length refl refl (omega arith))
      (rw (number_read 22 4 p.items refl refl (omega arith), number_read 26 4 p.bytes refl refl (omega arith))
      (rw (number_read 30 4 p.maxpacket refl refl (omega arith), number_read 34 8 p.target refl refl (omega arith))
      (rw (number_read 42 8 p.interval refl refl (omega arith), version, number_read 50 2 p.payload refl refl (omega arith)))))) in
      (field 0 8 (omega arith), version, named)

-- ---- the first bytes of a device, as they were read

module _ (image front : List ℕ) (at n : ℕ) (is : front ≡ take n (drop at image)) where
  -- the gate
  pub gate_at_front : 0 < n → get_or front 0 0 ≡ get_or image at 0
  gate_at_front some = rw is (search (rules, places))

  -- a number
  pub number_in_front : (place width : ℕ) → leb (place + width) n ≡ true → number_in front place width ≡ number_in image (at + place) width
  number_in_front place width within = ap (big_number width) (part_of_front image front at n place width is (leb-true _ _ within))

-- a device has an open gate, the text and a version, and the bytes that were read give its geometry
pub device_read : (image front : List ℕ) → front ≡ take 53 image → 64 ≤ length image
    → IsOpen front 0 × StandsAt front 1 device_text × IsIn 1 2 (version_in front) → IsDevice image × (geometry_in front ≡ geometry_in image)
unfolding geometry_in
device_read image front is long found =
    let gate = sym (gate_at_front image front 0 53 is (omega arith)) ∙ found.0 in
    let mark = sym (part_of_front image front 0 53 1 8 is (omega arith)) ∙ found.1 in
    let number = number_in_front image front 0 53 is in (search (gate, mark, rw (number 9 2 refl) at found.2), simp number)
