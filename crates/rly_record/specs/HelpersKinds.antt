-- Helpers: the kinds of record, for the functions that write and read one kind. No public contract cites them.
use Rattle.std.specs.Prelude.{ℕ}
use Rattle.rly_record.specs.declared.kind.Kind.{Kind}
use Rattle.rly_record.specs.declared.kind.Kind.TheVariants.{Take, Pick, Release, LimitedTake}

-- the byte of a kind of record
abbrev pub record_kind_byte : Kind → ℕ
record_kind_byte Take = 1
record_kind_byte Pick = 2
record_kind_byte Release = 3
record_kind_byte LimitedTake = 5
