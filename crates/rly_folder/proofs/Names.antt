-- Names that are the same.
use Rattle.std.proofs.Common.{ap, arith, if◌then◌else◌, refl, sym, true, ℕ, ◌∙◌, ◌≡◌}
use Rattle.std.proofs.lemmas.Bool.Decides.{nat_tests}
use Rattle.std.specs.Prelude.{◌==◌}
use Rattle.rly_folder.specs.Names.{area_number, is_same_name, name_of}
use Rattle.rly_folder.specs.declared.name.Area.{Area}
use Rattle.rly_folder.specs.declared.name.Area.TheVariants.{Kept, New, NoRoute, Out, Printed, Sent, TooLong, TooShort}
use Rattle.rly_folder.specs.declared.name.Name.{Name}

abbrev area_at : ℕ → Area
area_at n = if n == 0 then New else if n == 1 then Sent else if n == 2 then NoRoute else if n == 3 then TooLong else
    if n == 4 then TooShort else if n == 5 then Out else if n == 6 then Kept else Printed

area_back : (area : Area) → area_at (area_number area) ≡ area
area_back New = refl
area_back Sent = refl
area_back NoRoute = refl
area_back TooLong = refl
area_back TooShort = refl
area_back Out = refl
area_back Kept = refl
area_back Printed = refl

same_area : (one other : Area) → area_number one ≡ area_number other → one ≡ other
same_area one other is = sym (area_back one) ∙ ap area_at is ∙ area_back other

same_parts : (one other : Name) → is_same_name one other ≡ true → (area_number one.area ≡ area_number other.area) × (one.number ≡ other.number)
same_parts one other same = grind (arith, nat_tests)

pub same_name : (one other : Name) → is_same_name one other ≡ true → one ≡ other
same_name one other same = let parts = same_parts one other same in let area = same_area one.area other.area parts.0 in
    let whole : name_of one.area one.number ≡ name_of other.area other.number = cc in whole

pub same_self : (name : Name) → is_same_name name name ≡ true
same_self name = grind (arith, nat_tests)
