-- The first option of `sim` or `format` that is out of its limits (docs/COMMANDS.md, "rly sim", "rly format").
use Rattle.std.specs.Prelude.{ℕ, ◌-◌, nat_le, ◌&&◌, if◌then◌else◌, Option, ⊤, Result, Ok, Err, unwrap_or}
use Rattle.rly_core.specs.Bounds.{IsIn}
use Rattle.rly_core.specs.declared.params.Geometry.{Geometry}
use Rattle.rly_core.specs.declared.params.Params.{Params}
use Rattle.rly_reclaim.specs.Room.{least_length}
use Rattle.rly_daemon_commands.specs.declared.option_fault.OptionFault.{OptionFault}
use Rattle.rly_daemon_commands.specs.declared.option_fault.OptionName.{OptionName}
use Rattle.rly_daemon_commands.specs.declared.option_fault.OptionName.TheVariants as option

abbrev pub Checked : Type 0
Checked = Result ⊤ OptionFault

-- an option with a value from the least to the greatest, or the fault of one without
abbrev pub within : OptionName → ℕ → ℕ → ℕ → Checked
within name value least most = if nat_le least value && nat_le value most then Ok tt
    else Err (record { option = name; value = value; least = least; most = most })

-- the first fault of two
infixr 10 ◌>>◌
abbrev pub ◌>>◌ : Checked → Checked → Checked
(Ok fine) >> next = next
(Err fault) >> next = Err fault

-- the sizes of a spool are within their limits
pub record AreSizes (p : Params) : Type 0 where
  pub hops : IsIn 1 64 p.hops
  pub peers : IsIn 1 64 p.peers
  pub window : IsIn 1 64 p.window
  pub items : IsIn 1 16384 p.items
  pub bytes : IsIn 1 16777216 p.bytes

abbrev pub sizes_fault : Params → Checked
sizes_fault p = within option.Hops p.hops 1 64 >> (within option.Peers p.peers 1 64
    >> (within option.Window p.window 1 64 >> (within option.Items p.items 1 16384
    >> within option.Bytes p.bytes 1 16777216)))

abbrev pub params_fault : Params → Checked
params_fault p = sizes_fault p >> (within option.Maxpacket p.maxpacket 0 65535
    >> (within option.Interval p.interval 1 3600000000 >> (within option.Target p.target 1 p.interval
    >> within option.Payload p.payload 1 8192)))

-- the least length of segments for these options
abbrev pub least_for : Params → ℕ → ℕ
least_for p segments = least_length (record { params = p; segments = segments; length = 0 })

abbrev pub format_fault : Params → ℕ → Option ℕ → Checked
format_fault p segments length = params_fault p >> (within option.Segments segments 2 256
    >> within option.Length (unwrap_or length (least_for p segments)) (least_for p segments) (2147483648 - 1))
