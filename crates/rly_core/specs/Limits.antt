-- The limits of a spool's parameters, and the default parameters.
use Rattle.rly_core.specs.Bounds.{IsIn}
use Rattle.rly_core.specs.declared.params.Params.{Params}

-- each parameter lies within its limits
pub record IsWithinLimits (p : Params) : Type 0 where
  pub hops : IsIn 1 64 p.hops
  pub peers : IsIn 1 64 p.peers
  pub window : IsIn 1 64 p.window
  pub items : IsIn 1 16384 p.items
  pub bytes : IsIn 1 16777216 p.bytes
  pub maxpacket : IsIn 0 65535 p.maxpacket
  pub interval : IsIn 1 3600000000 p.interval
  pub target : IsIn 1 p.interval p.target
  pub payload : IsIn 1 8192 p.payload

-- the default parameters
abbrev pub default_params : Params
default_params = record {
  hops = 4;
  peers = 4;
  window = 8;
  items = 1024;
  bytes = 1048576;
  maxpacket = 1500;
  target = 5000;
  interval = 100000;
  payload = 1200;
}
